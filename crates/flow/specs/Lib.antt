pub mod Cases
pub mod Graphs
pub mod Growths
pub mod Lowering
pub mod Within

pub mod Devices
pub mod Endings
pub mod RunFaults
pub mod Runs

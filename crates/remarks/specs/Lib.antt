pub mod TypeWords
pub mod Candidates
pub mod Listings
pub mod Remarks
pub mod FaultRemarks

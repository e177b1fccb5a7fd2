pub mod Values
pub mod Spelling
pub mod Contents
pub mod Templates
pub mod Jobs
pub mod Requests
pub mod Front

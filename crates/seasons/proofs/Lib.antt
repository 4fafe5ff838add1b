pub mod Summing
pub mod Answers
pub mod Dated
pub mod SeasonClaims

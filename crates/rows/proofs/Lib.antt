pub mod Keys
pub mod Rising
pub mod Room
pub mod Places
pub mod Changes

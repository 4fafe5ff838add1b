pub mod Posting

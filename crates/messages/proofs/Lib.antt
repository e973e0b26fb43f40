pub mod Kept
pub mod LineFeeds

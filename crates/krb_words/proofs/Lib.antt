pub mod Days
pub mod Joined
pub mod Matched
pub mod NotRead
pub mod Said
pub mod Shown

mod Ends
mod Extends
mod Following
mod Follows
mod Found
mod Framed
mod Listed
mod Newest
mod Noted
mod Octets
mod Over
mod Parts
mod Passed
mod PasswordEnds
pub mod Prefixes
pub mod Read
mod Recents
mod Rests
mod Sendings
mod Styles
pub mod Tables
pub mod Untaken
mod Taken
mod Segments
mod Telling
mod Whole
mod Written
pub mod Maps

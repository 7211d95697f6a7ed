mod Names
mod Leaves
pub mod Back
pub mod Fit
pub mod KindTexts
pub mod Printable
mod Texts
mod TicketLaws
pub mod Messages
mod FirstOctets
mod Walks
mod Zeros
mod Tickets
mod Measures
mod Searches
mod ReadLemmas
mod ReadLists
mod ReadMessages
mod ReadTickets
mod NumberTexts
mod ScalarLemmas
mod Unshown
mod BitStrings
pub mod Digits

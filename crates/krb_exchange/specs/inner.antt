-- What proofs and private functions alone cite.
pub mod Numbers
pub mod Indexes

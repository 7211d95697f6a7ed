pub mod PrefixFree
pub mod Copies

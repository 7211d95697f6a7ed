mod Begun
mod Indexing
mod Keeping
mod Keys
mod Numbers
mod Places
mod Syns
mod Windows

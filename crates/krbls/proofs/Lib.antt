mod EachSource
mod Commands
mod Hinted
mod Written
mod Chosen
mod Sorted

mod Parsed
mod Tickets

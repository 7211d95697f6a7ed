mod Anys
mod Apart
mod Ends
mod Firsts
mod Nearest
mod Once
mod Rows
mod Stripped

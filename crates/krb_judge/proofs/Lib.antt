mod Firsts
pub mod Slices
pub mod Values
mod Inside
mod Descent
pub mod KindNodes

pub mod KindIndex
pub mod Descent

pub mod PacketHeads
pub mod Pieces
pub mod Places

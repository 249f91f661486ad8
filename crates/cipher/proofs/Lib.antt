pub mod Kept
pub mod Places
pub mod AesRounds
pub mod SpeckRounds

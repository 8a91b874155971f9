mod Doubts
mod Places

pub mod Participants
pub mod Firsts

mod Ranked
mod Room
mod Taken

mod Texts
mod Writes
mod Handling
mod Linking
mod Ending

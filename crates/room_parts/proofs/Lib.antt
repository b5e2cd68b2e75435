mod Backing
mod Calls
mod Seen

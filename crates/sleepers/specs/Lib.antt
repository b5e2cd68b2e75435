pub mod Clients
pub mod Wake
pub mod Marks

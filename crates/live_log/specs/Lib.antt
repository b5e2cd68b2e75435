pub mod Joint
pub mod Event
pub mod Entry
pub mod Log
pub mod Written

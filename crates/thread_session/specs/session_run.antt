pub mod RoomForThreads
pub mod Turns
pub mod SessionRingsLaid
pub mod SessionOfScript

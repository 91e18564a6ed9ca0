pub mod LeftOpen
pub mod Repeated
pub mod ReceivedAreas
pub mod Receiver

pub mod Decoder
pub mod PacketWording
pub mod WorkedDecoding
pub mod StepText

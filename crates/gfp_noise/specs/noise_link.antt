pub mod NoiseTextLines
pub mod Helps
pub mod Noise
pub mod NoiseReportText
pub mod ReceivedSoFar

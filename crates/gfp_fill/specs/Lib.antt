pub mod SentAreas
pub mod Multiplex
pub mod Queue
pub mod Store
pub mod FilledStream

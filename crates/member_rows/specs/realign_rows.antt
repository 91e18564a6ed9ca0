pub mod BegunNibbles
pub mod Line
pub mod Gather
pub mod LineByLine

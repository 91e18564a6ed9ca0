pub mod Terminal
pub mod GivenScenario
pub mod FrameContainers
pub mod StepOfTerminal
pub mod Dealt

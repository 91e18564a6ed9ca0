pub mod FaultOfList
pub mod NearWindows
pub mod WindowsAbove
pub mod OpenWindows
pub mod AgreeingWindows

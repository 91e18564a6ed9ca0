pub mod NibbleCheck
pub mod MultiframeLock

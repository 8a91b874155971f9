pub mod Calls
pub mod Copies
pub mod Passing
pub mod TreeCalls
pub mod TreeEdits
pub mod Typed

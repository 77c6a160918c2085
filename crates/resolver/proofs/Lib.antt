pub mod Texts
pub mod Deeper
pub mod Items
pub mod Filled
pub mod SymbolPlace
pub mod Steps
pub mod Loop
pub mod Places
pub mod Seats
pub mod Whole
pub mod Answering
pub mod Compatibility
pub mod Leading
pub mod Closed
pub mod Marks
pub mod Within
pub mod OneOutcome
pub mod Writable
pub mod Apart
pub mod ByRule
pub mod Fitting
pub mod Holding
pub mod Members
pub mod Names
pub mod RouteLoop
pub mod Partnering
mod Passed
mod Taken

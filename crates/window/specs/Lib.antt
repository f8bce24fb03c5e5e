-- The definitions that the contracts of `window` cite, and their laws.
pub mod Tests
pub mod Memory
pub mod Bytes
pub mod Edges
pub mod Word
pub mod Access
pub mod Small
pub mod Loop
pub mod Trace
pub mod TraceRuns
pub mod Within
pub mod Silent
pub mod Outside
pub mod Row
pub mod Mirror
-- What a name is, and how two names stand to each other.
pub mod Name

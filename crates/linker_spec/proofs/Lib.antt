-- The theorems on what the calls answer and leave, over the definitions of specs/.
pub mod Refusals
pub mod Counts
pub mod Recorded
pub mod Valid
pub mod Numbers
pub mod Cases

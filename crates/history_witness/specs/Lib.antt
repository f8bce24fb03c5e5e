-- The premises of demand 3 can be met, and six sham linkers do not meet it: three images; calls unfolded by one name; tests of images that
-- antt computes, of one and of several together; sessions that gave what the definition gives; a window with a page in front; the calls
-- computed; the two sessions, their premises, what they reach; the shams.
pub mod Image
pub mod Open
pub mod Tests
pub mod Laid
pub mod Together
pub mod Tested
pub mod Exact
pub mod PageBefore
pub mod Computed
pub mod Sessions
pub mod Premises
pub mod Items
pub mod FirstEntry
pub mod Shams

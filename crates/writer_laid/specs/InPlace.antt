-- What depends on the place: the places there are, where relocated words stand in them, and that the tests of words say what holds in each.
pub mod Places
pub mod Line
pub mod Arrangement
pub mod Standing
pub mod Far
pub mod InsideEach
pub mod InsideOnly
pub mod ApartEach
pub mod ApartOnly
pub mod WordOff
pub mod Kinds
pub mod SegmentPlaces
pub mod WordPlaces
pub mod SameWords
pub mod Numbered
pub mod LaidInPlace
pub mod OnlyInPlace

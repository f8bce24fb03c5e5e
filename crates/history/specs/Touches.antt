-- Touches of the calls of a session.
pub mod Programs
pub mod Unfit
pub mod Inside
pub mod StaysInside

-- What a module's image has, and a step on its record.
pub mod Read
pub mod Tried

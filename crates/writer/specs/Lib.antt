-- What helpers of the writer's code answer, in terms of the definitions of `writer_spec`.
pub mod Apart
pub mod Image
pub mod Runs
pub mod Touched

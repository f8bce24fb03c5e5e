-- Laws that the proofs of several modules share.
pub mod Results

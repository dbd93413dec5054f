-- A point between two vectors, and a trial at it in two parts. All other contracts speak of rate_spec's definitions, for the question that
-- rate_bands reads from a frame and its lists.
pub mod Points
pub mod Calls

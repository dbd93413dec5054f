-- How a round trip ended, as four numbers.
pub mod Trip

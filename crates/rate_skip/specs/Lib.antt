-- Who answers the questions of an allocation by a coder's symbols, and what the code of skipping answers and is asked.
pub mod Asks
pub mod Rounds

pub mod AnswerLines
pub mod Requests
pub mod CapLaws
pub mod Answers
pub mod Decisions
pub mod Example

-- A cut's answer in plain numbers: Answers.
pub mod Answers

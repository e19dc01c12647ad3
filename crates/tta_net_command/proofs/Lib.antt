pub mod CoresTaken
pub mod NetLines
pub mod RoundsMade

-- What the contracts of the code cite beside the machine.
pub mod Channel
pub mod Room
pub mod Replies
pub mod Lists
pub mod Front
pub mod Answers
pub mod Calls
pub mod Many
pub mod Allowed
pub mod Tests

pub mod Replies
pub mod Own
pub mod OwnPictures
pub mod Written
pub mod TwoFields
pub mod Marked
pub mod AtItsPoint

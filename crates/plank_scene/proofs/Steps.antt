-- Steps of worlds seen by pictures: the own call's between own pictures, another call's as the other thread's turn, and reads of null.
pub mod Inhabited
pub mod WorldSteps
pub mod OtherSteps
pub mod OwnPictures
pub mod OwnSteps
pub mod QuietSteps
pub mod NullTests

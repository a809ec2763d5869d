pub mod Apart
pub mod Ascii
pub mod Blanks
pub mod ConditionsApart
pub mod Followed
pub mod PrintedParts
pub mod StatementsApart
pub mod TextsApart

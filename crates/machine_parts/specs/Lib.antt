pub mod Slots
pub mod Parts
pub mod Ending
pub mod EndingLaws
pub mod Judging
pub mod JudgingLaws
pub mod Reading
pub mod ReadingLaws

pub mod EntryLaws
pub mod HeadLaws
pub mod LongNumbers
pub mod RowLaws
pub mod Steps

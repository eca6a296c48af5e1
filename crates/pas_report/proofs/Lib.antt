pub mod Counting
pub mod MarkBits
pub mod Pieces
pub mod ReportOfWords

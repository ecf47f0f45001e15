-- tables, and lists in any order
pub mod Tables
pub mod Pick
pub mod Shuffled
pub mod Permuted
pub mod Loops
-- drafts and readings
pub mod LastRow
pub mod LaterNames
pub mod OnceEach
pub mod FewRows
pub mod ReadAlike
pub mod Piles
-- steps
pub mod Hits
pub mod Singles
pub mod Renaming
pub mod Own
pub mod Kept
pub mod Fits
pub mod RowKeys
pub mod Rows
pub mod Alike
pub mod Fixed
pub mod Chain
pub mod Law
pub mod Behind
pub mod Texts
pub mod SameResource
pub mod LaterDiffers
pub mod Answered
pub mod AnyOrder
pub mod NeverFull
pub mod IsUnique
-- texts
pub mod LawfulRows
pub mod NeverClipped
pub mod Utf8
pub mod Utf8Values
pub mod Utf8Derived
pub mod Utf8Reading
pub mod Utf8Rows
pub mod Utf8Words
pub mod Utf8Puts
pub mod Utf8Steps
pub mod TextsAreUtf8
-- examples
pub mod PremisesMet
pub mod Examples
pub mod ReadExamples

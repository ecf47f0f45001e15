pub mod ReadingOf

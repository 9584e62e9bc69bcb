pub mod ReadingAll

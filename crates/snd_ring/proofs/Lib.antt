-- `Splits` has how the two lent lists are marks, rows and room, and `Steps` what the functions find and leave; `Marks` has the laws of one mark and of the
-- indices that are passed, `Tests` that the test is true exactly where the marks are sound. Of what is seen of the segments: `Views` has append and
-- launch, `Fronts` drop_front and take_out, `Closing` close (one turn of it in `Slides`), `Renumbers` a number of a row, `Fills` fill.
pub mod Splits
pub mod Marks
pub mod Tests
pub mod Steps
pub mod Views
pub mod Fronts
pub mod Slides
pub mod Closing
pub mod Renumbers
pub mod Fills

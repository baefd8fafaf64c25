pub mod Bitmaps
pub mod Headers
pub mod Streams

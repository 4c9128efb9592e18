pub mod Middles
pub mod Reaches
pub mod SameRectangles

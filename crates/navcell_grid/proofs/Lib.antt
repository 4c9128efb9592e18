pub mod RectLemmas
pub mod GridLemmas
pub mod PatchLemmas
pub mod PatchCells

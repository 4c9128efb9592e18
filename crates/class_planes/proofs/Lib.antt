mod BitLemmas
mod CellLemmas
mod ColumnLemmas
mod LineLemmas
mod TurnLemmas
pub mod UpdateLemmas
pub mod PlaneLemmas
mod WordLemmas
mod FarLemmas
mod OpeningLemmas
mod TrackLemmas
mod ReadLemmas
mod StopLemmas
mod FillLemmas
mod StopLineLemmas
mod StopWordLemmas
mod StopBandLemmas
mod SpanLemmas
mod StopChangeLemmas
mod StepLemmas
mod SetLemmas
mod TightLemmas
mod FreePlaces
mod BesideLemmas

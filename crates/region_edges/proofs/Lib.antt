pub mod PairLemmas
pub mod MeetLemmas
pub mod EdgeLemmas

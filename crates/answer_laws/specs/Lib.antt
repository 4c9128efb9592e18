pub mod WordFits

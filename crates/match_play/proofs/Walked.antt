-- Where lines lead, whatever they give.
pub use Rattle.script_text.specs.Led.{AreTurns, HasTurn, Led}
pub use Rattle.script_text.proofs.LedLines.{led, turns_both}

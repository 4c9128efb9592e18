use Rattle.std.proofs.Common.{ℕ, ap, length, sym, subst, ◌∙◌}
use Rattle.script_text.specs.Canon.{HaveLines}
use Rattle.flat_posts.proofs.TurnLists.{length-turn_of}
use Rattle.match_play.proofs.NewestLines.{lines_of_3}
use Rattle.pathserve_c.proofs.struct_matches.StructMatch.end_turn.Goals as goal

pub end_turn-requires-clause-lists : goal.end_turn-requires-clause-lists
end_turn-requires-clause-lists c = ap length c.in_ok-turn.ensures ∙ (length-turn_of _ _ ∙ search)

pub end_turn-requires-clause-lines : goal.end_turn-requires-clause-lines
end_turn-requires-clause-lines c = subst (λ (v : ℕ). HaveLines v c.in_ok-turn.turn) (sym c.self.invariant.0) (lines_of_3 c.in_ok-turn.turn)

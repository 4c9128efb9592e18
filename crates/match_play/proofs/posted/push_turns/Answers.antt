use Rattle.std.proofs.Common.{◌+◌, ◌++◌, List, ℕ, refl, ap, subst, get_or, ◌∙◌}
use Rattle.std.proofs.lemmas.List.Elements.{All-more}
use Rattle.script_text.specs.Canon.{canon_journal}
use Rattle.script_text.specs.ReadsBack.{ArePostValues}
use Rattle.match_play.proofs.Posting.{turns_next}
use Rattle.match_play.proofs.posted.push_turns.Goals as goal

pub loop-before-preserved : goal.loop-before-preserved
loop-before-preserved c =
    let m = c.args.map.now in
    let i = c.loop-before.before in
    let text = c.loop-before.text in
    let turn = c.as_slice.ensures ∙ (c.in_ok-turn.ensures.text ∙ ap (canon_journal m (i + 1)) c.index-turns-before.is) in
    let turns = c.args.turns.now in
    let values : ArePostValues (get_or turns i c.index-turns-before.result) = subst ArePostValues c.index-turns-before.is (c.in_ok-turn.ensures.values refl) in (
      turns_next m turns i c.index-turns-before.result text c.extend.new.self c.loop-before-test.true
          (c.in_ok-extend.ensures.ok ∙ ap (λ (l : List ℕ). text ++ l) turn) c.args.text.now c.loop-before.invariant.0,
      All-more ArePostValues turns i c.index-turns-before.result c.loop-before-test.true c.loop-before.invariant.1 values,
    )

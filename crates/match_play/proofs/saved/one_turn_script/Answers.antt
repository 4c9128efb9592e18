use Rattle.std.proofs.Common.{ℕ, ◌∷◌, [], ◌++◌, ◌∙◌, refl, subst, sym}
use Rattle.script_text.specs.Canon.{HaveLines}
use Rattle.script_text.proofs.BackScript.{script-reads}
use Rattle.match_play.proofs.NewestLines.{lines_of_3}
use Rattle.match_play.proofs.Saving.{one_turn, one_turn_text}
use Rattle.match_play.proofs.saved.one_turn_script.Goals as goal

pub write_journal-requires : goal.write_journal-requires
write_journal-requires c = subst (λ (v : ℕ). HaveLines v c.args.turn.now) (sym c.requires.newest) (lines_of_3 c.args.turn.now)

pub returns-clause-text : goal.returns-clause-text
returns-clause-text c =
    c.in_ok-extend.ensures.ok
    ∙ ((λ i. c.in_ok-text.ensures.text i ++ (c.as_slice.ensures ∙ c.in_ok-posts.ensures.text) i)
    ∙ one_turn_text c.args.map.now c.args.turn.now)

pub returns-clause-reads_back : goal.returns-clause-reads_back
returns-clause-reads_back c =
    let m = c.args.map.now in
    let turn = c.args.turn.now in
    script-reads m (turn ∷ []) (c.in_ok-text.ensures.values refl) (one_turn m turn c.requires.newest c.requires.lists (c.in_ok-posts.ensures.values refl))

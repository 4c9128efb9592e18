use Rattle.std.proofs.Common.{◌≡◌, List, ℕ, ◌∷◌, [], ◌∙◌, ap, length, subst, sym}
use Rattle.std.specs.Prelude.{IfOk, OnOk}
use Rattle.posts.specs.declared.posts.Post.{Post}
use Rattle.posts.specs.Maps.{Map}
use Rattle.script_text.specs.ReadsBack.{IsWithinLimits, ReadsAs, canon_script}
use Rattle.match_play.specs.Saved.{adds_of, in_newest}
use Rattle.match_play.proofs.Saving.{turn_length}
use Rattle.match_play.proofs.saved.snapshot.Goals as goal

pub one_turn_script-requires : goal.one_turn_script-requires
one_turn_script-requires c =
    let version = c.args.version.now in
    let map : c.in_ok-map.map ≡ in_newest version.map = c.in_ok-map.ensures ∙ ap in_newest c.map.ensures in
    record {
      newest = ap (λ (m : Map). m.version) map;
      lists = ap length c.in_ok-turn.ensures.turn ∙ (turn_length version.map.callers (adds_of version.standing) ∙ sym (ap (λ (m : Map). m.callers) map));
    }

pub returns-clause-text : goal.returns-clause-text
returns-clause-text c =
    let version = c.args.version.now in
    let map : c.in_ok-map.map ≡ in_newest version.map = c.in_ok-map.ensures ∙ ap in_newest c.map.ensures in
    subst (λ (text : List ℕ). IfOk c.one_turn_script.result (λ made. made ≡ text)) (λ i. canon_script (map i) (c.in_ok-turn.ensures.turn i ∷ []))
    c.one_turn_script.ensures.text

pub returns-clause-reads_back : goal.returns-clause-reads_back
returns-clause-reads_back c =
    let version = c.args.version.now in
    let map : c.in_ok-map.map ≡ in_newest version.map = c.in_ok-map.ensures ∙ ap in_newest c.map.ensures in
    subst (λ (said : Map × List (List (List Post))). OnOk c.one_turn_script.result
    (IsWithinLimits (canon_script said.0 said.1) → ReadsAs said.0 said.1 (canon_script said.0 said.1)))
    (λ i. (map i, c.in_ok-turn.ensures.turn i ∷ [])) c.one_turn_script.ensures.reads_back

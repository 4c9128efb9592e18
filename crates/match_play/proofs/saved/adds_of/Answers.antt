use Rattle.std.proofs.Common.{ℕ, List, [], ◌∷◌, ◌++◌, ap, sym, ◌∙◌, append_assoc, append-nil}
use Rattle.std.specs.Prelude.{map}
use Rattle.std.specs.FinMap as fin_map
use Rattle.obstruction_shapes.specs.declared.shapes.Obstruction.{Obstruction}
use Rattle.posts.specs.declared.posts.Post.{Post}
use Rattle.match_play.specs.Saved.{add_of}
use Rattle.match_play.proofs.saved.adds_of.Goals as goal

pub loop-id-init : goal.loop-id-init
loop-id-init c =
    ap (λ (l : List Post). l ++ map add_of c.into_iter-id-iterator.result) c.new-adds.ensures
    ∙ ap (map add_of) (c.into_iter-id-iterator.ensures.into_iter_gives ∙ c.entries-id-items.ensures
    ∙ ap fin_map.entries (c.in_ok-listed.ensures ∙ c.shapes.ensures.standing))

pub loop-id-preserved : goal.loop-id-preserved
loop-id-preserved c =
    let rest = c.next.new.self in
    let adds = c.loop-id.adds in
    ap (λ (l : List Post). l ++ map add_of rest) c.in_ok-push_some.ensures.ok
    ∙ append_assoc adds (c.add_of.result ∷ []) (map add_of rest)
    ∙ ap (λ (x : Post). adds ++ x ∷ map add_of rest) c.add_of.ensures
    ∙ ap (λ (l : List (ℕ × Obstruction)). adds ++ map add_of l) (sym c.in-Some.ensures.steps)
    ∙ c.loop-id.invariant

pub returns : goal.returns
returns c =
    let adds = c.loop-id.adds in
    sym (ap (λ (l : List (ℕ × Obstruction)). adds ++ map add_of l) c.in-None.ensures.steps.0 ∙ append-nil adds) ∙ c.loop-id.invariant

use Rattle.std.proofs.Common.{◌≡◌, ◌≤◌, ℕ, List, [], length, replicate, ap, ◌∙◌, arith}
use Rattle.std.specs.Prelude.{slice_set}
use Rattle.std.proofs.lemmas.List.{length-replicate}
use Rattle.posts.specs.declared.posts.Post.{Post}
use Rattle.posts.specs.Maps.{Map}
use Rattle.match_play.proofs.Saving.{set_first}
use Rattle.match_play.proofs.saved.adding_turn.Goals as goal

pub index_mut-requires : goal.index_mut-requires
index_mut-requires c =
    let callers = c.args.version.now.map.callers in
    let some : 1 ≤ callers = omega (arith, c.callers.ensures.limits.0, c.callers.ensures.callers, ap (λ (m : Map). m.callers) c.map.ensures) in
    let lists : c.in_ok-lists.lists.items ≡ replicate callers [] = c.in_ok-lists.ensures ∙ ap (λ (n : ℕ). replicate n []) search in
    omega (arith, some, ap length lists, length-replicate {A = List Post} callers [])

pub returns-clause-turn : goal.returns-clause-turn
returns-clause-turn c =
    let callers = c.args.version.now.map.callers in
    let some : 1 ≤ callers = omega (arith, c.callers.ensures.limits.0, c.callers.ensures.callers, ap (λ (m : Map). m.callers) c.map.ensures) in
    let lists : c.in_ok-lists.lists.items ≡ replicate callers [] = c.in_ok-lists.ensures ∙ ap (λ (n : ℕ). replicate n []) search in
    c.from-2.ensures ∙ ((λ i. slice_set (lists i) 0 (c.in_ok-adds.ensures i)) ∙ set_first callers _ some)

pub returns-clause-callers : goal.returns-clause-callers
returns-clause-callers c = omega (arith, c.callers.ensures.limits.0, c.callers.ensures.callers, ap (λ (m : Map). m.callers) c.map.ensures)

use Rattle.std.proofs.Common.{◌≡◌, [], sym, ◌∙◌, arith}
use Rattle.std.proofs.lemmas.Bool.{eqb-true}
use Rattle.std.proofs.lemmas.List.{get_or_past}
use Rattle.open_heap.proofs.Chains.{none_held}
use Rattle.open_heap.proofs.Falling.{no_entries}
use Rattle.open_heap.proofs.buckets.Buckets.rebase.Goals as goal

pub returns-then-is_empty-2 : goal.returns-then-is_empty-2
returns-then-is_empty-2 c = record {
  kept = λ other held.
      let b = c.args.self.now in
      let none : b.here.items ≡ [] =
      let count = eqb-true b.here.len 0 (sym c.is_empty-then-is_empty.ensures ∙ c.if-is_empty-2.true) in
      let size = b.here.ok.0 in no_entries b.here.items (omega (arith, count, size)) in
      absurd (none_held b.start b.reached b.heads.items b.later.items b.here.items _ b.sound none (λ bucket after.
      let count = eqb-true b.heads.len 0 (sym c.is_empty.ensures ∙ c.if-is_empty.true) in
      let size = b.heads.ok.0 in get_or_past b.heads.items bucket 0 (omega (arith, count, size))) other held);
}

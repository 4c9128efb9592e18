use Rattle.std.proofs.Common.{ℕ, sym, ap, ◌∙◌}
use Rattle.std.specs.FinMap as map
use Rattle.std.specs.Ordering.{nat_cmp}
use Rattle.std.proofs.lemmas.Bool.{eqb-true, eq-eqb}
use Rattle.open_heap.specs.Queue.{Queue}
use Rattle.open_heap.specs.inner.Buckets.{queue_of}
use Rattle.open_heap.proofs.heaps.OpenHeap.is_empty.Goals as goal

pub returns : goal.returns
returns c =
    let open_list = c.self.inside in
    let counted = c.self.invariant.counted in (
      λ is. sym c.self.view_is ∙ map.empty_of_len (queue_of open_list.estimates.items) (sym counted ∙ eqb-true open_list.count 0 is),
      λ is. eq-eqb open_list.count 0 (counted ∙ ap (λ (m : Queue). map.len m) (c.self.view_is ∙ is) ∙ map.len-empty nat_cmp ℕ),
    )

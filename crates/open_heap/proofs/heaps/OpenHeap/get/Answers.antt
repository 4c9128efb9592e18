use Rattle.std.proofs.Common.{ℕ, List, Option, sym, ap, ◌∙◌}
use Rattle.std.specs.FinMap as map
use Rattle.open_heap.specs.Queue.{Queue}
use Rattle.open_heap.specs.inner.Buckets.{estimate_at}
use Rattle.open_heap.proofs.Tables.{get-queue}
use Rattle.open_heap.proofs.heaps.OpenHeap.get.Goals as goal

pub returns : goal.returns
returns c =
    c.known_estimate.ensures ∙ ap (λ (table : List (Option ℕ)). estimate_at table c.args.key) c.deref.ensures.value
    ∙ sym (get-queue c.self.inside.estimates.items c.args.key) ∙ ap (λ (m : Queue). map.get m c.args.key) c.self.view_is

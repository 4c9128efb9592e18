-- Taking entries of nodes that are dominated by another of their cell out of the open list.
use Rattle.std.proofs.Common.{ℕ, ◌≡◌, ◌<◌, Bool, IsFalse, List, Some, inl, inr, ap, sym, subst, ◌∙◌, arith}
use Rattle.std.specs.List.{slice_get}
use Rattle.std.specs.FinMap as map
use Rattle.std.proofs.lemmas.Bool.{cases_eq}
use Rattle.std.proofs.lemmas.Option.{none-some}
use Rattle.nav_types.specs.declared.cells.Cell.{Cell}
use Rattle.open_heap.specs.Queue.{Queue}
use Rattle.jump_search.specs.declared.nodes.Node.{Node}
use Rattle.jump_search.specs.inner.Numbered.{IsAsCheap}
use Rattle.jump_search.specs.inner.Searched.{IsDearer}
use Rattle.jump_search.specs.inner.Underway.{IsQueued, IsGoing, Drops}
use Rattle.jump_search.proofs.Listing.{one_item}
use Rattle.jump_search.proofs.Queueing.{get_cases, removed_here, removed_apart}

-- no entry is taken out
pub drops_none : (all : Bool) (nodes : List Node) (queue : Queue) → Drops all nodes queue queue
drops_none all nodes queue = record {
  kept = λ number estimate found. found;
  gone = λ number estimate node was none found. absurd (none-some estimate (sym none ∙ was));
}

-- one entry is taken out
pub drops_one : (all : Bool) (nodes : List Node) (queue : Queue) (number : ℕ) (node : Node)
    → slice_get nodes number ≡ Some node → IsFalse all → IsDearer nodes node
    → Drops all nodes queue (map.remove queue number)
drops_one all nodes queue number node known not dearer = record {
  kept = λ other estimate found. elim (cases_eq other number) [
    | inl here ↦ absurd (none-some estimate
        (sym (ap (λ (n : ℕ). map.get (map.remove queue number) n) here ∙ removed_here queue number) ∙ found))
    | inr apart ↦ sym (removed_apart queue number other apart) ∙ found
  ];
  gone = λ other estimate x was none found. elim (cases_eq other number) [
    | inl here ↦
        let is = one_item nodes number node x known (subst (λ (n : ℕ). slice_get nodes n ≡ Some x) here found) in
        (not, subst (λ (n : Node). IsDearer nodes n) is dearer)
    | inr apart ↦ absurd (none-some estimate (sym (sym (removed_apart queue number other apart) ∙ none) ∙ was))
  ];
}

-- a node that costs more than another of its cell is dominated
pub dearer_than : (nodes : List Node) (cell : Cell) (cost : ℕ) (node : Node) → IsAsCheap nodes cell cost
    → node.state.cell ≡ cell → cost < node.cost → IsDearer nodes node
dearer_than nodes cell cost node cheap same less =
    (cheap.0, (cheap.1.0, (cheap.1.1.0, (cheap.1.1.1.0 ∙ sym same, omega (arith, cheap.1.1.1.1, less)))))

-- the nodes wait, or not, as they should
queued_dropped : (all : Bool) (ahead : Cell → ℕ) (floor : ℕ) (nodes : List Node) (before after : Queue)
    → Drops all nodes before after → IsQueued all ahead floor nodes before → IsQueued all ahead floor nodes after
queued_dropped all ahead floor nodes before after drops queued = record {
  waits = λ number estimate found. queued.waits number estimate (drops.kept number estimate found);
  others = λ number node found none. elim (get_cases before number) [
    | inl was ↦ queued.others number node found was
    | inr some ↦ inr (drops.gone number some.0 node some.1 none found)
  ];
  within = queued.within;
}

pub going_dropped : (all : Bool) (passes hit : Cell → Bool) (start : Cell) (ahead : Cell → ℕ) (floor most : ℕ)
    (nodes : List Node) (before after : Queue)
    → Drops all nodes before after → IsGoing all passes hit start ahead floor most nodes before
    → IsGoing all passes hit start ahead floor most nodes after
going_dropped all passes hit start ahead floor most nodes before after drops going = record {
  met = going.met;
  queued = queued_dropped all ahead floor nodes before after drops going.queued;
  costs = going.costs;
  few = going.few;
}

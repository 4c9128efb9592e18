-- The start alone, which waits.
use Rattle.std.proofs.Common.{ℕ, ◌≡◌, ◌≤◌, Bool, false, IsFalse, [], ◌∷◌, Some, None, inl, inr, refl, ap, sym, subst}
use Rattle.std.proofs.Common.{◌∙◌, arith}
use Rattle.std.specs.List.{slice_get}
use Rattle.std.specs.FinMap as map
use Rattle.std.specs.Ordering.{nat_cmp}
use Rattle.std.proofs.lemmas.Bool.{cases_eq, both_ways}
use Rattle.std.proofs.lemmas.Option.{same_Some, slice_get_within, none-some}
use Rattle.nav_types.specs.declared.cells.Cell.{Cell}
use Rattle.open_heap.specs.Queue.{Queue}
use Rattle.jump_search.specs.declared.nodes.Node.{Node}
use Rattle.jump_search.specs.JumpStates.{start_state}
use Rattle.jump_search.specs.inner.Searched.{AreMet}
use Rattle.jump_search.specs.inner.Underway.{estimate_of, IsUnderway}
use Rattle.jump_search.proofs.Queueing.{inserted_here, inserted_apart}

-- the node of the start
abbrev pub start_node : Cell → Node
start_node start = record { state = start_state start; cost = 0; run = 0; opened = false }

-- the only node is the start's
only : (start : Cell) (number : ℕ) (node : Node) → slice_get (start_node start ∷ []) number ≡ Some node
    → (number ≡ 0) × (start_node start ≡ node)
only start number node found =
    let low = slice_get_within (start_node start ∷ []) number node found in
    let zero_is : number ≡ 0 = omega (arith, low) in (
      zero_is,
      same_Some (start_node start) node (subst (λ (n : ℕ). slice_get (start_node start ∷ []) n ≡ Some node)
          zero_is found),
    )

met_start : (passes hit : Cell → Bool) (start : Cell) → AreMet passes hit start (start_node start ∷ [])
met_start passes hit start = record {
  first = (start_node start, (refl, (refl, refl)));
  once = λ p q a b in_p in_q same. (only start p a in_p).0 ∙ sym (only start q b in_q).0;
  reached = λ number node found.
      let is = (only start number node found).1 in
      ([], (ap (λ (n : Node). n.state) (sym is), ap (λ (n : Node). n.cost) is));
  parents = λ number node found some. let zero_is = (only start number node found).0 in
      absurd (omega (arith, some, zero_is));
}

pub underway_start : (all : Bool) (passes hit : Cell → Bool) (start : Cell) (ahead : Cell → ℕ)
    → IsUnderway all passes hit start ahead 0 (start_node start ∷ [])
    (map.insert map.empty 0 (estimate_of ahead (start_node start))) None
underway_start all passes hit start ahead =
    let node = start_node start in
    let empty : Queue = map.empty in
    let queue = map.insert empty 0 (estimate_of ahead node) in
    let none : (number : ℕ) → map.get empty number ≡ None = λ number. map.get-empty nat_cmp number in
    record {
      met = met_start passes hit start;
      queued = record {
        waits = λ number value found. elim (cases_eq number 0) [
          | inl here ↦
              let is : map.get queue number ≡ Some (estimate_of ahead node) =
              subst (λ (n : ℕ). map.get queue n ≡ Some (estimate_of ahead node)) (sym here)
              (inserted_here empty 0 (estimate_of ahead node)) in
              let same = same_Some (estimate_of ahead node) value (sym is ∙ found) in
              let at : slice_get (node ∷ []) number ≡ Some node =
              subst (λ (n : ℕ). slice_get (node ∷ []) n ≡ Some node) (sym here) refl in (
                node,
                (
                  at,
                  (
                    refl,
                    subst (λ (p : ℕ). (p ≡ estimate_of ahead node)
                        × (0 ≤ p)) same (refl, omega arith),
                  ),
                ),
              )
          | inr apart ↦ absurd (none-some value
              (sym (inserted_apart empty 0 (estimate_of ahead node) number apart ∙ none number) ∙ found))
        ];
        others = λ number x found lacks.
            let zero_is = (only start number x found).0 in
            let is : map.get queue number ≡ Some (estimate_of ahead node) =
            subst (λ (n : ℕ). map.get queue n ≡ Some (estimate_of ahead node)) (sym zero_is)
            (inserted_here empty 0 (estimate_of ahead node)) in
            absurd (none-some (estimate_of ahead node) (sym lacks ∙ is));
        within = λ number x found opened.
            let is = (only start number x found).1 in
            absurd (both_ways x.opened (subst (λ (n : Node). IsFalse n.opened) is refl) opened);
      };
      followed = λ number x found opened.
          let is = (only start number x found).1 in
          absurd (both_ways x.opened (subst (λ (n : Node). IsFalse n.opened) is refl) opened);
      hits = λ number x found opened hit_there.
          let is = (only start number x found).1 in
          both_ways x.opened (subst (λ (n : Node). IsFalse n.opened) is refl) opened;
      costs = λ number x found.
          let cost : x.cost ≡ 0 = ap (λ (n : Node). n.cost) (sym (only start number x found).1) in
          omega (arith, cost);
      few = omega arith;
    }

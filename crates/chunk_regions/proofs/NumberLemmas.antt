-- What settled numbers of cells give: each cell has the number of its group.
use Rattle.std.proofs.Common.{ℕ, ◌≡◌, ◌+◌, Bool, true, List, [], ◌∷◌, IsTrue, ap, inl, inr, sym, subst, ◌∙◌, arith, Some}
use Rattle.std.specs.List.{All, AllPairs, Contains, slice_get}
use Rattle.std.proofs.lemmas.Bool.{both_ways}
use Rattle.std.proofs.lemmas.List.Elements.{All-head, All-tail}
use Rattle.std.proofs.lemmas.Option.{slice_get-get_or, same_Some}
use Rattle.nav_types.specs.declared.cells.Cell.{Cell}
use Rattle.nav_types.specs.declared.directions.Dir.{Dir}
use Rattle.nav_types.specs.Cells.{IsBefore}
use Rattle.nav_types.specs.Counting.{AreFirsts}
use Rattle.nav_types.specs.Directions.{is_straight}
use Rattle.nav_types.specs.Regions.{JoinedStraight, IsBeside}
use Rattle.nav_types.specs.Walks.{IsWalk}
use Rattle.chunk_regions.specs.inner.Joining.{IsNumberAmong, IsNumbered}
use Rattle.nav_types.proofs.CellOrder.{IsBefore-cases}
use Rattle.nav_types.proofs.Items.{Contains-from_slice_get}

-- cells side by side have one number, and each cell is joined to the first one of its number
pub record AreSettled (passes : Cell → Bool) (number : Cell → ℕ) (firsts : List Cell) : Type 0 where
  pub placed : (cell : Cell) → IsTrue (passes cell) → IsNumberAmong passes firsts cell (number cell)
  pub settled : (a b : Cell) → IsTrue (passes a) → IsTrue (passes b) → IsBeside a b → number b ≡ number a
  pub first_numbers : (place : ℕ) (first : Cell) → slice_get firsts place ≡ Some first
      → IsTrue (passes first) × (number first ≡ place + 1)
  pub rising : AllPairs IsBefore firsts

-- a walk of straight steps stays in one group, and among passable cells
joined_number : (passes : Cell → Bool) (number : Cell → ℕ) (firsts : List Cell) → AreSettled passes number firsts
    → (dirs : List Dir) (a b : Cell) → All (λ dir. is_straight dir ≡ true) dirs → IsWalk passes a dirs b → IsTrue (passes a)
    → (number b ≡ number a) × IsTrue (passes b)
joined_number passes number firsts f [] a b straight walk passing =
    (ap (λ (z : Cell). number z) (sym walk), subst (λ (z : Cell). IsTrue (passes z)) walk passing)
joined_number passes number firsts f (dir ∷ dirs) a b straight walk passing =
    let next = walk.0 in
    let step = walk.1.0 in
    let ways = λ (way : Dir). is_straight way ≡ true in
    let beside : IsBeside a next = (dir, (All-head ways dir dirs straight, step.leads)) in
    let one : number next ≡ number a = f.settled a next passing step.next beside in
    let on = joined_number passes number firsts f dirs next b (All-tail ways dir dirs straight) walk.1.1 step.next in
    (on.0 ∙ one, on.1)

-- each passable cell has the number of its group
pub AreSettled-numbered : (passes : Cell → Bool) (number : Cell → ℕ) (firsts : List Cell) → AreSettled passes number firsts
    → IsNumbered passes number firsts
AreSettled-numbered passes number firsts f =
    let are_firsts : AreFirsts passes (JoinedStraight passes) IsBefore firsts = record {
      each = λ first there.
          let found : slice_get firsts there.0 ≡ Some first = slice_get-get_or firsts there.0 first there.1 ∙ ap (λ z. Some z) there.2 in
          let was = f.first_numbers there.0 first found in
          record {
            passable = was.0;
            earliest = λ other joined before.
                let on = joined_number passes number firsts f joined.0 first other joined.1.0 joined.1.1 was.0 in
                let p = f.placed other on.1 in
                let value = p.value in
                let same_number = on.0 in
                let own_number = was.1 in
                let one_place : there.0 ≡ p.place = omega arith in
                let one_first : first ≡ p.first = same_Some first p.first (sym found ∙ ap (λ k. slice_get firsts k) one_place ∙ p.found) in
                p.early (subst (λ (z : Cell). IsBefore other z) one_first before);
          };
      all = λ cell is.
          let p = f.placed cell is.passable in
          let one : p.first ≡ cell = elim (IsBefore-cases p.first cell) [
            | inl same ↦ same
            | inr order ↦ elim order [
              | inl less ↦ absurd (is.earliest p.first p.joined less)
              | inr more ↦ absurd (p.early more)
            ]
          ] in
          subst (λ (z : Cell). Contains firsts z) one (Contains-from_slice_get firsts p.place p.first p.found);
      rising = f.rising;
    } in
    record {
      numbers = λ cell passing. record {
        blocked = λ shut. absurd (both_ways (passes cell) shut passing);
        placed = λ again. let p = f.placed cell passing in
            (firsts, (are_firsts, (p.place, (p.first, (p.found, (p.joined, p.value))))));
      };
      first_cells = are_firsts;
    }

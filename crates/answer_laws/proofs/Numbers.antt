-- Numbers of groups of cells, and how many groups there are.
use Rattle.std.proofs.Common.{ℕ, ◌≡◌, ◌+◌, ◌⊎◌, Bool, List, [], IsTrue, refl, ap, inl, inr, sym, subst}
use Rattle.std.proofs.lemmas.Bool.{cases_Bool, both_ways}
use Rattle.nav_types.specs.declared.cells.Cell.{Cell}
use Rattle.nav_types.specs.declared.cells.Chunk.{Chunk}
use Rattle.nav_types.specs.Cells.{chunk_of, IsBefore, IsChunkBefore}
use Rattle.nav_types.specs.Walks.{Joined}
use Rattle.nav_types.specs.Counting.{IsFirst, AreFirsts, HasNumber}
use Rattle.nav_types.specs.Regions.{passes_in, InOneRegion, HasRegion, HasArea, IsAreaBefore}
use Rattle.nav_types.proofs.CellOrder.{same_chunk, IsBefore-asym, IsBefore-cases, IsBefore-trans, IsAreaBefore-asym, IsAreaBefore-cases, IsAreaBefore-trans}
use Rattle.nav_types.proofs.Regions.{lies_in}
use Rattle.nav_types.proofs.Walking.{Joined-sym, Joined-trans, Joined-passes, JoinedStraight-refl, JoinedStraight-sym, JoinedStraight-trans, JoinedStraight-from_Joined, Joined-from_straight}
use Rattle.answer_laws.proofs.Deciding.{Decided, decided_both, decided_either, decided_not, decided_as, decided_some, BestIn, best_in}
use Rattle.answer_laws.proofs.Listing.{Ordered, ordered, place_in_list}
use Rattle.answer_laws.proofs.Distances.{HasAll, decided_joined, decided_same_number, decided_less}

-- what groups of the passable cells of a list are: decided, both ways, and in an order
pub record Groups (passes : Cell → Bool) (cells : List Cell) (Together Before : Cell → Cell → Type 0) : Type 0 where
  pub whole : HasAll passes cells
  pub decided : (a b : Cell) → Decided (Together a b)
  pub own : (a : Cell) → Together a a
  pub turn : (a b : Cell) → Together a b → Together b a
  pub on : (a b c : Cell) → Together a b → Together b c → Together a c
  pub pass : (a b : Cell) → IsTrue (passes a) → Together a b → IsTrue (passes b)
  pub before : (a b : Cell) → Decided (Before a b)
  pub asym : (a b : Cell) → Before a b → Before b a → ⊥
  pub cases : (a b : Cell) → (a ≡ b) ⊎ (Before a b ⊎ Before b a)
  pub rising : (a b c : Cell) → Before a b → Before b c → Before a c

module _ (passes : Cell → Bool) (cells : List Cell) (Together Before : Cell → Cell → Type 0) (groups : Groups passes cells Together Before) where
  -- the first cell of a passable cell's group
  pub first_of : (cell : Cell) → IsTrue (passes cell) → (first : Cell) × (Together cell first × IsFirst passes Together Before first)
  first_of cell passing =
      let NotAfter = λ (a b : Cell). (a ≡ b) ⊎ Before a b in
      let on : (a b c : Cell) → NotAfter a b → NotAfter b c → NotAfter a c = λ a b c one two. elim one [
        | inl same ↦ subst (λ (z : Cell). NotAfter z c) (sym same) two
        | inr less ↦ elim two [ inl same ↦ inr (subst (Before a) same less) | inr more ↦ inr (groups.rising a b c less more) ]
      ] in
      let total : (a b : Cell) → NotAfter a b ⊎ NotAfter b a = λ a b. elim (groups.cases a b) [
        | inl same ↦ inl (inl same)
        | inr other ↦ elim other [ inl less ↦ inl (inr less) | inr more ↦ inr (inr more) ]
      ] in
      let best : BestIn (Together cell) NotAfter cells = best_in (Together cell) NotAfter (groups.decided cell) total on cells in
      elim best [
        | inl found ↦
            let first = found.0 in (
              first,
              (
                found.1.0,
                record {
                  passable = groups.pass cell first passing found.1.0;
                  earliest = λ other together before.
                      let joined = groups.on cell first other found.1.0 together in
                      elim (found.1.1 other (groups.whole other (groups.pass cell other passing joined)) joined) [
                        | inl same ↦ groups.asym other first before (subst (λ (z : Cell). Before first z) same (subst (λ (z : Cell). Before z first) (sym same) before))
                        | inr less ↦ groups.asym first other less before
                      ];
                },
              ),
            )
        | inr none ↦ absurd (none cell (groups.whole cell passing) (groups.own cell))
      ]

  pub decided_first : (cell : Cell) → Decided (IsFirst passes Together Before cell)
  decided_first cell = elim (cases_Bool (passes cell)) [
    | inr fails ↦ inr (λ first. both_ways (passes cell) fails first.passable)
    | inl passing ↦ decided_as
        {P = ((other : Cell) × (Together cell other × Before other cell)) → ⊥}
        (λ none. record { passable = passing; earliest = λ other together before. none (other, (together, before)) })
        (λ first some. first.earliest some.0 some.1.0 some.1.1)
        (decided_not (decided_some (λ other. Together cell other × Before other cell)
        (λ other. decided_both (groups.decided cell other) (groups.before other cell)) cells
        (λ other both. groups.whole other (groups.pass cell other passing both.0))))
  ]

  -- the first cells of all groups, in order
  pub firsts : (list : List Cell) × AreFirsts passes Together Before list
  firsts =
      let made : Ordered (IsFirst passes Together Before) Before cells =
      ordered (IsFirst passes Together Before) Before decided_first groups.cases groups.rising cells in (
        made.list,
        record {
          each = made.each;
          all = λ cell first. made.all cell (groups.whole cell first.passable) first;
          rising = made.rising;
        },
      )

  pub number : (cell : Cell) → (number : ℕ) × HasNumber passes Together Before cell number
  number cell = elim (cases_Bool (passes cell)) [
    | inr fails ↦ (0, record { blocked = λ shut. refl; placed = λ passing. absurd (both_ways (passes cell) fails passing) })
    | inl passing ↦
        let first = first_of cell passing in
        let place = place_in_list firsts.0 first.0 (firsts.1.all first.0 first.1.1) in (
          place.0 + 1,
          record {
            blocked = λ shut. absurd (both_ways (passes cell) shut passing);
            placed = λ open_cell. (firsts.0, (firsts.1, (place.0, (first.0, (place.1, (first.1.0, refl))))));
          },
        )
  ]

-- ---- areas and regions

decided_chunk_before : (a b : Chunk) → Decided (IsChunkBefore a b)
decided_chunk_before a b = decided_either (decided_less a.cj b.cj) (decided_both (decided_same_number a.cj b.cj) (decided_less a.ci b.ci))

pub decided_same_chunk : (a b : Chunk) → Decided (a ≡ b)
decided_same_chunk a b = decided_as {P = (a.ci ≡ b.ci) × (a.cj ≡ b.cj)} (λ both. same_chunk a b both.0 both.1)
    (λ same. (ap (λ (chunk : Chunk). chunk.ci) same, ap (λ (chunk : Chunk). chunk.cj) same))
    (decided_both (decided_same_number a.ci b.ci) (decided_same_number a.cj b.cj))

decided_before : (a b : Cell) → Decided (IsBefore a b)
decided_before a b = decided_either (decided_less a.j b.j) (decided_both (decided_same_number a.j b.j) (decided_less a.i b.i))

decided_area_before : (a b : Cell) → Decided (IsAreaBefore a b)
decided_area_before a b = decided_either (decided_chunk_before (chunk_of a) (chunk_of b))
    (decided_both (decided_same_chunk (chunk_of a) (chunk_of b)) (decided_before a b))

pub areas : (passes : Cell → Bool) (cells : List Cell) → HasAll passes cells → Groups passes cells (Joined passes) IsAreaBefore
areas passes cells whole = record {
  whole = whole;
  decided = decided_joined passes cells whole;
  own = λ a. ([], refl);
  turn = Joined-sym passes;
  on = Joined-trans passes;
  pass = Joined-passes passes;
  before = decided_area_before;
  asym = IsAreaBefore-asym;
  cases = IsAreaBefore-cases;
  rising = IsAreaBefore-trans;
}

-- what passes in a chunk passes
has_all_in : (passes : Cell → Bool) (cells : List Cell) (chunk : Chunk) → HasAll passes cells → HasAll (passes_in passes chunk) cells
has_all_in passes cells chunk whole cell passing = whole cell (lies_in passes chunk cell passing).passable

pub regions : (passes : Cell → Bool) (cells : List Cell) (chunk : Chunk) → HasAll passes cells
    → Groups (passes_in passes chunk) cells (InOneRegion passes chunk) IsBefore
regions passes cells chunk whole =
    let inside = passes_in passes chunk in
    let all = has_all_in passes cells chunk whole in
    record {
      whole = all;
      decided = λ a b. decided_as (JoinedStraight-from_Joined inside a b) (Joined-from_straight inside a b) (decided_joined inside cells all a b);
      own = λ a. JoinedStraight-refl inside a;
      turn = JoinedStraight-sym inside;
      on = JoinedStraight-trans inside;
      pass = λ a b passing joined. Joined-passes inside a b passing (Joined-from_straight inside a b joined);
      before = decided_before;
      asym = IsBefore-asym;
      cases = IsBefore-cases;
      rising = IsBefore-trans;
    }

pub area_of : (passes : Cell → Bool) (cells : List Cell) → HasAll passes cells → (cell : Cell) → (number : ℕ) × HasArea passes cell number
area_of passes cells whole cell = number passes cells (Joined passes) IsAreaBefore (areas passes cells whole) cell

pub region_of : (passes : Cell → Bool) (cells : List Cell) → HasAll passes cells → (chunk : Chunk) (cell : Cell)
    → (number : ℕ) × HasRegion passes chunk cell number
region_of passes cells whole chunk cell =
    number (passes_in passes chunk) cells (InOneRegion passes chunk) IsBefore (regions passes cells chunk whole) cell

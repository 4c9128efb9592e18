-- Directions beside a straight one, and what is forced by the cell beside the one before.
use Rattle.std.proofs.Common.{◌≡◌, ◌+◌, ◌-◌, ◌≤◌, ◌⊎◌, Bool, true, false, not, IsTrue, refl, inl, inr, ap, subst, ◌∙◌, arith}
use Rattle.std.proofs.lemmas.Bool.{false≢true}
use Rattle.nav_types.specs.declared.cells.Cell.{Cell}
use Rattle.nav_types.specs.declared.directions.Dir.{Dir}
use Rattle.nav_types.specs.declared.directions.Dir.TheVariants.{N, E, S, W, NE, SE, SW, NW}
use Rattle.nav_types.specs.Cells.{cell_at}
use Rattle.nav_types.specs.Directions.{east, west, north, south, is_straight, row_part, column_part, Leads}
use Rattle.nav_types.specs.Beside.{IsFreeBeside, IsLegalFrom}
use Rattle.nav_types.proofs.Walking.{straight_step, legal_is_free}
use Rattle.jump_scan.specs.declared.turns.Side.{Side}
use Rattle.jump_scan.specs.declared.turns.Side.TheVariants.{Left, Right}
use Rattle.jump_scan.specs.Turns.{ahead_to, aside_to, IsTurn}
use Rattle.jump_scan.specs.Successors.{IsBlockedBefore, IsForcing, HasForced}

-- three eighths of a turn to the side
abbrev pub behind_to : Side → Dir → Dir
behind_to side dir = ahead_to side (aside_to side dir)

-- going `dir` and then `back` is going aside
record GoesAside (dir side back : Dir) : Type 0 where
  columns : (east dir + east back) + west side ≡ (west dir + west back) + east side
  rows : (north dir + north back) + south side ≡ (south dir + south back) + north side
  column_room : east dir ≤ west back + west dir
  row_room : north dir ≤ south back + south dir
  one_column : east back + west back ≤ 1
  one_row : north back + south back ≤ 1

goes_aside : (side : Side) (dir : Dir) → is_straight dir ≡ true → GoesAside dir (aside_to side dir) (behind_to side dir)
goes_aside Left N straight = record { columns = refl; rows = refl; column_room = omega arith; row_room = omega arith; one_column = omega arith; one_row = omega arith }
goes_aside Left E straight = record { columns = refl; rows = refl; column_room = omega arith; row_room = omega arith; one_column = omega arith; one_row = omega arith }
goes_aside Left S straight = record { columns = refl; rows = refl; column_room = omega arith; row_room = omega arith; one_column = omega arith; one_row = omega arith }
goes_aside Left W straight = record { columns = refl; rows = refl; column_room = omega arith; row_room = omega arith; one_column = omega arith; one_row = omega arith }
goes_aside Right N straight = record { columns = refl; rows = refl; column_room = omega arith; row_room = omega arith; one_column = omega arith; one_row = omega arith }
goes_aside Right E straight = record { columns = refl; rows = refl; column_room = omega arith; row_room = omega arith; one_column = omega arith; one_row = omega arith }
goes_aside Right S straight = record { columns = refl; rows = refl; column_room = omega arith; row_room = omega arith; one_column = omega arith; one_row = omega arith }
goes_aside Right W straight = record { columns = refl; rows = refl; column_room = omega arith; row_room = omega arith; one_column = omega arith; one_row = omega arith }
goes_aside side NE straight = absurd (false≢true straight)
goes_aside side SE straight = absurd (false≢true straight)
goes_aside side SW straight = absurd (false≢true straight)
goes_aside side NW straight = absurd (false≢true straight)

-- from the cell before to its side is from the cell back to that side
leads_back : (dir side back : Dir) → GoesAside dir side back → (before cell beside : Cell) → Leads dir before cell → Leads side before beside
    → Leads back cell beside
leads_back dir side back goes before cell beside here there =
    let hc = here.columns in let hr = here.rows in let tc = there.columns in let tr = there.rows in
    let gc = goes.columns in let gr = goes.rows in
    record { columns = omega arith; rows = omega arith }

-- where the cell back to the side is one, there is a cell before
cell_before : (dir side back : Dir) → GoesAside dir side back → (cell beside : Cell) → Leads back cell beside
    → (before : Cell) × (Leads dir before cell × Leads side before beside)
cell_before dir side back goes cell beside there =
    let tc = there.columns in let tr = there.rows in
    let gc = goes.columns in let gr = goes.rows in let rc = goes.column_room in let rr = goes.row_room in let oc = goes.one_column in let or = goes.one_row in
    let before = cell_at (cell.i + west dir - east dir) (cell.j + south dir - north dir) in
    let columns : before.i + east dir ≡ cell.i + west dir = omega (arith, rc, tc, oc) in
    let rows : before.j + north dir ≡ cell.j + south dir = omega (arith, rr, tr, or) in
    (before, (record { columns = omega (arith, columns); rows = omega (arith, rows) }, record { columns = omega (arith, columns, tc, gc); rows = omega (arith, rows, tr, gr) }))

-- the cell beside the one before is blocked exactly where the one back to that side is not passable
pub blocked_from_back : (passes : Cell → Bool) (cell : Cell) (arrived : Dir) (side : Side) → is_straight arrived ≡ true
    → (IsFreeBeside passes cell (behind_to side arrived) → ⊥) → IsBlockedBefore passes cell arrived side
blocked_from_back passes cell arrived side straight none before leads free =
    none (free.0, (leads_back arrived (aside_to side arrived) (behind_to side arrived) (goes_aside side arrived straight) before cell free.0 leads free.1.0, free.1.1))

pub back_from_blocked : (passes : Cell → Bool) (cell : Cell) (arrived : Dir) (side : Side) → is_straight arrived ≡ true
    → IsBlockedBefore passes cell arrived side → IsFreeBeside passes cell (behind_to side arrived) → ⊥
back_from_blocked passes cell arrived side straight blocked free =
    let found = cell_before arrived (aside_to side arrived) (behind_to side arrived) (goes_aside side arrived straight) cell free.0 free.1.0 in
    blocked found.0 found.1.0 (free.0, (found.1.1, free.1.1))

pub aside_straight : (side : Side) (dir : Dir) → is_straight dir ≡ true → is_straight (aside_to side dir) ≡ true
aside_straight Left N straight = refl
aside_straight Left E straight = refl
aside_straight Left S straight = refl
aside_straight Left W straight = refl
aside_straight Right N straight = refl
aside_straight Right E straight = refl
aside_straight Right S straight = refl
aside_straight Right W straight = refl
aside_straight side NE straight = absurd (false≢true straight)
aside_straight side SE straight = absurd (false≢true straight)
aside_straight side SW straight = absurd (false≢true straight)
aside_straight side NW straight = absurd (false≢true straight)

-- the direction aside is a straight part of the one ahead to that side
aside_part : (side : Side) (dir : Dir) → is_straight dir ≡ true
    → (row_part (ahead_to side dir) ≡ aside_to side dir) ⊎ (column_part (ahead_to side dir) ≡ aside_to side dir)
aside_part Left N straight = inl refl
aside_part Left E straight = inr refl
aside_part Left S straight = inl refl
aside_part Left W straight = inr refl
aside_part Right N straight = inl refl
aside_part Right E straight = inr refl
aside_part Right S straight = inl refl
aside_part Right W straight = inr refl
aside_part side NE straight = absurd (false≢true straight)
aside_part side SE straight = absurd (false≢true straight)
aside_part side SW straight = absurd (false≢true straight)
aside_part side NW straight = absurd (false≢true straight)

-- a legal turn to a side needs the cell aside
pub free_aside : (passes : Cell → Bool) (cell : Cell) (arrived dir : Dir) (side : Side) → is_straight arrived ≡ true → IsTurn side arrived dir
    → IsLegalFrom passes cell dir → IsFreeBeside passes cell (aside_to side arrived)
free_aside passes cell arrived dir side straight turn legal =
    let free = legal_is_free passes dir cell legal in
    let F = λ (way : Dir). IsFreeBeside passes cell way in
    elim turn [
      | inl ahead ↦ elim (aside_part side arrived straight) [
        | inl row ↦ subst F (ap row_part ahead ∙ row) free.1.0
        | inr column ↦ subst F (ap column_part ahead ∙ column) free.1.1
      ]
      | inr aside ↦ subst F aside free.0
    ]

-- a forced step is legal exactly where to a forcing side the cell is passable
pub HasForced-from_side : (passes : Cell → Bool) (cell : Cell) (arrived : Dir) (side : Side) → IsTrue (passes cell)
    → IsForcing passes cell arrived side × IsFreeBeside passes cell (aside_to side arrived) → HasForced passes cell arrived
HasForced-from_side passes cell arrived side here both =
    let free = both.1 in
    let aside = aside_to side arrived in (
      aside,
      (
        (free.0, straight_step passes aside cell free.0 (aside_straight side arrived both.0.0) free.1.0 here free.1.1),
        (side, (both.0, inr refl)),
      ),
    )

pub side_from_HasForced : (passes : Cell → Bool) (cell : Cell) (arrived : Dir) → HasForced passes cell arrived
    → (side : Side) × (IsForcing passes cell arrived side × IsFreeBeside passes cell (aside_to side arrived))
side_from_HasForced passes cell arrived forced =
    let side = forced.1.1.0 in
    let forcing = forced.1.1.1.0 in
    (side, (forcing, free_aside passes cell arrived forced.0 side forcing.0 forced.1.1.1.1 forced.1.0))

pub either_side : (Of : Side → Type 0) → (side : Side) × Of side → Of Left ⊎ Of Right
either_side Of (Left, is) = inl is
either_side Of (Right, is) = inr is

pub not_true : (answer : Bool) → IsTrue (not answer) → IsTrue answer → ⊥
not_true true turned is = absurd (false≢true turned)
not_true false turned is = absurd (false≢true is)

pub true_not : (answer : Bool) → (IsTrue answer → ⊥) → IsTrue (not answer)
true_not true never = absurd (never refl)
true_not false never = refl

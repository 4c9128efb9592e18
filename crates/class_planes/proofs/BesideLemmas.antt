-- The cells beside one, by the bits of its row and of the rows beside it.
use Rattle.std.proofs.Common.{◌≡◌, ◌↔◌, ◌&&◌, ◌==◌, ◌+◌, ◌-◌, ◌/◌, ◌^◌, ◌<◌, ℕ, Bool, true, false, bit_and, IsTrue, refl, ap, sym, subst, ◌∙◌, arith}
use Rattle.std.specs.Prelude.{nat_lt}
use Rattle.std.specs.Int.{bit_at}
use Rattle.std.proofs.lemmas.Bool.{and_parts, and_from, ltb-true, lt-ltb}
use Rattle.std.proofs.lemmas.Nat.Bits.{bit_at_and, bit_at_ones, bit_at-lt}
use Rattle.nav_types.specs.declared.cells.Cell.{Cell}
use Rattle.nav_types.specs.declared.directions.Dir.{Dir}
use Rattle.nav_types.specs.declared.directions.Dir.TheVariants.{N, E, S, W, NE, SE, SW, NW}
use Rattle.nav_types.specs.declared.directions.DirSet.{DirSet}
use Rattle.nav_types.specs.Cells.{cell_at}
use Rattle.nav_types.specs.Directions.{Leads}
use Rattle.nav_types.specs.DirSets.{holds, is_set_towards}
use Rattle.nav_types.specs.Beside.{IsFreeBeside}
use Rattle.nav_types.proofs.Walking.{leads_to_same}
use Rattle.lane_rows.specs.Rows.{one_if}
use Rattle.nav_types.proofs.Bits.{bit_at-shr}
use Rattle.class_planes.specs.inner.Runs.{is_before}
use Rattle.class_planes.proofs.PlaneLemmas.{told}

-- what a line tells of three neighbouring places
pub record TellsThree (free : ℕ → Bool) (i : ℕ) (before here after : Bool) : Type 0 where
  pub at_before : before ≡ (nat_lt 0 i && free (i - 1))
  pub at_here : here ≡ free i
  pub at_after : after ≡ free (i + 1)

pub three_told : (free : ℕ → Bool) (bit : ℕ → ℕ) (i : ℕ) (before here after : Bool) → ((k : ℕ) → bit k ≡ one_if (free k))
    → before ≡ (nat_lt 0 i && (bit (i - 1) == 1)) → here ≡ (bit i == 1) → after ≡ (bit (i + 1) == 1)
    → TellsThree free i before here after
three_told free bit i before here after bits one two three =
    let tells : (k : ℕ) → (bit k == 1) ≡ free k = λ k. ap (λ n. n == 1) (bits k) ∙ told (free k) in
    record {
      at_before = one ∙ ap (λ b. nat_lt 0 i && b) (tells (i - 1));
      at_here = two ∙ tells i;
      at_after = three ∙ tells (i + 1);
    }

-- the flag tells whether the cell that the direction leads to is passable, where it leads to one
led : (passes : Cell → Bool) (dir : Dir) (cell next : Cell) (leads_on flag : Bool) → flag ≡ (leads_on && passes next)
    → (IsTrue leads_on → Leads dir cell next) → ((x : Cell) → Leads dir cell x → IsTrue leads_on)
    → IsTrue flag ↔ IsFreeBeside passes cell dir
led passes dir cell next leads_on flag is there needs = (
  (λ on.
      let both = and_parts leads_on (passes next) (sym is ∙ on) in
      (next, (there both.0, both.1))),
  (λ free.
      let yes = needs free.0 free.1.0 in
      is ∙ and_from leads_on (passes next) yes
      (subst (λ (c : Cell). IsTrue (passes c)) (leads_to_same dir cell free.0 next free.1.0 (there yes)) free.1.1)),
)

both_before : (a b c : Bool) → (a && (b && c)) ≡ ((a && b) && c)
both_before true b c = refl
both_before false b c = refl

one_up : (i : ℕ) → IsTrue (nat_lt 0 i) → (i - 1) + 1 ≡ i
one_up i some = let is = ltb-true 0 i some in omega arith

up_one : (x i : ℕ) → x + 1 ≡ i → IsTrue (nat_lt 0 i)
up_one x i is = lt-ltb 0 i (omega (arith, is))

-- the directions in which the cell beside is passable, by what the rows tell
pub all_beside : (passes : Cell → Bool) (cell : Cell) (up mid down : ℕ) (set : DirSet)
    → TellsThree (λ k. passes (cell_at k (cell.j + 1))) cell.i (bit_at up 0 == 1) (bit_at up 1 == 1) (bit_at up 2 == 1)
    → TellsThree (λ k. passes (cell_at k cell.j)) cell.i (bit_at mid 0 == 1) (bit_at mid 1 == 1) (bit_at mid 2 == 1)
    → TellsThree (is_before (λ n k. passes (cell_at k n)) cell.j) cell.i (bit_at down 0 == 1) (bit_at down 1 == 1) (bit_at down 2 == 1)
    → ((dir : Dir) → holds set dir ≡ is_set_towards dir up mid down)
    → (dir : Dir) → IsTrue (holds set dir) ↔ IsFreeBeside passes cell dir
all_beside passes cell up mid down set north middle south are N =
    let i = cell.i in let j = cell.j in
    led passes N cell (cell_at i (j + 1)) true (holds set N) (are N ∙ north.at_here)
    (λ yes. record { columns = omega arith; rows = omega arith }) (λ x leads. refl)
all_beside passes cell up mid down set north middle south are E =
    let i = cell.i in let j = cell.j in
    led passes E cell (cell_at (i + 1) j) true (holds set E) (are E ∙ middle.at_after)
    (λ yes. record { columns = omega arith; rows = omega arith }) (λ x leads. refl)
all_beside passes cell up mid down set north middle south are S =
    let i = cell.i in let j = cell.j in
    led passes S cell (cell_at i (j - 1)) (nat_lt 0 j) (holds set S) (are S ∙ south.at_here)
    (λ yes. record { columns = omega arith; rows = omega (arith, one_up j yes) })
    (λ x leads. up_one x.j j (let r = leads.rows in omega arith))
all_beside passes cell up mid down set north middle south are W =
    let i = cell.i in let j = cell.j in
    led passes W cell (cell_at (i - 1) j) (nat_lt 0 i) (holds set W) (are W ∙ middle.at_before)
    (λ yes. record { columns = omega (arith, one_up i yes); rows = omega arith })
    (λ x leads. up_one x.i i (let c = leads.columns in omega arith))
all_beside passes cell up mid down set north middle south are NE =
    let i = cell.i in let j = cell.j in
    led passes NE cell (cell_at (i + 1) (j + 1)) true (holds set NE) (are NE ∙ north.at_after)
    (λ yes. record { columns = omega arith; rows = omega arith }) (λ x leads. refl)
all_beside passes cell up mid down set north middle south are SE =
    let i = cell.i in let j = cell.j in
    led passes SE cell (cell_at (i + 1) (j - 1)) (nat_lt 0 j) (holds set SE) (are SE ∙ south.at_after)
    (λ yes. record { columns = omega arith; rows = omega (arith, one_up j yes) })
    (λ x leads. up_one x.j j (let r = leads.rows in omega arith))
all_beside passes cell up mid down set north middle south are SW =
    let i = cell.i in let j = cell.j in
    let left = nat_lt 0 i in let low = nat_lt 0 j in
    led passes SW cell (cell_at (i - 1) (j - 1)) (left && low) (holds set SW)
    (are SW ∙ south.at_before ∙ both_before left low (passes (cell_at (i - 1) (j - 1))))
    (λ yes. let both = and_parts left low yes in record { columns = omega (arith, one_up i both.0); rows = omega (arith, one_up j both.1) })
    (λ x leads. and_from left low (up_one x.i i (let c = leads.columns in omega arith)) (up_one x.j j (let r = leads.rows in omega arith)))
all_beside passes cell up mid down set north middle south are NW =
    let i = cell.i in let j = cell.j in
    led passes NW cell (cell_at (i - 1) (j + 1)) (nat_lt 0 i) (holds set NW) (are NW ∙ north.at_before)
    (λ yes. record { columns = omega (arith, one_up i yes); rows = omega arith })
    (λ x leads. up_one x.i i (let c = leads.columns in omega arith))

-- three bits of a word that was moved down
pub bit_moved : (word k n : ℕ) → n < 3 → bit_at (bit_and (word / 2 ^ k) 7) n ≡ bit_at word (k + n)
bit_moved word k n small =
    let ones : bit_at 7 n ≡ 1 = bit_at_ones 3 n small in
    let moved = bit_at-shr word k n in
    omega (arith, bit_at_and (word / 2 ^ k) 7 n, ones, moved, bit_at-lt word (k + n))

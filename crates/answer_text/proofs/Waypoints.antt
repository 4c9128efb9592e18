-- A waypoint is a cell's centre in canonical text.
use Rattle.std.proofs.Common.{◌≡◌, ℕ, ◌+◌, ◌*◌, ◌/◌, ◌%◌, [], ◌++◌, ◌∷◌, pos, cond, decimal, ap, ◌∙◌, arith, append_assoc}
use Rattle.std.specs.Prelude.{codes}
use Rattle.std.proofs.lemmas.Bool.{le-ltb}
use Rattle.nav_types.specs.declared.cells.Cell.{Cell}
use Rattle.fixed_point.specs.Raw.{centre_of}
use Rattle.fixed_point.specs.Text.{fixed_text, fraction_text}
use Rattle.answer_text.specs.Answers.{waypoint_text}

-- the canonical text of a raw number that is not negative
unsigned_text : (n : ℕ) → fixed_text (pos n) ≡ decimal (n / 65536) ++ fraction_text (n % 65536)
unfolding fixed_text
unsigned_text n = ap (λ b. cond b (45 ∷ []) [] ++ decimal (n / 65536) ++ fraction_text (n % 65536)) (le-ltb n 0 (omega arith))

-- the whole part of a centre is the navcell's column or row
whole_centre : (i : ℕ) → (65536 * i + 32768) / 65536 ≡ i
whole_centre i = omega arith

-- its fraction is one half
half_centre : (i : ℕ) → (65536 * i + 32768) % 65536 ≡ 32768
half_centre i = omega arith

-- the canonical text of a centre
centre_text : (i : ℕ) → fixed_text (centre_of i) ≡ decimal i ++ codes ".5"
centre_text i =
    unsigned_text (65536 * i + 32768)
    ∙ (ap (λ (n : ℕ). decimal n ++ fraction_text ((65536 * i + 32768) % 65536)) (whole_centre i)
    ∙ ap (λ (n : ℕ). decimal i ++ fraction_text n) (half_centre i))

pub waypoint_is_canonical : (cell : Cell) → waypoint_text cell ≡ fixed_text (centre_of cell.i) ++ 44 ∷ fixed_text (centre_of cell.j)
waypoint_is_canonical cell = rw (centre_text cell.i, centre_text cell.j) (simp append_assoc)

-- Sets of directions, case by case.
use Rattle.std.proofs.Common.{◌≡◌, ◌≢◌, ◌↔◌, ◌⊎◌, ◌==◌, ◌+◌, ◌-◌, ◌&&◌, ◌*◌, ◌^◌, ◌%◌, ◌<◌, ◌≤◌, ℕ, zero, suc, Bool, true, false, IsTrue, inl, inr, refl, sym, ap, subst, w16, ◌∙◌, arith}
use Rattle.std.specs.Prelude.{bit_or, bit_and, if◌then◌else◌}
use Rattle.std.specs.Int.{bit_at}
use Rattle.std.proofs.lemmas.Nat.Bits.{bit_at_set_same, bit_at_set_other, bit_at_or, bit_at_and, bit_at_ones, bit_at_ones_above, bit_at-lt}
use Rattle.std.proofs.lemmas.Bool.{both_ways, and_parts, and_from}
use Rattle.nav_types.specs.declared.directions.Dir.{Dir}
use Rattle.nav_types.specs.declared.directions.Dir.TheVariants.{N, E, S, W, NE, SE, SW, NW}
use Rattle.nav_types.specs.declared.directions.DirSet.{DirSet}
use Rattle.nav_types.specs.declared.cells.Cell.{Cell}
use Rattle.nav_types.specs.Directions.{north, south, east, west, row_part, column_part}
use Rattle.nav_types.specs.Beside.{IsFreeBeside, IsLegalFrom}
use Rattle.nav_types.specs.DirSets.{holds, spot_of, is_set_towards}
use Rattle.nav_types.proofs.Walking.{free_is_legal, legal_is_free}

-- the direction of a spot
dir_at : ℕ → Dir
dir_at zero = NW
dir_at (suc zero) = N
dir_at (suc (suc zero)) = NE
dir_at (suc (suc (suc zero))) = W
dir_at (suc (suc (suc (suc (suc zero))))) = E
dir_at (suc (suc (suc (suc (suc (suc zero)))))) = SW
dir_at (suc (suc (suc (suc (suc (suc (suc zero))))))) = S
dir_at n = SE

at_spot : (dir : Dir) → dir_at (spot_of dir) ≡ dir
unfolding dir_at
at_spot N = refl
at_spot E = refl
at_spot S = refl
at_spot W = refl
at_spot NE = refl
at_spot SE = refl
at_spot SW = refl
at_spot NW = refl

-- two directions have two spots
pub spots_apart : (one other : Dir) → one ≢ other → spot_of one ≢ spot_of other
spots_apart one other apart same = apart (sym (at_spot one) ∙ ap dir_at same ∙ at_spot other)

-- a bit that is set
pub spot_set : (old at spot : ℕ) → at ≡ spot → at < 16 → IsTrue (bit_at (bit_or old (1 * 2 ^ at % 65536)) spot == 1)
spot_set old at spot same few =
    ap (λ b. b == 1) (ap (bit_at (bit_or old (1 * 2 ^ at % 65536))) (sym same) ∙ bit_at_set_same w16 old at few)

-- and the others
pub spot_kept : (old at spot : ℕ) → at < 16 → spot ≢ at
    → (bit_at (bit_or old (1 * 2 ^ at % 65536)) spot == 1) ≡ (bit_at old spot == 1)
spot_kept old at spot few apart = ap (λ b. b == 1) (bit_at_set_other w16 old at few spot apart)

-- where one of three numbers alone may have a bit
of_first : (a b c i : ℕ) → bit_at b i ≡ 0 → bit_at c i ≡ 0 → bit_at (bit_or (bit_or a b) c) i ≡ bit_at a i
of_first a b c i no_b no_c = omega (arith, bit_at_or (bit_or a b) c i, bit_at_or a b i, no_b, no_c)

of_second : (a b c i : ℕ) → bit_at a i ≡ 0 → bit_at c i ≡ 0 → bit_at (bit_or (bit_or a b) c) i ≡ bit_at b i
of_second a b c i no_a no_c = omega (arith, bit_at_or (bit_or a b) c i, bit_at_or a b i, no_a, no_c)

of_third : (a b c i : ℕ) → bit_at a i ≡ 0 → bit_at b i ≡ 0 → bit_at (bit_or (bit_or a b) c) i ≡ bit_at c i
of_third a b c i no_a no_b = omega (arith, bit_at_or (bit_or a b) c i, bit_at_or a b i, no_a, no_b)

-- the lowest three bits of a row
in_row : (row i : ℕ) → i < 3 → bit_at (bit_and row 7) i ≡ bit_at row i
in_row row i small =
    let ones : bit_at 7 i ≡ 1 = bit_at_ones 3 i small in
    omega (arith, bit_at_and row 7 i, ones, bit_at-lt row i)

past_row : (row i : ℕ) → 3 ≤ i → bit_at (bit_and row 7) i ≡ 0
past_row row i past =
    let none : bit_at 7 i ≡ 0 = bit_at_ones_above 3 i past in
    omega (arith, bit_at_and row 7 i, none)

-- the two outer ones
in_pair : (row i : ℕ) → bit_at 5 i ≡ 1 → bit_at (bit_and row 5) i ≡ bit_at row i
in_pair row i set = omega (arith, bit_at_and row 5 i, set, bit_at-lt row i)

past_pair : (row i : ℕ) → bit_at 5 i ≡ 0 → bit_at (bit_and row 5) i ≡ 0
past_pair row i none = omega (arith, bit_at_and row 5 i, none)

-- the bits of three rows, each moved up to its spots
abbrev pub rows_about : ℕ → ℕ → ℕ → ℕ
rows_about northern middle southern = bit_or (bit_or (bit_and northern 7) (bit_and middle 5 * 8 % 65536)) (bit_and southern 7 * 64 % 65536)

-- each direction's bit among them
bit_towards : (northern middle southern : ℕ) (dir : Dir)
    → bit_at (rows_about northern middle southern) (spot_of dir)
    ≡ bit_at (if north dir == 1 then northern else (if south dir == 1 then southern else middle)) (1 + east dir - west dir)
bit_towards northern middle southern NW =
    let a = bit_and northern 7 in let b = bit_and middle 5 in let c = bit_and southern 7 in
    of_first a (b * 8 % 65536) (c * 64 % 65536) 0 (omega arith) (omega arith) ∙ in_row northern 0 (omega arith)
bit_towards northern middle southern N =
    let a = bit_and northern 7 in let b = bit_and middle 5 in let c = bit_and southern 7 in
    of_first a (b * 8 % 65536) (c * 64 % 65536) 1 (omega arith) (omega arith) ∙ in_row northern 1 (omega arith)
bit_towards northern middle southern NE =
    let a = bit_and northern 7 in let b = bit_and middle 5 in let c = bit_and southern 7 in
    of_first a (b * 8 % 65536) (c * 64 % 65536) 2 (omega arith) (omega arith) ∙ in_row northern 2 (omega arith)
bit_towards northern middle southern W =
    let a = bit_and northern 7 in let b = bit_and middle 5 in let c = bit_and southern 7 in
    let moved : bit_at (b * 8 % 65536) 3 ≡ bit_at b 0 = omega arith in
    of_second a (b * 8 % 65536) (c * 64 % 65536) 3 (past_row northern 3 (omega arith)) (omega arith) ∙ moved ∙ in_pair middle 0 refl
bit_towards northern middle southern E =
    let a = bit_and northern 7 in let b = bit_and middle 5 in let c = bit_and southern 7 in
    let moved : bit_at (b * 8 % 65536) 5 ≡ bit_at b 2 = omega arith in
    of_second a (b * 8 % 65536) (c * 64 % 65536) 5 (past_row northern 5 (omega arith)) (omega arith) ∙ moved ∙ in_pair middle 2 refl
bit_towards northern middle southern SW =
    let a = bit_and northern 7 in let b = bit_and middle 5 in let c = bit_and southern 7 in
    let none : bit_at (b * 8 % 65536) 6 ≡ bit_at b 3 = omega arith in
    let moved : bit_at (c * 64 % 65536) 6 ≡ bit_at c 0 = omega arith in
    of_third a (b * 8 % 65536) (c * 64 % 65536) 6 (past_row northern 6 (omega arith)) (none ∙ past_pair middle 3 refl) ∙ moved ∙ in_row southern 0 (omega arith)
bit_towards northern middle southern S =
    let a = bit_and northern 7 in let b = bit_and middle 5 in let c = bit_and southern 7 in
    let none : bit_at (b * 8 % 65536) 7 ≡ bit_at b 4 = omega arith in
    let moved : bit_at (c * 64 % 65536) 7 ≡ bit_at c 1 = omega arith in
    of_third a (b * 8 % 65536) (c * 64 % 65536) 7 (past_row northern 7 (omega arith)) (none ∙ past_pair middle 4 refl) ∙ moved ∙ in_row southern 1 (omega arith)
bit_towards northern middle southern SE =
    let a = bit_and northern 7 in let b = bit_and middle 5 in let c = bit_and southern 7 in
    let none : bit_at (b * 8 % 65536) 8 ≡ bit_at b 5 = omega arith in
    let moved : bit_at (c * 64 % 65536) 8 ≡ bit_at c 2 = omega arith in
    of_third a (b * 8 % 65536) (c * 64 % 65536) 8 (past_row northern 8 (omega arith)) (none ∙ past_pair middle 5 refl) ∙ moved ∙ in_row southern 2 (omega arith)

-- whether it is set
pub rows_tell : (northern middle southern : ℕ) (dir : Dir)
    → (bit_at (rows_about northern middle southern) (spot_of dir) == 1) ≡ is_set_towards dir northern middle southern
rows_tell northern middle southern dir = ap (λ (bit : ℕ). bit == 1) (bit_towards northern middle southern dir)

-- two answers that are true together are the same
pub same_answer : (one other : Bool) → IsTrue one ↔ IsTrue other → one ≡ other
same_answer true true is = refl
same_answer false false is = refl
same_answer true false is = sym (is.0 refl)
same_answer false true is = is.1 refl

-- the new set has the direction too where that is wanted
abbrev pub Adds : (Dir → Type 0) → Dir → DirSet → DirSet → Type 0
Adds Wanted dir old new = (other : Dir) → IsTrue (holds new other) ↔ (IsTrue (holds old other) ⊎ (Wanted other × (other ≡ dir)))

still : (Wanted : Dir → Type 0) (dir : Dir) (old new : DirSet) (other : Dir) → Adds Wanted dir old new
    → IsTrue (holds old other) → IsTrue (holds new other)
still Wanted dir old new other adds had = (adds other).1 (inl had)

added : (Wanted : Dir → Type 0) (dir : Dir) (old new : DirSet) → Adds Wanted dir old new → Wanted dir → IsTrue (holds new dir)
added Wanted dir old new adds wanted = (adds dir).1 (inr (wanted, refl))

only : (Wanted : Dir → Type 0) (dir : Dir) (old new : DirSet) (other : Dir) → Adds Wanted dir old new
    → (IsTrue (holds old other) → Wanted other) → IsTrue (holds new other) → Wanted other
only Wanted dir old new other adds before has = elim ((adds other).0 has) [
  | inl had ↦ before had
  | inr is ↦ is.0
]

each_added : (Wanted : Dir → Type 0) (none n e s w ne se sw nw : DirSet)
    → Adds Wanted N none n → Adds Wanted E n e → Adds Wanted S e s → Adds Wanted W s w
    → Adds Wanted NE w ne → Adds Wanted SE ne se → Adds Wanted SW se sw → Adds Wanted NW sw nw
    → (dir : Dir) → Wanted dir → IsTrue (holds nw dir)
each_added Wanted none n e s w ne se sw nw add_n add_e add_s add_w add_ne add_se add_sw add_nw N wanted =
    still Wanted NW sw nw N add_nw (still Wanted SW se sw N add_sw (still Wanted SE ne se N add_se (still Wanted NE w ne N add_ne (still Wanted W s w N add_w (still Wanted S e s N add_s (still Wanted E n e N add_e (added Wanted N none n add_n wanted)))))))
each_added Wanted none n e s w ne se sw nw add_n add_e add_s add_w add_ne add_se add_sw add_nw E wanted =
    still Wanted NW sw nw E add_nw (still Wanted SW se sw E add_sw (still Wanted SE ne se E add_se (still Wanted NE w ne E add_ne (still Wanted W s w E add_w (still Wanted S e s E add_s (added Wanted E n e add_e wanted))))))
each_added Wanted none n e s w ne se sw nw add_n add_e add_s add_w add_ne add_se add_sw add_nw S wanted =
    still Wanted NW sw nw S add_nw (still Wanted SW se sw S add_sw (still Wanted SE ne se S add_se (still Wanted NE w ne S add_ne (still Wanted W s w S add_w (added Wanted S e s add_s wanted)))))
each_added Wanted none n e s w ne se sw nw add_n add_e add_s add_w add_ne add_se add_sw add_nw W wanted =
    still Wanted NW sw nw W add_nw (still Wanted SW se sw W add_sw (still Wanted SE ne se W add_se (still Wanted NE w ne W add_ne (added Wanted W s w add_w wanted))))
each_added Wanted none n e s w ne se sw nw add_n add_e add_s add_w add_ne add_se add_sw add_nw NE wanted =
    still Wanted NW sw nw NE add_nw (still Wanted SW se sw NE add_sw (still Wanted SE ne se NE add_se (added Wanted NE w ne add_ne wanted)))
each_added Wanted none n e s w ne se sw nw add_n add_e add_s add_w add_ne add_se add_sw add_nw SE wanted =
    still Wanted NW sw nw SE add_nw (still Wanted SW se sw SE add_sw (added Wanted SE ne se add_se wanted))
each_added Wanted none n e s w ne se sw nw add_n add_e add_s add_w add_ne add_se add_sw add_nw SW wanted =
    still Wanted NW sw nw SW add_nw (added Wanted SW se sw add_sw wanted)
each_added Wanted none n e s w ne se sw nw add_n add_e add_s add_w add_ne add_se add_sw add_nw NW wanted =
    added Wanted NW sw nw add_nw wanted

-- a set to which each of the eight directions that is wanted was added has those
pub gathered : (Wanted : Dir → Type 0) (none n e s w ne se sw nw : DirSet) → ((dir : Dir) → holds none dir ≡ false)
    → Adds Wanted N none n → Adds Wanted E n e → Adds Wanted S e s → Adds Wanted W s w
    → Adds Wanted NE w ne → Adds Wanted SE ne se → Adds Wanted SW se sw → Adds Wanted NW sw nw
    → (dir : Dir) → IsTrue (holds nw dir) ↔ Wanted dir
gathered Wanted none n e s w ne se sw nw empty add_n add_e add_s add_w add_ne add_se add_sw add_nw dir = (
  only Wanted NW sw nw dir add_nw (only Wanted SW se sw dir add_sw (only Wanted SE ne se dir add_se (only Wanted NE w ne dir add_ne
      (only Wanted W s w dir add_w (only Wanted S e s dir add_s (only Wanted E n e dir add_e (only Wanted N none n dir add_n
      (λ never. absurd (both_ways (holds none dir) (empty dir) never))))))))),
  each_added Wanted none n e s w ne se sw nw add_n add_e add_s add_w add_ne add_se add_sw add_nw dir,
)

-- a direction that is added where a flag says that it is wanted
pub adds_where : (Wanted : Dir → Type 0) (dir : Dir) (old new : DirSet) (flag : Bool) → IsTrue flag ↔ Wanted dir
    → ((other : Dir) → IsTrue (holds new other) ↔ (IsTrue (holds old other) ⊎ (IsTrue flag × (other ≡ dir))))
    → Adds Wanted dir old new
adds_where Wanted dir old new flag is with_dir other = (
  (λ has. elim ((with_dir other).0 has) [
    | inl had ↦ inl had
    | inr now ↦ inr (subst Wanted (sym now.1) (is.0 now.0), now.1)
  ]),
  (λ has. elim has [
    | inl had ↦ (with_dir other).1 (inl had)
    | inr now ↦ (with_dir other).1 (inr (is.1 (subst Wanted now.1 now.0), now.1))
  ]),
)

-- an answer tells what another does that it equals
pub as_true : (one other : Bool) → one ≡ other → IsTrue one ↔ IsTrue other
as_true one other is = ((λ so. sym is ∙ so), (λ so. is ∙ so))

-- a step from a passable cell is legal where the cells in its direction and in its two straight parts are free
pub legal_of_free : (passes : Cell → Bool) (cell : Cell) (free : DirSet) (dir : Dir) → IsTrue (passes cell)
    → ((way : Dir) → IsTrue (holds free way) ↔ IsFreeBeside passes cell way)
    → IsTrue (holds free dir && (holds free (row_part dir) && holds free (column_part dir))) ↔ IsLegalFrom passes cell dir
legal_of_free passes cell free dir here are =
    let row = holds free (row_part dir) in
    let column = holds free (column_part dir) in (
      (λ held.
          let all = and_parts (holds free dir) (row && column) held in
          let parts = and_parts row column all.1 in
          free_is_legal passes dir cell here ((are dir).0 all.0) ((are (row_part dir)).0 parts.0) ((are (column_part dir)).0 parts.1)),
      (λ legal.
          let parts = legal_is_free passes dir cell legal in
          and_from (holds free dir) (row && column) ((are dir).1 parts.0)
          (and_from row column ((are (row_part dir)).1 parts.1.0) ((are (column_part dir)).1 parts.1.1))),
    )

-- Columns that are read from rows, 16 at a time.
use Rattle.std.proofs.Common.{[], ◌∷◌, replicate, ◌≡◌, ◌≢◌, ℕ, ◌+◌, ◌-◌, ◌*◌, ◌/◌, ◌%◌, ◌^◌, ◌<◌, ◌≤◌, Bool, true, false, ◌&&◌, ltb, List, ◌++◌, take, drop, length, get_or, set, refl, sym, ap, ap₂, ◌∙◌, subst, ⊎_elim, drop-drop, arith}
use Rattle.std.specs.Int.{bit_at}
use Rattle.std.proofs.lemmas.Bool.{cases_lt, cases_eq, true≢false, false_from_ne_true, le-ltb, ltb-true}
use Rattle.std.proofs.lemmas.Nat.{mul-le}
use Rattle.std.proofs.lemmas.Nat.Bits.{bit_at-zero, bit_at_cat_low}
use Rattle.std.proofs.lemmas.List.{get_or_past, length-take, length-replicate, get_or-set_same, get_or-set_other, get_or_append_left, get_or-append_right, get_or-take, get_or-drop, length-take-le, length-drop}
use Rattle.std.specs.Prelude.{slice_range}
use Rattle.nav_types.specs.declared.cells.Rect.{Rect}
use Rattle.nav_types.specs.Cells.{cell_at}
use Rattle.nav_types.proofs.Bits.{bit_at-shr}
use Rattle.lane_rows.specs.Rows.{one_if}
use Rattle.class_planes.specs.Planes.{IsOutside}
use Rattle.class_planes.specs.inner.Lines.{LineTable, RowTable, IsBand, AreLines, AreColumnsBefore, line_at, line_in, patched, free_at, free_cell}
use Rattle.class_planes.specs.inner.Runs.{bit_in}
use Rattle.class_planes.proofs.BitLemmas.{zero_at}
use Rattle.class_planes.proofs.PlaneLemmas.{both_parts}

-- 16 bits of a word that is moved down
pub quarter_bit : (word s k : ℕ) → k < 16 → bit_at (word / 2 ^ s % 65536) k ≡ bit_at word (s + k)
quarter_bit word s k small =
    let x : ℕ = word / 2 ^ s in
    let parts : x / 65536 * 65536 + x % 65536 ≡ x = omega arith in
    sym (bit_at_cat_low (x / 65536) 16 (x % 65536) k small)
    ∙ ap (λ n. bit_at n k) parts
    ∙ bit_at-shr word s k

-- the word and the place in it of one of 16 bits
pub sixteen_bit : (line : List ℕ) (at group k : ℕ) → at ≡ group → k < 16
    → bit_at (get_or line (at / 4) 0) (16 * (group % 4) + k) ≡ bit_in line (16 * group + k)
sixteen_bit line at group k is small =
    let word : at / 4 ≡ (16 * group + k) / 64 = omega arith in
    let place : 16 * (group % 4) + k ≡ (16 * group + k) % 64 = omega arith in
    ap₂ (λ w p. bit_at (get_or line w 0) p) word place

middle_false : (a b x : Bool) → b ≡ false → (a && b && x) ≡ false
middle_false true true x is = absurd (true≢false is)
middle_false true false x is = refl
middle_false false b x is = refl

-- past the last row nothing is free
pub past_rows : (table : RowTable) (i j : ℕ) → table.size.h ≤ j → free_cell table (cell_at i j) ≡ false
past_rows table i j past =
    middle_false (ltb i table.size.w) (ltb j table.size.h) (free_at table.rows j i) (le-ltb j table.size.h past)

-- one number more is read into those from a place on
pub numbers_more : (bit : ℕ → ℕ → ℕ) (numbers : List ℕ) (from i v : ℕ) → from + i < length numbers
    → ((j k : ℕ) → j < i → k < 16 → bit_at (get_or numbers (from + j) 0) k ≡ bit j k)
    → ((k : ℕ) → k < 16 → bit_at v k ≡ bit i k)
    → (j k : ℕ) → j < i + 1 → k < 16 → bit_at (get_or (set numbers (from + i) v) (from + j) 0) k ≡ bit j k
numbers_more bit numbers from i v within old new j k below small = ⊎_elim
    (λ (same : j ≡ i).
    ap (λ p. bit_at (get_or (set numbers (from + i) v) (from + p) 0) k) same
    ∙ ap (λ n. bit_at n k) (get_or-set_same numbers (from + i) v 0 within)
    ∙ new k small
    ∙ ap (λ p. bit p k) (sym same))
    (λ (other : j ≢ i).
    ap (λ n. bit_at n k) (get_or-set_other numbers (from + i) (from + j) v 0 (λ (is : from + j ≡ from + i). other (omega (arith, is))))
    ∙ old j k (omega arith) small)
    (cases_eq j i)

-- and the others stay
pub numbers_else : (numbers first : List ℕ) (from count i v j : ℕ) → i < count
    → ((j : ℕ) → (from ≤ j → j < from + count → ⊥) → get_or numbers j 0 ≡ get_or first j 0)
    → (from ≤ j → j < from + count → ⊥) → get_or (set numbers (from + i) v) j 0 ≡ get_or first j 0
numbers_else numbers first from count i v j below old out =
    get_or-set_other numbers (from + i) j v 0 (λ (is : j ≡ from + i). out (omega (arith, is)) (omega (arith, is, below)))
    ∙ old j out

-- the band with the words in the place of so many
pub put_is : (band out : List ℕ) (start count : ℕ) → length out ≡ count
    → take start band ++ (out ++ drop (start + count - start) (drop start band)) ≡ patched band start out
put_is band out start count long =
    let k : ℕ = start + count - start in
    let there : start + k ≡ start + length out = omega (arith, long) in
    ap (λ (rest : List ℕ). take start band ++ (out ++ rest))
    (drop-drop k start band ∙ ap (λ (n : ℕ). drop n band) there)

-- the words of a line of which some are replaced
pub patched_here : (old part : List ℕ) (from w : ℕ) → from + length part ≤ length old → from ≤ w → w < from + length part
    → get_or (patched old from part) w 0 ≡ get_or part (w - from) 0
patched_here old part from w within low high =
    let rest : List ℕ = drop (from + length part) old in
    let front : length (take from old) ≡ from = length-take-le from old (omega arith) in
    get_or-append_right (take from old) (part ++ rest) from w 0 front low
    ∙ get_or_append_left part rest 0 (w - from) (omega arith)

patched_before : (old part : List ℕ) (from w : ℕ) → from + length part ≤ length old → w < from
    → get_or (patched old from part) w 0 ≡ get_or old w 0
patched_before old part from w within below =
    let rest : List ℕ = drop (from + length part) old in
    let front : length (take from old) ≡ from = length-take-le from old (omega arith) in
    get_or_append_left (take from old) (part ++ rest) 0 w (omega arith)
    ∙ get_or-take from old w 0 below

patched_after : (old part : List ℕ) (from w : ℕ) → from + length part ≤ length old → from + length part ≤ w
    → get_or (patched old from part) w 0 ≡ get_or old w 0
patched_after old part from w within above =
    let n : ℕ = length part in
    let rest : List ℕ = drop (from + n) old in
    let front : length (take from old) ≡ from = length-take-le from old (omega arith) in
    let there : from + n + (w - from - n) ≡ w = omega arith in
    get_or-append_right (take from old) (part ++ rest) from w 0 front (omega arith)
    ∙ get_or-append_right part rest n (w - from) 0 refl (omega arith)
    ∙ get_or-drop (from + n) old (w - from - n) 0
    ∙ ap (λ p. get_or old p 0) there

-- a word that is not replaced
pub patched_elsewhere : (old part : List ℕ) (from w : ℕ) → from + length part ≤ length old
    → (from ≤ w → w < from + length part → ⊥) → get_or (patched old from part) w 0 ≡ get_or old w 0
patched_elsewhere old part from w within out = ⊎_elim
    (λ (below : w < from). patched_before old part from w within below)
    (λ (low : from ≤ w). ⊎_elim
    (λ (high : w < from + length part). absurd (out low high))
    (λ (above : from + length part ≤ w). patched_after old part from w within above)
    (cases_lt w (from + length part)))
    (cases_lt w from)

-- how long a line is
pub line_long : (free : ℕ → ℕ → Bool) (count words n : ℕ) (table : LineTable) → AreLines free count words table
    → n / 32 < count → length (line_at table n) ≡ words
line_long free count words n table are below =
    let m : ℕ = n % 32 in
    let band : List ℕ = get_or table.bands (n / 32) [] in
    let long : length band ≡ 32 * words = (are.each (n / 32) below).long in
    let more : (m + 1) * words ≤ 32 * words = mul-le (m + 1) words 32 words (omega arith) (omega arith) in
    let fits : m * words + words ≤ length band = omega arith in
    let one : m * words + words - m * words ≡ words = omega arith in
    subst (λ (w : ℕ). length (line_in w band m) ≡ words) (sym are.wide)
    (length-take-le (m * words + words - m * words) (drop (m * words) band)
    (omega (arith, length-drop (m * words) band)) ∙ one)

-- a band whose places are the same
pub band_same : (earlier free : ℕ → ℕ → Bool) (band words : ℕ) (words_of : List ℕ)
    → IsBand earlier (32 * band) words 32 words_of
    → ((n i : ℕ) → n / 32 ≡ band → earlier n i ≡ free n i) → IsBand free (32 * band) words 32 words_of
band_same earlier free band words words_of is same = record {
  long = is.long;
  each = λ k below i. is.each k below i ∙ ap one_if (same (32 * band + k) i (omega arith));
}

-- ---- lines without a free place

zero_in : (n from to w : ℕ) → get_or {A = ℕ} (slice_range (replicate n 0) from to) w 0 ≡ 0
zero_in n from to w =
    let zeros : List ℕ = replicate n 0 in
    ⊎_elim
    (λ (below : w < to - from).
    get_or-take (to - from) (drop from zeros) w 0 below ∙ get_or-drop from zeros w 0 ∙ zero_at n (from + w))
    (λ (above : to - from ≤ w).
    get_or_past (take (to - from) (drop from zeros)) w 0 (omega (arith, length-take (to - from) (drop from zeros))))
    (cases_lt w (to - from))

pub blank_band : (first words n : ℕ) → n ≡ 32 * words → IsBand (λ n i. false) first words 32 (replicate n 0)
blank_band first words n long = record {
  long = length-replicate n 0 ∙ long;
  each = λ k below i.
      ap (λ word. bit_at word (i % 64)) (zero_in n (k * words) (k * words + words) (i / 64)) ∙ bit_at-zero (i % 64);
}

-- the blank lines are right outside of a rectangle that is the whole map
pub blank_before : (table : RowTable) (rects : List Rect) (rect : Rect) (columns : LineTable) → rects ≡ rect ∷ []
    → rect.i0 ≡ 0 → rect.j0 ≡ 0 → rect.i1 + 1 ≡ table.size.w → rect.j1 + 1 ≡ table.size.h
    → AreLines (λ n i. false) (table.size.w / 32 + 1) (table.size.h / 64 + 1) columns
    → AreColumnsBefore table rects columns
blank_before table rects rect columns one i0 j0 i1 j1 blank = record {
  earlier = λ n i. false;
  lines = blank;
  same = λ cell out.
      let outside : IsOutside (rect ∷ []) cell = subst (λ (rs : List Rect). IsOutside rs cell) one out in
      sym (false_from_ne_true (free_cell table cell) (λ yes.
      let sides = both_parts (ltb cell.i table.size.w) (ltb cell.j table.size.h) (free_at table.rows cell.j cell.i) yes in
      let east : cell.i < table.size.w = ltb-true cell.i table.size.w sides.0 in
      let north : cell.j < table.size.h = ltb-true cell.j table.size.h sides.1 in
      outside 0 rect (omega arith)
      (record { west = omega arith; east = omega arith; south = omega arith; north = omega arith })));
}

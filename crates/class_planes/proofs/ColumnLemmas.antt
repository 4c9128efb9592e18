-- Words that are written into a band of columns.
use Rattle.std.proofs.Common.{◌≡◌, ◌≢◌, ℕ, ◌+◌, ◌-◌, ◌*◌, ◌/◌, ◌%◌, ◌<◌, ◌≤◌, List, length, get_or, sym, ap, ap₂, ◌∙◌, subst, ⊎_elim, arith}
use Rattle.std.specs.Int.{bit_at}
use Rattle.std.proofs.lemmas.Bool.{cases_lt, cases_eq}
use Rattle.std.proofs.lemmas.Nat.{mul-le}
use Rattle.nav_types.specs.declared.cells.Rect.{Rect}
use Rattle.nav_types.specs.Cells.{IsInRect, cell_at}
use Rattle.lane_rows.specs.Rows.{one_if}
use Rattle.class_planes.specs.inner.Lines.{RowTable, IsBand, free_cell, patched}
use Rattle.class_planes.specs.inner.Reading.{IsColumnBit, band_bit}
use Rattle.class_planes.proofs.ReadLemmas.{band_right}
use Rattle.class_planes.proofs.UpdateLemmas.{in_rect_or_not}
use Rattle.class_planes.proofs.TurnLemmas.{past_rows, patched_here, patched_elsewhere}

-- the place of a word in a band
pub place_fits : (wide k w : ℕ) → k < 32 → w < wide → k * wide + w + 1 ≤ 32 * wide
place_fits wide k w below within =
    let more : (k + 1) * wide ≤ 32 * wide = mul-le (k + 1) wide 32 wide (omega arith) (omega arith) in
    omega (arith, more, within)

-- the bits of a word that is put into a band
pub put_bit : (wide k w m j : ℕ) (band out : List ℕ) → length out ≡ 1 → k * wide + w + 1 ≤ length band
    → m ≡ k → j / 64 ≡ w → band_bit wide (patched band (k * wide + w) out) m j ≡ bit_at (get_or out 0 0) (j % 64)
put_bit wide k w m j band out one fits line word =
    let place : ℕ = k * wide + w in
    let there : m * wide + j / 64 ≡ place = ap₂ (λ q p. q * wide + p) line word in
    let zero : place - place ≡ 0 = omega arith in
    ap (λ p. bit_at (get_or (patched band place out) p 0) (j % 64)) there
    ∙ ap (λ n. bit_at n (j % 64)) (patched_here band out place place (omega (arith, one, fits)) (omega arith)
    (omega (arith, one)))
    ∙ ap (λ p. bit_at (get_or out p 0) (j % 64)) zero

-- and the other bits stay
pub put_elsewhere : (wide k w m j : ℕ) (band out : List ℕ) → length out ≡ 1 → k * wide + w + 1 ≤ length band
    → w < wide → j / 64 < wide → (m ≡ k → j / 64 ≡ w → ⊥)
    → band_bit wide (patched band (k * wide + w) out) m j ≡ band_bit wide band m j
put_elsewhere wide k w m j band out one fits small within other =
    let place : ℕ = k * wide + w in
    ap (λ n. bit_at n (j % 64)) (patched_elsewhere band out place (m * wide + j / 64) (omega (arith, one, fits))
    (λ low high. ⊎_elim
    (λ (before : m < k).
    let more : (m + 1) * wide ≤ k * wide = mul-le (m + 1) wide k wide (omega arith) (omega arith) in
    omega (arith, more, low, within))
    (λ (not_before : k ≤ m). ⊎_elim
    (λ (after : k < m).
    let more : (k + 1) * wide ≤ m * wide = mul-le (k + 1) wide m wide (omega arith) (omega arith) in
    omega (arith, more, high, one, small))
    (λ (not_after : m ≤ k).
    let same : m ≡ k = omega arith in
    let line : m * wide ≡ k * wide = ap (λ q. q * wide) same in
    other same (omega (arith, line, low, high, one)))
    (cases_lt k m))
    (cases_lt m k)))

-- the word is written into one of 16 lines more
pub word_set : (wide half w from k : ℕ) (numbers before now out : List ℕ) → length out ≡ 1
    → (16 * half + k) * wide + w + 1 ≤ length before → w < wide
    → now ≡ patched before ((16 * half + k) * wide + w) out
    → ((v b : ℕ) → b < 64 → bit_at (get_or out v 0) b ≡ bit_at (get_or numbers (64 * v + b) 0) k)
    → ((q j : ℕ) → from ≤ q → q < k → j / 64 ≡ w
    → band_bit wide before (16 * half + q) j ≡ bit_at (get_or numbers (j % 64) 0) q)
    → (q j : ℕ) → from ≤ q → q < k + 1 → j / 64 ≡ w
    → band_bit wide now (16 * half + q) j ≡ bit_at (get_or numbers (j % 64) 0) q
word_set wide half w from k numbers before now out one fits small is bits old q j least below word =
    ap (λ xs. band_bit wide xs (16 * half + q) j) is
    ∙ ⊎_elim
    (λ (same : q ≡ k).
    let line : 16 * half + q ≡ 16 * half + k = omega (arith, same) in
    let there : 64 * 0 + j % 64 ≡ j % 64 = omega arith in
    put_bit wide (16 * half + k) w (16 * half + q) j before out one fits line word
    ∙ bits 0 (j % 64) (omega arith)
    ∙ ap₂ (λ p b. bit_at (get_or numbers p 0) b) there (sym same))
    (λ (other : q ≢ k).
    put_elsewhere wide (16 * half + k) w (16 * half + q) j before out one fits small (omega (arith, word, small))
    (λ line same. other (omega (arith, line)))
    ∙ old q j least (omega (arith, below, other)) word)
    (cases_eq q k)

-- and the other bits stay as they were at first
pub word_others : (wide half w from k : ℕ) (first before now out : List ℕ) → length out ≡ 1
    → (16 * half + k) * wide + w + 1 ≤ length before → w < wide
    → now ≡ patched before ((16 * half + k) * wide + w) out
    → ((m j : ℕ) → m < 32 → j / 64 < wide → (16 * half + from ≤ m → m < 16 * half + k → j / 64 ≡ w → ⊥)
    → band_bit wide before m j ≡ band_bit wide first m j)
    → (m j : ℕ) → m < 32 → j / 64 < wide → (16 * half + from ≤ m → m < 16 * half + (k + 1) → j / 64 ≡ w → ⊥)
    → from ≤ k → band_bit wide now m j ≡ band_bit wide first m j
word_others wide half w from k first before now out one fits small is old m j line within other least =
    ap (λ xs. band_bit wide xs m j) is
    ∙ put_elsewhere wide (16 * half + k) w m j before out one fits small within
    (λ same word. other (omega (arith, same, least)) (omega (arith, same)) word)
    ∙ old m j line within (λ a b word. other a (omega (arith, b)) word)

-- a band whose bits are right
pub columns_right : (table : RowTable) (band : ℕ) (new : List ℕ) → length new ≡ 32 * (table.size.h / 64 + 1)
    → ((m j : ℕ) → m < 32 → j / 64 < table.size.h / 64 + 1 → IsColumnBit table band new m j)
    → IsBand (λ i j. free_cell table (cell_at i j)) (32 * band) (table.size.h / 64 + 1) 32 new
columns_right table band new long bits =
    band_right (λ i j. free_cell table (cell_at i j)) (32 * band) (table.size.h / 64 + 1) new long
    (λ n i past. past_rows table n i (omega (arith, past))) bits

-- the bits that the numbers give to 16 columns
pub group_bit : (table : RowTable) (band half w m j k : ℕ) (numbers words : List ℕ) → m ≡ 16 * half + k → j / 64 ≡ w
    → band_bit (table.size.h / 64 + 1) words (16 * half + k) j ≡ bit_at (get_or numbers (j % 64) 0) k
    → bit_at (get_or numbers (j % 64) 0) k
    ≡ one_if (free_cell table (cell_at (16 * (2 * band + half) + k) (64 * w + j % 64)))
    → IsColumnBit table band words m j
group_bit table band half w m j k numbers words line word written read =
    let column : 16 * (2 * band + half) + k ≡ 32 * band + m = omega (arith, line) in
    let row : 64 * w + j % 64 ≡ j = omega (arith, word) in
    ap (λ q. band_bit (table.size.h / 64 + 1) words q j) line
    ∙ written
    ∙ read
    ∙ ap₂ (λ i p. one_if (free_cell table (cell_at i p))) column row

-- the line is one of those between and the word is that one, or not
pub in_group_or_not : {P : Type 0} (from to w m v : ℕ) → (from ≤ m → m < to → v ≡ w → P)
    → ((from ≤ m → m < to → v ≡ w → ⊥) → P) → P
in_group_or_not from to w m v here out = ⊎_elim
    (λ (before : m < from). out (λ low high word. omega (arith, before, low)))
    (λ (low : from ≤ m). ⊎_elim
    (λ (high : m < to). ⊎_elim
    (λ (word : v ≡ w). here low high word)
    (λ (other : v ≢ w). out (λ a b word. other word))
    (cases_eq v w))
    (λ (after : to ≤ m). out (λ a high word. omega (arith, after, high)))
    (cases_lt m to))
    (cases_lt m from)

-- the bits of a band that are right where none of the rectangles from place `from` on holds the cell
abbrev pub AreColumnsBut : RowTable → ℕ → List Rect → ℕ → List ℕ → Type 0
AreColumnsBut table band rects from words = (m j : ℕ) → m < 32 → j / 64 < table.size.h / 64 + 1
    → ((k : ℕ) (d : Rect) → from ≤ k → k < length rects → IsInRect (get_or rects k d) (cell_at (32 * band + m) j) → ⊥)
    → IsColumnBit table band words m j

-- one rectangle more is written
pub columns_but_more : (table : RowTable) (band : ℕ) (rects : List Rect) (from : ℕ) (rect : Rect) (old new : List ℕ)
    → ((d : Rect) → get_or rects from d ≡ rect) → AreColumnsBut table band rects from old
    → ((m j : ℕ) → m < 32 → IsInRect rect (cell_at (32 * band + m) j) → IsColumnBit table band new m j)
    → ((m j : ℕ) → m < 32 → j / 64 < table.size.h / 64 + 1 → IsColumnBit table band old m j
    → IsColumnBit table band new m j)
    → AreColumnsBut table band rects (from + 1) new
columns_but_more table band rects from rect old new is right set kept m j small within out =
    in_rect_or_not {P = IsColumnBit table band new m j} rect (cell_at (32 * band + m) j)
    (λ here. set m j small here)
    (λ not_here. kept m j small within (right m j small within (λ k d least below inside. ⊎_elim
    (λ (same : k ≡ from). not_here (subst (λ (r : Rect). IsInRect r (cell_at (32 * band + m) j))
    (ap (λ p. get_or rects p d) same ∙ is d) inside))
    (λ (later : k ≢ from). out k d (omega (arith, least, later)) below inside)
    (cases_eq k from))))

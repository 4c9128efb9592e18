-- Numbers of cells by pages.
use Rattle.std.proofs.Common.{ℕ, ◌≡◌, ◌≢◌, ◌+◌, ◌*◌, ◌<◌, ◌≤◌, List, ◌++◌, length, get_or, set, inl, inr}
use Rattle.std.proofs.Common.{sym, subst, ap, ◌∙◌, arith}
use Rattle.std.specs.Prelude.{replicate, take, drop}
use Rattle.std.proofs.Math.Seq.{take-length}
use Rattle.std.proofs.lemmas.Bool.{cases_lt}
use Rattle.std.proofs.lemmas.List.{get_or-replicate, get_or-take, get_or_past, length-replicate, length-take-le, take-append-le}
use Rattle.std.proofs.lemmas.List.{get_or-set_same, get_or-set_other}
use Rattle.nav_types.specs.declared.cells.Cell.{Cell}
use Rattle.jump_search.specs.inner.Paged.{page_place, spot_of, slot_of, number_on_page, cell_number, ArePages, IsSet}

pub spot_low : (cell : Cell) → spot_of cell < 64
unfolding spot_of
spot_low cell = omega arith

pub zero_in : (xs : List ℕ) (n : ℕ) → xs ≡ replicate n 0 → (i : ℕ) → get_or xs i 0 ≡ 0
zero_in xs n is i =
    let long : length xs ≡ n = ap length is ∙ length-replicate n 0 in
    elim (cases_lt i n) [
      | inl less ↦ ap (λ (l : List ℕ). get_or l i 0) is ∙ get_or-replicate n i 0 0 less
      | inr more ↦ get_or_past xs i 0 (omega (arith, long, more))
    ]

pub pages_blank : (table numbers : List ℕ) (places size : ℕ) → table ≡ replicate places 0 → numbers ≡ replicate size 0
    → 4096 ≤ length table → length numbers ≡ 64 → ArePages table numbers
pages_blank table numbers places size tables is some long = record {
  wide = some;
  whole = omega (arith, long);
  inside = λ place.
      let page : get_or table place 0 ≡ 0 = zero_in table places tables place in
      omega (arith, page, long);
  blank = λ spot low. zero_in numbers size is spot;
  own = λ a b same more.
      let page : get_or table a 0 ≡ 0 = zero_in table places tables a in
      absurd (omega (arith, page, more));
}

pub number_blank : (table numbers : List ℕ) (size : ℕ) → numbers ≡ replicate size 0 → (cell : Cell)
    → cell_number table numbers cell ≡ 0
unfolding cell_number
number_blank table numbers size is cell =
    zero_in numbers size is (get_or table (page_place cell) 0 * 64 + spot_of cell)

-- a table that was lent whole
pub lent_whole : (table new : List ℕ) (size : ℕ) → size ≡ length table → length new ≡ length table
    → take size (new ++ drop (length new) table) ≡ new
lent_whole table new size whole long =
    let same : size ≡ length new = omega (arith, whole, long) in
    take-append-le size new (drop (length new) table) (omega (arith, same)) ∙ ap (λ (n : ℕ). take n new) same
    ∙ take-length new

-- pages that were set back: the table is of zeros, and the first page is left
pub pages_cleared : (table numbers cut short : List ℕ) → ArePages table numbers → length cut ≡ length table
    → ((place : ℕ) → get_or cut place 0 ≡ 0) → short ≡ take 64 numbers → ArePages cut short
pages_cleared table numbers cut short pages long zero first =
    let some = pages.inside 0 in
    let wide = pages.wide in
    let size : length short ≡ 64 = ap length first ∙ length-take-le 64 numbers (omega (arith, some)) in
    record {
      wide = omega (arith, wide, long);
      whole = omega (arith, size);
      inside = λ place. let page = zero place in omega (arith, page, size);
      blank = λ spot low. ap (λ (l : List ℕ). get_or l spot 0) first ∙ get_or-take 64 numbers spot 0 low ∙ pages.blank spot low;
      own = λ a b same more. let page = zero a in absurd (omega (arith, page, more));
    }

pub number_cleared : (table numbers cut short : List ℕ) → ArePages table numbers → length cut ≡ length table
    → ((place : ℕ) → get_or cut place 0 ≡ 0) → short ≡ take 64 numbers → (cell : Cell) → cell_number cut short cell ≡ 0
unfolding cell_number
number_cleared table numbers cut short pages long zero first cell =
    let page : get_or cut (page_place cell) 0 ≡ 0 = zero (page_place cell) in
    let at : get_or cut (page_place cell) 0 * 64 + spot_of cell ≡ spot_of cell = omega (arith, page) in
    ap (λ (n : ℕ). get_or short n 0) at
    ∙ (pages_cleared table numbers cut short pages long zero first).blank (spot_of cell) (spot_low cell)

set_apart : (table numbers : List ℕ) (place spot value : ℕ) → ArePages table numbers → 0 < get_or table place 0
    → spot < 64 → (p s : ℕ) → s < 64 → p * 64 + s ≢ place * 64 + spot
    → number_on_page table (set numbers (get_or table place 0 * 64 + spot) value) p s ≡ number_on_page table numbers p s
set_apart table numbers place spot value pages more low p s small other =
    let index = get_or table place 0 * 64 + spot in
    let apart : get_or table p 0 * 64 + s ≢ index = λ (e : get_or table p 0 * 64 + s ≡ index).
    let page : get_or table place 0 ≡ get_or table p 0 = omega (arith, e, low, small) in
    let same : place ≡ p = pages.own place p page more in
    other (omega (arith, e, page, same)) in
    get_or-set_other numbers index (get_or table p 0 * 64 + s) value 0 apart

-- the number of a cell was set, after its page was made
pub set_is : (table numbers made more : List ℕ) (cell : Cell) (place spot value : ℕ) → ArePages made more
    → ((p s : ℕ) → s < 64 → number_on_page made more p s ≡ number_on_page table numbers p s)
    → place ≡ page_place cell → spot ≡ spot_of cell → 0 < get_or made place 0
    → IsSet cell value (cell_number table numbers)
    (cell_number made (set more (get_or made place 0 * 64 + spot) value))
unfolding cell_number slot_of
set_is table numbers made more cell place spot value pages kept at on some =
    let index = get_or made place 0 * 64 + spot in
    let new = set more index value in
    let low : spot < 64 = subst (λ (n : ℕ). n < 64) (sym on) (spot_low cell) in
    record {
      here = λ other same.
          let sums : page_place other * 64 + spot_of other ≡ page_place cell * 64 + spot_of cell = same in
          let small = spot_low other in
          let places_same : page_place other ≡ place = omega (arith, sums, small, low, at, on) in
          let spots_same : spot_of other ≡ spot = omega (arith, sums, small, low, at, on) in
          let within = pages.inside place in
          ap (λ (p : ℕ). number_on_page made new p (spot_of other)) places_same
          ∙ ap (λ (s : ℕ). number_on_page made new place s) spots_same
          ∙ get_or-set_same more index value 0 (omega (arith, within, low));
      apart = λ other differ.
          let differs : page_place other * 64 + spot_of other ≢ place * 64 + spot =
          λ (e : page_place other * 64 + spot_of other ≡ place * 64 + spot).
          let sums : page_place other * 64 + spot_of other ≡ page_place cell * 64 + spot_of cell =
          e ∙ ap (λ (p : ℕ). p * 64 + spot) at ∙ ap (λ (s : ℕ). page_place cell * 64 + s) on in
          differ sums in
          set_apart made more place spot value pages some low (page_place other) (spot_of other)
          (spot_low other) differs
          ∙ kept (page_place other) (spot_of other) (spot_low other);
    }

pub page_within : (table numbers : List ℕ) (place page spot : ℕ) → ArePages table numbers → page ≡ get_or table place 0
    → spot < 64 → page * 64 + spot < length numbers
page_within table numbers place page spot pages is low =
    let within = pages.inside place in omega (arith, within, is, low)

pub number_read : (table numbers : List ℕ) (cell : Cell) (place page spot : ℕ) → place ≡ page_place cell
    → page ≡ get_or table place 0 → spot ≡ spot_of cell
    → get_or numbers (page * 64 + spot) 0 ≡ cell_number table numbers cell
unfolding cell_number
number_read table numbers cell place page spot at is on =
    ap (λ (n : ℕ). get_or numbers (n * 64 + spot) 0) (is ∙ ap (λ (p : ℕ). get_or table p 0) at)
    ∙ ap (λ (s : ℕ). number_on_page table numbers (page_place cell) s) on

-- what was read after the cell's page was made
pub number_before : (table numbers made more : List ℕ) (cell : Cell) (place page spot : ℕ)
    → ((p s : ℕ) → s < 64 → number_on_page made more p s ≡ number_on_page table numbers p s)
    → place ≡ page_place cell → page ≡ get_or made place 0 → spot ≡ spot_of cell → spot < 64
    → get_or more (page * 64 + spot) 0 ≡ cell_number table numbers cell
unfolding cell_number
number_before table numbers made more cell place page spot kept at is on low =
    ap (λ (n : ℕ). get_or more (n * 64 + spot) 0) is ∙ kept place spot low
    ∙ ap (λ (p : ℕ). number_on_page table numbers p spot) at
    ∙ ap (λ (s : ℕ). number_on_page table numbers (page_place cell) s) on

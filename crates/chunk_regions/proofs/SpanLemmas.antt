-- The spans of a chunk's rows: their order, their cells and their regions.
use Rattle.std.proofs.Common.{ℕ, zero, suc, Bool, true, false, ◌≡◌, ◌<◌, ◌≤◌, ◌+◌, ◌-◌, ◌*◌, ◌⊎◌, ◌&&◌, if◌then◌else◌, List, length, max, ap, inl, inr, refl, sym, subst, ◌∙◌, arith, Some}
use Rattle.std.specs.List.{slice_get}
use Rattle.std.specs.Prelude.{slice_index, nat_le}
use Rattle.std.proofs.lemmas.Bool.{cases_lt, cases_Bool, and_parts, and_from, leb-true, le-leb, both_ways}
use Rattle.std.proofs.lemmas.Option.{slice_get_within, slice_get_cases, same_Some}
use Rattle.nav_types.specs.declared.cells.Cell.{Cell}
use Rattle.nav_types.specs.declared.cells.Chunk.{Chunk}
use Rattle.nav_types.specs.declared.directions.Dir.{Dir}
use Rattle.nav_types.specs.declared.directions.Dir.TheVariants.{N, E, S, W, NE, SE, SW, NW}
use Rattle.nav_types.specs.Cells.{cell_at, IsBefore}
use Rattle.nav_types.specs.Directions.{is_straight, Leads}
use Rattle.nav_types.specs.Regions.{JoinedStraight, IsBeside}
use Rattle.chunk_regions.specs.declared.label_spans.Place.{Place}
use Rattle.chunk_regions.specs.declared.spans.Span.{Span}
use Rattle.chunk_regions.specs.inner.Spans.{Runs, AreSpans, Holds, IsPlace, HasCell, IsCut, span_has, region_from, region_at, region_of}
use Rattle.chunk_regions.specs.inner.Joining.{Overlap}
use Rattle.nav_types.proofs.CellOrder.{same_cell}
use Rattle.nav_types.proofs.Walking.{JoinedStraight-refl, JoinedStraight-beside, JoinedStraight-sym, JoinedStraight-trans}
use Rattle.std.proofs.lemmas.Bool.{false≢true}

-- a later row's spans do not begin before an earlier row's
pub starts_rise : (runs : Runs) → AreSpans runs → (r d : ℕ) → r + d ≤ 96 → slice_index runs.starts r ≤ slice_index runs.starts (r + d)
starts_rise runs are r zero within =
    let same : r ≡ r + 0 = omega arith in
    subst (λ k. slice_index runs.starts r ≤ slice_index runs.starts k) same (omega arith)
starts_rise runs are r (suc d) within =
    let before = starts_rise runs are r d (omega arith) in
    let last = are.rising (r + d) (omega arith) in
    let next : r + d + 1 ≡ r + suc d = omega arith in
    subst (λ k. slice_index runs.starts r ≤ slice_index runs.starts k) next (omega arith)

-- of two rows the earlier one's spans end where or before the later one's begin
pub rows_rise : (runs : Runs) → AreSpans runs → (r s : ℕ) → r < s → s ≤ 96 → slice_index runs.starts (r + 1) ≤ slice_index runs.starts s
rows_rise runs are r s less within =
    let same : r + 1 + (s - (r + 1)) ≡ s = omega arith in
    subst (λ k. slice_index runs.starts (r + 1) ≤ slice_index runs.starts k) same (starts_rise runs are (r + 1) (s - (r + 1)) (omega arith))

-- two spans at one place are of one row
one_row : (runs : Runs) → AreSpans runs → (p q : Place) → IsPlace runs p → IsPlace runs q → p.at ≡ q.at → p.row ≡ q.row
one_row runs are p q is_p is_q same =
    let p_row = is_p.row in let p_from = is_p.from in let p_to = is_p.to in
    let q_row = is_q.row in let q_from = is_q.from in let q_to = is_q.to in
    elim (cases_lt p.row q.row) [
      | inl less ↦ let rise = rows_rise runs are p.row q.row less (omega arith) in absurd (omega arith)
      | inr more ↦ elim (cases_lt q.row p.row) [
        | inl less ↦ let rise = rows_rise runs are q.row p.row less (omega arith) in absurd (omega arith)
        | inr equal ↦ omega arith
      ]
    ]

same_place : (p q : Place) → p.row ≡ q.row → p.at ≡ q.at → p ≡ q
same_place p q row at = ap (λ r. record { row = r; at = p.at }) row ∙ ap (λ k. record { row = q.row; at = k }) at

-- a place is that of one span
pub IsPlace-one : (runs : Runs) → AreSpans runs → (p q : Place) → IsPlace runs p → IsPlace runs q → p.at ≡ q.at → p ≡ q
IsPlace-one runs are p q is_p is_q same = same_place p q (one_row runs are p q is_p is_q same) same

-- a cell of a span is one of the span at that place
pub HasCell-at : (chunk : Chunk) (runs : Runs) → AreSpans runs → (p q : Place) (cell : Cell) → IsPlace runs q → HasCell chunk runs p cell → p.at ≡ q.at → HasCell chunk runs q cell
HasCell-at chunk runs are p q cell is_q has same =
    subst (λ (z : Place). HasCell chunk runs z cell) (same_place p q (one_row runs are p q has.is is_q same) same) has

-- the cells of an earlier span come before those of a later one
pub HasCell-order : (chunk : Chunk) (runs : Runs) → AreSpans runs → (p q : Place) (a b : Cell) → HasCell chunk runs p a → HasCell chunk runs q b → p.at < q.at → IsBefore a b
HasCell-order chunk runs are p q a b in_p in_q less =
    let row_p = in_p.row in let row_q = in_q.row in
    let p_row = in_p.is.row in let p_from = in_p.is.from in let p_to = in_p.is.to in
    let q_row = in_q.is.row in let q_from = in_q.is.from in let q_to = in_q.is.to in
    elim (cases_lt p.row q.row) [
      | inl south ↦ inl (omega arith)
      | inr more ↦ elim (cases_lt q.row p.row) [
        | inl north ↦ let rise = rows_rise runs are q.row p.row north (omega arith) in absurd (omega arith)
        | inr equal ↦
            let one : p.row ≡ q.row = omega arith in
            let to : q.at < slice_index runs.starts (p.row + 1) = subst (λ k. q.at < slice_index runs.starts (k + 1)) (sym one) q_to in
            let gap = are.apart p.row p.at q.at in_p.span in_q.span p_row p_from less to in_p.found in_q.found in
            let east = in_p.east in
            let west = in_q.west in
            inr (omega arith, omega arith)
      ]
    ]

-- ---- regions of cells

-- the region of the only span that holds the column
region_from-found : (runs : Runs) (regions : List ℕ) (x count k m : ℕ) → k ≤ m → m < k + count → span_has (slice_get runs.spans m) x ≡ true
    → ((e : ℕ) → k ≤ e → e < m → span_has (slice_get runs.spans e) x ≡ false) → region_from runs regions x count k ≡ slice_index regions m
region_from-found runs regions x zero k m from to here before = absurd (omega arith)
region_from-found runs regions x (suc count) k m from to here before =
    let either = λ (b : Bool). if b then slice_index regions k else region_from runs regions x count (k + 1) in
    elim (cases_lt k m) [
      | inl less ↦
          ap either (before k (omega arith) less)
          ∙ region_from-found runs regions x count (k + 1) m (omega arith) (omega arith) here (λ e later sooner. before e (omega arith) sooner)
      | inr more ↦
          let same : m ≡ k = omega arith in
          ap either (subst (λ n. span_has (slice_get runs.spans n) x ≡ true) same here) ∙ ap (λ n. slice_index regions n) (sym same)
    ]

pub region_from-none : (runs : Runs) (regions : List ℕ) (x count k : ℕ) → ((e : ℕ) → k ≤ e → e < k + count → span_has (slice_get runs.spans e) x ≡ false)
    → region_from runs regions x count k ≡ 0
region_from-none runs regions x zero k none = refl
region_from-none runs regions x (suc count) k none =
    ap (λ b. if b then slice_index regions k else region_from runs regions x count (k + 1)) (none k (omega arith) (omega arith))
    ∙ region_from-none runs regions x count (k + 1) (λ e later sooner. none e (omega arith) (omega arith))

-- a span that holds a column
held_by : (runs : Runs) (k x : ℕ) → span_has (slice_get runs.spans k) x ≡ true → (span : Span) × ((slice_get runs.spans k ≡ Some span) × ((span.first ≤ x) × (x ≤ span.last)))
held_by runs k x held = elim (slice_get_cases runs.spans k).1 [
  | inl there ↦
      let both : (nat_le there.0.first x && nat_le x there.0.last) ≡ true = sym (ap (λ s. span_has s x) there.2) ∙ held in
      let parts = and_parts (nat_le there.0.first x) (nat_le x there.0.last) both in
      (there.0, (there.2, (leb-true there.0.first x parts.0, leb-true x there.0.last parts.1)))
  | inr past ↦ absurd (false≢true (sym (ap (λ s. span_has s x) past.1) ∙ held))
]

-- a region's number in a column is that of a span that holds it
region_from-some : (runs : Runs) (regions : List ℕ) (x count k : ℕ) → 1 ≤ region_from runs regions x count k
    → (m : ℕ) × (k ≤ m) × (m < k + count) × (span_has (slice_get runs.spans m) x ≡ true)
region_from-some runs regions x zero k some = absurd (omega (arith, some))
region_from-some runs regions x (suc count) k some = elim (cases_Bool (span_has (slice_get runs.spans k) x)) [
  | inl here ↦ (k, omega arith, omega arith, here)
  | inr shut ↦
      let next = ap (λ b. if b then slice_index regions k else region_from runs regions x count (k + 1)) shut in
      let later = region_from-some runs regions x count (k + 1) (subst (λ n. 1 ≤ n) next some) in
      let from = later.1 in
      let to = later.2 in
      (later.0, omega arith, omega arith, later.3)
]

pub region_at-some : (runs : Runs) (regions : List ℕ) (r x : ℕ) → r < 96 → 1 ≤ region_at runs regions r x → (k : ℕ) × Holds runs r k x
region_at-some runs regions r x in_row some =
    let start = slice_index runs.starts r in
    let end = slice_index runs.starts (r + 1) in
    let is = region_from-some runs regions x (end - start) start some in
    let from = is.1 in
    let to = is.2 in
    let span = held_by runs is.0 x is.3 in
    (is.0, record { span = span.0; found = span.1.0; row = in_row; from = from; to = omega arith; west = span.1.1.0; east = span.1.1.1 })

span_has-from : (span : Span) (x : ℕ) → span.first ≤ x → x ≤ span.last → span_has (Some span) x ≡ true
span_has-from span x west east = and_from (nat_le span.first x) (nat_le x span.last) (le-leb span.first x west) (le-leb x span.last east)

-- the region in a column of a row is that of the span that holds it
pub region_at-held : (runs : Runs) (regions : List ℕ) (r k x : ℕ) → AreSpans runs → Holds runs r k x → region_at runs regions r x ≡ slice_index regions k
region_at-held runs regions r k x are held =
    let start = slice_index runs.starts r in
    let end = slice_index runs.starts (r + 1) in
    let from = held.from in
    let to = held.to in
    let west = held.west in
    let here : span_has (slice_get runs.spans k) x ≡ true = ap (λ s. span_has s x) held.found ∙ span_has-from held.span x west held.east in
    let before : (e : ℕ) → start ≤ e → e < k → span_has (slice_get runs.spans e) x ≡ false = λ e later less.
    elim (cases_Bool (span_has (slice_get runs.spans e) x)) [
      | inl yes_held ↦
          let other = held_by runs e x yes_held in
          let gap = are.apart r e k other.0 held.span held.row later less to other.1.0 held.found in
          let reach = other.1.1.1 in
          absurd (omega arith)
      | inr not_held ↦ not_held
    ] in
    region_from-found runs regions x (end - start) start k from (omega arith) here before

-- there is none where no span of the row holds the column
pub region_at-none : (runs : Runs) (regions : List ℕ) (r x : ℕ) → r < 96 → ((k : ℕ) → Holds runs r k x → ⊥) → region_at runs regions r x ≡ 0
region_at-none runs regions r x in_row none =
    let start = slice_index runs.starts r in
    let end = slice_index runs.starts (r + 1) in
    region_from-none runs regions x (end - start) start (λ e later less. elim (cases_Bool (span_has (slice_get runs.spans e) x)) [
      | inl yes_held ↦
          let span = held_by runs e x yes_held in
          absurd (none e (record { span = span.0; found = span.1.0; row = in_row; from = later; to = omega arith; west = span.1.1.0; east = span.1.1.1 }))
      | inr not_held ↦ not_held
    ])

-- the row's spans before place `at` end before the column
abbrev pub EndBefore : Runs → ℕ → ℕ → ℕ → Type 0
EndBefore runs r at x = (k : ℕ) (span : Span) → slice_index runs.starts r ≤ k → k < at → slice_get runs.spans k ≡ Some span → span.last < x

-- a column before the first span that ends there or further east is held by none
pub none_in_gap : (runs : Runs) (r at column x : ℕ) (span : Span) → AreSpans runs → slice_index runs.starts r ≤ at → EndBefore runs r at column → column ≤ x
    → slice_get runs.spans at ≡ Some span → x < span.first → (k : ℕ) → Holds runs r k x → ⊥
none_in_gap runs r at column x span are from before reaches found gap k held =
    let west = held.west in
    let east = held.east in
    elim (cases_lt k at) [
      | inl less ↦ let ends = before k held.span held.from less held.found in omega arith
      | inr more ↦ elim (cases_lt at k) [
        | inl further ↦
            let apart = are.apart r at k span held.span held.row from further held.to found held.found in
            let ordered = (are.ordered at span found).0 in
            omega arith
        | inr here ↦
            let same : k ≡ at = omega arith in
            let one = same_Some held.span span (sym held.found ∙ ap (λ n. slice_get runs.spans n) same ∙ found) in
            let begins = subst (λ (s : Span). s.first ≤ x) one west in
            omega arith
      ]
    ]

-- the column behind a span is held by none
pub none_behind : (runs : Runs) (r at : ℕ) (span : Span) → AreSpans runs → slice_index runs.starts r ≤ at → at < slice_index runs.starts (r + 1)
    → slice_get runs.spans at ≡ Some span → (k : ℕ) → Holds runs r k (span.last + 1) → ⊥
none_behind runs r at span are from to found k held =
    let west = held.west in
    let east = held.east in
    elim (cases_lt k at) [
      | inl less ↦
          let apart = are.apart r k at held.span span held.row held.from less to held.found found in
          let ordered = (are.ordered at span found).0 in
          omega arith
      | inr more ↦ elim (cases_lt at k) [
        | inl further ↦ let apart = are.apart r at k span held.span held.row from further held.to found held.found in omega arith
        | inr here ↦
            let same : k ≡ at = omega arith in
            let one = same_Some held.span span (sym held.found ∙ ap (λ n. slice_get runs.spans n) same ∙ found) in
            let ends = subst (λ (s : Span). span.last + 1 ≤ s.last) one east in
            omega arith
      ]
    ]

-- behind the row's last span no column is held
pub none_past : (runs : Runs) (r at column x : ℕ) → EndBefore runs r at column → column ≤ x → slice_index runs.starts (r + 1) ≤ at → (k : ℕ) → Holds runs r k x → ⊥
none_past runs r at column x before reaches all k held =
    let to = held.to in
    let east = held.east in
    let ends = before k held.span held.from (omega arith) held.found in
    omega arith

-- the row's spans from place `at` on begin behind the column
abbrev pub BeginBehind : Runs → ℕ → ℕ → ℕ → Type 0
BeginBehind runs r at x = (k : ℕ) (span : Span) → at ≤ k → k < slice_index runs.starts (r + 1) → slice_get runs.spans k ≡ Some span → x < span.first

-- the number of a cell is its span's region
pub region_of-cell : (chunk : Chunk) (runs : Runs) (regions : List ℕ) → AreSpans runs → (p : Place) (cell : Cell) → HasCell chunk runs p cell
    → region_of chunk runs regions cell ≡ slice_index regions p.at
region_of-cell chunk runs regions are p cell has =
    let row = has.row in
    let west = has.west in
    let east = has.east in
    let x = cell.i - 96 * chunk.ci in
    let held : Holds runs p.row p.at x = record {
      span = has.span;
      found = has.found;
      row = has.is.row;
      from = has.is.from;
      to = has.is.to;
      west = omega arith;
      east = omega arith;
    } in
    let one_row : cell.j - 96 * chunk.cj ≡ p.row = omega arith in
    ap (λ r. region_at runs regions r x) one_row ∙ region_at-held runs regions p.row p.at x are held

-- a cell of the chunk that is not passable has number 0
pub region_of-blocked : (passes : Cell → Bool) (chunk : Chunk) (runs : Runs) (regions : List ℕ) → IsCut passes chunk runs → (cell : Cell)
    → 96 * chunk.ci ≤ cell.i → 96 * chunk.cj ≤ cell.j → cell.j < 96 * chunk.cj + 96 → passes cell ≡ false → region_of chunk runs regions cell ≡ 0
region_of-blocked passes chunk runs regions cut cell west south north shut =
    let r = cell.j - 96 * chunk.cj in
    let x = cell.i - 96 * chunk.ci in
    region_at-none runs regions r x (omega arith) (λ k held.
    let first = held.west in
    let last = held.east in
    let place : Place = record { row = r; at = k } in
    let has : HasCell chunk runs place cell = record {
      is = record { row = held.row; from = held.from; to = held.to; within = slice_get_within runs.spans k held.span held.found };
      span = held.span;
      found = held.found;
      row = omega arith;
      west = omega arith;
      east = omega arith;
    } in
    both_ways (passes cell) shut (cut.passing place cell has))

-- ---- joined cells

east_of : (i j : ℕ) → IsBeside (cell_at i j) (cell_at (i + 1) j)
east_of i j = (E, (refl, record { columns = omega arith; rows = omega arith }))

-- cells of a row with no impassable cell between them are joined
row_joined : (passes : Cell → Bool) (j i d : ℕ) → ((x : ℕ) → i ≤ x → x ≤ i + d → passes (cell_at x j) ≡ true)
    → JoinedStraight passes (cell_at i j) (cell_at (i + d) j)
row_joined passes j i zero run =
    let same : i ≡ i + 0 = omega arith in
    subst (λ k. JoinedStraight passes (cell_at i j) (cell_at k j)) same (JoinedStraight-refl passes (cell_at i j))
row_joined passes j i (suc d) run =
    let next : i + 1 + d ≡ i + suc d = omega arith in
    subst (λ k. JoinedStraight passes (cell_at i j) (cell_at k j)) next
    (JoinedStraight-beside passes (cell_at i j) (cell_at (i + 1) j) (cell_at (i + 1 + d) j) (east_of i j) (run i (omega arith) (omega arith)) (run (i + 1) (omega arith) (omega arith))
    (row_joined passes j (i + 1) d (λ x west east. run x (omega arith) (omega arith))))

-- the cell of a column of the chunk that is one of a span
HasCell-column : (chunk : Chunk) (runs : Runs) (p : Place) (span : Span) (x : ℕ) → IsPlace runs p → slice_get runs.spans p.at ≡ Some span → 96 * chunk.ci + span.first ≤ x
    → x ≤ 96 * chunk.ci + span.last → HasCell chunk runs p (cell_at x (96 * chunk.cj + p.row))
HasCell-column chunk runs p span x is found west east = record { is = is; span = span; found = found; row = refl; west = west; east = east }

-- the cells of one span are joined
pub span_joined : (passes : Cell → Bool) (chunk : Chunk) (runs : Runs) → IsCut passes chunk runs → (p : Place) (a b : Cell)
    → HasCell chunk runs p a → HasCell chunk runs p b → JoinedStraight passes a b
span_joined passes chunk runs cut p a b in_a in_b =
    let j = 96 * chunk.cj + p.row in
    let row_a = in_a.row in let row_b = in_b.row in
    let a_west = in_a.west in let a_east = in_a.east in
    let one_span : in_b.span ≡ in_a.span = same_Some in_b.span in_a.span (sym in_b.found ∙ in_a.found) in
    let b_west = subst (λ (s : Span). 96 * chunk.ci + s.first ≤ b.i) one_span in_b.west in
    let b_east = subst (λ (s : Span). b.i ≤ 96 * chunk.ci + s.last) one_span in_b.east in
    let run : (x : ℕ) → 96 * chunk.ci + in_a.span.first ≤ x → x ≤ 96 * chunk.ci + in_a.span.last → passes (cell_at x j) ≡ true = λ x west east.
    cut.passing p (cell_at x j) (HasCell-column chunk runs p in_a.span x in_a.is in_a.found west east) in
    let between : (i d : ℕ) → 96 * chunk.ci + in_a.span.first ≤ i → i + d ≤ 96 * chunk.ci + in_a.span.last → JoinedStraight passes (cell_at i j) (cell_at (i + d) j) = λ i d west east.
    row_joined passes j i d (λ x from to. run x (omega arith) (omega arith)) in
    let is_a : cell_at a.i j ≡ a = same_cell (cell_at a.i j) a refl (sym row_a) in
    let is_b : cell_at b.i j ≡ b = same_cell (cell_at b.i j) b refl (sym row_b) in
    let both : JoinedStraight passes (cell_at a.i j) (cell_at b.i j) = elim (cases_lt a.i b.i) [
      | inl less ↦
          let to : a.i + (b.i - a.i) ≡ b.i = omega arith in
          subst (λ k. JoinedStraight passes (cell_at a.i j) (cell_at k j)) to (between a.i (b.i - a.i) a_west (omega arith))
      | inr more ↦
          let to : b.i + (a.i - b.i) ≡ a.i = omega arith in
          JoinedStraight-sym passes (cell_at b.i j) (cell_at a.i j)
          (subst (λ k. JoinedStraight passes (cell_at b.i j) (cell_at k j)) to (between b.i (a.i - b.i) b_west (omega arith)))
    ] in
    subst (λ (z : Cell). JoinedStraight passes z b) is_a (subst (λ (z : Cell). JoinedStraight passes (cell_at a.i j) z) is_b both)

south_of : (i j : ℕ) → IsBeside (cell_at i (j + 1)) (cell_at i j)
south_of i j = (S, (refl, record { columns = omega arith; rows = omega arith }))

-- the cells of a span are joined to some cell of a span that overlaps it in the row before
pub overlap_joined : (passes : Cell → Bool) (chunk : Chunk) (runs : Runs) → IsCut passes chunk runs → (south north : Place) → Overlap runs south north
    → (cell : Cell) → HasCell chunk runs north cell → (source : Cell) × (HasCell chunk runs south source × JoinedStraight passes cell source)
overlap_joined passes chunk runs cut south north o cell has =
    let low = o.low in
    let high = o.high in
    let west = o.west in
    let east = o.east in
    let low_ordered = cut.are.ordered south.at low o.found_low in
    let high_ordered = cut.are.ordered north.at high o.found_high in
    let low_rises = low_ordered.0 in
    let high_rises = high_ordered.0 in
    let next = o.rows in
    let x = 96 * chunk.ci + max low.first high.first in
    let j = 96 * chunk.cj + south.row in
    let source = cell_at x j in
    let across = cell_at x (96 * chunk.cj + north.row) in
    let in_south : HasCell chunk runs south source = HasCell-column chunk runs south low x o.south_is o.found_low (omega arith) (omega arith) in
    let in_north : HasCell chunk runs north across = HasCell-column chunk runs north high x o.north_is o.found_high (omega arith) (omega arith) in
    let row : j + 1 ≡ 96 * chunk.cj + north.row = omega arith in
    let side : IsBeside across source = subst (λ k. IsBeside (cell_at x k) source) row (south_of x j) in
    let step = JoinedStraight-beside passes across source source side (cut.passing north across in_north) (cut.passing south source in_south) (JoinedStraight-refl passes source) in
    (source, (in_south, JoinedStraight-trans passes cell across source (span_joined passes chunk runs cut north cell across has in_north) step))

-- ---- cells beside a span

-- beside a cell lie the cells of the next columns in its row and those of its column in the next rows
pub beside_cases : (a b : Cell) → IsBeside a b
    → ((a.j ≡ b.j) × ((b.i ≡ a.i + 1) ⊎ (a.i ≡ b.i + 1))) ⊎ ((a.i ≡ b.i) × ((b.j ≡ a.j + 1) ⊎ (a.j ≡ b.j + 1)))
beside_cases a b beside =
    let P = λ (dir : Dir). is_straight dir ≡ true → Leads dir a b
    → ((a.j ≡ b.j) × ((b.i ≡ a.i + 1) ⊎ (a.i ≡ b.i + 1))) ⊎ ((a.i ≡ b.i) × ((b.j ≡ a.j + 1) ⊎ (a.j ≡ b.j + 1))) in
    let proof : P beside.0 = elim beside.0 as P [
      | N ↦ λ straight leads. let c = leads.columns in let r = leads.rows in inr (omega arith, inl (omega arith))
      | E ↦ λ straight leads. let c = leads.columns in let r = leads.rows in inl (omega arith, inl (omega arith))
      | S ↦ λ straight leads. let c = leads.columns in let r = leads.rows in inr (omega arith, inr (omega arith))
      | W ↦ λ straight leads. let c = leads.columns in let r = leads.rows in inl (omega arith, inr (omega arith))
      | NE ↦ λ straight. absurd (false≢true straight)
      | SE ↦ λ straight. absurd (false≢true straight)
      | SW ↦ λ straight. absurd (false≢true straight)
      | NW ↦ λ straight. absurd (false≢true straight)
    ] in
    proof beside.1.0 beside.1.1

-- cells side by side in one row are in one span
pub one_span : (chunk : Chunk) (runs : Runs) → AreSpans runs → (p q : Place) (a b : Cell) → HasCell chunk runs p a → HasCell chunk runs q b
    → a.j ≡ b.j → b.i ≤ a.i + 1 → a.i ≤ b.i + 1 → p.at ≡ q.at
one_span chunk runs are p q a b in_p in_q row near near_too =
    let p_j = in_p.row in let p_west = in_p.west in let p_east = in_p.east in
    let q_j = in_q.row in let q_west = in_q.west in let q_east = in_q.east in
    let p_row = in_p.is.row in let p_from = in_p.is.from in let p_to = in_p.is.to in
    let q_from = in_q.is.from in let q_to = in_q.is.to in
    let one : q.row ≡ p.row = omega arith in
    let from : slice_index runs.starts p.row ≤ q.at = subst (λ k. slice_index runs.starts k ≤ q.at) one q_from in
    let to : q.at < slice_index runs.starts (p.row + 1) = subst (λ k. q.at < slice_index runs.starts (k + 1)) one q_to in
    elim (cases_lt p.at q.at) [
      | inl less ↦ let gap = are.apart p.row p.at q.at in_p.span in_q.span p_row p_from less to in_p.found in_q.found in absurd (omega arith)
      | inr more ↦ elim (cases_lt q.at p.at) [
        | inl less ↦ let gap = are.apart p.row q.at p.at in_q.span in_p.span p_row from less p_to in_q.found in_p.found in absurd (omega arith)
        | inr equal ↦ omega arith
      ]
    ]

-- the first cell of a span, in the order of cells
pub first_of_span : (chunk : Chunk) (runs : Runs) → AreSpans runs → (p : Place) (span : Span) → IsPlace runs p → slice_get runs.spans p.at ≡ Some span
    → HasCell chunk runs p (cell_at (96 * chunk.ci + span.first) (96 * chunk.cj + p.row))
    × ((cell : Cell) → HasCell chunk runs p cell → IsBefore cell (cell_at (96 * chunk.ci + span.first) (96 * chunk.cj + p.row)) → ⊥)
first_of_span chunk runs are p span is found =
    let ordered = are.ordered p.at span found in
    let rises = ordered.0 in (
      HasCell-column chunk runs p span (96 * chunk.ci + span.first) is found (omega arith) (omega arith),
      λ cell has before.
          let one : has.span ≡ span = same_Some has.span span (sym has.found ∙ found) in
          let row = has.row in
          let west = subst (λ (s : Span). 96 * chunk.ci + s.first ≤ cell.i) one has.west in
          elim before [ inl south ↦ omega arith | inr column ↦ let left = column.1 in omega arith ],
    )

-- each row's spans begin at or before the end of all
pub starts_to_end : (runs : Runs) → AreSpans runs → (r : ℕ) → r ≤ 96 → slice_index runs.starts r ≤ length runs.spans
starts_to_end runs are r within =
    let all = are.all in
    let last : r + (96 - r) ≡ 96 = omega arith in
    let rise = subst (λ k. slice_index runs.starts r ≤ slice_index runs.starts k) last (starts_rise runs are r (96 - r) (omega arith)) in
    omega arith

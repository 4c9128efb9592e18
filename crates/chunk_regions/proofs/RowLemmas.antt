-- The spans of a row as far as they are cut, and the spans of all rows.
use Rattle.std.proofs.Common.{ℕ, zero, suc, ◌≡◌, ◌<◌, ◌≤◌, ◌+◌, ◌-◌, ◌*◌, ◌%◌, ◌^◌, bit_xor, ◌∷◌, [], ◌++◌, List, length, length-append, ap, refl, inl, inr, sym, subst, ◌∙◌, arith}
use Rattle.std.specs.Int.{bit_at}
use Rattle.std.specs.List.{slice_get}
use Rattle.std.specs.Prelude.{slice_index}
use Rattle.std.proofs.lemmas.Bool.{cases_lt}
use Rattle.std.proofs.lemmas.List.{get_or_append_left, get_or_push}
use Rattle.std.proofs.lemmas.Nat.{xor_lt}
use Rattle.std.proofs.lemmas.Nat.Bits.{bit_at_above, bit_at_lowest, bit_at_xor, bit_at-lt, bit_at-zero}
use Rattle.std.proofs.lemmas.Option.{slice_get_within}
use Rattle.chunk_regions.specs.declared.spans.Span.{Span}
use Rattle.chunk_regions.specs.inner.Spans.{AreRuns, IsCutTo, IsRowTo}
use Rattle.chunk_regions.proofs.BitLemmas.{IsTaken, bit_at-double}
use Rattle.nav_types.proofs.Items.{slice_get-append_left, slice_get-push_last, slice_get-push_cases}

-- nothing is cut before the first column
pub IsRowTo-start : (bits : ℕ) (spans : List Span) → IsRowTo (bit_at bits) (length spans) spans 0
IsRowTo-start bits spans = record {
  few = omega arith;
  longer = omega arith;
  ordered = λ k span from found. let within = slice_get_within spans k span found in absurd (omega arith);
  apart = λ k l west east from less found_west found_east. let within = slice_get_within spans k west found_west in absurd (omega arith);
  holds = λ x less. absurd (omega arith);
  set = λ k x span from found. let within = slice_get_within spans k span found in absurd (omega arith);
}

-- one more span of set bits, after clear ones and before a clear one
pub IsRowTo-push : (bits from : ℕ) (spans : List Span) (column : ℕ) (span : Span) → IsRowTo (bit_at bits) from spans column → column ≤ span.first → span.first ≤ span.last → span.last < 96
    → ((k : ℕ) → column ≤ k → k < span.first → bit_at bits k ≡ 0) → ((k : ℕ) → span.first ≤ k → k < span.last + 1 → bit_at bits k ≡ 1) → bit_at bits (span.last + 1) ≡ 0
    → IsRowTo (bit_at bits) from (spans ++ span ∷ []) (span.last + 2)
IsRowTo-push bits from spans column span r west ordered within before inside after =
    let n = length spans in
    let longer : length (spans ++ span ∷ []) ≡ n + 1 = length-append spans (span ∷ []) in
    let few = r.few in
    let from_low = r.longer in
    record {
      few = omega arith;
      longer = omega arith;
      ordered = λ k other low found. elim (slice_get-push_cases spans span k other found) [
        | inl older ↦ let was = r.ordered k other low older in (was.0, was.1, (let reach = was.2 in omega arith))
        | inr newest ↦ subst (λ (s : Span). (s.first ≤ s.last) × (s.last < 96) × (s.last + 1 < span.last + 2)) newest.1 (ordered, within, omega arith)
      ];
      apart = λ k l a b low less found_a found_b. elim (slice_get-push_cases spans span l b found_b) [
        | inl older ↦ elim (slice_get-push_cases spans span k a found_a) [
          | inl also ↦ r.apart k l a b low less also older
          | inr newest ↦ let last = slice_get_within spans l b older in let here = newest.0 in absurd (omega arith)
        ]
        | inr newest ↦ elim (slice_get-push_cases spans span k a found_a) [
          | inl older ↦
              let reach = (r.ordered k a low older).2 in
              subst (λ (s : Span). a.last + 1 < s.first) newest.1 (omega arith)
          | inr also ↦ let here = newest.0 in let there = also.0 in absurd (omega arith)
        ]
      ];
      holds = λ x less set. elim (cases_lt x column) [
        | inl earlier ↦ let was = r.holds x earlier set in
            (was.0, was.1, was.2, slice_get-append_left spans (span ∷ []) was.0 was.1 was.3, was.4, was.5)
        | inr later ↦ elim (cases_lt x span.first) [
          | inl gap ↦ let clear = before x later gap in absurd (omega arith)
          | inr in_span ↦ elim (cases_lt span.last x) [
            | inl past ↦
                let last : x ≡ span.last + 1 = omega arith in
                let clear : bit_at bits x ≡ 0 = ap (λ k. bit_at bits k) last ∙ after in
                absurd (omega arith)
            | inr reach ↦ (n, span, from_low, slice_get-push_last spans span, in_span, reach)
          ]
        ]
      ];
      set = λ k x other low found first last. elim (slice_get-push_cases spans span k other found) [
        | inl older ↦ r.set k x other low older first last
        | inr newest ↦ inside x (subst (λ (s : Span). s.first ≤ x) (sym newest.1) first)
            (let reach = subst (λ (s : Span). x ≤ s.last) (sym newest.1) last in omega arith)
      ];
    }

-- where no set bit is left, the row is cut
pub IsRowTo-end : (bits from : ℕ) (spans : List Span) (column : ℕ) → IsRowTo (bit_at bits) from spans column → column ≤ 97 → ((k : ℕ) → column ≤ k → bit_at bits k ≡ 0)
    → IsRowTo (bit_at bits) from spans 97
IsRowTo-end bits from spans column r within clear =
    let few = r.few in
    record {
      few = omega arith;
      longer = r.longer;
      ordered = λ k span low found. let was = r.ordered k span low found in (was.0, was.1, (let reach = was.2 in omega arith));
      apart = r.apart;
      holds = λ x less set. elim (cases_lt x column) [
        | inl earlier ↦ r.holds x earlier set
        | inr later ↦ let none = clear x later in absurd (omega arith)
      ];
      set = r.set;
    }

-- ---- edges of spans: a bit is set where the row's bit there and the one below differ

-- the bit at a place and the one below, which is clear below the lowest
abbrev turns : ℕ → ℕ → ℕ
turns bits k = (bit_at bits k + bit_at (bits * 2) k) % 2

-- where no edge comes, the bits stay as the one before them
steady : (bits value a d : ℕ) → bit_at (bits * 2) a ≡ value → ((k : ℕ) → a ≤ k → k ≤ a + d → turns bits k ≡ 0) → bit_at bits (a + d) ≡ value
steady bits value a zero before none =
    let here : a + 0 ≡ a = omega arith in
    let turn = none a (omega arith) (omega arith) in
    let low = bit_at-lt bits a in
    let same : bit_at bits a ≡ value = let lower = bit_at-lt (bits * 2) a in omega arith in
    ap (λ k. bit_at bits k) here ∙ same
steady bits value a (suc d) before none =
    let here : a + suc d ≡ suc (a + d) = omega arith in
    let last = steady bits value a d before (λ k from to. none k from (omega arith)) in
    let turn = none (suc (a + d)) (omega arith) (omega arith) in
    let below = bit_at-double bits (a + d) in
    let same : bit_at bits (suc (a + d)) ≡ value = let one = bit_at-lt bits (suc (a + d)) in let other = bit_at-lt bits (a + d) in omega arith in
    ap (λ k. bit_at bits k) here ∙ same

-- the row is cut below a column whose lower neighbour is clear, and the edges from there on are left
pub record IsCutBelow (bits from : ℕ) (spans : List Span) (edges : ℕ) : Type 0 where
  pub column : ℕ
  pub within : column ≤ 97
  pub few : edges < 2 ^ 97
  pub cut : IsRowTo (bit_at bits) from spans column
  pub shut : bit_at (bits * 2) column ≡ 0
  pub none : (k : ℕ) → k < column → bit_at edges k ≡ 0
  pub rest : (k : ℕ) → column ≤ k → bit_at edges k ≡ turns bits k

pub IsCutBelow-start : (bits : ℕ) (spans : List Span) → bits < 2 ^ 96 → IsCutBelow bits (length spans) spans (bit_xor bits (bits * 2))
IsCutBelow-start bits spans few = record {
  column = 0;
  within = omega arith;
  few = xor_lt 97 bits (bits * 2) (omega arith) (omega arith);
  cut = IsRowTo-start bits spans;
  shut = bit_at_lowest (bits * 2) ∙ omega arith;
  none = λ k less. absurd (omega arith);
  rest = λ k low. bit_at_xor bits (bits * 2) k;
}

-- the next span begins at a column
record IsOpened (bits column first mid : ℕ) : Type 0 where
  pub from : column ≤ first
  pub within : first < 96
  pub gap : (k : ℕ) → column ≤ k → k < first → bit_at bits k ≡ 0
  pub set : bit_at bits first ≡ 1
  pub none : (k : ℕ) → k ≤ first → bit_at mid k ≡ 0
  pub rest : (k : ℕ) → first < k → bit_at mid k ≡ turns bits k

opened : (bits from : ℕ) (spans : List Span) (edges first mid : ℕ) → bits < 2 ^ 96 → (c : IsCutBelow bits from spans edges) → IsTaken edges first mid → IsOpened bits c.column first mid
opened bits from spans edges first mid few c take =
    let column = c.column in
    let edge = take.set in
    let reach : column ≤ first = elim (cases_lt first column) [
      | inl less ↦ let none = c.none first less in absurd (omega arith)
      | inr more ↦ more
    ] in
    let gap : (k : ℕ) → column ≤ k → k < first → bit_at bits k ≡ 0 = λ k low high.
    let is : column + (k - column) ≡ k = omega arith in
    sym (ap (λ i. bit_at bits i) is) ∙ steady bits 0 column (k - column) c.shut (λ i from to. sym (c.rest i from) ∙ take.lowest i (omega arith)) in
    let turn : turns bits first ≡ 1 = sym (c.rest first reach) ∙ edge in
    let before : bit_at (bits * 2) first ≡ 0 = elim (cases_lt column first) [
      | inl less ↦
          let is : suc (first - 1) ≡ first = omega arith in
          sym (ap (λ i. bit_at (bits * 2) i) is) ∙ bit_at-double bits (first - 1) ∙ gap (first - 1) (omega arith) (omega arith)
      | inr more ↦ let is : first ≡ column = omega arith in ap (λ i. bit_at (bits * 2) i) is ∙ c.shut
    ] in
    let set : bit_at bits first ≡ 1 = let low = bit_at-lt bits first in omega arith in
    record {
      from = reach;
      within = elim (cases_lt first 96) [
        | inl less ↦ less
        | inr past ↦ let none = bit_at_above bits 96 first few past in absurd (omega arith)
      ];
      gap = gap;
      set = set;
      none = λ k less. elim (cases_lt k first) [
        | inl below ↦ take.others k (λ same. absurd (omega arith)) ∙ take.lowest k below
        | inr more ↦ let is : k ≡ first = omega arith in ap (λ i. bit_at mid i) is ∙ take.taken
      ];
      rest = λ k more. take.others k (λ same. absurd (omega arith)) ∙ c.rest k (omega arith);
    }

-- the bits from the begun span on to before the next edge
inside : (bits column first mid end : ℕ) → IsOpened bits column first mid → ((k : ℕ) → k < end → bit_at mid k ≡ 0) → (k : ℕ) → first ≤ k → k < end → bit_at bits k ≡ 1
inside bits column first mid end o none k low high = elim (cases_lt first k) [
  | inl further ↦
      let is : suc first + (k - suc first) ≡ k = omega arith in
      sym (ap (λ i. bit_at bits i) is)
      ∙ steady bits 1 (suc first) (k - suc first) (bit_at-double bits first ∙ o.set) (λ i from to. sym (o.rest i (omega arith)) ∙ none i (omega arith))
  | inr here ↦ let is : k ≡ first = omega arith in ap (λ i. bit_at bits i) is ∙ o.set
]

-- a begun span ends
pub IsCutBelow-open : (bits from : ℕ) (spans : List Span) (edges first mid : ℕ) → bits < 2 ^ 96 → IsCutBelow bits from spans edges → IsTaken edges first mid → 0 < mid
IsCutBelow-open bits from spans edges first mid few c take =
    let o = opened bits from spans edges first mid few c take in
    elim (cases_lt 0 mid) [
      | inl some ↦ some
      | inr none ↦
          let is : mid ≡ 0 = omega arith in
          let first_in = o.within in
          let one = inside bits c.column first mid 97 o (λ k less. ap (λ m. bit_at m k) is ∙ bit_at-zero k) 96 (omega arith) (omega arith) in
          let clear = bit_at_above bits 96 96 few (omega arith) in
          absurd (omega arith)
    ]

-- the next span, and the column behind it
pub record IsNext (bits from : ℕ) (spans : List Span) (first end edges : ℕ) : Type 0 where
  pub order : first < end
  pub within : end ≤ 96
  pub cut : (span : Span) → span.first ≡ first → span.last + 1 ≡ end → IsCutBelow bits from (spans ++ span ∷ []) edges

pub IsCutBelow-push : (bits from : ℕ) (spans : List Span) (edges first mid end new : ℕ) → bits < 2 ^ 96 → IsCutBelow bits from spans edges → IsTaken edges first mid → IsTaken mid end new → new < edges
    → IsNext bits from spans first end new
IsCutBelow-push bits from spans edges first mid end new few c one other smaller =
    let o = opened bits from spans edges first mid few c one in
    let reach = o.from in
    let order : first < end = elim (cases_lt first end) [
      | inl less ↦ less
      | inr more ↦ let none = o.none end more in let edge = other.set in absurd (omega arith)
    ] in
    let set = inside bits c.column first mid end o other.lowest in
    let turn : turns bits end ≡ 1 = sym (o.rest end order) ∙ other.set in
    let before : bit_at (bits * 2) end ≡ 1 =
    let is : suc (end - 1) ≡ end = omega arith in
    sym (ap (λ i. bit_at (bits * 2) i) is) ∙ bit_at-double bits (end - 1) ∙ set (end - 1) (omega arith) (omega arith) in
    let clear : bit_at bits end ≡ 0 = let low = bit_at-lt bits end in omega arith in
    let within : end ≤ 96 = elim (cases_lt 96 end) [
      | inl past ↦ let inner = o.within in let one = set 96 (omega arith) past in let none = bit_at_above bits 96 96 few (omega arith) in absurd (omega arith)
      | inr less ↦ less
    ] in
    record {
      order = order;
      within = within;
      cut = λ span is_first is_end.
          let column : span.last + 2 ≡ end + 1 = omega arith in
          let after : bit_at bits (span.last + 1) ≡ 0 = ap (λ k. bit_at bits k) is_end ∙ clear in
          record {
            column = end + 1;
            within = omega arith;
            few = let before = c.few in omega arith;
            cut = subst (λ k. IsRowTo (bit_at bits) from (spans ++ span ∷ []) k) column
                (IsRowTo-push bits from spans c.column span c.cut (omega arith) (omega arith) (omega arith) (λ k low high. o.gap k low (omega arith)) (λ k low high. set k (omega arith) (omega arith)) after);
            shut = let is : end + 1 ≡ suc end = omega arith in ap (λ k. bit_at (bits * 2) k) is ∙ bit_at-double bits end ∙ clear;
            none = λ k less. elim (cases_lt k end) [
              | inl below ↦ other.others k (λ same. absurd (omega arith)) ∙ other.lowest k below
              | inr more ↦ let is : k ≡ end = omega arith in ap (λ i. bit_at new i) is ∙ other.taken
            ];
            rest = λ k more. other.others k (λ same. absurd (omega arith)) ∙ o.rest k (omega arith);
          };
    }

-- where no edge is left, the row is cut
pub IsCutBelow-end : (bits from : ℕ) (spans : List Span) (edges : ℕ) → edges ≡ 0 → IsCutBelow bits from spans edges → IsRowTo (bit_at bits) from spans 97
IsCutBelow-end bits from spans edges empty c =
    IsRowTo-end bits from spans c.column c.cut c.within (λ k low.
    let is : c.column + (k - c.column) ≡ k = omega arith in
    sym (ap (λ i. bit_at bits i) is)
    ∙ steady bits 0 c.column (k - c.column) c.shut (λ i from to. sym (c.rest i from) ∙ ap (λ m. bit_at m i) empty ∙ bit_at-zero i))

pub IsCutTo-start : (on : ℕ → ℕ → ℕ) → IsCutTo on (0 ∷ []) [] 0
IsCutTo-start on = record {
  count = refl;
  start = refl;
  rising = λ r less. absurd (omega arith);
  within = λ r less. let first : r ≡ 0 = omega arith in subst (λ k. slice_index (0 ∷ []) k ≤ 0) (sym first) (omega arith);
  all = refl;
  few = omega arith;
  each_few = λ r less. absurd (omega arith);
  ordered = λ k span found. let within = slice_get_within [] k span found in absurd (omega arith);
  apart = λ r k l west east less. absurd (omega arith);
  holds = λ r x less. absurd (omega arith);
  set = λ r k x span less. absurd (omega arith);
}

pub IsCutTo-row : (on : ℕ → ℕ → ℕ) (starts : List ℕ) (spans new : List Span) (row : ℕ) → IsCutTo on starts spans row
    → ((k : ℕ) → k < length spans → slice_get new k ≡ slice_get spans k) → IsRowTo (on row) (length spans) new 97
    → IsCutTo on (starts ++ length new ∷ []) new (row + 1)
IsCutTo-row on starts spans new row c kept r =
    let n = length spans in
    let m = length new in
    let later = starts ++ m ∷ [] in
    let short = c.count in
    let all = c.all in
    let longer = r.longer in
    let old : (k : ℕ) → k ≤ row → slice_index later k ≡ slice_index starts k = λ k less. get_or_append_left starts (m ∷ []) 0 k (omega arith) in
    let last : slice_index later (row + 1) ≡ m = get_or_push starts m 0 (row + 1) short in
    let end_of : (k : ℕ) → k ≡ row → slice_index later (k + 1) ≡ m = λ k same. ap (λ i. slice_index later (i + 1)) same ∙ last in
    let start_of : (k : ℕ) → k ≡ row → slice_index later k ≡ n = λ k same. ap (λ i. slice_index later i) same ∙ old row (omega arith) ∙ all in
    record {
      count = length-append starts (m ∷ []) ∙ ap (λ k. k + 1) short;
      start = old 0 (omega arith) ∙ c.start;
      rising = λ k less. elim (cases_lt k row) [
        | inl earlier ↦
            let rise = c.rising k earlier in let a = old k (omega arith) in let b = old (k + 1) (omega arith) in omega arith
        | inr newest ↦ let same : k ≡ row = omega arith in let a = start_of k same in let b = end_of k same in omega arith
      ];
      within = λ k less. elim (cases_lt row k) [
        | inl newest ↦ let same : k ≡ row + 1 = omega arith in let a = ap (λ i. slice_index later i) same ∙ last in omega arith
        | inr earlier ↦ let a = old k earlier in let b = c.within k earlier in omega arith
      ];
      all = last;
      few = let shorter = c.few in let few = r.few in omega arith;
      each_few = λ k less. elim (cases_lt k row) [
        | inl earlier ↦ let was = c.each_few k earlier in let a = old k (omega arith) in let b = old (k + 1) (omega arith) in omega arith
        | inr newest ↦
            let same : k ≡ row = omega arith in let a = start_of k same in let b = end_of k same in let few = r.few in omega arith
      ];
      ordered = λ k span found. elim (cases_lt k n) [
        | inl earlier ↦ c.ordered k span (sym (kept k earlier) ∙ found)
        | inr newest ↦ let was = r.ordered k span newest found in (was.0, was.1)
      ];
      apart = λ i k l west east less low between high found_west found_east. elim (cases_lt i row) [
        | inl earlier ↦
            let a = old i (omega arith) in let b = old (i + 1) (omega arith) in let bound = c.within (i + 1) (omega arith) in
            c.apart i k l west east earlier (omega arith) between (omega arith) (sym (kept k (omega arith)) ∙ found_west) (sym (kept l (omega arith)) ∙ found_east)
        | inr newest ↦
            let same : i ≡ row = omega arith in let a = start_of i same in
            r.apart k l west east (omega arith) between found_west found_east
      ];
      holds = λ i x less within set. elim (cases_lt i row) [
        | inl earlier ↦
            let a = old i (omega arith) in let b = old (i + 1) (omega arith) in let bound = c.within (i + 1) (omega arith) in
            let was = c.holds i x earlier within set in
            let from = was.2 in let to = was.3 in
            (was.0, was.1, omega arith, omega arith, kept was.0 (omega arith) ∙ was.4, was.5, was.6)
        | inr newest ↦
            let same : i ≡ row = omega arith in let a = start_of i same in let b = end_of i same in
            let is = r.holds x (omega arith) (subst (λ j. on j x ≡ 1) same set) in
            let from = is.2 in
            let to = slice_get_within new is.0 is.1 is.3 in
            (is.0, is.1, omega arith, omega arith, is.3, is.4, is.5)
      ];
      set = λ i k x span less low high found first reach. elim (cases_lt i row) [
        | inl earlier ↦
            let a = old i (omega arith) in let b = old (i + 1) (omega arith) in let bound = c.within (i + 1) (omega arith) in
            c.set i k x span earlier (omega arith) (omega arith) (sym (kept k (omega arith)) ∙ found) first reach
        | inr newest ↦
            let same : i ≡ row = omega arith in let a = start_of i same in
            subst (λ j. on j x ≡ 1) (sym same) (r.set k x span (omega arith) found first reach)
      ];
    }

-- after the last row all set bits are held
pub IsCutTo-end : (on : ℕ → ℕ → ℕ) (starts : List ℕ) (spans : List Span) (row : ℕ) → row ≡ 96 → IsCutTo on starts spans row
    → AreRuns on (record { starts = starts; spans = spans })
IsCutTo-end on starts spans row end c =
    let d = subst (λ r. IsCutTo on starts spans r) end c in
    record {
      are = record {
        rows = d.count;
        start = d.start;
        rising = d.rising;
        all = d.all;
        few = d.few;
        each_few = d.each_few;
        ordered = d.ordered;
        apart = d.apart;
      };
      holds = λ r x row column set. let is = d.holds r x row column set in
          (is.0, record { span = is.1; found = is.4; row = row; from = is.2; to = is.3; west = is.5; east = is.6 });
      set = λ r k x is. d.set r k x is.span is.row is.from is.to is.found is.west is.east;
    }

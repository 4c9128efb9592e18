-- Bands of stops, and their lines.
use Rattle.std.proofs.Common.{◌≡◌, ◌≢◌, ℕ, zero, suc, ◌+◌, ◌-◌, ◌*◌, ◌/◌, ◌%◌, ◌<◌, ◌≤◌, max, Bool, List, [], ◌∷◌, drop, length, get_or, inl, inr, sym, ap, ap₂, ◌∙◌, subst, ⊎_elim, arith}
use Rattle.std.specs.Int.{bit_at}
use Rattle.std.specs.Prelude.{All, ⊤}
use Rattle.std.proofs.lemmas.Bool.{cases_lt, cases_eq}
use Rattle.std.proofs.lemmas.Nat.{mul-le}
use Rattle.std.proofs.lemmas.List.{length-take}
use Rattle.std.proofs.lemmas.List.Elements.{All-cons, All-nil}
use Rattle.nav_types.specs.declared.cells.Rect.{Rect}
use Rattle.nav_types.specs.declared.straights.Way.{Way}
use Rattle.class_planes.specs.inner.Lines.{LineTable, AreLines, line_at, line_in, patched}
use Rattle.class_planes.specs.inner.Runs.{bit_in, LaneWords}
use Rattle.class_planes.specs.inner.StopLines.{AreMapLines, AreBandStops, AreStops, AreStopsBefore, IsBandStop, IsFarFrom, IsInTouchedWord, line_before}
use Rattle.class_planes.proofs.ReadLemmas.{line_word, row_long}
use Rattle.class_planes.proofs.TurnLemmas.{patched_here, patched_elsewhere}
use Rattle.class_planes.proofs.WordLemmas.{past_line}

-- ---- lines

pub map_line_long : (lines : LineTable) (count n : ℕ) → AreMapLines count lines → n ≤ count
    → length (line_at lines n) ≡ lines.words
map_line_long lines count n are within =
    row_long (get_or lines.bands (n / 32) []) (n % 32) 32 lines.words (are.long (n / 32) (omega (arith, within)))
    (omega arith)

pub line_before_later : (count n : ℕ) → 0 < n → line_before count n ≡ n - 1
line_before_later count zero some = absurd (omega (arith, some))
line_before_later count (suc m) some = omega arith

abbrev pub three_lanes : List ℕ → List ℕ → List ℕ → LaneWords
three_lanes mid left right = record { mid = mid; left = left; right = right }

pub same_lanes : (mid mid' left left' right right' : List ℕ) → mid ≡ mid' → left ≡ left' → right ≡ right'
    → three_lanes mid left right ≡ three_lanes mid' left' right'
same_lanes mid mid' left left' right right' m l r =
    ap (λ (x : List ℕ). three_lanes x left right) m
    ∙ ap (λ (x : List ℕ). three_lanes mid' x right) l
    ∙ ap (λ (x : List ℕ). three_lanes mid' left' x) r

-- the lines of a map as a table of bands
pub are_map_lines : (free : ℕ → ℕ → Bool) (count places : ℕ) (lines : LineTable) → 0 < count → count ≤ 2048
    → places ≤ 2048 → AreLines free (count / 32 + 1) (places / 64 + 1) lines → AreMapLines count lines
are_map_lines free count places lines some low few are = record {
  many = are.many;
  long = λ b below. (are.each b below).long ∙ ap (λ w. 32 * w) (sym are.wide);
  wide = subst (λ w. 0 < w) (sym are.wide) (omega arith);
  few = subst (λ w. w ≤ 33) (sym are.wide) (omega (arith, few));
  some = some;
  low = low;
}

-- past its words a line of a band has no bit
line_past : (words m i : ℕ) (band : List ℕ) → words ≤ i / 64 → bit_in (line_in words band m) i ≡ 0
line_past words m i band past =
    past_line (line_in words band m) i
    (omega (arith, length-take (m * words + words - m * words) (drop (m * words) band), past))

-- a line of a band is replaced
pub line_fits : (words k n : ℕ) → n ≡ 32 * words → k < 32 → k * words + words ≤ n
line_fits words k n long below =
    let more : (k + 1) * words ≤ 32 * words = mul-le (k + 1) words 32 words (omega arith) (omega arith) in
    omega (arith, long, more)

pub put_here : (band out new : List ℕ) (words k m i : ℕ) → new ≡ patched band (k * words) out
    → length band ≡ 32 * words → k < 32 → length out ≡ words → m ≡ k
    → bit_in (line_in words new m) i ≡ bit_in out i
put_here band out new words k m i is long below wide same =
    let fits : k * words + words ≤ length band = line_fits words k (length band) long below in
    let inside : k * words + length out ≤ length band = omega (arith, fits, wide) in
    ap₂ (λ (xs : List ℕ) (n : ℕ). bit_in (line_in words xs n) i) is same
    ∙ ⊎_elim
    (λ (within : i / 64 < words).
    let there : k * words + i / 64 - k * words ≡ i / 64 = omega arith in
    ap (λ word. bit_at word (i % 64)) (line_word words k (i / 64) (patched band (k * words) out) within
    ∙ patched_here band out (k * words) (k * words + i / 64) inside (omega arith) (omega (arith, within, wide))
    ∙ ap (λ p. get_or out p 0) there))
    (λ (past : words ≤ i / 64).
    line_past words k i (patched band (k * words) out) past
    ∙ sym (past_line out i (omega (arith, past, wide))))
    (cases_lt (i / 64) words)

apart : (words k m w : ℕ) → m ≢ k → w < words → k * words ≤ m * words + w → m * words + w < k * words + words → ⊥
apart words k m w other within low high = ⊎_elim
    (λ (before : m < k).
    let more : (m + 1) * words ≤ k * words = mul-le (m + 1) words k words (omega arith) (omega arith) in
    omega (arith, more, low, within))
    (λ (from : k ≤ m).
    let more : (k + 1) * words ≤ m * words = mul-le (k + 1) words m words (omega (arith, from, other)) (omega arith) in
    omega (arith, more, high))
    (cases_lt m k)

pub put_other : (band out new : List ℕ) (words k m i : ℕ) → new ≡ patched band (k * words) out
    → length band ≡ 32 * words → k < 32 → length out ≡ words → m ≢ k
    → bit_in (line_in words new m) i ≡ bit_in (line_in words band m) i
put_other band out new words k m i is long below wide other =
    let fits : k * words + words ≤ length band = line_fits words k (length band) long below in
    let inside : k * words + length out ≤ length band = omega (arith, fits, wide) in
    ap (λ (xs : List ℕ). bit_in (line_in words xs m) i) is
    ∙ ⊎_elim
    (λ (within : i / 64 < words).
    ap (λ word. bit_at word (i % 64)) (line_word words m (i / 64) (patched band (k * words) out) within
    ∙ patched_elsewhere band out (k * words) (m * words + i / 64) inside
    (λ low high. apart words k m (i / 64) other within low (omega (arith, high, wide)))
    ∙ sym (line_word words m (i / 64) band within)))
    (λ (past : words ≤ i / 64).
    line_past words m i (patched band (k * words) out) past ∙ sym (line_past words m i band past))
    (cases_lt (i / 64) words)

-- ---- a rectangle whose lines are made anew

-- the lines near the rectangle before line n are right near it, and what was right stays so
pub record AreNear (way : Way) (lines : LineTable) (rect : Rect) (count first n : ℕ) (old now : List ℕ) : Type 0 where
  pub near : (m i : ℕ) → m < 32 → first + m < count → i / 64 < lines.words → IsInTouchedWord rect (first + m) i → first + m < n
      → IsBandStop way lines count first now m i
  pub kept : (m i : ℕ) → m < 32 → first + m < count → i / 64 < lines.words → IsBandStop way lines count first old m i
      → IsBandStop way lines count first now m i

pub none_near : (way : Way) (lines : LineTable) (rect : Rect) (count first n : ℕ) (band : List ℕ)
    → n ≡ max (rect.j0 - 1) first → AreNear way lines rect count first n band band
none_near way lines rect count first n band begins = record {
  near = λ m i small line within is below.
      let south : rect.j0 ≤ first + m + 1 = is.south in
      absurd (omega (arith, south, begins, below));
  kept = λ m i small line within is. is;
}

pub line_near : (way : Way) (lines : LineTable) (rect : Rect) (count first n : ℕ) (whole old new : List ℕ)
    → ((m i : ℕ) → first + m ≡ n → IsInTouchedWord rect n i → IsBandStop way lines count first new m i)
    → ((m i : ℕ) → m < 32 → first + m < count → i / 64 < lines.words → IsBandStop way lines count first old m i
    → IsBandStop way lines count first new m i)
    → AreNear way lines rect count first n whole old → AreNear way lines rect count first (n + 1) whole new
line_near way lines rect count first n whole old new here kept so_far = record {
  near = λ m i small line within is below. ⊎_elim
      (λ (same : first + m ≡ n). here m i same (subst (λ (q : ℕ). IsInTouchedWord rect q i) same is))
      (λ (other : first + m ≢ n).
      kept m i small line within (so_far.near m i small line within is (omega (arith, below, other))))
      (cases_eq (first + m) n);
  kept = λ m i small line within was. kept m i small line within (so_far.kept m i small line within was);
}

-- ---- all rectangles

pub near_or_not : {P : Type 0} (rect : Rect) (n i : ℕ) → (IsInTouchedWord rect n i → P) → ((IsInTouchedWord rect n i → ⊥) → P) → P
near_or_not rect n i here out = elim (cases_lt (n + 1) rect.j0) [
  | inl south ↦ out (λ near. let most : rect.j0 ≤ n + 1 = near.south in omega (arith, most, south))
  | inr from_south ↦ elim (cases_lt (rect.j1 + 1) n) [
    | inl north ↦ out (λ near. let most : n ≤ rect.j1 + 1 = near.north in omega (arith, most, north))
    | inr to_north ↦ elim (cases_lt (i / 64) ((rect.i0 - 1) / 64)) [
      | inl west ↦ out (λ near. let most : (rect.i0 - 1) / 64 ≤ i / 64 = near.west in omega (arith, most, west))
      | inr from_west ↦ elim (cases_lt ((rect.i1 + 1) / 64) (i / 64)) [
        | inl east ↦ out (λ near. let most : i / 64 ≤ (rect.i1 + 1) / 64 = near.east in omega (arith, most, east))
        | inr to_east ↦ here (record { south = from_south; north = to_north; west = from_west; east = to_east })
      ]
    ]
  ]
]

-- the bits are right where none of the rectangles from place `from` on is near
abbrev pub AreStopsBut : Way → LineTable → ℕ → ℕ → List Rect → ℕ → List ℕ → Type 0
AreStopsBut way lines count first rects from band = (m i : ℕ) → m < 32 → first + m < count → i / 64 < lines.words
    → ((k : ℕ) (d : Rect) → from ≤ k → k < length rects → IsInTouchedWord (get_or rects k d) (first + m) i → ⊥)
    → IsBandStop way lines count first band m i

pub stops_but_more : (way : Way) (lines : LineTable) (count first : ℕ) (rects : List Rect) (from : ℕ) (rect : Rect)
    (old new : List ℕ) → ((d : Rect) → get_or rects from d ≡ rect)
    → ((m i : ℕ) → m < 32 → first + m < count → i / 64 < lines.words → IsInTouchedWord rect (first + m) i
    → IsBandStop way lines count first new m i)
    → ((m i : ℕ) → m < 32 → first + m < count → i / 64 < lines.words → IsBandStop way lines count first old m i
    → IsBandStop way lines count first new m i)
    → AreStopsBut way lines count first rects from old → AreStopsBut way lines count first rects (from + 1) new
stops_but_more way lines count first rects from rect old new is near kept so_far m i small line within far =
    near_or_not rect (first + m) i
    (λ here. near m i small line within here)
    (λ not_here. kept m i small line within (so_far m i small line within (λ k d least below at. ⊎_elim
    (λ (same : k ≡ from). not_here (subst (λ (r : Rect). IsInTouchedWord r (first + m) i)
    (ap (λ p. get_or rects p d) same ∙ is d) at))
    (λ (later : k ≢ from). far k d (omega (arith, least, later)) below at)
    (cases_eq k from))))

-- ---- bands

-- a band that no rectangle comes near
pub band_far : (way : Way) (lines : LineTable) (count first : ℕ) (rects : List Rect) (band : List ℕ)
    → ((n i : ℕ) → first ≤ n → n < first + 32 → IsFarFrom rects n i)
    → AreBandStops (IsFarFrom rects) way lines count first band → AreBandStops (λ n i. ⊤) way lines count first band
band_far way lines count first rects band far is = record {
  long = is.long;
  each = λ m i small line within sure.
      is.each m i small line within (far (first + m) i (omega arith) (omega (arith, small)));
}

-- the bands before the next one are right, and all where no rectangle is near
pub record AreRenewed (way : Way) (lines : LineTable) (count : ℕ) (rects : List Rect) (next : ℕ)
    (stops : LineTable) : Type 0 where
  pub before : AreStopsBefore way rects count lines stops
  pub done : (b : ℕ) → b < count / 32 + 1 → b < next → AreBandStops (λ n i. ⊤) way lines count (32 * b) (get_or stops.bands b [])

-- one band more
pub renewed_more : (way : Way) (lines old new : LineTable) (count : ℕ) (rects : List Rect) (next : ℕ)
    → AreRenewed way lines count rects next old → new.words ≡ old.words → length new.bands ≡ length old.bands
    → AreBandStops (λ n i. ⊤) way lines count (32 * next) (get_or new.bands next [])
    → ((b : ℕ) → b ≢ next → get_or new.bands b [] ≡ get_or old.bands b [])
    → AreRenewed way lines count rects (next + 1) new
renewed_more way lines old new count rects next are same many here others = record {
  before = record {
    wide = same ∙ are.before.wide;
    many = many ∙ are.before.many;
    each = λ b below. ⊎_elim
        (λ (at : b ≡ next).
        subst (λ (n : ℕ). AreBandStops (IsFarFrom rects) way lines count (32 * n) (get_or new.bands n [])) (sym at)
        (record { long = here.long; each = λ m i small line within far. here.each m i small line within tt }))
        (λ (other : b ≢ next).
        subst (AreBandStops (IsFarFrom rects) way lines count (32 * b)) (sym (others b other)) (are.before.each b below))
        (cases_eq b next);
  };
  done = λ b below low. ⊎_elim
      (λ (at : b ≡ next).
      subst (λ (n : ℕ). AreBandStops (λ m i. ⊤) way lines count (32 * n) (get_or new.bands n [])) (sym at) here)
      (λ (other : b ≢ next).
      subst (AreBandStops (λ m i. ⊤) way lines count (32 * b)) (sym (others b other))
      (are.done b below (omega (arith, low, other))))
      (cases_eq b next);
}

pub one_rect : (P : Rect → Type 0) (rect : Rect) → P rect → All P (rect ∷ [])
one_rect P rect is = All-cons P rect [] is (All-nil P)

-- lines of any bits may be made anew near the whole map
pub blank_stops : (free : ℕ → ℕ → Bool) (way : Way) (lines blank : LineTable) (count : ℕ) (rects : List Rect) (rect : Rect)
    → rects ≡ rect ∷ [] → rect.i0 ≡ 0 → rect.j0 ≡ 0 → rect.i1 + 2 ≡ 64 * lines.words → rect.j1 + 1 ≡ count
    → AreLines free (count / 32 + 1) lines.words blank → AreStopsBefore way rects count lines blank
blank_stops free way lines blank count rects rect one i0 j0 i1 j1 are = record {
  wide = are.wide;
  many = are.many;
  each = λ b below. record {
    long = (are.each b below).long;
    each = λ m i small line within far.
        let away : IsFarFrom (rect ∷ []) (32 * b + m) i = subst (λ (rs : List Rect). IsFarFrom rs (32 * b + m) i) one far in
        absurd (away 0 rect (omega arith) (record {
          south = omega (arith, j0);
          north = omega (arith, j1, line);
          west = omega (arith, i0);
          east = omega (arith, i1, within);
        }));
  };
}

-- ---- a place of the table

pub record HasPlace (stops : LineTable) (n i : ℕ) : Type 0 where
  pub band : n / 32 < length stops.bands
  pub long : length (get_or stops.bands (n / 32) []) ≡ 32 * stops.words
  pub place : i / 64 < stops.words

pub has_place : (way : Way) (count places n i : ℕ) (lines stops : LineTable) → AreStops way count lines stops
    → lines.words ≡ places / 64 + 1 → n < count → i < places → HasPlace stops n i
has_place way count places n i lines stops are words line within =
    let wide : stops.words ≡ lines.words = are.wide in
    let many : length stops.bands ≡ count / 32 + 1 = are.many in
    record {
      band = omega (arith, many, line);
      long = (are.each (n / 32) (omega (arith, line))).long ∙ ap (λ w. 32 * w) (sym wide);
      place = omega (arith, wide, words, within);
    }

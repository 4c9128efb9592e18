-- Rows of spans that are taken over from those of before.
use Rattle.std.proofs.Common.{ℕ, zero, suc, ◌≡◌, ◌<◌, ◌≤◌, ◌+◌, ◌-◌, ◌*◌, ◌⊎◌, ◌&&◌, if◌then◌else◌, ◌∷◌, [], ◌++◌, List, length, length-append, map, take, drop, get_or, ap, refl, inl, inr, sym, subst, ◌∙◌, arith, Some}
use Rattle.std.specs.List.{slice_get}
use Rattle.std.specs.Prelude.{slice_index, replicate, nat_le, nat_lt}
use Rattle.std.proofs.lemmas.Bool.{cases_Bool, and_parts, and_from, leb-true, le-leb}
use Rattle.std.proofs.lemmas.List.{append-nil, append_assoc, drop_all, drop_at, get_or-drop, get_or-replicate, get_or-take, length-take-le, length-drop, length-map, map_more, take_all, take_at}
use Rattle.std.proofs.lemmas.Option.{slice_get_within}
use Rattle.chunk_regions.specs.declared.spans.Span.{Span}
use Rattle.chunk_regions.specs.inner.Spans.{Runs, AreSpans, Holds, IsCutTo, IsRowTo, bits_at, held_at, set_anew}
use Rattle.chunk_regions.specs.inner.Moving.{moved}
use Rattle.chunk_regions.proofs.RowLemmas.{IsCutTo-row}
use Rattle.chunk_regions.proofs.SpanLemmas.{starts_rise, starts_to_end, region_at-held, region_at-some}

-- ---- lists

slice_get-take : {A : Type 0} (n : ℕ) (xs : List A) (k : ℕ) → k < n → slice_get (take n xs) k ≡ slice_get xs k
slice_get-take zero xs k less = absurd (omega (arith, less))
slice_get-take (suc n) [] k less = refl
slice_get-take (suc n) (x ∷ xs) zero less = refl
slice_get-take (suc n) (x ∷ xs) (suc k) less = slice_get-take n xs k (omega (arith, less))

slice_get-drop : {A : Type 0} (n : ℕ) (xs : List A) (k : ℕ) → slice_get (drop n xs) k ≡ slice_get xs (n + k)
slice_get-drop zero xs k = let same : k ≡ 0 + k = omega arith in ap (λ i. slice_get xs i) same
slice_get-drop (suc n) [] k = refl
slice_get-drop (suc n) (x ∷ xs) k =
    let next : suc (n + k) ≡ suc n + k = omega arith in
    slice_get-drop n xs k ∙ ap (λ i. slice_get (x ∷ xs) i) next

slice_get-after : {A : Type 0} (xs ys : List A) (k : ℕ) → slice_get (xs ++ ys) (length xs + k) ≡ slice_get ys k
slice_get-after [] ys k = let same : 0 + k ≡ k = omega arith in ap (λ i. slice_get ys i) same
slice_get-after (x ∷ xs) ys k =
    let next : length (x ∷ xs) + k ≡ suc (length xs + k) = omega arith in
    ap (λ i. slice_get (x ∷ (xs ++ ys)) i) next ∙ slice_get-after xs ys k

-- what is put behind a list from a place of another on
taken_at : {A : Type 0} (xs from : List A) (first count k : ℕ) → k < count
    → slice_get (xs ++ take count (drop first from)) (length xs + k) ≡ slice_get from (first + k)
taken_at xs from first count k less =
    slice_get-after xs (take count (drop first from)) k ∙ slice_get-take count (drop first from) k less ∙ slice_get-drop first from k

-- what stands behind a list in one that begins with it
pub behind_is : (front back items now : List ℕ) (behind : ℕ) → items ≡ front ++ back → now ≡ items → behind ≡ length front
    → take (length now - behind) (drop behind now) ≡ back
behind_is front back items now behind is same at =
    let whole : now ≡ front ++ back = same ∙ is in
    let rest : drop behind now ≡ back = ap (λ (xs : List ℕ). drop behind xs) whole ∙ drop_at front back behind (sym at) in
    let long = ap (λ (xs : List ℕ). length xs) whole in
    let both = length-append front back in
    let count : length now - behind ≡ length back = omega arith in
    ap (λ n. take n (drop behind now)) count ∙ ap (λ (xs : List ℕ). take (length back) xs) rest ∙ take_all (length back) back (omega arith)

-- the list with other items behind the front one
pub put_behind : (f : ℕ → ℕ) (front back items now put : List ℕ) (behind count : ℕ) → items ≡ front ++ back → now ≡ items → behind ≡ length front
    → count ≡ length items → put ≡ map f (take (length now - behind) (drop behind now))
    → take count ((take behind now ++ (put ++ drop (length now - behind) (drop behind now)))
    ++ drop (length (take behind now ++ (put ++ drop (length now - behind) (drop behind now)))) items) ≡ front ++ map f back
put_behind f front back items now put behind count is same at all made =
    let whole : now ≡ front ++ back = same ∙ is in
    let first : take behind now ≡ front = ap (λ (xs : List ℕ). take behind xs) whole ∙ take_at front back behind (sym at) in
    let rest : drop behind now ≡ back = ap (λ (xs : List ℕ). drop behind xs) whole ∙ drop_at front back behind (sym at) in
    let long = ap (λ (xs : List ℕ). length xs) whole in
    let same_long = ap (λ (xs : List ℕ). length xs) same in
    let both = length-append front back in
    let left : length now - behind ≡ length back = omega arith in
    let none : drop (length now - behind) (drop behind now) ≡ [] =
    ap (λ n. drop n (drop behind now)) left ∙ ap (λ (xs : List ℕ). drop (length back) xs) rest ∙ drop_all (length back) back (omega arith) in
    let new : put ≡ map f back = made ∙ ap (λ (xs : List ℕ). map f xs) (behind_is front back items now behind is same at) in
    let made_of : take behind now ++ (put ++ drop (length now - behind) (drop behind now)) ≡ front ++ map f back =
    (λ i. first i ++ (new i ++ none i)) ∙ ap (λ (xs : List ℕ). front ++ xs) (append-nil (map f back)) in
    let mapped = length-map back f in
    let joined = length-append front (map f back) in
    let fits : length (front ++ map f back) ≡ count = omega arith in
    ap (λ (xs : List ℕ). take count (xs ++ drop (length xs) items)) made_of
    ∙ take_at (front ++ map f back) (drop (length (front ++ map f back)) items) count fits

-- ---- which columns are held

pub held_at-held : (runs : Runs) → AreSpans runs → (r k x : ℕ) → Holds runs r k x → held_at runs r x ≡ 1
held_at-held runs are r k x held =
    region_at-held runs (replicate (length runs.spans) 1) r k x are held
    ∙ get_or-replicate (length runs.spans) k 1 0 (slice_get_within runs.spans k held.span held.found)

pub held_at-some : (runs : Runs) (r x : ℕ) → r < 96 → held_at runs r x ≡ 1 → (k : ℕ) × Holds runs r k x
held_at-some runs r x in_row one = region_at-some runs (replicate (length runs.spans) 1) r x in_row (omega (arith, one))

pub set_anew-other : (before : Runs) (from to : ℕ) (bits : List ℕ) (r x : ℕ) → (r < from) ⊎ (to ≤ r)
    → set_anew before from to bits r x ≡ held_at before r x
set_anew-other before from to bits r x other = elim (cases_Bool (nat_le from r && nat_lt r to)) [
  | inl both ↦
      let parts = and_parts (nat_le from r) (nat_lt r to) both in
      let low = leb-true from r parts.0 in
      let high = leb-true (suc r) to parts.1 in
      absurd (elim other [ inl south ↦ omega arith | inr north ↦ omega arith ])
  | inr shut ↦ ap (λ b. if b then bits_at bits r x else held_at before r x) shut
]

pub set_anew-here : (before : Runs) (from to : ℕ) (bits : List ℕ) (r x : ℕ) → from ≤ r → r < to
    → set_anew before from to bits r x ≡ bits_at bits r x
set_anew-here before from to bits r x low high =
    ap (λ b. if b then bits_at bits r x else held_at before r x) (and_from (nat_le from r) (nat_lt r to) (le-leb from r low) (le-leb (suc r) to high))

-- ---- one row

pub IsRowTo-same : (on other : ℕ → ℕ) (from : ℕ) (spans : List Span) (column : ℕ) → ((x : ℕ) → on x ≡ other x) → IsRowTo on from spans column
    → IsRowTo other from spans column
IsRowTo-same on other from spans column same r = record {
  few = r.few;
  longer = r.longer;
  ordered = r.ordered;
  apart = r.apart;
  holds = λ x less set. r.holds x less (same x ∙ set);
  set = λ k x span low found first last. sym (same x) ∙ r.set k x span low found first last;
}

-- the spans of a row of before hold its columns
IsRowTo-copied : (before : Runs) → AreSpans before → (on : ℕ → ℕ) (r n : ℕ) (new : List Span) → r < 96 → ((x : ℕ) → on x ≡ held_at before r x)
    → length new ≡ n + (slice_index before.starts (r + 1) - slice_index before.starts r)
    → ((k : ℕ) → n ≤ k → k < length new → slice_get new k ≡ slice_get before.spans (slice_index before.starts r + (k - n)))
    → IsRowTo on n new 97
IsRowTo-copied before are on r n new in_row same long copied =
    let start = slice_index before.starts r in
    let end = slice_index before.starts (r + 1) in
    let rise = are.rising r in_row in
    let few = are.each_few r in_row in
    let was : (k : ℕ) (span : Span) → n ≤ k → slice_get new k ≡ Some span → slice_get before.spans (start + (k - n)) ≡ Some span = λ k span from found.
    sym (copied k from (slice_get_within new k span found)) ∙ found in
    record {
      few = omega arith;
      longer = omega arith;
      ordered = λ k span from found.
          let o = are.ordered (start + (k - n)) span (was k span from found) in
          let low = o.0 in
          let high = o.1 in
          (low, high, omega arith);
      apart = λ k l west east from less found_west found_east.
          let last = slice_get_within new l east found_east in
          are.apart r (start + (k - n)) (start + (l - n)) west east in_row (omega arith) (omega arith) (omega arith) (was k west from found_west)
          (was l east (omega arith) found_east);
      holds = λ x less set.
          let is = held_at-some before r x in_row (sym (same x) ∙ set) in
          let h = is.1 in
          let low = h.from in
          let high = h.to in
          let k = n + (is.0 - start) in
          let back : start + (k - n) ≡ is.0 = omega arith in
          (k, h.span, omega arith, copied k (omega arith) (omega arith) ∙ ap (λ i. slice_get before.spans i) back ∙ h.found, h.west, h.east);
      set = λ k x span from found first last.
          let within = slice_get_within new k span found in
          let held : Holds before r (start + (k - n)) x = record {
            span = span;
            found = was k span from found;
            row = in_row;
            from = omega arith;
            to = omega arith;
            west = first;
            east = last;
          } in
          same x ∙ held_at-held before are r (start + (k - n)) x held;
    }

-- ---- rows from one on

starts_order : (runs : Runs) → AreSpans runs → (r s : ℕ) → r ≤ s → s ≤ 96 → slice_index runs.starts r ≤ slice_index runs.starts s
starts_order runs are r s less within =
    let same : r + (s - r) ≡ s = omega arith in
    subst (λ k. slice_index runs.starts r ≤ slice_index runs.starts k) same (starts_rise runs are r (s - r) (omega arith))

-- so many rows have at most so many spans
starts_few : (runs : Runs) → AreSpans runs → (r d : ℕ) → r + d ≤ 96 → slice_index runs.starts (r + d) ≤ slice_index runs.starts r + 48 * d
starts_few runs are r zero within =
    let same : r ≡ r + 0 = omega arith in
    subst (λ k. slice_index runs.starts k ≤ slice_index runs.starts r + 48 * 0) same (omega arith)
starts_few runs are r (suc d) within =
    let before = starts_few runs are r d (omega arith) in
    let last = are.each_few (r + d) (omega arith) in
    let next : r + d + 1 ≡ r + suc d = omega arith in
    subst (λ k. slice_index runs.starts k ≤ slice_index runs.starts r + 48 * suc d) next (omega arith)

-- the order and the counts of the spans of rows that are taken over
pub record AreTaken (before : Runs) (from row to : ℕ) : Type 0 where
  pub low : slice_index before.starts from ≤ slice_index before.starts row
  pub high : slice_index before.starts row ≤ slice_index before.starts to
  pub end : slice_index before.starts to ≤ length before.spans
  pub few : slice_index before.starts row ≤ slice_index before.starts from + 48 * (row - from)

pub are_taken : (before : Runs) → AreSpans before → (from row to : ℕ) → from ≤ row → row ≤ to → to ≤ 96 → AreTaken before from row to
are_taken before are from row to low high within =
    let same : from + (row - from) ≡ row = omega arith in
    record {
      low = starts_order before are from row low (omega arith);
      high = starts_order before are row to high within;
      end = starts_to_end before are to within;
      few = subst (λ r. slice_index before.starts r ≤ slice_index before.starts from + 48 * (row - from)) same (starts_few before are from (row - from) (omega arith));
    }

-- the spans with those of the rows from one to before another behind them
abbrev pub taken : Runs → List Span → ℕ → ℕ → List Span
taken before old from to =
    old ++ take (slice_index before.starts to - slice_index before.starts from) (drop (slice_index before.starts from) before.spans)

-- how many spans there are with those of the rows from one to before another
abbrev pub taken_to : Runs → List Span → ℕ → ℕ → ℕ
taken_to before old from row = length old + (slice_index before.starts row - slice_index before.starts from)

pub length-taken : (before : Runs) → AreSpans before → (old : List Span) (from to : ℕ) → from ≤ to → to ≤ 96
    → length (taken before old from to) ≡ taken_to before old from to
length-taken before are old from to order within =
    let count = slice_index before.starts to - slice_index before.starts from in
    let rest = drop (slice_index before.starts from) before.spans in
    let t = are_taken before are from to to order (omega arith) within in
    let end = t.end in
    let low = t.low in
    let left = length-drop (slice_index before.starts from) before.spans in
    let some : length (take count rest) ≡ count = length-take-le count rest (omega arith) in
    length-append old (take count rest) ∙ ap (λ n. length old + n) some

-- one row more is taken over
pub IsCutTo-taken : (on : ℕ → ℕ → ℕ) (before : Runs) → AreSpans before → (starts : List ℕ) (old : List Span) (from to row : ℕ) → from ≤ row → row < to → to ≤ 96
    → ((x : ℕ) → on row x ≡ held_at before row x)
    → IsCutTo on starts (take (taken_to before old from row) (taken before old from to)) row
    → IsCutTo on (starts ++ taken_to before old from (row + 1) ∷ []) (take (taken_to before old from (row + 1)) (taken before old from to)) (row + 1)
IsCutTo-taken on before are starts old from to row low high within same cut =
    let all = taken before old from to in
    let a = taken_to before old from row in
    let b = taken_to before old from (row + 1) in
    let first = slice_index before.starts from in
    let count = slice_index before.starts to - first in
    let one = are_taken before are from row to low (omega arith) within in
    let other = are_taken before are from (row + 1) to (omega arith) (omega arith) within in
    let start_low = one.low in
    let start_high = one.high in
    let end_low = other.low in
    let end_high = other.high in
    let rise = are.rising row (omega arith) in
    let whole = length-taken before are old from to (omega arith) within in
    let shorter : length (take a all) ≡ a = length-take-le a all (omega arith) in
    let longer : length (take b all) ≡ b = length-take-le b all (omega arith) in
    let row_to = IsRowTo-copied before are (on row) row (length (take a all)) (take b all) (omega arith) same (omega arith)
    (λ k late less.
    let here : k ≡ length old + (k - length old) = omega arith in
    let there : first + (k - length old) ≡ slice_index before.starts row + (k - length (take a all)) = omega arith in
    slice_get-take b all k (omega arith) ∙ ap (λ i. slice_get all i) here ∙ taken_at old before.spans first count (k - length old) (omega arith)
    ∙ ap (λ i. slice_get before.spans i) there) in
    subst (λ n. IsCutTo on (starts ++ n ∷ []) (take b all) (row + 1)) longer
    (IsCutTo-row on starts (take a all) (take b all) row cut
    (λ k less. slice_get-take b all k (omega arith) ∙ sym (slice_get-take a all k (omega arith)))
    row_to)

-- the places behind the last span of each row from one on to before another
abbrev pub ends : Runs → ℕ → ℕ → List ℕ
ends before from count = take count (drop (from + 1) before.starts)

-- the places behind the rows that are taken over
pub record AreEnds (before : Runs) (from to k : ℕ) : Type 0 where
  pub low : slice_index before.starts from ≤ slice_index (ends before from (to - from)) k
  pub few : slice_index (ends before from (to - from)) k ≤ slice_index before.starts from + 48 * (to - from)

pub are_ends : (before : Runs) → AreSpans before → (from to k : ℕ) → from ≤ to → to ≤ 96 → k < to - from → AreEnds before from to k
are_ends before are from to k order within less =
    let row = from + 1 + k in
    let t = are_taken before are from row to (omega arith) (omega arith) within in
    let low = t.low in
    let few = t.few in
    let read : slice_index (ends before from (to - from)) k ≡ slice_index before.starts row =
    get_or-take (to - from) (drop (from + 1) before.starts) k 0 less ∙ get_or-drop (from + 1) before.starts k 0 in
    record { low = omega arith; few = omega arith }

pub length-ends : (before : Runs) → AreSpans before → (from to : ℕ) → from ≤ to → to ≤ 96 → length (ends before from (to - from)) ≡ to - from
length-ends before are from to order within =
    let rows = are.rows in
    let long = length-drop (from + 1) before.starts in
    length-take-le (to - from) (drop (from + 1) before.starts) (omega arith)

-- so many rows are taken over with their places moved
pub IsCutTo-copied : (on : ℕ → ℕ → ℕ) (before : Runs) → AreSpans before → (starts : List ℕ) (old : List Span) (from to : ℕ) → to ≤ 96
    → ((row column : ℕ) → from ≤ row → row < to → on row column ≡ held_at before row column)
    → IsCutTo on starts old from → (d : ℕ) → from + d ≤ to
    → IsCutTo on (starts ++ map (moved (slice_index before.starts from) (length old)) (ends before from d))
    (take (taken_to before old from (from + d)) (taken before old from to)) (from + d)
IsCutTo-copied on before are starts old from to within same cut zero fits =
    let rest = take (slice_index before.starts to - slice_index before.starts from) (drop (slice_index before.starts from) before.spans) in
    let none : taken_to before old from from ≡ length old = omega arith in
    let whole : take (taken_to before old from from) (taken before old from to) ≡ old = take_at old rest (taken_to before old from from) (sym none) in
    let here : from ≡ from + 0 = omega arith in
    subst (λ (r : ℕ). IsCutTo on (starts ++ []) (take (taken_to before old from r) (taken before old from to)) r) here
    (subst (λ (ns : List ℕ). IsCutTo on ns (take (taken_to before old from from) (taken before old from to)) from) (sym (append-nil starts))
    (subst (λ (spans : List Span). IsCutTo on starts spans from) (sym whole) cut))
IsCutTo-copied on before are starts old from to within same cut (suc d) fits =
    let all = taken before old from to in
    let row = from + d in
    let f = moved (slice_index before.starts from) (length old) in
    let behind = drop (from + 1) before.starts in
    let before_it = IsCutTo-copied on before are starts old from to within same cut d (omega arith) in
    let taken_row = IsCutTo-taken on before are (starts ++ map f (ends before from d)) old from to row (omega arith) (omega arith) within
    (λ x. same row x (omega arith) (omega arith)) before_it in
    let long = length-drop (from + 1) before.starts in
    let rows = are.rows in
    let place : from + 1 + d ≡ row + 1 = omega arith in
    let one : d + 1 ≡ suc d = omega arith in
    let next : row + 1 ≡ from + suc d = omega arith in
    let read : get_or behind d 0 ≡ slice_index before.starts (row + 1) = get_or-drop (from + 1) before.starts d 0 ∙ ap (λ k. get_or before.starts k 0) place in
    let more : map f (take (d + 1) behind) ≡ map f (take d behind) ++ f (get_or behind d 0) ∷ [] = map_more f behind d 0 (omega arith) in
    let longer : (starts ++ map f (ends before from d)) ++ taken_to before old from (row + 1) ∷ [] ≡ starts ++ map f (ends before from (suc d)) =
    append_assoc starts (map f (ends before from d)) (taken_to before old from (row + 1) ∷ [])
    ∙ ap (λ (k : ℕ). starts ++ (map f (ends before from d) ++ f k ∷ [])) (sym read)
    ∙ ap (λ (ns : List ℕ). starts ++ ns) (sym more)
    ∙ ap (λ (n : ℕ). starts ++ map f (ends before from n)) one in
    subst (λ (r : ℕ). IsCutTo on (starts ++ map f (ends before from (suc d))) (take (taken_to before old from r) all) r) next
    (subst (λ (ns : List ℕ). IsCutTo on ns (take (taken_to before old from (row + 1)) all) (row + 1)) longer taken_row)

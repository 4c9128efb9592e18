-- A row whose span got a mask, block by block and place by place.
use Rattle.std.proofs.Common.{◌≡◌, ℕ, ◌+◌, ◌-◌, ◌<◌, ◌≤◌, ◌⊎◌, ⊎_elim, List, ◌++◌, length, map, take, drop, get_or, replicate, bit_or, refl, sym, ap, ◌∙◌, arith}
use Rattle.std.specs.Simd.Lanes.{zip2, chunk, put_chunk}
use Rattle.std.proofs.lemmas.List.{append_assoc, ext_get_or, take_all, drop-drop, length-take-le, length-append, length-map, length-drop, get_or_append_left, get_or-append_right, get_or-take, get_or-drop, get_or-map}
use Rattle.std.proofs.lemmas.Bool.{cases_lt}
use Rattle.std.proofs.lemmas.Simd.{zip2_splat, put_chunk_whole}
use Rattle.lane_rows.specs.Rows.{with_span}

-- a block of lanes, stored over itself
pub or_lanes : (n mask : ℕ) (xs : List ℕ) → length xs ≡ n
    → put_chunk 0 xs (zip2 bit_or (chunk 0 n xs) (replicate n mask)) ≡ map (λ x. bit_or x mask) xs
or_lanes n mask xs long =
    let whole : chunk 0 n xs ≡ xs = take_all n xs (omega arith) in
    let lanes : zip2 bit_or (chunk 0 n xs) (replicate n mask) ≡ map (λ x. bit_or x mask) xs =
    ap (λ ys. zip2 bit_or ys (replicate n mask)) whole ∙ zip2_splat bit_or xs n mask long in
    ap (put_chunk 0 xs) lanes ∙ put_chunk_whole xs (map (λ x. bit_or x mask) xs) (sym (length-map xs (λ x. bit_or x mask)))

-- the places of the span, which got the mask
span_of : ℕ → ℕ → ℕ → List ℕ → List ℕ
span_of from to mask row = map (λ x. bit_or x mask) (take (to - from) (drop from row))

length-span_of : (from to mask : ℕ) (row : List ℕ) → from ≤ to → to ≤ length row → length (span_of from to mask row) ≡ to - from
unfolding span_of
length-span_of from to mask row ordered within =
    length-map (take (to - from) (drop from row)) (λ x. bit_or x mask)
    ∙ length-take-le (to - from) (drop from row) (omega (arith, length-drop from row))

length-front : (from to mask : ℕ) (row : List ℕ) → from ≤ to → to ≤ length row → length (take from row ++ span_of from to mask row) ≡ to
length-front from to mask row ordered within =
    omega (arith, length-append (take from row) (span_of from to mask row), length-take-le from row (omega arith), length-span_of from to mask row ordered within)

with_span_is : (from to mask : ℕ) (row : List ℕ) → with_span from to mask row ≡ (take from row ++ span_of from to mask row) ++ drop to row
unfolding span_of
with_span_is from to mask row = refl

pub length-with_span : (from to mask : ℕ) (row : List ℕ) → from ≤ to → to ≤ length row → length (with_span from to mask row) ≡ length row
length-with_span from to mask row ordered within =
    ap length (with_span_is from to mask row)
    ∙ omega (arith, length-append (take from row ++ span_of from to mask row) (drop to row), length-front from to mask row ordered within, length-drop to row)

-- in the span a place has the mask's bits besides its own
pub span_inside : (from to mask : ℕ) (row : List ℕ) (k : ℕ) → from ≤ k → k < to → to ≤ length row
    → get_or (with_span from to mask row) k 0 ≡ bit_or (get_or row k 0) mask
unfolding span_of
span_inside from to mask row k above below within =
    let part : List ℕ = take (to - from) (drop from row) in
    let long : length part ≡ to - from = length-take-le (to - from) (drop from row) (omega (arith, length-drop from row)) in
    let before : length (take from row) ≡ from = length-take-le from row (omega arith) in
    let here : get_or part (k - from) 0 ≡ get_or row k 0 =
    get_or-take (to - from) (drop from row) (k - from) 0 (omega arith)
    ∙ get_or-drop from row (k - from) 0
    ∙ (let e : from + (k - from) ≡ k = omega arith in ap (λ p. get_or row p 0) e) in
    get_or_append_left (take from row ++ span_of from to mask row) (drop to row) 0 k (omega (arith, length-front from to mask row (omega arith) within))
    ∙ get_or-append_right (take from row) (span_of from to mask row) from k 0 before above
    ∙ get_or-map (λ x. bit_or x mask) part (k - from) 0 0 (omega arith)
    ∙ ap (λ x. bit_or x mask) here

-- before the span a place is as it was
pub span_before : (from to mask : ℕ) (row : List ℕ) (k : ℕ) → from ≤ to → to ≤ length row → k < from
    → get_or (with_span from to mask row) k 0 ≡ get_or row k 0
unfolding span_of
span_before from to mask row k ordered within below =
    let before : length (take from row) ≡ from = length-take-le from row (omega arith) in
    get_or_append_left (take from row ++ span_of from to mask row) (drop to row) 0 k (omega (arith, length-front from to mask row ordered within))
    ∙ get_or_append_left (take from row) (span_of from to mask row) 0 k (omega arith)
    ∙ get_or-take from row k 0 below

-- and so is one past it
pub span_after : (from to mask : ℕ) (row : List ℕ) (k : ℕ) → from ≤ to → to ≤ length row → to ≤ k
    → get_or (with_span from to mask row) k 0 ≡ get_or row k 0
unfolding span_of
span_after from to mask row k ordered within above =
    get_or-append_right (take from row ++ span_of from to mask row) (drop to row) to k 0 (length-front from to mask row ordered within) above
    ∙ get_or-drop to row (k - to) 0
    ∙ (let e : to + (k - to) ≡ k = omega arith in ap (λ p. get_or row p 0) e)

pub span_outside : (from to mask : ℕ) (row : List ℕ) → from ≤ to → to ≤ length row → (k : ℕ) → (k < from) ⊎ (to ≤ k)
    → get_or (with_span from to mask row) k 0 ≡ get_or row k 0
span_outside from to mask row ordered within k side =
    ⊎_elim (λ below. span_before from to mask row k ordered within below) (λ above. span_after from to mask row k ordered within above) side

-- a span and then the one that follows it
pub with_span_more : (from mid to mask : ℕ) (row : List ℕ) → from ≤ mid → mid ≤ to → to ≤ length row
    → with_span mid to mask (with_span from mid mask row) ≡ with_span from to mask row
with_span_more from mid to mask row low high within =
    let first : List ℕ = with_span from mid mask row in
    let long : length first ≡ length row = length-with_span from mid mask row low (omega arith) in
    let fits : to ≤ length first = omega arith in
    let short : mid ≤ length row = omega arith in
    let wide : from ≤ to = omega arith in
    ext_get_or 0 (with_span mid to mask first) (with_span from to mask row)
    (length-with_span mid to mask first high fits ∙ long ∙ sym (length-with_span from to mask row wide within))
    (λ k _. ⊎_elim
    (λ (below : k < from).
    span_before mid to mask first k high fits (omega arith)
    ∙ span_before from mid mask row k low short below
    ∙ sym (span_before from to mask row k wide within below))
    (λ (above : from ≤ k). ⊎_elim
    (λ (left : k < mid).
    span_before mid to mask first k high fits left
    ∙ span_inside from mid mask row k above left short
    ∙ sym (span_inside from to mask row k above (omega arith) within))
    (λ (right : mid ≤ k). ⊎_elim
    (λ (inner : k < to).
    span_inside mid to mask first k right inner fits
    ∙ ap (λ x. bit_or x mask) (span_after from mid mask row k low short right)
    ∙ sym (span_inside from to mask row k above inner within))
    (λ (past : to ≤ k).
    span_after mid to mask first k high fits past
    ∙ span_after from mid mask row k low short right
    ∙ sym (span_after from to mask row k wide within past))
    (cases_lt k to))
    (cases_lt k mid))
    (cases_lt k from))

-- a write of the span alone
pub span_written : (from to mask : ℕ) (row part : List ℕ) → from ≤ to
    → part ≡ map (λ x. bit_or x mask) (take (to - from) (drop from row))
    → take from row ++ (part ++ drop (to - from) (drop from row)) ≡ with_span from to mask row
span_written from to mask row part ordered is =
    let e : from + (to - from) ≡ to = omega arith in
    sym (append_assoc (take from row) part (drop (to - from) (drop from row)))
    ∙ ap (λ rest. take from row ++ part ++ rest) (drop-drop (to - from) from row ∙ ap (λ p. drop p row) e)
    ∙ ap (λ middle. take from row ++ middle ++ drop to row) is

-- a write of the next part of a span that is done up to mid
pub span_more : (from mid to mask : ℕ) (old row part : List ℕ) → from ≤ mid → mid ≤ to → to ≤ length old
    → row ≡ with_span from mid mask old
    → part ≡ map (λ x. bit_or x mask) (take (to - mid) (drop mid row))
    → take mid row ++ (part ++ drop (to - mid) (drop mid row)) ≡ with_span from to mask old
span_more from mid to mask old row part low high within done is =
    span_written mid to mask row part high is
    ∙ ap (with_span mid to mask) done
    ∙ with_span_more from mid to mask old low high within

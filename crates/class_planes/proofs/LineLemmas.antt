-- Lines that are appended one after another.
use Rattle.std.proofs.Common.{◌≡◌, ℕ, ◌+◌, ◌-◌, ◌*◌, ◌<◌, ◌≤◌, Bool, List, [], ◌∷◌, ◌++◌, length, map, take, drop, get_or, refl, sym, ap, ◌∙◌, subst, ⊎_elim, arith}
use Rattle.std.proofs.lemmas.Bool.{cases_lt}
use Rattle.std.specs.List.{AllZip}
use Rattle.std.proofs.lemmas.List.{take-map, drop-map, map-append, get_or-take, get_or-drop, get_or-append_right, take-append-le, take_all, drop_at, drop-append-le, length-drop, length-take-le, get_or_append_left, get_or_at, length-append}
use Rattle.std.proofs.lemmas.Nat.{mul-le}
use Rattle.class_planes.specs.Planes.{AreFreeBits}
use Rattle.class_planes.specs.inner.Lines.{LineTable, line_in, IsBand, AreLines}

-- how long a part of a list is
pub part_long : (xs : List ℕ) (from to words : ℕ) → from + words ≡ to → to ≤ length xs
    → length (take (to - from) (drop from xs)) ≡ words
part_long xs from to words is inside =
    length-take-le (to - from) (drop from xs) (omega (arith, is, inside, length-drop from xs)) ∙ omega (arith, is)

-- a line of a band stays where more is appended
old_line : (words k count : ℕ) (band line : List ℕ) → length band ≡ count * words → k < count
    → line_in words (band ++ line) k ≡ line_in words band k
old_line words k count band line long below =
    let start : ℕ = k * words in
    let more : (k + 1) * words ≤ count * words = mul-le (k + 1) words count words (omega arith) (omega arith) in
    let fits : k * words + words ≤ length band = omega arith in
    ap (take (start + words - start)) (drop-append-le start band line (omega arith))
    ∙ take-append-le (start + words - start) (drop start band) line (omega (arith, length-drop start band))

-- the line that was appended
new_line : (words count : ℕ) (band line : List ℕ) → length band ≡ count * words → length line ≡ words
    → line_in words (band ++ line) count ≡ line
new_line words count band line long wide =
    let start : ℕ = count * words in
    ap (take (start + words - start)) (drop_at band line start long)
    ∙ take_all (start + words - start) line (omega arith)

-- what holds of each line, where one line more is appended
pub each_line_more : (P : ℕ → List ℕ → Type 0) (words count : ℕ) (band line : List ℕ) → length band ≡ count * words
    → length line ≡ words → ((k : ℕ) → k < count → P k (line_in words band k)) → P count line
    → (k : ℕ) → k < count + 1 → P k (line_in words (band ++ line) k)
each_line_more P words count band line long wide each one k below = ⊎_elim
    (λ (old : k < count). subst (P k) (sym (old_line words k count band line long old)) (each k old))
    (λ (new : count ≤ k).
    let here : k ≡ count = omega arith in
    subst (λ n. P n (line_in words (band ++ line) n)) (sym here)
    (subst (P count) (sym (new_line words count band line long wide)) one))
    (cases_lt k count)

-- a band with one line more
pub band_more : (free : ℕ → ℕ → Bool) (first words count : ℕ) (band line : List ℕ) → IsBand free first words count band
    → length line ≡ words
    → AreFreeBits (free (first + count)) line → IsBand free first words (count + 1) (band ++ line)
band_more free first words count band line is wide bits = record {
  long = omega (arith, length-append band line, is.long, wide);
  each = each_line_more (λ k. AreFreeBits (free (first + k))) words count band line is.long wide is.each bits;
}

-- a table with one band more
pub lines_more : (free : ℕ → ℕ → Bool) (count words : ℕ) (before now : LineTable) (band : List ℕ)
    → AreLines free count words before
    → now.words ≡ before.words → now.bands ≡ before.bands ++ band ∷ [] → IsBand free (32 * count) words 32 band →
    AreLines free (count + 1) words now
lines_more free count words before now band are same more is = record {
  wide = same ∙ are.wide;
  many = ap length more ∙ length-append before.bands (band ∷ []) ∙ omega (arith, are.many);
  each = λ b below. subst (λ bands. IsBand free (32 * b) words 32 (get_or bands b [])) (sym more) (⊎_elim
      (λ (old : b < count). subst (IsBand free (32 * b) words 32)
      (sym (get_or_append_left before.bands (band ∷ []) [] b (omega (arith, are.many)))) (are.each b old))
      (λ (new : count ≤ b).
      let here : b ≡ count = omega arith in
      subst (λ n. IsBand free (32 * n) words 32 (get_or (before.bands ++ band ∷ []) n [])) (sym here)
      (subst (IsBand free (32 * count) words 32) (sym (get_or_at before.bands band [] [] count are.many)) is))
      (cases_lt b count));
}

-- ---- bands of another table that are appended

-- clones of items that others may hold have their values
cloned : {A B : Type 0} (f : A → B) (xs ys : List A) → AllZip (λ x y. f y ≡ f x) xs ys → map f ys ≡ map f xs
cloned f [] [] same = refl
cloned f [] (y ∷ ys) same = absurd same
cloned f (x ∷ xs) [] same = absurd same
cloned f (x ∷ xs) (y ∷ ys) same = λ i. same.0 i ∷ cloned f xs ys same.1 i

-- the values of some of a list's items
pub range_mapped : {A B : Type 0} (f : A → B) (xs : List A) (start end : ℕ)
    → map f (take (end - start) (drop start xs)) ≡ take (end - start) (drop start (map f xs))
range_mapped f xs start end =
    sym (ap (take (end - start)) (drop-map f start xs) ∙ take-map f (end - start) (drop start xs))

-- the values of a list and of some of another one's items behind them
pub clones_behind : {A B : Type 0} (f : A → B) (old new xs : List A) (start end : ℕ)
    → ((ys : List A) × (new ≡ old ++ ys) × AllZip (λ x y. f y ≡ f x) (take (end - start) (drop start xs)) ys)
    → map f new ≡ map f old ++ take (end - start) (drop start (map f xs))
clones_behind f old new xs start end made =
    ap (map f) made.1 ∙ map-append f old made.0
    ∙ ap (λ ys. map f old ++ ys) (cloned f (take (end - start) (drop start xs)) made.0 made.2 ∙ range_mapped f xs start end)

-- how long a list is with items of another one behind it
pub range_long : {A : Type 0} (old xs : List A) (start end : ℕ) → length old ≡ start → start ≤ end → end ≤ length xs
    → length (old ++ take (end - start) (drop start xs)) ≡ end
range_long old xs start end long order within =
    let part = length-take-le (end - start) (drop start xs) (omega (arith, within, length-drop start xs)) in
    length-append old (take (end - start) (drop start xs)) ∙ omega (arith, long, order, part)

-- what holds of each band of a table, and of those of another one that are appended
pub each_in_range : (P : ℕ → List ℕ → Type 0) (old bands : List (List ℕ)) (start end : ℕ) → length old ≡ start
    → ((b : ℕ) → b < start → P b (get_or old b []))
    → ((b : ℕ) → start ≤ b → b < end → P b (get_or bands b []))
    → (b : ℕ) → b < end → P b (get_or (old ++ take (end - start) (drop start bands)) b [])
each_in_range P old bands start end long first later b below =
    let part = take (end - start) (drop start bands) in
    ⊎_elim
    (λ (low : b < start). subst (P b) (sym (get_or_append_left old part [] b (omega (arith, long, low)))) (first b low))
    (λ (high : start ≤ b).
    let place : start + (b - start) ≡ b = omega (arith, high) in
    let is : get_or (old ++ part) b [] ≡ get_or bands b [] =
    get_or-append_right old part start b [] long high
    ∙ get_or-take (end - start) (drop start bands) (b - start) [] (omega (arith, high, below))
    ∙ get_or-drop start bands (b - start) []
    ∙ ap (λ (n : ℕ). get_or bands n []) place in
    subst (P b) (sym is) (later b high below))
    (cases_lt b start)

-- a table with bands of another one more
pub lines_shared : (free : ℕ → ℕ → Bool) (start end words : ℕ) (before now from : LineTable) → start ≤ end
    → end ≤ length from.bands → AreLines free start words before → now.words ≡ before.words
    → now.bands ≡ before.bands ++ take (end - start) (drop start from.bands)
    → ((b : ℕ) → start ≤ b → b < end → IsBand free (32 * b) words 32 (get_or from.bands b []))
    → AreLines free end words now
lines_shared free start end words before now from order within are same more each = record {
  wide = same ∙ are.wide;
  many = ap length more ∙ range_long before.bands from.bands start end are.many order within;
  each = λ b below. subst (λ bands. IsBand free (32 * b) words 32 (get_or bands b [])) (sym more)
      (each_in_range (λ k. IsBand free (32 * k) words 32) before.bands from.bands start end are.many are.each each b below);
}

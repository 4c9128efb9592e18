-- Tables whose bands hold lines of a map and the stops along them.
use Rattle.std.proofs.Common.{◌≡◌, ◌≢◌, ℕ, ◌+◌, ◌-◌, ◌*◌, ◌/◌, ◌%◌, ◌<◌, ◌≤◌, Bool, false, List, [], ◌∷◌, ◌++◌, map, take, drop, set, replicate, length, get_or, refl, sym, ap, ap₂, ◌∙◌, subst, arith}
use Rattle.std.specs.Prelude.{⊤}
use Rattle.std.proofs.lemmas.List.{drop-drop, drop-replicate, drop-take, drop_at, get_or-map, get_or-set_other, get_or-set_same, length-append, length-drop, length-map, length-set, length-take, map-append, map-set, set-get_or, take-append-le, take-replicate, take-take, take_all, take_more}
use Rattle.std.proofs.lemmas.Nat.{mul-le}
use Rattle.nav_types.specs.declared.straights.Way.{Way}
use Rattle.nav_types.specs.declared.straights.Way.TheVariants.{Up, Down}
use Rattle.class_planes.specs.inner.Lines.{LineTable, AreLines, IsBand, line_at, line_in}
use Rattle.class_planes.specs.inner.StopLines.{AreBandStops, AreMapLines, AreSameStops, AreStops, HasStopsOf, band_put, map_lines, part_along, part_in, part_of, stops_along}
use Rattle.class_planes.proofs.LineLemmas.{each_in_range, lines_more, range_mapped}
use Rattle.class_planes.proofs.PlaneLemmas.{each_more}
use Rattle.class_planes.proofs.TurnLemmas.{blank_band}

-- ---- the parts of a band

-- how long a band is at least that has 32 lines of a map
pub bits_within : (words : ℕ) (band : List ℕ) → length (part_in words band 0) ≡ 32 * words → 32 * words ≤ length band
bits_within words band long =
    omega (
      arith,
      long,
      length-take (0 * (32 * words) + 32 * words - 0 * (32 * words)) (drop (0 * (32 * words)) band),
      length-drop (0 * (32 * words)) band,
    )

-- the same of the 32 lines of another part
pub part_within : (words k : ℕ) (band : List ℕ) → 0 < words → length (part_in words band k) ≡ 32 * words
    → k * (32 * words) + 32 * words ≤ length band
part_within words k band some long =
    omega (
      arith,
      some,
      long,
      length-take (k * (32 * words) + 32 * words - k * (32 * words)) (drop (k * (32 * words)) band),
      length-drop (k * (32 * words)) band,
    )

-- a line of a part is one of the band
pub line_of_part : (words k m : ℕ) (band : List ℕ) → m < 32
    → line_in words (part_in words band k) m ≡ line_in words band (32 * k + m)
line_of_part words k m band small =
    let part : ℕ = k * (32 * words) in
    let at : ℕ = m * words in
    let more : (m + 1) * words ≤ 32 * words = mul-le (m + 1) words 32 words (omega (arith, small)) (omega arith) in
    let rest : ℕ = 32 * words - at in
    let fits : at + rest ≡ part + 32 * words - part = omega (arith, more) in
    let from : part + at ≡ (32 * k + m) * words = omega arith in
    ap (λ (n : ℕ). take (at + words - at) (drop at (take n (drop part band)))) (sym fits)
    ∙ ap (take (at + words - at)) (drop-take at rest (drop part band))
    ∙ take-take (at + words - at) rest (drop at (drop part band)) (omega (arith, more))
    ∙ ap (take (at + words - at)) (drop-drop at part band)
    ∙ ap (λ (n : ℕ). take (at + words - at) (drop n band)) from
    ∙ ap (λ (n : ℕ). take n (drop ((32 * k + m) * words) band)) (omega arith)

-- the first part, and one of those behind it
pub part_take : (long : ℕ) (xs : List ℕ) → line_in long xs 0 ≡ take long xs
part_take long xs =
    let none : 0 * long ≡ 0 = omega arith in
    let all : 0 + long - 0 ≡ long = omega arith in
    ap (λ (n : ℕ). take (n + long - n) (drop n xs)) none ∙ ap (λ (n : ℕ). take n xs) all

pub part_drop : (long k : ℕ) (xs : List ℕ) → line_in long xs (k + 1) ≡ line_in long (drop long xs) k
part_drop long k xs =
    let from : (k + 1) * long ≡ long + k * long = omega arith in
    let all : (k + 1) * long + long - (k + 1) * long ≡ k * long + long - k * long = omega arith in
    ap₂ (λ (n m : ℕ). take n (drop m xs)) all from
    ∙ ap (take (k * long + long - k * long)) (sym (drop-drop (k * long) long xs))

-- a line of the first part
pub front_line : (words m : ℕ) (band : List ℕ) → m < 32
    → line_in words (part_in words band 0) m ≡ line_in words band m
front_line words m band small =
    let same : 32 * 0 + m ≡ m = omega arith in
    line_of_part words 0 m band small ∙ ap (line_in words band) same

-- a band of some words and others behind them
pub part_front : (long : ℕ) (first rest : List ℕ) → length first ≡ long → line_in long (first ++ rest) 0 ≡ first
part_front long first rest is =
    let none : 0 * long ≡ 0 = omega arith in
    ap (λ (n : ℕ). take (n + long - n) (drop n (first ++ rest))) none
    ∙ take-append-le (0 + long - 0) first rest (omega (arith, is))
    ∙ take_all (0 + long - 0) first (omega (arith, is))

pub part_behind : (long k : ℕ) (first rest : List ℕ) → length first ≡ long
    → line_in long (first ++ rest) (k + 1) ≡ line_in long rest k
part_behind long k first rest is =
    let from : long + k * long ≡ (k + 1) * long = omega arith in
    ap (λ (n : ℕ). take ((k + 1) * long + long - (k + 1) * long) (drop n (first ++ rest))) (sym from)
    ∙ ap (take ((k + 1) * long + long - (k + 1) * long)) (sym (drop-drop (k * long) long (first ++ rest))
    ∙ ap (drop (k * long)) (drop_at first rest long is))
    ∙ ap (λ (n : ℕ). take n (drop (k * long) rest)) (omega arith)

-- ---- the bands of a table

pub part_at : (table : LineTable) (k b : ℕ) → b < length table.bands
    → get_or (part_of table k).bands b [] ≡ part_in table.words (get_or table.bands b []) k
part_at table k b below = get_or-map (λ (band : List ℕ). part_in table.words band k) table.bands b [] [] below

pub parts_many : (table : LineTable) (k : ℕ) → length (part_of table k).bands ≡ length table.bands
parts_many table k = length-map table.bands (λ (band : List ℕ). part_in table.words band k)

-- line n of a part, in its band
pub part_line : (table : LineTable) (k n : ℕ) → n / 32 < length table.bands
    → line_in table.words (get_or table.bands (n / 32) []) (32 * k + n % 32) ≡ line_at (part_of table k) n
part_line table k n below =
    sym (ap (λ (band : List ℕ). line_in table.words band (n % 32)) (part_at table k (n / 32) below)
    ∙ line_of_part table.words k (n % 32) (get_or table.bands (n / 32) []) (omega arith))

pub map_line : (table : LineTable) (n : ℕ) → n / 32 < length table.bands
    → line_in table.words (get_or table.bands (n / 32) []) (n % 32) ≡ line_at (map_lines table) n
map_line table n below =
    let same : n % 32 ≡ 32 * 0 + n % 32 = omega arith in
    ap (line_in table.words (get_or table.bands (n / 32) [])) same ∙ part_line table 0 n below

pub raw_below : (table : LineTable) (k b : ℕ) → b < length (part_of table k).bands → b < length table.bands
raw_below table k b below = omega (arith, below, parts_many table k)

-- how long the bands of a table are at least
pub bits_long : (table : LineTable) (b : ℕ) → b < length (map_lines table).bands
    → length (get_or (map_lines table).bands b []) ≡ 32 * table.words → 32 * table.words ≤ length (get_or table.bands b [])
bits_long table b below long =
    bits_within table.words (get_or table.bands b [])
    (sym (ap length (part_at table 0 b (raw_below table 0 b below))) ∙ long)

pub part_long : (table : LineTable) (k b : ℕ) → 0 < table.words → b < length (part_of table k).bands
    → length (get_or (part_of table k).bands b []) ≡ 32 * table.words
    → k * (32 * table.words) + 32 * table.words ≤ length (get_or table.bands b [])
part_long table k b some below long =
    part_within table.words k (get_or table.bands b []) some
    (sym (ap length (part_at table k b (raw_below table k b below))) ∙ long)

-- one band more
pub part_pushed : (k : ℕ) (old new : LineTable) (band : List ℕ) → new.words ≡ old.words
    → new.bands ≡ old.bands ++ band ∷ []
    → (part_of new k).bands ≡ (part_of old k).bands ++ part_in old.words band k ∷ []
part_pushed k old new band same more =
    ap₂ (λ (words : ℕ) (bands : List (List ℕ)). map (λ (one : List ℕ). part_in words one k) bands) same more
    ∙ map-append (λ (one : List ℕ). part_in old.words one k) old.bands (band ∷ [])

-- no band yet
pub no_bits : (free : ℕ → ℕ → Bool) (words : ℕ) (table : LineTable) → table.words ≡ words → table.bands ≡ []
    → AreLines free 0 words (map_lines table)
no_bits free words table wide none = record {
  wide = wide;
  many = parts_many table 0 ∙ ap length none;
  each = λ b below. absurd (omega (arith, below));
}

-- some bands of another table more
pub part_shared : (k start end : ℕ) (old new from : LineTable) → new.words ≡ old.words → old.words ≡ from.words
    → new.bands ≡ old.bands ++ take (end - start) (drop start from.bands)
    → (part_of new k).bands ≡ (part_of old k).bands ++ take (end - start) (drop start (part_of from k).bands)
part_shared k start end old new from same alike more =
    let part : ℕ → List ℕ → List ℕ = λ words one. part_in words one k in
    ap₂ (λ (words : ℕ) (bands : List (List ℕ)). map (part words) bands) same more
    ∙ map-append (part old.words) old.bands (take (end - start) (drop start from.bands))
    ∙ ap (λ (bands : List (List ℕ)). map (part old.words) old.bands ++ bands)
    (range_mapped (part old.words) from.bands start end)
    ∙ ap (λ (words : ℕ). map (part old.words) old.bands ++ take (end - start) (drop start (map (part words) from.bands)))
    alike

-- ---- stops of another table

pub stops_pushed : (bands : ℕ) (before old new : LineTable) (band : List ℕ) → length old.bands ≡ bands
    → new.bands ≡ old.bands ++ band ∷ [] → AreSameStops bands before old → HasStopsOf before bands band
    → AreSameStops (bands + 1) before new
stops_pushed bands before old new band many more so_far is b below =
    subst (λ (all : List (List ℕ)). HasStopsOf before b (get_or all b [])) (sym more)
    (each_more (λ (n : ℕ) (one : List ℕ). HasStopsOf before n one) old.bands band [] bands many so_far is b below)

pub stops_spanned : (start end : ℕ) (old new from : LineTable) → length old.bands ≡ start
    → new.bands ≡ old.bands ++ take (end - start) (drop start from.bands) → AreSameStops start from old
    → AreSameStops end from new
stops_spanned start end old new from many more so_far b below =
    subst (λ (all : List (List ℕ)). HasStopsOf from b (get_or all b [])) (sym more)
    (each_in_range (λ (n : ℕ) (one : List ℕ). HasStopsOf from n one) old.bands from.bands start end many so_far
    (λ n low high way. refl) b below)

-- a band whose first 32 lines are written anew
behind_same : (long k : ℕ) (first now rest : List ℕ) → length first ≡ long → length now ≡ long
    → line_in long (now ++ rest) (k + 1) ≡ line_in long (first ++ rest) (k + 1)
behind_same long k first now rest was is = part_behind long k now rest is ∙ sym (part_behind long k first rest was)

pub stops_kept : (table : LineTable) (b : ℕ) (first now rest : List ℕ) → length first ≡ 32 * table.words
    → length now ≡ 32 * table.words → first ++ rest ≡ get_or table.bands b [] → HasStopsOf table b (now ++ rest)
stops_kept table b first now rest was is same Up =
    behind_same (32 * table.words) 0 first now rest was is ∙ ap (λ (band : List ℕ). part_in table.words band 1) same
stops_kept table b first now rest was is same Down =
    behind_same (32 * table.words) 1 first now rest was is ∙ ap (λ (band : List ℕ). part_in table.words band 2) same

-- a band of the stops of a table that has those of another one
same_stops : (way : Way) (bands b : ℕ) (old new : LineTable) → new.words ≡ old.words → length old.bands ≡ bands
    → length new.bands ≡ bands → AreSameStops bands old new → b < bands
    → get_or (stops_along way old).bands b [] ≡ get_or (stops_along way new).bands b []
same_stops way bands b old new same was many have below =
    let k : ℕ = part_along way in
    part_at old k b (omega (arith, was, below)) ∙ sym (have b below way)
    ∙ ap (λ (w : ℕ). part_in w (get_or new.bands b []) k) (sym same) ∙ sym (part_at new k b (omega (arith, many, below)))

pub stops_carried : (way : Way) (count : ℕ) (lines old new : LineTable) → AreStops way count lines (stops_along way old)
    → new.words ≡ old.words → length new.bands ≡ count / 32 + 1 → AreSameStops (count / 32 + 1) old new
    → AreStops way count lines (stops_along way new)
stops_carried way count lines old new are same many have = record {
  wide = same ∙ are.wide;
  many = parts_many new (part_along way) ∙ many;
  each = λ b below. subst (AreBandStops (λ n i. ⊤) way lines count (32 * b))
      (same_stops way (count / 32 + 1) b old new same (sym (parts_many old (part_along way)) ∙ are.many) many have below)
      (are.each b below);
}

pub blanks_carried : (way : Way) (count words : ℕ) (old new : LineTable)
    → AreLines (λ n i. false) count words (stops_along way old) → new.words ≡ words → length new.bands ≡ count
    → AreSameStops count old new → AreLines (λ n i. false) count words (stops_along way new)
blanks_carried way count words old new are wide many have = record {
  wide = wide;
  many = parts_many new (part_along way) ∙ many;
  each = λ b below. subst (IsBand (λ n i. false) (32 * b) words 32)
      (same_stops way count b old new (wide ∙ sym are.wide) (sym (parts_many old (part_along way)) ∙ are.many) many have below)
      (are.each b below);
}

-- the lines of the map that were split off a band
pub split_bits : (table : LineTable) (b : ℕ) (bits rest : List ℕ) → b < length (map_lines table).bands
    → length bits ≡ 32 * table.words → bits ++ rest ≡ get_or table.bands b []
    → bits ≡ get_or (map_lines table).bands b []
split_bits table b bits rest below long whole =
    sym (part_front (32 * table.words) bits rest long) ∙ ap (λ (xs : List ℕ). part_in table.words xs 0) whole
    ∙ sym (part_at table 0 b (raw_below table 0 b below))

pub same_long : (first now rest : List ℕ) → length now ≡ length first → length (now ++ rest) ≡ length (first ++ rest)
same_long first now rest stays = omega (arith, stays, length-append now rest, length-append first rest)

-- ---- the table with the words of one band put back

pub put_at : (table : LineTable) (b n : ℕ) (band : List ℕ) → n ≡ b → b < length table.bands
    → get_or (band_put table b band).bands n [] ≡ band
put_at table b n band same below =
    ap (λ (q : ℕ). get_or (set table.bands b band) q []) same ∙ get_or-set_same table.bands b band [] below

pub put_else : (table : LineTable) (b n : ℕ) (band : List ℕ) → n ≢ b
    → get_or (band_put table b band).bands n [] ≡ get_or table.bands n []
put_else table b n band other = get_or-set_other table.bands b n band [] other

pub put_many : (table : LineTable) (b : ℕ) (band : List ℕ) → length (band_put table b band).bands ≡ length table.bands
put_many table b band = length-set table.bands b band

abbrev pub table_of : ℕ → List (List ℕ) → LineTable
table_of words bands = record { words = words; bands = bands }

-- the band that was put back, among the lines of a map
pub open_band : (others lines : LineTable) (count b : ℕ) (bits : List ℕ) → band_put others b bits ≡ lines
    → AreMapLines count lines → b < count / 32 + 1 → get_or lines.bands b [] ≡ bits
open_band others lines count b bits is are below =
    let many : length lines.bands ≡ length others.bands =
    ap (λ (t : LineTable). length t.bands) (sym is) ∙ put_many others b bits in
    ap (λ (t : LineTable). get_or t.bands b []) (sym is)
    ∙ put_at others b b bits refl (omega (arith, below, many, are.many))

pub open_long : (others lines : LineTable) (count b : ℕ) (bits : List ℕ) → band_put others b bits ≡ lines
    → AreMapLines count lines → b < count / 32 + 1 → length bits ≡ 32 * lines.words
open_long others lines count b bits is are below =
    sym (ap length (open_band others lines count b bits is are below)) ∙ are.long b below

-- a line of it
pub open_line : (others lines : LineTable) (count b n k : ℕ) (bits : List ℕ) → band_put others b bits ≡ lines
    → AreMapLines count lines → b < count / 32 + 1 → b ≡ n / 32 → k ≡ n % 32
    → line_in others.words bits k ≡ line_at lines n
open_line others lines count b n k bits is are below band place =
    ap₂ (λ (w : ℕ) (one : List ℕ). line_in w one k) (ap (λ (t : LineTable). t.words) is)
    (sym (open_band others lines count b bits is are below))
    ∙ ap₂ (λ (q m : ℕ). line_in lines.words (get_or lines.bands q []) m) band place

-- the lines of such a table
pub put_lines : (table : LineTable) (k b : ℕ) (band part : List ℕ) → part_in table.words band k ≡ part
    → part_of (band_put table b band) k ≡ band_put (part_of table k) b part
put_lines table k b band part is =
    ap (λ (bands : List (List ℕ)). table_of table.words bands)
    (map-set (λ (one : List ℕ). part_in table.words one k) table.bands b band
    ∙ ap (set (part_of table k).bands b) is)

-- ---- a band that was taken out

-- the table with the band put back where others took it out
pub hole_back : (old hole : LineTable) (b : ℕ) (band : List ℕ) → hole.words ≡ old.words
    → set hole.bands b band ≡ set old.bands b band → band_put hole b band ≡ band_put old b band
hole_back old hole b band words same = ap₂ table_of words same

-- a band put back as it was
pub same_back : (table : LineTable) (b : ℕ) → band_put table b (get_or table.bands b []) ≡ table
same_back table b = ap (table_of table.words) (set-get_or table.bands b [])

-- the lines of the map with those of a band put back
pub lines_back : (old hole : LineTable) (b : ℕ) (bits rest : List ℕ) → hole.words ≡ old.words
    → ((band : List ℕ) → set hole.bands b band ≡ set old.bands b band) → length bits ≡ 32 * old.words
    → bits ++ rest ≡ get_or old.bands b [] → band_put (map_lines hole) b bits ≡ map_lines old
lines_back old hole b bits rest words others long whole =
    let full : List ℕ = get_or old.bands b [] in
    sym (put_lines hole 0 b full bits (ap₂ (λ (w : ℕ) (xs : List ℕ). part_in w xs 0) words (sym whole)
    ∙ part_front (32 * old.words) bits rest long))
    ∙ ap map_lines (hole_back old hole b full words (others full) ∙ same_back old b)

-- the stops of a band are the part behind its lines of the map
pub stops_behind : (table : LineTable) (k b : ℕ) (bits rest : List ℕ) → b < length table.bands
    → length bits ≡ 32 * table.words → bits ++ rest ≡ get_or table.bands b []
    → get_or (part_of table (k + 1)).bands b [] ≡ line_in (32 * table.words) rest k
stops_behind table k b bits rest below long whole =
    part_at table (k + 1) b below ∙ ap (λ (xs : List ℕ). part_in table.words xs (k + 1)) (sym whole)
    ∙ part_behind (32 * table.words) k bits rest long

-- a table in which a band was put: its parts there, and elsewhere
pub part_put : (old new : LineTable) (k b : ℕ) (band : List ℕ) → new ≡ band_put old b band → b < length old.bands
    → get_or (part_of new k).bands b [] ≡ part_in old.words band k
part_put old new k b band is below =
    ap (λ (t : LineTable). get_or (part_of t k).bands b []) is
    ∙ ap (λ (t : LineTable). get_or t.bands b []) (put_lines old k b band (part_in old.words band k) refl)
    ∙ put_at (part_of old k) b b (part_in old.words band k) refl (omega (arith, below, parts_many old k))

pub part_unput : (old new : LineTable) (k b n : ℕ) (band : List ℕ) → new ≡ band_put old b band → n ≢ b
    → get_or (part_of new k).bands n [] ≡ get_or (part_of old k).bands n []
part_unput old new k b n band is other =
    ap (λ (t : LineTable). get_or (part_of t k).bands n []) is
    ∙ ap (λ (t : LineTable). get_or t.bands n []) (put_lines old k b band (part_in old.words band k) refl)
    ∙ put_else (part_of old k) b n (part_in old.words band k) other

-- ---- a band without a stop

zeros_in : (long k : ℕ) → k < 2 → line_in long (replicate (2 * long) 0) k ≡ replicate long 0
zeros_in long k few =
    let more : (k + 1) * long ≤ 2 * long = mul-le (k + 1) long 2 long (omega (arith, few)) (omega arith) in
    ap (take (k * long + long - k * long)) (drop-replicate (k * long) (2 * long) 0)
    ∙ take-replicate (k * long + long - k * long) (2 * long - k * long) 0 (omega (arith, more))
    ∙ ap (λ (n : ℕ). replicate n 0) (omega arith)

no_stop : (way : Way) (words : ℕ) (bits : List ℕ) → length bits ≡ 32 * words
    → part_in words (bits ++ replicate (2 * (32 * words)) 0) (part_along way) ≡ replicate (32 * words) 0
no_stop Up words bits long =
    part_behind (32 * words) 0 bits (replicate (2 * (32 * words)) 0) long ∙ zeros_in (32 * words) 0 (omega arith)
no_stop Down words bits long =
    part_behind (32 * words) 1 bits (replicate (2 * (32 * words)) 0) long ∙ zeros_in (32 * words) 1 (omega arith)

pub blank_more : (way : Way) (count words : ℕ) (old new : LineTable) (bits : List ℕ)
    → AreLines (λ n i. false) count words (stops_along way old) → new.words ≡ old.words
    → new.bands ≡ old.bands ++ (bits ++ replicate (2 * (32 * words)) 0) ∷ [] → length bits ≡ 32 * words
    → AreLines (λ n i. false) (count + 1) words (stops_along way new)
blank_more way count words old new bits are same more long =
    let band : List ℕ = bits ++ replicate (2 * (32 * words)) 0 in
    let wide : old.words ≡ words = are.wide in
    lines_more (λ n i. false) count words (stops_along way old) (stops_along way new)
    (part_in old.words band (part_along way)) are same (part_pushed (part_along way) old new band same more)
    (subst (IsBand (λ n i. false) (32 * count) words 32)
    (sym (ap (λ (w : ℕ). part_in w band (part_along way)) wide ∙ no_stop way words bits long))
    (blank_band (32 * count) words (32 * words) refl))

-- the lines of one band more
pub bits_more : (count : ℕ) (old new lines : LineTable) (rest : List ℕ) → count < length lines.bands
    → old.words ≡ lines.words → new.words ≡ old.words
    → new.bands ≡ old.bands ++ (get_or lines.bands count [] ++ rest) ∷ []
    → length (get_or lines.bands count []) ≡ 32 * lines.words → (map_lines old).bands ≡ take count lines.bands
    → (map_lines new).bands ≡ take (count + 1) lines.bands
bits_more count old new lines rest below wide same more long so_far =
    let bits : List ℕ = get_or lines.bands count [] in
    part_pushed 0 old new (bits ++ rest) same more
    ∙ ap₂ (λ (bands : List (List ℕ)) (band : List ℕ). bands ++ band ∷ []) so_far
    (part_front (32 * old.words) bits rest (long ∙ ap (λ (w : ℕ). 32 * w) (sym wide)))
    ∙ sym (take_more lines.bands count [] below)

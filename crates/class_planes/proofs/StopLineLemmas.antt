-- Runs along the lines of a map whose stops are known beforehand.
use Rattle.std.proofs.Common.{◌≡◌, ◌≢◌, ℕ, zero, suc, ◌+◌, ◌-◌, ◌*◌, ◌/◌, ◌%◌, ◌<◌, ◌≤◌, Bool, true, false, ◌&&◌, eqb, IsTrue, min, max, List, [], length, get_or, inl, inr, refl, sym, ap, ap₂, ◌∙◌, subst, arith}
use Rattle.std.proofs.lemmas.Bool.{cases_lt, cases_eq, true≢false, false≢true, false_from_ne_true, lt-ltb}
use Rattle.nav_types.specs.declared.cells.Cell.{Cell}
use Rattle.nav_types.specs.declared.cells.Size.{Size}
use Rattle.nav_types.specs.declared.straights.Axis.{Axis}
use Rattle.nav_types.specs.declared.straights.Axis.TheVariants.{Row, Column}
use Rattle.nav_types.specs.declared.straights.Straight.{Straight}
use Rattle.nav_types.specs.declared.straights.Way.{Way}
use Rattle.nav_types.specs.declared.straights.Way.TheVariants.{Up, Down}
use Rattle.nav_types.specs.Cells.{IsInside, cell_at}
use Rattle.nav_types.specs.Lines.{cell_on, line_on, place_on, side_along}
use Rattle.lane_rows.specs.Rows.{one_if}
use Rattle.class_planes.specs.Planes.{PlaneCells, is_passable}
use Rattle.class_planes.specs.inner.Lines.{LineTable, RowTable, AreLines, free_at, free_cell, line_at, line_in, plane_of}
use Rattle.class_planes.specs.inner.Runs.{AreLanesOf, Far, GoesFar, LaneWords, TellsStop, bit_in, bits_along, is_before, opening, opens_after}
use Rattle.class_planes.specs.inner.StopLines.{AreMapLines, AreStops, IsStopBit, lanes_of, line_before, map_lines, stop_bit, stops_along}
use Rattle.class_planes.specs.inner.Tracks.{IsTrackAlong, IsTrackOf, line_count}
use Rattle.class_planes.proofs.FarLemmas.{bit_small, down_at, down_past, down_small}
use Rattle.class_planes.proofs.PlaneLemmas.{line_free, only_inside, passable_is, told}
use Rattle.class_planes.proofs.StopBandLemmas.{HasPlace, are_map_lines, has_place}
use Rattle.class_planes.proofs.TrackLemmas.{lanes_far}
use Rattle.class_planes.proofs.TurnLemmas.{line_long}
use Rattle.class_planes.proofs.WordLemmas.{past_line}

-- how far a run goes, and whether it ends where a side opens
pub record Tells (mid left right : ℕ → ℕ) (stop : ℕ) : Type 0 where
  pub far : Far
  pub goes : GoesFar mid left right far
  pub stops : stop ≡ one_if far.forced

ends_here : (mid left right : ℕ → ℕ) (n : ℕ) → ((m : ℕ) → m ≤ n → mid m ≡ 1)
    → ((m : ℕ) → m < n → opens_after left right m ≡ 0) → mid (suc n) ≡ 0 → Tells mid left right 0
ends_here mid left right n free shut end = record {
  far = record { count = n; forced = false };
  goes = record {
    free = free;
    shut = λ m below. shut m (omega (arith, below));
    opens = λ forced. absurd (false≢true forced);
    last = λ plain m is. shut m (omega (arith, is));
    ends = λ plain. end;
  };
  stops = refl;
}

one_more : (P : ℕ → Type 0) (n : ℕ) → ((m : ℕ) → m < n → P m) → P n → (m : ℕ) → m < suc n → P m
one_more P n before here m below = elim (cases_lt m n) [
  | inl early ↦ before m early
  | inr late ↦ let same : n ≡ m = omega (arith, late, below) in subst P same here
]

opens_here : (mid left right : ℕ → ℕ) (n : ℕ) → ((m : ℕ) → m ≤ n → mid m ≡ 1)
    → ((m : ℕ) → m < n → opens_after left right m ≡ 0) → mid (suc n) ≡ 1 → opens_after left right n ≡ 1
    → Tells mid left right 1
opens_here mid left right n free shut next opens = record {
  far = record { count = suc n; forced = true };
  goes = record {
    free = λ m few. one_more (λ k. mid k ≡ 1) (suc n) (λ k below. free k (omega (arith, below))) next m
        (omega (arith, few));
    shut = λ m below. shut m (omega (arith, below));
    opens = λ forced. (n, (refl, opens));
    last = λ plain. absurd (true≢false plain);
    ends = λ plain. absurd (true≢false plain);
  };
  stops = refl;
}

bit_shut : (stop mid rest : ℕ) → stop ≡ min mid rest → mid ≡ 0 → 0 ≡ stop
bit_shut stop mid rest is none = omega (arith, is, none)

bit_open : (stop mid opens on : ℕ) → stop ≡ min mid (max opens on) → mid ≡ 1 → opens ≡ 1 → on < 2 → 1 ≡ stop
bit_open stop mid opens on is free open_side small = omega (arith, is, free, open_side, small)

bit_on : (stop mid opens on : ℕ) → stop ≡ min mid (max opens on) → mid ≡ 1 → opens ≡ 0 → on < 2 → on ≡ stop
bit_on stop mid opens on is free closed small = omega (arith, is, free, closed, small)

one_of : (b : ℕ) → b < 2 → b ≢ 0 → b ≡ 1
one_of b small some = omega (arith, small, some)

-- the bits of the places along a run, each by the next one
pub record AreAlong (mid left right stop : ℕ → ℕ) (last : ℕ) : Type 0 where
  pub free_small : (m : ℕ) → mid m < 2
  pub stop_small : (m : ℕ) → stop m < 2
  pub opens_small : (m : ℕ) → opens_after left right m < 2
  pub each : (m : ℕ) → m ≤ last → stop m ≡ min (mid (suc m)) (max (opens_after left right m) (stop (suc m)))
  pub ends : mid (suc last) ≡ 0

-- what the bit of a place tells of the run from there
tells : (mid left right stop : ℕ → ℕ) (room last n : ℕ) → n + room ≡ last → AreAlong mid left right stop last
    → ((m : ℕ) → m ≤ n → mid m ≡ 1) → ((m : ℕ) → m < n → opens_after left right m ≡ 0)
    → Tells mid left right (stop n)
tells mid left right stop zero last n is along free shut =
    let here : last ≡ n = omega (arith, is) in
    let end : mid (suc n) ≡ 0 = subst (λ m. mid (suc m) ≡ 0) here along.ends in
    subst (Tells mid left right)
    (bit_shut (stop n) (mid (suc n)) (max (opens_after left right n) (stop (suc n))) (along.each n (omega (arith, is))) end)
    (ends_here mid left right n free shut end)
tells mid left right stop (suc room) last n is along free shut =
    let bit = along.each n (omega (arith, is)) in
    let small = along.stop_small (suc n) in
    elim (cases_eq (mid (suc n)) 0) [
      | inl end ↦
          subst (Tells mid left right)
          (bit_shut (stop n) (mid (suc n)) (max (opens_after left right n) (stop (suc n))) bit end)
          (ends_here mid left right n free shut end)
      | inr is_free ↦
          let next : mid (suc n) ≡ 1 = one_of (mid (suc n)) (along.free_small (suc n)) is_free in
          elim (cases_eq (opens_after left right n) 0) [
            | inl closed ↦
                subst (Tells mid left right)
                (bit_on (stop n) (mid (suc n)) (opens_after left right n) (stop (suc n)) bit next closed small)
                (tells mid left right stop room last (suc n) (omega (arith, is)) along
                (λ m few. one_more (λ k. mid k ≡ 1) (suc n) (λ k below. free k (omega (arith, below))) next m
                (omega (arith, few)))
                (one_more (λ k. opens_after left right k ≡ 0) n shut closed))
            | inr open_side ↦
                let opened : opens_after left right n ≡ 1 =
                one_of (opens_after left right n) (along.opens_small n) open_side in
                subst (Tells mid left right)
                (bit_open (stop n) (mid (suc n)) (opens_after left right n) (stop (suc n)) bit next opened small)
                (opens_here mid left right n free shut next opened)
          ]
    ]

-- and what that of its first place tells of a run
run_told : (mid left right stop : ℕ → ℕ) (last : ℕ) → AreAlong mid left right stop last → mid 0 ≡ 1
    → Tells mid left right (stop 0)
run_told mid left right stop last along start =
    tells mid left right stop last last 0 (omega arith) along
    (λ m few. let first : 0 ≡ m = omega (arith, few) in subst (λ k. mid k ≡ 1) first start)
    (λ m below. absurd (omega (arith, below)))

-- ---- along a line

either_small : (a b c d : ℕ) → b < 2 → d < 2 → max (opening a b) (opening c d) < 2
either_small a b c d small_b small_d = omega (arith, small_b, small_d)

pub told_up : (lanes : LaneWords) (stops : List ℕ) (from : ℕ) → from / 64 < length lanes.mid → bit_in lanes.mid from ≡ 1
    → ((i : ℕ) → i / 64 < length lanes.mid → IsStopBit Up lanes stops i)
    → Tells (bits_along Up lanes.mid from) (bits_along Up lanes.left from) (bits_along Up lanes.right from) (bit_in stops from)
told_up lanes stops from within free each =
    let last : ℕ = 64 * length lanes.mid - 1 - from in
    let here : from + 0 ≡ from = omega arith in
    let along : AreAlong (bits_along Up lanes.mid from) (bits_along Up lanes.left from) (bits_along Up lanes.right from) (bits_along Up stops from)
    last = record {
      free_small = λ m. bit_small lanes.mid (from + m);
      stop_small = λ m. bit_small stops (from + m);
      opens_small = λ m. either_small (bit_in lanes.left (from + m)) (bit_in lanes.left (from + suc m))
          (bit_in lanes.right (from + m)) (bit_in lanes.right (from + suc m)) (bit_small lanes.left (from + suc m))
          (bit_small lanes.right (from + suc m));
      each = λ m few.
          let next : suc (from + m) ≡ from + suc m = omega arith in
          each (from + m) (omega (arith, few, within))
          ∙ ap (λ n. stop_bit lanes (from + m) n (bit_in stops n)) next;
      ends = past_line lanes.mid (from + suc last) (omega (arith, within));
    } in
    subst (λ n. Tells (bits_along Up lanes.mid from) (bits_along Up lanes.left from) (bits_along Up lanes.right from) (bit_in stops n)) here
    (run_told (bits_along Up lanes.mid from) (bits_along Up lanes.left from) (bits_along Up lanes.right from) (bits_along Up stops from) last along
    (ap (bit_in lanes.mid) here ∙ free))

pub told_down : (lanes : LaneWords) (stops : List ℕ) (from : ℕ) → from / 64 < length lanes.mid → bit_in lanes.mid from ≡ 1
    → ((i : ℕ) → i / 64 < length lanes.mid → IsStopBit Down lanes stops i)
    → Tells (bits_along Down lanes.mid from) (bits_along Down lanes.left from) (bits_along Down lanes.right from) (bit_in stops from)
told_down lanes stops from within free each =
    let here : from - 0 ≡ from = omega arith in
    let start = λ (words : List ℕ). down_at words from 0 (omega arith) ∙ ap (bit_in words) here in
    let along : AreAlong (bits_along Down lanes.mid from) (bits_along Down lanes.left from) (bits_along Down lanes.right from)
    (bits_along Down stops from) from = record {
      free_small = down_small lanes.mid from;
      stop_small = down_small stops from;
      opens_small = λ m. either_small (bits_along Down lanes.left from m) (bits_along Down lanes.left from (suc m))
          (bits_along Down lanes.right from m) (bits_along Down lanes.right from (suc m)) (down_small lanes.left from (suc m))
          (down_small lanes.right from (suc m));
      each = λ m few. elim (cases_lt m from) [
        | inl more ↦
            let j : ℕ = from - suc m in
            let place : from - m ≡ suc j = omega (arith, more) in
            let at_here = λ (words : List ℕ). down_at words from m few ∙ ap (bit_in words) place in
            let at_next = λ (words : List ℕ). down_at words from (suc m) (omega (arith, more)) in
            let right : IsStopBit Down lanes stops (suc j) = each (suc j) (omega (arith, within, place)) in
            at_here stops ∙ right ∙ sym (ap₂ min (at_next lanes.mid)
            (ap₂ max
            (ap₂ max (ap₂ opening (at_here lanes.left) (at_next lanes.left))
            (ap₂ opening (at_here lanes.right) (at_next lanes.right)))
            (at_next stops)))
        | inr all ↦
            let place : from - m ≡ 0 = omega (arith, all) in
            let none : bits_along Down lanes.mid from (suc m) ≡ 0 = down_past lanes.mid from (suc m) (omega (arith, all)) in
            let right : IsStopBit Down lanes stops 0 = each 0 (omega (arith, within)) in
            down_at stops from m few ∙ ap (bit_in stops) place ∙ right
            ∙ none_free (bits_along Down lanes.mid from (suc m))
            (max (opens_after (bits_along Down lanes.left from) (bits_along Down lanes.right from) m) (bits_along Down stops from (suc m)))
            none
      ];
      ends = down_past lanes.mid from (suc from) (omega arith);
    } in
    subst (Tells (bits_along Down lanes.mid from) (bits_along Down lanes.left from) (bits_along Down lanes.right from)) (start stops)
    (run_told (bits_along Down lanes.mid from) (bits_along Down lanes.left from) (bits_along Down lanes.right from) (bits_along Down stops from) from
    along (start lanes.mid ∙ free))
  where
    none_free : (mid rest : ℕ) → mid ≡ 0 → 0 ≡ min mid rest
    none_free mid rest none = omega (arith, none)

-- ---- along the lines of a map

before_bit : (free same : ℕ → ℕ → Bool) (count words n i : ℕ) (lines : LineTable)
    → AreLines free (count / 32 + 1) words lines → ((m i : ℕ) → free m i ≡ same m i) → n < count
    → free count i ≡ false → bit_in (line_at lines (line_before count n)) i ≡ one_if (is_before same n i)
before_bit free same count words zero i lines are alike line none =
    line_free free (count / 32 + 1) words count lines are (omega arith) i ∙ ap one_if none
before_bit free same count words (suc m) i lines are alike line none =
    let back : m ≡ suc m - 1 = omega arith in
    line_free free (count / 32 + 1) words m lines are (omega (arith, line)) i
    ∙ ap one_if (alike m i ∙ ap (λ n. same n i) back)
    ∙ ap (λ b. one_if (b && same (suc m - 1) i)) (sym (lt-ltb 0 (suc m) (omega arith)))

lanes_are : (free same : ℕ → ℕ → Bool) (count words n : ℕ) (lines : LineTable)
    → AreLines free (count / 32 + 1) words lines → ((m i : ℕ) → free m i ≡ same m i) → n < count
    → ((i : ℕ) → free count i ≡ false) → AreLanesOf same n (lanes_of lines count n)
lanes_are free same count words n lines are alike line none = record {
  mid = λ i. line_free free (count / 32 + 1) words n lines are (omega (arith, line)) i ∙ ap one_if (alike n i);
  left = λ i. line_free free (count / 32 + 1) words (n + 1) lines are (omega (arith, line)) i
      ∙ ap one_if (alike (n + 1) i);
  right = λ i. before_bit free same count words n i lines are alike line (none i);
}

stop_at : (way : Way) (count n i : ℕ) (lines stops : LineTable) → AreStops way count lines stops → n < count
    → i / 64 < lines.words → IsStopBit way (lanes_of lines count n) (line_at stops n) i
stop_at way count n i lines stops are line within =
    let band : List ℕ = get_or stops.bands (n / 32) [] in
    let there : 32 * (n / 32) + n % 32 ≡ n = omega arith in
    subst (λ w. IsStopBit way (lanes_of lines count n) (line_in w band (n % 32)) i) (sym are.wide)
    (subst (λ m. IsStopBit way (lanes_of lines count m) (line_in lines.words band (n % 32)) i) there
    ((are.each (n / 32) (omega (arith, line))).each (n % 32) i (omega arith) (omega (arith, there, line)) within tt))

-- what the table's bit of a place tells, where that is free
pub record IsTold (same : ℕ → ℕ → Bool) (n i : ℕ) (bits : List ℕ → ℕ → ℕ → ℕ) (stop : Bool) : Type 0 where
  pub lanes : LaneWords
  pub are : AreLanesOf same n lanes
  pub far : Far
  pub goes : GoesFar (bits lanes.mid i) (bits lanes.left i) (bits lanes.right i) far
  pub stops : stop ≡ far.forced

told_of : (same : ℕ → ℕ → Bool) (n i stop : ℕ) (bits : List ℕ → ℕ → ℕ → ℕ) (lanes : LaneWords)
    → AreLanesOf same n lanes → Tells (bits lanes.mid i) (bits lanes.left i) (bits lanes.right i) stop
    → IsTold same n i bits (eqb stop 1)
told_of same n i stop bits lanes are tells = record {
  lanes = lanes;
  are = are;
  far = tells.far;
  goes = tells.goes;
  stops = ap (λ b. eqb b 1) tells.stops ∙ told tells.far.forced;
}

pub told_at : (way : Way) (free same : ℕ → ℕ → Bool) (count words n i : ℕ) (lines stops : LineTable)
    → AreLines free (count / 32 + 1) words lines → ((m i : ℕ) → free m i ≡ same m i)
    → ((i : ℕ) → free count i ≡ false) → AreStops way count lines stops → n < count → i / 64 < words
    → IsTrue (same n i) → IsTold same n i (bits_along way) (free_at stops n i)
told_at way free same count words n i lines stops are alike none stops_are line within passing =
    let lanes : LaneWords = lanes_of lines count n in
    let lanes_same = lanes_are free same count words n lines are alike line none in
    let long : length lanes.mid ≡ words = line_long free (count / 32 + 1) words n lines are (omega (arith, line)) in
    let here : bit_in lanes.mid i ≡ 1 = lanes_same.mid i ∙ ap one_if passing in
    told_of same n i (bit_in (line_at stops n) i) (bits_along way) lanes lanes_same
    (told_way way lanes (line_at stops n) i (omega (arith, within, long)) here
    (λ j inside. stop_at way count n j lines stops stops_are line
    (subst (λ w. j / 64 < w) (long ∙ sym are.wide) inside)))
  where
    told_way : (way : Way) (lanes : LaneWords) (stops : List ℕ) (from : ℕ) → from / 64 < length lanes.mid
        → bit_in lanes.mid from ≡ 1 → ((i : ℕ) → i / 64 < length lanes.mid → IsStopBit way lanes stops i)
        → Tells (bits_along way lanes.mid from) (bits_along way lanes.left from) (bits_along way lanes.right from)
        (bit_in stops from)
    told_way Up lanes stops from within free each = told_up lanes stops from within free each
    told_way Down lanes stops from within free each = told_down lanes stops from within free each

-- ---- along the axis of a plane

-- a cell inside lies on a line of the map
pub on_line : (axis : Axis) (size : Size) (cell : Cell) → IsInside size cell
    → (line_on axis cell < line_count axis size) × (place_on axis cell < side_along axis size)
on_line Row size cell inside = (inside.row, inside.column)
on_line Column size cell inside = (inside.column, inside.row)

-- past the last line nothing is free
past_lines : (axis : Axis) (plane : PlaneCells) (k : ℕ)
    → is_passable plane (cell_on axis (line_count axis plane.size) k) ≡ false
past_lines Row plane k = false_from_ne_true (is_passable plane (cell_at k plane.size.h))
    (λ is. let row = (only_inside plane (cell_at k plane.size.h) is).row in omega (arith, row))
past_lines Column plane k = false_from_ne_true (is_passable plane (cell_at plane.size.w k))
    (λ is. let column = (only_inside plane (cell_at plane.size.w k) is).column in omega (arith, column))

same_cell_on : (axis : Axis) (plane : PlaneCells) (cell : Cell)
    → is_passable plane (cell_on axis (line_on axis cell) (place_on axis cell)) ≡ is_passable plane cell
same_cell_on Row plane cell = refl
same_cell_on Column plane cell = refl

-- the free cells of the rows of a plane are its passable ones
pub axis_track : (axis : Axis) (table : RowTable) (plane : PlaneCells) (line_set : LineTable) → plane_of table ≡ plane
    → IsTrackAlong axis table line_set
    → IsTrackOf (λ n k. is_passable plane (cell_on axis n k)) (line_count axis plane.size) (side_along axis plane.size) line_set
axis_track axis table plane line_set same is =
    subst (λ (p : PlaneCells). IsTrackOf (λ n k. is_passable p (cell_on axis n k)) (line_count axis p.size)
    (side_along axis p.size) line_set) same
    (subst (λ (free : Cell → Bool). IsTrackOf (λ n k. free (cell_on axis n k)) (line_count axis table.size)
    (side_along axis table.size) line_set) (λ p cell. sym (passable_is table cell) p) is)

-- a line set of these lines
pub track_along : (axis : Axis) (size : Size) (rows lines : LineTable) (row_track line_set : LineTable) → map_lines row_track ≡ rows
    → map_lines line_set ≡ lines
    → AreLines (λ n k. free_cell (record { size = size; rows = rows }) (cell_on axis n k)) (line_count axis size / 32 + 1)
    (side_along axis size / 64 + 1) lines
    → ((way : Way) → AreStops way (line_count axis size) lines (stops_along way line_set))
    → IsTrackAlong axis (record { size = size; rows = map_lines row_track }) line_set
track_along axis size rows lines row_track line_set kept same are stops =
    subst (λ (r : LineTable). IsTrackAlong axis (record { size = size; rows = r }) line_set) (sym kept) (record {
      lines = subst (AreLines (λ n k. free_cell (record { size = size; rows = rows }) (cell_on axis n k))
          (line_count axis size / 32 + 1) (side_along axis size / 64 + 1)) (sym same) are;
      stops = λ way. subst (λ (l : LineTable). AreStops way (line_count axis size) l (stops_along way line_set)) (sym same)
          (stops way);
    })

-- a line of a plane, with the lines beside it
pub axis_lanes : (axis : Axis) (plane : PlaneCells) (line_set : LineTable) (n : ℕ)
    → IsTrackOf (λ n k. is_passable plane (cell_on axis n k)) (line_count axis plane.size) (side_along axis plane.size) line_set
    → n < line_count axis plane.size
    → AreLanesOf (λ n k. is_passable plane (cell_on axis n k)) n (lanes_of (map_lines line_set) (line_count axis plane.size) n)
axis_lanes axis plane line_set n is line =
    let free : ℕ → ℕ → Bool = λ n k. is_passable plane (cell_on axis n k) in
    lanes_are free free (line_count axis plane.size) (side_along axis plane.size / 64 + 1) n (map_lines line_set) is.lines
    (λ m i. refl) line (λ k. past_lines axis plane k)

-- the stops of a plane tell of the straight runs over it
pub stop_known : (plane : PlaneCells) (straight : Straight) (cell : Cell) (line_set : LineTable)
    → IsTrackOf (λ n k. is_passable plane (cell_on straight.axis n k)) (line_count straight.axis plane.size)
    (side_along straight.axis plane.size) line_set → IsTrue (is_passable plane cell)
    → TellsStop (is_passable plane) straight cell
    (free_at (stops_along straight.way line_set) (line_on straight.axis cell) (place_on straight.axis cell))
stop_known plane straight cell line_set is passing =
    let axis = straight.axis in
    let free : ℕ → ℕ → Bool = λ n k. is_passable plane (cell_on axis n k) in
    let at = on_line axis plane.size cell (only_inside plane cell passing) in
    let place : place_on axis cell < side_along axis plane.size = at.1 in
    let told = told_at straight.way free free (line_count axis plane.size) (side_along axis plane.size / 64 + 1)
    (line_on axis cell) (place_on axis cell) (map_lines line_set) (stops_along straight.way line_set) is.lines (λ m i. refl)
    (λ k. past_lines axis plane k) (is.stops straight.way) at.0 (omega (arith, place))
    (same_cell_on axis plane cell ∙ passing) in (
      told.far,
      (lanes_far (is_passable plane) straight cell told.lanes told.far told.are told.goes, told.stops),
    )

-- a place of the stops
pub stop_place : (axis : Axis) (way : Way) (plane : PlaneCells) (cell : Cell) (line_set : LineTable)
    → IsTrackOf (λ n k. is_passable plane (cell_on axis n k)) (line_count axis plane.size)
    (side_along axis plane.size) line_set → IsTrue (is_passable plane cell)
    → HasPlace (stops_along way line_set) (line_on axis cell) (place_on axis cell)
stop_place axis way plane cell line_set is passing =
    let at = on_line axis plane.size cell (only_inside plane cell passing) in
    has_place way (line_count axis plane.size) (side_along axis plane.size) (line_on axis cell) (place_on axis cell)
    (map_lines line_set) (stops_along way line_set) (is.stops way) is.lines.wide at.0 at.1

side_few : (axis : Axis) (size : Size) → (0 < line_count axis size) × ((line_count axis size ≤ 2048) × (side_along axis size ≤ 2048))
side_few Row size = (omega (arith, size.high), (omega (arith, size.high), omega (arith, size.wide)))
side_few Column size = (omega (arith, size.wide), (omega (arith, size.wide), omega (arith, size.high)))

-- the lines of a map along an axis
pub axis_lines : (axis : Axis) (size : Size) (free : ℕ → ℕ → Bool) (lines : LineTable)
    → AreLines free (line_count axis size / 32 + 1) (side_along axis size / 64 + 1) lines
    → AreMapLines (line_count axis size) lines
axis_lines axis size free lines are =
    let few = side_few axis size in
    are_map_lines free (line_count axis size) (side_along axis size) lines few.0 few.1.0 few.1.1 are

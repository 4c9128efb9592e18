use Rattle.std.proofs.Common.{ℕ, List, [], ◌≡◌, ◌*◌, ◌<◌, ◌++◌, set, length, get_or, sym, ap, ap₂, ◌∙◌, subst, arith}
use Rattle.std.specs.Prelude.{⊤}
use Rattle.std.proofs.lemmas.List.{length-append, length-set, with_items_is}
use Rattle.nav_types.specs.declared.straights.Way.{Way}
use Rattle.nav_types.specs.declared.straights.Way.TheVariants.{Up, Down}
use Rattle.class_planes.specs.inner.Lines.{LineTable}
use Rattle.class_planes.specs.inner.StopLines.{AreBandStops, AreMapLines, IsFarFrom, band_put, map_lines, part_along, part_in, stops_along}
use Rattle.class_planes.proofs.SetLemmas.{lines_back, part_behind, part_front, part_long, part_put, part_unput, parts_many, put_lines, raw_below, same_back, split_bits, stops_behind, table_of}
use Rattle.class_planes.proofs.StopBandLemmas.{band_far}
use Rattle.class_planes.proofs.UpdateLemmas.{both_ok}
use Rattle.class_planes.proofs.stops.renew_band.Goals as goal

-- the stops that were written, as a part of the band
written_up : (old hole : LineTable) (count b : ℕ) (bits now : List ℕ) → length bits ≡ 32 * old.words → hole.words ≡ old.words
    → band_put (map_lines hole) b bits ≡ map_lines old
    → AreBandStops (λ n i. ⊤) Up (band_put (map_lines hole) b bits) count (32 * b) (part_in hole.words now 0)
    → AreBandStops (λ n i. ⊤) Up (map_lines old) count (32 * b) (part_in old.words (bits ++ now) (part_along Up))
written_up old hole count b bits now long words lines is =
    subst (AreBandStops (λ n i. ⊤) Up (map_lines old) count (32 * b))
    (ap (λ (w : ℕ). part_in w now 0) words ∙ sym (part_behind (32 * old.words) 0 bits now long))
    (subst (λ (t : LineTable). AreBandStops (λ n i. ⊤) Up t count (32 * b) (part_in hole.words now 0)) lines is)

-- the stops that were written, as a part of the band
written_down : (old hole : LineTable) (count b : ℕ) (bits now : List ℕ) → length bits ≡ 32 * old.words → hole.words ≡ old.words
    → band_put (map_lines hole) b bits ≡ map_lines old
    → AreBandStops (λ n i. ⊤) Down (band_put (map_lines hole) b bits) count (32 * b) (part_in hole.words now 1)
    → AreBandStops (λ n i. ⊤) Down (map_lines old) count (32 * b) (part_in old.words (bits ++ now) (part_along Down))
written_down old hole count b bits now long words lines is =
    subst (AreBandStops (λ n i. ⊤) Down (map_lines old) count (32 * b))
    (ap (λ (w : ℕ). part_in w now 1) words ∙ sym (part_behind (32 * old.words) 1 bits now long))
    (subst (λ (t : LineTable). AreBandStops (λ n i. ⊤) Down t count (32 * b) (part_in hole.words now 1)) lines is)

written : (way : Way) (old hole : LineTable) (count b : ℕ) (bits now : List ℕ) → length bits ≡ 32 * old.words
    → hole.words ≡ old.words → band_put (map_lines hole) b bits ≡ map_lines old
    → AreBandStops (λ n i. ⊤) Up (band_put (map_lines hole) b bits) count (32 * b) (part_in hole.words now 0)
    → AreBandStops (λ n i. ⊤) Down (band_put (map_lines hole) b bits) count (32 * b) (part_in hole.words now 1)
    → AreBandStops (λ n i. ⊤) way (map_lines old) count (32 * b) (part_in old.words (bits ++ now) (part_along way))
written Up old hole count b bits now long words lines up down = written_up old hole count b bits now long words lines up
written Down old hole count b bits now long words lines up down =
    written_down old hole count b bits now long words lines down

pub returns-then-not-is_near-clause-stops : goal.returns-then-not-is_near-clause-stops
returns-then-not-is_near-clause-stops c way =
    band_far way (map_lines c.args.set.now) c.args.count (32 * c.args.band) c.args.rects.now
    (get_or (stops_along way c.args.set.now).bands c.args.band []) (c.is_near.ensures c.if-not-is_near.true)
    (c.requires.before way)

pub split_at_mut-bits-requires : goal.split_at_mut-bits-requires
split_at_mut-bits-requires c =
    let old : LineTable = c.args.set.now in
    let b : ℕ = c.args.band in
    let many = c.requires.lines.many in
    let room = part_long old 0 b c.requires.lines.wide (omega (arith, many, c.requires.band))
    (c.requires.lines.long b c.requires.band) in
    omega (
      arith,
      room,
      ap length (c.deref_mut.ensures.value ∙ c.in_ok-words.ensures.taken),
      ap₂ (λ (n w : ℕ). n * w) c.from.ensures c.words.ensures,
    )

pub write_stops-requires-clause-lines : goal.write_stops-requires-clause-lines
write_stops-requires-clause-lines c =
    let old : LineTable = c.args.set.now in
    let hole : LineTable = c.take.new.self in
    let b : ℕ = c.args.band in
    let bits : List ℕ = c.split_at_mut-bits.result.0.now in
    let rest : List ℕ = c.split_at_mut-bits.result.1.now in
    let taken = c.in_ok-words.ensures in
    let whole : bits ++ rest ≡ get_or old.bands b [] =
    sym c.split_at_mut-bits.ensures.value ∙ c.deref_mut.ensures.value ∙ taken.taken in
    let long : length bits ≡ 32 * old.words =
    c.split_at_mut-bits.ensures.front_len ∙ ap₂ (λ (n w : ℕ). n * w) c.from.ensures c.words.ensures in
    let lines : band_put (map_lines hole) b bits ≡ map_lines old =
    lines_back old hole b bits rest taken.words taken.others long whole in
    subst (AreMapLines c.args.count) (sym lines) c.requires.lines

pub write_stops-requires-clause-long : goal.write_stops-requires-clause-long
write_stops-requires-clause-long c =
    let old : LineTable = c.args.set.now in
    let hole : LineTable = c.take.new.self in
    let b : ℕ = c.args.band in
    let bits : List ℕ = c.split_at_mut-bits.result.0.now in
    let rest : List ℕ = c.split_at_mut-bits.result.1.now in
    let taken = c.in_ok-words.ensures in
    let whole : bits ++ rest ≡ get_or old.bands b [] =
    sym c.split_at_mut-bits.ensures.value ∙ c.deref_mut.ensures.value ∙ taken.taken in
    let long : length bits ≡ 32 * old.words =
    c.split_at_mut-bits.ensures.front_len ∙ ap₂ (λ (n w : ℕ). n * w) c.from.ensures c.words.ensures in
    let many : length (stops_along Down old).bands ≡ length (map_lines old).bands =
    parts_many old 2 ∙ sym (parts_many old 0) in
    let words : hole.words ≡ old.words = taken.words in
    let room = part_long old 2 b c.requires.lines.wide (omega (arith, many, c.requires.lines.many, c.requires.band))
    (c.requires.before Down).long in
    omega (arith, room, long, words, ap length whole, length-append bits rest)

pub write_stops-requires-clause-up : goal.write_stops-requires-clause-up
write_stops-requires-clause-up c =
    let old : LineTable = c.args.set.now in
    let hole : LineTable = c.take.new.self in
    let b : ℕ = c.args.band in
    let bits : List ℕ = c.split_at_mut-bits.result.0.now in
    let rest : List ℕ = c.split_at_mut-bits.result.1.now in
    let taken = c.in_ok-words.ensures in
    let whole : bits ++ rest ≡ get_or old.bands b [] =
    sym c.split_at_mut-bits.ensures.value ∙ c.deref_mut.ensures.value ∙ taken.taken in
    let long : length bits ≡ 32 * old.words =
    c.split_at_mut-bits.ensures.front_len ∙ ap₂ (λ (n w : ℕ). n * w) c.from.ensures c.words.ensures in
    let below : b < length old.bands = raw_below old 0 b (omega (arith, c.requires.lines.many, c.requires.band)) in
    let lines : band_put (map_lines hole) b bits ≡ map_lines old =
    lines_back old hole b bits rest taken.words taken.others long whole in
    let words : hole.words ≡ old.words = taken.words in
    subst (λ (t : LineTable). AreBandStops (IsFarFrom c.args.rects.now) Up t c.args.count (32 * b)
    (part_in hole.words rest 0)) (sym lines)
    (subst (AreBandStops (IsFarFrom c.args.rects.now) Up (map_lines old) c.args.count (32 * b))
    (stops_behind old 0 b bits rest below long whole ∙ ap (λ (w : ℕ). part_in w rest 0) (sym words))
    (c.requires.before Up))

pub write_stops-requires-clause-down : goal.write_stops-requires-clause-down
write_stops-requires-clause-down c =
    let old : LineTable = c.args.set.now in
    let hole : LineTable = c.take.new.self in
    let b : ℕ = c.args.band in
    let bits : List ℕ = c.split_at_mut-bits.result.0.now in
    let rest : List ℕ = c.split_at_mut-bits.result.1.now in
    let taken = c.in_ok-words.ensures in
    let whole : bits ++ rest ≡ get_or old.bands b [] =
    sym c.split_at_mut-bits.ensures.value ∙ c.deref_mut.ensures.value ∙ taken.taken in
    let long : length bits ≡ 32 * old.words =
    c.split_at_mut-bits.ensures.front_len ∙ ap₂ (λ (n w : ℕ). n * w) c.from.ensures c.words.ensures in
    let below : b < length old.bands = raw_below old 0 b (omega (arith, c.requires.lines.many, c.requires.band)) in
    let lines : band_put (map_lines hole) b bits ≡ map_lines old =
    lines_back old hole b bits rest taken.words taken.others long whole in
    let words : hole.words ≡ old.words = taken.words in
    subst (λ (t : LineTable). AreBandStops (IsFarFrom c.args.rects.now) Down t c.args.count (32 * b)
    (part_in hole.words rest 1)) (sym lines)
    (subst (AreBandStops (IsFarFrom c.args.rects.now) Down (map_lines old) c.args.count (32 * b))
    (stops_behind old 1 b bits rest below long whole ∙ ap (λ (w : ℕ). part_in w rest 1) (sym words))
    (c.requires.before Down))

pub put-requires : goal.put-requires
put-requires c =
    let old : LineTable = c.args.set.now in
    let hole : LineTable = c.take.new.self in
    let b : ℕ = c.args.band in
    let below : b < length old.bands = raw_below old 0 b (omega (arith, c.requires.lines.many, c.requires.band)) in
    omega (arith, below, length-set hole.bands b [], length-set old.bands b [], ap length (c.in_ok-words.ensures.others []))

pub returns-clause-lines : goal.returns-clause-lines
returns-clause-lines c =
    let old : LineTable = c.args.set.now in
    let hole : LineTable = c.take.new.self in
    let b : ℕ = c.args.band in
    let bits : List ℕ = c.split_at_mut-bits.result.0.now in
    let rest : List ℕ = c.split_at_mut-bits.result.1.now in
    let taken = c.in_ok-words.ensures in
    let whole : bits ++ rest ≡ get_or old.bands b [] =
    sym c.split_at_mut-bits.ensures.value ∙ c.deref_mut.ensures.value ∙ taken.taken in
    let long : length bits ≡ 32 * old.words =
    c.split_at_mut-bits.ensures.front_len ∙ ap₂ (λ (n w : ℕ). n * w) c.from.ensures c.words.ensures in
    let below : b < length old.bands = raw_below old 0 b (omega (arith, c.requires.lines.many, c.requires.band)) in
    let now : List ℕ = c.write_stops.new.stops in
    let kept = with_items_is c.in_ok-words.words (bits ++ now)
    (omega (
      arith,
      length-append bits now,
      length-append bits rest,
      c.write_stops.ensures.stays,
      ap length c.split_at_mut-bits.ensures.value,
      c.deref_mut.ensures.len,
    )) in
    both_ok c.put.result c.put.ensures.words c.put.ensures.bands (λ same more.
    let put : c.put.new.self ≡ band_put old b (bits ++ now) =
    ap₂ table_of (same ∙ taken.words) (more ∙ ap (set hole.bands b) kept ∙ taken.others (bits ++ now)) in
    ap map_lines put ∙ put_lines old 0 b (bits ++ now) bits (part_front (32 * old.words) bits now long)
    ∙ ap (band_put (map_lines old) b)
    (split_bits old b bits rest (omega (arith, c.requires.lines.many, c.requires.band)) long whole)
    ∙ same_back (map_lines old) b)

pub returns-clause-stops : goal.returns-clause-stops
returns-clause-stops c =
    let old : LineTable = c.args.set.now in
    let hole : LineTable = c.take.new.self in
    let b : ℕ = c.args.band in
    let bits : List ℕ = c.split_at_mut-bits.result.0.now in
    let rest : List ℕ = c.split_at_mut-bits.result.1.now in
    let taken = c.in_ok-words.ensures in
    let whole : bits ++ rest ≡ get_or old.bands b [] =
    sym c.split_at_mut-bits.ensures.value ∙ c.deref_mut.ensures.value ∙ taken.taken in
    let long : length bits ≡ 32 * old.words =
    c.split_at_mut-bits.ensures.front_len ∙ ap₂ (λ (n w : ℕ). n * w) c.from.ensures c.words.ensures in
    let below : b < length old.bands = raw_below old 0 b (omega (arith, c.requires.lines.many, c.requires.band)) in
    let lines : band_put (map_lines hole) b bits ≡ map_lines old =
    lines_back old hole b bits rest taken.words taken.others long whole in
    let now : List ℕ = c.write_stops.new.stops in
    let kept = with_items_is c.in_ok-words.words (bits ++ now)
    (omega (
      arith,
      length-append bits now,
      length-append bits rest,
      c.write_stops.ensures.stays,
      ap length c.split_at_mut-bits.ensures.value,
      c.deref_mut.ensures.len,
    )) in
    both_ok c.put.result c.put.ensures.words c.put.ensures.bands (λ same more way.
    let put : c.put.new.self ≡ band_put old b (bits ++ now) =
    ap₂ table_of (same ∙ taken.words) (more ∙ ap (set hole.bands b) kept ∙ taken.others (bits ++ now)) in
    subst (AreBandStops (λ n i. ⊤) way (map_lines old) c.args.count (32 * b))
    (sym (part_put old c.put.new.self (part_along way) b (bits ++ now) put below))
    (written way old hole c.args.count b bits now long taken.words lines c.write_stops.ensures.up
    c.write_stops.ensures.down))

pub returns-clause-others : goal.returns-clause-others
returns-clause-others c =
    let old : LineTable = c.args.set.now in
    let hole : LineTable = c.take.new.self in
    let b : ℕ = c.args.band in
    let bits : List ℕ = c.split_at_mut-bits.result.0.now in
    let rest : List ℕ = c.split_at_mut-bits.result.1.now in
    let taken = c.in_ok-words.ensures in
    let whole : bits ++ rest ≡ get_or old.bands b [] =
    sym c.split_at_mut-bits.ensures.value ∙ c.deref_mut.ensures.value ∙ taken.taken in
    let long : length bits ≡ 32 * old.words =
    c.split_at_mut-bits.ensures.front_len ∙ ap₂ (λ (n w : ℕ). n * w) c.from.ensures c.words.ensures in
    let now : List ℕ = c.write_stops.new.stops in
    let kept = with_items_is c.in_ok-words.words (bits ++ now)
    (omega (
      arith,
      length-append bits now,
      length-append bits rest,
      c.write_stops.ensures.stays,
      ap length c.split_at_mut-bits.ensures.value,
      c.deref_mut.ensures.len,
    )) in
    both_ok c.put.result c.put.ensures.words c.put.ensures.bands (λ same more way n other.
    let put : c.put.new.self ≡ band_put old b (bits ++ now) =
    ap₂ table_of (same ∙ taken.words) (more ∙ ap (set hole.bands b) kept ∙ taken.others (bits ++ now)) in
    part_unput old c.put.new.self (part_along way) b n (bits ++ now) put other)

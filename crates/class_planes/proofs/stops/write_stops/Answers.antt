use Rattle.std.proofs.Common.{ℕ, List, ◌≡◌, ◌-◌, ◌*◌, ◌/◌, ◌++◌, take, drop, length, sym, ap, ap₂, ◌∙◌, subst, arith}
use Rattle.std.specs.Prelude.{⊤}
use Rattle.std.proofs.lemmas.List.{drop_at, take-append-le, take_all}
use Rattle.nav_types.specs.declared.straights.Way.TheVariants.{Up, Down}
use Rattle.class_planes.specs.inner.StopLines.{AreBandStops, AreMapLines, IsFarFrom, band_put, map_lines, part_in}
use Rattle.class_planes.proofs.SetLemmas.{part_behind, part_drop, part_front, part_take}
use Rattle.class_planes.proofs.stops.write_stops.Goals as goal

-- the words of the second part
second : (long n : ℕ) (xs : List ℕ) → n ≡ long → take (2 * n - n) (drop n xs) ≡ take long (drop long xs)
second long n xs is =
    let one : 2 * n - n ≡ long = omega (arith, is) in
    ap₂ (λ (m q : ℕ). take m (drop q xs)) one is

-- both parts, after the second one was written behind the first
both : (long n : ℕ) (first now stops : List ℕ) → n ≡ long → length first ≡ long
    → take n (first ++ drop n stops) ++ (now ++ drop (2 * n - n) (drop n (first ++ drop n stops)))
    ≡ first ++ (now ++ drop (2 * n - n) (drop n (first ++ drop n stops)))
both long n first now stops is wide =
    ap (λ (xs : List ℕ). xs ++ (now ++ drop (2 * n - n) (drop n (first ++ drop n stops))))
    (take-append-le n first (drop n stops) (omega (arith, is, wide)) ∙ take_all n first (omega (arith, is, wide)))

pub write_rects-requires-clause-lines : goal.write_rects-requires-clause-lines
write_rects-requires-clause-lines c =
    let at : 32 * c.args.band / 32 ≡ c.args.band = omega arith in
    subst (λ (b : ℕ). AreMapLines c.args.count (band_put (map_lines c.args.others.now) b c.args.bits.now)) (sym at)
    c.requires.lines

pub write_rects-requires-clause-before : goal.write_rects-requires-clause-before
write_rects-requires-clause-before c =
    let b : ℕ = c.args.band in
    let at : 32 * b / 32 ≡ b = omega arith in
    let stops : List ℕ = c.args.stops.now in
    let long : c.from.result * c.words.result ≡ 32 * c.args.others.now.words =
    ap₂ (λ (n w : ℕ). n * w) c.from.ensures c.words.ensures in
    subst (λ (q : ℕ). AreBandStops (IsFarFrom c.args.rects.now) Up (band_put (map_lines c.args.others.now) q c.args.bits.now)
    c.args.count (32 * b) (take (c.from.result * c.words.result) stops)) (sym at)
    (subst (AreBandStops (IsFarFrom c.args.rects.now) Up (band_put (map_lines c.args.others.now) b c.args.bits.now)
    c.args.count (32 * b))
    (part_take (32 * c.args.others.now.words) stops ∙ ap (λ (n : ℕ). take n stops) (sym long)) c.requires.up)

pub write_rects-requires-2-clause-lines : goal.write_rects-requires-2-clause-lines
write_rects-requires-2-clause-lines c =
    let at : 32 * c.args.band / 32 ≡ c.args.band = omega arith in
    subst (λ (b : ℕ). AreMapLines c.args.count (band_put (map_lines c.args.others.now) b c.args.bits.now)) (sym at)
    c.requires.lines

pub write_rects-requires-2-clause-before : goal.write_rects-requires-2-clause-before
write_rects-requires-2-clause-before c =
    let b : ℕ = c.args.band in
    let at : 32 * b / 32 ≡ b = omega arith in
    let stops : List ℕ = c.args.stops.now in
    let words : ℕ = c.args.others.now.words in
    let n : ℕ = c.from.result * c.words.result in
    let long : n ≡ 32 * words = ap₂ (λ (n w : ℕ). n * w) c.from.ensures c.words.ensures in
    let first : List ℕ = c.write_rects.new.band in
    let wide : length first ≡ 32 * words = c.write_rects.ensures.stops.long in
    let part : part_in words stops 1 ≡ take (2 * n - n) (drop n (first ++ drop n stops)) =
    part_drop (32 * words) 0 stops ∙ part_take (32 * words) (drop (32 * words) stops)
    ∙ ap₂ (λ (m q : ℕ). take m (drop q stops)) (omega (arith, long)) (sym long)
    ∙ ap (take (2 * n - n)) (sym (drop_at first (drop n stops) n (wide ∙ sym long))) in
    subst (λ (q : ℕ). AreBandStops (IsFarFrom c.args.rects.now) Down (band_put (map_lines c.args.others.now) q c.args.bits.now)
    c.args.count (32 * b) (take (2 * n - n) (drop n (first ++ drop n stops)))) (sym at)
    (subst (AreBandStops (IsFarFrom c.args.rects.now) Down (band_put (map_lines c.args.others.now) b c.args.bits.now)
    c.args.count (32 * b)) part c.requires.down)

pub returns-clause-up : goal.returns-clause-up
returns-clause-up c =
    let b : ℕ = c.args.band in
    let at : 32 * b / 32 ≡ b = omega arith in
    let stops : List ℕ = c.args.stops.now in
    let words : ℕ = c.args.others.now.words in
    let n : ℕ = c.from.result * c.words.result in
    let long : n ≡ 32 * words = ap₂ (λ (n w : ℕ). n * w) c.from.ensures c.words.ensures in
    let first : List ℕ = c.write_rects.new.band in
    let now : List ℕ = c.write_rects-2.new.band in
    let wide : length first ≡ 32 * words = c.write_rects.ensures.stops.long in
    let rest : List ℕ = now ++ drop (2 * n - n) (drop n (first ++ drop n stops)) in
    let part = ap (λ (xs : List ℕ). part_in words xs 0) (both (32 * words) n first now stops long wide)
    ∙ part_front (32 * words) first rest wide in
    subst (AreBandStops (λ m i. ⊤) Up (band_put (map_lines c.args.others.now) b c.args.bits.now) c.args.count (32 * b))
    (sym part)
    (subst (λ (q : ℕ). AreBandStops (λ m i. ⊤) Up (band_put (map_lines c.args.others.now) q c.args.bits.now)
    c.args.count (32 * b) first) at c.write_rects.ensures.stops)

pub returns-clause-down : goal.returns-clause-down
returns-clause-down c =
    let b : ℕ = c.args.band in
    let at : 32 * b / 32 ≡ b = omega arith in
    let stops : List ℕ = c.args.stops.now in
    let words : ℕ = c.args.others.now.words in
    let n : ℕ = c.from.result * c.words.result in
    let long : n ≡ 32 * words = ap₂ (λ (n w : ℕ). n * w) c.from.ensures c.words.ensures in
    let first : List ℕ = c.write_rects.new.band in
    let now : List ℕ = c.write_rects-2.new.band in
    let wide : length first ≡ 32 * words = c.write_rects.ensures.stops.long in
    let tail : List ℕ = drop (2 * n - n) (drop n (first ++ drop n stops)) in
    let part = ap (λ (xs : List ℕ). part_in words xs 1) (both (32 * words) n first now stops long wide)
    ∙ part_behind (32 * words) 0 first (now ++ tail) wide
    ∙ part_front (32 * words) now tail c.write_rects-2.ensures.stops.long in
    subst (AreBandStops (λ m i. ⊤) Down (band_put (map_lines c.args.others.now) b c.args.bits.now) c.args.count (32 * b))
    (sym part)
    (subst (λ (q : ℕ). AreBandStops (λ m i. ⊤) Down (band_put (map_lines c.args.others.now) q c.args.bits.now)
    c.args.count (32 * b) now) at c.write_rects-2.ensures.stops)

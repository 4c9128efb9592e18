use Rattle.std.proofs.Common.{ℕ, List, length, ◌≡◌, ◌≢◌, ◌/◌, ◌%◌, get_or, sym, ap, ◌∙◌, subst, ⊎_elim, arith}
use Rattle.std.specs.Int.{bit_at}
use Rattle.std.proofs.lemmas.Bool.{cases_eq}
use Rattle.class_planes.specs.inner.Lines.{line_at}
use Rattle.class_planes.specs.inner.Runs.{bit_in}
use Rattle.class_planes.specs.inner.StopLines.{map_lines}
use Rattle.class_planes.proofs.StopBandLemmas.{map_line_long}
use Rattle.class_planes.proofs.tight_rects.is_same.Goals as goal

pub line-old-requires-clause-band : goal.line-old-requires-clause-band
line-old-requires-clause-band c =
    omega (arith, c.requires.alike.before.many, c.requires.line, c.requires.rect.last_line)

pub line-old-requires-clause-long : goal.line-old-requires-clause-long
line-old-requires-clause-long c =
    c.requires.alike.before.long (c.args.n / 32) (omega (arith, c.requires.line, c.requires.rect.last_line))

pub line-new-requires-clause-band : goal.line-new-requires-clause-band
line-new-requires-clause-band c =
    omega (arith, c.requires.alike.lines.many, c.requires.line, c.requires.rect.last_line)

pub line-new-requires-clause-long : goal.line-new-requires-clause-long
line-new-requires-clause-long c =
    c.requires.alike.lines.long (c.args.n / 32) (omega (arith, c.requires.line, c.requires.rect.last_line))

pub bounds-old-w : goal.bounds-old-w
bounds-old-w c =
    let long = ap length c.line-old.ensures ∙ map_line_long (map_lines c.args.before.now) c.args.count c.args.n c.requires.alike.before
    (omega (arith, c.requires.line, c.requires.rect.last_line)) in
    let last = c.requires.rect.last_word in
    omega (arith, long, c.requires.alike.words, last, c.loop-w-test.true, c.from-to.ensures)

pub bounds-new-w : goal.bounds-new-w
bounds-new-w c =
    let long = ap length c.line-new.ensures ∙ map_line_long (map_lines c.args.lines.now) c.args.count c.args.n c.requires.alike.lines
    (omega (arith, c.requires.line, c.requires.rect.last_line)) in
    let last = c.requires.rect.last_word in
    omega (arith, long, last, c.loop-w-test.true, c.from-to.ensures)

pub loop-w-init : goal.loop-w-init
loop-w-init c v low below = absurd (omega (arith, low, below, c.from-from.ensures))

pub loop-w-preserved : goal.loop-w-preserved
loop-w-preserved c v low below = ⊎_elim
    (λ (same : v ≡ c.loop-w.w).
    ap (λ (k : ℕ). get_or (line_at (map_lines c.args.before.now) c.args.n) k 0) same
    ∙ sym (ap (λ (xs : List ℕ). get_or xs c.loop-w.w 0) c.line-old.ensures) ∙ c.if-old-w.false
    ∙ ap (λ (xs : List ℕ). get_or xs c.loop-w.w 0) c.line-new.ensures
    ∙ sym (ap (λ (k : ℕ). get_or (line_at (map_lines c.args.lines.now) c.args.n) k 0) same))
    (λ (other : v ≢ c.loop-w.w). c.loop-w.invariant v low (omega (arith, below, other)))
    (cases_eq v c.loop-w.w)

pub returns : goal.returns
returns c holds n i low below west east =
    let same : c.args.n ≡ n = omega (arith, low, below) in
    subst (λ (m : ℕ). bit_in (line_at (map_lines c.args.before.now) m) i ≡ bit_in (line_at (map_lines c.args.lines.now) m) i) same
    (ap (λ word. bit_at word (i % 64)) (c.loop-w.invariant (i / 64) (omega (arith, west))
    (omega (arith, east, c.loop-w-test.false, c.from-to.ensures))))

use Rattle.std.proofs.Common.{ℕ, ◌≡◌, ◌+◌, ◌/◌, sym, ap, ◌∙◌, subst, arith}
use Rattle.std.proofs.lemmas.List.{get_or_default}
use Rattle.nav_types.specs.declared.cells.Size.{Size}
use Rattle.class_planes.specs.inner.Reading.{ReadCells, AreRead, IsOfWords}
use Rattle.class_planes.proofs.ReadLemmas.{right_more}
use Rattle.class_planes.proofs.updates.write_rects.Goals as goal

pub loop-read-init : goal.loop-read-init
loop-read-init g c m i small within out =
    c.requires.before m i small within (λ k d below inside. out k d (omega arith) below inside)

pub write_rect-requires-clause-rect : goal.write_rect-requires-clause-rect
write_rect-requires-clause-rect g c =
    let view = c.args.view.now in
    let extent : Size = g.V.View.extent view in
    let read : ReadCells = c.read-item.result in
    let Right = AreRead extent (g.V.View.class_count view) (g.V.View.passes view) in
    let are : Right read = subst Right (sym c.read-item.is) (c.requires.read c.loop-read.read-index read c.loop-read-test.true) in
    let wide : c.from.result / 64 + 1 ≡ extent.w / 64 + 1 =
    ap (λ (n : ℕ). n / 64 + 1) (c.from.ensures ∙ ap (λ (s : Size). s.w) c.size.ensures) in
    subst (λ (n : ℕ). IsOfWords n read.rect) (sym wide) are.words

pub write_rect-requires-clause-whole : goal.write_rect-requires-clause-whole
write_rect-requires-clause-whole g c =
    let view = c.args.view.now in
    let read : ReadCells = c.read-item.result in
    let Right = AreRead (g.V.View.extent view) (g.V.View.class_count view) (g.V.View.passes view) in
    let are : Right read = subst Right (sym c.read-item.is) (c.requires.read c.loop-read.read-index read c.loop-read-test.true) in
    are.whole

pub loop-read-preserved : goal.loop-read-preserved
loop-read-preserved g c =
    let view = c.args.view.now in
    let extent : Size = g.V.View.extent view in
    let reads = c.args.reads.now in
    let at : ℕ = c.loop-read.read-index in
    let read : ReadCells = c.read-item.result in
    let Right = AreRead extent (g.V.View.class_count view) (g.V.View.passes view) in
    let are : Right read = subst Right (sym c.read-item.is) (c.requires.read at read c.loop-read-test.true) in
    let wide : c.from.result / 64 + 1 ≡ extent.w / 64 + 1 =
    ap (λ (n : ℕ). n / 64 + 1) (c.from.ensures ∙ ap (λ (s : Size). s.w) c.size.ensures) in
    right_more extent (g.V.View.class_count view) (g.V.View.passes view) c.args.class c.number.result c.args.first
    (extent.w / 64 + 1) (c.from.result / 64 + 1) reads at read c.loop-read.band c.write_rect.new.band
    c.requires.class (omega (arith, c.number.ensures.value, c.number.ensures.small)) c.number.ensures.value wide
    (λ d. get_or_default reads at d read c.loop-read-test.true ∙ sym c.read-item.is) are c.loop-read.invariant
    c.write_rect.ensures.set c.write_rect.ensures.others

pub returns-clause-bits : goal.returns-clause-bits
returns-clause-bits g c m i small within =
    c.loop-read.invariant m i small within (λ k d least below inside. absurd (omega (arith, least, below, c.loop-read-test.false)))

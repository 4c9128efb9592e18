use Rattle.std.proofs.Common.{ℕ, ◌≡◌, ◌<◌, ◌+◌, ◌-◌, ◌∙◌, List, [], ◌∷◌, ◌++◌, Vec, Global, ap, get_or, length, length-append, set, subst, sym, arith}
use Rattle.std.specs.Prelude.{slice_index}
use Rattle.std.proofs.lemmas.Option.{slice_get-get_or}
use Rattle.nav_types.specs.Cells.{cell_at}
use Rattle.nav_types.specs.declared.cells.Cell.{Cell}
use Rattle.chunk_regions.specs.inner.Joining.{AreNumbers}
use Rattle.chunk_regions.proofs.RootLemmas.{AreNumbers-link, AreNumbers-root}
use Rattle.chunk_regions.proofs.label_spans.number_regions.Goals.{then-link-place+in_ok-push, else-link-place}
use Rattle.chunk_regions.proofs.label_spans.number_regions.Goals as goal

pub loop-place-preserved : goal.loop-place-preserved
loop-place-preserved c =
    let firsts = c.args.firsts.now in
    let links = c.args.links.now in
    let numbers = c.loop-place.links in
    let roots = c.loop-place.roots.items in
    let place = c.loop-place.place in
    let kept = c.loop-place.invariant in
    let same : slice_index numbers place ≡ slice_index links place = kept.rest place (omega arith) in
    elim c.if-link-place.branch [
      | then-link-place+in_ok-push w ↦
          let more = w.if-link-place.true in
          let most = (c.requires.down place (omega arith)).1 in
          let each = c.requires.each in
          let inside : place < length firsts = omega arith in
          let cell = get_or firsts place (cell_at 0 0) in
          let found = slice_get-get_or firsts place (cell_at 0 0) inside in
          let pushed : w.push.new.self.items ≡ roots ++ cell ∷ [] = w.in_ok-push.ensures.items in
          let longer = ap (λ (cells : List Cell). length cells) pushed in
          let more_by_one = length-append roots (cell ∷ []) in
          let own = w.len.ensures in
          let count : w.len.result ≡ length roots + 1 = omega arith in
          let new : c.if-link-place.links ≡ set numbers place (length roots + 1) = w.links-is ∙ ap (λ n. set numbers place n) count in
          let all : c.if-link-place.roots.items ≡ roots ++ cell ∷ [] = ap (λ (v : Vec Cell Global). v.items) w.roots-is ∙ pushed in
          subst (λ (ns : List ℕ). AreNumbers firsts links ns c.if-link-place.roots.items (place + 1)) (sym new)
          (subst (λ (cells : List Cell). AreNumbers firsts links (set numbers place (length roots + 1)) cells (place + 1)) (sym all)
          (AreNumbers-root firsts links numbers roots place cell c.requires.down (omega arith) found (omega arith) kept))
      | else-link-place w ↦
          let less = w.if-link-place.false in
          let back : slice_index numbers (slice_index numbers place - 1) ≡ slice_index numbers (slice_index links place - 1) =
          ap (λ n. slice_index numbers (n - 1)) same in
          let value = slice_index numbers (slice_index numbers place - 1) in
          let all : c.if-link-place.roots.items ≡ roots = ap (λ (v : Vec Cell Global). v.items) w.roots-is in
          subst (λ (ns : List ℕ). AreNumbers firsts links ns c.if-link-place.roots.items (place + 1)) (sym w.links-is)
          (subst (λ (cells : List Cell). AreNumbers firsts links (set numbers place value) cells (place + 1)) (sym all)
          (AreNumbers-link firsts links numbers roots place value c.requires.down c.requires.each (omega arith) (omega arith) back kept))
    ]

pub returns-clause-numbers : goal.returns-clause-numbers
returns-clause-numbers c =
    let end : c.loop-place.place ≡ length c.args.links.now = omega (arith, c.loop-place-test.false, c.loop-place.auto.place-end) in
    subst (λ k. AreNumbers c.args.firsts.now c.args.links.now c.loop-place.links c.loop-place.roots.items k) end c.loop-place.invariant

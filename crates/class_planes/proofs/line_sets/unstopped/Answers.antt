use Rattle.std.proofs.Common.{ℕ, List, [], ◌∷◌, ◌++◌, ◌≡◌, ◌<◌, ◌*◌, get_or, length, replicate, ap, ap₂, ◌∙◌, arith}
use Rattle.class_planes.specs.inner.Lines.{LineTable}
use Rattle.class_planes.proofs.SetLemmas.{bits_more, blank_more}
use Rattle.class_planes.proofs.line_sets.unstopped.Goals as goal

pub loop-b-preserved : goal.loop-b-preserved
loop-b-preserved c =
    let lines : LineTable = c.args.lines.now in
    let old : LineTable = c.loop-b.set in
    let new : LineTable = c.push.new.self in
    let b : ℕ = c.loop-b.b in
    let bits : List ℕ = get_or lines.bands b [] in
    let rest : List ℕ = replicate (2 * (32 * lines.words)) 0 in
    let below : b < length lines.bands = omega (arith, c.loop-b-test.true, c.count-b-end.ensures) in
    let blank : c.deref.result.now ≡ rest =
    c.deref.ensures.value ∙ c.in_ok-blank.ensures.items_if_clones_equal (λ y same. same)
    ∙ ap₂ (λ (n w : ℕ). replicate (2 * (n * w)) 0) c.from.ensures c.words-words.ensures in
    let front : c.extend_from_slice.new.self.items ≡ bits =
    c.in_ok-extend_from_slice.ensures.items
    ∙ ap₂ (λ (xs ys : List ℕ). xs ++ ys) c.in_ok-band.ensures.items c.band-bits.ensures in
    let band = c.in_ok-extend_from_slice-2.ensures.items ∙ ap₂ (λ (xs ys : List ℕ). xs ++ ys) front blank in
    let more : new.bands ≡ old.bands ++ (bits ++ rest) ∷ [] =
    c.in_ok-push.ensures.bands ∙ ap (λ (one : List ℕ). old.bands ++ one ∷ []) band in
    record {
      words = c.in_ok-push.ensures.words ∙ c.loop-b.invariant.words;
      lines = bits_more b old new lines rest below c.loop-b.invariant.words c.in_ok-push.ensures.words more
          (c.requires.long b below) c.loop-b.invariant.lines;
      stops = λ way. blank_more way b lines.words old new bits (c.loop-b.invariant.stops way) c.in_ok-push.ensures.words
          more (c.requires.long b below);
    }

use Rattle.std.proofs.Common.{◌≡◌, ◌<◌, ◌≤◌, ◌+◌, ◌-◌, ◌*◌, ◌/◌, ◌∙◌, ◌++◌, ℕ, List, take, drop, length, inl, inr, ⊎_elim, refl, ap, ap₂, arith}
use Rattle.class_planes.specs.inner.Lines.{patched}
use Rattle.class_planes.proofs.LineLemmas.{part_long}
use Rattle.class_planes.proofs.TurnLemmas.{put_is}
use Rattle.class_planes.proofs.ColumnLemmas.{place_fits, word_set, word_others}
use Rattle.class_planes.proofs.transposed.write_word.Goals as goal

pub loop-k-init : goal.loop-k-init
loop-k-init c = record {
  set = λ k j low high word. absurd (omega (arith, low, high));
  others = λ m j small within other. refl;
  most = inl refl;
}

pub loop-k-preserved : goal.loop-k-preserved
loop-k-preserved c =
    let wide : ℕ = c.args.height / 64 + 1 in
    let half : ℕ = c.args.half in
    let k : ℕ = c.loop-k.k in
    let w : ℕ = c.args.w in
    let from : ℕ = c.args.span.from in
    let below : k < 16 = omega (arith, c.loop-k-test.true, c.requires.span) in
    let band : List ℕ = c.loop-k.words in
    let out : List ℕ = c.plane_words.new.out in
    let place : ℕ = c.from-in-loop-k.result * (c.from.result / 64 + 1) + c.from-in-loop-k-2.result in
    let line : c.from-in-loop-k.result ≡ 16 * half + k =
    c.from-in-loop-k.ensures in
    let words : c.from.result / 64 + 1 ≡ wide = ap (λ (h : ℕ). h / 64 + 1) c.from.ensures in
    let at : place ≡ (16 * half + k) * wide + w = ap₂ (λ (p q : ℕ). p + q) (ap₂ (λ (a b : ℕ). a * b) line words)
    c.from-in-loop-k-2.ensures in
    let long : length band ≡ 32 * wide = c.loop-k.auto.words ∙ c.requires.words in
    let fits : (16 * half + k) * wide + w + 1 ≤ length band =
    omega (arith, place_fits wide (16 * half + k) w (omega (arith, c.requires.half, below)) c.requires.word, long) in
    let one : length out ≡ 1 = c.plane_words.auto.out ∙ part_long band place (place + 1) 1 (omega arith) (omega (arith, at, fits)) in
    let new : List ℕ = take place band ++ (out ++ drop (place + 1 - place) (drop place band)) in
    let put : new ≡ patched band ((16 * half + k) * wide + w) out =
    put_is band out place 1 one ∙ ap (λ (p : ℕ). patched band p out) at in
    record {
      set = word_set wide half w from k c.args.numbers.now band new out one fits c.requires.word put c.plane_words.ensures
          c.loop-k.invariant.set;
      others = λ m j line within other. word_others wide half w from k c.args.words.now band new out one fits c.requires.word put
          c.loop-k.invariant.others m j line within other c.loop-k.auto.k;
      most = inr (omega (arith, c.loop-k-test.true));
    }

pub returns-clause-others : goal.returns-clause-others
returns-clause-others c m j small within other =
    c.loop-k.invariant.others m j small within (λ low high word. ⊎_elim
    (λ (none : c.loop-k.k ≡ c.args.span.from). omega (arith, low, high, none))
    (λ (most : c.loop-k.k ≤ c.args.span.to). other low (omega (arith, high, most)) word)
    c.loop-k.invariant.most)

use Rattle.std.proofs.Common.{◌≡◌, ◌+◌, ◌/◌, ◌%◌, ◌==◌, ◌∙◌, ap, inl, inr, sym, arith}
use Rattle.std.specs.Int.{bit_at}
use Rattle.std.specs.Prelude.{slice_index}
use Rattle.std.proofs.lemmas.Bool.{cases_lt, and_parts, eqb-true}
use Rattle.grid_versions.proofs.chunk_bits.same_words.Goals as goal

pub returns : goal.returns
returns c = λ same k small.
    let old = c.args.old.now in
    let new = c.args.new.now in
    let from = c.args.from in
    let half = c.requires in
    let at = c.from-at.ensures in
    let word = c.from-at.result / 64 in
    let bit = (from + k) % 64 in
    let parts = and_parts (c.word_at.result == c.word_at-2.result) (c.word_at-3.result == c.word_at-4.result) same in
    let near : slice_index old word ≡ slice_index new word =
    sym c.word_at.ensures ∙ eqb-true c.word_at.result c.word_at-2.result parts.0 ∙ c.word_at-2.ensures in
    let far : slice_index old (word + 1) ≡ slice_index new (word + 1) =
    sym c.word_at-3.ensures ∙ eqb-true c.word_at-3.result c.word_at-4.result parts.1 ∙ c.word_at-4.ensures in
    elim (cases_lt (from % 64 + k) 64) [
      | inl first ↦
          let here : word ≡ (from + k) / 64 = omega arith in
          ap (λ w. bit_at (slice_index old w) bit) (sym here) ∙ ap (λ n. bit_at n bit) near ∙ ap (λ w. bit_at (slice_index new w) bit) here
      | inr second ↦
          let here : word + 1 ≡ (from + k) / 64 = omega arith in
          ap (λ w. bit_at (slice_index old w) bit) (sym here) ∙ ap (λ n. bit_at n bit) far ∙ ap (λ w. bit_at (slice_index new w) bit) here
    ]

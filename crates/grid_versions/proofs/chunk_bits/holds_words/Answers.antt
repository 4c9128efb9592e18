use Rattle.std.proofs.Common.{◌≡◌, ◌+◌, ◌/◌, ◌%◌, ◌∙◌, ap, inl, inr, sym, arith}
use Rattle.std.specs.Int.{bit_at}
use Rattle.std.specs.Prelude.{slice_index}
use Rattle.std.proofs.lemmas.Bool.{cases_lt, and_parts}
use Rattle.grid_versions.proofs.chunk_bits.holds_words.Goals as goal

pub returns : goal.returns
returns c = λ holds k small set.
    let all = c.args.all.now in
    let some = c.args.some.now in
    let from = c.args.from in
    let half = c.requires in
    let at = c.from-at.ensures in
    let word = c.from-at.result / 64 in
    let bit = (from + k) % 64 in
    let parts = and_parts c.has_bits-near.result c.has_bits-far.result holds in
    elim (cases_lt (from % 64 + k) 64) [
      | inl first ↦
          let here : word ≡ (from + k) / 64 = omega arith in
          ap (λ w. bit_at (slice_index all w) bit) (sym here) ∙ ap (λ n. bit_at n bit) (sym c.word_at.ensures)
          ∙ c.has_bits-near.ensures parts.0 bit
          (ap (λ n. bit_at n bit) c.word_at-2.ensures ∙ ap (λ w. bit_at (slice_index some w) bit) here ∙ set)
      | inr second ↦
          let here : word + 1 ≡ (from + k) / 64 = omega arith in
          ap (λ w. bit_at (slice_index all w) bit) (sym here) ∙ ap (λ n. bit_at n bit) (sym c.word_at-3.ensures)
          ∙ c.has_bits-far.ensures parts.1 bit
          (ap (λ n. bit_at n bit) c.word_at-4.ensures ∙ ap (λ w. bit_at (slice_index some w) bit) here ∙ set)
    ]

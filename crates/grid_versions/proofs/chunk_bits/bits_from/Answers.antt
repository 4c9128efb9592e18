use Rattle.std.proofs.Common.{rules, ◌/◌, ◌+◌, ◌∙◌, ap}
use Rattle.std.specs.Prelude.{slice_index}
use Rattle.grid_versions.proofs.BitLemmas.{two_words}
use Rattle.grid_versions.proofs.chunk_bits.bits_from.Goals as goal

pub returns-clause-bits : goal.returns-clause-bits
returns-clause-bits c = λ k few.
    let words = c.args.words.now in
    two_words words c.args.from c.word_at.result c.word_at-2.result c.joined.result k c.requires.half
    (c.word_at.ensures ∙ ap (λ n. slice_index words (n / 64)) c.from-at.ensures)
    (c.word_at-2.ensures ∙ ap (λ n. slice_index words (n / 64 + 1)) c.from-at.ensures) (Prim.search rules) c.joined.ensures few

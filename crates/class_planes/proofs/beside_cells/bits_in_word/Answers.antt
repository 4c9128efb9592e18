use Rattle.std.proofs.Common.{◌≡◌, ◌+◌, ◌-◌, ap, ◌∙◌, arith}
use Rattle.std.specs.Int.{bit_at}
use Rattle.class_planes.proofs.BesideLemmas.{bit_moved}
use Rattle.class_planes.proofs.beside_cells.bits_in_word.Goals as goal

pub returns-clause-before : goal.returns-clause-before
returns-clause-before c =
    let place : c.args.k - 1 + 0 ≡ c.args.k - 1 = omega arith in
    bit_moved c.args.word (c.args.k - 1) 0 (omega arith) ∙ ap (bit_at c.args.word) place

pub returns-clause-here : goal.returns-clause-here
returns-clause-here c =
    let place : c.args.k - 1 + 1 ≡ c.args.k = omega (arith, c.requires.inner) in
    bit_moved c.args.word (c.args.k - 1) 1 (omega arith) ∙ ap (bit_at c.args.word) place

pub returns-clause-after : goal.returns-clause-after
returns-clause-after c =
    let place : c.args.k - 1 + 2 ≡ c.args.k + 1 = omega (arith, c.requires.inner) in
    bit_moved c.args.word (c.args.k - 1) 2 (omega arith) ∙ ap (bit_at c.args.word) place

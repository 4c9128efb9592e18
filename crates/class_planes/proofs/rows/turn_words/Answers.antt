use Rattle.std.proofs.Common.{◌<◌, ◌^◌, length, get_or, ap, ◌∙◌, arith, rules, w64}
use Rattle.std.specs.Int.{bit_at, bit_not}
use Rattle.std.proofs.lemmas.List.{get_or_default}
use Rattle.std.proofs.lemmas.List.Edits.{map_over_more}
use Rattle.class_planes.proofs.BitLemmas.{all_turned, turned_bit}
use Rattle.class_planes.proofs.rows.turn_words.Goals as goal

pub loop-word-preserved : goal.loop-word-preserved
loop-word-preserved c =
    let words = c.loop-word.words in
    let i = c.loop-word.word-index in
    let within : i < length words = omega arith in
    map_over_more (bit_not w64) c.args.words.now words i (get_or words i 0)
    c.loop-word-test.true c.loop-word.invariant (get_or_default words i 0 (get_or words i 0) within)

pub returns : goal.returns
returns c w k within small =
    let old = c.args.words.now in
    let fits : get_or old w 0 < 2 ^ 64 = Prim.search rules in
    ap (λ xs. bit_at (get_or xs w 0) k)
    (all_turned old c.loop-word.words c.loop-word.word-index c.loop-word-test.false c.loop-word.invariant)
    ∙ turned_bit old w k fits within small

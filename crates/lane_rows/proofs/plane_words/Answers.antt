use Rattle.std.proofs.Common.{◌≡◌, ◌≢◌, ◌*◌, ◌+◌, ◌<◌, ⊎_elim, length, get_or, set, sym, ap, ◌∙◌, arith}
use Rattle.std.specs.Int.{bit_at}
use Rattle.std.proofs.lemmas.Bool.{cases_eq}
use Rattle.std.proofs.lemmas.List.{get_or-set_same, get_or-set_other}
use Rattle.lane_rows.proofs.BlockLemmas.{plane_bit}
use Rattle.lane_rows.proofs.plane_words.Goals as goal

pub loop-w-preserved : goal.loop-w-preserved
loop-w-preserved c i k below small =
    let out = c.loop-w.out in
    let w = c.loop-w.w in
    let word = c.class_word.result in
    let within : w < length out = omega arith in
    ⊎_elim
    (λ (here : i ≡ w).
    ap (λ p. bit_at (get_or (set out w word) p 0) k) here
    ∙ ap (λ n. bit_at n k) (get_or-set_same out w word 0 within)
    ∙ plane_bit c.args.class (64 * w) word c.args.row.now c.block_at.result c.block_at.ensures c.class_word.ensures k small
    ∙ ap (λ p. bit_at (get_or c.args.row.now (64 * p + k) 0) c.args.class) (sym here))
    (λ (other : i ≢ w).
    ap (λ n. bit_at n k) (get_or-set_other out w i word 0 other)
    ∙ c.loop-w.invariant i k (omega arith) small)
    (cases_eq i w)

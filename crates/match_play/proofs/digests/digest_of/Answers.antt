use Rattle.std.proofs.Common.{◌≤◌, ℕ, get_or, length, sym, ap, ◌∙◌, arith}
use Rattle.std.proofs.lemmas.List.{take_all}
use Rattle.std.proofs.lemmas.List.Sums.{fold_more}
use Rattle.match_play.specs.Digests.{digest_of, digest_with}
use Rattle.match_play.proofs.digests.digest_of.Goals as goal

pub loop-byte-preserved : goal.loop-byte-preserved
loop-byte-preserved c =
    let bytes = c.args.bytes.now in
    let i = c.loop-byte.byte-index in
    c.digest_with-digest.ensures
    ∙ (ap (λ (digest : ℕ). digest_with digest (get_or bytes i 0)) c.loop-byte.invariant ∙ sym (fold_more digest_with 0 bytes i 0 c.loop-byte-test.true))

pub returns : goal.returns
returns c =
    let bytes = c.args.bytes.now in
    let past : length bytes ≤ c.loop-byte.byte-index = omega (arith, c.loop-byte-test.false) in
    c.loop-byte.invariant ∙ ap digest_of (take_all c.loop-byte.byte-index bytes past)

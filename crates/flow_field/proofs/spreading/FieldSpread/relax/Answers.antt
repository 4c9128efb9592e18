use Rattle.std.proofs.lemmas.Result.{on_ok_weaker}
use Rattle.std.proofs.lemmas.List.{get_or_read}
use Rattle.std.proofs.Common.{◌≡◌, ◌+◌, get_or, arith}
use Rattle.flow_field.proofs.Relaxing.{relax_all}
use Rattle.flow_field.proofs.spreading.FieldSpread.relax.Goals as goal

pub returns : goal.returns
returns c =
    let marks = c.args.self.now.marks.items in
    let inner = c.requires.inner in
    let read : c.index-mark.result.now ≡ get_or marks c.args.at 0 = get_or_read marks c.args.at c.index-mark.result.now (omega (arith, inner.above)) c.index-mark.ensures 0 in
    on_ok_weaker c.relax_diagonal.result (λ diagonal. relax_all c.args.width c.args.at (c.index-mark.result.now + 65536) (c.index-mark.result.now + 92682)
    c.args.self.now c.relax_straight.new.self c.relax_diagonal.new.self (omega arith) (omega arith) c.in_ok-relax_straight.ensures diagonal)
    c.relax_diagonal.ensures

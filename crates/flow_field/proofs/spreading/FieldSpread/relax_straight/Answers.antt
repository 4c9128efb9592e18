use Rattle.std.proofs.lemmas.Result.{on_ok_weaker}
use Rattle.flow_field.proofs.Relaxing.{relax_four_straight}
use Rattle.flow_field.proofs.spreading.FieldSpread.relax_straight.Goals as goal

pub returns : goal.returns
returns c = on_ok_weaker c.lower_straight-4.result
    (λ last. relax_four_straight c.args.width c.args.at c.args.mark c.args.self.now c.lower_straight.new.self c.lower_straight-2.new.self c.lower_straight-3.new.self c.lower_straight-4.new.self
    c.requires c.in_ok-lower_straight.ensures c.in_ok-lower_straight-2.ensures c.in_ok-lower_straight-3.ensures last)
    c.lower_straight-4.ensures

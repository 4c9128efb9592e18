use Rattle.std.proofs.lemmas.Result.{on_ok_weaker}
use Rattle.flow_field.proofs.Relaxing.{relax_four_diagonal}
use Rattle.flow_field.proofs.spreading.FieldSpread.relax_diagonal.Goals as goal

pub returns : goal.returns
returns c = on_ok_weaker c.lower_diagonal-4.result
    (λ last. relax_four_diagonal c.args.width c.args.at c.args.mark c.args.self.now c.lower_diagonal.new.self c.lower_diagonal-2.new.self c.lower_diagonal-3.new.self c.lower_diagonal-4.new.self
    c.requires c.in_ok-lower_diagonal.ensures c.in_ok-lower_diagonal-2.ensures c.in_ok-lower_diagonal-3.ensures last)
    c.lower_diagonal-4.ensures

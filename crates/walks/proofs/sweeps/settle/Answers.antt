use Rattle.walks.proofs.sweeps.settle.Goals as goal

pub sweep-requires-clause-table : goal.sweep-requires-clause-table
sweep-requires-clause-table g c = (c.requires.table.0, c.sweeps.invariant c.requires.table.0 c.requires.table.1)

pub sweeps-preserved : goal.sweeps-preserved
sweeps-preserved g c = λ start sound. c.sweep.ensures.sound start (c.sweeps.invariant start sound)

pub sweeps-smaller : goal.sweeps-smaller
sweeps-smaller g c = c.sweep.ensures.less c.sweeps-test.true

pub returns : goal.returns
returns g c = record {
  sound = λ start sound. c.sweep.ensures.sound start (c.sweeps.invariant start sound);
  settled = c.sweep.ensures.settled c.sweeps-test.false;
}

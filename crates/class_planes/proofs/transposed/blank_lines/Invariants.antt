use Rattle.std.proofs.Common.{false}
use Rattle.class_planes.specs.inner.Lines.{AreLines}
use Rattle.class_planes.proofs.transposed.blank_lines.Given as goal

abbrev pub invariant-loop-band : goal.invariant-loop-band
invariant-loop-band l = AreLines (λ n i. false) l.band l.words l.lines

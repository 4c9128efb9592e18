use Rattle.std.proofs.Common.{false, ◌≡◌, take}
use Rattle.nav_types.specs.declared.straights.Way.{Way}
use Rattle.class_planes.specs.inner.Lines.{AreLines}
use Rattle.class_planes.specs.inner.StopLines.{map_lines, stops_along}
use Rattle.class_planes.proofs.line_sets.unstopped.Given as goal

-- the bands before band b are made
abbrev pub invariant-loop-b : goal.invariant-loop-b
invariant-loop-b l = record {
  words : l.set.words ≡ l.lines.words;
  lines : (map_lines l.set).bands ≡ take l.b l.lines.bands;
  stops : (way : Way) → AreLines (λ n i. false) l.b l.lines.words (stops_along way l.set);
}

use Rattle.std.proofs.Common.{ℕ, List, ◌≡◌, ◌/◌, ap, arith}
use Rattle.class_planes.specs.inner.Lines.{LineTable}
use Rattle.class_planes.specs.inner.StopLines.{MapTable, band_put, map_lines}
use Rattle.class_planes.proofs.SetLemmas.{open_long}
use Rattle.class_planes.proofs.stops.MapLines.line.Goals as goal

pub line_in-requires-clause-long : goal.line_in-requires-clause-long
line_in-requires-clause-long c =
    let others : LineTable = map_lines c.self.inside.others.now in
    let lines : LineTable = c.args.self.now.lines in
    let bits : List ℕ = c.self.inside.bits.now in
    let b : ℕ = c.self.inside.first / 32 in
    let is : band_put others b bits ≡ lines = ap (λ (t : MapTable). t.lines) c.self.view_is in
    let long = open_long others lines c.args.self.now.count b bits is c.requires.lines
    (omega (arith, c.if-n-self.true, c.requires.line)) in
    omega (arith, long, ap (λ (t : LineTable). t.words) is, c.words.ensures)

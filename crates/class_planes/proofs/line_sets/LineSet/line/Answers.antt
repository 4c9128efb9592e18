use Rattle.std.proofs.Common.{ℕ, List, ◌%◌, ◌/◌, length, ap, ap₂, ◌∙◌, arith}
use Rattle.class_planes.specs.inner.Lines.{LineTable, line_in}
use Rattle.class_planes.proofs.SetLemmas.{bits_long, map_line, raw_below}
use Rattle.class_planes.proofs.line_sets.LineSet.line.Goals as goal

pub band-requires : goal.band-requires
band-requires c = raw_below c.args.self.now 0 (c.args.n / 32) c.requires.band

pub line_in-requires-clause-long : goal.line_in-requires-clause-long
line_in-requires-clause-long c =
    let long = bits_long c.args.self.now (c.args.n / 32) c.requires.band c.requires.long in
    omega (arith, long, ap length c.band.ensures, ap (λ (t : LineTable). t.words) c.self.view_is)

pub returns : goal.returns
returns c =
    c.line_in.ensures
    ∙ ap₂ (λ (words : ℕ) (band : List ℕ). line_in words band (c.args.n % 32))
    (ap (λ (t : LineTable). t.words) c.self.view_is) c.band.ensures
    ∙ map_line c.args.self.now c.args.n (raw_below c.args.self.now 0 (c.args.n / 32) c.requires.band)

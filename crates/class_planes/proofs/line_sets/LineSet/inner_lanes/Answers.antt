use Rattle.std.proofs.Common.{ℕ, List, [], ◌≡◌, ◌+◌, ◌-◌, ◌/◌, ◌%◌, ◌<◌, length, get_or, ap, ap₂, ◌∙◌, arith}
use Rattle.class_planes.specs.inner.Lines.{LineTable, line_at, line_in}
use Rattle.class_planes.specs.inner.StopLines.{map_lines}
use Rattle.class_planes.proofs.SetLemmas.{bits_long, map_line, raw_below}
use Rattle.class_planes.proofs.line_sets.LineSet.inner_lanes.Goals as goal

-- a line that is known by its place in its band
line_there : (table : LineTable) (n b k : ℕ) → b ≡ n / 32 → k ≡ n % 32 → b < length table.bands
    → line_in table.words (get_or table.bands b []) k ≡ line_at (map_lines table) n
line_there table n b k band place below =
    ap₂ (λ (q m : ℕ). line_in table.words (get_or table.bands q []) m) band place
    ∙ map_line table n (omega (arith, band, below))

pub band-requires : goal.band-requires
band-requires c = raw_below c.args.self.now 0 (c.args.n / 32) c.requires.band

pub lanes_in-requires-clause-long : goal.lanes_in-requires-clause-long
lanes_in-requires-clause-long c =
    let long = bits_long c.args.self.now (c.args.n / 32) c.requires.band c.requires.long in
    omega (arith, long, ap length c.band.ensures, ap (λ (t : LineTable). t.words) c.self.view_is)

pub returns-clause-mid : goal.returns-clause-mid
returns-clause-mid c =
    let n : ℕ = c.args.n in
    let below = raw_below c.args.self.now 0 (n / 32) c.requires.band in
    c.lanes_in.ensures.mid
    ∙ ap (λ (m : ℕ). line_in c.self.inside.words c.band.result.now m) c.from.ensures
    ∙ ap₂ (λ (words : ℕ) (band : List ℕ). line_in words band (n % 32)) (ap (λ (t : LineTable). t.words) c.self.view_is)
    c.band.ensures
    ∙ line_there c.args.self.now n (n / 32) (n % 32) (omega arith) (omega arith) below

pub returns-clause-left : goal.returns-clause-left
returns-clause-left c =
    let n : ℕ = c.args.n in
    let below = raw_below c.args.self.now 0 (n / 32) c.requires.band in
    c.lanes_in.ensures.left
    ∙ ap (λ (m : ℕ). line_in c.self.inside.words c.band.result.now (m + 1)) c.from.ensures
    ∙ ap₂ (λ (words : ℕ) (band : List ℕ). line_in words band (n % 32 + 1))
    (ap (λ (t : LineTable). t.words) c.self.view_is) c.band.ensures
    ∙ line_there c.args.self.now (n + 1) (n / 32) (n % 32 + 1) (omega (arith, c.requires.high))
    (omega (arith, c.requires.high)) below

pub returns-clause-right : goal.returns-clause-right
returns-clause-right c =
    let n : ℕ = c.args.n in
    let below = raw_below c.args.self.now 0 (n / 32) c.requires.band in
    c.lanes_in.ensures.right
    ∙ ap (λ (m : ℕ). line_in c.self.inside.words c.band.result.now (m - 1)) c.from.ensures
    ∙ ap₂ (λ (words : ℕ) (band : List ℕ). line_in words band (n % 32 - 1))
    (ap (λ (t : LineTable). t.words) c.self.view_is) c.band.ensures
    ∙ line_there c.args.self.now (n - 1) (n / 32) (n % 32 - 1) (omega (arith, c.requires.low))
    (omega (arith, c.requires.low)) below

use Rattle.std.proofs.Common.{◌<◌, ◌-◌, length}
use Rattle.line_smooth.proofs.Followed.{LeadsTo}
use Rattle.line_smooth.proofs.smoothing.followed.Given as goal

abbrev pub invariant-rises : goal.invariant-rises
invariant-rises l = record { within : l.at < length l.places; leads : LeadsTo l.places l.rises l.at l.points }

abbrev pub decreases-rises : goal.decreases-rises
decreases-rises l = length l.places - l.at

use Rattle.std.proofs.Common.{◌≤◌, ◌-◌}
use Rattle.region_edges.proofs.MeetLemmas.{AreMeetings}
use Rattle.region_edges.proofs.borders.meetings.Given as goal

-- the pairs so far are those that meet at the places so far
abbrev pub invariant-loop-at : goal.invariant-loop-at
invariant-loop-at l = record {
  within : l.at ≤ l.length;
  meet : AreMeetings l.side l.here l.there l.at l.pairs.items;
}

abbrev pub decreases-loop-at : goal.decreases-loop-at
decreases-loop-at l = l.length - l.at

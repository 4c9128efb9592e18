use Rattle.std.proofs.Common.{◌≤◌, ◌+◌}
use Rattle.class_planes.proofs.StopWordLemmas.{IsRenewedUp}
use Rattle.class_planes.proofs.flag_words.renew_up.Given as goal

-- the words from w on are made anew
abbrev pub invariant-words : goal.invariant-words
invariant-words l = record {
  within : l.w ≤ l.fn.last + 1;
  renewed : IsRenewedUp l.lanes l.fn.first l.fn.last l.w l.fn.stops l.stops;
}

abbrev pub decreases-words : goal.decreases-words
decreases-words l = l.w

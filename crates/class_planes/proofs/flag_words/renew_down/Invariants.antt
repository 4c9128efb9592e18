use Rattle.class_planes.proofs.StopWordLemmas.{IsRenewedDown}
use Rattle.class_planes.proofs.flag_words.renew_down.Given as goal

-- the words before w are made anew
abbrev pub invariant-loop-w : goal.invariant-loop-w
invariant-loop-w l = IsRenewedDown l.lanes l.first l.fn.last l.w l.fn.stops l.stops

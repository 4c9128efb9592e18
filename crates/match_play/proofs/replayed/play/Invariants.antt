use Rattle.std.proofs.Common.{◌≡◌, length, take}
use Rattle.match_play.specs.Posted.{Kept}
use Rattle.match_play.specs.Replays.{IsLastTold}
use Rattle.match_play.proofs.replayed.play.Given as goal

abbrev pub invariant-loop-posts : goal.invariant-loop-posts
invariant-loop-posts l = record {
  game : l.game ≡ record { map = l.map; past = Kept (take (length l.yielded) l.fn.journal) };
  told : IsLastTold l.map (take (length l.yielded) l.fn.journal) l.told;
}

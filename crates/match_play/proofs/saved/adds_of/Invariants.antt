use Rattle.std.proofs.Common.{◌≡◌, ◌++◌}
use Rattle.std.specs.Prelude.{map}
use Rattle.match_play.specs.Saved.{add_of, adds_of}
use Rattle.match_play.proofs.saved.adds_of.Given as goal

-- the adds of the entries that are still to come stand behind those that there are
abbrev pub invariant-loop-id : goal.invariant-loop-id
invariant-loop-id l = l.adds ++ map add_of l.id-iterator ≡ adds_of l.version.standing

use Rattle.std.proofs.Common.{sym}
use Rattle.turn_core.specs.Words.{bare}
use Rattle.turn_core.specs.Turns.{standing}
use Rattle.match_play.specs.Saved.{saved}
use Rattle.match_laws.proofs.GoingOn.{goes_on}
use Rattle.match_play.proofs.WhatStands.{saved_stands}
use Rattle.match_laws.proofs.matches.saved_matches_go_on.Goals as goal

pub returns : goal.returns
returns c m journal more all again some x y =
    goes_on m journal (saved m (standing m bare journal)) more all again (sym (saved_stands m journal some)) x y

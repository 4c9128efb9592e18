use Rattle.match_play.proofs.WhatStands.{saved_stands}
use Rattle.match_laws.proofs.matches.saved_standing.Goals as goal

pub returns : goal.returns
returns c = saved_stands

use Rattle.std.proofs.Common.{sym}
use Rattle.turn_core.specs.Words.{bare}
use Rattle.turn_core.specs.Turns.{standing}
use Rattle.match_play.specs.Saved.{saved}
use Rattle.match_laws.proofs.TextsGoOn.{texts_go_on}
use Rattle.match_play.proofs.WhatStands.{saved_stands}
use Rattle.match_laws.proofs.texts.saved_texts_go_on.Goals as goal

pub returns : goal.returns
returns c report m journal more one two some first second =
    texts_go_on report m journal (saved m (standing m bare journal)) more one two (sym (saved_stands m journal some)) first second

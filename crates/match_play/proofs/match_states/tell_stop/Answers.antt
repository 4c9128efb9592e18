use Rattle.std.proofs.Common.{List, ℕ, sym, subst}
use Rattle.match_play.specs.Playing.{Plays}
use Rattle.match_play.proofs.Playing.{plays_none, plays_end}
use Rattle.match_play.proofs.Stopping.{stop_holds}
use Rattle.match_play.proofs.match_states.tell_stop.Goals as goal

pub returns-in-Nothing-clause-plays : goal.returns-in-Nothing-clause-plays
returns-in-Nothing-clause-plays c = λ left. plays_none c.args.match_state.now left

pub returns-in-Ok-clause-plays : goal.returns-in-Ok-clause-plays
returns-in-Ok-clause-plays c = λ left. plays_end c.args.match_state.now c.in-Stop.stop c.append_stop.new.text left c.in-Stop.is c.in-Ok.ensures.ok

pub returns-in-Err-clause-plays : goal.returns-in-Err-clause-plays
returns-in-Err-clause-plays c = λ left.
    let a = c.args.match_state.now in
    subst (λ (waits : List ℕ). Plays a (record a { waiting = waits }) left left) (sym c.in-Err.ensures.err) (plays_none a left)

pub returns-in-Ok-clause-fit : goal.returns-in-Ok-clause-fit
returns-in-Ok-clause-fit c = stop_holds c.args.match_state.now c.in-Stop.stop c.in-Stop.is c.requires.fit

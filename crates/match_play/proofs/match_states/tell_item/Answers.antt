use Rattle.std.proofs.Common.{◌≡◌, sym, subst, ap, ◌∙◌}
use Rattle.match_play.specs.declared.states.NextItem.{NextItem}
use Rattle.match_play.specs.declared.states.NextItem.TheVariants as next_item
use Rattle.match_play.specs.declared.states.MatchState.{MatchState}
use Rattle.match_play.specs.declared.states.MatchProgress.{MatchProgress}
use Rattle.match_play.specs.Playing.{Plays}
use Rattle.match_play.specs.inner.Fitting.{FitsAhead}
use Rattle.match_play.proofs.Playing.{plays_none, plays_told}
use Rattle.match_play.proofs.match_states.tell_item.Goals as goal

pub returns-in-Ok-clause-plays : goal.returns-in-Ok-clause-plays
returns-in-Ok-clause-plays g c = λ left.
    let a = c.args.match_state.now in
    let next = c.play_item.new.progress in
    let waits = c.play_item.new.waiting in
    let at : a.next_item ≡ next_item.Item c.in-Item.item = sym c.replace.ensures.value ∙ c.in-Item.is in
    subst (λ (n : NextItem). Plays a (record a { next_item = n; progress = next; waiting = waits }) left left) (sym c.replace.ensures.after)
    (plays_told a c.in-Item.item next waits left at c.in-Ok.ensures.told)

pub returns-in-Err-clause-plays : goal.returns-in-Err-clause-plays
returns-in-Err-clause-plays g c = λ left.
    let a = c.args.match_state.now in
    let at : a.next_item ≡ next_item.Item c.in-Item.item = sym c.replace.ensures.value ∙ c.in-Item.is in
    subst (λ (b : MatchState). Plays a b left left) (λ j. record a {
      next_item = (at ∙ ap next_item.Item (sym c.in-Err.ensures.item)) j;
      progress = sym c.in-Err.ensures.kept j;
      waiting = sym c.in-Err.ensures.waiting j;
    }) (plays_none a left)

pub returns-in-Lines-clause-plays : goal.returns-in-Lines-clause-plays
returns-in-Lines-clause-plays g c = λ left.
    let a = c.args.match_state.now in
    let at : a.next_item ≡ next_item.Lines = sym c.replace.ensures.value ∙ c.in-Lines.is in
    subst (λ (n : NextItem). Plays a (record a { next_item = n }) left left) (at ∙ sym c.replace.ensures.after) (plays_none a left)

pub returns-in-Ok-clause-fit : goal.returns-in-Ok-clause-fit
returns-in-Ok-clause-fit g c =
    let a = c.args.match_state.now in
    let next = c.play_item.new.progress in
    let at : a.next_item ≡ next_item.Item c.in-Item.item = sym c.replace.ensures.value ∙ c.in-Item.is in
    let fits : FitsAhead a.ended a.progress a.script (next_item.Item c.in-Item.item) = subst (FitsAhead a.ended a.progress a.script) at c.requires.fit in
    subst (FitsAhead a.ended next a.script) (sym c.replace.ensures.after) (fits.1 next c.in-Ok.ensures.progress)

pub returns-in-Err-clause-fit : goal.returns-in-Err-clause-fit
returns-in-Err-clause-fit g c =
    let a = c.args.match_state.now in
    let at : a.next_item ≡ next_item.Item c.in-Item.item = sym c.replace.ensures.value ∙ c.in-Item.is in
    let back : a.next_item ≡ next_item.Item c.in-Err.item = at ∙ ap next_item.Item (sym c.in-Err.ensures.item) in
    subst (λ (progress : MatchProgress). FitsAhead a.ended progress a.script (next_item.Item c.in-Err.item)) (sym c.in-Err.ensures.kept)
    (subst (FitsAhead a.ended a.progress a.script) back c.requires.fit)

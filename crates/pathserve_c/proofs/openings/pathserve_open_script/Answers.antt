use Rattle.std.proofs.Common.{Option, refl, sym, subst, ◌∙◌}
use Rattle.match_play.specs.declared.faults.MatchFault.TheVariants.{NoMemory}
use Rattle.pathserve_c.specs.declared.openings.OpenFault.TheVariants.{Script}
use Rattle.pathserve_c.specs.declared.states.State.{State}
use Rattle.pathserve_c.specs.Handles.{state_of}
use Rattle.pathserve_c.specs.Saves.{IsMadeBy, IsOpenedBy}
use Rattle.pathserve_c.proofs.openings.pathserve_open_script.Goals as goal

pub returns-in-Err-clause-opened : goal.returns-in-Err-clause-opened
returns-in-Err-clause-opened c =
    let closed = c.requires.handle.0 c.if-game-ne0.false in
    subst (λ (it : Option State). IsOpenedBy c.args.script.now it it c.args.bad_line.now c.line_told.result c.status_of_opening.result) (sym closed)
    (c.in-Err.fault, (c.status_of_opening.ensures, (c.line_told.ensures, c.in-Err.ensures)))

pub returns-in-Ok-open-clause-opened : goal.returns-in-Ok-open-clause-opened
returns-in-Ok-open-clause-opened c =
    let script = c.args.script.now in
    let line = c.args.bad_line.now in
    let closed = c.requires.handle.0 c.if-game-ne0.false in
    subst (λ (old : Option State). IsOpenedBy script old (state_of c.open.new.self) line line 0) (sym closed)
    (subst (λ (made : Option State). IsMadeBy script made line line 0) (sym c.in-Ok-open.ensures.opened) (refl, (refl, c.in-Ok.ensures)))

pub returns-in-Err-open-clause-opened : goal.returns-in-Err-open-clause-opened
returns-in-Err-open-clause-opened c =
    let script = c.args.script.now in
    let line = c.args.bad_line.now in
    let closed = c.requires.handle.0 c.if-game-ne0.false in
    subst (λ (old : Option State). IsOpenedBy script old (state_of c.open.new.self) line line 6) (sym closed)
    (subst (λ (made : Option State). IsMadeBy script made line line 6) (sym (c.in-Err-open.ensures.same ∙ closed)) (Script NoMemory, (refl, (refl, tt))))

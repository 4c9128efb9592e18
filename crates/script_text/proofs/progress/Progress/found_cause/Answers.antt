use Rattle.std.proofs.Common.{◌≡◌, ◌+◌, Bool, cond, IfOk, subst, sym}
use Rattle.std.proofs.lemmas.Bool.{ne_eqb}
use Rattle.script_text.specs.Script.{Place}
use Rattle.script_text.specs.Causes.{cause, end_cause}
use Rattle.script_text.proofs.progress.Progress.found_cause.Goals as goal

pub returns : goal.returns
returns c =
    let p : Place = c.args.self.now in
    let Says : Place → Type 0 = λ q. IfOk c.cause_of.result (λ found. found ≡ cause q.part (q.turns + 1) c.args.line.now) in
    let said : Says p = subst Says c.self.view_is c.cause_of.ensures in
    let By : Bool → Type 0 = λ none. IfOk c.cause_of.result (λ found. found ≡ cond none (end_cause p.part p.posts) (cause p.part (p.turns + 1) c.args.line.now)) in
    subst By (sym (ne_eqb c.args.held 0 c.if-held-eq0.false)) said

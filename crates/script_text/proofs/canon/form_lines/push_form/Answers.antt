use Rattle.std.proofs.Common.{List, subst}
use Rattle.script_text.specs.declared.causes.keys.Key.{Key}
use Rattle.script_text.specs.inner.LineValues.{AreLineValues}
use Rattle.script_text.proofs.FormTexts.{line-ended, members-ended}
use Rattle.script_text.proofs.canon.form_lines.push_form.Goals as goal

pub returns-clause-text : goal.returns-clause-text
returns-clause-text c =
    line-ended c.keys-keys.result.now c.args.values.now c.loop-place.place c.min-place-end.result c.loop-place.later c.loop-place.text c.push-2.new.self _
    c.loop-place-test.false c.min-place-end.ensures c.in_ok-push-2.ensures.ok c.loop-place.invariant.0

pub returns-clause-values : goal.returns-clause-values
returns-clause-values c =
    let Are : List Key → Type 0 = λ keys. AreLineValues keys c.args.values.now in
    subst Are c.keys-keys.ensures
    (c.loop-place.invariant.1
    (members-ended c.keys-keys.result.now c.args.values.now c.loop-place.place c.min-place-end.result c.loop-place-test.false c.min-place-end.ensures).1)

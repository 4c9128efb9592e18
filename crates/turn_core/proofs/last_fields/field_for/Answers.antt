use Rattle.std.proofs.Common.{Option, subst}
use Rattle.grid_versions.specs.inner.PassingLaws.{passes_within}
use Rattle.turn_core.specs.declared.last_fields.LastField.{LastField}
use Rattle.turn_core.specs.inner.Searching.{IsKeptOn}
use Rattle.turn_core.proofs.KeptFields.{kept_serves}
use Rattle.turn_core.proofs.last_fields.field_for.Goals as goal

pub area-area-requires-clause-inside : goal.area-area-requires-clause-inside
area-area-requires-clause-inside c = passes_within c.args.version.now c.args.class c.args.start c.requires.search.passes

pub returns-then-is_for-clause-serves : goal.returns-then-is_for-clause-serves
returns-then-is_for-clause-serves c =
    let state = c.args.version.now in
    let alike = c.is_for.ensures c.if-is_for.true in
    kept_serves state c.in-Some.last c.args.start c.args.target.now c.args.class c.area-area.result
    (subst (λ (kept : Option LastField). IsKeptOn state kept) c.in-Some.is c.requires.kept) c.requires.search c.area-area.ensures
    alike.0 alike.1.0 alike.1.1

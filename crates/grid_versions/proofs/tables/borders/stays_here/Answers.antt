use Rattle.std.proofs.lemmas.Bool.{not-true}
use Rattle.grid_versions.specs.inner.ChunkLists.{chunk_numbered}
use Rattle.grid_versions.specs.inner.Keeping.{IsLastOn}
use Rattle.grid_versions.specs.declared.dirty_parts.DirtyPart.{DirtyPart}
use Rattle.grid_versions.proofs.ChangeLemmas.{unmarked_agrees}
use Rattle.grid_versions.proofs.KeptLemmas.{kept_listed, same_agreeing, same_apart}
use Rattle.grid_versions.proofs.tables.borders.stays_here.Goals as goal

pub returns-then-not-is_marked : goal.returns-then-not-is_marked
returns-then-not-is_marked c = λ _ old now changes kept.
    let size = c.args.size in
    let place = c.args.border.place in
    same_agreeing old now (chunk_numbered size place) (IsLastOn c.args.border.side)
    (unmarked_agrees old now size c.args.changed.now.class c.args.changed.now.bits.now place c.is_marked.result changes
    c.is_marked.ensures c.if-not-is_marked.true)

pub returns-in-Some : goal.returns-in-Some
returns-in-Some c = λ stays old now changes kept.
    let size = c.args.size in
    let place = c.args.border.place in
    let part : DirtyPart = record { place = place; rect = c.in-Some.part } in
    let own = kept_listed old now size c.args.kept.now part kept c.in-Some.ensures in
    same_apart old now size part (IsLastOn c.args.border.side)
    (c.meets_last.ensures (not-true c.meets_last.result stays) size (chunk_numbered size place) own.inside) own

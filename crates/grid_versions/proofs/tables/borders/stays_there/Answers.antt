use Rattle.std.proofs.Common.{ℕ, ◌+◌, ap, length, arith}
use Rattle.std.proofs.lemmas.Bool.{not-true}
use Rattle.grid_versions.specs.inner.ChunkLists.{chunk_numbered, neighbour_on}
use Rattle.grid_versions.specs.inner.Keeping.{IsFirstOn}
use Rattle.grid_versions.specs.declared.dirty_parts.DirtyPart.{DirtyPart}
use Rattle.grid_versions.proofs.BuildLemmas.{chunks_few}
use Rattle.grid_versions.proofs.ChangeLemmas.{outside_agrees, beyond_outside, neighbour_agrees}
use Rattle.grid_versions.proofs.KeptLemmas.{kept_listed, neighbour_kept, same_agreeing}
use Rattle.grid_versions.proofs.tables.borders.stays_there.Goals as goal

pub overflow_add-next : goal.overflow_add-next
overflow_add-next c = omega (arith, chunks_few c.args.size, c.step_to.ensures.few)

pub returns-then-next-bits : goal.returns-then-next-bits
returns-then-next-bits c = λ _ old now changes kept.
    let size = c.args.size in
    let side = c.args.border.side in
    let place = c.args.border.place in
    let long = ap length c.bits.ensures in
    same_agreeing old now (neighbour_on side (chunk_numbered size place)) (IsFirstOn side)
    (outside_agrees old now size c.args.changed.now.class c.args.changed.now.bits.now _ changes
    (beyond_outside size side place (place + c.step_to.result) (c.step_to.ensures.value place) (omega arith)))

pub returns-then-not-is_marked : goal.returns-then-not-is_marked
returns-then-not-is_marked c = λ _ old now changes kept.
    let size = c.args.size in
    let side = c.args.border.side in
    let place = c.args.border.place in
    same_agreeing old now (neighbour_on side (chunk_numbered size place)) (IsFirstOn side)
    (neighbour_agrees old now size c.args.changed.now.class c.args.changed.now.bits.now side place (place + c.step_to.result)
    c.is_marked.result changes (c.step_to.ensures.value place) c.is_marked.ensures c.if-not-is_marked.true)

pub returns-in-Some : goal.returns-in-Some
returns-in-Some c = λ stays old now changes kept.
    let size = c.args.size in
    let side = c.args.border.side in
    let place = c.args.border.place in
    let next : ℕ = place + c.step_to.result in
    let part : DirtyPart = record { place = next; rect = c.in-Some.part } in
    let own = kept_listed old now size c.args.kept.now part kept c.in-Some.ensures in
    neighbour_kept old now size c.args.changed.now.class c.args.changed.now.bits.now side place next c.in-Some.part changes
    (c.step_to.ensures.value place)
    (c.meets_first.ensures (not-true c.meets_first.result stays) size (chunk_numbered size next) own.inside) own

use Rattle.std.proofs.Common.{◌+◌, inl, inr, refl, arith}
use Rattle.std.proofs.lemmas.Bool.{cases_lt}
use Rattle.grid_versions.specs.Chunks.{chunk_count}
use Rattle.grid_versions.proofs.BuildLemmas.{chunks_few}
use Rattle.grid_versions.proofs.ChangeLemmas.{unmarked_agrees, outside_agrees, beyond_outside, neighbour_agrees}
use Rattle.grid_versions.proofs.tables.borders.next_touched.Goals as goal

pub overflow_add-border : goal.overflow_add-border
overflow_add-border c = omega (arith, chunks_few c.args.size, c.step_to-step.ensures.few, c.requires.within)

pub overflow_sub-beside : goal.overflow_sub-beside
overflow_sub-beside c = omega (arith, c.next_marked.ensures.from)

pub returns-clause-none : goal.returns-clause-none
returns-clause-none c place from below within old now changes =
    let size = c.args.size in
    let side = c.args.border.side in
    let class = c.args.changed.now.class in
    let bits = c.args.changed.now.bits.now in
    let each = c.requires.each in
    let step = c.step_to-step.result in
    let there = c.step_to-step.ensures.value place in (
      unmarked_agrees old now size class bits place _ changes
          (c.next_marked-own.ensures.none place from (omega arith) (omega arith)) refl,
      elim (cases_lt (place + step) (chunk_count size)) [
        | inl beside ↦
            neighbour_agrees old now size class bits side place (place + step) _ changes there
            (c.next_marked.ensures.none (place + step) (omega arith) (omega arith) (omega arith)) refl
        | inr past ↦ outside_agrees old now size class bits _ changes (beyond_outside size side place (place + step) there past)
      ],
    )

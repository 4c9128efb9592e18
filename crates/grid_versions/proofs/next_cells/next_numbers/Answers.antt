use Rattle.std.proofs.Common.{◌∙◌}
use Rattle.std.proofs.lemmas.Bool.{or_right}
use Rattle.nav_types.specs.Numbering.{number_of}
use Rattle.lane_rows.specs.Rows.{has_class}
use Rattle.grid_versions.specs.Passing.{is_blocked}
use Rattle.grid_versions.proofs.ReacherLemmas.{all_unpainted, changed_unpainted, covered_now, has_blocked}
use Rattle.grid_versions.proofs.next_cells.next_numbers.Goals as goal

pub repainted-requires-clause-near : goal.repainted-requires-clause-near
repainted-requires-clause-near c =
    all_unpainted c.args.site.now.map.now c.args.site.now.shapes.now c.args.part (number_of c.args.whole.now.base.now)
    c.args.whole.now.near.now c.requires.near

pub repainted-requires-2-clause-near : goal.repainted-requires-2-clause-near
repainted-requires-2-clause-near c =
    let before = c.requires.before in
    changed_unpainted c.args.site.now.map.now before.earlier c.args.site.now.shapes.now c.args.part
    (number_of c.args.old.now) before.bits c.args.before.now.ids.now before.named

pub repainted_below-requires-clause-most : goal.repainted_below-requires-clause-most
repainted_below-requires-clause-most c =
    let before = c.requires.before in
    has_blocked c.args.site.now.map.now before.earlier c.args.site.now.shapes.now c.args.part (number_of c.args.old.now)
    before.bits (before.only_removes c.if-before.true)

pub repainted_below-requires-clause-near : goal.repainted_below-requires-clause-near
repainted_below-requires-clause-near c =
    all_unpainted c.args.site.now.map.now c.args.site.now.shapes.now c.args.part (number_of c.args.whole.now.base.now)
    c.args.whole.now.near.now c.requires.near

pub repainted_below-requires-2-clause-near : goal.repainted_below-requires-2-clause-near
repainted_below-requires-2-clause-near c =
    all_unpainted c.args.site.now.map.now c.args.site.now.shapes.now c.args.part (number_of c.args.whole.now.base.now)
    c.args.whole.now.near.now c.requires.near

pub repainted_below-requires-2-clause-most : goal.repainted_below-requires-2-clause-most
repainted_below-requires-2-clause-most c = λ k cell inside blocked.
    c.in_ok-most.ensures.bits k cell inside
    ∙ or_right (has_class k (number_of c.args.old.now cell))
    (is_blocked c.args.site.now.map.now c.args.site.now.shapes.now k cell) blocked

pub returns-then-before-2-clause-bits : goal.returns-then-before-2-clause-bits
returns-then-before-2-clause-bits c = λ k cell inside.
    let before = c.requires.before in
    c.in_ok-most.ensures.bits k cell inside
    ∙ covered_now c.args.site.now.map.now before.earlier c.args.site.now.shapes.now c.args.part (number_of c.args.old.now)
    before.bits (before.only_adds c.if-before-2.true) k cell inside

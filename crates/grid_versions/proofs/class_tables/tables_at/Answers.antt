use Rattle.std.proofs.Common.{ℕ, List, ◌∙◌, ap, sym}
use Rattle.std.specs.Prelude.{slice_get}
use Rattle.std.specs.List.{count_by}
use Rattle.std.specs.Arc.{arc_value}
use Rattle.std.proofs.lemmas.Result.{IfOk-weaker}
use Rattle.lane_rows.specs.Rows.{has_class}
use Rattle.class_planes.specs.Planes.{is_passable}
use Rattle.grid_versions.proofs.ChangeLemmas.{tables_stay}
use Rattle.grid_versions.proofs.class_tables.tables_at.Goals as goal

pub returns-then-count_bit-eq0-clause-tables : goal.returns-then-count_bit-eq0-clause-tables
returns-then-count_bit-eq0-clause-tables g c =
    let class = c.args.changed.now.class in
    let bits = c.args.changed.now.bits.now in
    let place = c.from-place.ensures ∙ c.number-class.ensures.value in
    let none = ap (λ (k : ℕ). count_by (has_class k) bits) (sym c.number-class.ensures.value)
    ∙ ap (λ (all : List ℕ). count_by (has_class c.number-class.result) all) (sym c.bits.ensures) ∙ sym c.count_bit.ensures ∙ c.if-count_bit-eq0.true in
    IfOk-weaker c.shared.result _ _
    (λ tables at. tables_stay (is_passable c.args.changed.now.before.now) (is_passable c.args.plane.now) c.args.plane.now.size class bits (arc_value tables) c.requires.before.1 none
    (c.requires.before.0 (arc_value tables) (ap (λ (i : ℕ). slice_get c.args.before.now i) (sym place) ∙ at)))
    c.shared.ensures

pub updated-requires : goal.updated-requires
updated-requires g c =
    let place = c.from-place.ensures ∙ c.number-class.ensures.value in
    let were = c.requires.before.0 c.at.result.now (ap (λ (i : ℕ). slice_get c.args.before.now i) (sym place) ∙ c.at.ensures) in
    record { size = c.requires.size; dirty = c.requires.dirty; before = (were, c.requires.before.1) }

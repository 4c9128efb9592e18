use Rattle.std.proofs.Common.{ℕ, List, Bool, ◌∙◌, ◌≡◌, ◌+◌, ◌≤◌, length, ap, sym, subst, arith}
use Rattle.std.specs.List.{count_by, sum_by, range_with_len}
use Rattle.std.specs.Arc.{arc_value}
use Rattle.nav_types.specs.declared.cells.Cell.{Cell}
use Rattle.nav_types.specs.declared.cells.Size.{Size}
use Rattle.lane_rows.specs.Rows.{has_class}
use Rattle.class_planes.specs.Planes.{is_passable}
use Rattle.class_planes.proofs.PlaneLemmas.{are_of, each_there}
use Rattle.grid_versions.specs.Passing.{passable_at}
use Rattle.grid_versions.specs.inner.Changing.{AreChanges, CoverPassable}
use Rattle.grid_versions.specs.inner.Tables.{Tables, AreTables}
use Rattle.grid_versions.specs.inner.Tallying.{AreTablesOf}
use Rattle.grid_versions.proofs.VersionLemmas.{AreTablesOf-push, of_plane, to_plane, sum_range_more, sum_range_most}
use Rattle.grid_versions.proofs.class_tables.next_tables.Goals as goal

-- one class more
ticked_more : (bits : List ℕ) (class number old new start : ℕ) → class ≡ number → new ≤ old + count_by (has_class class) bits
    → old ≤ start + sum_by (λ k. count_by (has_class k) bits) (range_with_len 0 number)
    → new ≤ start + sum_by (λ k. count_by (has_class k) bits) (range_with_len 0 (number + 1))
ticked_more bits class number old new start same step so_far =
    let f : ℕ → ℕ = λ k. count_by (has_class k) bits in
    omega (arith, sum_range_more f number, ap f same)

pub plane_of-plane-requires : goal.plane_of-plane-requires
plane_of-plane-requires g c =
    let map = c.args.site.now.map.now in
    let each = c.requires.before.1.0.each in
    let few = c.requires.few in
    each_there map.size (passable_at map c.args.site.now.shapes.now) (length map.classes) c.args.planes.now c.requires.planes
    (omega arith) c.new-class.result (omega (arith, c.new-class.ensures))

pub plane_of-earlier-requires : goal.plane_of-earlier-requires
plane_of-earlier-requires g c =
    let map = c.args.site.now.map.now in
    let each = c.requires.before.1.0.each in
    let few = c.requires.few in
    each_there map.size c.requires.before.0 (length map.classes) c.args.before.now.planes.now c.requires.before.1.1.1.0
    (omega arith) c.new-class.result (omega (arith, c.new-class.ensures))

pub tables_at-requires-clause-size : goal.tables_at-requires-clause-size
tables_at-requires-clause-size g c =
    let map = c.args.site.now.map.now in
    let class = c.new-class.result in
    let is = are_of map.size (passable_at map c.args.site.now.shapes.now) 65535 (length map.classes) c.args.planes.now c.requires.planes class
    c.plane_of-plane.result.now c.plane_of-plane.ensures in
    let was = are_of map.size c.requires.before.0 65535 (length map.classes) c.args.before.now.planes.now c.requires.before.1.1.1.0 class
    c.plane_of-earlier.result.now c.plane_of-earlier.ensures in
    was.extent ∙ sym is.extent

pub tables_at-requires-clause-before : goal.tables_at-requires-clause-before
tables_at-requires-clause-before g c =
    let map = c.args.site.now.map.now in
    let passes = passable_at map c.args.site.now.shapes.now in
    let class = c.new-class.result in
    let plane = c.plane_of-plane.result.now in
    let earlier = c.plane_of-earlier.result.now in
    let each = c.requires.before.1.0.each in
    let old = c.requires.before.0 class in
    let bits = c.args.changed.now in
    let is = are_of map.size passes 65535 (length map.classes) c.args.planes.now c.requires.planes class plane c.plane_of-plane.ensures in
    let was = are_of map.size c.requires.before.0 65535 (length map.classes) c.args.before.now.planes.now c.requires.before.1.1.1.0 class earlier
    c.plane_of-earlier.ensures in (
      λ tables at. subst (λ (p : Cell → Bool). AreTables p plane.size tables) (sym was.cells)
          (subst (λ (s : Size). AreTables old s tables) (sym is.extent) (c.requires.before.1.0.are class tables at)),
      subst (λ (p : Cell → Bool). AreChanges p (is_passable plane) plane.size class bits) (sym was.cells)
          (to_plane (λ p s. AreChanges old p s class bits) map.size (passes class) plane is
          (c.requires.before.1.1.0 class (omega (arith, c.new-class.ensures)))),
    )

pub tables_at-requires-clause-dirty : goal.tables_at-requires-clause-dirty
tables_at-requires-clause-dirty g c =
    let map = c.args.site.now.map.now in
    let passes = passable_at map c.args.site.now.shapes.now in
    let class = c.new-class.result in
    let plane = c.plane_of-plane.result.now in
    let earlier = c.plane_of-earlier.result.now in
    let each = c.requires.before.1.0.each in
    let old = c.requires.before.0 class in
    let reached = c.args.before.now.dirty.now in
    let is = are_of map.size passes 65535 (length map.classes) c.args.planes.now c.requires.planes class plane c.plane_of-plane.ensures in
    let was = are_of map.size c.requires.before.0 65535 (length map.classes) c.args.before.now.planes.now c.requires.before.1.1.1.0 class earlier
    c.plane_of-earlier.ensures in
    subst (λ (p : Cell → Bool). CoverPassable p (is_passable plane) plane.size reached) (sym was.cells)
    (to_plane (λ p s. CoverPassable old p s reached) map.size (passes class) plane is
    (c.requires.before.1.1.1.1 class (omega (arith, c.new-class.ensures))))

pub returns-in_err-tables-clause-most : goal.returns-in_err-tables-clause-most
returns-in_err-tables-clause-most g c =
    let bits = c.args.changed.now in
    let number = c.loop-number.number in
    let each = c.requires.before.1.0.each in
    let f : ℕ → ℕ = λ k. count_by (has_class k) bits in
    let now = ticked_more bits c.new-class.result number c.loop-number.ticks c.tables_at.new.ticks c.args.ticks.now c.new-class.ensures c.tables_at.ensures.most c.loop-number.invariant.ticked in
    omega (arith, now, sum_range_most f (number + 1) (length c.args.site.now.map.now.classes) (omega arith))

pub returns-in_err-push_shared-clause-most : goal.returns-in_err-push_shared-clause-most
returns-in_err-push_shared-clause-most g c =
    let bits = c.args.changed.now in
    let number = c.loop-number.number in
    let each = c.requires.before.1.0.each in
    let f : ℕ → ℕ = λ k. count_by (has_class k) bits in
    let now = ticked_more bits c.new-class.result number c.loop-number.ticks c.tables_at.new.ticks c.args.ticks.now c.new-class.ensures c.tables_at.ensures.most c.loop-number.invariant.ticked in
    omega (arith, now, sum_range_most f (number + 1) (length c.args.site.now.map.now.classes) (omega arith))

pub loop-number-preserved : goal.loop-number-preserved
loop-number-preserved g c =
    let map = c.args.site.now.map.now in
    let passes = passable_at map c.args.site.now.shapes.now in
    let bits = c.args.changed.now in
    let number = c.loop-number.number in
    let class = c.new-class.result in
    let plane = c.plane_of-plane.result.now in
    let tables = arc_value c.in_ok-tables.tables in
    let is = are_of map.size passes 65535 (length map.classes) c.args.planes.now c.requires.planes class plane c.plane_of-plane.ensures in
    let made : AreTables (passes class) map.size tables =
    of_plane (λ p s. AreTables p s tables) map.size (passes class) plane is c.in_ok-tables.ensures.tables in
    let own : AreTables (passes number) map.size tables =
    subst (λ (k : ℕ). AreTables (passes k) map.size tables) c.new-class.ensures made in
    record {
      tables = subst (λ (all : List Tables). AreTablesOf (number + 1) passes map.size all) (sym c.in_ok-push_shared.ensures.ok)
          (AreTablesOf-push number passes map.size c.loop-number.all tables c.loop-number.invariant.tables own);
      ticked = ticked_more bits class number c.loop-number.ticks c.tables_at.new.ticks c.args.ticks.now c.new-class.ensures
          c.tables_at.ensures.most c.loop-number.invariant.ticked;
    }

pub returns-clause-tables : goal.returns-clause-tables
returns-clause-tables g c =
    let map = c.args.site.now.map.now in
    let each = c.requires.before.1.0.each in
    let done : c.loop-number.number ≡ length map.classes = omega arith in
    subst (λ (n : ℕ). AreTablesOf n (passable_at map c.args.site.now.shapes.now) map.size c.loop-number.all) done
    c.loop-number.invariant.tables

pub returns-clause-most : goal.returns-clause-most
returns-clause-most g c =
    let f : ℕ → ℕ = λ k. count_by (has_class k) c.args.changed.now in
    let each = c.requires.before.1.0.each in
    omega (arith, c.loop-number.invariant.ticked, sum_range_most f c.loop-number.number (length c.args.site.now.map.now.classes) (omega arith))

use Rattle.std.proofs.Common.{ℕ, List, ◌≡◌, ◌+◌, ◌*◌, ◌≤◌, ◌∙◌, length, ap, sym, subst, mul-le-mul_right, arith}
use Rattle.nav_types.specs.declared.cells.Size.{Size}
use Rattle.class_planes.proofs.PlaneLemmas.{are_of, each_there}
use Rattle.grid_versions.specs.Chunks.{chunk_count}
use Rattle.grid_versions.specs.Passing.{passable_at}
use Rattle.grid_versions.specs.inner.Tables.{Tables, AreTables}
use Rattle.grid_versions.specs.inner.Tallying.{AreTablesOf}
use Rattle.grid_versions.proofs.VersionLemmas.{AreTablesOf-push, of_plane}
use Rattle.grid_versions.proofs.class_tables.class_tables.Goals as goal

pub plane_of-plane-requires : goal.plane_of-plane-requires
plane_of-plane-requires g c =
    let map = c.args.site.now.map.now in
    let many : c.count-count.result ≡ length map.classes = c.count-count.ensures.count ∙ ap length c.classes.ensures in
    let few = c.count-count.ensures.few.1 in
    each_there map.size (passable_at map c.args.site.now.shapes.now) (length map.classes) c.args.planes.now c.requires
    (omega arith) c.new.result (omega (arith, c.new.ensures))

pub returns-in_err-push-clause-most : goal.returns-in_err-push-clause-most
returns-in_err-push-clause-most g c =
    let map = c.args.site.now.map.now in
    let many : c.count-count.result ≡ length map.classes = c.count-count.ensures.count ∙ ap length c.classes.ensures in
    let number : ℕ = c.loop-number.number in
    let is = are_of map.size (passable_at map c.args.site.now.shapes.now) 65535 (length map.classes) c.args.planes.now c.requires
    c.new.result c.plane_of-plane.result.now c.plane_of-plane.ensures in
    let each = ap (λ (s : Size). chunk_count s) is.extent in
    let less : number + 1 ≤ length map.classes = omega arith in
    let most : (number + 1) * chunk_count map.size ≤ length map.classes * chunk_count map.size =
    mul-le-mul_right (chunk_count map.size) less in
    omega (arith, c.in_ok-tables.ensures.ticks, c.loop-number.invariant.ticks, each, most)

pub loop-number-preserved : goal.loop-number-preserved
loop-number-preserved g c =
    let map = c.args.site.now.map.now in
    let passes = passable_at map c.args.site.now.shapes.now in
    let number = c.loop-number.number in
    let class = c.new.result in
    let plane = c.plane_of-plane.result.now in
    let tables = c.in_ok-tables.tables in
    let is = are_of map.size passes 65535 (length map.classes) c.args.planes.now c.requires class plane c.plane_of-plane.ensures in
    let made : AreTables (passes class) map.size tables =
    of_plane (λ p s. AreTables p s tables) map.size (passes class) plane is c.in_ok-tables.ensures.tables in
    let own : AreTables (passes number) map.size tables = subst (λ (k : ℕ). AreTables (passes k) map.size tables) c.new.ensures made in
    let ticks = c.in_ok-tables.ensures.ticks in
    let before = c.loop-number.invariant.ticks in
    let each = ap (λ (s : Size). chunk_count s) is.extent in
    record {
      tables = subst (λ (all : List Tables). AreTablesOf (number + 1) passes map.size all) (sym c.in_ok-push.ensures.ok)
          (AreTablesOf-push number passes map.size c.loop-number.all tables c.loop-number.invariant.tables own);
      ticks = omega (arith, ticks, before, each);
    }

pub returns-clause-few : goal.returns-clause-few
returns-clause-few g c =
    let few = c.count-count.ensures.few.1 in
    let each = c.loop-number.invariant.tables.each in
    omega arith

pub returns-clause-tables : goal.returns-clause-tables
returns-clause-tables g c =
    let map = c.args.site.now.map.now in
    let many : c.count-count.result ≡ length map.classes = c.count-count.ensures.count ∙ ap length c.classes.ensures in
    let done : c.loop-number.number ≡ length map.classes = omega arith in
    subst (λ (n : ℕ). AreTablesOf n (passable_at map c.args.site.now.shapes.now) map.size c.loop-number.all) done
    c.loop-number.invariant.tables

use Rattle.std.proofs.Common.{◌≡◌, ℕ, List, Option, sym, subst}
use Rattle.std.specs.Option.{IsSome}
use Rattle.nav_types.specs.declared.directions.Dir.{Dir}
use Rattle.nav_types.specs.Cells.{IsInside}
use Rattle.flow_field.specs.Flows.{FieldCells, IsFar, IsFieldOf, far_in}
use Rattle.flow_field.specs.inner.Marks.{spot_of, cells_of}
use Rattle.flow_field.specs.inner.Ways.{IsReached}
use Rattle.flow_field.proofs.Spots.{IsCellSpot-of}
use Rattle.flow_field.proofs.Reading.{known_of_far}
use Rattle.flow_field.proofs.Following.{IsFollowedTo, followed_none, followed_more, followed_all, nearer_less, follows_arrives}
use Rattle.flow_field.proofs.fields.Field.follow.Goals as goal

pub steps-init : goal.steps-init
steps-init c =
    let table = c.self.inside.table in
    let marks = table.marks.items in
    let cell = c.args.cell in
    let inside : IsInside table.size cell = subst (λ (f : FieldCells). IsInside f.size cell) (sym c.self.view_is) c.requires.inside in
    let is : c.spot-at.result ≡ spot_of table.size cell = c.spot-at.ensures.value in
    let some = subst (λ (f : FieldCells). IsSome (far_in f cell)) (sym c.self.view_is) c.requires.far in
    let known : IsReached marks c.spot-at.result = subst (λ (k : ℕ). IsReached marks k) (sym is) (known_of_far table.size marks cell inside some) in
    subst (λ (walk : List Dir). IsFollowedTo table.size marks cell walk c.spot-at.result) (sym c.new-walk.ensures) (followed_none table.size marks cell c.spot-at.result inside is known)

pub beside-at-requires : goal.beside-at-requires
beside-at-requires c =
    let so_far = c.steps.invariant in
    IsCellSpot-of c.self.inside.table.size so_far.here c.steps.at so_far.inside so_far.is

pub steps-preserved : goal.steps-preserved
steps-preserved c =
    let table = c.self.inside.table in
    let marks = table.marks.items in
    subst (λ (walk : List Dir). IsFollowedTo table.size marks c.args.cell walk c.beside-at.result) (sym c.in_ok-push.ensures.ok)
    (followed_more table.size marks c.args.cell c.steps.walk c.steps.at c.beside-at.result c.in-Some.dir table.sound c.steps.invariant c.in-Some.ensures.some c.beside-at.ensures.value)

pub steps-smaller : goal.steps-smaller
steps-smaller c =
    let table = c.self.inside.table in
    nearer_less table.size table.marks.items c.steps.at c.beside-at.result c.in-Some.dir c.in-Some.ensures.some c.beside-at.ensures.value

pub returns-clause-steps : goal.returns-clause-steps
returns-clause-steps c = λ passes hit start field.
    let table = c.self.inside.table in
    let own : IsFieldOf passes hit start (cells_of table.size table.marks.items) = subst (λ (f : FieldCells). IsFieldOf passes hit start f) (sym c.self.view_is) field in
    followed_all passes hit start table.size table.marks.items c.args.cell c.steps.walk c.steps.at table.sound own c.steps.invariant c.in_default.ensures.none

pub returns-clause-arrives : goal.returns-clause-arrives
returns-clause-arrives c = λ passes hit start cost field is.
    let table = c.self.inside.table in
    let own : IsFieldOf passes hit start (cells_of table.size table.marks.items) = subst (λ (f : FieldCells). IsFieldOf passes hit start f) (sym c.self.view_is) field in
    let follows = followed_all passes hit start table.size table.marks.items c.args.cell c.steps.walk c.steps.at table.sound own c.steps.invariant c.in_default.ensures.none in
    let far = subst (λ (o : Option ℕ). IsFar passes hit start c.args.cell o) is (field.fars c.args.cell c.requires.inside) in
    follows_arrives passes hit start c.steps.walk c.args.cell cost follows far.0 far.1

use Rattle.std.proofs.Common.{◌≡◌, get_or, sym, ◌∙◌, subst, arith}
use Rattle.std.proofs.lemmas.Bool.{false≢true, both_ways}
use Rattle.std.proofs.lemmas.List.{get_or_read}
use Rattle.nav_types.specs.declared.directions.Dir.{Dir}
use Rattle.flow_field.specs.inner.Marks.{cell_at_spot}
use Rattle.flow_field.specs.inner.Ways.{IsReachedBeside}
use Rattle.flow_field.proofs.Spots.{spot_of-lt}
use Rattle.flow_field.proofs.Following.{nearer_both, nearer_reached}
use Rattle.flow_field.proofs.tables.Table.leads_nearer.Goals as goal

pub returns-then-not-is_reached : goal.returns-then-not-is_reached
returns-then-not-is_reached c =
    let table = c.args.self.now in
    let marks = table.marks.items in
    let read : c.index-mark.result.now ≡ get_or marks c.beside.result 0 = get_or_read marks c.beside.result c.index-mark.result.now c.beside.ensures.within c.index-mark.ensures 0 in (
      λ e. absurd (false≢true e),
      λ nearer. absurd (both_ways c.is_reached.result c.if-not-is_reached.true
          (c.is_reached.ensures ∙ nearer_reached table.size marks c.args.at c.args.dir c.beside.result c.index-mark.result.now c.beside.ensures.value read nearer)),
    )

pub returns : goal.returns
returns c =
    let table = c.args.self.now in
    let marks = table.marks.items in
    let at = c.args.at in
    let place = c.requires in
    let within = spot_of-lt table.size (cell_at_spot table.size at) place.inside in
    let read : c.index-mark.result.now ≡ get_or marks c.beside.result 0 = get_or_read marks c.beside.result c.index-mark.result.now c.beside.ensures.within c.index-mark.ensures 0 in
    let here : c.index.result.now ≡ get_or marks at 0 = get_or_read marks at c.index.result.now (omega (arith, within, place.same, table.sound.long)) c.index.ensures 0 in
    let Side = λ (dir : Dir). IsReachedBeside table.size marks at dir in
    nearer_both table.size marks at c.args.dir c.beside.result c.index-mark.result.now c.cost.result c.index.result.now c.beside.ensures.value read here c.cost.ensures.value
    (sym c.is_reached.ensures ∙ c.if-not-is_reached.false)
    (subst Side c.row_part.ensures (c.is_reached_beside.ensures.0 c.if-not-is_reached_beside.false))
    (subst Side c.column_part.ensures (c.is_reached_beside-2.ensures.0 c.if-not-is_reached_beside-2.false))

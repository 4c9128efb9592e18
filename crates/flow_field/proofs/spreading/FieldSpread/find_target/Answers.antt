use Rattle.std.proofs.Common.{ℕ, ◌≡◌, ◌<◌, IsTrue, get_or, sym, ap, ◌∙◌, arith}
use Rattle.std.proofs.lemmas.Bool.{both_ways}
use Rattle.std.proofs.lemmas.List.{get_or_read}
use Rattle.nav_types.specs.declared.cells.Size.{Size}
use Rattle.nav_types.proofs.Walking.{Joined-passes}
use Rattle.flow_field.specs.inner.Marks.{spot_of}
use Rattle.flow_field.specs.inner.Spreads.{WaitsIn}
use Rattle.flow_field.proofs.Spots.{spot_of-lt}
use Rattle.flow_field.proofs.Fills.{found_target, no_target, marked_passes}
use Rattle.flow_field.proofs.spreading.FieldSpread.find_target.Goals as goal
use Rattle.flow_field.proofs.spreading.FieldSpread.find_target.Goals.{else-index-ne0-via-then-index-ne0+then-hits+else-area-home, else-index-ne0-via-then-index-ne0+else-hits, else-index-ne0-via-else-index-ne0}

pub returns-in_ok-lower_straight : goal.returns-in_ok-lower_straight
returns-in_ok-lower_straight g c = λ start rect begins home spreads.
    let map = c.args.map.now in
    let size = g.M.View.extent map in
    let passes = g.M.View.passes map c.args.class in
    let hit = g.A.Aim.hit c.args.aim.now size in
    let cell = c.args.cell in
    let marks = c.args.self.now.marks.items in
    let is : c.spot-at.result ≡ spot_of size cell = c.spot-at.ensures.value ∙ ap (λ (s : Size). spot_of s cell) c.size-size.ensures in
    let within = spot_of-lt size cell c.requires.inside in
    let read : c.index.result.now ≡ get_or marks c.spot-at.result 0 = get_or_read marks c.spot-at.result c.index.result.now (omega (arith, c.requires.long, is)) c.index.ensures 0 in
    let some : 0 < get_or marks (spot_of size cell) 0 = omega (arith, read, c.if-index-ne0.true, ap (λ (k : ℕ). get_or marks k 0) is) in
    let passable = marked_passes passes hit start size cell marks spreads.sound c.requires.inside some in
    let is_hit : IsTrue (hit cell) = sym (c.hits.ensures ∙ ap (λ (s : Size). g.A.Aim.hit c.args.aim.now s cell) c.size-size.ensures) ∙ c.if-hits.true in
    let joined = (g.met.M.Areas.joined map c.args.class start cell c.args.home c.area.result begins passable home c.area.ensures).0 (sym c.if-area-home.true) in
    found_target passes hit start size rect cell c.spot-at.result c.args.self.now c.lower_straight.new.self passable is_hit joined is c.in_ok-lower_straight.ensures spreads

pub returns-else-index-ne0 : goal.returns-else-index-ne0
returns-else-index-ne0 g c = λ start rect begins home spreads.
    let map = c.args.map.now in
    let size = g.M.View.extent map in
    let passes = g.M.View.passes map c.args.class in
    let hit = g.A.Aim.hit c.args.aim.now size in
    let cell = c.args.cell in
    let marks = c.args.self.now.marks.items in
    let is : c.spot-at.result ≡ spot_of size cell = c.spot-at.ensures.value ∙ ap (λ (s : Size). spot_of s cell) c.size-size.ensures in
    let within = spot_of-lt size cell c.requires.inside in
    let read : c.index.result.now ≡ get_or marks c.spot-at.result 0 = get_or_read marks c.spot-at.result c.index.result.now (omega (arith, c.requires.long, is)) c.index.ensures 0 in
    no_target passes hit start size rect cell marks (WaitsIn c.args.self.now)
    (λ is_hit joined.
    let passable = Joined-passes passes start cell begins joined in
    elim c.else-index-ne0.branch [
      | else-index-ne0-via-then-index-ne0+then-hits+else-area-home w ↦
          let same = (g.met.M.Areas.joined map c.args.class start cell c.args.home w.area.result begins passable home w.area.ensures).1 joined in
          omega (arith, same, w.if-area-home.false)
      | else-index-ne0-via-then-index-ne0+else-hits w ↦ both_ways (hit cell) (sym (w.hits.ensures ∙ ap (λ (s : Size). g.A.Aim.hit c.args.aim.now s cell) c.size-size.ensures) ∙ w.if-hits.false) is_hit
      | else-index-ne0-via-else-index-ne0 w ↦ omega (arith, w.if-index-ne0.false, read, spreads.sound.passable cell passable, ap (λ (k : ℕ). get_or marks k 0) is)
    ]) spreads

use Rattle.std.proofs.Common.{◌≡◌, ◌∙◌, ap, ℕ, Some, is_some, false}
use Rattle.posts.specs.declared.replies.Answer.{Answer}
use Rattle.posts.specs.Maps.{Map}
use Rattle.turn_core.specs.NamedGoals.{class_named, is_on_map}
use Rattle.turn_core.proofs.Answered.{on_map_seen, outside_at, class_seen, asked_seen}
use Rattle.turn_core.proofs.solving.asked_at.Goals as goal

pub returns-in_default-cell_of_point : goal.returns-in_default-cell_of_point
returns-in_default-cell_of_point c =
    let map = c.args.version.now.map in
    let has : class_named map c.args.name.now ≡ Some c.in-Some.class =
    class_seen map c.args.name.now c.classes.result.now c.in-Some.class (c.classes.ensures ∙ ap (λ (m : Map). m.classes) c.map.ensures) c.in-Some.ensures.place in
    let off = on_map_seen map.size c.size.result c.args.x c.args.z c.cell_of_point.result false
    (c.size.ensures ∙ ap (λ (m : Map). m.size) c.map-2.ensures) c.cell_of_point.ensures.on_map (ap is_some c.in_default-cell_of_point.is) in
    let Never : ℕ → Answer → Type 0 = λ class answer. ⊥ in
    record {
      asked = tt;
      refused = outside_at (class_named map c.args.name.now) (is_on_map map.size c.args.x c.args.z) Never c.in-Some.class has off;
    }

pub returns : goal.returns
returns c =
    let map = c.args.version.now.map in
    record {
      asked = asked_seen map c.args.name.now c.args.x c.args.z c.classes.result.now c.size.result c.in-Some.class c.in-Some-cell_of_point.cell
          (c.classes.ensures ∙ ap (λ (m : Map). m.classes) c.map.ensures) (c.size.ensures ∙ ap (λ (m : Map). m.size) c.map-2.ensures)
          c.in-Some.ensures.place c.in-Some.ensures.below (c.cell_of_point.ensures.on_map.0 (ap is_some c.in-Some-cell_of_point.is))
          c.in-Some-cell_of_point.ensures.holds c.in-Some-cell_of_point.ensures.inside;
      refused = tt;
    }

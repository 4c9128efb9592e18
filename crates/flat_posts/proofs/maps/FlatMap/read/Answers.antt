use Rattle.std.proofs.Common.{refl, subst}
use Rattle.std.proofs.lemmas.Bool.{both_ways}
use Rattle.posts.specs.Maps.{IsMap}
use Rattle.flat_posts.proofs.OneMap.{map_of_parts}
use Rattle.flat_posts.proofs.maps.FlatMap.read.Goals as goal

pub returns-in_default-clause-not_map : goal.returns-in_default-clause-not_map
returns-in_default-clause-not_map c = λ _ map is. c.in_default.ensures.none refl map.size map.callers is.limits.few_callers is.frame

pub returns-in-None-clause-not_map : goal.returns-in-None-clause-not_map
returns-in-None-clause-not_map c = λ _ map is.
    let parts = map_of_parts c.args.self.now c.args.classes.now c.args.base.now map c.in-Some.size c.in-Some.callers c.in_ok-table.table c.in_ok-rects.rects is
    c.in-Some.ensures.some c.in_ok-table.ensures.table c.in_ok-rects.ensures.rects in
    both_ways _ refl (c.in-None.ensures.some.1 (subst IsMap parts is.limits))

use Rattle.std.proofs.Common.{◌∙◌}
use Rattle.jump_search.specs.Estimates.{least_ahead}
use Rattle.turn_core.proofs.Searchable.{can_go, can_search}
use Rattle.turn_core.proofs.searches.TargetSearch.found_within.Goals as goal

pub find_within-requires : goal.find_within-requires
find_within-requires c =
    let asked = c.question-question.ensures in
    let runs = asked.runs ∙ c.runs-runs.ensures in (
      can_search runs asked.class asked.start asked.aim c.requires,
      can_go runs asked.class asked.start asked.aim (least_ahead c.in-Some.way) c.in-Some.ensures,
    )

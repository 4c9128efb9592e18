use Rattle.jump_scan.proofs.Turning.{HasForced-from_side, side_from_HasForced}
use Rattle.jump_scan.proofs.laws.forced_where_a_side_opens.Goals as goal

pub returns : goal.returns
returns c = λ passes cell arrived here. (
  side_from_HasForced passes cell arrived,
  λ opens. HasForced-from_side passes cell arrived opens.0 here opens.1,
)

use Rattle.std.proofs.Common.{get_or}
use Rattle.flow_field.proofs.Following.{IsFollowedTo}
use Rattle.flow_field.proofs.fields.Field.follow.Given as goal

abbrev pub invariant-steps : goal.invariant-steps
invariant-steps l = IsFollowedTo l.self-inside.table.size l.self-inside.table.marks.items l.fn.cell l.walk l.at

abbrev pub decreases-steps : goal.decreases-steps
decreases-steps l = get_or l.self-inside.table.marks.items l.at 0

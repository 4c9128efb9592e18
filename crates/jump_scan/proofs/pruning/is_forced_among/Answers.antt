use Rattle.std.proofs.Common.{ap, ◌∙◌}
use Rattle.nav_types.specs.DirSets.{holds}
use Rattle.jump_scan.specs.Turns.{ahead_to}
use Rattle.jump_scan.proofs.Gathering.{forced_by}
use Rattle.jump_scan.proofs.pruning.is_forced_among.Goals as goal

pub returns : goal.returns
returns c = λ passes cell are.
    forced_by passes cell c.args.arrived c.args.side c.args.free c.has-is_behind.result c.has-is_aside.result c.requires.straight are
    (c.has-is_behind.ensures ∙ ap (holds c.args.free) (c.ahead_to-behind.ensures ∙ ap (ahead_to c.args.side) c.aside_to-aside.ensures))
    (c.has-is_aside.ensures ∙ ap (holds c.args.free) c.aside_to-aside.ensures)

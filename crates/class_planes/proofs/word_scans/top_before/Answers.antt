use Rattle.std.proofs.Common.{◌-◌, ◌*◌, arith}
use Rattle.class_planes.proofs.WordLemmas.{carry_up}
use Rattle.class_planes.proofs.word_scans.top_before.Goals as goal

pub returns-else-w-eq0-clause-small : goal.returns-else-w-eq0-clause-small
returns-else-w-eq0-clause-small c = let fits = c.type_inv.line (c.args.w - 1) in omega (arith, fits)

pub returns-else-w-eq0-clause-bit : goal.returns-else-w-eq0-clause-bit
returns-else-w-eq0-clause-bit c some = carry_up c.args.line.now (c.args.w - 1) (64 * c.args.w - 1) (omega (arith, some))

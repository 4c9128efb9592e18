use Rattle.std.proofs.Common.{◌+◌, ◌/◌, arith}
use Rattle.match_play.proofs.Digesting.{over_prime}
use Rattle.match_play.proofs.digests.digest_with.Goals as goal

pub returns-then-low-room : goal.returns-then-low-room
returns-then-low-room c = over_prime c.args.digest c.args.byte (c.args.digest / 72057594037927936) _ (omega arith) (omega arith)

pub returns : goal.returns
returns c = over_prime c.args.digest c.args.byte (c.args.digest / 72057594037927936 + 1) _ (omega arith) (omega arith)

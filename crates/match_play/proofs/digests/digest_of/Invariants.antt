use Rattle.std.proofs.Common.{◌≡◌, take}
use Rattle.match_play.specs.Digests.{digest_of}
use Rattle.match_play.proofs.digests.digest_of.Given as goal

abbrev pub invariant-loop-byte : goal.invariant-loop-byte
invariant-loop-byte l = l.digest ≡ digest_of (take l.byte-index l.bytes)

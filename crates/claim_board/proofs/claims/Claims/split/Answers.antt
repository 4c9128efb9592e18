use Rattle.std.proofs.Common.{rules}
use Rattle.claim_board.proofs.Keeps.{splits}
use Rattle.claim_board.proofs.claims.Claims.split.Goals as goal

pub split_seat-other-requires : goal.split_seat-other-requires
split_seat-other-requires c =
    (search rules, search rules, splits _ _ _ (search rules))

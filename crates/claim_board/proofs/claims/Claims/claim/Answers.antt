use Rattle.std.proofs.Common.{rules}
use Rattle.claim_board.proofs.Keeps.{draws}
use Rattle.claim_board.proofs.claims.Claims.claim.Goals as goal

pub fetch_add-number-requires : goal.fetch_add-number-requires
fetch_add-number-requires c = (search rules, search rules, draws _ _ _ _ (search rules) (search rules))

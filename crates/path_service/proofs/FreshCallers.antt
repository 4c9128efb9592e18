-- Callers that have done nothing yet.
use Rattle.std.proofs.Common.{◌≡◌, ◌∷◌, [], List, map, refl, ap}
use Rattle.path_service.specs.Callers.{CallerId, caller_id, fresh}

-- they are who they are
pub ids_of_fresh : (ids : List CallerId) → map caller_id (map fresh ids) ≡ ids
ids_of_fresh [] = refl
ids_of_fresh (id ∷ ids) = ap (λ (rest : List CallerId). id ∷ rest) (ids_of_fresh ids)

use Rattle.match_laws.proofs.ServedJournals.{map_served, turns_served}
use Rattle.match_laws.proofs.served.served_values.Goals as goal

pub returns-clause-map : goal.returns-clause-map
returns-clause-map c = map_served

pub returns-clause-turns : goal.returns-clause-turns
returns-clause-turns c = turns_served

-- How the states of a solver and of a turn are stored in ghost fields.
use Rattle.std.specs.Prelude.{List, refl}
use Rattle.std.specs.Coded.{Coded, code_by, coded×, coded_list}
use Rattle.posts.specs.declared.notes.Report.{Report}
use Rattle.posts.specs.declared.posts.Post.{Post}
use Rattle.grid_versions.specs.Versions.{MapState, map_state}
use Rattle.turn_core.specs.ReadyTurns.{Ready}
use Rattle.turn_core.specs.Solvers.{SolverState}

-- a solver's state is stored as the pair of its parts
abbrev pub solver_code : Coded MapState → Coded Report → Coded SolverState
solver_code state_code report_code =
    code_by (MapState × Report) (coded× state_code report_code) (λ s. (s.state, s.report))
    (λ p. record { state = p.0; report = p.1 }) (λ _. refl)

-- a turn is stored as the pair of the map's state and the posts
abbrev pub ready_code : Coded MapState → Coded Post → Coded Ready
ready_code state_code post_code =
    code_by (MapState × List (List Post)) (coded× state_code (coded_list (coded_list post_code)))
    (λ r. (map_state r.map r.before, r.turn)) (λ p. record { map = p.0.map; before = p.0.standing; turn = p.1 }) (λ _. refl)

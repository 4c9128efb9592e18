-- How the state of a version is stored in a ghost field.
use Rattle.std.specs.Prelude.{refl}
use Rattle.std.specs.Coded.{Coded, code_by, coded×}
use Rattle.obstruction_store.specs.Standing.{Standing}
use Rattle.posts.specs.Maps.{Map}
use Rattle.grid_versions.specs.Versions.{MapState, map_state}

-- a state is stored as the pair of its parts
abbrev pub state_code : Coded Map → Coded Standing → Coded MapState
state_code map_code standing_code =
    code_by (Map × Standing) (coded× map_code standing_code) (λ s. (s.map, s.standing)) (λ p. map_state p.0 p.1)
    (λ _. refl)

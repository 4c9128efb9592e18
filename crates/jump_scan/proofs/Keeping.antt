-- Directions by their places among all.
use Rattle.std.proofs.Common.{ℕ, [], ◌∷◌, ◌≡◌, get_or, refl, ap, sym, ◌∙◌}
use Rattle.nav_types.specs.declared.directions.Dir.{Dir}
use Rattle.nav_types.specs.declared.directions.Dir.TheVariants.{N, E, S, W, NE, SE, SW, NW}

-- the place of a direction among all
abbrev pub place_of_dir : Dir → ℕ
place_of_dir N = 0
place_of_dir E = 1
place_of_dir S = 2
place_of_dir W = 3
place_of_dir NE = 4
place_of_dir SE = 5
place_of_dir SW = 6
place_of_dir NW = 7

abbrev dir_at : ℕ → Dir
dir_at place = get_or (N ∷ E ∷ S ∷ W ∷ NE ∷ SE ∷ SW ∷ NW ∷ []) place N

at_its_place : (dir : Dir) → dir_at (place_of_dir dir) ≡ dir
at_its_place N = refl
at_its_place E = refl
at_its_place S = refl
at_its_place W = refl
at_its_place NE = refl
at_its_place SE = refl
at_its_place SW = refl
at_its_place NW = refl

pub same_place : (a b : Dir) → place_of_dir a ≡ place_of_dir b → a ≡ b
same_place a b same = sym (at_its_place a) ∙ ap dir_at same ∙ at_its_place b

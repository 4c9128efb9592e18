-- Which of some posts a match by structs does not take, and why.
use Rattle.std.specs.Prelude.{ℕ, ◌≡◌, ◌≢◌, List, All, Option, Some, None, take, slice_get}
use Rattle.posts.specs.declared.posts.Post.{Post}
use Rattle.posts.specs.Maps.{Map}
use Rattle.flat_posts.specs.declared.posted.FlatFault.{FlatFault}
use Rattle.flat_posts.specs.declared.posted.FlatFault.TheVariants as fault
use Rattle.flat_posts.specs.declared.posted.FlatPost.{FlatPost}
use Rattle.flat_posts.specs.Posts.{IsPost, first_fault}
use Rattle.pathserve_c.specs.declared.checks.TheConstants.{WRONG_KIND, WRONG_CALLER, WRONG_CLASS, WRONG_GOAL, NOT_ZERO}
use Rattle.pathserve_c.specs.declared.states.State.{State}
use Rattle.pathserve_c.specs.declared.states.State.TheVariants.{Text, Structs, View, Finder}
use Rattle.pathserve_c.specs.declared.statuses.TheConstants.{DONE, BAD_VALUE}
use Rattle.pathserve_c.specs.Statuses.{refusal}

-- the number of what is wrong with a post
abbrev pub number_of : FlatFault → ℕ
number_of fault.Kind = WRONG_KIND
number_of fault.Caller = WRONG_CALLER
number_of fault.Class = WRONG_CLASS
number_of fault.Goal = WRONG_GOAL
number_of fault.UnusedField = NOT_ZERO

-- the numbers are a post of a caller of the map
abbrev pub IsPostOf : Map → FlatPost → Type 0
IsPostOf map flat = (caller : ℕ) × ((post : Post) × IsPost map flat caller post)

-- The flat post at a place is the first that is no post of the map, and this is wrong with it.
pub record IsFirstBad (map : Map) (flats : List FlatPost) (place : ℕ) (fault : FlatFault) : Type 0 where
  pub before : All (IsPostOf map) (take place flats)
  pub flat : FlatPost
  pub here : slice_get flats place ≡ Some flat
  pub bad : IsPostOf map flat → ⊥
  pub why : fault ≡ first_fault map flat

-- All are posts of the map, and nothing was written. Or the first that is none was told, and what is wrong with it.
pub record PostsChecked (map : Map) (flats : List FlatPost) (old_place new_place old_why new_why status : ℕ) : Type 0 where
  pub done : status ≡ DONE → All (IsPostOf map) flats × ((new_place ≡ old_place) × (new_why ≡ old_why))
  pub bad : status ≢ DONE → (status ≡ BAD_VALUE)
      × ((fault : FlatFault) × (IsFirstBad map flats new_place fault × (new_why ≡ number_of fault)))

-- a refusal that told nothing
abbrev pub IsUnchecked : Option State → (old_place new_place old_why new_why status : ℕ) → Type 0
IsUnchecked state old_place new_place old_why new_why status =
    (status ≡ refusal state) × ((new_place ≡ old_place) × (new_why ≡ old_why))

-- posts were checked for a match by structs; anything else refuses
abbrev pub IsChecked : Option State → List FlatPost → (old_place new_place old_why new_why status : ℕ) → Type 0
IsChecked None flats old_place new_place old_why new_why status = IsUnchecked None old_place new_place old_why new_why status
IsChecked (Some (Text text)) flats old_place new_place old_why new_why status =
    IsUnchecked (Some (Text text)) old_place new_place old_why new_why status
IsChecked (Some (View version)) flats old_place new_place old_why new_why status =
    IsUnchecked (Some (View version)) old_place new_place old_why new_why status
IsChecked (Some (Finder finder)) flats old_place new_place old_why new_why status =
    IsUnchecked (Some (Finder finder)) old_place new_place old_why new_why status
IsChecked (Some (Structs structs)) flats old_place new_place old_why new_why status =
    PostsChecked structs.game.map flats old_place new_place old_why new_why status

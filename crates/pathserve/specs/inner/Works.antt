-- The works of callers.
use Rattle.std.specs.Prelude.{◌≡◌, ◌≤◌, ◌^◌, List, [], ◌∷◌, ◌++◌, length}
use Rattle.posts.specs.declared.posts.Post.{Post}
use Rattle.posts.specs.declared.replies.Reply.{Reply}
use Rattle.posts.specs.Callers.{list_of}
use Rattle.path_service.specs.Callers.{CallerId, CallerState, EndedState}

-- so many posts go on a lane
abbrev pub IsShort : List Post → Type 0
IsShort posts = length posts ≤ 2 ^ 62

-- the caller has posted nothing yet
abbrev pub HasPostedNone : CallerState → Type 0
HasPostedNone caller = caller.posted ≡ []

-- it is this caller, and what it posted are the first of these posts
pub record HasPosted (id : CallerId) (posts : List Post) (now : CallerState) : Type 0 where
  pub caller : now.id ≡ id
  pub rest : List Post
  pub first : now.posted ++ rest ≡ posts

-- so has each of these callers, of the posts in its place
abbrev pub HaveAllPosted : List CallerId → List (List Post) → List CallerState → Type 0
HaveAllPosted [] [] [] = Unit {0}
HaveAllPosted [] [] (caller ∷ more) = ⊥
HaveAllPosted [] (posts ∷ lists) all = ⊥
HaveAllPosted (id ∷ ids) [] all = ⊥
HaveAllPosted (id ∷ ids) (posts ∷ lists) [] = ⊥
HaveAllPosted (id ∷ ids) (posts ∷ lists) (caller ∷ more) = HasPosted id posts caller × HaveAllPosted ids lists more

-- a caller that has ended: it is that one, it posted nothing more, and it collected as many replies as were sent to it
pub record EndsWith (sent : List (List Reply)) (caller : CallerState) (ended : EndedState) : Type 0 where
  pub id : ended.id ≡ caller.id
  pub posted : ended.posted ≡ caller.posted
  pub collected : length (list_of sent caller.id.number) ≤ length ended.collected

-- so has each of these callers
abbrev pub AllEndWith : List (List Reply) → List CallerState → List EndedState → Type 0
AllEndWith sent [] [] = Unit {0}
AllEndWith sent [] (ended ∷ more) = ⊥
AllEndWith sent (caller ∷ callers) [] = ⊥
AllEndWith sent (caller ∷ callers) (ended ∷ more) = EndsWith sent caller ended × AllEndWith sent callers more

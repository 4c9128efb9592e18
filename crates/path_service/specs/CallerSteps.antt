-- What the calls of a caller are: steps of the turn machine.
use Rattle.std.specs.Prelude.{◌≡◌, ◌<◌, None, Some, List, [], ◌∷◌, ◌++◌, length, slice_index}
use Rattle.posts.specs.declared.posts.Post.{Post}
use Rattle.posts.specs.declared.replies.Reply.{Reply}
use Rattle.posts.specs.Callers.{list_of}
use Rattle.path_service.specs.declared.events.Event.TheVariants.{Post as Posting, Collect}
use Rattle.path_service.specs.machine.States.{State}
use Rattle.path_service.specs.machine.Effects.{IsStep, posted, collected}
use Rattle.path_service.specs.Callers.{CallerState}

-- The machine's lists for a caller are the caller's: what it posted, how many replies it collected, and the replies to it,
-- of which these are the next that it has not collected.
pub record HasListsOf (s : State) (caller : CallerState) (next : List Reply) : Type 0 where
  pub known : caller.id.number < s.map.callers
  pub wide : (length s.posted ≡ s.map.callers) × (length s.collected ≡ s.map.callers)
  pub posts : list_of s.posted caller.id.number ≡ caller.posted
  pub count : slice_index s.collected caller.id.number ≡ length caller.collected
  pub replies : list_of s.replies caller.id.number ≡ caller.collected ++ next

-- the caller after a post, and after it collected a reply, as `Caller::post` and `Caller::collect` leave it
abbrev pub with_posted : CallerState → Post → CallerState
with_posted caller post = record caller { posted = caller.posted ++ post ∷ [] }

abbrev pub with_collected : CallerState → Reply → CallerState
with_collected caller reply = record caller { collected = caller.collected ++ reply ∷ [] }

-- the machine's step by which a caller posts; its lists are the caller's then too
pub record PostsInStep (s : State) (caller : CallerState) (post : Post) (next : List Reply) : Type 0 where
  pub step : IsStep s (Posting caller.id.number post) None (posted s caller.id.number post)
  pub lists : HasListsOf (posted s caller.id.number post) (with_posted caller post) next

-- the machine's step by which a caller collects the reply; its lists are the caller's then too
pub record CollectsInStep (s : State) (caller : CallerState) (reply : Reply) (next : List Reply) : Type 0 where
  pub step : IsStep s (Collect caller.id.number) (Some reply) (collected s caller.id.number)
  pub lists : HasListsOf (collected s caller.id.number) (with_collected caller reply) next

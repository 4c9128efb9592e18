-- What C holds.
use Rattle.std.specs.Prelude.{ℕ, ◌&&◌, if◌then◌else◌, nat_lt, length, Bool, false, ◌≡◌, ◌≢◌, List, [], Option, Some, None, IsSome}
use Rattle.std.specs.Int.{div_ceil}
use Rattle.nav_types.specs.declared.cells.Cell.{Cell}
use Rattle.posts.specs.declared.replies.Reply.{Reply}
use Rattle.grid_versions.specs.Versions.{MapState, passes_of}
use Rattle.pathserve_c.specs.declared.states.State.{State}
use Rattle.pathserve_c.specs.declared.states.State.TheVariants.{Text, Structs, View, Finder}
use Rattle.pathserve_c.specs.declared.handles.Handle.{Handle}

-- A handle is closed and holds nothing, or it is open and holds a state.
abbrev pub IsHandle : Handle → Type 0
IsHandle h = (h.live ≡ 0 → h.held.value ≡ None) × (h.live ≢ 0 → IsSome h.held.value)

-- what it holds
abbrev pub state_of : Handle → Option State
state_of h = h.held.value

-- what waits to be taken: nothing where there is no match by text
abbrev pub waiting_in : Option State → List ℕ
waiting_in None = []
waiting_in (Some (Text text)) = text.waiting
waiting_in (Some (Structs structs)) = []
waiting_in (Some (View version)) = []
waiting_in (Some (Finder finder)) = []

-- which cells are passable for class k in what a handle shows: none where it shows nothing
abbrev pub passes_seen : Option State → ℕ → Cell → Bool
passes_seen None k = λ _. false
passes_seen (Some (Text text)) k = λ _. false
passes_seen (Some (Structs structs)) k = λ _. false
passes_seen (Some (Finder finder)) k = λ _. false
passes_seen (Some (View version)) k = passes_of version k

-- how many words of 64 cells a row has: 0 where the map has no such class or row
abbrev pub words_of : MapState → ℕ → ℕ → ℕ
words_of version k j =
    if nat_lt k (length version.map.classes) && nat_lt j version.map.size.h then div_ceil version.map.size.w 64 else 0

abbrev pub words_of_row : Option State → ℕ → ℕ → ℕ
words_of_row None k j = 0
words_of_row (Some (Text text)) k j = 0
words_of_row (Some (Structs structs)) k j = 0
words_of_row (Some (Finder finder)) k j = 0
words_of_row (Some (View version)) k j = words_of version k j

-- the replies of the turn that ended last: none where there is no match by structs
abbrev pub told_in : Option State → List (List Reply)
told_in None = []
told_in (Some (Text text)) = []
told_in (Some (Structs structs)) = structs.told.replies
told_in (Some (View version)) = []
told_in (Some (Finder finder)) = []

-- What a match stands on, what its items make of it, and how that goes with how far its script was read.
use Rattle.std.specs.Prelude.{ℕ, ◌≡◌, ◌<◌, ◌+◌, ◌^◌, List, ◌++◌, All, Some, None, length, ⊤}
use Rattle.nav_types.specs.declared.cells.Rect.{Rect}
use Rattle.nav_types.specs.Cells.{IsRectInside}
use Rattle.posts.specs.declared.notes.Report.{Report}
use Rattle.posts.specs.Maps.{with_base}
use Rattle.posts.specs.Posts.{jobs}
use Rattle.script_text.specs.declared.items.ScriptItem.{ScriptItem}
use Rattle.script_text.specs.declared.items.ScriptItem.TheVariants as item
use Rattle.script_text.specs.declared.parts.Part.{Part}
use Rattle.script_text.specs.declared.parts.Part.TheVariants.{BeforeMap, InTurns}
use Rattle.script_text.specs.Script.{Item, rules_of}
use Rattle.script_text.specs.Reader.{rules_at}
use Rattle.turn_core.specs.Words.{MapState, bare}
use Rattle.match_play.specs.declared.states.MatchProgress.{MatchProgress}
use Rattle.match_play.specs.declared.states.MatchProgress.TheVariants as progress
use Rattle.match_play.specs.Texts.{Said, unsaid, Says}

-- what the next answers rest on
abbrev pub said_of : MatchProgress → Said
said_of progress.Nothing = unsaid
said_of (progress.Map m) = record { map = Some m; standing = bare; turns = 0 }
said_of (progress.Turns version turns) = record { map = Some version.map; standing = version.standing; turns = turns }

-- how many turns were told
abbrev pub turns_in : MatchProgress → ℕ
turns_in g = (said_of g).turns

-- ---- items on what a match stands on

-- the map may come
abbrev pub IsNothing : MatchProgress → Type 0
IsNothing progress.Nothing = ⊤
IsNothing (progress.Map m) = ⊥
IsNothing (progress.Turns version turns) = ⊥

-- base rectangles may be added, and lie inside the map
abbrev pub FitsBase : MatchProgress → List (Rect × ℕ) → Type 0
FitsBase progress.Nothing rects = ⊥
FitsBase (progress.Map m) rects = All (λ (entry : Rect × ℕ). IsRectInside m.size entry.0) rects
FitsBase (progress.Turns version turns) rects = ⊥

-- a turn may come, and there were few
abbrev pub FitsTurn : MatchProgress → Type 0
FitsTurn progress.Nothing = ⊥
FitsTurn (progress.Map m) = ⊤
FitsTurn (progress.Turns version turns) = turns < 2 ^ 32

-- the item may come
abbrev pub FitsItem : MatchProgress → ScriptItem → Type 0
FitsItem g (item.Map m) = IsNothing g
FitsItem g (item.Base rects) = FitsBase g rects
FitsItem g (item.Turn posts) = FitsTurn g

-- who takes so many jobs takes those of the item, if it is a turn
abbrev pub TakesItem : (ℕ → Type 0) → ScriptItem → Type 0
TakesItem Takes (item.Map m) = ⊤
TakesItem Takes (item.Base rects) = ⊤
TakesItem Takes (item.Turn posts) = Takes (length (jobs posts))

-- ---- what items make of it

-- the map has the rectangles behind its own
abbrev pub AddsBase : MatchProgress → List (Rect × ℕ) → MatchProgress → Type 0
AddsBase progress.Nothing rects new = ⊥
AddsBase (progress.Map m) rects new = new ≡ progress.Map (with_base m rects)
AddsBase (progress.Turns version turns) rects new = ⊥

-- a version of the same map stands after one turn more
abbrev pub AddsTurn : MatchProgress → MatchProgress → Type 0
AddsTurn old new = (version : MapState) × ((new ≡ progress.Turns version (turns_in old + 1)) × ((said_of old).map ≡ Some version.map))

-- what an item makes of what stood
abbrev pub Becomes : MatchProgress → ScriptItem → MatchProgress → Type 0
Becomes old (item.Map m) new = new ≡ progress.Map m
Becomes old (item.Base rects) new = AddsBase old rects new
Becomes old (item.Turn posts) new = AddsTurn old new

-- the text of an item was told behind what waits, and what was said is then such
abbrev pub Tells : Report → Said → Item → Said → List ℕ → List ℕ → Type 0
Tells report s item t old new = (text : List ℕ) × (Says report s item text t × (new ≡ old ++ text))

-- ---- what goes with the script

-- what stands goes with the part of the script that was read
abbrev pub FitsPart : MatchProgress → Part → Type 0
FitsPart progress.Nothing part = part ≡ BeforeMap
FitsPart (progress.Map m) part = rules_at part ≡ Some (rules_of m)
FitsPart (progress.Turns version turns) part = part ≡ InTurns (rules_of version.map)

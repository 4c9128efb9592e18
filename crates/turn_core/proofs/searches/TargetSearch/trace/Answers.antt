use Rattle.std.proofs.Common.{ℕ, Result, Ok, Err, IfOk, subst, ◌∙◌}
use Rattle.nav_types.specs.declared.cells.Cell.{Cell}
use Rattle.nav_types.specs.declared.cells.Rect.{Rect}
use Rattle.nav_types.specs.declared.cells.Size.{Size}
use Rattle.nav_types.specs.declared.sequences.NoMemory.{NoMemory}
use Rattle.nav_types.specs.Frames.{IsFrame}
use Rattle.goal_reach.specs.declared.targets.Target.{Target}
use Rattle.goal_reach.specs.Targets.{hit_by, framed_by}
use Rattle.jump_search.specs.declared.search.Traced.{Traced}
use Rattle.jump_search.specs.JumpStates.{CountsOpened}
use Rattle.grid_versions.specs.Versions.{MapState, passes_of}
use Rattle.turn_core.specs.Notes.{IsOpenedNumber}
use Rattle.turn_core.specs.inner.Searching.{IsFoundTo, path_by}
use Rattle.turn_core.proofs.Searchable.{can_search, same_search}
use Rattle.turn_core.proofs.searches.TargetSearch.trace.Goals as goal

pub trace-requires : goal.trace-requires
trace-requires c =
    can_search (c.question.ensures.runs ∙ c.runs.ensures) c.question.ensures.class c.question.ensures.start c.question.ensures.aim c.requires

-- what is counted by each box is the opened number by the one that is known
opened_by : (state : MapState) (class : ℕ) (start : Cell) (target : Target) (box : Rect) (result : Result Traced NoMemory)
    → IsFrame (framed_by target) state.map.size box
    → IfOk result (λ (traced : Traced). CountsOpened (passes_of state class) (hit_by target) (framed_by target) state.map.size start traced.found.cost.0 traced.opened)
    → IfOk result (λ (traced : Traced). IsOpenedNumber (passes_of state class) state.map.size target (path_by start target traced.found) traced.opened)
opened_by state class start target box (Ok traced) frame counted = record { box = box; frame = frame; counted = counted box frame }
opened_by state class start target box (Err refused) frame counted = tt

pub returns-clause-found : goal.returns-clause-found
returns-clause-found c =
    same_search (λ s n from t. IfOk c.trace.result (λ (traced : Traced). IsFoundTo s n from t traced.found))
    (c.question.ensures.runs ∙ c.runs.ensures) c.question.ensures.class c.question.ensures.start c.question.ensures.aim c.trace.ensures.answer

pub returns-clause-opened : goal.returns-clause-opened
returns-clause-opened c =
    let search = c.args.self.now in
    opened_by search.version.now search.class search.start search.target.now c.bounds-box.result c.trace.result
    (subst (λ (s : Size). IsFrame (framed_by search.target.now) s c.bounds-box.result) c.size.ensures c.bounds-box.ensures)
    (same_search (λ s n from t. IfOk c.trace.result (λ (traced : Traced). CountsOpened (passes_of s n) (hit_by t) (framed_by t) s.map.size from
    traced.found.cost.0 traced.opened))
    (c.question.ensures.runs ∙ c.runs.ensures) c.question.ensures.class c.question.ensures.start c.question.ensures.aim c.trace.ensures.opened)

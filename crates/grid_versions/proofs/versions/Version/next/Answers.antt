use Rattle.std.proofs.Common.{ℕ, List, ◌≡◌, ◌∙◌, ◌+◌, ◌≤◌, length, ap, sym, subst}
use Rattle.nav_types.specs.Regions.{HasRelabelled}
use Rattle.obstruction_store.specs.Standing.{Standing, AllFit}
use Rattle.posts.specs.declared.edits.Edit.{Edit}
use Rattle.posts.specs.Maps.{Map}
use Rattle.grid_versions.specs.Editing.{after_edits}
use Rattle.grid_versions.specs.Versions.{MapState, map_state, passes_of}
use Rattle.grid_versions.proofs.versions.Version.next.Goals as goal

-- what stands after the edits
after_here : (before : MapState) (map : Map) (read new : Standing) (edits all : List Edit) → new ≡ after_edits map read edits
    → map ≡ before.map → read ≡ before.standing → edits ≡ all → new ≡ after_edits before.map before.standing all
after_here before map read new edits all applied map_is read_is edits_are =
    applied ∙ ap (λ (m : Map). after_edits m read edits) map_is
    ∙ ap (λ (s : Standing). after_edits before.map s edits) read_is
    ∙ ap (λ (es : List Edit). after_edits before.map before.standing es) edits_are

-- a bound by the pairs that differ, for what stands after the edits
most_here : (state : MapState) (new : Standing) (edits : List Edit) (start end : ℕ) → new ≡ after_edits state.map state.standing edits
    → ((count : ℕ) → HasRelabelled (length state.map.classes) (passes_of state) (passes_of (map_state state.map new)) count
    → end ≤ start + count) → (count : ℕ) → HasRelabelled (length state.map.classes) (passes_of state)
    (passes_of (map_state state.map (after_edits state.map state.standing edits))) count → end ≤ start + count
most_here state new edits start end after most count has =
    most count (subst (λ (s : Standing). HasRelabelled (length state.map.classes) (passes_of state) (passes_of (map_state state.map s)) count)
    (sym after) has)

pub updated-requires-clause-fit : goal.updated-requires-clause-fit
updated-requires-clause-fit g c =
    subst (λ (m : Map). AllFit m.size c.in_ok-shapes.field-0.shapes) c.map.ensures c.in_ok-shapes.ensures.fit

pub returns-in_err-version-clause-most : goal.returns-in_err-version-clause-most
returns-in_err-version-clause-most g c =
    let before = c.args.self.now in
    let new = c.in_ok-shapes.field-0.shapes in
    let after = after_here before c.map.result.now c.shapes.result.now new c.as_slice.result.now c.args.edits.now
    c.in_ok-shapes.ensures.standing c.map.ensures c.shapes.ensures.standing c.as_slice.ensures in
    most_here before new c.args.edits.now c.args.ticks.now c.updated.new.ticks after c.updated.ensures.most

pub returns-clause-most : goal.returns-clause-most
returns-clause-most g c =
    let before = c.args.self.now in
    let new = c.in_ok-shapes.field-0.shapes in
    let after = after_here before c.map.result.now c.shapes.result.now new c.as_slice.result.now c.args.edits.now
    c.in_ok-shapes.ensures.standing c.map.ensures c.shapes.ensures.standing c.as_slice.ensures in
    most_here before new c.args.edits.now c.args.ticks.now c.updated.new.ticks after c.updated.ensures.most

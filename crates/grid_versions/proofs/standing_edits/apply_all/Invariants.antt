use Rattle.std.proofs.Common.{◌≡◌, ◌++◌, drop}
use Rattle.obstruction_store.specs.Standing.{Standing, AllFit}
use Rattle.grid_versions.specs.Editing.{after_edits, edit_replies}
use Rattle.grid_versions.specs.inner.Reaching.{CoverChanges, NameChanges}
use Rattle.grid_versions.proofs.standing_edits.apply_all.Given as goal

-- what is left to apply ends as the whole list does
abbrev pub invariant-loop-edit : goal.invariant-loop-edit
invariant-loop-edit l = record {
  standing : after_edits l.map l.shapes (drop l.edit-index l.edits) ≡ after_edits l.map l.fn.shapes l.edits;
  replies : l.replies ++ edit_replies l.map l.shapes (drop l.edit-index l.edits) ≡ edit_replies l.map l.fn.shapes l.edits;
  fit : AllFit l.map.size l.shapes;
  covers : (first : Standing) → CoverChanges l.map first l.fn.shapes l.fn.reaches → CoverChanges l.map first l.shapes l.reaches;
  names : (first : Standing) → NameChanges l.map first l.fn.shapes l.fn.reaches l.fn.ids
      → NameChanges l.map first l.shapes l.reaches l.ids;
}

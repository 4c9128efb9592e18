use Rattle.std.proofs.Common.{List, sym, subst}
use Rattle.grid_versions.specs.declared.dirty_parts.DirtyPart.{DirtyPart}
use Rattle.grid_versions.specs.inner.ReachedParts.{AreReachedParts}
use Rattle.grid_versions.specs.inner.Reaching.{Reached}
use Rattle.grid_versions.proofs.dirty_parts.DirtyParts.parts.Goals as goal

pub returns : goal.returns
returns c =
    let own = c.self.inside in
    subst (λ (r : Reached). AreReachedParts r.size r.rects c.deref.result.now) c.self.view_is
    (subst (λ (ps : List DirtyPart). AreReachedParts own.size own.reaches.now ps) (sym c.deref.ensures.value) c.self.invariant)

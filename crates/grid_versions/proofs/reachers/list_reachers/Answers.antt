use Rattle.std.proofs.Common.{ℕ, ◌≡◌, ◌∙◌, get_or, inl, inr, subst, arith}
use Rattle.std.specs.List.{Contains}
use Rattle.std.proofs.lemmas.Bool.{cases_lt}
use Rattle.std.proofs.lemmas.List.{get_or_default}
use Rattle.nav_types.specs.declared.cells.Cell.{Cell}
use Rattle.nav_types.specs.Cells.{IsInRect}
use Rattle.grid_versions.specs.declared.reachers.Reacher.{Reacher}
use Rattle.grid_versions.proofs.ReacherLemmas.{no_reacher}
use Rattle.grid_versions.proofs.reachers.list_reachers.Goals as goal

pub loop-reacher-preserved : goal.loop-reacher-preserved
loop-reacher-preserved c =
    let reachers = c.args.reachers.now in
    let rect = c.args.rect in
    let i : ℕ = c.loop-reacher.reacher-index in
    let here = c.loop-reacher.invariant in
    let made = c.in_ok-list_reacher.ensures in
    let ids = c.list_reacher.new.ids in
    record {
      kept = λ n has. made.kept n (here.kept n has);
      listed = λ k below. elim (cases_lt k i) [
        | inl early ↦ λ cell holds inside.
            made.kept (get_or reachers k no_reacher).id (here.listed k early cell holds inside)
        | inr late ↦
            let same : i ≡ k = omega arith in
            subst (λ (p : ℕ). (cell : Cell) → IsInRect (get_or reachers p no_reacher).rect cell → IsInRect rect cell
            → Contains ids (get_or reachers p no_reacher).id) same made.listed
      ];
    }

pub returns-clause-listed : goal.returns-clause-listed
returns-clause-listed c = λ id cell is inside.
    let reachers = c.args.reachers.now in
    let ids = c.loop-reacher.ids in
    let place : ℕ = is.listed.0 in
    let low = is.listed.1 in
    let same : get_or reachers place no_reacher ≡ is.reacher =
    get_or_default reachers place no_reacher is.reacher low ∙ is.listed.2 in
    subst (λ (n : ℕ). Contains ids n) is.of
    (subst (λ (r : Reacher). (one : Cell) → IsInRect r.rect one → IsInRect c.args.rect one → Contains ids r.id) same
    (c.loop-reacher.invariant.listed place (omega arith)) cell is.holds inside)

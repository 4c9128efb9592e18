use Rattle.std.proofs.Common.{◌≡◌, ◌*◌, ◌↔◌, ◌∙◌, ℕ, List, length, ap, sym, subst}
use Rattle.std.specs.Int.{bit_at}
use Rattle.lane_rows.specs.Rows.{DifferIn}
use Rattle.nav_types.specs.declared.cells.Rect.{Rect}
use Rattle.nav_types.specs.Numbering.{Numbering, IsPatch, columns, rows}
use Rattle.navcell_grid.specs.Patches.{DiffersIn}
use Rattle.navcell_grid.proofs.PatchLemmas.{framed-whole}
use Rattle.navcell_grid.proofs.PatchCells.{differs_in_cells}
use Rattle.navcell_grid.proofs.patches.Patch.differs.Goals as goal

pub returns : goal.returns
returns c = λ k.
    let a = c.args.self.now in
    let b = c.args.other.now in
    let set = bit_at c.differs.result k ≡ 1 in
    let a_is : c.numbers.result.now ≡ a.numbers = c.numbers.ensures.cells ∙ ap (λ (t : Numbering). t.numbers) c.self.view_is in
    let b_is : c.numbers-2.result.now ≡ b.numbers = c.numbers-2.ensures.cells ∙ ap (λ (t : Numbering). t.numbers) c.other.view_is in
    let patch : IsPatch b.rect = subst (λ (t : Numbering). IsPatch t.rect) c.other.view_is c.other.invariant.extent in
    let whole : length a.numbers ≡ columns a.rect * rows a.rect =
    subst (λ (t : Numbering). length t.numbers ≡ columns t.rect * rows t.rect) c.self.view_is
    (framed-whole c.self.inside.rect c.self.inside.grid c.self.invariant c.numbers.ensures.whole) in
    let bits : set ↔ DifferIn k a.numbers b.numbers =
    subst (λ (ys : List ℕ). set ↔ DifferIn k a.numbers ys) b_is
    (subst (λ (xs : List ℕ). set ↔ DifferIn k xs c.numbers-2.result.now) a_is (c.differs.ensures.differ k)) in
    let cells : DifferIn k a.numbers b.numbers ↔ DiffersIn k a.rect a b =
    subst (λ (r : Rect). DifferIn k a.numbers b.numbers ↔ DiffersIn k r a b) c.requires
    (differs_in_cells k a b (sym c.requires) patch.columns patch.rows whole) in
    (λ is. cells.0 (bits.0 is), λ differs. bits.1 (cells.1 differs))

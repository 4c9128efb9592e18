use Rattle.std.proofs.Common.{◌-◌, ◌∙◌, ℕ, List, length, ap}
use Rattle.std.specs.List.{count_by}
use Rattle.nav_types.specs.Numbering.{Numbering}
use Rattle.lane_rows.specs.Rows.{has_class}
use Rattle.navcell_grid.specs.Patches.{free_count}
use Rattle.navcell_grid.proofs.PatchCells.{free-rest}
use Rattle.navcell_grid.proofs.patches.Patch.free.Goals as goal

pub returns : goal.returns
returns c =
    let numbers = c.numbers-numbers.result.now in
    ap (λ (n : ℕ). length numbers - n) (c.count_bit.ensures ∙ ap (λ (k : ℕ). count_by (has_class k) numbers) c.number.ensures.value)
    ∙ free-rest c.args.class numbers
    ∙ ap (λ (ns : List ℕ). free_count c.args.class ns) (c.numbers-numbers.ensures.cells ∙ ap (λ (p : Numbering). p.numbers) c.self.view_is)

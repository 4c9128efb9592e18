use Rattle.std.proofs.Common.{ap, refl}
use Rattle.nav_types.specs.declared.cells.Size.{Size}
use Rattle.nav_types.proofs.Sizes.{same_size}
use Rattle.script_text.specs.declared.parts.Rules.{Rules}
use Rattle.script_text.specs.Table.{widest}
use Rattle.script_text.proofs.table.widest.Goals as goal

-- a size is its two sides
pub returns : goal.returns
returns c =
    let of_size = λ (size : Size). let rules : Rules = record { size = size; version = 3; callers = 64 } in rules in
    ap of_size (same_size _ widest.size refl refl)

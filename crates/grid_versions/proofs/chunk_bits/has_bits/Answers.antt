use Rattle.std.specs.Prelude.{bit_and}
use Rattle.std.proofs.lemmas.Bool.{eqb-true}
use Rattle.grid_versions.proofs.BitLemmas.{bit_held}
use Rattle.grid_versions.proofs.chunk_bits.has_bits.Goals as goal

pub returns : goal.returns
returns c = λ same k set.
    bit_held c.args.some c.args.all k (eqb-true (bit_and c.args.some c.args.all) c.args.some same) set

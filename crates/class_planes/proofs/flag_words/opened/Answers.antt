use Rattle.std.proofs.Common.{min, ap, ◌∙◌}
use Rattle.std.specs.Int.{bit_at}
use Rattle.std.proofs.lemmas.Nat.Bits.{bit_at_and}
use Rattle.class_planes.proofs.flag_words.opened.Goals as goal

pub returns : goal.returns
returns c k below =
    bit_at_and c.args.free c.forced_places.result k ∙ ap (min (bit_at c.args.free k)) (c.forced_places.ensures k below)

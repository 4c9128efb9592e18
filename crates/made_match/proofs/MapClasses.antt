-- The classes of the map can be those of a map.
use Rattle.std.proofs.Common.{◌≡◌, true, refl}
use Rattle.std.specs.Fmt.{digits}
use Rattle.class_config.specs.Classes.{is_table}
use Rattle.made_match.specs.Making.{classes}

pub are_table : is_table classes ≡ true
unfolding digits
are_table = refl

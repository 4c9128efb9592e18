-- The items so far are classes, and these stand at the front.
use Rattle.std.proofs.Common.{◌≡◌, ◌≤◌, true, is_some, take, length}
use Rattle.std.specs.List.{filter_map, list_all}
use Rattle.serde_json.specs.View.{view}
use Rattle.class_config.specs.Classes.{class_of}
use Rattle.class_config.proofs.table.gathered.Given as goal

abbrev pub invariant-loop-at : goal.invariant-loop-at
invariant-loop-at l = (take l.at l.classes ≡ filter_map (λ item. class_of (view item)) (take l.at l.items))
    × (list_all (λ item. is_some (class_of (view item))) (take l.at l.items) ≡ true)
    × (length l.classes ≡ 16) × (1 ≤ length l.items) × (length l.items ≤ 16)

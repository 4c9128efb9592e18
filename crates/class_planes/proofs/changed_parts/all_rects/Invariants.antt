use Rattle.std.proofs.Common.{◌≡◌, map, take}
use Rattle.class_planes.specs.declared.changed_parts.ChangedPart.{ChangedPart}
use Rattle.class_planes.proofs.changed_parts.all_rects.Given as goal

abbrev pub invariant-loop-part : goal.invariant-loop-part
invariant-loop-part l = l.rects.items ≡ map (λ (part : ChangedPart). part.rect) (take l.part-index l.parts)

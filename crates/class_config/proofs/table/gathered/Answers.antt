use Rattle.std.proofs.Common.{◌≡◌, ◌+◌, ◌++◌, ◌∷◌, [], ◌∙◌, take, ap, sym, Some, ◌<◌, length, arith}
use Rattle.std.proofs.lemmas.List.{take_more, take_more_set, length-set}
use Rattle.serde_json.specs.View.{view}
use Rattle.class_config.specs.Classes.{class_of}
use Rattle.class_config.proofs.ClassLists.{filter_map-more, gives-more}
use Rattle.class_config.proofs.table.gathered.Goals as goal

pub loop-at-preserved : goal.loop-at-preserved
loop-at-preserved c =
    let items = c.args.items.now in let i = c.loop-at.at in let item = c.index-items-at.result in let class = c.in_ok-classes-2.field-0 in
    let next : take (i + 1) items ≡ take i items ++ item ∷ [] =
    take_more items i item c.loop-at-test.true ∙ ap (λ x. take i items ++ x ∷ []) (sym c.index-items-at.is) in
    let gives : class_of (view item) ≡ Some class = sym c.in_ok-classes-2.ensures in
    let room : i < length c.loop-at.classes = omega (arith, c.loop-at-test.true, c.loop-at.invariant.2, c.loop-at.invariant.4) in (
      take_more_set c.loop-at.classes i class room ∙ filter_map-more (λ item. class_of (view item)) _ _ _ item class next c.loop-at.invariant.0 gives,
      gives-more (λ item. class_of (view item)) _ _ item class next c.loop-at.invariant.1 gives,
      length-set c.loop-at.classes i class ∙ c.loop-at.invariant.2,
      c.loop-at.invariant.3,
      c.loop-at.invariant.4,
    )

use Rattle.std.proofs.Common.{rules, ◌≡◌, ◌<◌, ◌∙◌, length, map, set, Some, option_map, ap, sym, arith}
use Rattle.std.specs.Arc.{arc_value}
use Rattle.std.specs.Prelude.{slice_get}
use Rattle.std.proofs.lemmas.List.{length-map, map-set}
use Rattle.std.proofs.lemmas.Option.{slice_get-map, slice_get-get_or}
use Rattle.shared_list.proofs.blocks.Block.change.Goals as goal

pub returns-clause-changed : goal.returns-clause-changed
returns-clause-changed g c =
    let items = c.self.inside.items.items in
    let view : map arc_value items ≡ c.args.self.now = c.self.view_is in
    let low : c.args.at < length items = omega (arith, c.requires.place, ap (λ xs. length xs) view, length-map items arc_value) in
    record {
      old = c.in-Some.item.now;
      new = c.change.new.arg2;
      here = ap (λ xs. slice_get xs c.args.at) (sym view) ∙ slice_get-map arc_value items c.args.at
          ∙ ap (λ o. option_map arc_value o) (slice_get-get_or items c.args.at c.index_mut.result.now low
          ∙ ap (λ x. Some x) (sym c.index_mut.ensures.value))
          ∙ ap (λ x. Some x) (sym c.in-Some.ensures.value);
      gives = search rules;
      set = map-set arc_value items c.args.at _ ∙ ap (λ xs. set xs c.args.at c.change.new.arg2) view;
    }

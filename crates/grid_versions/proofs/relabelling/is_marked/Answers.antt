use Rattle.std.proofs.Common.{Bool, List, ℕ, ◌∙◌, ap, sym, Some, get_or, option_map}
use Rattle.std.proofs.lemmas.Option.{slice_get-map, slice_get-get_or}
use Rattle.lane_rows.specs.Rows.{has_class}
use Rattle.grid_versions.proofs.relabelling.is_marked.Goals as goal

pub returns : goal.returns
returns c =
    let f = has_class c.args.changed.now.class in
    slice_get-map f c.args.changed.now.bits.now c.args.place ∙ ap (λ o. option_map f o) (slice_get-get_or c.args.changed.now.bits.now c.args.place 0 c.requires)
    ∙ ap (λ (bits : List ℕ). Some (f (get_or bits c.args.place 0))) (sym c.bits.ensures) ∙ ap (λ (b : Bool). Some b) (sym c.has_bit.ensures)

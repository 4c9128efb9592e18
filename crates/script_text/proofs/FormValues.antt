-- What the values in lines come down to.
use Rattle.std.proofs.Common.{◌≡◌, ℕ, ◌==◌, List, length, map, false, Option, Some, None, option_map, refl, ap, sym, ◌∙◌}
use Rattle.std.specs.Prelude.{◌↔◌, IsSome, IfSome}
use Rattle.std.specs.Option.{option_map_or}
use Rattle.std.proofs.lemmas.List.{length-map}
use Rattle.class_config.proofs.ClassLists.{list_of-items_of}
use Rattle.nav_types.proofs.Sizes.{same_size}
use Rattle.nav_types.specs.declared.cells.Size.{Size}
use Rattle.nav_types.specs.Side.{IsSide}
use Rattle.serde_json.specs.Data.{Data}
use Rattle.serde_json.specs.Find.{as_array}
use Rattle.serde_json.specs.View.{view, items_view}
use Rattle.serde_json.specs.declared.value.Value.{Value}
use Rattle.class_config.specs.Classes.{list_of}
use Rattle.script_text.specs.Values.{array_items, has_items, size_by}

-- ---- arrays

-- the items of an array are the data of its values
pub array_items-values : (d : Data) (values : List Value) → Some (items_view values) ≡ as_array d → Some (map view values) ≡ array_items d
unfolding array_items
array_items-values d values e = ap Some (sym (list_of-items_of (map view values))) ∙ ap (option_map list_of) e

-- there are as many items as values
pub has_items-values : (d : Data) (values : List Value) (size count : ℕ) → Some (map view values) ≡ array_items d → size ≡ length values
    → (size == count) ≡ has_items count d
unfolding has_items
has_items-values d values size count e is =
    ap (λ n. n == count) (is ∙ sym (length-map values view)) ∙ ap (λ found. option_map_or (λ items. length items == count) found false) e

-- ---- sizes

pub size_by-is : (w h : ℕ) (wide : Dec (IsSide w)) (high : Dec (IsSide h)) (made : Option Size) → (IsSome made ↔ (IsSide w × IsSide h))
    → IfSome made (λ size. size.w ≡ w) → IfSome made (λ size. size.h ≡ h) → made ≡ size_by w h wide high
size_by-is w h (yes wide) (yes high) (Some size) both columns rows = ap Some (same_size size (record { w = w; h = h; wide = wide; high = high }) columns rows)
size_by-is w h (yes wide) (yes high) None both columns rows = let some = both.1 (wide, high) in absurd (cc)
size_by-is w h (yes wide) (no low) (Some size) both columns rows = absurd (low (both.0 refl).1)
size_by-is w h (yes wide) (no low) None both columns rows = refl
size_by-is w h (no narrow) high (Some size) both columns rows = absurd (narrow (both.0 refl).0)
size_by-is w h (no narrow) high None both columns rows = refl

pub size_by-none : (w h : ℕ) (wide : Dec (IsSide w)) (high : Dec (IsSide h)) → (IsSide w → IsSide h → ⊥) → None ≡ size_by w h wide high
size_by-none w h (yes wide) (yes high) not = absurd (not wide high)
size_by-none w h (yes wide) (no low) not = refl
size_by-none w h (no narrow) high not = refl

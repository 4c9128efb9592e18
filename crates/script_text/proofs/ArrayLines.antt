-- A line is told to be an array exactly where it is one.
use Rattle.std.proofs.Common.{◌≡◌, ◌↔◌, ℕ, ◌&&◌, List, [], ◌∷◌, Bool, true, false, cond, nat_le, Option, Some, None, is_some, inl, inr, refl, ap, ◌∙◌}
use Rattle.std.specs.Prelude.{IsTrue}
use Rattle.serde_json.specs.Data.{Data, null, boolean, number, string, array, object, Items}
use Rattle.script_text.specs.declared.parts.Part.{Part}
use Rattle.script_text.specs.declared.parts.Part.TheVariants.{BeforeMap, InBase, InTurns}
use Rattle.script_text.specs.declared.table.Form.{Form}
use Rattle.script_text.specs.declared.table.Form.TheVariants as form
use Rattle.script_text.specs.declared.causes.Cause.TheVariants.{ArrayLine}
use Rattle.script_text.specs.Table.{form_of}
use Rattle.script_text.specs.TrueCauses.{HasOneOf, keys_of_forms, HasNoForm}
use Rattle.script_text.specs.Causes.{is_array, unknown_key, named_form, named_in, version_of, strange_cause, no_form_cause, cause_by, first_version, value_cause}
use Rattle.script_text.proofs.TrueCauses.{is_form, no_first, true_causes}

-- an array has the keys of no form
no_keys : (items : Items) (lists : List (List (List ℕ))) → HasOneOf lists (array items) → ⊥
no_keys items [] has = has
no_keys items (keys ∷ lists) (inl (values, is)) = let same = is.is in absurd (cc)
no_keys items (keys ∷ lists) (inr later) = no_keys items lists later

no_form : (items : Items) → HasNoForm (array items)
no_form items version has = no_keys items (keys_of_forms version) has

-- none of its keys names a form
unnamed : (version : ℕ) (items : Items) → named_form version (array items) ≡ None
unnamed version items = by_moves (nat_le 3 version)
  where
    by_moves : (moves : Bool) → cond (moves && false) (Some form.Move) None ≡ None
    by_moves true = refl
    by_moves false = refl

no_key : (items : Items) → unknown_key (array items) ≡ None
unfolding unknown_key
no_key items = refl

told : (part : Part) (items : Items) (first : Option ℕ) → first ≡ None → no_form_cause part first (array items) ≡ ArrayLine
told part items (Some first) e = absurd (cc)
told BeforeMap items None e = ap (λ key. strange_cause key (version_of BeforeMap) (named_in BeforeMap (array items)) (array items)) (no_key items)
told (InBase rules) items None e = ap (λ key. strange_cause key rules.version (named_form rules.version (array items)) (array items)) (no_key items)
    ∙ ap (λ named. strange_cause None rules.version named (array items)) (unnamed rules.version items)
told (InTurns rules) items None e = ap (λ key. strange_cause key rules.version (named_form rules.version (array items)) (array items)) (no_key items)
    ∙ ap (λ named. strange_cause None rules.version named (array items)) (unnamed rules.version items)

array_told : (part : Part) (turn : ℕ) (items : Items) → value_cause part turn (array items) ≡ Some ArrayLine
array_told part turn items = by_form (form_of (version_of part) (array items)) refl
  where
    by_form : (found : Option Form) → form_of (version_of part) (array items) ≡ found → cause_by part turn (array items) found ≡ Some ArrayLine
    by_form None e = ap Some (told part items (first_version (array items)) (no_first (array items) (no_form items)))
    by_form (Some f) e = absurd (no_form items (version_of part) (is_form (version_of part) (array items) (ap is_some e)))

pub array_lines : (part : Part) (turn : ℕ) (d : Data) → (value_cause part turn d ≡ Some ArrayLine) ↔ IsTrue (is_array d)
array_lines part turn d = (λ e. let true_of = true_causes part turn d ArrayLine e in true_of.1, λ is. by_value d is)
  where
    by_value : (value : Data) → is_array value ≡ true → value_cause part turn value ≡ Some ArrayLine
    by_value null is = absurd (cc)
    by_value (boolean b) is = absurd (cc)
    by_value (number n) is = absurd (cc)
    by_value (string s) is = absurd (cc)
    by_value (array items) is = array_told part turn items
    by_value (object _) is = absurd (cc)

-- The canonical text of a line, key by key.
use Rattle.std.proofs.Common.{◌≡◌, ℕ, ◌≤◌, ◌<◌, List, [], ◌∷◌, ◌++◌, length, map, drop, Bool, refl, ap, sym, ◌∙◌, arith, inl, inr, min}
use Rattle.std.specs.Prelude.{zip}
use Rattle.std.proofs.lemmas.Bool.Decides.{leb_tells}
use Rattle.std.proofs.lemmas.List.{drop_all}
use Rattle.serde_json.specs.Data.{Members, no_members}
use Rattle.serde_json.specs.Written.{members_text}
use Rattle.script_text.specs.declared.canon.form_lines.LineValue.{LineValue}
use Rattle.script_text.specs.declared.causes.keys.Key.{Key}
use Rattle.script_text.specs.Canon.{in_order}
use Rattle.script_text.specs.Table.{key_text}
use Rattle.script_text.specs.inner.LineValues.{AreLineValues, value_json}

-- ---- the members of an object

-- those of these keys, each with its value
abbrev pub members_of : List Key → List LineValue → Members
members_of keys values = in_order (zip (map key_text keys) (map value_json values))

-- behind the last key, and behind the last value, nothing follows
abbrev pub AreEnded : List Key → List LineValue → Type 0
AreEnded keys values = (members_of keys values ≡ no_members) × AreLineValues keys values

no_keys : (keys : List Key) (values : List LineValue) → keys ≡ [] → AreEnded keys values
no_keys [] values e = (refl, tt)
no_keys (key ∷ keys) values e = absurd (cc)

no_values : (keys : List Key) (values : List LineValue) → values ≡ [] → AreEnded keys values
no_values [] [] e = (refl, tt)
no_values (key ∷ keys) [] e = (refl, tt)
no_values keys (value ∷ values) e = absurd (cc)

pub members-ended : (keys : List Key) (values : List LineValue) (n end : ℕ) → end ≤ n → end ≡ min (length keys) (length values)
    → AreEnded (drop n keys) (drop n values)
members-ended keys values n end past is = elim (leb_tells (length keys) (length values)) [
  | inl h ↦ let few : length keys ≤ length values = h.1 in no_keys (drop n keys) (drop n values) (drop_all n keys (omega (arith, past, is, few)))
  | inr h ↦ let few : length values < length keys = h.1 in no_values (drop n keys) (drop n values) (drop_all n values (omega (arith, past, is, few)))
]

-- the whole line
pub line-ended : (keys : List Key) (values : List LineValue) (n end : ℕ) (later : Bool) (now closed all : List ℕ) → end ≤ n → end ≡ min (length keys) (length values)
    → closed ≡ now ++ 125 ∷ [] → now ++ members_text later (members_of (drop n keys) (drop n values)) ≡ all → closed ≡ all
line-ended keys values n end later now closed all past is last so_far =
    last ∙ ap (λ (ms : Members). now ++ members_text later ms) (sym (members-ended keys values n end past is).0) ∙ so_far

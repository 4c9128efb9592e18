-- What a cause says of a line is true of it.
use Rattle.std.proofs.Common.{◌≡◌, ◌≢◌, inl, inr, ℕ, ◌+◌, ◌≤◌, ◌&&◌, ◌||◌, List, [], ◌∷◌, ◌++◌, length, Bool, true, false, not, cond, Option, Some, None, option_and_then, refl, ap, sym, subst, ◌∙◌, arith, nat_le, nat_lt}
use Rattle.std.specs.Prelude.{◌⊎◌, codes, map, is_some, bytes_eq, All, IsSome}
use Rattle.std.specs.List.{list_any, find}
use Rattle.std.proofs.lemmas.Bool.{and_parts, and_from, ltb-false, le-leb, leb-true}
use Rattle.std.proofs.lemmas.List.Elements.{All-cons, All-nil}
use Rattle.std.proofs.lemmas.Slice.Eq.{bytes_eq-Decides}
use Rattle.serde_json.specs.Data.{Data, null, boolean, number, string, array, object, Members, no_members, member}
use Rattle.serde_json.specs.Find.{get, get_member}
use Rattle.nav_types.specs.declared.cells.Rect.{Rect}
use Rattle.nav_types.specs.declared.cells.Size.{Size}
use Rattle.class_config.specs.Forms.{has_keys, keys_of as names_of}
use Rattle.script_text.specs.declared.parts.Part.{Part}
use Rattle.script_text.specs.declared.parts.Part.TheVariants.{BeforeMap, InBase, InTurns}
use Rattle.script_text.specs.declared.causes.Cause.{Cause}
use Rattle.script_text.specs.declared.causes.Cause.TheVariants.{ArrayLine, NoSuchForm, WrongValue, WrongRectangle, MissingMask, LaterVersion, NotHere}
use Rattle.script_text.specs.declared.causes.keys.Key.{Key}
use Rattle.script_text.specs.declared.causes.keys.Wanted.{Wanted}
use Rattle.script_text.specs.declared.causes.keys.Wanted.TheVariants.{Whole, Caller, Turn, Sides, Classes, Rectangles, ClassName, TwoDecimals, ThreeDecimals, SixDecimals, NumberAndDecimal, Goal}
use Rattle.script_text.specs.declared.causes.keys.Key.TheVariants.{Mask}
use Rattle.script_text.specs.declared.table.Form.{Form}
use Rattle.script_text.specs.declared.table.Form.TheVariants as form
use Rattle.script_text.specs.Table.{key_text, line_keys, forms, keys_by, keys_of, stands_by, stands_in, texts_of, has_form, form_of, widest}
use Rattle.script_text.specs.declared.causes.wrong_values.FormField.{FormField}
use Rattle.script_text.specs.Values.{under, array_items}
use Rattle.script_text.specs.Forms.{entry_of}
use Rattle.script_text.specs.Goals.{goal_of}
use Rattle.script_text.specs.Grammar.{IsObject, IsEntry, bare_add_keys, add_keys, move_keys, path_keys, region_keys}
use Rattle.script_text.specs.Causes.{is_wanted, is_right, first_wrong, fields_of, is_no_entry, wrong_items, wrong_array, wrong_by, wrong_value, first_version, is_map, is_base, form_cause, is_unknown, unknown_key, first_missing, named_in, first_surplus, unfit_by, is_array, unfit_cause, strange_cause, other_version, no_form_cause, version_of, cause_by, value_cause}
use Rattle.script_text.specs.TrueCauses.{HasOneOf, both_adds, HasForm, HasNoForm, IsStrange, IsTrueOf}
use Rattle.script_text.proofs.Members.{open_keys, has_keys-object, get-here, get-there, by_key}
use Rattle.script_text.proofs.GrammarLines.{entry-from}
use Rattle.script_text.proofs.GoalTable.{by_test, goal_true}
use Rattle.script_text.proofs.StrangeKeys.{found-passes}
use Rattle.script_text.proofs.FormTable.{not_true, texts_distinct, form_keys, some_has, form_found}

-- ---- the keys of forms

-- the keys of an add line as the table has them, and as the grammar has them
mask_texts : (masks : Bool) → map key_text (cond masks (Mask ∷ []) []) ≡ cond masks (codes "mask" ∷ []) []
mask_texts true = refl
mask_texts false = refl

add_texts : (version : ℕ) (shape : List ℕ) → ◌≡◌ {A = List (List ℕ)} (codes "caller" ∷ codes "add" ∷ shape ∷ map key_text (cond (nat_le 2 version) (Mask ∷ []) [])) (add_keys version shape)
add_texts version shape = ap (λ (more : List (List ℕ)). codes "caller" ∷ codes "add" ∷ shape ∷ more) (mask_texts (nat_le 2 version))

-- an object with exactly these keys
abbrev Has : List (List ℕ) → Data → Type 0
Has keys d = (values : List Data) × IsObject keys values d

opened : (version : ℕ) (d : Data) (f : Form) → has_form version d f ≡ true → Has (texts_of version f) d
opened version d f has = let found = open_keys (texts_of version f) d (texts_distinct version f) (form_keys version d f has) in (found.values, found.is)

closed : (version : ℕ) (d : Data) (f : Form) → stands_in version f ≡ true → Has (texts_of version f) d → is_some (form_of version d) ≡ true
closed version d f stands has =
    ap is_some (form_found version d f (and_from (stands_in version f) (has_keys (texts_of version f) d) stands
    (has_keys-object (texts_of version f) has.0 d (texts_distinct version f) has.1)))

-- a value with the keys of a form in the table has those of one in the grammar
in_forms : (version : ℕ) (d : Data) (f : Form) → has_form version d f ≡ true → HasForm version d
in_forms version d form.Map has = inl (opened version d form.Map has)
in_forms version d form.Base has = inr (inl (opened version d form.Base has))
in_forms version d form.End has = inr (inr (inl (opened version d form.End has)))
in_forms version d form.AddUnit has =
    inr (inr (inr (inl (subst (λ keys. Has keys d) (add_texts version (codes "unit")) (opened version d form.AddUnit has)))))
in_forms version d form.AddSquare has =
    inr (inr (inr (inr (inl (subst (λ keys. Has keys d) (add_texts version (codes "square")) (opened version d form.AddSquare has))))))
in_forms version d form.Remove has = inr (inr (inr (inr (inr (inl (opened version d form.Remove has))))))
in_forms version d form.Move has = inr (inr (inr (inr (inr (inr (by_moves (nat_le 3 version) (and_parts (nat_le 3 version) _ has).0))))))
  where
    by_moves : (b : Bool) → b ≡ true → HasOneOf (cond b (move_keys ∷ path_keys ∷ region_keys ∷ []) (path_keys ∷ region_keys ∷ [])) d
    by_moves true e = inl (opened version d form.Move has)
    by_moves false e = absurd (cc)
in_forms version d form.Path has = inr (inr (inr (inr (inr (inr (by_moves (nat_le 3 version)))))))
  where
    by_moves : (b : Bool) → HasOneOf (cond b (move_keys ∷ path_keys ∷ region_keys ∷ []) (path_keys ∷ region_keys ∷ [])) d
    by_moves true = inr (inl (opened version d form.Path has))
    by_moves false = inl (opened version d form.Path has)
in_forms version d form.Region has = inr (inr (inr (inr (inr (inr (by_moves (nat_le 3 version)))))))
  where
    by_moves : (b : Bool) → HasOneOf (cond b (move_keys ∷ path_keys ∷ region_keys ∷ []) (path_keys ∷ region_keys ∷ [])) d
    by_moves true = inr (inr (inl (opened version d form.Region has)))
    by_moves false = inr (inl (opened version d form.Region has))

pub is_form : (version : ℕ) (d : Data) → is_some (form_of version d) ≡ true → HasForm version d
is_form version d some = by_form (form_of version d) refl some
  where
    by_form : (o : Option Form) → form_of version d ≡ o → is_some o ≡ true → HasForm version d
    by_form None e is = absurd (cc)
    by_form (Some f) e is = in_forms version d f (some_has version d f e)

-- and the other way round
form_is : (version : ℕ) (d : Data) → HasForm version d → is_some (form_of version d) ≡ true
form_is version d (inl has) = closed version d form.Map refl has
form_is version d (inr (inl has)) = closed version d form.Base refl has
form_is version d (inr (inr (inl has))) = closed version d form.End refl has
form_is version d (inr (inr (inr (inl has)))) = closed version d form.AddUnit refl (subst (λ keys. Has keys d) (sym (add_texts version (codes "unit"))) has)
form_is version d (inr (inr (inr (inr (inl has))))) = closed version d form.AddSquare refl (subst (λ keys. Has keys d) (sym (add_texts version (codes "square"))) has)
form_is version d (inr (inr (inr (inr (inr (inl has)))))) = closed version d form.Remove refl has
form_is version d (inr (inr (inr (inr (inr (inr newer)))))) = by_moves (nat_le 3 version) refl newer
  where
    asked : HasOneOf (path_keys ∷ region_keys ∷ []) d → is_some (form_of version d) ≡ true
    asked (inl has) = closed version d form.Path refl has
    asked (inr (inl has)) = closed version d form.Region refl has
    asked (inr (inr none)) = absurd none

    by_moves : (b : Bool) → nat_le 3 version ≡ b → HasOneOf (cond b (move_keys ∷ path_keys ∷ region_keys ∷ []) (path_keys ∷ region_keys ∷ [])) d → is_some (form_of version d) ≡ true
    by_moves true moves (inl has) = closed version d form.Move moves has
    by_moves true moves (inr later) = asked later
    by_moves false none later = asked later

-- ---- the first version

-- what the first version says of the value
abbrev FirstIs : Data → Option ℕ → Type 0
FirstIs d None = (is_some (form_of 1 d) ≡ false) × (is_some (form_of 2 d) ≡ false) × (is_some (form_of 3 d) ≡ false)
FirstIs d (Some first) = is_some (form_of first d) ≡ true

first_is : (d : Data) → FirstIs d (first_version d)
first_is d = by_forms _ _ _ refl refl refl
  where
    by_forms : (a b c : Bool) → is_some (form_of 1 d) ≡ a → is_some (form_of 2 d) ≡ b → is_some (form_of 3 d) ≡ c → FirstIs d (cond a (Some 1) (cond b (Some 2) (cond c (Some 3) None)))
    by_forms true b c e f g = e
    by_forms false true c e f g = f
    by_forms false false true e f g = g
    by_forms false false false e f g = (e, f, g)

-- the form that is found where add lines have masks or have none, and where there are moves or none
abbrev found_by : Bool → Bool → Data → Option Form
found_by masks moves d = find (λ f. stands_by moves f && has_keys (map key_text (keys_by masks f)) d) forms

third_has_masks : (version : ℕ) → nat_le 3 version ≡ true → nat_le 2 version ≡ true
third_has_masks version e = le-leb 2 version (omega (arith, leb-true 3 version e))

-- a version is as the first, the second or the third
none_by : (d : Data) (masks moves : Bool) → (moves ≡ true → masks ≡ true) → FirstIs d None → is_some (found_by masks moves d) ≡ false
none_by d false false later none = none.0
none_by d true false later none = none.1
none_by d true true later none = none.2
none_by d false true later none = let t = later refl in absurd (cc)

no_form : (d : Data) → FirstIs d None → HasNoForm d
no_form d none version has =
    let some = form_is version d has in
    let nothing : is_some (form_of version d) ≡ false = none_by d (nat_le 2 version) (nat_le 3 version) (third_has_masks version) none in absurd (cc)

-- ---- an add line without a mask

-- of the forms of an older version only the add lines are lost
mask_lost : (version first : ℕ) (d : Data) → is_some (form_of version d) ≡ false → is_some (form_of first d) ≡ true → first ≤ version → HasOneOf (both_adds 1) d
mask_lost version first d none some le = by_form (form_of first d) refl some
  where
    -- each other form would be found in the later version too
    stays : (f : Form) → has_form version d f ≡ true → HasOneOf (both_adds 1) d
    stays f has = let there = ap is_some (form_found version d f has) in absurd (cc)

    lost : (f : Form) → (masks : Bool) → nat_le 2 first ≡ masks → stands_in version f ≡ true → has_keys (map key_text (keys_by masks f)) d ≡ true
        → (has_keys (map key_text (keys_by false f)) d ≡ true → HasOneOf (both_adds 1) d) → HasOneOf (both_adds 1) d
    lost f true is stands has bare =
        let later : nat_le 2 version ≡ true = le-leb 2 version (omega (arith, leb-true 2 first is, le)) in
        let now : has_keys (texts_of version f) d ≡ true = ap (λ masks. has_keys (map key_text (keys_by masks f)) d) later ∙ has in
        stays f (and_from (stands_in version f) (has_keys (texts_of version f) d) stands now)
    lost f false is stands has bare = bare has

    in_form : (f : Form) → has_form first d f ≡ true → HasOneOf (both_adds 1) d
    in_form form.AddUnit has = lost form.AddUnit (nat_le 2 first) refl refl has (λ bare. let o = open_keys (bare_add_keys (codes "unit")) d refl bare in inl (o.values, o.is))
    in_form form.AddSquare has = lost form.AddSquare (nat_le 2 first) refl refl has (λ bare. let o = open_keys (bare_add_keys (codes "square")) d refl bare in inr (inl (o.values, o.is)))
    in_form form.Move has =
        let parts = and_parts (nat_le 3 first) (has_keys move_keys d) has in
        let later : nat_le 3 version ≡ true = le-leb 3 version (omega (arith, leb-true 3 first parts.0, le)) in
        stays form.Move (and_from (nat_le 3 version) (has_keys move_keys d) later parts.1)
    in_form form.Map has = stays form.Map has
    in_form form.Base has = stays form.Base has
    in_form form.End has = stays form.End has
    in_form form.Remove has = stays form.Remove has
    in_form form.Path has = stays form.Path has
    in_form form.Region has = stays form.Region has

    by_form : (o : Option Form) → form_of first d ≡ o → is_some o ≡ true → HasOneOf (both_adds 1) d
    by_form None e is = absurd (cc)
    by_form (Some f) e is = in_form f (some_has first d f e)

-- ---- keys of no form

either_false : (a b : Bool) → (a || b) ≡ false → (a ≡ false) × (b ≡ false)
either_false true b e = absurd (cc)
either_false false b e = (refl, e)

none_of : (ks : List Key) (name : List ℕ) → list_any (λ k. bytes_eq name (key_text k)) ks ≡ false → All (λ (k : Key). name ≢ key_text k) ks
none_of [] name e = All-nil (λ (k : Key). name ≢ key_text k)
none_of (k ∷ ks) name e =
    let parts = either_false (bytes_eq name (key_text k)) (list_any (λ l. bytes_eq name (key_text l)) ks) e in
    All-cons (λ (l : Key). name ≢ key_text l) k ks (λ same. let t : bytes_eq name (key_text k) ≡ true = (bytes_eq-Decides name (key_text k)).1 same in absurd (cc)) (none_of ks name parts.1)

there : (ms : Members) (name : List ℕ) → find is_unknown (names_of ms) ≡ Some name → (value : Data) × (get_member name ms ≡ Some value)
there no_members name e = absurd (cc)
there (member k d ms) name e = by_find (is_unknown k) (there ms name) e
  where
    here : name ≡ k → (value : Data) × (get_member name (member k d ms) ≡ Some value)
    here same = (d, ap (λ n. get_member n (member k d ms)) same ∙ get-here k d ms)

    by_find : (b : Bool) → (find is_unknown (names_of ms) ≡ Some name → (value : Data) × (get_member name ms ≡ Some value))
        → cond b (Some k) (find is_unknown (names_of ms)) ≡ Some name → (value : Data) × (get_member name (member k d ms) ≡ Some value)
    by_find true rest h = let same : name ≡ k = cc in here same
    by_find false rest h = by_key name k here (λ differ. let later = rest h in (later.0, get-there name k d ms differ ∙ later.1))

unknown_true : (d : Data) (name : List ℕ) → unknown_key d ≡ Some name → ((value : Data) × (get name d ≡ Some value)) × All (λ (k : Key). name ≢ key_text k) line_keys
unfolding unknown_key
unknown_true null name e = absurd (cc)
unknown_true (boolean b) name e = absurd (cc)
unknown_true (number n) name e = absurd (cc)
unknown_true (string s) name e = absurd (cc)
unknown_true (array ds) name e = absurd (cc)
unknown_true (object ms) name e =
    let passes = and_parts _ _ (found-passes is_unknown (names_of ms) name e) in
    (there ms name e, none_of line_keys name (not_true _ passes.1))

missing_true : (ks : List Key) (d : Data) (k : Key) → first_missing ks d ≡ Some k → get (key_text k) d ≡ None
missing_true [] d k e = absurd (cc)
missing_true (l ∷ ks) d k e = by_found (get (key_text l) d) refl (missing_true ks d k) e
  where
    by_found : (o : Option Data) → get (key_text l) d ≡ o → (first_missing ks d ≡ Some k → get (key_text k) d ≡ None)
        → cond (is_some o) (first_missing ks d) (Some l) ≡ Some k → get (key_text k) d ≡ None
    by_found (Some v) at rest h = rest h
    by_found None at rest h = let same : l ≡ k = cc in ap (λ m. get (key_text m) d) (sym same) ∙ at

surplus_true : (among keys : List Key) (d : Data) (k : Key) → first_surplus among keys d ≡ Some k → IsSome (get (key_text k) d)
surplus_true [] keys d k e = absurd (cc)
surplus_true (l ∷ ls) keys d k e = by_test (surplus_true ls keys d k) (is_some (get (key_text l) d)) refl (list_any (λ one. bytes_eq (key_text l) (key_text one)) keys) e
  where
    by_test : (first_surplus ls keys d ≡ Some k → IsSome (get (key_text k) d)) → (here : Bool) → is_some (get (key_text l) d) ≡ here → (among : Bool)
        → cond (here && not among) (Some l) (first_surplus ls keys d) ≡ Some k → IsSome (get (key_text k) d)
    by_test rest true is false h = let same : l ≡ k = cc in subst (λ j. IsSome (get (key_text j) d)) same is
    by_test rest true is true h = rest h
    by_test rest false is among h = rest h

unfit_true : (version : ℕ) (named : Option Form) (d : Data) → HasNoForm d → IsTrueOf d (unfit_cause version named d)
unfit_true version None d none = by_array (is_array d) refl
  where
    by_array : (b : Bool) → is_array d ≡ b → IsTrueOf d (cond b ArrayLine NoSuchForm)
    by_array true is = (none, is)
    by_array false other = none
unfit_true version (Some f) d none = by_keys (first_missing (keys_of version f) d) refl (first_surplus line_keys (keys_of version f) d) refl
  where
    by_keys : (missing : Option Key) → first_missing (keys_of version f) d ≡ missing → (surplus : Option Key) → first_surplus line_keys (keys_of version f) d ≡ surplus
        → IsTrueOf d (unfit_by missing surplus)
    by_keys (Some k) h surplus e = (none, missing_true (keys_of version f) d k h)
    by_keys None h (Some k) e = (none, surplus_true line_keys (keys_of version f) d k e)
    by_keys None h None e = none

strange_true : (version : ℕ) (named : Option Form) (d : Data) → HasNoForm d → IsTrueOf d (strange_cause (unknown_key d) version named d)
strange_true version named d none = by_keys (unknown_key d) refl
  where
    by_keys : (unknown : Option (List ℕ)) → unknown_key d ≡ unknown → IsTrueOf d (strange_cause unknown version named d)
    by_keys (Some name) e = (none, unknown_true d name e)
    by_keys None e = unfit_true version named d none

-- ---- rectangles

-- the first item that is no rectangle
record Found (size : Size) (i : ℕ) (items : List Data) (place : ℕ) : Type 0 where
  before : List Data
  item : Data
  after : List Data
  split : items ≡ before ++ item ∷ after
  at : place ≡ i + length before
  right : All (λ entry. IsSome (entry_of size entry)) before
  wrong : is_no_entry size item ≡ true

some_entry : (size : Size) (d : Data) → is_no_entry size d ≡ false → IsSome (entry_of size d)
some_entry size d e = by_entry (entry_of size d) e
  where
    by_entry : (o : Option (Rect × ℕ)) → not (is_some o) ≡ false → IsSome o
    by_entry None h = absurd (cc)
    by_entry (Some entry) h = refl

-- what the items say: none is told, or the first
abbrev Says : Size → FormField → ℕ → List Data → Cause → Type 0
Says size f before items c = (c ≡ WrongValue f.key f.wanted) ⊎ ((place : ℕ) × (c ≡ WrongRectangle (place + 1) size) × Found size before items place)

found_from : (size : Size) (f : FormField) (before : ℕ) (items : List Data) → Says size f before items (wrong_items size f before items)
found_from size f before [] = inl refl
found_from size f before (d ∷ items) = by_entry (is_no_entry size d) refl (found_from size f (before + 1) items)
  where
    Right : Data → Type 0
    Right entry = IsSome (entry_of size entry)

    by_entry : (b : Bool) → is_no_entry size d ≡ b → Says size f (before + 1) items (wrong_items size f (before + 1) items)
        → Says size f before (d ∷ items) (cond b (WrongRectangle (before + 1) size) (wrong_items size f (before + 1) items))
    by_entry true wrong rest =
        inr (before, refl, record { before = []; item = d; after = items; split = refl; at = omega arith; right = All-nil Right; wrong = wrong })
    by_entry false right (inl none) = inl none
    by_entry false right (inr found) = let later = found.2 in
        inr (
          found.0,
          found.1,
          record {
            before = d ∷ later.before;
            item = later.item;
            after = later.after;
            split = ap (λ l. d ∷ l) later.split;
            at = omega (arith, later.at);
            right = All-cons Right d later.before (some_entry size d right) later.right;
            wrong = later.wrong;
          },
        )

no_entry : (size : Size) (d : Data) → is_no_entry size d ≡ true → (entry : Rect × ℕ) → IsEntry size entry d → ⊥
no_entry size d none entry is = let t = ap (λ o. not (is_some o)) (entry-from size d entry is) in absurd (cc)

items_true : (d : Data) (f : FormField) (size : Size) (items : Option (List Data)) → under array_items (key_text f.key) d ≡ items → is_right f d ≡ false
    → IsTrueOf d (wrong_array size items f)
items_true d f size None at wrong = inl wrong
items_true d f size (Some items) at wrong = by_items (wrong_items size f 0 items) (found_from size f 0 items)
  where
    by_items : (c : Cause) → Says size f 0 items c → IsTrueOf d c
    by_items c (inl none) = subst (IsTrueOf d) (sym none) (inl wrong)
    by_items c (inr told) = let found = told.2 in
        subst (IsTrueOf d) (sym told.1) (record {
          key = key_text f.key;
          before = found.before;
          item = found.item;
          after = found.after;
          items = at ∙ ap Some found.split;
          numbered = omega (arith, found.at);
          right = found.right;
          wrong = no_entry size found.item found.wrong;
        })

-- ---- fields

wrong_true : (d : Data) (f : FormField) (w : Wanted) (found : Option Data) → get (key_text f.key) d ≡ found → f.wanted ≡ w → is_right f d ≡ false → IsTrueOf d (wrong_by f w d found)
wrong_true d f (Goal version) (Some g) at same wrong =
    let Right : Wanted → Type 0 = λ w. is_wanted w (key_text f.key) d ≡ false in
    let none : is_some (under (goal_of version) (key_text f.key) d) ≡ false = subst Right same wrong in
    goal_true version f d g (key_text f.key) at (inl wrong) (ap (λ o. is_some (option_and_then (goal_of version) o)) (sym at) ∙ none)
wrong_true d f (Goal version) None at same wrong = inl wrong
wrong_true d f (Whole least most) found at same wrong = inl wrong
wrong_true d f (Caller callers) found at same wrong = inl wrong
wrong_true d f (Turn turn) found at same wrong = inl wrong
wrong_true d f Sides found at same wrong = inl wrong
wrong_true d f Classes found at same wrong = inl wrong
wrong_true d f (Rectangles size) None at same wrong = items_true d f size (under array_items (key_text f.key) d) refl wrong
wrong_true d f (Rectangles size) (Some g) at same wrong = items_true d f size (under array_items (key_text f.key) d) refl wrong
wrong_true d f ClassName found at same wrong = inl wrong
wrong_true d f TwoDecimals found at same wrong = inl wrong
wrong_true d f ThreeDecimals found at same wrong = inl wrong
wrong_true d f SixDecimals found at same wrong = inl wrong
wrong_true d f NumberAndDecimal found at same wrong = inl wrong

-- the cause that is found, if there is one, is true
abbrev Tells : Data → Option Cause → Type 0
Tells d found = (c : Cause) → found ≡ Some c → IsTrueOf d c

some_tells : (d : Data) (c : Cause) → IsTrueOf d c → Tells d (Some c)
some_tells d c is k e = let same : c ≡ k = cc in subst (IsTrueOf d) same is

fields_tell : (fs : List FormField) (d : Data) → Tells d (first_wrong fs d)
fields_tell [] d = λ c e. absurd (cc)
fields_tell (f ∷ fs) d = by_right (fields_tell fs d) (is_right f d) refl
  where
    by_right : Tells d (first_wrong fs d) → (b : Bool) → is_right f d ≡ b → Tells d (cond b (first_wrong fs d) (Some (wrong_value f d)))
    by_right rest true right = rest
    by_right rest false wrong = some_tells d (wrong_value f d) (wrong_true d f f.wanted (get (key_text f.key) d) refl refl wrong)

-- ---- lines

choose : (d : Data) (b : Bool) (o p : Option Cause) → Tells d o → Tells d p → Tells d (cond b o p)
choose d true o p here elsewhere = here
choose d false o p here elsewhere = elsewhere

form_tells : (part : Part) (turn : ℕ) (d : Data) (f : Form) → IsTrueOf d NotHere → Tells d (form_cause part turn d f)
form_tells BeforeMap turn d f known = choose d (is_map f) (first_wrong (fields_of widest turn f) d) (Some NotHere) (fields_tell (fields_of widest turn f) d) (some_tells d NotHere known)
form_tells (InBase rules) turn d f known = choose d (is_map f) (Some NotHere) (first_wrong (fields_of rules turn f) d) (some_tells d NotHere known) (fields_tell (fields_of rules turn f) d)
form_tells (InTurns rules) turn d f known = choose d (is_map f || is_base f) (Some NotHere) (first_wrong (fields_of rules turn f) d) (some_tells d NotHere known) (fields_tell (fields_of rules turn f) d)

other_true : (d : Data) (version first : ℕ) → is_some (form_of version d) ≡ false → is_some (form_of first d) ≡ true → IsTrueOf d (other_version version first)
other_true d version first none some =
    by_test d (nat_lt version first) (LaterVersion first) MissingMask (λ early. inl (is_form first d some)) (λ late. mask_lost version first d none some (ltb-false version first late))

no_form_true : (part : Part) (first : Option ℕ) (d : Data) → FirstIs d first → is_some (form_of (version_of part) d) ≡ false → IsTrueOf d (no_form_cause part first d)
no_form_true BeforeMap None d is none = strange_true (version_of BeforeMap) (named_in BeforeMap d) d (no_form d is)
no_form_true (InBase rules) None d is none = strange_true (version_of (InBase rules)) (named_in (InBase rules) d) d (no_form d is)
no_form_true (InTurns rules) None d is none = strange_true (version_of (InTurns rules)) (named_in (InTurns rules) d) d (no_form d is)
no_form_true BeforeMap (Some first) d is none = (first, is_form first d is)
no_form_true (InBase rules) (Some first) d is none = other_true d rules.version first none is
no_form_true (InTurns rules) (Some first) d is none = other_true d rules.version first none is

pub true_causes : (part : Part) (turn : ℕ) (d : Data) (c : Cause) → value_cause part turn d ≡ Some c → IsTrueOf d c
true_causes part turn d = by_form (form_of (version_of part) d) refl
  where
    by_form : (found : Option Form) → form_of (version_of part) d ≡ found → Tells d (cause_by part turn d found)
    by_form None e = some_tells d (no_form_cause part (first_version d) d) (no_form_true part (first_version d) d (first_is d) (ap is_some e))
    by_form (Some f) e = form_tells part turn d f (version_of part, is_form (version_of part) d (ap is_some e))

-- ---- lines of no form

pub no_first : (d : Data) → HasNoForm d → first_version d ≡ None
no_first d none = by_first (first_version d) (first_is d)
  where
    by_first : (first : Option ℕ) → FirstIs d first → first ≡ None
    by_first None is = refl
    by_first (Some first) is = absurd (none first (is_form first d is))

unfit_is : (missing surplus : Option Key) → IsStrange (Some (unfit_by missing surplus))
unfit_is (Some k) surplus = tt
unfit_is None (Some k) = tt
unfit_is None None = tt

strange_is : (unknown : Option (List ℕ)) (version : ℕ) (named : Option Form) (d : Data) → IsStrange (Some (strange_cause unknown version named d))
strange_is (Some name) version named d = tt
strange_is None version None d = by_array (is_array d)
  where
    by_array : (b : Bool) → IsStrange (Some (cond b ArrayLine NoSuchForm))
    by_array true = tt
    by_array false = tt
strange_is None version (Some f) d = unfit_is (first_missing (keys_of version f) d) (first_surplus line_keys (keys_of version f) d)

strange_none : (part : Part) (first : Option ℕ) (d : Data) → first ≡ None → IsStrange (Some (no_form_cause part first d))
strange_none part (Some first) d e = absurd (cc)
strange_none BeforeMap None d e = strange_is (unknown_key d) (version_of BeforeMap) (named_in BeforeMap d) d
strange_none (InBase rules) None d e = strange_is (unknown_key d) (version_of (InBase rules)) (named_in (InBase rules) d) d
strange_none (InTurns rules) None d e = strange_is (unknown_key d) (version_of (InTurns rules)) (named_in (InTurns rules) d) d

pub strange_lines : (part : Part) (turn : ℕ) (d : Data) → HasNoForm d → IsStrange (value_cause part turn d)
strange_lines part turn d none = by_form (form_of (version_of part) d) refl
  where
    by_form : (found : Option Form) → form_of (version_of part) d ≡ found → IsStrange (cause_by part turn d found)
    by_form None e = strange_none part (first_version d) d (no_first d none)
    by_form (Some f) e = absurd (none (version_of part) (is_form (version_of part) d (ap is_some e)))

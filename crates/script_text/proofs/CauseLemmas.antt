-- A line is refused in its place exactly where it has a cause.
use Rattle.std.proofs.Common.{◌≡◌, ◌↔◌, ℕ, ◌+◌, ◌&&◌, ◌||◌, ◌==◌, List, [], ◌∷◌, Bool, true, false, not, cond, Option, Some, None, option_map, option_and_then, refl, ap, sym, ◌∙◌, arith, nat_le}
use Rattle.std.specs.Prelude.{codes, map, is_some, IsSome}
use Rattle.std.specs.List.{list_all}
use Rattle.std.proofs.lemmas.Bool.{and_parts, leb-true, and_from, le-leb}
use Rattle.std.proofs.lemmas.Bool.Decides.{Decides-eqb}
use Rattle.serde_json.specs.Data.{Data}
use Rattle.serde_json.specs.Find.{get}
use Rattle.nav_types.specs.declared.cells.Rect.{Rect}
use Rattle.nav_types.specs.declared.cells.Size.{Size}
use Rattle.fixed_point.specs.Text.{some_if}
use Rattle.class_config.specs.declared.table.PassabilityClass.{PassabilityClass}
use Rattle.obstruction_shapes.specs.declared.shapes.Shape.{Shape}
use Rattle.posts.specs.declared.edits.Edit.TheVariants.{Remove}
use Rattle.posts.specs.declared.posts.Post.TheVariants.{Edit as Edits, Ask as Asks}
use Rattle.posts.specs.Maps.{Map}
use Rattle.script_text.specs.declared.forms.CallerPost.{CallerPost}
use Rattle.script_text.specs.declared.parts.Rules.{Rules}
use Rattle.script_text.specs.declared.parts.Part.{Part}
use Rattle.script_text.specs.declared.parts.Part.TheVariants.{BeforeMap, InBase, InTurns}
use Rattle.script_text.specs.declared.causes.Cause.{Cause}
use Rattle.script_text.specs.declared.causes.Cause.TheVariants.{EndsInsideTurn}
use Rattle.script_text.specs.declared.causes.wrong_values.FormField.{FormField}
use Rattle.script_text.specs.declared.table.Form.{Form}
use Rattle.script_text.specs.declared.table.Form.TheVariants as form
use Rattle.script_text.specs.declared.causes.keys.Key.TheVariants as key
use Rattle.script_text.specs.Table.{has_form, form_of, widest}
use Rattle.script_text.specs.Values.{whole, whole_in, whole_below, obstruction_number, class_name, under, array_items, both, all_three, point_of, round_of, rectangle_of, size_of}
use Rattle.script_text.specs.Goals.{goal_of}
use Rattle.script_text.specs.Forms.{map_by, map_of, each, entry_of, base_of, mask_of, unit_of, square_of, add_of, remove_of, move_of, path_of, region_of, post_in, post_of, end_of}
use Rattle.script_text.specs.Script.{Place, Item, Stop, Walk, whole_input, is_empty, finish_in, arrived, stuck, bad, bad_line, end_line, turn_line, base_line, map_line, placed_in, reading_of}
use Rattle.script_text.specs.Causes.{is_right, first_wrong, field_of, fields_of, cause_by, value_cause, reading_cause, cause, end_cause}
use Rattle.script_text.proofs.FormTable.{number_of, none_has, some_has, other_has}

-- ---- truth values

map_b : {A B : Type 0} (f : A → B) (o : Option A) → is_some (option_map f o) ≡ is_some o
map_b f None = refl
map_b f (Some x) = refl

and_true : (x : Bool) → (x && true) ≡ x
and_true true = refl
and_true false = refl

or_false : (x : Bool) → (x || false) ≡ x
or_false true = refl
or_false false = refl

and_false : (x : Bool) → (x && false) ≡ false
and_false true = refl
and_false false = refl

-- with keys `k`, and none without them
cond_b : {A : Type 0} (k : Bool) (o : Option A) → is_some (cond k o None) ≡ (k && is_some o)
cond_b true o = refl
cond_b false o = refl

both_b : {A B : Type 0} (o : Option A) (p : Option B) → is_some (both o p) ≡ (is_some o && is_some p)
both_b None p = refl
both_b (Some x) None = refl
both_b (Some x) (Some y) = refl

three_b : {A B C : Type 0} (o : Option A) (p : Option B) (q : Option C) → is_some (all_three o p q) ≡ (is_some o && (is_some p && is_some q))
three_b None p q = refl
three_b (Some x) None q = refl
three_b (Some x) (Some y) None = refl
three_b (Some x) (Some y) (Some z) = refl

-- ---- the first wrong value

-- each field has what is wanted
abbrev all_right : List FormField → Data → Bool
all_right fs d = list_all (λ f. is_right f d) fs

first_b : (fs : List FormField) (d : Data) → is_some (first_wrong fs d) ≡ not (all_right fs d)
first_b [] d = refl
first_b (f ∷ fs) d = by_test (first_wrong fs d) _ (all_right fs d) (is_right f d) (first_b fs d)
  where
    by_test : (o : Option Cause) (c : Cause) (r b : Bool) → is_some o ≡ not r → is_some (cond b o (Some c)) ≡ not (b && r)
    by_test o c r true e = e
    by_test o c r false e = refl

-- ---- the forms, by their keys and their values

map_says : (turn : ℕ) (d : Data) → is_some (map_of d) ≡ (has_form 3 d form.Map && all_right (fields_of widest turn form.Map) d)
unfolding map_of
map_says turn d = by_keys (has_form 3 d form.Map) (under (whole_in 1 3) (codes "version") d) (under size_of (codes "size") d) (under (whole_in 1 64) (codes "callers") d) _
  where
    by_keys : (k : Bool) (a : Option ℕ) (b : Option Size) (c : Option ℕ) (e : Option (List PassabilityClass))
        → is_some (cond k (map_by a b c e) None) ≡ (k && (is_some a && (is_some b && (is_some c && (is_some e && true)))))
    by_keys false a b c e = refl
    by_keys true None b c e = refl
    by_keys true (Some x) None c e = refl
    by_keys true (Some x) (Some y) None e = refl
    by_keys true (Some x) (Some y) (Some z) None = refl
    by_keys true (Some x) (Some y) (Some z) (Some u) = refl

base_says : (rules : Rules) (turn : ℕ) (d : Data) → is_some (base_of rules.size d) ≡ (has_form rules.version d form.Base && all_right (fields_of rules turn form.Base) d)
unfolding base_of
base_says rules turn d =
    let o = option_and_then (each (entry_of rules.size)) (under array_items (codes "base") d) in
    cond_b (has_form rules.version d form.Base) o ∙ ap (λ b. has_form rules.version d form.Base && b) (sym (and_true (is_some o)))

-- the number is that of the turn
abbrev is_turn : ℕ → Option ℕ → Bool
is_turn turn None = false
is_turn turn (Some n) = n == turn

same_number : (n turn : ℕ) → (nat_le turn n && nat_le n turn) ≡ (n == turn)
same_number n turn = by_test (n == turn) refl (nat_le turn n && nat_le n turn) refl
  where
    by_test : (same : Bool) → (n == turn) ≡ same → (within : Bool) → (nat_le turn n && nat_le n turn) ≡ within → within ≡ same
    by_test true is true e = refl
    by_test false is false e = refl
    by_test true is false e =
        let eq : n ≡ turn = (Decides-eqb n turn).0 is in
        let more : (nat_le turn n && nat_le n turn) ≡ true = and_from (nat_le turn n) (nat_le n turn) (le-leb turn n (omega (arith, eq))) (le-leb n turn (omega (arith, eq))) in
        absurd (cc)
    by_test false is true e =
        let parts = and_parts (nat_le turn n) (nat_le n turn) e in
        let low = leb-true turn n parts.0 in let high = leb-true n turn parts.1 in
        let eq : n ≡ turn = omega (arith, low, high) in
        let more = (Decides-eqb n turn).1 eq in absurd (cc)

end_says : (rules : Rules) (turn : ℕ) (d : Data) → is_turn turn (end_of d) ≡ (has_form rules.version d form.End && all_right (fields_of rules turn form.End) d)
unfolding end_of whole_in
end_says rules turn d = by_keys (has_form rules.version d form.End) ∙ ap (λ b. has_form rules.version d form.End && b) (by_value (get (codes "end") d) ∙ sym (and_true _))
  where
    by_keys : (k : Bool) → is_turn turn (cond k (under whole (codes "end") d) None) ≡ (k && is_turn turn (under whole (codes "end") d))
    by_keys true = refl
    by_keys false = refl

    by_number : (o : Option ℕ) → is_turn turn o ≡ is_some (option_and_then (λ n. some_if (nat_le turn n && nat_le n turn) n) o)
    by_number None = refl
    by_number (Some n) = sym (by_test (nat_le turn n && nat_le n turn) ∙ same_number n turn)
      where
        by_test : (b : Bool) → is_some (some_if b n) ≡ b
        by_test true = refl
        by_test false = refl

    by_value : (o : Option Data) → is_turn turn (option_and_then whole o) ≡ is_some (option_and_then (whole_in turn turn) o)
    by_value None = refl
    by_value (Some v) = by_number (whole v)

-- ---- posts, by the fields of their form

abbrev caller_ok : ℕ → Data → Bool
caller_ok callers d = is_some (under (whole_below callers) (codes "caller") d)

-- the caller is right, and so is what a form gives behind it
abbrev AreRight : Rules → ℕ → Data → Form → Type 0
AreRight rules turn d f = (caller_ok rules.callers d && is_some (post_in rules.version d f)) ≡ all_right (fields_of rules turn f) d

behind_caller : (rules : Rules) (d : Data) (x y : Bool) → x ≡ y → (caller_ok rules.callers d && x) ≡ (caller_ok rules.callers d && y)
behind_caller rules d x y e = ap (λ b. caller_ok rules.callers d && b) e

-- the fields behind an add line's shape
abbrev mask_fields : Rules → ℕ → Bool → List FormField
mask_fields rules turn masks = map (field_of rules turn) (cond masks (key.Mask ∷ []) [])

mask_says : (rules : Rules) (turn : ℕ) (d : Data) → is_some (mask_of rules.version d) ≡ all_right (mask_fields rules turn (nat_le 2 rules.version)) d
unfolding mask_of
mask_says rules turn d = by_version (nat_le 2 rules.version)
  where
    by_version : (b : Bool) → is_some (cond b (under (whole_in 0 65535) (codes "mask") d) (Some 65535)) ≡ all_right (mask_fields rules turn b) d
    by_version true = sym (and_true _)
    by_version false = refl

add_says : (rules : Rules) (turn : ℕ) (d : Data) (shape : Option Shape) (right : Bool) → is_some shape ≡ right → is_some (option_map Edits (add_of rules.version shape d))
    ≡ (is_some (under obstruction_number (codes "add") d) && (right && all_right (mask_fields rules turn (nat_le 2 rules.version)) d))
unfolding add_of
add_says rules turn d shape right e =
    map_b Edits (add_of rules.version shape d)
    ∙ map_b _ (all_three (under obstruction_number (codes "add") d) shape (mask_of rules.version d))
    ∙ three_b (under obstruction_number (codes "add") d) shape (mask_of rules.version d)
    ∙ ap (λ b. is_some (under obstruction_number (codes "add") d) && (b && is_some (mask_of rules.version d))) e
    ∙ ap (λ b. is_some (under obstruction_number (codes "add") d) && (right && b)) (mask_says rules turn d)

remove_says : (d : Data) → is_some (option_map Edits (remove_of d)) ≡ (is_some (under obstruction_number (codes "remove") d) && true)
unfolding remove_of
remove_says d = map_b Edits (remove_of d) ∙ map_b Remove (under obstruction_number (codes "remove") d) ∙ sym (and_true _)

move_says : (d : Data) → is_some (option_map Edits (move_of d))
    ≡ (is_some (under obstruction_number (codes "move") d) && (is_some (under point_of (codes "to") d) && true))
unfolding move_of
move_says d =
    let number = under obstruction_number (codes "move") d in let to = under point_of (codes "to") d in
    map_b Edits (move_of d) ∙ map_b _ (both number to) ∙ both_b number to ∙ ap (λ b. is_some number && b) (sym (and_true (is_some to)))

path_says : (version : ℕ) (d : Data) → is_some (option_map Asks (path_of version d)) ≡ (is_some (under class_name (codes "path") d)
    && (is_some (under point_of (codes "from") d) && (is_some (under (goal_of version) (codes "goal") d) && true)))
unfolding path_of
path_says version d =
    let name = under class_name (codes "path") d in let from = under point_of (codes "from") d in let goal = under (goal_of version) (codes "goal") d in
    map_b Asks (path_of version d) ∙ map_b _ (all_three name from goal) ∙ three_b name from goal
    ∙ ap (λ b. is_some name && (is_some from && b)) (sym (and_true (is_some goal)))

region_says : (d : Data) → is_some (option_map Asks (region_of d)) ≡ (is_some (under class_name (codes "region") d) && (is_some (under point_of (codes "at") d) && true))
unfolding region_of
region_says d =
    let name = under class_name (codes "region") d in let place = under point_of (codes "at") d in
    map_b Asks (region_of d) ∙ map_b _ (both name place) ∙ both_b name place ∙ ap (λ b. is_some name && b) (sym (and_true (is_some place)))

post_says : (version callers : ℕ) (d : Data) → is_some (post_of version callers d)
    ≡ (caller_ok callers d && is_some (option_and_then (post_in version d) (form_of version d)))
unfolding post_of
post_says version callers d =
    map_b _ (both (under (whole_below callers) (codes "caller") d) (option_and_then (post_in version d) (form_of version d))) ∙ both_b _ _

-- ---- a line in its place

abbrev accepted : Part → ℕ → Data → Bool
accepted BeforeMap turn d = is_some (map_of d)
accepted (InBase rules) turn d = is_some (base_of rules.size d) || (is_some (post_of rules.version rules.callers d) || is_turn turn (end_of d))
accepted (InTurns rules) turn d = is_some (post_of rules.version rules.callers d) || is_turn turn (end_of d)

-- the cause of a value with this form comes where it is not accepted
abbrev Fits : Part → ℕ → Data → Option Form → Type 0
Fits part turn d found = is_some (cause_by part turn d found) ≡ not (accepted part turn d)

-- what a value of this form says among the lines of turns, by its fields: none of another form says anything
turn_says : (rules : Rules) (turn : ℕ) (d : Data) (o : Option Form) (end : Bool) → form_of rules.version d ≡ o → has_form rules.version d form.End ≡ end
    → accepted (InTurns rules) turn d ≡ ((caller_ok rules.callers d && is_some (option_and_then (post_in rules.version d) o)) || (end && all_right (fields_of rules turn form.End) d))
turn_says rules turn d o end e has =
    ap (λ b. b || is_turn turn (end_of d)) (post_says rules.version rules.callers d ∙ ap (λ f. caller_ok rules.callers d && is_some (option_and_then (post_in rules.version d) f)) e)
    ∙ ap (λ b. (caller_ok rules.callers d && is_some (option_and_then (post_in rules.version d) o)) || b) (end_says rules turn d ∙ ap (λ k. k && all_right (fields_of rules turn form.End) d) has)

base_or_turn : (rules : Rules) (turn : ℕ) (d : Data) (base : Bool) → has_form rules.version d form.Base ≡ base
    → accepted (InBase rules) turn d ≡ ((base && all_right (fields_of rules turn form.Base) d) || accepted (InTurns rules) turn d)
base_or_turn rules turn d base has =
    ap (λ b. b || accepted (InTurns rules) turn d) (base_says rules turn d ∙ ap (λ k. k && all_right (fields_of rules turn form.Base) d) has)

-- a value that says nothing, and one with the keys of a post
nothing : (rules : Rules) (turn : ℕ) (d : Data) (o : Option Form) → form_of rules.version d ≡ o → has_form rules.version d form.End ≡ false
    → is_some (option_and_then (post_in rules.version d) o) ≡ false → accepted (InTurns rules) turn d ≡ false
nothing rules turn d o e no_end no_post =
    turn_says rules turn d o false e no_end ∙ ap (λ b. (caller_ok rules.callers d && b) || false) no_post ∙ or_false (caller_ok rules.callers d && false) ∙ and_false (caller_ok rules.callers d)

a_post : (rules : Rules) (turn : ℕ) (d : Data) (f : Form) → form_of rules.version d ≡ Some f → has_form rules.version d form.End ≡ false → AreRight rules turn d f
    → accepted (InTurns rules) turn d ≡ all_right (fields_of rules turn f) d
a_post rules turn d f e no_end right = turn_says rules turn d (Some f) false e no_end ∙ or_false _ ∙ right

an_end : (rules : Rules) (turn : ℕ) (d : Data) → form_of rules.version d ≡ Some form.End → accepted (InTurns rules) turn d ≡ all_right (fields_of rules turn form.End) d
an_end rules turn d e =
    turn_says rules turn d (Some form.End) true e (some_has rules.version d form.End e)
    ∙ ap (λ b. b || all_right (fields_of rules turn form.End) d) (and_false (caller_ok rules.callers d))

-- no form, or another than those of turns
none_of_turns : (rules : Rules) (turn : ℕ) (d : Data) → form_of rules.version d ≡ None → accepted (InTurns rules) turn d ≡ false
none_of_turns rules turn d e = nothing rules turn d None e (none_has rules.version d form.End e) refl

-- the form is that of a post
abbrev is_post : Form → Bool
is_post form.Map = false
is_post form.Base = false
is_post form.End = false
is_post other = true

post_right : (rules : Rules) (turn : ℕ) (d : Data) (f : Form) → is_post f ≡ true → AreRight rules turn d f
post_right rules turn d form.AddUnit is = behind_caller rules d _ _ (add_says rules turn d (unit_of d) _ (map_b _ (under round_of (codes "unit") d)))
post_right rules turn d form.AddSquare is = behind_caller rules d _ _ (add_says rules turn d (square_of d) _ (map_b _ (under rectangle_of (codes "square") d)))
post_right rules turn d form.Remove is = behind_caller rules d _ _ (remove_says d)
post_right rules turn d form.Move is = behind_caller rules d _ _ (move_says d)
post_right rules turn d form.Path is = behind_caller rules d _ _ (path_says rules.version d)
post_right rules turn d form.Region is = behind_caller rules d _ _ (region_says d)
post_right rules turn d form.Map is = absurd (cc)
post_right rules turn d form.Base is = absurd (cc)
post_right rules turn d form.End is = absurd (cc)

-- a value with the keys of a post has a cause where it is not accepted
post_fits : (rules : Rules) (turn : ℕ) (d : Data) (f : Form) → form_of rules.version d ≡ Some f → has_form rules.version d form.End ≡ false → is_post f ≡ true
    → is_some (first_wrong (fields_of rules turn f) d) ≡ not (accepted (InTurns rules) turn d)
post_fits rules turn d f e no_end is = first_b (fields_of rules turn f) d ∙ ap not (sym (a_post rules turn d f e no_end (post_right rules turn d f is)))

in_turns : (rules : Rules) (turn : ℕ) (d : Data) → is_some (value_cause (InTurns rules) turn d) ≡ not (accepted (InTurns rules) turn d)
in_turns rules turn d = by_form (form_of rules.version d) refl
  where
    no_end : (f : Form) → form_of rules.version d ≡ Some f → (number_of form.End == number_of f) ≡ false → has_form rules.version d form.End ≡ false
    no_end f e differ = other_has rules.version d form.End f e differ

    by_form : (o : Option Form) → form_of rules.version d ≡ o → Fits (InTurns rules) turn d o
    by_form None e = ap not (sym (none_of_turns rules turn d e))
    by_form (Some form.Map) e = ap not (sym (nothing rules turn d (Some form.Map) e (no_end form.Map e refl) refl))
    by_form (Some form.Base) e = ap not (sym (nothing rules turn d (Some form.Base) e (no_end form.Base e refl) refl))
    by_form (Some form.End) e = first_b (fields_of rules turn form.End) d ∙ ap not (sym (an_end rules turn d e))
    by_form (Some form.AddUnit) e = post_fits rules turn d form.AddUnit e (no_end form.AddUnit e refl) refl
    by_form (Some form.AddSquare) e = post_fits rules turn d form.AddSquare e (no_end form.AddSquare e refl) refl
    by_form (Some form.Remove) e = post_fits rules turn d form.Remove e (no_end form.Remove e refl) refl
    by_form (Some form.Move) e = post_fits rules turn d form.Move e (no_end form.Move e refl) refl
    by_form (Some form.Path) e = post_fits rules turn d form.Path e (no_end form.Path e refl) refl
    by_form (Some form.Region) e = post_fits rules turn d form.Region e (no_end form.Region e refl) refl

in_base : (rules : Rules) (turn : ℕ) (d : Data) → is_some (value_cause (InBase rules) turn d) ≡ not (accepted (InBase rules) turn d)
in_base rules turn d = by_form (form_of rules.version d) refl
  where
    -- a value of another form says what it says in turns
    same : (f : Form) → form_of rules.version d ≡ Some f → (number_of form.Base == number_of f) ≡ false → accepted (InBase rules) turn d ≡ accepted (InTurns rules) turn d
    same f e differ = base_or_turn rules turn d false (other_has rules.version d form.Base f e differ)

    of_turn : (f : Form) → form_of rules.version d ≡ Some f → (number_of form.Base == number_of f) ≡ false
        → is_some (first_wrong (fields_of rules turn f) d) ≡ not (accepted (InTurns rules) turn d) → is_some (first_wrong (fields_of rules turn f) d) ≡ not (accepted (InBase rules) turn d)
    of_turn f e differ fits = fits ∙ ap not (sym (same f e differ))

    a_base : form_of rules.version d ≡ Some form.Base → accepted (InBase rules) turn d ≡ all_right (fields_of rules turn form.Base) d
    a_base e =
        base_or_turn rules turn d true (some_has rules.version d form.Base e)
        ∙ ap (λ b. all_right (fields_of rules turn form.Base) d || b) (nothing rules turn d (Some form.Base) e (other_has rules.version d form.End form.Base e refl) refl)
        ∙ or_false (all_right (fields_of rules turn form.Base) d)

    no_end : (f : Form) → form_of rules.version d ≡ Some f → (number_of form.End == number_of f) ≡ false → has_form rules.version d form.End ≡ false
    no_end f e differ = other_has rules.version d form.End f e differ

    by_form : (o : Option Form) → form_of rules.version d ≡ o → Fits (InBase rules) turn d o
    by_form None e = ap not (sym (base_or_turn rules turn d false (none_has rules.version d form.Base e) ∙ none_of_turns rules turn d e))
    by_form (Some form.Map) e = ap not (sym (same form.Map e refl ∙ nothing rules turn d (Some form.Map) e (no_end form.Map e refl) refl))
    by_form (Some form.Base) e = first_b (fields_of rules turn form.Base) d ∙ ap not (sym (a_base e))
    by_form (Some form.End) e = of_turn form.End e refl (first_b (fields_of rules turn form.End) d ∙ ap not (sym (an_end rules turn d e)))
    by_form (Some form.AddUnit) e = of_turn form.AddUnit e refl (post_fits rules turn d form.AddUnit e (no_end form.AddUnit e refl) refl)
    by_form (Some form.AddSquare) e = of_turn form.AddSquare e refl (post_fits rules turn d form.AddSquare e (no_end form.AddSquare e refl) refl)
    by_form (Some form.Remove) e = of_turn form.Remove e refl (post_fits rules turn d form.Remove e (no_end form.Remove e refl) refl)
    by_form (Some form.Move) e = of_turn form.Move e refl (post_fits rules turn d form.Move e (no_end form.Move e refl) refl)
    by_form (Some form.Path) e = of_turn form.Path e refl (post_fits rules turn d form.Path e (no_end form.Path e refl) refl)
    by_form (Some form.Region) e = of_turn form.Region e refl (post_fits rules turn d form.Region e (no_end form.Region e refl) refl)

before_map : (turn : ℕ) (d : Data) → is_some (value_cause BeforeMap turn d) ≡ not (accepted BeforeMap turn d)
before_map turn d = by_form (form_of 3 d) refl
  where
    fields : List FormField
    fields = fields_of widest turn form.Map

    says : (b : Bool) → has_form 3 d form.Map ≡ b → is_some (map_of d) ≡ (b && all_right fields d)
    says b has = map_says turn d ∙ ap (λ k. k && all_right fields d) has

    other : (f : Form) → form_of 3 d ≡ Some f → (number_of form.Map == number_of f) ≡ false → true ≡ not (is_some (map_of d))
    other f e differ = ap not (sym (says false (other_has 3 d form.Map f e differ)))

    by_form : (o : Option Form) → form_of 3 d ≡ o → Fits BeforeMap turn d o
    by_form None e = ap not (sym (says false (none_has 3 d form.Map e)))
    by_form (Some form.Map) e = first_b fields d ∙ ap not (sym (says true (some_has 3 d form.Map e)))
    by_form (Some form.Base) e = other form.Base e refl
    by_form (Some form.End) e = other form.End e refl
    by_form (Some form.AddUnit) e = other form.AddUnit e refl
    by_form (Some form.AddSquare) e = other form.AddSquare e refl
    by_form (Some form.Remove) e = other form.Remove e refl
    by_form (Some form.Move) e = other form.Move e refl
    by_form (Some form.Path) e = other form.Path e refl
    by_form (Some form.Region) e = other form.Region e refl

-- ---- walks

goes_on : {items : List Item} {place : Place} {stop : Stop} → arrived items place ≡ stuck stop → ⊥
goes_on e = let ends = ap (λ (w : Walk). w.ends) e in absurd (cc)

same_as : {X : Type 0} {accepts refuses : Bool} → refuses ≡ not accepts → (X → accepts ≡ false) × (accepts ≡ false → X) → X ↔ (refuses ≡ true)
same_as {accepts = true} e is = (λ x. let t = is.0 x in absurd (cc), λ t. absurd (cc))
same_as {accepts = false} e is = (λ x. e, λ t. is.1 refl)

bad_end : (p : Place) (rules : Rules) (n : Option ℕ) → (end_line p rules n ≡ bad p → is_turn (p.turns + 1) n ≡ false) × (is_turn (p.turns + 1) n ≡ false → end_line p rules n ≡ bad p)
bad_end p rules None = (λ e. refl, λ e. refl)
bad_end p rules (Some n) = by_test _ _ (n == p.turns + 1)
  where
    by_test : (items : List Item) (place : Place) (b : Bool) → (cond b (arrived items place) (bad p) ≡ bad p → b ≡ false) × (b ≡ false → cond b (arrived items place) (bad p) ≡ bad p)
    by_test items place true = (λ e. absurd (goes_on e), λ e. absurd (cc))
    by_test items place false = (λ e. refl, λ e. refl)

bad_turn : (p : Place) (rules : Rules) (o : Option CallerPost) (n : Option ℕ) → (turn_line p rules o n ≡ bad p → (is_some o || is_turn (p.turns + 1) n) ≡ false)
    × ((is_some o || is_turn (p.turns + 1) n) ≡ false → turn_line p rules o n ≡ bad p)
bad_turn p rules None n = bad_end p rules n
bad_turn p rules (Some said) n = (λ e. absurd (goes_on e), λ e. absurd (cc))

bad_base : (p : Place) (rules : Rules) (d : Data) (o : Option (List (Rect × ℕ)))
    → (base_line p rules (Some d) o ≡ bad p → (is_some o || accepted (InTurns rules) (p.turns + 1) d) ≡ false)
    × ((is_some o || accepted (InTurns rules) (p.turns + 1) d) ≡ false → base_line p rules (Some d) o ≡ bad p)
bad_base p rules d None = bad_turn p rules (post_of rules.version rules.callers d) (end_of d)
bad_base p rules d (Some rects) = (λ e. absurd (goes_on e), λ e. absurd (cc))

bad_map : (p : Place) (o : Option Map) → (map_line p o ≡ bad p → is_some o ≡ false) × (is_some o ≡ false → map_line p o ≡ bad p)
bad_map p None = (λ e. refl, λ e. refl)
bad_map p (Some m) = (λ e. absurd (goes_on e), λ e. absurd (cc))

-- a line in this part, by its reading
by_reading : (part : Part) (p : Place) (line : List ℕ) (reading : Option Data) → (placed_in part p reading ≡ bad p) ↔ IsSome (reading_cause part (p.turns + 1) line reading)
by_reading BeforeMap p line None = (λ e. refl, λ e. refl)
by_reading (InBase rules) p line None = (λ e. refl, λ e. refl)
by_reading (InTurns rules) p line None = (λ e. refl, λ e. refl)
by_reading BeforeMap p line (Some d) = same_as (before_map (p.turns + 1) d) (bad_map p (map_of d))
by_reading (InBase rules) p line (Some d) = same_as (in_base rules (p.turns + 1) d) (bad_base p rules d (base_of rules.size d))
by_reading (InTurns rules) p line (Some d) = same_as (in_turns rules (p.turns + 1) d) (bad_turn p rules (post_of rules.version rules.callers d) (end_of d))

-- a line in this part is bad exactly where it has a cause
pub bad_line-cause : (part : Part) (p : Place) (line : List ℕ) → (placed_in part p (reading_of line) ≡ bad p) ↔ IsSome (cause part (p.turns + 1) line)
bad_line-cause part p line = by_reading part p line (reading_of line)

-- an input that may not end in this part has a cause
pub bad_end-cause : (part : Part) (p : Place) → (finish_in part p ≡ stuck (bad_line (p.lines + 1))) ↔ IsSome (end_cause part p.posts)
bad_end-cause BeforeMap p = (λ e. refl, λ e. refl)
bad_end-cause (InBase rules) p = (λ e. let ends = ap (λ (w : Walk). w.ends) e in absurd (cc), λ e. absurd (cc))
bad_end-cause (InTurns rules) p = by_test (list_all is_empty p.posts)
  where
    by_test : (b : Bool) → (cond b (stuck whole_input) (stuck (bad_line (p.lines + 1))) ≡ stuck (bad_line (p.lines + 1))) ↔ IsSome (cond b None (Some EndsInsideTurn))
    by_test true = (λ e. let ends = ap (λ (w : Walk). w.ends) e in absurd (cc), λ e. absurd (cc))
    by_test false = (λ e. refl, λ e. refl)

-- Goals, all in one place: those of the grammar are those that are read, causes of wrong ones are true, and canonical ones
-- read back.
use Rattle.std.proofs.Common.{◌≡◌, inl, inr, ℕ, ◌&&◌, List, [], ◌∷◌, ◌++◌, length, Bool, true, false, not, cond, Option, Some, None, option_map, option_and_then, ℤ, refl, ap, sym, subst, ◌∙◌, arith, append_assoc, append-nil, nat_le, nat_lt}
use Rattle.std.specs.Prelude.{codes}
use Rattle.std.proofs.lemmas.Slice.Eq.{bytes_eq-Decides}
use Rattle.std.proofs.lemmas.Bool.{and_parts, leb-true, cond-true, cond-false, and_from, le-leb}
use Rattle.serde_json.specs.Data.{Data, array}
use Rattle.serde_json.specs.Find.{at}
use Rattle.serde_json.specs.View.{items_of}
use Rattle.class_config.specs.Forms.{has_keys}
use Rattle.goal_shapes.specs.declared.goals.Goal.{Goal}
use Rattle.goal_shapes.specs.declared.goals.Goal.TheVariants.{Point, Circle, NotCircle, Square, NotSquare}
use Rattle.goal_shapes.specs.declared.goals.GoalSpec.{GoalSpec}
use Rattle.goal_shapes.specs.declared.goals.GoalSpec.TheVariants.{Plain, Obstruction as ByObstruction}
use Rattle.script_text.specs.Values.{obstruction_number, decimal, under, has_items, decimal_at, both, point_of, round_of, rectangle_of}
use Rattle.script_text.specs.Goals.{goal_key_text, key_of, goal_decimals, plain_goal, grown_of, obstruction_goal, goal_of, wrong_goal}
use Rattle.script_text.specs.Grammar.{IsObject, IsDecimal, IsArray, HasDecimals, rectangle_decimals, IsPlainGoal, IsGrownGoal, IsGoal}
use Rattle.script_text.proofs.GrammarValues.{map_some, if_some, under_some, under_is, number-is, number-from, decimal-is, decimal-from, array_items-is, items_there, two_there}
use Rattle.script_text.proofs.Members.{is_other, open_keys, open_one, has_keys-object, has_keys-other, stand-object}
use Rattle.script_text.proofs.GrammarLines.{two_some, either_some, or_some, or_first, or_second, point-is, point-from, round-is, round-from, rectangle-is, rectangle-from}
use Rattle.std.specs.Prelude.{is_some}
use Rattle.std.specs.Option.{option_or}
use Rattle.std.proofs.lemmas.Bool.{ltb-false}
use Rattle.serde_json.specs.Data.{no_items, item}
use Rattle.serde_json.specs.Find.{get}
use Rattle.script_text.specs.declared.goals.GoalKey.{GoalKey}
use Rattle.script_text.specs.declared.goals.GoalKey.TheVariants as goal_key
use Rattle.script_text.specs.declared.causes.Cause.{Cause}
use Rattle.script_text.specs.declared.causes.Cause.TheVariants.{WrongValue, LaterVersion}
use Rattle.script_text.specs.declared.causes.keys.Key.{Key}
use Rattle.script_text.specs.declared.causes.keys.Key.TheVariants.{OfGoal}
use Rattle.script_text.specs.declared.causes.keys.Wanted.{Wanted}
use Rattle.script_text.specs.declared.causes.keys.Wanted.TheVariants.{TwoDecimals, ThreeDecimals, SixDecimals, NumberAndDecimal}
use Rattle.script_text.specs.declared.causes.wrong_values.FormField.{FormField}
use Rattle.script_text.specs.Table.{key_text}
use Rattle.script_text.specs.Causes.{is_wanted, IsWrongIn}
use Rattle.script_text.specs.TrueCauses.{HasGrownGoal, IsTrueOf}
use Rattle.script_text.specs.Canon.{whole_json, decimal_json, shape_json, decimals_json, goal_json, is_goal_of}
use Rattle.script_text.specs.ReadsBack.{AreFixed, IsGoalValue}
use Rattle.serde_json.specs.Written.{compact_text}
use Rattle.serde_json.proofs.OnLiterals.{serde_json_on_literals}
use Rattle.script_text.proofs.BackTexts.{IsSimple, sorted, text-fixed_text}
use Rattle.script_text.proofs.BackValues.{one_key, says_decimal, simple_decimals, says_shape, small}

-- ---- goals

-- a value of one key
record Sole {Y : Type 0} (key : List ℕ) (read : Data → Option Y) (d : Data) (y : Y) : Type 0 where
  v : Data
  is : IsObject (key ∷ []) (v ∷ []) d
  reads : read v ≡ Some y

sole : {Y : Type 0} (key : List ℕ) (read : Data → Option Y) (d : Data) (y : Y) → has_keys (key ∷ []) d ≡ true → under read key d ≡ Some y → Sole key read d y
sole key read d y has e = let one = open_one key d has in record { v = one.v; is = one.is; reads = under_some read key d one.v y one.at e }

-- what stands under the only key
sole_is : {Y : Type 0} (key : List ℕ) (read : Data → Option Y) (d v : Data) (y : Y) → IsObject (key ∷ []) (v ∷ []) d → read v ≡ Some y → under read key d ≡ Some y
sole_is key read d v y is e = let at = stand-object (key ∷ []) (v ∷ []) d refl is in under_is read key d v y at.0 e

has_sole : (key : List ℕ) (v d : Data) → IsObject (key ∷ []) (v ∷ []) d → has_keys (key ∷ []) d ≡ true
has_sole key v d is = has_keys-object (key ∷ []) (v ∷ []) d refl is

same_key : (key : List ℕ) → is_other key (key ∷ []) ≡ false
same_key key = ap (λ b. not b && true) ((bytes_eq-Decides key key).1 refl)

-- it has no other only key
not_sole : (key other : List ℕ) (v d : Data) → is_other other (key ∷ []) ≡ true → IsObject (key ∷ []) (v ∷ []) d → has_keys (other ∷ []) d ≡ false
not_sole key other v d apart is = has_keys-other (key ∷ []) (other ∷ []) (v ∷ []) d other is apart (same_key other)

goal_is : {Y : Type 0} (key : List ℕ) (read : Data → Option Y) (make : Y → Goal) (raws : Y → List ℤ)
    (tells : (d : Data) (y : Y) → read d ≡ Some y → IsArray IsDecimal (raws y) d)
    (says : (y : Y) (d : Data) → HasDecimals key (raws y) d → IsPlainGoal (make y) d)
    (d : Data) (g : Goal) → has_keys (key ∷ []) d ≡ true → option_map make (under read key d) ≡ Some g → IsPlainGoal g d
goal_is key read make raws tells says d g has e =
    let found = map_some make (under read key d) g e in
    let one = sole key read d found.0 has found.1 in
    let Is : Goal → Type 0 = λ h. IsPlainGoal h d in
    subst Is found.2 (says found.0 d (one.v, one.is, tells one.v found.0 one.reads))

abbrev points : Data → Option Goal
points d = option_map (λ p. Point p.0 p.1) (under point_of (codes "point") d)

abbrev circles : Data → Option Goal
circles d = option_map (λ c. Circle c.0 c.1 c.2) (under round_of (codes "circle") d)

abbrev not_circles : Data → Option Goal
not_circles d = option_map (λ c. NotCircle c.0 c.1 c.2) (under round_of (codes "not-circle") d)

abbrev squares : Data → Option Goal
squares d = option_map Square (under rectangle_of (codes "square") d)

abbrev not_squares : Data → Option Goal
not_squares d = option_map NotSquare (under rectangle_of (codes "not-square") d)

abbrev has : List ℕ → Data → Bool
has key d = has_keys (key ∷ []) d

abbrev from_not_square : Data → Option Goal
from_not_square d = cond (has (codes "not-square") d) (not_squares d) None

abbrev from_square : Data → Option Goal
from_square d = cond (has (codes "square") d) (squares d) (from_not_square d)

abbrev from_not_circle : Data → Option Goal
from_not_circle d = cond (has (codes "not-circle") d) (not_circles d) (from_square d)

abbrev from_circle : Data → Option Goal
from_circle d = cond (has (codes "circle") d) (circles d) (from_not_circle d)

plain-is : (d : Data) (g : Goal) → plain_goal d ≡ Some g → IsPlainGoal g d
unfolding plain_goal
plain-is d g e = elim (either_some (has (codes "point") d) (points d) (from_circle d) g e) [
  | inl h ↦ goal_is (codes "point") point_of (λ p. Point p.0 p.1) (λ p. p.0 ∷ p.1 ∷ []) point-is (λ p v is. is) d g h.0 h.1
  | inr h ↦ elim (either_some (has (codes "circle") d) (circles d) (from_not_circle d) g h.1) [
    | inl i ↦ goal_is (codes "circle") round_of (λ c. Circle c.0 c.1 c.2) (λ c. c.0 ∷ c.1 ∷ c.2 ∷ []) round-is (λ c v is. is) d g i.0 i.1
    | inr i ↦ elim (either_some (has (codes "not-circle") d) (not_circles d) (from_square d) g i.1) [
      | inl j ↦ goal_is (codes "not-circle") round_of (λ c. NotCircle c.0 c.1 c.2) (λ c. c.0 ∷ c.1 ∷ c.2 ∷ []) round-is (λ c v is. is) d g j.0 j.1
      | inr j ↦ elim (either_some (has (codes "square") d) (squares d) (from_not_square d) g j.1) [
        | inl k ↦ goal_is (codes "square") rectangle_of Square rectangle_decimals rectangle-is (λ r v is. is) d g k.0 k.1
        | inr k ↦ let l = if_some (has (codes "not-square") d) (not_squares d) g k.1 in
            goal_is (codes "not-square") rectangle_of NotSquare rectangle_decimals rectangle-is (λ r v is. is) d g l.0 l.1
      ]
    ]
  ]
]

plain-from : (d : Data) (g : Goal) → IsPlainGoal g d → plain_goal d ≡ Some g
unfolding plain_goal
plain-from d (Point x z) h =
    cond-true (has (codes "point") d) (points d) (from_circle d) (has_sole (codes "point") h.0 d h.1)
    ∙ ap (option_map (λ p. Point p.0 p.1)) (sole_is (codes "point") point_of d h.0 (x, z) h.1 (point-from h.0 x z h.2))
plain-from d (Circle x z r) h =
    cond-false (has (codes "point") d) (points d) (from_circle d) (not_sole (codes "circle") (codes "point") h.0 d refl h.1)
    ∙ cond-true (has (codes "circle") d) (circles d) (from_not_circle d) (has_sole (codes "circle") h.0 d h.1)
    ∙ ap (option_map (λ c. Circle c.0 c.1 c.2)) (sole_is (codes "circle") round_of d h.0 (x, z, r) h.1 (round-from h.0 x z r h.2))
plain-from d (NotCircle x z r) h =
    cond-false (has (codes "point") d) (points d) (from_circle d) (not_sole (codes "not-circle") (codes "point") h.0 d refl h.1)
    ∙ cond-false (has (codes "circle") d) (circles d) (from_not_circle d) (not_sole (codes "not-circle") (codes "circle") h.0 d refl h.1)
    ∙ cond-true (has (codes "not-circle") d) (not_circles d) (from_square d) (has_sole (codes "not-circle") h.0 d h.1)
    ∙ ap (option_map (λ c. NotCircle c.0 c.1 c.2)) (sole_is (codes "not-circle") round_of d h.0 (x, z, r) h.1 (round-from h.0 x z r h.2))
plain-from d (Square r) h =
    cond-false (has (codes "point") d) (points d) (from_circle d) (not_sole (codes "square") (codes "point") h.0 d refl h.1)
    ∙ cond-false (has (codes "circle") d) (circles d) (from_not_circle d) (not_sole (codes "square") (codes "circle") h.0 d refl h.1)
    ∙ cond-false (has (codes "not-circle") d) (not_circles d) (from_square d) (not_sole (codes "square") (codes "not-circle") h.0 d refl h.1)
    ∙ cond-true (has (codes "square") d) (squares d) (from_not_square d) (has_sole (codes "square") h.0 d h.1)
    ∙ ap (option_map Square) (sole_is (codes "square") rectangle_of d h.0 r h.1 (rectangle-from h.0 r h.2))
plain-from d (NotSquare r) h =
    cond-false (has (codes "point") d) (points d) (from_circle d) (not_sole (codes "not-square") (codes "point") h.0 d refl h.1)
    ∙ cond-false (has (codes "circle") d) (circles d) (from_not_circle d) (not_sole (codes "not-square") (codes "circle") h.0 d refl h.1)
    ∙ cond-false (has (codes "not-circle") d) (not_circles d) (from_square d) (not_sole (codes "not-square") (codes "not-circle") h.0 d refl h.1)
    ∙ cond-false (has (codes "square") d) (squares d) (from_not_square d) (not_sole (codes "not-square") (codes "square") h.0 d refl h.1)
    ∙ cond-true (has (codes "not-square") d) (not_squares d) None (has_sole (codes "not-square") h.0 d h.1)
    ∙ ap (option_map NotSquare) (sole_is (codes "not-square") rectangle_of d h.0 r h.1 (rectangle-from h.0 r h.2))

-- an object of another key is no plain goal
not_plain : (d v : Data) → IsObject (codes "obstruction" ∷ []) (v ∷ []) d → plain_goal d ≡ None
unfolding plain_goal
not_plain d v is =
    cond-false (has (codes "point") d) (points d) (from_circle d) (not_sole (codes "obstruction") (codes "point") v d refl is)
    ∙ cond-false (has (codes "circle") d) (circles d) (from_not_circle d) (not_sole (codes "obstruction") (codes "circle") v d refl is)
    ∙ cond-false (has (codes "not-circle") d) (not_circles d) (from_square d) (not_sole (codes "obstruction") (codes "not-circle") v d refl is)
    ∙ cond-false (has (codes "square") d) (squares d) (from_not_square d) (not_sole (codes "obstruction") (codes "square") v d refl is)
    ∙ cond-false (has (codes "not-square") d) (not_squares d) None (not_sole (codes "obstruction") (codes "not-square") v d refl is)

two_items : (items : List Data) → length items ≡ 2 → (a : Data) × (b : Data) × (items ≡ a ∷ b ∷ [])
two_items [] count = absurd (omega (arith, count))
two_items (a ∷ []) count = absurd (omega (arith, count))
two_items (a ∷ b ∷ []) count = (a, b, refl)
two_items (a ∷ b ∷ c ∷ items) count = absurd (omega (arith, count))

pair-is : (d : Data) → has_items 2 d ≡ true → (a : Data) × (b : Data) × (d ≡ array (items_of (a ∷ b ∷ [])))
pair-is d has =
    let found = items_there d 2 has in let two = two_items found.0 found.2 in
    (two.0, two.1, array_items-is d found.0 found.1 ∙ ap (λ items. array (items_of items)) two.2)

abbrev grown_parts : Data → Option (ℕ × ℤ)
grown_parts d = both (option_and_then obstruction_number (at 0 d)) (decimal_at 1 d)

grown-is : (version : ℕ) (d : Data) (goal : GoalSpec) → obstruction_goal version d ≡ Some goal → IsGoal version goal d
unfolding obstruction_goal grown_of
grown-is version d goal e =
    let test = if_some (nat_le 3 version && has (codes "obstruction") d) (under grown_of (codes "obstruction") d) goal e in
    let tests = and_parts (nat_le 3 version) (has (codes "obstruction") d) test.0 in
    let one = sole (codes "obstruction") grown_of d goal tests.1 test.1 in
    let inner = if_some (has_items 2 one.v) (option_map (λ parts. ByObstruction parts.0 parts.1) (grown_parts one.v)) goal one.reads in
    let found = map_some (λ parts. ByObstruction parts.0 parts.1) (grown_parts one.v) goal inner.1 in
    let parts = two_some (option_and_then obstruction_number (at 0 one.v)) (decimal_at 1 one.v) found.0 found.1 in
    let pair = pair-is one.v inner.0 in
    let Is : GoalSpec → Type 0 = λ g. IsGoal version g d in
    let is : IsGrownGoal version found.0.0 found.0.1 d = record {
      newest = leb-true 3 version tests.0;
      obstruction = one.v;
      number = pair.0;
      distance = pair.1;
      keys = one.is;
      items = pair.2;
      says_number = number-is pair.0 found.0.0 (sym (ap (λ v. option_and_then obstruction_number (at 0 v)) pair.2) ∙ parts.0);
      says_distance = decimal-is pair.1 found.0.1 (sym (ap (λ v. decimal_at 1 v) pair.2) ∙ parts.1);
    } in subst Is found.2 is

grown-from : (version id : ℕ) (grow : ℤ) (d : Data) → IsGrownGoal version id grow d → obstruction_goal version d ≡ Some (ByObstruction id grow)
unfolding obstruction_goal grown_of
grown-from version id grow d is =
    let v = is.obstruction in let make = λ (parts : ℕ × ℤ). ByObstruction parts.0 parts.1 in
    cond-true (nat_le 3 version && has (codes "obstruction") d) (under grown_of (codes "obstruction") d) None
    (and_from (nat_le 3 version) (has (codes "obstruction") d) (le-leb 3 version is.newest) (has_sole (codes "obstruction") v d is.keys))
    ∙ sole_is (codes "obstruction") grown_of d v (ByObstruction id grow) is.keys
    (cond-true (has_items 2 v) (option_map make (grown_parts v)) None (two_there v is.number is.distance is.items)
    ∙ ap (λ w. option_map make (grown_parts w)) is.items
    ∙ ap (λ o. option_map make (both o (decimal is.distance))) (number-from is.number id is.says_number)
    ∙ ap (λ o. option_map make (both (Some id) o)) (decimal-from is.distance grow is.says_distance))

pub goal-is : (version : ℕ) (d : Data) (goal : GoalSpec) → goal_of version d ≡ Some goal → IsGoal version goal d
unfolding goal_of
goal-is version d goal e = elim (or_some (option_map Plain (plain_goal d)) (obstruction_goal version d) goal e) [
  | inl h ↦ (let found = map_some Plain (plain_goal d) goal h in let Is : GoalSpec → Type 0 = λ g. IsGoal version g d in
      subst Is found.2 (plain-is d found.0 found.1))
  | inr h ↦ grown-is version d goal h
]

pub goal-from : (version : ℕ) (d : Data) (goal : GoalSpec) → IsGoal version goal d → goal_of version d ≡ Some goal
unfolding goal_of
goal-from version d (Plain goal) is = or_first (option_map Plain (plain_goal d)) (obstruction_goal version d) (Plain goal) (ap (option_map Plain) (plain-from d goal is))
goal-from version d (ByObstruction id grow) is =
    or_second (option_map Plain (plain_goal d)) (obstruction_goal version d) (ByObstruction id grow) (ap (option_map Plain) (not_plain d is.obstruction is.keys))
    (grown-from version id grow d is)

pub by_test : (d : Data) (b : Bool) (c e : Cause) → (b ≡ true → IsTrueOf d c) → (b ≡ false → IsTrueOf d e) → IsTrueOf d (cond b c e)
by_test d true c e yes_ no_ = yes_ refl
by_test d false c e yes_ no_ = no_ refl

-- ---- causes

or_none : {A : Type 0} (o p : Option A) → is_some (option_or o p) ≡ false → (is_some o ≡ false) × (is_some p ≡ false)
or_none None p e = (refl, e)
or_none (Some x) p e = absurd (cc)

map_none : {A B : Type 0} (f : A → B) (o : Option A) → is_some (option_map f o) ≡ false → is_some o ≡ false
map_none f None e = refl
map_none f (Some x) e = absurd (cc)

-- a test that holds, and one that does not
on : {A : Type 0} (b : Bool) (o p : Option A) → b ≡ true → is_some (cond b o p) ≡ false → is_some o ≡ false
on true o p has e = e
on false o p has e = absurd (cc)

off : {A : Type 0} (b : Bool) (o p : Option A) → b ≡ false → is_some (cond b o p) ≡ false → is_some p ≡ false
off true o p lacks e = absurd (cc)
off false o p lacks e = e

third : (version : ℕ) → nat_lt version 3 ≡ false → nat_le 3 version ≡ true
third version e = le-leb 3 version (ltb-false version 3 e)

grown : (d g : Data) (outer : List ℕ) → get outer d ≡ Some g → has_keys (codes "obstruction" ∷ []) g ≡ true → HasGrownGoal d
grown d g outer at has = let opened = open_keys (codes "obstruction" ∷ []) g refl has in
    record { key = outer; goal = g; under = at; keys = inl (opened.values, opened.is) }

pub goal_true : (version : ℕ) (f : FormField) (d g : Data) (outer : List ℕ) → get outer d ≡ Some g → IsWrongIn f.key f.wanted d → is_some (goal_of version g) ≡ false
    → IsTrueOf d (wrong_goal version f g)
unfolding goal_of plain_goal obstruction_goal
goal_true version f d g outer at whole none =
    let parts = or_none (option_map Plain (plain_goal g)) (obstruction_goal version g) none in
    let plain = map_none Plain (plain_goal g) parts.0 in
    let inner : (k : Key) (w : Wanted) → is_wanted w (key_text k) g ≡ false → IsTrueOf d (WrongValue k w) = λ k w wrong. inr (outer, g, at, wrong) in
    by_test d (has_keys (codes "point" ∷ []) g) _ _ (λ has. inner (OfGoal goal_key.Point) TwoDecimals (map_none _ _ (on _ _ _ has plain)))
    (λ a. let after_a = off _ _ _ a plain in
    by_test d (has_keys (codes "circle" ∷ []) g) _ _ (λ has. inner (OfGoal goal_key.Circle) ThreeDecimals (map_none _ _ (on _ _ _ has after_a)))
    (λ b. let after_b = off _ _ _ b after_a in
    by_test d (has_keys (codes "not-circle" ∷ []) g) _ _ (λ has. inner (OfGoal goal_key.NotCircle) ThreeDecimals (map_none _ _ (on _ _ _ has after_b)))
    (λ c. let after_c = off _ _ _ c after_b in
    by_test d (has_keys (codes "square" ∷ []) g) _ _ (λ has. inner (OfGoal goal_key.Square) SixDecimals (map_none _ _ (on _ _ _ has after_c)))
    (λ e. let after_e = off _ _ _ e after_c in
    by_test d (has_keys (codes "not-square" ∷ []) g) _ _ (λ has. inner (OfGoal goal_key.NotSquare) SixDecimals (map_none _ _ (on _ _ _ has after_e)))
    (λ h. by_test d (has_keys (codes "obstruction" ∷ []) g) _ _
    (λ has. by_test d (nat_lt version 3) (LaterVersion 3) (WrongValue (OfGoal goal_key.Obstruction) NumberAndDecimal) (λ early. inr (refl, grown d g outer at has))
    (λ late. inner (OfGoal goal_key.Obstruction) NumberAndDecimal (on _ _ _ (and_from (nat_le 3 version) (has_keys (codes "obstruction" ∷ []) g) (third version late) has) parts.1)))
    (λ other. whole))))))

-- ---- canonical goals

simple_shape : (goal : Goal) → AreFixed (goal_decimals goal) → IsSimple (shape_json (goal_key_text (key_of goal)) (goal_decimals goal)) 7
simple_shape (Point x z) is = ((refl, refl), simple_decimals (x ∷ z ∷ []) 5 is, tt)
simple_shape (Circle x z r) is = ((refl, refl), simple_decimals (x ∷ z ∷ r ∷ []) 5 is, tt)
simple_shape (NotCircle x z r) is = ((refl, refl), simple_decimals (x ∷ z ∷ r ∷ []) 5 is, tt)
simple_shape (Square r) is = ((refl, refl), simple_decimals (rectangle_decimals r) 5 is, tt)
simple_shape (NotSquare r) is = ((refl, refl), simple_decimals (rectangle_decimals r) 5 is, tt)

pub simple_goal : (goal : GoalSpec) → IsGoalValue goal → IsSimple (goal_json goal) 7
unfolding goal_json
simple_goal (Plain goal) is = simple_shape goal is
simple_goal (ByObstruction id grow) is = ((refl, refl), (small id 4294967295 (omega arith) is.0, (text-fixed_text grow is.1, tt)), tt)

-- a goal is what its key and its decimals say
by_key : (goal : Goal) (d : Data) → HasDecimals (goal_key_text (key_of goal)) (goal_decimals goal) d → IsPlainGoal goal d
by_key (Point x z) d is = is
by_key (Circle x z r) d is = is
by_key (NotCircle x z r) d is = is
by_key (Square r) d is = is
by_key (NotSquare r) d is = is

pub says_goal : (version : ℕ) (goal : GoalSpec) → IsGoalValue goal → is_goal_of version goal ≡ true → IsGoal version goal (sorted (goal_json goal))
unfolding goal_json
says_goal version (Plain goal) is has = by_key goal (sorted (shape_json (goal_key_text (key_of goal)) (goal_decimals goal))) (says_shape (goal_key_text (key_of goal)) (goal_decimals goal) is)
says_goal version (ByObstruction id grow) is has =
    let parts : Data = array (item (whole_json id) (item (decimal_json grow) no_items)) in record {
      newest = leb-true 3 version has;
      obstruction = parts;
      number = whole_json id;
      distance = decimal_json grow;
      keys = one_key (codes "obstruction") parts;
      items = refl;
      says_number = (refl, is.0);
      says_distance = says_decimal grow is.1;
    }

-- the text of a goal that is a shape
pub shape_text : (key : GoalKey) (raws : List ℤ) → compact_text (shape_json (goal_key_text key) raws) ≡ 123 ∷ 34 ∷ (goal_key_text key ++ 34 ∷ 58 ∷ (compact_text (decimals_json raws) ++ 125 ∷ []))
unfolding serde_json_on_literals
shape_text goal_key.Point raws = refl
shape_text goal_key.Circle raws = refl
shape_text goal_key.NotCircle raws = refl
shape_text goal_key.Square raws = refl
shape_text goal_key.NotSquare raws = refl
shape_text goal_key.Obstruction raws = refl

-- its pieces, behind what stands
pub shape_pieces : (text : List ℕ) (key : GoalKey) (raws : List ℤ) (member : List ℕ) → member ≡ 34 ∷ (goal_key_text key ++ 34 ∷ 58 ∷ [])
    → ((text ++ 123 ∷ (member ++ [])) ++ compact_text (decimals_json raws)) ++ 125 ∷ [] ≡ text ++ compact_text (shape_json (goal_key_text key) raws)
shape_pieces text key raws member same =
    let decimals = compact_text (decimals_json raws) in let quoted = 34 ∷ (goal_key_text key ++ 34 ∷ 58 ∷ []) in
    ap (λ (j : List ℕ). ((text ++ 123 ∷ j) ++ decimals) ++ 125 ∷ []) (append-nil member ∙ same)
    ∙ append_assoc (text ++ 123 ∷ quoted) decimals (125 ∷ [])
    ∙ append_assoc text (123 ∷ quoted) (decimals ++ 125 ∷ [])
    ∙ ap (λ (t : List ℕ). text ++ 123 ∷ 34 ∷ t) (append_assoc (goal_key_text key) (34 ∷ 58 ∷ []) (decimals ++ 125 ∷ []))
    ∙ ap (λ (t : List ℕ). text ++ t) (sym (shape_text key raws))

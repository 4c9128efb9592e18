-- What the lines of a script say are values that a script may be written from.
use Rattle.std.proofs.Common.{◌≡◌, inl, inr, ℕ, ℤ, pos, negsuc, suc, ◌≤◌, ◌==◌, ◌||◌, ◌&&◌, Bool, true, false, cond, nat_le, All, IsTrue, List, [], ◌∷◌, length, Option, None, Some, is_some, option_map, option_and_then, FitsSigned, refl, sym, ap, subst, ◌∙◌, arith, eq-eqb, le-leb}
use Rattle.std.specs.Prelude.{int_le, codes}
use Rattle.std.specs.Int.{w32}
use Rattle.std.specs.List.{list_all, filter_map, cons_option}
use Rattle.std.proofs.lemmas.Bool.{and_parts, and_from, leb-true, or_left, or_right}
use Rattle.std.proofs.lemmas.List.Elements.{All-nil, All-cons}
use Rattle.serde_json.specs.Data.{Data}
use Rattle.serde_json.specs.Find.{as_array}
use Rattle.nav_types.specs.declared.cells.Rect.{Rect}
use Rattle.nav_types.specs.declared.cells.Size.{Size}
use Rattle.nav_types.specs.Cells.{IsRectInside}
use Rattle.fixed_point.specs.Raw.{is_in_range}
use Rattle.fixed_point.specs.Text.{fixed_value, some_if, is_fixed_text, raw_of}
use Rattle.class_config.specs.Forms.{is_class_name, has_keys, text_under}
use Rattle.class_config.specs.Classes.{is_table, is_class, is_clearance, are_distinct, are_classes, class_of, class_with, clearance_under, list_of}
use Rattle.class_config.specs.declared.table.PassabilityClass.{PassabilityClass}
use Rattle.goal_shapes.specs.declared.goals.Goal.{Goal}
use Rattle.goal_shapes.specs.declared.goals.Goal.TheVariants.{Point, Circle, NotCircle, Square, NotSquare}
use Rattle.goal_shapes.specs.declared.goals.GoalSpec.{GoalSpec}
use Rattle.goal_shapes.specs.declared.goals.GoalSpec.TheVariants.{Plain, Obstruction as ByObstruction}
use Rattle.posts.specs.declared.posts.Post.{Post}
use Rattle.posts.specs.declared.edits.Edit.TheVariants.{Add, Remove, Move}
use Rattle.posts.specs.declared.posts.Post.TheVariants.{Edit as Edits, Ask as Asks}
use Rattle.posts.specs.declared.posts.Request.TheVariants.{Path, Region}
use Rattle.posts.specs.Maps.{Map}
use Rattle.script_text.specs.Grammar.{IsDecimal, IsArray, SayEach, IsPlainGoal, IsGoal, HasAddKeys, IsPostLine, IsMapLine, IsBaseLine, IsEntry, shape_key, shape_decimals, rectangle_decimals}
use Rattle.script_text.specs.Canon.{is_post_of, is_goal_of}
use Rattle.script_text.specs.Goals.{goal_decimals}
use Rattle.script_text.specs.ReadsBack.{AreFixed, IsGoalValue, IsPostValue, IsMapValue}
use Rattle.script_text.proofs.GrammarClasses.{classes-from}
use Rattle.script_text.proofs.GrammarValues.{some_if-some}

-- ---- decimals

in_range_fits : (raw : ℤ) → is_in_range raw ≡ true → FitsSigned w32 raw
in_range_fits (pos n) h =
    let small : n ≤ 2147483647 = leb-true n 2147483647 (and_parts (int_le (negsuc 2147483647) (pos n)) (int_le (pos n) (pos 2147483647)) h).1 in omega (arith, small)
in_range_fits (negsuc n) h =
    let small : n ≤ 2147483647 = leb-true n 2147483647 (and_parts (int_le (negsuc 2147483647) (negsuc n)) (int_le (negsuc n) (pos 2147483647)) h).0 in omega (arith, small)

text_fits : (text : List ℕ) (raw : ℤ) → fixed_value text ≡ Some raw → FitsSigned w32 raw
unfolding fixed_value
text_fits text raw e =
    let found = some_if-some (is_fixed_text text && is_in_range (raw_of text)) (raw_of text) raw e in
    subst (λ (z : ℤ). FitsSigned w32 z) found.1 (in_range_fits (raw_of text) (and_parts (is_fixed_text text) (is_in_range (raw_of text)) found.0).1)

decimal_fits : (raw : ℤ) (d : Data) → IsDecimal raw d → FitsSigned w32 raw
decimal_fits raw d (text, is, value) = text_fits text raw value

each_fits : (raws : List ℤ) (ds : List Data) → SayEach IsDecimal raws ds → AreFixed raws
each_fits [] [] says = All-nil (λ (raw : ℤ). FitsSigned w32 raw)
each_fits [] (d ∷ ds) says = absurd says
each_fits (raw ∷ raws) [] says = absurd says
each_fits (raw ∷ raws) (d ∷ ds) says = All-cons (λ (raw : ℤ). FitsSigned w32 raw) raw raws (decimal_fits raw d says.0) (each_fits raws ds says.1)

array_fits : (raws : List ℤ) (d : Data) → IsArray IsDecimal raws d → AreFixed raws
array_fits raws d (items, is, says) = each_fits raws items says

-- ---- posts

plain_goal_fits : (goal : Goal) (d : Data) → IsPlainGoal goal d → AreFixed (goal_decimals goal)
plain_goal_fits (Point x z) d (shape, keys, says) = array_fits (x ∷ z ∷ []) shape says
plain_goal_fits (Circle x z r) d (shape, keys, says) = array_fits (x ∷ z ∷ r ∷ []) shape says
plain_goal_fits (NotCircle x z r) d (shape, keys, says) = array_fits (x ∷ z ∷ r ∷ []) shape says
plain_goal_fits (Square rectangle) d (shape, keys, says) = array_fits (rectangle_decimals rectangle) shape says
plain_goal_fits (NotSquare rectangle) d (shape, keys, says) = array_fits (rectangle_decimals rectangle) shape says

goal_fits : (version : ℕ) (goal : GoalSpec) (d : Data) → IsGoal version goal d → IsGoalValue goal
goal_fits version (Plain goal) d says = plain_goal_fits goal d says
goal_fits version (ByObstruction id grow) d says = (says.says_number.1, decimal_fits grow says.distance says.says_distance)

goal_has : (version : ℕ) (goal : GoalSpec) (d : Data) → IsGoal version goal d → is_goal_of version goal ≡ true
goal_has version (Plain goal) d says = refl
goal_has version (ByObstruction id grow) d says = le-leb 3 version says.newest

mask_has : (version mask : ℕ) (key : List ℕ) (c add shape d : Data) → HasAddKeys version mask key c add shape d → (nat_le 2 version || mask == 65535) ≡ true
mask_has version mask key c add shape d (inl h) = or_right (nat_le 2 version) (mask == 65535) (eq-eqb mask 65535 h.1)
mask_has version mask key c add shape d (inr h) = or_left (nat_le 2 version) (mask == 65535) (le-leb 2 version h.0)

mask_fits : (version mask : ℕ) (key : List ℕ) (c add shape d : Data) → HasAddKeys version mask key c add shape d → mask ≤ 65535
mask_fits version mask key c add shape d (inl h) = let same = h.1 in omega (arith, same)
mask_fits version mask key c add shape d (inr (two, (bits, keys, says, few))) = few

-- a post line says a post that has a line, and whose numbers fit
pub post_said : (version callers caller : ℕ) (post : Post) (d : Data) → IsPostLine version callers caller post d
    → IsPostValue post × IsTrue (is_post_of version post)
post_said version callers caller (Edits (Add id o)) d (c, add, shape, keys, who, number, decimals) = (
  (number.1, array_fits (shape_decimals o.shape) shape decimals, mask_fits version o.mask (shape_key o.shape) c add shape d keys),
  mask_has version o.mask (shape_key o.shape) c add shape d keys,
)
post_said version callers caller (Edits (Remove id)) d (c, remove, keys, who, number) = (number.1, refl)
post_said version callers caller (Edits (Move id x z)) d (c, move, to, keys, who, number, at, newest) =
    ((number.1, array_fits (x ∷ z ∷ []) to at), le-leb 3 version newest)
post_said version callers caller (Asks (Path request)) d says = (
  (says.says_class.1, array_fits (request.x ∷ request.z ∷ []) says.from says.says_start, goal_fits version request.goal says.to says.says_goal),
  goal_has version request.goal says.to says.says_goal,
)
post_said version callers caller (Asks (Region query)) d says =
    ((says.says_class.1, array_fits (query.x ∷ query.z ∷ []) says.place says.says_place), refl)

-- ---- classes

class_by : (test : Bool) (made class : PassabilityClass) → is_class made ≡ test → some_if test made ≡ Some class → is_class class ≡ true
class_by true made class is e = let same : made ≡ class = cc in ap is_class (sym same) ∙ is
class_by false made class is e = absurd (cc)

class_of_parts : (name : Option (List ℕ)) (raw : Option ℤ) (class : PassabilityClass) → class_with name raw ≡ Some class → is_class class ≡ true
class_of_parts None raw class e = absurd (cc)
class_of_parts (Some name) None class e = absurd (cc)
class_of_parts (Some name) (Some raw) class e =
    class_by (is_class_name name && is_clearance raw) (record { name = name; clearance = raw }) class refl e

class_of_keys : (keys : Bool) (name : Option (List ℕ)) (raw : Option ℤ) (class : PassabilityClass) → cond keys (class_with name raw) None ≡ Some class → is_class class ≡ true
class_of_keys true name raw class e = class_of_parts name raw class e
class_of_keys false name raw class e = absurd (cc)

class_read : (d : Data) (class : PassabilityClass) → class_of d ≡ Some class → is_class class ≡ true
class_read d class e = class_of_keys (has_keys (codes "name" ∷ codes "clearance" ∷ []) d) (text_under (codes "name") d) (clearance_under d) class e

record AreRead (items : List Data) : Type 0 where
  long : length (filter_map class_of items) ≡ length items
  each : list_all is_class (filter_map class_of items) ≡ true

read_each : (items : List Data) → list_all (λ d. is_some (class_of d)) items ≡ true → AreRead items
read_each [] h = record { long = refl; each = refl }
read_each (d ∷ items) h = by_first (class_of d) refl h (λ more. read_each items more)
  where
    by_first : (found : Option PassabilityClass) → class_of d ≡ found → (is_some found && list_all (λ d. is_some (class_of d)) items) ≡ true
        → (list_all (λ d. is_some (class_of d)) items ≡ true → AreRead items) → AreRead (d ∷ items)
    by_first None e h rest = absurd (cc)
    by_first (Some class) e h rest =
        let all = filter_map class_of items in
        let others = rest h in
        let front : filter_map class_of (d ∷ items) ≡ class ∷ all = ap (λ o. cons_option o all) e in record {
          long = ap length front ∙ ap suc others.long;
          each = ap (list_all is_class) front ∙ and_from (is_class class) (list_all is_class all) (class_read d class e) others.each;
        }

table_read : (items : List Data) (classes : List PassabilityClass) → some_if (are_classes items) (filter_map class_of items) ≡ Some classes → is_table classes ≡ true
table_read items classes e =
    let found = some_if-some (are_classes items) (filter_map class_of items) classes e in
    let read = filter_map class_of items in
    let some = nat_le 1 (length items) in
    let few = nat_le (length items) 16 in
    let all = list_all (λ d. is_some (class_of d)) items in
    let parts = and_parts (some && few && all) (are_distinct read) found.0 in
    let more = and_parts (some && few) all parts.0 in
    let is = read_each items more.1 in
    ap is_table (sym found.1)
    ∙ and_from (nat_le 1 (length read) && nat_le (length read) 16 && list_all is_class read) (are_distinct read)
    (and_from (nat_le 1 (length read) && nat_le (length read) 16) (list_all is_class read)
    (ap (λ n. nat_le 1 n && nat_le n 16) is.long ∙ more.0) is.each) parts.1

array_read : (found : Option (List Data)) (classes : List PassabilityClass)
    → option_and_then (λ items. some_if (are_classes items) (filter_map class_of items)) found ≡ Some classes → is_table classes ≡ true
array_read None classes e = absurd (cc)
array_read (Some items) classes e = table_read items classes e

-- ---- maps

nothing_inside : (size : Size) (base : List (Rect × ℕ)) → base ≡ [] → All (λ (entry : Rect × ℕ). IsRectInside size entry.0) base
nothing_inside size base none =
    subst (λ (l : List (Rect × ℕ)). All (λ (entry : Rect × ℕ). IsRectInside size entry.0) l) (sym none) (All-nil (λ (entry : Rect × ℕ). IsRectInside size entry.0))

nothing_masked : (base : List (Rect × ℕ)) → base ≡ [] → All (λ (entry : Rect × ℕ). entry.1 ≤ 65535) base
nothing_masked base none =
    subst (λ (l : List (Rect × ℕ)). All (λ (entry : Rect × ℕ). entry.1 ≤ 65535) l) (sym none) (All-nil (λ (entry : Rect × ℕ). entry.1 ≤ 65535))

pub map_said : (m : Map) (d : Data) → IsMapLine m d → IsMapValue m
map_said m d says = record {
  is = record {
    oldest = says.oldest;
    newest = says.newest;
    some_caller = says.some;
    few_callers = says.few;
    base_inside = nothing_inside m.size m.base says.no_base;
  };
  classes = array_read (option_map list_of (as_array says.classes)) m.classes (classes-from says.classes m.classes says.says_classes);
  masks = nothing_masked m.base says.no_base;
}

pub record AreEntries (size : Size) (rects : List (Rect × ℕ)) : Type 0 where
  pub inside : All (λ (entry : Rect × ℕ). IsRectInside size entry.0) rects
  pub masks : All (λ (entry : Rect × ℕ). entry.1 ≤ 65535) rects

entries_said : (size : Size) (rects : List (Rect × ℕ)) (ds : List Data) → SayEach (IsEntry size) rects ds → AreEntries size rects
entries_said size [] [] says =
    record { inside = All-nil (λ (entry : Rect × ℕ). IsRectInside size entry.0); masks = All-nil (λ (entry : Rect × ℕ). entry.1 ≤ 65535) }
entries_said size [] (d ∷ ds) says = absurd says
entries_said size (rect ∷ rects) [] says = absurd says
entries_said size (rect ∷ rects) (d ∷ ds) says =
    let rest = entries_said size rects ds says.1 in record {
      inside = All-cons (λ (entry : Rect × ℕ). IsRectInside size entry.0) rect rects says.0.inside rest.inside;
      masks = All-cons (λ (entry : Rect × ℕ). entry.1 ≤ 65535) rect rects says.0.mask rest.masks;
    }

pub base_said : (size : Size) (rects : List (Rect × ℕ)) (d : Data) → IsBaseLine size rects d → AreEntries size rects
base_said size rects d (base, keys, (items, is, says)) = entries_said size rects items says

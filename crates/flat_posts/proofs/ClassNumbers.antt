-- The numbers of classes by their names.
use Rattle.std.proofs.Common.{◌≡◌, ◌≢◌, ℕ, zero, suc, ◌+◌, ◌<◌, List, [], ◌∷◌, Bool, true, false, cond, Some, None, refl, ap, sym, ◌∙◌, subst, IsTrue, arith}
use Rattle.std.specs.Prelude.{All, bytes_eq, position, not, ◌||◌}
use Rattle.std.specs.List.{position_from}
use Rattle.std.proofs.lemmas.Bool.{and_parts}
use Rattle.std.proofs.lemmas.Slice.Eq.{bytes_eq-Decides}
use Rattle.std.proofs.lemmas.List.Elements.{All-head, All-tail}
use Rattle.std.proofs.lemmas.Iterator.Adapters.{position_from-zero}
use Rattle.class_config.specs.declared.table.PassabilityClass.{PassabilityClass}
use Rattle.class_config.specs.Classes.{name_at, has_name, are_distinct}
use Rattle.posts.specs.declared.posts.Post.{Post}
use Rattle.posts.specs.declared.posts.Post.TheVariants.{Edit as Editing, Ask as Asking}
use Rattle.posts.specs.declared.posts.Request.{Request}
use Rattle.posts.specs.Maps.{Map}
use Rattle.flat_posts.specs.declared.posted.FlatPost.{FlatPost}
use Rattle.flat_posts.specs.Posts.{IsPost, flat_request, asked_class}
use Rattle.flat_posts.proofs.FlatForms.{class_of-flat_post}

-- ---- a name that stands at a place of a list

none_at : (name : List ℕ) (classes : List PassabilityClass) (number : ℕ) → All (λ class. class.name ≢ name) classes → name_at classes number ≡ Some name → ⊥
none_at name [] number none e = let f : None ≡ Some name = e in absurd (cc)
none_at name (class ∷ classes) zero none e =
    let same : class.name ≡ name = cc in All-head (λ (other : PassabilityClass). other.name ≢ name) class classes none same
none_at name (class ∷ classes) (suc number) none e = none_at name classes number (All-tail (λ (other : PassabilityClass). other.name ≢ name) class classes none) e

-- the class at the place that is found has the name
found_from : (name : List ℕ) (classes : List PassabilityClass) (i place : ℕ) → position_from (λ class. bytes_eq class.name name) i classes ≡ Some place
    → (number : ℕ) × ((place ≡ i + number) × (name_at classes number ≡ Some name))
found_from name [] i place e = absurd (cc)
found_from name (class ∷ classes) i place e =
    by_test (bytes_eq class.name name) (bytes_eq-Decides class.name name).0 (λ later. found_from name classes (i + 1) place later) e
  where
    by_test : (same : Bool) → (same ≡ true → class.name ≡ name)
        → (position_from (λ other. bytes_eq other.name name) (i + 1) classes ≡ Some place → (number : ℕ) × ((place ≡ i + 1 + number) × (name_at classes number ≡ Some name)))
        → cond same (Some i) (position_from (λ other. bytes_eq other.name name) (i + 1) classes) ≡ Some place
        → (number : ℕ) × ((place ≡ i + number) × (name_at (class ∷ classes) number ≡ Some name))
    by_test true tells rest found = let here : i ≡ place = cc in (0, (omega (arith, here), ap Some (tells refl)))
    by_test false tells rest found = let later = rest found in let at = later.1.0 in (suc later.0, (omega (arith, at), later.1.1))

pub name-position : (name : List ℕ) (classes : List PassabilityClass) (number : ℕ) → Some number ≡ position (λ class. bytes_eq class.name name) classes
    → name_at classes number ≡ Some name
name-position name classes number e =
    let same = position_from-zero (λ (class : PassabilityClass). bytes_eq class.name name) classes in
    let found = found_from name classes 0 number (sym same ∙ sym e) in
    let at : found.0 ≡ number = let there = found.1.0 in omega (arith, there) in
    subst (λ n. name_at classes n ≡ Some name) at found.1.1

-- the flat form of a request with the number that was found is its flat post
pub IsPost-found : (map : Map) (flat : FlatPost) (caller number : ℕ) (request : Request) (post : Post) → caller < map.callers → post ≡ Asking request
    → flat ≡ flat_request caller number request → name_at map.classes number ≡ Some (asked_class request) → IsPost map flat caller post
IsPost-found map flat caller number request post of_map is form named =
    let at : flat.class_number ≡ number = ap (λ f. f.class_number) form ∙ class_of-flat_post caller number request in
    subst (IsPost map flat caller) (sym is) (record {
      of_map = of_map;
      form = form ∙ ap (λ n. flat_request caller n request) (sym at);
      class = ap (λ n. name_at map.classes n) at ∙ named;
    })

-- ---- a name has one number

or_second : (a b : Bool) → b ≡ true → (a || b) ≡ true
or_second true b h = refl
or_second false b h = h

has_at : (name : List ℕ) (classes : List PassabilityClass) (number : ℕ) → name_at classes number ≡ Some name → has_name name classes ≡ true
has_at name [] number e = absurd (cc)
has_at name (class ∷ classes) zero e =
    let same : class.name ≡ name = cc in ap (λ b. b || has_name name classes) ((bytes_eq-Decides class.name name).1 same)
has_at name (class ∷ classes) (suc number) e = or_second (bytes_eq class.name name) (has_name name classes) (has_at name classes number e)

not_both : (b : Bool) → not b ≡ true → b ≡ true → ⊥
not_both true h e = absurd (cc)
not_both false h e = absurd (cc)

one_number : (name : List ℕ) (classes : List PassabilityClass) (first second : ℕ) → IsTrue (are_distinct classes) → name_at classes first ≡ Some name
    → name_at classes second ≡ Some name → first ≡ second
one_number name [] first second distinct one other = absurd (cc)
one_number name (class ∷ classes) zero zero distinct one other = refl
one_number name (class ∷ classes) zero (suc second) distinct one other =
    let same : class.name ≡ name = cc in
    absurd (not_both (has_name class.name classes) (and_parts (not (has_name class.name classes)) (are_distinct classes) distinct).0
    (ap (λ n. has_name n classes) same ∙ has_at name classes second other))
one_number name (class ∷ classes) (suc first) zero distinct one other =
    let same : class.name ≡ name = cc in
    absurd (not_both (has_name class.name classes) (and_parts (not (has_name class.name classes)) (are_distinct classes) distinct).0
    (ap (λ n. has_name n classes) same ∙ has_at name classes first one))
one_number name (class ∷ classes) (suc first) (suc second) distinct one other =
    ap suc (one_number name classes first second (and_parts (not (has_name class.name classes)) (are_distinct classes) distinct).1 one other)

pub one_form-IsPost : (map : Map) (flat other : FlatPost) (caller : ℕ) (post : Post) → IsTrue (are_distinct map.classes) → IsPost map flat caller post
    → IsPost map other caller post → flat ≡ other
one_form-IsPost map flat other caller (Editing edit) distinct is too = is.form ∙ sym too.form
one_form-IsPost map flat other caller (Asking request) distinct is too =
    is.form ∙ ap (λ n. flat_request caller n request) (one_number (asked_class request) map.classes flat.class_number other.class_number distinct is.class too.class) ∙ sym too.form

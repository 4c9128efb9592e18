-- The posts of a turn have lines in the version of their script.
use Rattle.std.proofs.Common.{◌≡◌, inl, inr, ℕ, zero, suc, ◌+◌, ◌==◌, ◌||◌, List, [], ◌∷◌, ◌++◌, length, get_or, nat_le, Bool, true, false, cond, Option, Some, None, Ok, option_and_then, refl, ap, sym, subst, ◌∙◌, arith, eq-eqb}
use Rattle.std.specs.List.{list_all}
use Rattle.std.proofs.lemmas.Bool.{and_parts, or_left, or_right, false≢true, and_from, le-leb}
use Rattle.std.proofs.lemmas.List.Elements.{All-set}
use Rattle.std.proofs.lemmas.List.Folds.{list_all-append}
use Rattle.std.proofs.lemmas.List.Sums.{AllPass-from_list_all, list_all-from_AllPass, sum_by-cons}
use Rattle.serde_json.specs.Data.{Data}
use Rattle.nav_types.specs.declared.cells.Rect.{Rect}
use Rattle.goal_shapes.specs.declared.goals.GoalSpec.{GoalSpec}
use Rattle.goal_shapes.specs.declared.goals.GoalSpec.TheVariants.{Plain, Obstruction as ByObstruction}
use Rattle.posts.specs.declared.edits.Edit.TheVariants.{Add, Remove, Move}
use Rattle.posts.specs.declared.posts.Post.{Post}
use Rattle.posts.specs.declared.posts.Post.TheVariants.{Edit as Edits, Ask as Asks}
use Rattle.posts.specs.declared.posts.Request.TheVariants.{Path, Region}
use Rattle.posts.specs.Callers.{list_of}
use Rattle.posts.specs.Posts.{post_count}
use Rattle.script_text.specs.declared.forms.CallerPost.{CallerPost}
use Rattle.script_text.specs.declared.parts.Rules.{Rules}
use Rattle.script_text.specs.declared.parts.Part.{Part}
use Rattle.script_text.specs.declared.parts.Part.TheVariants.{BeforeMap, InBase, InTurns}
use Rattle.script_text.specs.Forms.{base_of, post_of, end_of}
use Rattle.script_text.specs.Grammar.{IsGoal, HasAddKeys, IsPostLine, shape_key}
use Rattle.script_text.specs.Script.{Place, Item, Ends, at_place, stuck_by, ends_turn, too_long, Walk, arrived, stuck, reading_of, counted, bad, no_posts, with_post, end_line, turn_line, placed_in_turn, base_line, placed_in, placed, is_long, accept}
use Rattle.script_text.specs.Canon.{is_goal_of, is_post_of, HaveLines}
use Rattle.script_text.specs.Reader.{HaveLinesAt, rules_at}
use Rattle.script_text.specs.inner.Judging.{GivesTurn}
use Rattle.script_text.proofs.GrammarPosts.{post-is}

-- ---- the post of a line

has_goal : (version : ℕ) (goal : GoalSpec) (d : Data) → IsGoal version goal d → is_goal_of version goal ≡ true
has_goal version (Plain goal) d says = refl
has_goal version (ByObstruction id grow) d says = le-leb 3 version says.newest

has_mask : (version mask : ℕ) (key : List ℕ) (c add shape d : Data) → HasAddKeys version mask key c add shape d → (nat_le 2 version || mask == 65535) ≡ true
has_mask version mask key c add shape d (inl h) = or_right (nat_le 2 version) (mask == 65535) (eq-eqb mask 65535 h.1)
has_mask version mask key c add shape d (inr h) = or_left (nat_le 2 version) (mask == 65535) (le-leb 2 version h.0)

has_line : (version callers caller : ℕ) (post : Post) (d : Data) → IsPostLine version callers caller post d → is_post_of version post ≡ true
has_line version callers caller (Edits (Add id o)) d (c, add, shape, keys, who, number, decimals) = has_mask version o.mask (shape_key o.shape) c add shape d keys
has_line version callers caller (Edits (Remove id)) d says = refl
has_line version callers caller (Edits (Move id x z)) d (c, move, to, keys, who, number, at, newest) = le-leb 3 version newest
has_line version callers caller (Asks (Path request)) d says = has_goal version request.goal says.to says.says_goal
has_line version callers caller (Asks (Region query)) d says = refl

found_has : (version callers : ℕ) (d : Option Data) (said : CallerPost) → option_and_then (post_of version callers) d ≡ Some said
    → is_post_of version said.post ≡ true
found_has version callers None said e = absurd cc
found_has version callers (Some d) said e = has_line version callers said.caller said.post d (post-is version callers d said e)

-- ---- the posts of a turn

abbrev have : ℕ → List Post → Bool
have version posts = list_all (is_post_of version) posts

of_one : (version : ℕ) (turn : List (List Post)) (caller : ℕ) → list_all (have version) turn ≡ true → have version (get_or turn caller []) ≡ true
of_one version [] caller all = refl
of_one version (posts ∷ turn) zero all = (and_parts (have version posts) (list_all (have version) turn) all).0
of_one version (posts ∷ turn) (suc caller) all = of_one version turn caller (and_parts (have version posts) (list_all (have version) turn) all).1

with_has : (version : ℕ) (turn : List (List Post)) (said : CallerPost) → HaveLines version turn → is_post_of version said.post ≡ true
    → HaveLines version (with_post turn said)
with_has version turn said all is =
    let own : List Post = list_of turn said.caller in
    let more : have version (own ++ said.post ∷ []) ≡ true =
    list_all-append (is_post_of version) own (said.post ∷ [])
    ∙ and_from (have version own) (have version (said.post ∷ [])) (of_one version turn said.caller all) (and_from (is_post_of version said.post) true is refl) in
    list_all-from_AllPass (have version) (with_post turn said)
    (All-set (λ posts. have version posts ≡ true) turn said.caller (own ++ said.post ∷ []) more (AllPass-from_list_all (have version) turn all))

-- a turn without posts
pub none_have : (version : ℕ) (turn : List (List Post)) → post_count turn ≡ 0 → HaveLines version turn
none_have version [] none = refl
none_have version ([] ∷ turn) none =
    let rest : post_count turn ≡ 0 = none in
    none_have version turn rest
none_have version ((post ∷ posts) ∷ turn) none =
    let all : post_count ((post ∷ posts) ∷ turn) ≡ length (post ∷ posts) + post_count turn = sum_by-cons length (post ∷ posts) turn in
    absurd (omega (arith, none, all))

-- ---- a line in its place

-- the walk arrives and gives nothing
is_silent : List Item → Ends → Bool
is_silent [] (at_place p) = true
is_silent [] (stuck_by s) = false
is_silent (item ∷ items) ends = false

silent : Walk → Bool
silent w = is_silent w.items w.ends

place_of : Place → Ends → Place
place_of p (at_place q) = q
place_of p (stuck_by s) = p

end_gives : (p : Place) (rules : Rules) (number : Option ℕ) → silent (end_line p rules number) ≡ false
unfolding silent is_silent
end_gives p rules None = refl
end_gives p rules (Some number) = by_number (number == p.turns + 1)
  where
    by_number : (same : Bool) → silent (cond same
        (arrived (ends_turn p.posts ∷ []) (record p { part = InTurns rules; turns = p.turns + 1; posts = no_posts rules.callers })) (bad p)) ≡ false
    by_number true = refl
    by_number false = refl

is_loud : (w : Walk) (q : Place) → silent w ≡ false → w ≡ arrived [] q → ⊥
unfolding silent is_silent
is_loud w q loud e = false≢true (sym loud ∙ ap silent e)

turn_has : (p q : Place) (rules : Rules) (found : Option CallerPost) (number : Option ℕ)
    → ((said : CallerPost) → found ≡ Some said → is_post_of rules.version said.post ≡ true)
    → HaveLines rules.version p.posts → turn_line p rules found number ≡ arrived [] q → HaveLines rules.version q.posts
unfolding place_of
turn_has p q rules (Some said) number has all e =
    let Has : List (List Post) → Type 0 = λ turn. HaveLines rules.version turn in
    let same : with_post p.posts said ≡ q.posts = ap (λ (w : Walk). (place_of p w.ends).posts) e in
    subst Has same (with_has rules.version p.posts said all (has said refl))
turn_has p q rules None number has all e = absurd (is_loud (end_line p rules number) q (end_gives p rules number) e)

placed_has : (p q : Place) (rules : Rules) (d : Option Data) → HaveLines rules.version p.posts → placed_in_turn p rules d ≡ arrived [] q
    → HaveLines rules.version q.posts
placed_has p q rules d all e =
    turn_has p q rules (option_and_then (post_of rules.version rules.callers) d) (option_and_then end_of d) (found_has rules.version rules.callers d) all e

base_has : (p q : Place) (rules : Rules) (d : Option Data) (rects : Option (List (Rect × ℕ))) → HaveLines rules.version p.posts
    → base_line p rules d rects ≡ arrived [] q → HaveLines rules.version q.posts
unfolding silent is_silent
base_has p q rules d (Some rects) all e = absurd (false≢true (ap silent e))
base_has p q rules d None all e = placed_has p q rules d all e

part_has : (part : Part) (p q : Place) (rules : Rules) (d : Option Data) → rules_at part ≡ Some rules → HaveLines rules.version p.posts
    → placed_in part p d ≡ arrived [] q → HaveLines rules.version q.posts
part_has BeforeMap p q rules d at all e = absurd cc
part_has (InBase own) p q rules d at all e =
    let same : own ≡ rules = cc in
    let Had : Rules → Type 0 = λ r. HaveLines r.version p.posts in
    let Has : Rules → Type 0 = λ r. HaveLines r.version q.posts in
    subst Has same (base_has p q own d (option_and_then (base_of own.size) d) (subst Had (sym same) all) e)
part_has (InTurns own) p q rules d at all e =
    let same : own ≡ rules = cc in
    let Had : Rules → Type 0 = λ r. HaveLines r.version p.posts in
    let Has : Rules → Type 0 = λ r. HaveLines r.version q.posts in
    subst Has same (placed_has p q own d (subst Had (sym same) all) e)

accept_has : (size : ℕ) (line : List ℕ) (p q : Place) (rules : Rules) → rules_at p.part ≡ Some rules → HaveLines rules.version p.posts
    → accept size line p ≡ arrived [] q → HaveLines rules.version q.posts
unfolding silent is_silent
accept_has size line p q rules at all e = by_length (is_long p size line) e
  where
    by_length : (long : Bool) → cond long (stuck (too_long (p.lines + 1))) (placed (counted p size) (reading_of line)) ≡ arrived [] q → HaveLines rules.version q.posts
    by_length true e = absurd (false≢true (ap silent e))
    by_length false e = part_has p.part (counted p size) q rules (reading_of line) at all e

-- ---- the lines of a turn

pub none_have_at : (part : Part) (turn : List (List Post)) → post_count turn ≡ 0 → HaveLinesAt part turn
none_have_at part turn none rules at = none_have rules.version turn none

-- a post line keeps what the posts before it have
pub have_on : (part : Part) (size : ℕ) (line : List ℕ) (p q : Place) → rules_at p.part ≡ rules_at part → HaveLinesAt part p.posts
    → GivesTurn (accept size line p) q (Ok None) → HaveLinesAt part q.posts
have_on part size line p q same have gives rules at = accept_has size line p q rules (same ∙ at) (have rules at) gives

-- and so do places whose lines keep to the same
pub have_by : (old now : Part) (posts : List (List Post)) → rules_at now ≡ rules_at old → HaveLinesAt old posts → HaveLinesAt now posts
have_by old now posts same have = λ rules at. have rules (sym same ∙ at)

-- The posts of a turn, one more.
use Rattle.std.proofs.Common.{◌≡◌, ◌≢◌, ℕ, ◌+◌, ◌<◌, ◌⊎◌, inl, inr, List, [], ◌∷◌, ◌++◌, Bool, true, false, cond, length, take, get_or, replicate, sym, ap, subst, ◌∙◌, arith}
use Rattle.std.specs.Prelude.{All, filter, map, slice_set, ◌==◌}
use Rattle.std.proofs.lemmas.Bool.Decides.{eqb_tells}
use Rattle.std.proofs.lemmas.List.{append-nil, ext_get_or, get_or-replicate, get_or-set_same, get_or-set_other, length-replicate, length-set, map-append, take_more}
use Rattle.std.proofs.lemmas.List.Elements.{All-nil, All-cons, filter-append}
use Rattle.std.proofs.lemmas.List.FromFn.{get_or-map-range_with_len, length-map-range_with_len}
use Rattle.posts.specs.declared.posts.Post.{Post}
use Rattle.posts.specs.Callers.{list_of}
use Rattle.posts.specs.Maps.{Map}
use Rattle.flat_posts.specs.declared.posted.FlatPost.{FlatPost}
use Rattle.flat_posts.specs.TurnPosts.{ArePosts, posts_by, turn_of}

abbrev is_by : ℕ → ℕ × Post → Bool
is_by caller entry = entry.0 == caller

abbrev post_in : ℕ × Post → Post
post_in entry = entry.1

posts_by-append : (xs ys : List (ℕ × Post)) (caller : ℕ) → posts_by (xs ++ ys) caller ≡ posts_by xs caller ++ posts_by ys caller
posts_by-append xs ys caller =
    ap (map post_in) (filter-append (is_by caller) xs ys) ∙ map-append post_in (filter (is_by caller) xs) (filter (is_by caller) ys)

-- the posts of a caller, with one that is theirs or another's
posts_by-one : (entry : ℕ × Post) (caller : ℕ) (b : Bool) → is_by caller entry ≡ b → posts_by (entry ∷ []) caller ≡ cond b (entry.1 ∷ []) []
posts_by-one entry caller true same = ap (λ (b : Bool). map post_in (cond b (entry ∷ []) [])) same
posts_by-one entry caller false same = ap (λ (b : Bool). map post_in (cond b (entry ∷ []) [])) same

posts_by-own : (entries : List (ℕ × Post)) (entry : ℕ × Post) (caller : ℕ) → is_by caller entry ≡ true
    → posts_by entries caller ++ entry.1 ∷ [] ≡ posts_by (entries ++ entry ∷ []) caller
posts_by-own entries entry caller same =
    ap (λ (l : List Post). posts_by entries caller ++ l) (sym (posts_by-one entry caller true same)) ∙ sym (posts_by-append entries (entry ∷ []) caller)

posts_by-other : (entries : List (ℕ × Post)) (entry : ℕ × Post) (caller : ℕ) → is_by caller entry ≡ false
    → posts_by entries caller ≡ posts_by (entries ++ entry ∷ []) caller
posts_by-other entries entry caller other =
    sym (append-nil (posts_by entries caller)) ∙ ap (λ (l : List Post). posts_by entries caller ++ l) (sym (posts_by-one entry caller false other))
    ∙ sym (posts_by-append entries (entry ∷ []) caller)

-- a caller's list in a turn
list_of-turn_of : (callers : ℕ) (entries : List (ℕ × Post)) (caller : ℕ) → caller < callers → list_of (turn_of callers entries) caller ≡ posts_by entries caller
list_of-turn_of callers entries caller lt = get_or-map-range_with_len (posts_by entries) 0 callers caller caller [] lt (omega arith)

pub length-turn_of : (callers : ℕ) (entries : List (ℕ × Post)) → length (turn_of callers entries) ≡ callers
length-turn_of callers entries = length-map-range_with_len (posts_by entries) 0 callers

abbrev with_post : List (List Post) → ℕ × Post → List (List Post)
with_post turn entry = slice_set turn entry.0 (list_of turn entry.0 ++ entry.1 ∷ [])

turn_of-at : (callers : ℕ) (entries : List (ℕ × Post)) (entry : ℕ × Post) (i : ℕ) → entry.0 < callers → i < callers
    → list_of (with_post (turn_of callers entries) entry) i ≡ list_of (turn_of callers (entries ++ entry ∷ [])) i
turn_of-at callers entries entry i of_map lt = by_test (eqb_tells entry.0 i)
  where
    turn : List (List Post)
    turn = turn_of callers entries

    own : List Post
    own = list_of turn entry.0 ++ entry.1 ∷ []

    by_test : ((entry.0 == i) ≡ true) × (entry.0 ≡ i) ⊎ ((entry.0 == i) ≡ false) × (entry.0 ≢ i)
        → list_of (with_post turn entry) i ≡ list_of (turn_of callers (entries ++ entry ∷ [])) i
    by_test (inl same) =
        ap (λ (k : ℕ). list_of (with_post turn entry) k) (sym same.1)
        ∙ get_or-set_same turn entry.0 own [] (subst (λ (n : ℕ). entry.0 < n) (sym (length-turn_of callers entries)) of_map)
        ∙ ap (λ (k : ℕ). list_of turn k ++ entry.1 ∷ []) same.1
        ∙ ap (λ (l : List Post). l ++ entry.1 ∷ []) (list_of-turn_of callers entries i lt)
        ∙ posts_by-own entries entry i same.0
        ∙ sym (list_of-turn_of callers (entries ++ entry ∷ []) i lt)
    by_test (inr other) =
        get_or-set_other turn entry.0 i own [] (λ e. other.1 (sym e))
        ∙ list_of-turn_of callers entries i lt
        ∙ posts_by-other entries entry i other.0
        ∙ sym (list_of-turn_of callers (entries ++ entry ∷ []) i lt)

turn_of-push : (callers : ℕ) (entries : List (ℕ × Post)) (entry : ℕ × Post) → entry.0 < callers
    → with_post (turn_of callers entries) entry ≡ turn_of callers (entries ++ entry ∷ [])
turn_of-push callers entries entry of_map =
    let turn = turn_of callers entries in
    let many : length (with_post turn entry) ≡ callers = length-set turn entry.0 (list_of turn entry.0 ++ entry.1 ∷ []) ∙ length-turn_of callers entries in
    ext_get_or [] (with_post turn entry) (turn_of callers (entries ++ entry ∷ [])) (many ∙ sym (length-turn_of callers (entries ++ entry ∷ [])))
    (λ i lt. turn_of-at callers entries entry i of_map (subst (λ (n : ℕ). i < n) many lt))

-- with no posts
pub turn_of-none : (callers : ℕ) → replicate callers [] ≡ turn_of callers []
turn_of-none callers =
    let none : List (List Post) = replicate callers [] in
    let many : length none ≡ callers = length-replicate callers [] in
    ext_get_or [] none (turn_of callers []) (many ∙ sym (length-turn_of callers []))
    (λ i lt. let here : i < callers = subst (λ (n : ℕ). i < n) many lt in get_or-replicate callers i [] [] here ∙ sym (list_of-turn_of callers [] i here))

-- in the loop
pub turn_of-posted : (callers : ℕ) (entries : List (ℕ × Post)) (i : ℕ) (entry : ℕ × Post) (old now : List (List Post)) (caller : ℕ) (post : Post) → i < length entries
    → entry ≡ get_or entries i entry → All (λ (e : ℕ × Post). e.0 < callers) entries → caller ≡ entry.0 → post ≡ entry.1 → old ≡ turn_of callers (take i entries)
    → now ≡ slice_set old caller (list_of old caller ++ post ∷ []) → now ≡ turn_of callers (take (i + 1) entries)
turn_of-posted callers entries i entry old now caller post lt is each by same before after =
    let of_map : entry.0 < callers = subst (λ (e : ℕ × Post). e.0 < callers) (sym is) (each i entry lt) in
    let set : List (List Post) → ℕ → Post → List (List Post) = λ turn k p. slice_set turn k (list_of turn k ++ p ∷ []) in
    after ∙ ap (λ (turn : List (List Post)). set turn caller post) before ∙ ap (λ (k : ℕ). set (turn_of callers (take i entries)) k post) by
    ∙ ap (λ (p : Post). set (turn_of callers (take i entries)) entry.0 p) same
    ∙ turn_of-push callers (take i entries) entry of_map
    ∙ ap (turn_of callers) (ap (λ (e : ℕ × Post). take i entries ++ e ∷ []) is ∙ sym (take_more entries i entry lt))

-- the callers of posts of the map are the map's
pub callers_in : (map : Map) (flats : List FlatPost) (entries : List (ℕ × Post)) → ArePosts map flats entries → All (λ (entry : ℕ × Post). entry.0 < map.callers) entries
callers_in map [] [] are = All-nil (λ (entry : ℕ × Post). entry.0 < map.callers)
callers_in map [] (entry ∷ entries) are = absurd are
callers_in map (flat ∷ flats) [] are = absurd are
callers_in map (flat ∷ flats) (entry ∷ entries) are =
    All-cons (λ (e : ℕ × Post). e.0 < map.callers) entry entries are.0.of_map (callers_in map flats entries are.1)

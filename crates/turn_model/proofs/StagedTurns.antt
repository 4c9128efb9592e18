-- One caller more of a staged turn.
use Rattle.std.proofs.Common.{◌≡◌, ℕ, ◌+◌, ◌-◌, ◌<◌, ◌≤◌, Bool, List, [], ◌∷◌, ◌++◌, None, Some, length, map, take, drop, get_or, slice_index, sym, ap, ◌∙◌, arith, append_assoc, append-nil, add-zero}
use Rattle.std.specs.Prelude.{nat_le}
use Rattle.std.proofs.lemmas.Bool.{le-leb, lt-leb}
use Rattle.std.proofs.lemmas.List.{drop_all, drop_more, get_or-drop, drop-drop}
use Rattle.posts.specs.declared.posts.Post.{Post}
use Rattle.path_service.specs.declared.events.Why.TheVariants.{Posted}
use Rattle.path_service.specs.machine.Table.{first, or_else, unless, why_few}
use Rattle.path_service.specs.machine.Effects.{next_posts, added_up}
use Rattle.path_service.proofs.machine.CallerLists.{first_at}

first_drop : (i : ℕ) (ns : List ℕ) → first (drop i ns) ≡ slice_index ns i
first_drop i ns = first_at (drop i ns) ∙ get_or-drop i ns 0 0 ∙ ap (slice_index ns) (add-zero i)

past_drop : (i : ℕ) (ns : List ℕ) → drop 1 (drop i ns) ≡ drop (i + 1) ns
past_drop i ns = drop-drop 1 i ns

-- the posts of the next caller, and then those of the callers after it
pub next_posts_more : (pss : List (List Post)) (ts ks : List ℕ) (i : ℕ) (ps : List Post) → i < length pss → ps ≡ get_or pss i ps
    → next_posts (drop i pss) (drop i ts) (drop i ks) ≡ take (slice_index ks i) (drop (slice_index ts i) ps) ∷ next_posts (drop (i + 1) pss) (drop (i + 1) ts) (drop (i + 1) ks)
next_posts_more pss ts ks i ps lt is =
    ap (λ (rest : List (List Post)). next_posts rest (drop i ts) (drop i ks)) (drop_more pss i ps lt ∙ ap (λ (p : List Post). p ∷ drop (i + 1) pss) (sym is))
    ∙ ap (λ (k : ℕ). take k (drop (first (drop i ts)) ps) ∷ next_posts (drop (i + 1) pss) (drop 1 (drop i ts)) (drop 1 (drop i ks))) (first_drop i ks)
    ∙ ap (λ (t : ℕ). take (slice_index ks i) (drop t ps) ∷ next_posts (drop (i + 1) pss) (drop 1 (drop i ts)) (drop 1 (drop i ks))) (first_drop i ts)
    ∙ ap (λ (r : List ℕ). take (slice_index ks i) (drop (slice_index ts i) ps) ∷ next_posts (drop (i + 1) pss) r (drop 1 (drop i ks))) (past_drop i ts)
    ∙ ap (λ (r : List ℕ). take (slice_index ks i) (drop (slice_index ts i) ps) ∷ next_posts (drop (i + 1) pss) (drop (i + 1) ts) r) (past_drop i ks)

-- the number of the next caller, and then those of the callers after it
pub added_up_more : (ts : List ℕ) (k : ℕ) (ks : List ℕ) (i : ℕ) → i < length ts → added_up (drop i ts) (k ∷ ks) ≡ (slice_index ts i + k) ∷ added_up (drop (i + 1) ts) ks
added_up_more ts k ks i lt = ap (λ (rest : List ℕ). added_up rest (k ∷ ks)) (drop_more ts i 0 lt)

pub turn_more : (pss : List (List Post)) (ts ks : List ℕ) (i : ℕ) (ps : List Post) (made all : List (List Post)) (part : List Post) → i < length pss → ps ≡ get_or pss i ps
    → part ≡ take (slice_index ks i) (drop (slice_index ts i) ps) → made ++ next_posts (drop i pss) (drop i ts) (drop i ks) ≡ all
    → (made ++ part ∷ []) ++ next_posts (drop (i + 1) pss) (drop (i + 1) ts) (drop (i + 1) ks) ≡ all
turn_more pss ts ks i ps made all part lt is cut before =
    append_assoc made (part ∷ []) (next_posts (drop (i + 1) pss) (drop (i + 1) ts) (drop (i + 1) ks))
    ∙ ap (λ (p : List Post). made ++ p ∷ next_posts (drop (i + 1) pss) (drop (i + 1) ts) (drop (i + 1) ks)) cut
    ∙ ap (λ (l : List (List Post)). made ++ l) (sym (next_posts_more pss ts ks i ps lt is))
    ∙ before

pub taken_more : (pss : List (List Post)) (ts ks : List ℕ) (i : ℕ) (ps : List Post) (made all : List ℕ) (part : List Post) (n : ℕ) → i < length pss → length ts ≡ length pss → ps ≡ get_or pss i ps
    → part ≡ take (slice_index ks i) (drop (slice_index ts i) ps) → n ≡ slice_index ts i + length part
    → made ++ added_up (drop i ts) (map length (next_posts (drop i pss) (drop i ts) (drop i ks))) ≡ all
    → (made ++ n ∷ []) ++ added_up (drop (i + 1) ts) (map length (next_posts (drop (i + 1) pss) (drop (i + 1) ts) (drop (i + 1) ks))) ≡ all
taken_more pss ts ks i ps made all part n lt same is cut sum before =
    let rest : List (List Post) = next_posts (drop (i + 1) pss) (drop (i + 1) ts) (drop (i + 1) ks) in
    append_assoc made (n ∷ []) (added_up (drop (i + 1) ts) (map length rest))
    ∙ ap (λ (k : ℕ). made ++ k ∷ added_up (drop (i + 1) ts) (map length rest)) (sum ∙ ap (λ (p : List Post). slice_index ts i + length p) cut)
    ∙ ap (λ (l : List ℕ). made ++ l) (sym (added_up_more ts (length (take (slice_index ks i) (drop (slice_index ts i) ps))) (map length rest) i (omega arith)))
    ∙ ap (λ (l : List (List Post)). made ++ added_up (drop i ts) (map length l)) (sym (next_posts_more pss ts ks i ps lt is))
    ∙ before

-- the turn with no caller left, and what is taken with it
pub turn_end : (pss : List (List Post)) (ts ks : List ℕ) (i : ℕ) (made all : List (List Post)) → length pss ≤ i
    → made ++ next_posts (drop i pss) (drop i ts) (drop i ks) ≡ all → made ≡ all
turn_end pss ts ks i made all past before =
    sym (append-nil made)
    ∙ ap (λ (rest : List (List Post)). made ++ next_posts rest (drop i ts) (drop i ks)) (sym (drop_all i pss past))
    ∙ before

pub taken_end : (pss : List (List Post)) (ts ks : List ℕ) (i : ℕ) (made all : List ℕ) → length pss ≤ i → length ts ≡ length pss
    → made ++ added_up (drop i ts) (map length (next_posts (drop i pss) (drop i ts) (drop i ks))) ≡ all → made ≡ all
taken_end pss ts ks i made all past same before =
    sym (append-nil made)
    ∙ ap (λ (rest : List (List Post)). made ++ map length (next_posts rest (drop i ts) (drop i ks))) (sym (drop_all i pss past))
    ∙ ap (λ (rest : List ℕ). made ++ added_up rest (map length (next_posts (drop i pss) (drop i ts) (drop i ks)))) (sym (drop_all i ts (omega (arith, same, past))))
    ∙ before

-- why the next caller has too few posts left, and then why one after it has
why_few_more : (pss : List (List Post)) (ts ks : List ℕ) (i : ℕ) (ps : List Post) (taken wanted left : ℕ) → i < length pss → ps ≡ get_or pss i ps
    → taken ≡ slice_index ts i → wanted ≡ slice_index ks i → left ≡ length ps - taken
    → why_few i (drop i pss) (drop i ts) (drop i ks)
    ≡ or_else (unless (nat_le wanted left) (Posted i left)) (why_few (i + 1) (drop (i + 1) pss) (drop (i + 1) ts) (drop (i + 1) ks))
why_few_more pss ts ks i ps taken wanted left lt is at_taken at_wanted at_left =
    let first_left : length ps - first (drop i ts) ≡ left = ap (λ (t : ℕ). length ps - t) (first_drop i ts ∙ sym at_taken) ∙ sym at_left in
    let first_wanted : first (drop i ks) ≡ wanted = first_drop i ks ∙ sym at_wanted in
    ap (λ (rest : List (List Post)). why_few i rest (drop i ts) (drop i ks)) (drop_more pss i ps lt ∙ ap (λ (p : List Post). p ∷ drop (i + 1) pss) (sym is))
    ∙ ap (λ (l : ℕ). or_else (unless (nat_le (first (drop i ks)) l) (Posted i l)) (why_few (i + 1) (drop (i + 1) pss) (drop 1 (drop i ts)) (drop 1 (drop i ks)))) first_left
    ∙ ap (λ (w : ℕ). or_else (unless (nat_le w left) (Posted i left)) (why_few (i + 1) (drop (i + 1) pss) (drop 1 (drop i ts)) (drop 1 (drop i ks)))) first_wanted
    ∙ ap (λ (r : List ℕ). or_else (unless (nat_le wanted left) (Posted i left)) (why_few (i + 1) (drop (i + 1) pss) r (drop 1 (drop i ks)))) (past_drop i ts)
    ∙ ap (λ (r : List ℕ). or_else (unless (nat_le wanted left) (Posted i left)) (why_few (i + 1) (drop (i + 1) pss) (drop (i + 1) ts) r)) (past_drop i ks)

-- the next caller has enough
pub why_few_skips : (pss : List (List Post)) (ts ks : List ℕ) (i : ℕ) (ps : List Post) (taken wanted left : ℕ) → i < length pss → ps ≡ get_or pss i ps
    → taken ≡ slice_index ts i → wanted ≡ slice_index ks i → left ≡ length ps - taken → wanted ≤ left
    → why_few i (drop i pss) (drop i ts) (drop i ks) ≡ why_few (i + 1) (drop (i + 1) pss) (drop (i + 1) ts) (drop (i + 1) ks)
why_few_skips pss ts ks i ps taken wanted left lt is at_taken at_wanted at_left enough =
    why_few_more pss ts ks i ps taken wanted left lt is at_taken at_wanted at_left
    ∙ ap (λ (b : Bool). or_else (unless b (Posted i left)) (why_few (i + 1) (drop (i + 1) pss) (drop (i + 1) ts) (drop (i + 1) ks))) (le-leb wanted left enough)

-- the next caller has too few
pub why_few_here : (pss : List (List Post)) (ts ks : List ℕ) (i : ℕ) (ps : List Post) (taken wanted left : ℕ) → i < length pss → ps ≡ get_or pss i ps
    → taken ≡ slice_index ts i → wanted ≡ slice_index ks i → left ≡ length ps - taken → left < wanted
    → why_few i (drop i pss) (drop i ts) (drop i ks) ≡ Some (Posted i left)
why_few_here pss ts ks i ps taken wanted left lt is at_taken at_wanted at_left few =
    why_few_more pss ts ks i ps taken wanted left lt is at_taken at_wanted at_left
    ∙ ap (λ (b : Bool). or_else (unless b (Posted i left)) (why_few (i + 1) (drop (i + 1) pss) (drop (i + 1) ts) (drop (i + 1) ks))) (lt-leb wanted left few)

-- no caller is left
pub why_few_none : (pss : List (List Post)) (ts ks : List ℕ) (i : ℕ) → length pss ≤ i → why_few i (drop i pss) (drop i ts) (drop i ks) ≡ None
why_few_none pss ts ks i past = ap (λ (rest : List (List Post)). why_few i rest (drop i ts) (drop i ks)) (drop_all i pss past)

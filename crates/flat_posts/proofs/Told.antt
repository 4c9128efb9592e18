-- The replies and the waypoints of a turn or to posts, one item more.
use Rattle.std.proofs.Common.{◌≡◌, ℕ, suc, ◌+◌, ◌-◌, ◌<◌, List, [], ◌∷◌, ◌++◌, length, take, get_or, ap, sym, ◌∙◌, append_assoc, arith, refl}
use Rattle.std.specs.Prelude.{sum_by}
use Rattle.std.proofs.lemmas.List.{take_more, append-nil, length-take-le}
use Rattle.std.proofs.lemmas.List.Sums.{sum_by_push, sum_by-cons}
use Rattle.posts.specs.declared.replies.Reply.{Reply}
use Rattle.flat_posts.specs.declared.posted.FlatPost.{FlatPost}
use Rattle.flat_posts.specs.declared.replied.FlatReply.{FlatReply}
use Rattle.flat_posts.specs.Replies.{in_bits, flat_reply, waypoint_count, caller_replies, replies_from, replies_at, replies_to}

-- one item more in a sum
pub sum_by-more : {X : Type 0} (f : X → ℕ) (xs : List X) (i : ℕ) (x : X) → i < length xs → x ≡ get_or xs i x → sum_by f (take (i + 1) xs) ≡ sum_by f (take i xs) + f x
sum_by-more {X} f xs i x lt is =
    ap (sum_by f) (take_more xs i x lt ∙ ap (λ (y : X). take i xs ++ y ∷ []) (sym is)) ∙ sum_by_push f (take i xs) x

-- one reply more to a caller
pub caller_replies-push : (caller post before : ℕ) (xs : List Reply) (x : Reply) → caller_replies caller post before (xs ++ x ∷ [])
    ≡ caller_replies caller post before xs ++ flat_reply caller (post + length xs) (in_bits 64 (before + sum_by waypoint_count xs)) x ∷ []
caller_replies-push caller post before [] x =
    let p : post ≡ post + 0 = omega arith in let b : before ≡ before + 0 = omega arith in
    ap (λ n. flat_reply caller n (in_bits 64 before) x ∷ []) p ∙ ap (λ n. flat_reply caller (post + 0) (in_bits 64 n) x ∷ []) b
caller_replies-push caller post before (y ∷ ys) x =
    let p : post + 1 + length ys ≡ post + suc (length ys) = omega arith in
    let s = sum_by-cons waypoint_count y ys in
    let b : before + waypoint_count y + sum_by waypoint_count ys ≡ before + sum_by waypoint_count (y ∷ ys) = omega (arith, s) in
    let head = flat_reply caller post (in_bits 64 before) y in
    let rest = caller_replies caller (post + 1) (before + waypoint_count y) ys in
    ap (λ l. head ∷ l) (caller_replies-push caller (post + 1) (before + waypoint_count y) ys x
    ∙ ap (λ n. rest ++ flat_reply caller n (in_bits 64 (before + waypoint_count y + sum_by waypoint_count ys)) x ∷ []) p
    ∙ ap (λ n. rest ++ flat_reply caller (post + suc (length ys)) (in_bits 64 n) x ∷ []) b)

-- one caller more
pub replies_from-push : (caller before : ℕ) (xs : List (List Reply)) (x : List Reply) → replies_from caller before (xs ++ x ∷ [])
    ≡ replies_from caller before xs ++ caller_replies (caller + length xs) 0 (before + sum_by (λ replies. sum_by waypoint_count replies) xs) x
replies_from-push caller before [] x =
    let p : caller ≡ caller + 0 = omega arith in let b : before ≡ before + 0 = omega arith in
    append-nil (caller_replies caller 0 before x)
    ∙ ap (λ n. caller_replies n 0 before x) p ∙ ap (λ n. caller_replies (caller + 0) 0 n x) b
replies_from-push caller before (y ∷ ys) x =
    let p : caller + 1 + length ys ≡ caller + suc (length ys) = omega arith in
    let s = sum_by-cons (λ (replies : List Reply). sum_by waypoint_count replies) y ys in
    let b : before + sum_by waypoint_count y + sum_by (λ replies. sum_by waypoint_count replies) ys ≡ before + sum_by (λ replies. sum_by waypoint_count replies) (y ∷ ys) = omega (arith, s) in
    let head = caller_replies caller 0 before y in
    let rest = replies_from (caller + 1) (before + sum_by waypoint_count y) ys in
    ap (λ l. head ++ l) (replies_from-push (caller + 1) (before + sum_by waypoint_count y) ys x
    ∙ ap (λ n. rest ++ caller_replies n 0 (before + sum_by waypoint_count y + sum_by (λ replies. sum_by waypoint_count replies) ys) x) p
    ∙ ap (λ n. rest ++ caller_replies (caller + suc (length ys)) 0 n x) b)
    ∙ sym (append_assoc head rest (caller_replies (caller + suc (length ys)) 0 (before + sum_by (λ replies. sum_by waypoint_count replies) (y ∷ ys)) x))

-- ---- in the loops

pub caller_replies-more : (caller before next : ℕ) (xs : List Reply) (i : ℕ) (x : Reply) (r : FlatReply) (all : List FlatReply) → i < length xs → x ≡ get_or xs i x
    → next ≡ in_bits 64 (before + sum_by waypoint_count (take i xs)) → r ≡ flat_reply caller i next x
    → (all ++ caller_replies caller 0 before (take i xs)) ++ r ∷ [] ≡ all ++ caller_replies caller 0 before (take (i + 1) xs)
caller_replies-more caller before next xs i x r all lt is told made =
    let some = caller_replies caller 0 before (take i xs) in
    let n : i ≡ 0 + length (take i xs) = let e = length-take-le i xs (omega (arith, lt)) in omega (arith, e) in
    let one : r ≡ flat_reply caller (0 + length (take i xs)) (in_bits 64 (before + sum_by waypoint_count (take i xs))) x =
    made ∙ ap (λ k. flat_reply caller i k x) told ∙ ap (λ k. flat_reply caller k (in_bits 64 (before + sum_by waypoint_count (take i xs))) x) n in
    let next_list : take i xs ++ x ∷ [] ≡ take (i + 1) xs = ap (λ (y : Reply). take i xs ++ y ∷ []) is ∙ sym (take_more xs i x lt) in
    append_assoc all some (r ∷ []) ∙ ap (λ (l : List FlatReply). all ++ l)
    (ap (λ y. some ++ y ∷ []) one ∙ sym (caller_replies-push caller 0 before (take i xs) x) ∙ ap (λ l. caller_replies caller 0 before l) next_list)

pub replies_from-more : (xs : List (List Reply)) (i : ℕ) (x : List Reply) → i < length xs → x ≡ get_or xs i x
    → replies_from 0 0 (take i xs) ++ caller_replies i 0 (sum_by (λ replies. sum_by waypoint_count replies) (take i xs)) x ≡ replies_from 0 0 (take (i + 1) xs)
replies_from-more xs i x lt is =
    let sum = sum_by (λ (replies : List Reply). sum_by waypoint_count replies) (take i xs) in
    let n : i ≡ 0 + length (take i xs) = let e = length-take-le i xs (omega (arith, lt)) in omega (arith, e) in
    let b : sum ≡ 0 + sum = omega arith in
    let next_list : take i xs ++ x ∷ [] ≡ take (i + 1) xs = ap (λ (y : List Reply). take i xs ++ y ∷ []) is ∙ sym (take_more xs i x lt) in
    ap (λ k. replies_from 0 0 (take i xs) ++ caller_replies k 0 sum x) n ∙ ap (λ k. replies_from 0 0 (take i xs) ++ caller_replies (0 + length (take i xs)) 0 k x) b
    ∙ sym (replies_from-push 0 0 (take i xs) x) ∙ ap (λ l. replies_from 0 0 l) next_list

-- ---- replies to posts one after another

replies_at-push : (place before : ℕ) (flats : List FlatPost) (flat : FlatPost) (xs : List Reply) (x : Reply) → length xs < length flats
    → replies_at place before flats (xs ++ x ∷ [])
    ≡ replies_at place before flats xs ++ flat_reply (get_or flats (length xs) flat).caller (place + length xs) (in_bits 64 (before + sum_by waypoint_count xs)) x ∷ []
replies_at-push place before [] flat xs x lt = let empty : ⊥ = omega (arith, lt) in absurd empty
replies_at-push place before (f ∷ flats) flat [] x lt =
    let p : place ≡ place + 0 = omega arith in let b : before ≡ before + 0 = omega arith in
    none flats ∙ ap (λ n. flat_reply f.caller n (in_bits 64 before) x ∷ []) p ∙ ap (λ n. flat_reply f.caller (place + 0) (in_bits 64 n) x ∷ []) b
  where
    none : (rest : List FlatPost) → replies_at place before (f ∷ rest) (x ∷ []) ≡ flat_reply f.caller place (in_bits 64 before) x ∷ []
    none [] = refl
    none (g ∷ rest) = refl
replies_at-push place before (f ∷ flats) flat (y ∷ ys) x lt =
    let p : place + 1 + length ys ≡ place + suc (length ys) = omega arith in
    let s = sum_by-cons waypoint_count y ys in
    let b : before + waypoint_count y + sum_by waypoint_count ys ≡ before + sum_by waypoint_count (y ∷ ys) = omega (arith, s) in
    let head = flat_reply f.caller place (in_bits 64 before) y in
    let rest = replies_at (place + 1) (before + waypoint_count y) flats ys in
    let caller = (get_or flats (length ys) flat).caller in
    ap (λ l. head ∷ l) (replies_at-push (place + 1) (before + waypoint_count y) flats flat ys x (omega (arith, lt))
    ∙ ap (λ n. rest ++ flat_reply caller n (in_bits 64 (before + waypoint_count y + sum_by waypoint_count ys)) x ∷ []) p
    ∙ ap (λ n. rest ++ flat_reply caller (place + suc (length ys)) (in_bits 64 n) x ∷ []) b)

pub replies_to-none : (flats : List FlatPost) → replies_to flats [] ≡ []
replies_to-none [] = refl
replies_to-none (flat ∷ flats) = refl

pub replies_to-more : (flats : List FlatPost) (flat : FlatPost) (first : ℕ) (xs : List Reply) (i : ℕ) (x : Reply) (r : FlatReply) → length xs ≡ length flats → i < length xs
    → x ≡ get_or xs i x → first ≡ in_bits 64 (sum_by waypoint_count (take i xs)) → r ≡ flat_reply (get_or flats i flat).caller i first x
    → replies_to flats (take i xs) ++ r ∷ [] ≡ replies_to flats (take (i + 1) xs)
replies_to-more flats flat first xs i x r same lt is told made =
    let some = replies_to flats (take i xs) in
    let sum = sum_by waypoint_count (take i xs) in
    let n : i ≡ length (take i xs) = let e = length-take-le i xs (omega (arith, lt)) in omega (arith, e) in
    let m : i ≡ 0 + i = omega arith in
    let z : sum ≡ 0 + sum = omega arith in
    let one : r ≡ flat_reply (get_or flats (length (take i xs)) flat).caller (0 + length (take i xs)) (in_bits 64 (0 + sum)) x =
    made ∙ ap (λ k. flat_reply (get_or flats i flat).caller i k x) told ∙ ap (λ k. flat_reply (get_or flats i flat).caller i (in_bits 64 k) x) z
    ∙ ap (λ k. flat_reply (get_or flats i flat).caller k (in_bits 64 (0 + sum)) x) m ∙ ap (λ k. flat_reply (get_or flats k flat).caller (0 + k) (in_bits 64 (0 + sum)) x) n in
    let next_list : take i xs ++ x ∷ [] ≡ take (i + 1) xs = ap (λ (y : Reply). take i xs ++ y ∷ []) is ∙ sym (take_more xs i x lt) in
    ap (λ y. some ++ y ∷ []) one ∙ sym (replies_at-push 0 0 flats flat (take i xs) x (omega (arith, n, lt, same))) ∙ ap (λ l. replies_to flats l) next_list

-- Callers that have collected what was sent to them, and have ended.
use Rattle.std.proofs.Common.{◌≡◌, ℕ, suc, ◌+◌, ◌≤◌, List, [], ◌∷◌, ◌++◌, Some, length, map, refl, sym, ap, ◌∙◌, subst, arith, append_assoc, append-nil}
use Rattle.std.specs.List.{AllByRecursion}
use Rattle.std.specs.Prelude.{slice_get}
use Rattle.posts.specs.declared.posts.Post.{Post}
use Rattle.posts.specs.declared.replies.Reply.{Reply}
use Rattle.posts.specs.Callers.{list_of}
use Rattle.path_service.specs.Callers.{CallerId, CallerState, EndedState, AreNumbered, caller_id}
use Rattle.pathserve.specs.inner.Works.{AllEndWith, EndsWith, HaveAllPosted}

-- ---- callers in the places of their numbers

-- the caller stands in the place of its number
abbrev pub IsPlaced : List CallerId → CallerState → Type 0
IsPlaced ids caller = slice_get ids caller.id.number ≡ Some caller.id

placed_from : (all : List CallerId) (n : ℕ) (callers : List CallerState) → AreNumbered n (map caller_id callers)
    → ((k : ℕ) → slice_get (map caller_id callers) k ≡ slice_get all (n + k)) → AllByRecursion (IsPlaced all) callers
placed_from all n [] numbers same = tt
placed_from all n (caller ∷ callers) numbers same =
    let here : n + 0 ≡ caller.id.number = omega (arith, numbers.0) in
    let next : (k : ℕ) → slice_get (map caller_id callers) k ≡ slice_get all ((n + 1) + k) = λ k.
    let there : n + suc k ≡ (n + 1) + k = omega arith in
    same (suc k) ∙ ap (slice_get all) there in
    (sym (ap (slice_get all) here) ∙ sym (same 0), placed_from all (n + 1) callers numbers.1 next)

-- so does each caller of a service
pub placed : (ids : List CallerId) (callers : List CallerState) → map caller_id callers ≡ ids → AreNumbered 0 ids
    → AllByRecursion (IsPlaced ids) callers
placed ids callers same numbers =
    placed_from ids 0 callers (subst (AreNumbered 0) (sym same) numbers) (λ k.
    let here : k ≡ 0 + k = omega arith in
    ap (λ (l : List CallerId). slice_get l k) same ∙ ap (slice_get ids) here)

-- ---- one caller

-- A caller that collects: it is that one, it has posted nothing more, and it was told of as many replies as were sent to it.
pub record IsCollecting (sent : List Reply) (start now : CallerState) : Type 0 where
  pub id : now.id ≡ start.id
  pub posted : now.posted ≡ start.posted
  pub told : length sent ≤ now.told

-- ---- one after another

-- Of these callers those in `later` are left: with whatever these end, behind the ended ones, all of them end.
pub HaveEnded : List (List Reply) → List CallerState → List CallerState → List EndedState → Type 0
HaveEnded sent callers later ended = (rest : List EndedState) → AllEndWith sent later rest → AllEndWith sent callers (ended ++ rest)

pub ended_none : (sent : List (List Reply)) (callers later : List CallerState) (ended : List EndedState) → later ≡ callers → ended ≡ []
    → HaveEnded sent callers later ended
unfolding HaveEnded
ended_none sent callers later ended same none rest end =
    subst (λ (e : List EndedState). AllEndWith sent callers (e ++ rest)) (sym none) (subst (λ (l : List CallerState). AllEndWith sent l rest) same end)

pub ended_more : (sent : List (List Reply)) (callers later next : List CallerState) (ended more : List EndedState) (caller : CallerState) (one : EndedState)
    → later ≡ caller ∷ next → more ≡ ended ++ one ∷ [] → EndsWith sent caller one → HaveEnded sent callers later ended
    → HaveEnded sent callers next more
unfolding HaveEnded
ended_more sent callers later next ended more caller one later_is more_is ends so_far rest end =
    let here : AllEndWith sent later (one ∷ rest) = subst (λ (l : List CallerState). AllEndWith sent l (one ∷ rest)) (sym later_is) (ends, end) in
    subst (AllEndWith sent callers) (sym (ap (λ (e : List EndedState). e ++ rest) more_is ∙ append_assoc ended (one ∷ []) rest)) (so_far (one ∷ rest) here)

pub ended_all : (sent : List (List Reply)) (callers later : List CallerState) (ended : List EndedState) → later ≡ [] → HaveEnded sent callers later ended
    → AllEndWith sent callers ended
unfolding HaveEnded
ended_all sent callers later ended none so_far =
    subst (AllEndWith sent callers) (append-nil ended) (so_far [] (subst (λ (l : List CallerState). AllEndWith sent l []) (sym none) tt))

-- ---- callers that posted, and have ended

pub ids_of_callers : (ids : List CallerId) (lists : List (List Post)) (callers : List CallerState) → HaveAllPosted ids lists callers
    → map caller_id callers ≡ ids
ids_of_callers [] [] [] all = refl
ids_of_callers [] [] (caller ∷ callers) all = absurd all
ids_of_callers [] (posts ∷ lists) callers all = absurd all
ids_of_callers (id ∷ ids) [] callers all = absurd all
ids_of_callers (id ∷ ids) (posts ∷ lists) [] all = absurd all
ids_of_callers (id ∷ ids) (posts ∷ lists) (caller ∷ callers) all =
    ap (λ (i : CallerId). i ∷ map caller_id callers) all.0.caller ∙ ap (λ (l : List CallerId). id ∷ l) (ids_of_callers ids lists callers all.1)

-- the callers are those, and each posted the first of its list
pub record PostedFirst (id : CallerId) (posts : List Post) (ended : EndedState) : Type 0 where
  pub caller : ended.id ≡ id
  pub rest : List Post
  pub first : ended.posted ++ rest ≡ posts

abbrev pub AllPostedFirst : List CallerId → List (List Post) → List EndedState → Type 0
AllPostedFirst [] [] [] = Unit {0}
AllPostedFirst [] [] (ended ∷ more) = ⊥
AllPostedFirst [] (posts ∷ lists) all = ⊥
AllPostedFirst (id ∷ ids) [] all = ⊥
AllPostedFirst (id ∷ ids) (posts ∷ lists) [] = ⊥
AllPostedFirst (id ∷ ids) (posts ∷ lists) (ended ∷ more) = PostedFirst id posts ended × AllPostedFirst ids lists more

pub posted_first : (sent : List (List Reply)) (ids : List CallerId) (lists : List (List Post)) (callers : List CallerState) (ended : List EndedState)
    → HaveAllPosted ids lists callers → AllEndWith sent callers ended → AllPostedFirst ids lists ended
posted_first sent [] [] [] [] all ends = tt
posted_first sent [] [] [] (x ∷ ended) all ends = absurd ends
posted_first sent [] [] (caller ∷ callers) ended all ends = absurd all
posted_first sent [] (posts ∷ lists) callers ended all ends = absurd all
posted_first sent (id ∷ ids) [] callers ended all ends = absurd all
posted_first sent (id ∷ ids) (posts ∷ lists) [] ended all ends = absurd all
posted_first sent (id ∷ ids) (posts ∷ lists) (caller ∷ callers) [] all ends = absurd ends
posted_first sent (id ∷ ids) (posts ∷ lists) (caller ∷ callers) (x ∷ ended) all ends = (
  record {
    caller = ends.0.id ∙ all.0.caller;
    rest = all.0.rest;
    first = ap (λ (l : List Post). l ++ all.0.rest) ends.0.posted ∙ all.0.first;
  },
  posted_first sent ids lists callers ended all.1 ends.1,
)

-- ---- what they collected

-- each collected as many replies as were sent to it
pub collected : (sent : List (List Reply)) (callers : List CallerState) (ended : List EndedState) → AllEndWith sent callers ended
    → AllByRecursion (λ (x : EndedState). length (list_of sent x.id.number) ≤ length x.collected) ended
collected sent [] [] ends = tt
collected sent [] (x ∷ ended) ends = absurd ends
collected sent (caller ∷ callers) [] ends = absurd ends
collected sent (caller ∷ callers) (x ∷ ended) ends =
    let here : caller.id.number ≡ x.id.number = ap (λ (i : CallerId). i.number) (sym ends.0.id) in
    (subst (λ (n : ℕ). length (list_of sent n) ≤ length x.collected) here ends.0.collected, collected sent callers ended ends.1)

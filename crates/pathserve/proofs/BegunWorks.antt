-- The works of callers, begun and ended one by one.
use Rattle.std.proofs.Common.{◌≡◌, List, [], ◌∷◌, ◌++◌, map, sym, ap, ◌∙◌, subst, append_assoc, append-nil}
use Rattle.posts.specs.declared.posts.Post.{Post}
use Rattle.path_service.specs.Callers.{CallerId, CallerState, caller_id}
use Rattle.pathserve.specs.declared.works.Begun.{Begun}
use Rattle.pathserve.specs.inner.Works.{HasPosted, HaveAllPosted}
use Rattle.pathserve.specs.inner.Begun.{Begins, BeginAll}

-- ---- works that are begun

-- Of these callers the works of the first are begun, each of the posts in its place. The callers in `later` are left, with
-- the lists in `left`: whatever begins theirs, behind the works so far it begins those of all.
pub HaveBegun : List CallerState → List (List Post) → List CallerState → List (List Post) → List Begun → Type 0
HaveBegun callers lists later left works =
    (rest : List Begun) → BeginAll (map caller_id later) left rest → BeginAll (map caller_id callers) lists (works ++ rest)

pub begun_none : (callers later : List CallerState) (lists left : List (List Post)) (works : List Begun) → later ≡ callers → left ≡ lists → works ≡ []
    → HaveBegun callers lists later left works
unfolding HaveBegun
begun_none callers later lists left works same_callers same_lists none rest begin =
    subst (λ (w : List Begun). BeginAll (map caller_id callers) lists (w ++ rest)) (sym none)
    (subst (λ (l : List (List Post)). BeginAll (map caller_id callers) l rest) same_lists
    (subst (λ (l : List CallerState). BeginAll (map caller_id l) left rest) same_callers begin))

pub begun_more : (callers later next : List CallerState) (lists left further : List (List Post)) (works more : List Begun) (caller : CallerState) (posts : List Post) (begun : Begun)
    → later ≡ caller ∷ next → left ≡ posts ∷ further → more ≡ works ++ begun ∷ [] → Begins caller.id posts begun → HaveBegun callers lists later left works
    → HaveBegun callers lists next further more
unfolding HaveBegun
begun_more callers later next lists left further works more caller posts begun callers_are lists_are works_are begins so_far rest begin =
    let here : BeginAll (map caller_id later) left (begun ∷ rest) =
    subst (λ (l : List CallerState). BeginAll (map caller_id l) left (begun ∷ rest)) (sym callers_are)
    (subst (λ (l : List (List Post)). BeginAll (map caller_id (caller ∷ next)) l (begun ∷ rest)) (sym lists_are) (begins, begin)) in
    subst (λ (w : List Begun). BeginAll (map caller_id callers) lists w)
    (sym (ap (λ (w : List Begun). w ++ rest) works_are ∙ append_assoc works (begun ∷ []) rest)) (so_far (begun ∷ rest) here)

pub begun_all : (callers later : List CallerState) (lists left : List (List Post)) (works : List Begun) → later ≡ [] → left ≡ [] → HaveBegun callers lists later left works
    → BeginAll (map caller_id callers) lists works
unfolding HaveBegun
begun_all callers later lists left works callers_are lists_are so_far =
    let none : BeginAll (map caller_id later) left [] =
    subst (λ (l : List CallerState). BeginAll (map caller_id l) left []) (sym callers_are) (subst (λ (l : List (List Post)). BeginAll [] l []) (sym lists_are) tt) in
    subst (BeginAll (map caller_id callers) lists) (append-nil works) (so_far [] none)

-- ---- works that have ended

-- Of these works the first have ended, and those in `later` are left: whoever begin these for what is left, all of them
-- have posted once the rest has ended.
pub HaveEnded : List Begun → List Begun → List CallerState → Type 0
HaveEnded works later ended =
    (ids : List CallerId) (lists : List (List Post)) → BeginAll ids lists works
    → (ids' : List CallerId) × ((lists' : List (List Post)) × (BeginAll ids' lists' later
    × ((rest : List CallerState) → HaveAllPosted ids' lists' rest → HaveAllPosted ids lists (ended ++ rest))))

pub ended_none : (works later : List Begun) (ended : List CallerState) → later ≡ works → ended ≡ [] → HaveEnded works later ended
unfolding HaveEnded
ended_none works later ended same none ids lists begin = (
  ids,
  (lists, (subst (BeginAll ids lists) (sym same) begin, λ rest have. subst (λ (e : List CallerState). HaveAllPosted ids lists (e ++ rest)) (sym none) have)),
)

-- the work that was next has ended
StepTo : List CallerId → List (List Post) → List CallerId → List (List Post) → Begun → CallerState → List Begun → List CallerState → Type 0
StepTo ids lists ids' lists' begun one next ended = (ids'' : List CallerId) × ((lists'' : List (List Post)) × (BeginAll ids'' lists'' next
    × ((rest : List CallerState) → HaveAllPosted ids'' lists'' rest → HaveAllPosted ids lists ((ended ++ one ∷ []) ++ rest))))

one_more : (ids ids' : List CallerId) (lists lists' : List (List Post)) (begun : Begun) (next : List Begun) (one : CallerState) (ended : List CallerState)
    → ((id : CallerId) (posts : List Post) → Begins id posts begun → HasPosted id posts one)
    → BeginAll ids' lists' (begun ∷ next) → ((rest : List CallerState) → HaveAllPosted ids' lists' rest → HaveAllPosted ids lists (ended ++ rest))
    → StepTo ids lists ids' lists' begun one next ended
unfolding StepTo
one_more ids [] lists [] begun next one ended ends begin so_far = absurd begin
one_more ids [] lists (posts ∷ lists') begun next one ended ends begin so_far = absurd begin
one_more ids (id ∷ ids') lists [] begun next one ended ends begin so_far = absurd begin
one_more ids (id ∷ ids') lists (posts ∷ lists') begun next one ended ends begin so_far = (
  ids',
  (lists', (begin.1, λ rest have. subst (HaveAllPosted ids lists) (sym (append_assoc ended (one ∷ []) rest)) (so_far (one ∷ rest) (ends id posts begin.0, have)))),
)

pub ended_more : (works later next : List Begun) (ended more : List CallerState) (begun : Begun) (one : CallerState)
    → later ≡ begun ∷ next → more ≡ ended ++ one ∷ [] → ((id : CallerId) (posts : List Post) → Begins id posts begun → HasPosted id posts one)
    → HaveEnded works later ended → HaveEnded works next more
unfolding HaveEnded StepTo
ended_more works later next ended more begun one works_are ended_are ends so_far ids lists begin =
    let at = so_far ids lists begin in
    let left : BeginAll at.0 at.1.0 (begun ∷ next) = subst (BeginAll at.0 at.1.0) works_are at.1.1.0 in
    subst (λ (e : List CallerState). (ids'' : List CallerId) × ((lists'' : List (List Post)) × (BeginAll ids'' lists'' next
    × ((rest : List CallerState) → HaveAllPosted ids'' lists'' rest → HaveAllPosted ids lists (e ++ rest))))) (sym ended_are)
    (one_more ids at.0 lists at.1.0 begun next one ended ends left at.1.1.1)

none_left : (ids : List CallerId) (lists : List (List Post)) → BeginAll ids lists [] → HaveAllPosted ids lists []
none_left [] [] begin = tt
none_left [] (posts ∷ lists) begin = absurd begin
none_left (id ∷ ids) [] begin = absurd begin
none_left (id ∷ ids) (posts ∷ lists) begin = absurd begin

pub ended_all : (works later : List Begun) (ended : List CallerState) → later ≡ [] → HaveEnded works later ended
    → (ids : List CallerId) (lists : List (List Post)) → BeginAll ids lists works → HaveAllPosted ids lists ended
unfolding HaveEnded
ended_all works later ended none so_far ids lists begin =
    let at = so_far ids lists begin in
    let left : BeginAll at.0 at.1.0 [] = subst (BeginAll at.0 at.1.0) none at.1.1.0 in
    subst (HaveAllPosted ids lists) (append-nil ended) (at.1.1.1 [] (none_left at.0 at.1.0 left))

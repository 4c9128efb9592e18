-- Turns that are joined caller by caller.
use Rattle.std.proofs.Common.{◌≡◌, ℕ, suc, ◌+◌, ◌<◌, ◌≤◌, List, [], ◌∷◌, ◌++◌, length, set, refl, sym, ap, ◌∙◌, arith, append-nil, append_assoc, length-append}
use Rattle.posts.specs.declared.posts.Post.{Post}
use Rattle.posts.specs.Callers.{list_of}
use Rattle.path_service.specs.machine.Effects.{joined_up}
use Rattle.path_service.proofs.machine.CallerLists.{joined_nothing}

-- the next caller's posts are joined to its own
joined_next : (lists turn : List (List Post)) (posts : List Post) → length turn < length lists
    → set (joined_up lists turn) (length turn) (list_of (joined_up lists turn) (length turn) ++ posts) ≡ joined_up lists (turn ++ posts ∷ [])
joined_next [] turn posts less = absurd (omega (arith, less))
joined_next (own ∷ lists) [] posts less = ap (λ (l : List Post). (l ++ posts) ∷ joined_up lists []) (append-nil own)
joined_next (own ∷ lists) (next ∷ turn) posts less = ap (λ (ls : List (List Post)). (own ++ next) ∷ ls) (joined_next lists turn posts (omega (arith, less)))

pub length-joined : (lists turn : List (List Post)) → length turn ≤ length lists → length (joined_up lists turn) ≡ length lists
length-joined [] [] few = refl
length-joined [] (next ∷ turn) few = absurd (omega (arith, few))
length-joined (own ∷ lists) [] few = ap suc (length-joined lists [] (omega arith))
length-joined (own ∷ lists) (next ∷ turn) few = ap suc (length-joined lists turn (omega (arith, few)))

-- Of a turn the posts of so many callers are joined to their lists, and those in `left` are left.
pub record JoinsFirst (old turn now left : List (List Post)) (callers : ℕ) : Type 0 where
  pub done : List (List Post)
  pub parts : done ++ left ≡ turn
  pub count : length done ≡ callers
  pub now_is : now ≡ joined_up old done

pub joins_none : (old turn left : List (List Post)) (callers : ℕ) → left ≡ turn → callers ≡ 0 → JoinsFirst old turn old left callers
joins_none old turn left callers same none = record { done = []; parts = same; count = sym none; now_is = sym (joined_nothing old) }

-- the next caller has a list
pub joins_less : (old turn now left more : List (List Post)) (posts : List Post) (callers : ℕ) → JoinsFirst old turn now left callers → left ≡ posts ∷ more → length turn ≡ length old
    → callers < length now
joins_less old turn now left more posts callers before at wide =
    let parts : length before.done + length left ≡ length turn = sym (length-append before.done left) ∙ ap length before.parts in
    let some : length left ≡ suc (length more) = ap length at in
    let same : length now ≡ length old = ap length before.now_is ∙ length-joined old before.done (omega (arith, parts, some, wide)) in
    omega (arith, parts, some, wide, same, before.count)

pub joins_more : (old turn now new left more : List (List Post)) (posts : List Post) (caller callers next : ℕ) → JoinsFirst old turn now left callers → left ≡ posts ∷ more → length turn ≡ length old
    → caller ≡ callers → new ≡ set now caller (list_of now caller ++ posts) → next ≡ callers + 1 → JoinsFirst old turn new more next
joins_more old turn now new left more posts caller callers next before at wide here joined one =
    let done = before.done in
    let parts : length done + length left ≡ length turn = sym (length-append done left) ∙ ap length before.parts in
    let some : length left ≡ suc (length more) = ap length at in
    let step : set now caller (list_of now caller ++ posts) ≡ joined_up old (done ++ posts ∷ []) =
    ap (λ (ls : List (List Post)). set ls caller (list_of ls caller ++ posts)) before.now_is
    ∙ ap (λ (k : ℕ). set (joined_up old done) k (list_of (joined_up old done) k ++ posts)) (here ∙ sym before.count)
    ∙ joined_next old done posts (omega (arith, parts, some, wide)) in
    record {
      done = done ++ posts ∷ [];
      parts = append_assoc done (posts ∷ []) more ∙ ap (λ (ls : List (List Post)). done ++ ls) (sym at) ∙ before.parts;
      count = omega (arith, length-append done (posts ∷ []), before.count, one);
      now_is = joined ∙ step;
    }

pub joins_all : (old turn now left : List (List Post)) (callers : ℕ) → JoinsFirst old turn now left callers → left ≡ [] → now ≡ joined_up old turn
joins_all old turn now left callers before none =
    let whole : before.done ≡ turn = sym (append-nil before.done) ∙ ap (λ (ls : List (List Post)). before.done ++ ls) (sym none) ∙ before.parts in
    before.now_is ∙ ap (joined_up old) whole

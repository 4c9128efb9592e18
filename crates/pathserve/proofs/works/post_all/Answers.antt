use Rattle.std.proofs.Common.{◌≡◌, ℕ, ◌+◌, ◌<◌, ◌≤◌, ◌^◌, Option, Some, None, List, [], ◌∷◌, ◌++◌, length, take, drop, get_or, sym, ap, ◌∙◌, arith, append_assoc, length-append, length-take}
use Rattle.std.specs.Prelude.{IfSome, IfNone}
use Rattle.std.proofs.lemmas.List.{take-append-drop, take_more}
use Rattle.posts.specs.declared.posts.Post.{Post}
use Rattle.posts.specs.declared.replies.Reply.{Reply}
use Rattle.path_service.specs.Callers.{CallerState}
use Rattle.pathserve.proofs.works.post_all.Goals as goal

-- the first of the posts were posted
first_posted : (old now posts : List Post) (i : ℕ) → now ≡ old ++ take i posts → (rest : List Post) × (now ++ rest ≡ old ++ posts)
first_posted old now posts i is = (
  drop i posts,
  ap (λ (l : List Post). l ++ drop i posts) is ∙ append_assoc old (take i posts) (drop i posts) ∙ ap (λ (l : List Post). old ++ l) (take-append-drop i posts),
)

-- one post more
posted_more : (old now new posts : List Post) (i : ℕ) (post : Post) → i < length posts → post ≡ get_or posts i post → now ≡ old ++ take i posts → new ≡ now ++ post ∷ []
    → new ≡ old ++ take (i + 1) posts
posted_more old now new posts i post less at is more =
    let next : take (i + 1) posts ≡ take i posts ++ post ∷ [] = take_more posts i post less ∙ ap (λ (p : Post). take i posts ++ p ∷ []) (sym at) in
    more ∙ ap (λ (l : List Post). l ++ post ∷ []) is ∙ append_assoc old (take i posts) (post ∷ []) ∙ ap (λ (l : List Post). old ++ l) (sym next)

-- there is room for one post more
room_left : (old now posts : List Post) (i : ℕ) → i < length posts → now ≡ old ++ take i posts → length (old ++ posts) ≤ 2 ^ 62 → length now < 2 ^ 62
room_left old now posts i less is room = omega (arith, ap length is, length-append old (take i posts), length-append old posts, length-take i posts, room, less)

-- a caller that posts stays who it is, and has posted one post more
posts_one : (old new : CallerState) (post : Post) → new ≡ record old { posted = old.posted ++ post ∷ [] } → (new.id ≡ old.id) × (new.posted ≡ old.posted ++ post ∷ [])
posts_one old new post is = (ap (λ (c : CallerState). c.id) is, ap (λ (c : CallerState). c.posted) is)

-- a caller that collects stays who it is, and has posted what it had
collect_keeps : (old new : CallerState) (reply : Option (ℕ × Reply)) → IfSome reply (λ next. new ≡ record old { collected = old.collected ++ next.1 ∷ [] }) → IfNone reply (new ≡ old)
    → (new.id ≡ old.id) × (new.posted ≡ old.posted)
collect_keeps old new None some none = (ap (λ (c : CallerState). c.id) none, ap (λ (c : CallerState). c.posted) none)
collect_keeps old new (Some next) some none = (ap (λ (c : CallerState). c.id) some, ap (λ (c : CallerState). c.posted) some)

pub post-requires : goal.post-requires
post-requires g c = record {
  room = room_left c.args.caller.now.posted c.loop-post.caller.posted c.args.posts.now c.loop-post.post-index c.loop-post-test.true c.loop-post.invariant.posted c.requires;
}

pub loop-post-preserved : goal.loop-post-preserved
loop-post-preserved g c =
    let before = c.loop-post.invariant in
    let old = c.loop-post.caller in
    let new = c.post.new.self in
    let posts = posts_one old new c.post-item.result c.in_ok-post.ensures.posted in
    let keeps = collect_keeps new c.collect-reply.new.self c.collect-reply.result c.collect-reply.ensures.collected c.collect-reply.ensures.none in
    record {
      id = keeps.0 ∙ posts.0 ∙ before.id;
      posted = keeps.1
          ∙ posted_more c.args.caller.now.posted old.posted new.posted c.args.posts.now c.loop-post.post-index c.post-item.result c.loop-post-test.true c.post-item.is before.posted posts.1;
    }

pub returns-in_err-post : goal.returns-in_err-post
returns-in_err-post g c =
    let same = c.in_err-post.ensures.refused in
    record {
      caller = ap (λ (s : CallerState). s.id) same ∙ c.loop-post.invariant.id;
      first = first_posted c.args.caller.now.posted c.post.new.self.posted c.args.posts.now c.loop-post.post-index
          (ap (λ (s : CallerState). s.posted) same ∙ c.loop-post.invariant.posted);
    }

pub returns-clause-first : goal.returns-clause-first
returns-clause-first g c =
    first_posted c.args.caller.now.posted c.loop-post.caller.posted c.args.posts.now c.loop-post.post-index c.loop-post.invariant.posted

use Rattle.std.proofs.Common.{ℕ, List, [], ◌∷◌, ◌++◌, Result, ap, sym, subst, ◌∙◌, arith}
use Rattle.std.proofs.lemmas.Result.{err_from_is_err_and}
use Rattle.nav_types.specs.declared.sequences.NoMemory.{NoMemory}
use Rattle.posts.specs.declared.posts.Post.{Post}
use Rattle.path_service.specs.inner.Channels.{TakesPosts}
use Rattle.path_service.proofs.LaneSteps.{took_none, took_same, took_more, took_full, took_all, took_short}
use Rattle.path_service.proofs.channels.take_posts.Goals as goal

pub taking-init : goal.taking-init
taking-init g c = ([], took_none c.args.lane.now c.args.pending.now.items c.args.room)

pub taking-preserved : goal.taking-preserved
taking-preserved g c =
    let got : List Post = c.taking.invariant.0 in
    let post : Post = c.in-Some.next.1 in
    let took = c.in-Some.ensures in (
      got ++ post ∷ [],
      took_more c.args.lane.now c.taking.lane c.take.new.self c.args.pending.now.items c.taking.pending.items c.push_reserved.new.self.items c.args.room c.taking.left got post
          c.taking.invariant.1 c.taking-test.true took.lane took.told took.taken took.few
          (c.push_reserved.ensures.items ∙ ap (λ (l : List Post). l ++ post ∷ []) c.in_ok-reserve.ensures.items),
    )

pub returns-in_err-reserve : goal.returns-in_err-reserve
returns-in_err-reserve g c =
    let refused = err_from_is_err_and c.from_residual.result c.from_residual.ensures.1 in
    let got = c.taking.invariant.0 in (
      got,
      subst (λ (r : Result ℕ NoMemory). TakesPosts c.args.lane.now c.taking.lane c.args.pending.now.items c.reserve.new.self.items c.args.room r got) (sym refused.1)
          (took_short c.args.lane.now c.taking.lane c.args.pending.now.items c.taking.pending.items c.reserve.new.self.items c.args.room c.taking.left got refused.0 c.taking.invariant.1 c.in_err-reserve.ensures.items),
    )

pub returns-in_default : goal.returns-in_default
returns-in_default g c = (
  c.taking.invariant.0,
  took_all c.args.lane.now c.taking.lane c.take.new.self c.args.pending.now.items c.reserve.new.self.items c.args.room c.taking.left c.taking.invariant.0
      (took_same c.args.lane.now c.taking.lane c.args.pending.now.items c.taking.pending.items c.reserve.new.self.items c.args.room c.taking.left c.taking.invariant.0 c.taking.invariant.1 c.in_ok-reserve.ensures.items) c.in_default.ensures.none c.in_default.ensures.empty,
)

pub returns : goal.returns
returns g c = (
  c.taking.invariant.0,
  took_full c.args.lane.now c.taking.lane c.args.pending.now.items c.taking.pending.items c.args.room c.taking.left c.taking.invariant.0 c.taking.invariant.1 (omega (arith, c.taking-test.false)),
)

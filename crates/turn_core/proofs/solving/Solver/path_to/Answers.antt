use Rattle.std.proofs.Common.{inr, refl, subst}
use Rattle.goal_reach.specs.Starts.{IsStartCell}
use Rattle.goal_reach.specs.Targets.{AreTargets}
use Rattle.grid_versions.specs.Versions.{passes_of}
use Rattle.turn_core.specs.Solvers.{SolverState}
use Rattle.turn_core.proofs.NotedPaths.{path_answers, path_noted}
use Rattle.turn_core.proofs.solving.Solver.path_to.Goals as goal

pub returns-clause-answer : goal.returns-clause-answer
returns-clause-answer c =
    let start = c.in-Some.start in
    let target = c.made_reachable-target.result in
    let starts = subst (λ (s : SolverState). IsStartCell (passes_of s.state c.args.class) c.args.x c.args.z start) c.self.view_is c.in-Some.ensures.start in
    let targets = subst (λ (s : SolverState). AreTargets (passes_of s.state c.args.class) start c.args.goal.now target) c.self.view_is
    c.made_reachable-target.ensures.targets in
    inr (
      _,
      (
        refl,
        path_answers c.args.self.now.state c.args.self.now.report c.args.class c.args.x c.args.z start c.args.goal.now target
            c.in_ok-path.field-0 starts targets c.in_ok-path.ensures.path,
      ),
    )

pub returns-clause-note : goal.returns-clause-note
returns-clause-note c =
    let start = c.in-Some.start in
    let target = c.made_reachable-target.result in
    let targets = subst (λ (s : SolverState). AreTargets (passes_of s.state c.args.class) start c.args.goal.now target) c.self.view_is
    c.made_reachable-target.ensures.targets in
    path_noted c.args.self.now.state c.args.self.now.report c.args.class start c.args.goal.now target c.in_ok-path.field-0 targets c.in_ok-path.ensures.path

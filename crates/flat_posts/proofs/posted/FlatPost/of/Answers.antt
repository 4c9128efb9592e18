use Rattle.std.proofs.Common.{◌≡◌, ◌<◌, arith, ap, sym, ◌∙◌, Some, List}
use Rattle.class_config.specs.declared.table.PassabilityClass.{PassabilityClass}
use Rattle.class_config.specs.Classes.{name_at}
use Rattle.flat_posts.specs.Posts.{asked_class}
use Rattle.flat_posts.proofs.ClassNumbers.{IsPost-found, name-position}
use Rattle.flat_posts.proofs.posted.FlatPost.of.Goals as goal

pub returns-in_ok-class-in-Ask-clause-form : goal.returns-in_ok-class-in-Ask-clause-form
returns-in_ok-class-in-Ask-clause-form c =
    let request = c.in-Ask.request in
    let number = c.number.result in
    let class = c.in_ok-class-in-Ask.class in
    let asked = c.asked_class.ensures in
    let found = name-position c.asked_class.result.now c.classes.result.now class c.in_ok-class-in-Ask.ensures.place in
    let named : name_at c.args.map.now.classes number ≡ Some (asked_class request) =
    ap (λ (l : List PassabilityClass). name_at l number) (sym c.classes.ensures) ∙ ap (name_at c.classes.result.now) c.number.ensures.value ∙ found ∙ ap Some asked in
    let lt : c.args.caller < c.args.map.now.callers = let e = c.callers.ensures.callers in let l = c.if-caller-callers.false in omega (arith, e, l) in
    IsPost-found c.args.map.now c.flat_request.result c.args.caller number request c.args.post.now lt c.in-Ask.is c.flat_request.ensures named

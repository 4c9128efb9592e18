use Rattle.std.proofs.Common.{◌≡◌, ◌∙◌, sym, ap, subst, Option, Some, None, Ok, true, false}
use Rattle.std.specs.FinMap as fin_map
use Rattle.nav_types.specs.declared.limits.TheConstants.{MAX_GROWTH}
use Rattle.obstruction_shapes.specs.declared.shapes.Obstruction.{Obstruction}
use Rattle.obstruction_shapes.specs.Shapes.{turned_of, FitsMap}
use Rattle.goal_shapes.specs.declared.goals.Goal.{Goal}
use Rattle.goal_shapes.specs.Limits.{IsSoundGoal}
use Rattle.turn_core.specs.Words.{Standing}
use Rattle.fixed_point.specs.Plane.{is_up_to}
use Rattle.fixed_point.proofs.PlaneTests.{Decides-is_up_to}
use Rattle.turn_core.proofs.FoundGoals.{about_far, about_near}
use Rattle.turn_core.proofs.named_goals.goal_about.Goals as goal

pub returns-then-not-is_growth-clause-found : goal.returns-then-not-is_growth-clause-found
returns-then-not-is_growth-clause-found c =
    let far : is_up_to MAX_GROWTH c.args.grow ≡ false = cc in
    about_far c.args.version.now.map c.args.version.now.standing c.args.id c.args.grow far

pub returns-in_default-clause-found : goal.returns-in_default-clause-found
returns-in_default-clause-found c =
    let near : is_up_to MAX_GROWTH c.args.grow ≡ true = cc in
    let nothing : Option Obstruction = None in
    let has : nothing ≡ fin_map.get c.args.version.now.standing c.args.id =
    c.in_default.ensures ∙ ap (λ (s : Standing). fin_map.get s c.args.id) c.shapes.ensures.standing in
    about_near c.args.version.now.map c.args.version.now.standing c.args.id c.args.grow nothing near has

pub square_about-requires-clause-width : goal.square_about-requires-clause-width
square_about-requires-clause-width c =
    (c.shapes.ensures.fit.each c.args.id c.in-Some.obstruction.now (sym c.in-Some.ensures)).width

pub square_about-requires-clause-height : goal.square_about-requires-clause-height
square_about-requires-clause-height c =
    (c.shapes.ensures.fit.each c.args.id c.in-Some.obstruction.now (sym c.in-Some.ensures)).height

pub square_about-requires-clause-grow : goal.square_about-requires-clause-grow
square_about-requires-clause-grow c =
    let near : is_up_to MAX_GROWTH c.args.grow ≡ true = cc in
    (Decides-is_up_to MAX_GROWTH c.args.grow).0 near

pub returns-clause-found : goal.returns-clause-found
returns-clause-found c =
    let near : is_up_to MAX_GROWTH c.args.grow ≡ true = cc in
    let found = c.in-Some.obstruction.now in
    let has : Some found ≡ fin_map.get c.args.version.now.standing c.args.id =
    c.in-Some.ensures ∙ ap (λ (s : Standing). fin_map.get s c.args.id) c.shapes.ensures.standing in
    ap Ok c.square_about.ensures ∙ about_near c.args.version.now.map c.args.version.now.standing c.args.id c.args.grow (Some found) near has

pub returns-clause-sound : goal.returns-clause-sound
returns-clause-sound c =
    let near : is_up_to MAX_GROWTH c.args.grow ≡ true = cc in
    let found = c.in-Some.obstruction.now in
    let square = turned_of found.shape in
    let size = c.args.version.now.map.size in
    let fits : FitsMap size found.shape = c.shapes.ensures.fit.each c.args.id found (sym c.in-Some.ensures) in
    subst (λ (g : Goal). IsSoundGoal size g) (sym c.square_about.ensures)
    (c.grown_goals_are_sound.ensures size square c.args.grow fits.column fits.row fits.unit_vector
    fits.width fits.height ((Decides-is_up_to MAX_GROWTH c.args.grow).0 near))

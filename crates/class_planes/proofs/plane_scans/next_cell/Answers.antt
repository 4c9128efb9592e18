use Rattle.std.proofs.Common.{sym, ◌∙◌, subst}
use Rattle.nav_types.specs.declared.directions.Dir.{Dir}
use Rattle.nav_types.specs.Directions.{Leads}
use Rattle.nav_types.specs.Straights.{diagonal_dir}
use Rattle.class_planes.specs.Planes.{is_passable}
use Rattle.class_planes.proofs.StepLemmas.{open_step, no_step}
use Rattle.class_planes.proofs.plane_scans.next_cell.Goals as goal

pub returns-in_default-clause-none : goal.returns-in_default-clause-none
returns-in_default-clause-none c = λ next taken. c.in_default.ensures.none next
    (subst (λ (dir : Dir). Leads dir c.args.cell next) (sym c.dir.ensures) taken.leads)

pub returns-then-not-is_open-clause-none : goal.returns-then-not-is_open-clause-none
returns-then-not-is_open-clause-none c =
    no_step (is_passable c.args.plane.now) (diagonal_dir c.args.diagonal) c.args.cell c.in-Some.next c.args.row.now c.row_words.result.now
    c.requires.bits c.row_words.ensures.bits (subst (λ (dir : Dir). Leads dir c.args.cell c.in-Some.next) c.dir.ensures c.in-Some.ensures.leads) (sym c.is_open.ensures ∙ c.if-not-is_open.true)

pub returns-clause-some : goal.returns-clause-some
returns-clause-some c =
    open_step (is_passable c.args.plane.now) (diagonal_dir c.args.diagonal) c.args.cell c.in-Some.next c.args.row.now c.row_words.result.now
    c.requires.bits c.row_words.ensures.bits (subst (λ (dir : Dir). Leads dir c.args.cell c.in-Some.next) c.dir.ensures c.in-Some.ensures.leads) c.requires.passable
    (sym c.is_open.ensures ∙ c.if-not-is_open.false)

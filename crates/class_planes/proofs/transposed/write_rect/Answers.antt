use Rattle.std.proofs.Common.{◌<◌, ◌≤◌, ◌+◌, ◌/◌, ⊎_elim, arith}
use Rattle.std.proofs.lemmas.Bool.{cases_lt}
use Rattle.class_planes.proofs.transposed.write_rect.Goals as goal

pub returns-clause-set : goal.returns-clause-set
returns-clause-set c m j small inside =
    let north : j ≤ c.args.rect.j1 = inside.north in
    let last : c.args.rect.j1 < c.args.map.now.size.h = c.requires.inside.last_row in
    let within : j / 64 < c.args.map.now.size.h / 64 + 1 = omega (arith, north, last) in
    ⊎_elim
    (λ (first : m < 16).
    c.write_half-2.ensures.kept m j small within (c.write_half.ensures.set m j (omega arith) (omega (arith, first)) inside))
    (λ (second : 16 ≤ m). c.write_half-2.ensures.set m j (omega (arith, second)) (omega (arith, small)) inside)
    (cases_lt m 16)

pub returns-clause-kept : goal.returns-clause-kept
returns-clause-kept c m j small within was =
    c.write_half-2.ensures.kept m j small within (c.write_half.ensures.kept m j small within was)

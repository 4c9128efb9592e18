use Rattle.pathserve_c.proofs.Sighted.{refused, start_outside}
use Rattle.pathserve_c.proofs.sights.is_walk.Goals as goal

pub returns-then-not-has : goal.returns-then-not-has
returns-then-not-has c =
    let outside = c.if-not-has.true in
    refused (start_outside c.args.version.now c.args.class c.args.start c.args.corners.now
    (λ inside. (let has = c.has.ensures.1 (rw (c.size.ensures, c.map.ensures) inside) in absurd cc)))

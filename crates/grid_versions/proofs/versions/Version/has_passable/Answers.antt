use Rattle.std.proofs.Common.{◌≡◌, arith}
use Rattle.std.proofs.lemmas.Bool.{ltb-true, lt-ltb}
use Rattle.grid_versions.specs.Versions.{passes_of}
use Rattle.grid_versions.proofs.AreaLemmas.{area_of_passable, passable_of_area}
use Rattle.grid_versions.proofs.VersionLemmas.{passable_within}
use Rattle.grid_versions.proofs.versions.Version.has_passable.Goals as goal

pub returns : goal.returns
returns c =
    let state = c.args.self.now in
    let tables = c.tables.result.now in
    let passes = passes_of state c.args.class in
    let inside = passable_within state.map state.standing c.args.class in
    let count : c.areas.result ≡ tables.areas.count = c.areas.ensures in (
      λ some.
          let many = ltb-true 0 c.areas.result some in
          passable_of_area passes state.map.size tables inside c.tables.ensures (omega (arith, many, count)),
      λ some.
          let many = area_of_passable passes state.map.size tables inside c.tables.ensures some in
          lt-ltb 0 c.areas.result (omega (arith, many, count)),
    )

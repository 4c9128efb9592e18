use Rattle.std.proofs.Common.{◌≡◌, ◌∙◌, Option, Some, IfSome, sym, subst}
use Rattle.std.specs.List.{slice_get}
use Rattle.landmarks.specs.HalfTables.{Half}
use Rattle.grid_versions.specs.inner.Guiding.{IsOnItsWay}
use Rattle.grid_versions.proofs.GuidingLemmas.{found_so, guides_of}
use Rattle.grid_versions.proofs.guides.Guides.with_part.Goals as goal

pub gone_on-requires-clause-tables : goal.gone_on-requires-clause-tables
gone_on-requires-clause-tables c =
    let map = c.args.bare.now.map in
    let half = c.in-Some.half in
    let all = c.args.self.now in
    let way : IsOnItsWay map half =
    subst (λ (found : Option Half). IfSome found (IsOnItsWay map)) c.in-Some.is c.in_ok-half.ensures in
    found_so c.tables-tables.result (λ tables. slice_get all.classes c.class.result ≡ Some (Some tables.now))
    (λ tables. tables.now.size ≡ half.size)
    (λ tables at. (guides_of map all c.class.result tables.now c.requires.guides at).size ∙ sym way.size) c.tables-tables.ensures

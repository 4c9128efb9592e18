use Rattle.std.proofs.Common.{◌≡◌, ◌∙◌, Some, ap, sym, subst}
use Rattle.std.specs.Arc.{arc_value}
use Rattle.std.specs.List.{slice_get}
use Rattle.landmarks.specs.Landmarks.{Tables, AreGentle}
use Rattle.grid_versions.specs.Versions.{MapState, passes_of}
use Rattle.grid_versions.specs.inner.Guiding.{AreGuides, Guiding}
use Rattle.grid_versions.proofs.GuidingLemmas.{found_so, guides_of, gentle_for_all}
use Rattle.grid_versions.proofs.versions.Version.landmarks.Goals as goal

-- the tables that were read serve the class
serve_here : (c : goal.After-tables) (tables : Tables) → slice_get c.deref.result.now.classes c.args.class ≡ Some (Some tables)
    → AreGuides (arc_value c.self.inside.parts).map c.args.class tables
serve_here c tables at =
    guides_of (arc_value c.self.inside.parts).map (arc_value c.self.inside.guides) c.args.class tables c.self.invariant
    (ap (λ (all : Guiding). slice_get all.classes c.args.class) (sym c.deref.ensures) ∙ at)

pub returns-clause-size : goal.returns-clause-size
returns-clause-size c =
    found_so c.tables.result (λ tables. slice_get c.deref.result.now.classes c.args.class ≡ Some (Some tables.now))
    (λ tables. tables.now.size ≡ c.args.self.now.map.size)
    (λ tables at. (serve_here c tables.now at).size ∙ ap (λ (s : MapState). s.map.size) c.self.view_is) c.tables.ensures

pub returns-clause-gentle : goal.returns-clause-gentle
returns-clause-gentle c =
    let own = arc_value c.self.inside.parts in
    found_so c.tables.result (λ tables. slice_get c.deref.result.now.classes c.args.class ≡ Some (Some tables.now))
    (λ tables. AreGentle (passes_of c.args.self.now c.args.class) tables.now)
    (λ tables at. subst (λ (s : MapState). AreGentle (passes_of s c.args.class) tables.now) c.self.view_is
    (gentle_for_all own.map own.standing c.args.class tables.now (serve_here c tables.now at))) c.tables.ensures

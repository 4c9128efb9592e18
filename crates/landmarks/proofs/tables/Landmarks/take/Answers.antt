use Rattle.std.proofs.Common.{ℕ, ◌≡◌, ◌+◌, ◌<◌, ◌∙◌, inl, inr, List, ap, sym, subst, arith}
use Rattle.nav_types.specs.declared.cells.Size.{Size}
use Rattle.landmarks.specs.Landmarks.{Tables, AreGentle}
use Rattle.landmarks.proofs.Gentle.{AreKnown, tables_of, known_marks, gentle_added, gentle_counted}
use Rattle.landmarks.proofs.tables.Landmarks.take.Goals as goal

pub returns-clause-gentle : goal.returns-clause-gentle
returns-clause-gentle c = λ passes begun gentle.
    let inside = c.self.inside in
    let half = c.args.half.now in
    let old = inside.numbers.items in
    let new = c.take_marks.new.numbers.items in
    let sizes : half.size ≡ inside.size = c.requires.size ∙ sym (ap (λ (t : Tables). t.size) c.self.view_is) in
    let was : AreGentle passes (tables_of inside.size inside.made old) = subst (λ (t : Tables). AreGentle passes t) (sym c.self.view_is) gentle in
    let room : inside.made < 8 = omega (arith, c.requires.room, ap (λ (t : Tables). t.made) c.self.view_is) in
    elim c.take_marks.ensures [
      | inl taken ↦ gentle_added passes inside.size inside.made (inside.made + 1) half.marks old new room
          (subst (λ (s : Size). AreKnown passes s half.marks) sizes (known_marks passes half begun taken.0)) c.self.invariant.long taken.1 was
      | inr same ↦ subst (λ (list : List ℕ). AreGentle passes (tables_of inside.size (inside.made + 1) list)) (sym same)
          (gentle_counted passes inside.size inside.made (inside.made + 1) old was)
    ]

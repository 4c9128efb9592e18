-- The places that rises lead to, one after another.
use Rattle.std.proofs.Common.{ℕ, ◌≡◌, ◌+◌, ◌<◌, ◌++◌, ◌∷◌, [], List, Some, map, length, sym, ap, subst, ◌∙◌}
use Rattle.std.specs.Prelude.{slice_get, slice_index}
use Rattle.std.proofs.lemmas.List.{map-append, append-nil}
use Rattle.std.proofs.Common.{append_assoc}
use Rattle.nav_types.specs.declared.cells.Cell.{Cell}
use Rattle.line_smooth.specs.inner.Plans.{Follows}

-- the points are those of the places so far, and what follows from here makes up the rest
pub record LeadsTo (places : List Cell) (rises : List ℕ) (at : ℕ) (points : List Cell) : Type 0 where
  pub front : List ℕ
  pub on : (rest : List ℕ) → Follows (length places) rises at rest → Follows (length places) rises 0 (front ++ rest)
  pub placed : map (λ place. slice_get places place) front ≡ map (λ point. Some point) points

pub leads_first : (places : List Cell) (rises : List ℕ) (points : List Cell) → points ≡ [] → LeadsTo places rises 0 points
leads_first places rises points none = record {
  front = [];
  on = λ rest follows. follows;
  placed = ap (map (λ (point : Cell). Some point)) (sym none);
}

pub leads_on : (places : List Cell) (rises : List ℕ) (at next : ℕ) (point : Cell) (points more : List Cell) → LeadsTo places rises at points
    → at + 1 < length places → next ≡ at + slice_index rises at → slice_get places next ≡ Some point → more ≡ points ++ point ∷ []
    → LeadsTo places rises next more
leads_on places rises at next point points more leads long is found pushed = record {
  front = leads.front ++ next ∷ [];
  on = λ rest follows.
      (let P = λ (kept : List ℕ). Follows (length places) rises 0 kept in
      subst P (sym (append_assoc leads.front (next ∷ []) rest)) (leads.on (next ∷ rest) (long, (is, follows))));
  placed =
      (let a = map-append (λ place. slice_get places place) leads.front (next ∷ []) in
      let b = map-append (λ (point : Cell). Some point) points (point ∷ []) in
      let e = leads.placed in
      let m = ap (map (λ (point : Cell). Some point)) pushed in
      cc);
}

pub leads_last : (places : List Cell) (rises : List ℕ) (at : ℕ) (points : List Cell) → LeadsTo places rises at points → at + 1 ≡ length places
    → (kept : List ℕ) × (Follows (length places) rises 0 kept × (map (λ place. slice_get places place) kept ≡ map (λ point. Some point) points))
leads_last places rises at points leads last =
    (leads.front ++ [], (leads.on [] last, ap (map (λ place. slice_get places place)) (append-nil leads.front) ∙ leads.placed))

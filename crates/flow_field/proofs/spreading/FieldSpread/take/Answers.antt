use Rattle.std.proofs.Common.{◌≡◌, ◌∷◌, inl, inr, ap, arith}
use Rattle.flow_field.specs.declared.spreading.FieldSpread.{FieldSpread}
use Rattle.flow_field.proofs.Taking.{first_waits, taken_straight, taken_diagonal}
use Rattle.flow_field.proofs.spreading.FieldSpread.take.Goals as goal
use Rattle.flow_field.proofs.spreading.FieldSpread.take.Goals.{then-is_straight, else-is_straight}

pub index-requires : goal.index-requires
index-requires c =
    let self = c.args.self.now in
    let held = c.requires c.in-Some-Some.straight (inl (first_waits self.straight c.in-Some-Some.straight c.in-Some-Some.ensures.some c.in-Some-Some.ensures.first)) in
    omega (arith, held, self.marks.ok.0)

pub index-requires-in-Some-Some : goal.index-requires-in-Some-Some
index-requires-in-Some-Some c =
    let self = c.args.self.now in
    let held = c.requires c.in-Some-Some.diagonal (inr (first_waits self.diagonal c.in-Some-Some.diagonal c.in-Some-Some.ensures'.some c.in-Some-Some.ensures'.first)) in
    omega (arith, held, self.marks.ok.0)

pub returns-clause-some : goal.returns-clause-some
returns-clause-some c =
    let old = c.args.self.now in
    let place = c.if-is_straight.place in
    let new = c.if-is_straight.self in
    elim c.if-is_straight.branch [
      | then-is_straight w ↦
          let rest = ap (λ (s : FieldSpread). s.straight) w.self-is in
          let is = w.place-is in
          let taken = w.take_first-place.ensures in
          let e : old.straight ≡ place ∷ new.straight = cc in
          taken_straight place old new (ap (λ (s : FieldSpread). s.marks.items) w.self-is) e (ap (λ (s : FieldSpread). s.diagonal) w.self-is)
      | else-is_straight w ↦
          let rest = ap (λ (s : FieldSpread). s.diagonal) w.self-is in
          let is = w.place-is in
          let taken = w.take_first-place-else-is_straight.ensures in
          let e : old.diagonal ≡ place ∷ new.diagonal = cc in
          taken_diagonal place old new (ap (λ (s : FieldSpread). s.marks.items) w.self-is) e (ap (λ (s : FieldSpread). s.straight) w.self-is)
    ]

use Rattle.std.proofs.Common.{◌≡◌, ◌∙◌, sym, true, false}
use Rattle.flat_posts.proofs.FlatForms.{same_flat_post, HasSameNumbers-≡, HasSamePlaces-≡, HasSameShape-≡}
use Rattle.flat_posts.proofs.posted.FlatPost.is_same.Goals as goal
use Rattle.flat_posts.proofs.posted.FlatPost.is_same.Goals.{then-has_same_numbers, else-has_same_numbers}

pub returns-then-has_same_places : goal.returns-then-has_same_places
returns-then-has_same_places c = let a = c.args.self.now in let b = c.args.other.now in (
  λ yes.
      elim c.if-has_same_numbers.branch [
        | then-has_same_numbers w ↦
            same_flat_post a b (c.has_same_numbers.ensures.0 w.if-has_same_numbers.true) (w.has_same_places.ensures.0 (sym w.value-is ∙ c.if-has_same_places.true))
            (c.has_same_shape.ensures.0 yes)
        | else-has_same_numbers w ↦ let t : false ≡ true = sym w.if-has_same_numbers.false ∙ (sym w.value-is ∙ c.if-has_same_places.true) in absurd (cc)
      ],
  λ e. c.has_same_shape.ensures.1 (HasSameShape-≡ a b e),
)

pub returns-else-has_same_places : goal.returns-else-has_same_places
returns-else-has_same_places c = let a = c.args.self.now in let b = c.args.other.now in (
  λ yes. let t : false ≡ true = sym c.if-has_same_places.false ∙ yes in absurd (cc),
  λ e.
      elim c.if-has_same_numbers.branch [
        | then-has_same_numbers w ↦ w.value-is ∙ w.has_same_places.ensures.1 (HasSamePlaces-≡ a b e)
        | else-has_same_numbers w ↦ let t : false ≡ true = sym w.if-has_same_numbers.false ∙ c.has_same_numbers.ensures.1 (HasSameNumbers-≡ a b e) in absurd (cc)
      ],
)

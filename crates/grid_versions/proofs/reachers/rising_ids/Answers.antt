use Rattle.std.proofs.Common.{ℕ, List, ◌++◌, ◌∙◌, eqb, sym, ap, subst}
use Rattle.std.specs.List.{Contains}
use Rattle.std.proofs.lemmas.List.Filters.{dedup_is}
use Rattle.std.proofs.lemmas.List.Kept.{Contains-dedup_nat}
use Rattle.std.proofs.lemmas.List.Sorted.{Contains-permutation}
use Rattle.grid_versions.proofs.reachers.rising_ids.Goals as goal

pub returns : goal.returns
returns c = λ id has.
    let sorted = c.sort_unstable.new.self.items in
    let rising = c.dedup.new.self.items in
    subst (λ (ids : List ℕ). Contains ids id) (sym (dedup_is eqb sorted rising c.dedup.ensures.filtered))
    (Contains-dedup_nat sorted id
    (Contains-permutation c.extend_from_slice.new.self.items sorted id c.sort_unstable.ensures.permutation
    (subst (λ (all : List ℕ). Contains all id)
    (sym (c.in_ok-extend_from_slice.ensures.items
    ∙ ap (λ (all : List ℕ). all ++ c.args.ids.now) c.in_ok-rising.ensures.items)) has)))

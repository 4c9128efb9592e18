use Rattle.std.proofs.Common.{ℕ, ◌≡◌, ◌≤◌, Bool, true, false, cond, ◌==◌, get_or, Less, Equal, Greater, rules, ap, inl, inr}
use Rattle.std.proofs.lemmas.Bool.{cases_lt, lt-ltb}
use Rattle.std.proofs.lemmas.List.Sorted.{IsStrictWeakOrder-flip, ranks_by, sorted_far, answers_always, Contains-permutation, IsPermutation-sym}
use Rattle.std.specs.Cmp.{IsStrictWeakOrder, nat_cmp_total}
use Rattle.std.specs.List.Sorted.{IsSortedBy}
use Rattle.std.specs.Ordering.{nat_cmp, is_lt}
use Rattle.open_heap.specs.declared.entries.Entry.{Entry}
use Rattle.open_heap.proofs.buckets.sort_falling.Goals as goal

not_less : (a b : ℕ) → is_lt (nat_cmp a b) ≡ false → b ≤ a
not_less a b is_false = elim (cases_lt a b) [
  | inl less ↦
      let yes : is_lt (nat_cmp a b) ≡ true = ap (λ (t : Bool). is_lt (cond t Less (cond (a == b) Equal Greater))) (lt-ltb a b less) in
      absurd (cc)
  | inr more ↦ more
]

pub returns-then-len-gt1-clause-falling : goal.returns-then-len-gt1-clause-falling
returns-then-len-gt1-clause-falling c = λ i j d up within.
    let entries = c.sort_unstable_by.new.self.items in
    let lt = λ (x y : Entry). is_lt (nat_cmp y.estimate x.estimate) in
    let order : IsStrictWeakOrder lt = IsStrictWeakOrder-flip (λ (x y : Entry). is_lt (nat_cmp x.estimate y.estimate))
    (ranks_by nat_cmp_total (λ (e : Entry). e.estimate)) in
    let sorted : IsSortedBy lt entries = c.sort_unstable_by.ensures.sorted lt order
    (answers_always _ (λ a r. is_lt r ≡ lt a.0.now a.1.0.now) _ (λ f a r f' k. search rules)) in
    not_less (get_or entries i d).estimate (get_or entries j d).estimate (sorted_far lt order entries sorted i j d up within)

pub returns-then-len-gt1-clause-same : goal.returns-then-len-gt1-clause-same
returns-then-len-gt1-clause-same c = λ entry.
    let old = c.args.entries.now.items in
    let new = c.sort_unstable_by.new.self.items in
    let moved = c.sort_unstable_by.ensures.permutation in
    (Contains-permutation new old entry (IsPermutation-sym old new moved), Contains-permutation old new entry moved)

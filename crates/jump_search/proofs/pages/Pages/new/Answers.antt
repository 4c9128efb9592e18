use Rattle.std.proofs.Common.{ℕ, ◌-◌, ◌++◌, List, ap, ◌∙◌, arith}
use Rattle.std.specs.Prelude.{replicate, take}
use Rattle.jump_search.proofs.Paging.{zero_in, pages_blank, number_blank}
use Rattle.jump_search.proofs.pages.Pages.new.Goals as goal

pub invariant_of-result : goal.invariant_of-result
invariant_of-result c =
    let table = c.in_ok-table.table in
    let room = c.in_ok-numbers.numbers in
    let numbers = c.resize.new.self in
    let filled = c.in_ok-resize.ensures.items in
    record {
      paged = pages_blank table.items numbers.items 4096 64 (c.in_ok-table.ensures.items_if_clones_equal (λ y e. e))
          (filled ∙ ap (λ (l : List ℕ). take 64 l ++ replicate (64 - room.len) 0) c.in_ok-numbers.ensures.items
          ∙ ap (λ (n : ℕ). replicate (64 - n) 0) c.in_ok-numbers.ensures.len)
          (omega (arith, table.ok.0, c.in_ok-table.ensures.len))
          (omega (arith, numbers.ok.0, c.in_ok-resize.ensures.len));
    }

pub returns-clause-numbers : goal.returns-clause-numbers
returns-clause-numbers c =
    let room = c.in_ok-numbers.numbers in
    number_blank c.in_ok-table.table.items c.resize.new.self.items 64
    (c.in_ok-resize.ensures.items ∙ ap (λ (l : List ℕ). take 64 l ++ replicate (64 - room.len) 0)
    c.in_ok-numbers.ensures.items
    ∙ ap (λ (n : ℕ). replicate (64 - n) 0) c.in_ok-numbers.ensures.len)

pub returns-clause-table : goal.returns-clause-table
returns-clause-table c =
    zero_in c.in_ok-table.table.items 4096 (c.in_ok-table.ensures.items_if_clones_equal (λ y e. e))

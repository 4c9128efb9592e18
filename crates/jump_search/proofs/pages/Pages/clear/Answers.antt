use Rattle.std.proofs.Common.{ℕ, ◌≡◌, List, length, get_or, ap, sym, subst, ◌∙◌, arith}
use Rattle.jump_search.specs.inner.Numbered.{AreCovered}
use Rattle.jump_search.proofs.Paging.{lent_whole, pages_cleared, number_cleared}
use Rattle.jump_search.proofs.pages.Pages.clear.Goals as goal

pub blank-requires-clause-covered : goal.blank-requires-clause-covered
blank-requires-clause-covered c =
    subst (λ (table : List ℕ). AreCovered table c.args.nodes.now) (sym c.deref_mut.ensures.value) c.requires

pub invariant_of-self : goal.invariant_of-self
invariant_of-self c =
    let pages = c.args.self.now in
    let table = pages.table.items in
    let new = c.blank.new.numbers in
    let long : length new ≡ length table = c.blank.ensures.long ∙ ap length c.deref_mut.ensures.value in
    let size = pages.table.ok.0 in
    let whole = lent_whole table new pages.table.len (omega (arith, size)) long in
    let zero : (place : ℕ) → get_or _ place 0 ≡ 0 = λ place.
    ap (λ (l : List ℕ). get_or l place 0) whole ∙ c.blank.ensures.blank place in
    record {
      paged = pages_cleared table pages.numbers.items _ c.truncate.new.self.items pages.paged (ap length whole ∙ long)
          zero c.truncate.ensures.items;
    }

pub returns-clause-numbers : goal.returns-clause-numbers
returns-clause-numbers c =
    let pages = c.args.self.now in
    let table = pages.table.items in
    let new = c.blank.new.numbers in
    let long : length new ≡ length table = c.blank.ensures.long ∙ ap length c.deref_mut.ensures.value in
    let size = pages.table.ok.0 in
    let whole = lent_whole table new pages.table.len (omega (arith, size)) long in
    let zero : (place : ℕ) → get_or _ place 0 ≡ 0 = λ place.
    ap (λ (l : List ℕ). get_or l place 0) whole ∙ c.blank.ensures.blank place in
    number_cleared table pages.numbers.items _ c.truncate.new.self.items pages.paged (ap length whole ∙ long) zero
    c.truncate.ensures.items

pub returns-clause-table : goal.returns-clause-table
returns-clause-table c = λ place.
    let pages = c.args.self.now in
    let table = pages.table.items in
    let new = c.blank.new.numbers in
    let long : length new ≡ length table = c.blank.ensures.long ∙ ap length c.deref_mut.ensures.value in
    let size = pages.table.ok.0 in
    ap (λ (l : List ℕ). get_or l place 0) (lent_whole table new pages.table.len (omega (arith, size)) long)
    ∙ c.blank.ensures.blank place

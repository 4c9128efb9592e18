use Rattle.std.proofs.Common.{ℕ, ◌+◌, ◌*◌, ◌<◌, get_or, set, sym, subst, ◌∙◌}
use Rattle.std.proofs.lemmas.List.{get_or_read}
use Rattle.jump_search.specs.inner.Paged.{cell_number, IsSet}
use Rattle.jump_search.proofs.Paging.{page_within, number_before, set_is}
use Rattle.jump_search.proofs.pages.Pages.replace.Goals as goal

pub returns-clause-before : goal.returns-clause-before
returns-clause-before c =
    let pages = c.args.self.now in
    let made = c.page.new.self in
    let place = c.place-place in
    let page = c.in_ok-page in
    let spot = c.spot in
    let within = page_within made.table.items made.numbers.items place.result page.page spot.result made.paged
    page.ensures.page spot.ensures.low in
    get_or_read made.numbers.items _ _ within c.index-before.ensures 0
    ∙ number_before pages.table.items pages.numbers.items made.table.items made.numbers.items c.args.cell place.result
    page.page spot.result page.ensures.same place.ensures.place page.ensures.page spot.ensures.spot spot.ensures.low

pub returns-clause-set : goal.returns-clause-set
returns-clause-set c =
    let pages = c.args.self.now in
    let table = pages.table.items in
    let numbers = pages.numbers.items in
    let made = c.page.new.self in
    let place = c.place-place in
    let page = c.in_ok-page in
    let spot = c.spot in
    let some : 0 < get_or made.table.items place.result 0 =
    subst (λ (n : ℕ). 0 < n) page.ensures.page page.ensures.some in
    subst (λ (n : ℕ). IsSet c.args.cell c.args.number (cell_number table numbers)
    (cell_number made.table.items (set made.numbers.items (n * 64 + spot.result) c.args.number)))
    (sym page.ensures.page)
    (set_is table numbers made.table.items made.numbers.items c.args.cell place.result spot.result c.args.number
    made.paged page.ensures.same place.ensures.place spot.ensures.spot some)

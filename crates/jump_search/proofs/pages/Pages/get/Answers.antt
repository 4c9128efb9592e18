use Rattle.std.proofs.Common.{◌≡◌, ◌<◌, get_or, length, ◌∙◌, arith}
use Rattle.std.proofs.lemmas.List.{get_or_read}
use Rattle.jump_search.proofs.Paging.{page_within, number_read}
use Rattle.jump_search.proofs.pages.Pages.get.Goals as goal

pub returns : goal.returns
returns c =
    let pages = c.args.self.now in
    let table = pages.table.items in
    let numbers = pages.numbers.items in
    let place = c.place-place in
    let page = c.index-page.result.now in
    let spot = c.spot in
    let wide = pages.paged.wide in
    let low = place.ensures.low in
    let table_low : place.result < length table = omega (arith, wide, low) in
    let is : page ≡ get_or table place.result 0 =
    get_or_read table place.result page table_low c.index-page.ensures 0 in
    let within = page_within table numbers place.result page spot.result pages.paged is spot.ensures.low in
    get_or_read numbers _ _ within c.index.ensures 0
    ∙ number_read table numbers c.args.cell place.result page spot.result place.ensures.place is spot.ensures.spot

use Rattle.std.proofs.Common.{◌∙◌}
use Rattle.obstruction_store.proofs.Paging.{set_same}
use Rattle.obstruction_store.proofs.owned_pages.own_page.Goals as goal

pub returns-in_ok-set : goal.returns-in_ok-set
returns-in_ok-set c =
    c.in_ok-set.ensures.ok ∙ set_same c.args.pages.now c.args.at c.at.result.now c.in_ok-page.page c.at.ensures c.in_ok-page.ensures

use Rattle.std.proofs.Common.{ℕ, ◌≡◌, List, set, sym, ap, ◌∙◌, subst}
use Rattle.std.specs.Prelude.{replicate}
use Rattle.nav_types.specs.Places.{place_of}
use Rattle.walks.specs.inner.Tables.{unreached, IsSoundTable}
use Rattle.walks.proofs.Sweeping.{sound_blank}
use Rattle.walks.proofs.sweeps.blank.Goals as goal

pub returns : goal.returns
returns g c = λ passes.
    let size = g.V.View.extent c.args.view.now in
    let items : c.in_ok-costs.costs.items ≡ replicate c.cell_count.result unreached = c.in_ok-costs.ensures.items_if_clones_equal (λ y e. e) in
    let count = ap (λ (n : ℕ). replicate n unreached) c.cell_count.ensures.value in
    let P = λ (table : List ℕ). IsSoundTable passes c.args.start size table in
    let Q = λ (at : ℕ). IsSoundTable passes c.args.start size (set c.in_ok-costs.costs.items at 0) in
    subst Q (sym c.place.ensures.value) (subst P (ap (λ (table : List ℕ). set table (place_of size c.args.start) 0) (sym (items ∙ count))) (sound_blank passes c.args.start size c.requires))

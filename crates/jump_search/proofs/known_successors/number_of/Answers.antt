use Rattle.std.proofs.Common.{◌∙◌}
use Rattle.jump_search.proofs.Keeping.{all_told}
use Rattle.jump_search.proofs.known_successors.number_of.Goals as goal

pub returns-clause-bits : goal.returns-clause-bits
returns-clause-bits c =
    let low = c.four_bits-low.ensures in
    let high = c.four_bits-high.ensures in
    all_told c.four_bits-high.result c.four_bits-low.result c.args.free low.few
    (record {
      first = low.first ∙ c.has.ensures;
      second = low.second ∙ c.has-2.ensures;
      third = low.third ∙ c.has-3.ensures;
      fourth = low.fourth ∙ c.has-4.ensures;
    })
    (record {
      first = high.first ∙ c.has-5.ensures;
      second = high.second ∙ c.has-6.ensures;
      third = high.third ∙ c.has-7.ensures;
      fourth = high.fourth ∙ c.has-8.ensures;
    })

use Rattle.std.proofs.Common.{◌≡◌, ◌∙◌}
use Rattle.nav_types.proofs.Sizes.{same_size}
use Rattle.posts.specs.Maps.{map_of}
use Rattle.made_match.specs.Making.{made_map, map_size}
use Rattle.made_match.proofs.maps.map.Goals as goal

pub returns-clause-value : goal.returns-clause-value
unfolding made_map
returns-clause-value c =
    let size : c.in-Some.size ≡ map_size = same_size c.in-Some.size map_size c.in-Some.ensures.columns c.in-Some.ensures.rows in
    let classes = c.in_ok-classes.ensures in
    let base = c.in_ok-base.ensures.value in
    c.in-Some-new.ensures.value ∙ (λ i. map_of 1 (size i) 16 (classes i) (base i))

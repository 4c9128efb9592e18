use Rattle.std.proofs.Common.{ℕ, List, ◌++◌, ◌+◌, map, ap, ◌∙◌, arith}
use Rattle.grid_versions.specs.inner.Building.{link_between}
use Rattle.grid_versions.proofs.BuildLemmas.{side_links_more, side_links_all}
use Rattle.grid_versions.proofs.tables.borders.push_side.Goals as goal

pub loop-place-preserved : goal.loop-place-preserved
loop-place-preserved c =
    let place = c.loop-place.place in
    let step = c.step_to-step.result in
    side_links_more c.args.size c.args.side c.args.edges.now c.args.links.now c.loop-place.links c.push_links.new.links place step c.at.result.now
    c.at.ensures (c.step_to-step.ensures.value place)
    (c.in_ok-push_links.ensures ∙ ap (λ (edges : List (ℕ × ℕ)). c.loop-place.links ++ map (link_between place (place + step)) edges) c.as_slice.ensures)
    c.loop-place.invariant

pub returns : goal.returns
returns c =
    side_links_all c.args.size c.args.side c.args.edges.now c.args.links.now c.loop-place.links c.loop-place.place (omega arith) c.loop-place.invariant

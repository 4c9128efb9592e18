use Rattle.std.proofs.Common.{◌∙◌, ap}
use Rattle.match_play.specs.Digests.{digest_of}
use Rattle.match_play.proofs.Digesting.{behind_number}
use Rattle.match_play.proofs.digests.turn_digest.Goals as goal

pub slice_bounds-digest_of-count : goal.slice_bounds-digest_of-count
slice_bounds-digest_of-count c = (behind_number c.args.told.now c.as_slice.result.now (c.as_slice.ensures ∙ c.in_ok-text.ensures)).0

pub slice_bounds-digest_of-start : goal.slice_bounds-digest_of-start
slice_bounds-digest_of-start c = (behind_number c.args.told.now c.as_slice.result.now (c.as_slice.ensures ∙ c.in_ok-text.ensures)).0

pub returns : goal.returns
returns c =
    c.digest_of.ensures ∙ ap digest_of (behind_number c.args.told.now c.as_slice.result.now (c.as_slice.ensures ∙ c.in_ok-text.ensures)).1

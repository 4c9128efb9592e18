use Rattle.std.proofs.Common.{◌∙◌, inl, refl, ap}
use Rattle.match_play.specs.Digests.{digest_of}
use Rattle.pathserve_c.proofs.digests.tell_view.Goals as goal

pub returns : goal.returns
returns c = inl (refl, c.digest_of.ensures ∙ ap digest_of (c.as_slice.ensures ∙ c.in-Ok.ensures.text))

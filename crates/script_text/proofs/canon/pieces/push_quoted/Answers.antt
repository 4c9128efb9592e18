use Rattle.script_text.proofs.CanonTexts.{quoted-done}
use Rattle.script_text.proofs.canon.pieces.push_quoted.Goals as goal

pub returns : goal.returns
returns c = quoted-done c.args.text.now _ _ _ c.args.bytes.now c.in_ok-push.ensures.ok c.in_ok-extend.ensures.ok c.in_ok-push-2.ensures.ok c.requires

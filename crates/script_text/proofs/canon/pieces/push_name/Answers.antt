use Rattle.std.proofs.Common.{◌∙◌, ap}
use Rattle.std.specs.List.{list_all}
use Rattle.script_text.specs.inner.Plain.{is_plain}
use Rattle.script_text.proofs.CanonTexts.{plain-name}
use Rattle.script_text.proofs.canon.pieces.push_name.Goals as goal

pub push_quoted-requires : goal.push_quoted-requires
push_quoted-requires c = ap (list_all is_plain) c.as_bytes.ensures.bytes ∙ plain-name c.args.name.now c.as_bytes.ensures.form

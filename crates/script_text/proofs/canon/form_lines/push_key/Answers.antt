use Rattle.std.proofs.Common.{◌∙◌}
use Rattle.script_text.specs.Table.{key_text}
use Rattle.script_text.proofs.CanonTexts.{later-key, first-key}
use Rattle.script_text.proofs.canon.form_lines.push_key.Goals as goal

pub returns-then-later : goal.returns-then-later
returns-then-later c =
    later-key c.extend.result c.args.later c.args.text.now c.as_bytes-member.result.now c.extend.new.self (key_text c.args.key) c.if-later.true
    (c.as_bytes-member.ensures.value ∙ c.as_member.ensures) c.requires c.extend.ensures.ok

pub returns : goal.returns
returns c =
    first-key c.extend-2.result c.args.later c.args.text.now c.as_bytes-member.result.now _ c.extend-2.new.self (key_text c.args.key) c.if-later.false
    (c.as_bytes-member.ensures.value ∙ c.as_member.ensures) c.split_at.ensures.back c.requires c.extend-2.ensures.ok

use Rattle.std.proofs.Common.{◌==◌, ℕ, length, true, false, is_some, refl, sym, ap, ◌∙◌, eq-eqb}
use Rattle.std.proofs.lemmas.Bool.{ne_eqb}
use Rattle.std.specs.List.{list_all}
use Rattle.serde_json.specs.Find.{get}
use Rattle.serde_json.specs.View.{view}
use Rattle.script_text.specs.Table.{key_text}
use Rattle.script_text.proofs.FormKeys.{has_keys-entries}
use Rattle.script_text.proofs.table.has_keys_of.Goals as goal

-- as many members as keys
pub returns-then-len-keys : goal.returns-then-len-keys
returns-then-len-keys c =
    let d = view c.args.value.now in
    let es = c.in-Some.members.now.entries in
    has_keys-entries c.args.version c.args.form d es true c.has_each.result c.in-Some.ensures c.len.ensures.ordered
    (sym (eq-eqb _ _ c.if-len-keys.true) ∙ ap (λ n. n == length c.keys-keys.result.now) c.len.ensures.len ∙ ap (λ keys. length es == length keys) c.keys-keys.ensures)
    (c.has_each.ensures ∙ ap (list_all (λ key. is_some (get (key_text key) d))) c.keys-keys.ensures)

pub returns-else-len-keys : goal.returns-else-len-keys
returns-else-len-keys c =
    let d = view c.args.value.now in
    let es = c.in-Some.members.now.entries in
    let no = ne_eqb _ _ c.if-len-keys.false in
    no
    ∙ has_keys-entries c.args.version c.args.form d es false _ c.in-Some.ensures c.len.ensures.ordered
    (sym no ∙ ap (λ n. n == length c.keys-keys.result.now) c.len.ensures.len ∙ ap (λ keys. length es == length keys) c.keys-keys.ensures)
    refl

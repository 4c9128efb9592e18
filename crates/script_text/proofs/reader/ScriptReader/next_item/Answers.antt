use Rattle.std.proofs.Common.{◌≡◌, ◌∙◌, ap, sym, subst}
use Rattle.script_text.specs.Items.{ItemTold}
use Rattle.script_text.specs.Led.{LedBy}
use Rattle.script_text.specs.Pushed.{KeepsRules}
use Rattle.script_text.specs.Reader.{Held, HoldsTurn, Leaves, TakesNoneAhead, WantsTurn, is_last, rules_at}
use Rattle.script_text.specs.inner.Judging.{held_with}
use Rattle.script_text.proofs.ReadAnswers.{leaves_flags, where_going}
use Rattle.script_text.proofs.ReadStill.{ahead_flags, item_flags, with_flags}
use Rattle.script_text.proofs.reader.ScriptReader.next_item.Goals as goal

pub read_item-answer-requires : goal.read_item-answer-requires
read_item-answer-requires g c = record { ready = c.self.invariant.1 (ap (λ h. h.over) c.self.view_is ∙ c.requires.going) }

pub returns-clause-told : goal.returns-clause-told
returns-clause-told g c =
    let left = g.S.Source.left in
    let read = c.read_item-answer in
    let i = c.self.inside in
    let first = held_with i.script i.taken in
    let last = held_with read.new.script read.new.taken in
    let Said : Held → Type 0 = λ h. ItemTold h (with_flags last c.is_last-self-inside.result c.is_err-self-inside.result) (left c.args.source.now) (left read.new.source) read.result in
    subst Said c.self.view_is (item_flags first last i.over i.failed c.is_last-self-inside.result c.is_err-self-inside.result
    (left c.args.source.now) (left read.new.source) read.result read.ensures.told)

-- where an item was held, nothing was read
pub returns-clause-still : goal.returns-clause-still
returns-clause-still g c =
    let Said : Held → Type 0 = λ h. HoldsTurn h → c.read_item-answer.new.source ≡ c.args.source.now in
    subst Said c.self.view_is c.read_item-answer.ensures.still

-- nothing was read ahead
pub returns-clause-ahead : goal.returns-clause-ahead
returns-clause-ahead g c =
    let left = g.S.Source.left in
    let read = c.read_item-answer in
    let i = c.self.inside in
    let Said : Held → Type 0 = λ h. TakesNoneAhead WantsTurn h (left c.args.source.now) (left read.new.source) in
    subst Said c.self.view_is (ahead_flags WantsTurn (held_with i.script i.taken) i.over i.failed (left c.args.source.now) (left read.new.source) read.ensures.ahead)

pub returns-clause-takes : goal.returns-clause-takes
returns-clause-takes g c = c.read_item-answer.ensures.takes

pub returns-clause-rules : goal.returns-clause-rules
returns-clause-rules g c =
    let read = c.read_item-answer in
    let Kept : Held → Type 0 = λ h. KeepsRules (rules_at h.place.part) (rules_at read.new.script.place.part) read.result in
    subst Kept c.self.view_is read.ensures.rules

pub returns-clause-led : goal.returns-clause-led
returns-clause-led g c =
    let read = c.read_item-answer in
    let Led : Held → Type 0 = λ h. LedBy h.place read.new.script.place read.result in
    subst Led c.self.view_is read.ensures.led

pub returns-clause-few : goal.returns-clause-few
returns-clause-few g c = c.read_item-answer.ensures.few

pub returns-clause-leaves : goal.returns-clause-leaves
returns-clause-leaves g c =
    let read = c.read_item-answer in
    let i = c.self.inside in
    let last = held_with read.new.script read.new.taken in
    let over = c.is_last-self-inside.result in
    let failed = c.is_err-self-inside.result in
    let Left : Held → Type 0 = λ h. Leaves h (with_flags last over failed) (is_last read.result) read.result in
    subst Left c.self.view_is
    (leaves_flags (held_with i.script i.taken) last i.over i.failed over failed (is_last read.result) read.result read.ensures.leaves c.is_last-self-inside.ensures c.is_err-self-inside.ensures.value)

pub invariant_of-self : goal.invariant_of-self
invariant_of-self g c = (
  c.read_item-answer.ensures.apart,
  λ going. where_going c.read_item-answer.result c.read_item-answer.ensures.ready (sym c.is_last-self-inside.ensures ∙ going),
)

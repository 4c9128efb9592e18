use Rattle.std.proofs.Common.{◌≡◌, ◌∙◌, ◌+◌, ◌≤◌, [], ◌∷◌, Option, Some, None, Result, Err, arith, refl, ap, sym, subst}
use Rattle.std.specs.Prelude.{IsSome}
use Rattle.std.proofs.lemmas.Result.{err_from_is_err_and}
use Rattle.io_edges.proofs.Passed.{given_none, given_more}
use Rattle.input_lines.proofs.ToldLines.{rose-later}
use Rattle.posts.specs.Posts.{post_count}
use Rattle.script_text.specs.declared.faults.ScriptFault.{ScriptFault}
use Rattle.script_text.specs.declared.faults.ScriptFault.TheVariants as fault
use Rattle.script_text.specs.declared.items.ScriptItem.{ScriptItem}
use Rattle.script_text.specs.Led.{Led, posts_in}
use Rattle.script_text.specs.Pushed.{item_of}
use Rattle.script_text.specs.Reader.{Held, rules_at}
use Rattle.pathserve.specs.declared.serving.Script.{Script}
use Rattle.pathserve.specs.inner.WholeScripts.{with_item}
use Rattle.pathserve.proofs.WholeReadings.{KeepsScript, behind, count_read, read_item, read_none, read_refused, read_short, read_whole}
use Rattle.pathserve.proofs.serving.read_script.Goals as goal

pub items-init : goal.items-init
items-init g c = record {
  told = read_none c.args.reader.now (g.S.Source.left c.args.source.now) c.requires.first;
  given = given_none _;
  going = ap (λ (h : Held). h.over) c.requires.first;
  keeps = ap (λ (h : Held). rules_at h.place.part) c.requires.first;
  count = omega (arith, ap (λ (h : Held). post_count h.place.posts) c.requires.first);
  limit = omega (arith, ap (λ (h : Held). h.place.bytes) c.requires.first);
  later = omega arith;
}

-- ---- no more of it comes

pub returns-in_err-item-clause-told : goal.returns-in_err-item-clause-told
returns-in_err-item-clause-told g c =
    let left = g.S.Source.left in
    let p = err_from_is_err_and c.from_residual.result c.from_residual.ensures.1 in
    rw (p.1, p.2)
    (read_refused c.items.reader c.next_item.new.self (left c.args.source.now) (left c.items.source) (left c.next_item.new.source) c.items.read c.in_err-item.field-0.0
    c.items.invariant.told c.in_err-item.ensures.told)

pub returns-in_err-item-clause-given : goal.returns-in_err-item-clause-given
returns-in_err-item-clause-given g c = given_more _ _ _ c.items.invariant.given c.next_item.ensures.takes.given

pub returns-in_err-item-clause-later : goal.returns-in_err-item-clause-later
returns-in_err-item-clause-later g c = omega (arith, c.items.invariant.later, c.next_item.ensures.takes.later)

pub returns-in_err-item-clause-fault : goal.returns-in_err-item-clause-fault
returns-in_err-item-clause-fault g c =
    let p = err_from_is_err_and c.from_residual.result c.from_residual.ensures.1 in
    rw (p.1, p.2)
    (λ is.
    let same : c.in_err-item.field-0.0 ≡ fault.ReadFault = cc in
    rose-later _ _ _ c.items.invariant.later
    (c.in_err-item.ensures.takes.fault (ap (λ (f : ScriptFault). let r : Result (Option ScriptItem) ScriptFault = Err f in r) same)))

-- ---- an item came

pub with_item-requires : goal.with_item-requires
with_item-requires g c =
    let rules = rw c.in-Some.is at c.in_ok-item.ensures.rules in
    (behind c.items.read c.in-Some.item (rules_at c.items.reader.place.part) (rules_at c.next_item.new.self.place.part) c.items.invariant.keeps rules).fits

pub items-smaller : goal.items-smaller
items-smaller g c =
    let led : Led c.items.reader.place (item_of c.in-Some.item ∷ []) c.next_item.new.self.place = rw c.in-Some.is at c.in_ok-item.ensures.led in
    let used = led.bytes in
    omega (arith, used, c.next_item.ensures.leaves.held.limit)

pub items-preserved : goal.items-preserved
items-preserved g c =
    let left = g.S.Source.left in
    let before = c.items.invariant in
    let i = c.in-Some.item in
    let made = c.in_ok-with_item-in-Some.field-0 in
    let is = c.in_ok-with_item-in-Some.ensures in
    let told = rw c.in-Some.is at c.in_ok-item.ensures.told in
    let rules = rw c.in-Some.is at c.in_ok-item.ensures.rules in
    let left_behind = rw c.in-Some.is at c.in_ok-item.ensures.leaves in
    let led : Led c.items.reader.place (item_of i ∷ []) c.next_item.new.self.place = rw c.in-Some.is at c.in_ok-item.ensures.led in
    let b = behind c.items.read i (rules_at c.items.reader.place.part) (rules_at c.next_item.new.self.place.part) before.keeps rules in
    let posts = led.posts in
    let more = b.count in
    let same : count_read (Some made) ≡ count_read (with_item c.items.read i) = ap count_read is in
    record {
      told = read_item c.items.reader c.next_item.new.self (left c.args.source.now) (left c.items.source) (left c.next_item.new.source) c.items.read i made b.fits is before.told told
          c.in_ok-item.ensures.leaves.held.stays;
      given = given_more _ _ _ before.given c.next_item.ensures.takes.given;
      going = left_behind.over;
      keeps = subst (λ (s : Option Script). KeepsScript s (rules_at c.next_item.new.self.place.part)) (sym is) b.keeps;
      count = omega (arith, before.count, posts, more, same);
      limit = c.next_item.ensures.leaves.held.limit;
      later = omega (arith, before.later, c.next_item.ensures.takes.later);
    }

-- there was no memory for it
pub returns-in_err-with_item-in-Some-clause-told : goal.returns-in_err-with_item-in-Some-clause-told
returns-in_err-with_item-in-Some-clause-told g c =
    let left = g.S.Source.left in
    let told = rw c.in-Some.is at c.in_ok-item.ensures.told in
    let p = err_from_is_err_and c.from_residual-in_err-with_item-in-Some.result c.from_residual-in_err-with_item-in-Some.ensures.1 in
    rw (p.1, p.2)
    (read_short c.items.reader c.next_item.new.self (left c.args.source.now) (left c.items.source) (left c.next_item.new.source) c.items.read c.in-Some.item c.items.invariant.told told)

pub returns-in_err-with_item-in-Some-clause-given : goal.returns-in_err-with_item-in-Some-clause-given
returns-in_err-with_item-in-Some-clause-given g c = given_more _ _ _ c.items.invariant.given c.next_item.ensures.takes.given

-- ---- the script has ended

pub returns-in-Some-read-clause-told : goal.returns-in-Some-read-clause-told
returns-in-Some-read-clause-told g c =
    let left = g.S.Source.left in
    let told = rw c.in-None.is at c.in_ok-item.ensures.told in
    let so_far = rw c.in-Some-read.is at c.items.invariant.told in
    read_whole c.items.reader c.next_item.new.self (left c.args.source.now) (left c.items.source) (left c.next_item.new.source) c.in-Some-read.script so_far told

pub returns-in-Some-read-clause-given : goal.returns-in-Some-read-clause-given
returns-in-Some-read-clause-given g c = given_more _ _ _ c.items.invariant.given c.next_item.ensures.takes.given

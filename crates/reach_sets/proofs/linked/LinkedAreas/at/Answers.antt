use Rattle.std.proofs.Common.{sym, ◌∙◌, arith}
use Rattle.std.proofs.lemmas.List.{get_or_read}
use Rattle.reach_sets.proofs.LinkedLemmas.{row_wide, read_marked, read_other}
use Rattle.reach_sets.proofs.linked.LinkedAreas.at.Goals as goal

pub before-before-requires : goal.before-before-requires
before-before-requires c =
    let t = c.self.inside in
    (row_wide c.args.self.now t.marks t.areas.items t.joined.items t.regions c.args.place c.self.invariant c.self.view_is c.requires).1

pub is_marked-requires : goal.is_marked-requires
is_marked-requires c =
    let t = c.self.inside in
    (row_wide c.args.self.now t.marks t.areas.items t.joined.items t.regions c.args.place c.self.invariant c.self.view_is c.requires).1

pub index-requires : goal.index-requires
index-requires c =
    let t = c.self.inside in
    let read = read_marked c.args.self.now t.marks t.areas.items t.joined.items t.regions c.args.place c.before-before.result c.self.invariant c.self.view_is c.requires
    (sym c.is_marked.ensures ∙ c.if-is_marked.true) c.before-before.ensures in
    omega (arith, read.0, t.areas.ok.0)

pub returns-then-is_marked : goal.returns-then-is_marked
returns-then-is_marked c =
    let t = c.self.inside in
    let read = read_marked c.args.self.now t.marks t.areas.items t.joined.items t.regions c.args.place c.before-before.result c.self.invariant c.self.view_is c.requires
    (sym c.is_marked.ensures ∙ c.if-is_marked.true) c.before-before.ensures in
    get_or_read t.areas.items c.before-before.result c.index.result.now read.0 c.index.ensures 0 ∙ read.1

pub index-requires-2 : goal.index-requires-2
index-requires-2 c =
    let t = c.self.inside in
    let read = read_other c.args.self.now t.marks t.areas.items t.joined.items t.regions c.args.place c.before-before.result c.self.invariant c.self.view_is c.requires
    (sym c.is_marked.ensures ∙ c.if-is_marked.false) c.before-before.ensures in
    omega (arith, read.0, t.joined.ok.0)

pub overflow_sub-result : goal.overflow_sub-result
overflow_sub-result c =
    let t = c.self.inside in
    let read = read_other c.args.self.now t.marks t.areas.items t.joined.items t.regions c.args.place c.before-before.result c.self.invariant c.self.view_is c.requires
    (sym c.is_marked.ensures ∙ c.if-is_marked.false) c.before-before.ensures in
    omega (arith, get_or_read t.joined.items c.before-before.result c.index-2.result.now read.0 c.index-2.ensures 0, read.1.0)

pub overflow_add-result : goal.overflow_add-result
overflow_add-result c =
    let t = c.self.inside in
    let row = row_wide c.args.self.now t.marks t.areas.items t.joined.items t.regions c.args.place c.self.invariant c.self.view_is c.requires in
    omega (arith, row.0, c.self.invariant.small)

pub returns : goal.returns
returns c =
    let t = c.self.inside in
    let read = read_other c.args.self.now t.marks t.areas.items t.joined.items t.regions c.args.place c.before-before.result c.self.invariant c.self.view_is c.requires
    (sym c.is_marked.ensures ∙ c.if-is_marked.false) c.before-before.ensures in
    omega (arith, get_or_read t.joined.items c.before-before.result c.index-2.result.now read.0 c.index-2.ensures 0, read.1.1)

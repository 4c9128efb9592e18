use Rattle.std.proofs.Common.{ℕ, ◌<◌, ◌+◌, ◌-◌, ◌/◌, length, ap, arith}
use Rattle.std.proofs.lemmas.List.{get_or_default}
use Rattle.open_heap.specs.declared.entries.Entry.{Entry}
use Rattle.open_heap.proofs.buckets.place_of.Goals as goal

pub halve-preserved-then-entries-middle : goal.halve-preserved-then-entries-middle
halve-preserved-then-entries-middle c =
    let entries = c.args.entries.now in
    let blank : Entry = record { estimate = 0; key = 0 } in
    let is = c.halve.invariant in
    let some = c.halve-test.true in
    let all = is.inside in
    let middle : ℕ = c.halve.least + (c.halve.most - c.halve.least) / 2 in
    let low : middle < c.halve.most = omega (arith, some) in
    let within : middle < length entries = omega (arith, low, all) in
    record {
      inside = omega (arith, within);
      order = omega arith;
      before = is.before;
      behind = λ place d from to.
          let same = ap (λ (e : Entry). e.estimate) (get_or_default entries middle blank d within) in
          let falls = c.requires middle place d from to in
          let test = c.if-entries-middle.true in
          omega (arith, same, falls, test);
    }

pub halve-preserved : goal.halve-preserved
halve-preserved c =
    let entries = c.args.entries.now in
    let blank : Entry = record { estimate = 0; key = 0 } in
    let is = c.halve.invariant in
    let some = c.halve-test.true in
    let all = is.inside in
    let middle : ℕ = c.halve.least + (c.halve.most - c.halve.least) / 2 in
    let low : middle < c.halve.most = omega (arith, some) in
    let within : middle < length entries = omega (arith, low, all) in
    record {
      inside = all;
      order = omega (arith, low);
      before = λ place d less.
          let same = ap (λ (e : Entry). e.estimate) (get_or_default entries middle blank d within) in
          let falls = c.requires place middle d (omega (arith, less)) within in
          let test = c.if-entries-middle.false in
          omega (arith, same, falls, test);
      behind = is.behind;
    }

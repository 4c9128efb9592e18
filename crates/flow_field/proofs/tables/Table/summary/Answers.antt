use Rattle.std.proofs.Common.{ℕ, ◌≡◌, ◌≤◌, ◌++◌, ◌∷◌, [], List, length, get_or, take, sym, ap, ◌∙◌, subst, arith}
use Rattle.std.proofs.lemmas.List.{length-take, take_more}
use Rattle.posts.specs.declared.notes.FlowSummary.{FlowSummary}
use Rattle.flow_field.specs.inner.Marks.{is_reached}
use Rattle.flow_field.specs.inner.Ways.{IsSummaryOf}
use Rattle.flow_field.proofs.Spots.{few_spots}
use Rattle.flow_field.proofs.Summing.{summary_push, summary_pass, summary_small}
use Rattle.flow_field.proofs.tables.Table.summary.Goals as goal
use Rattle.flow_field.proofs.tables.Table.summary.Goals.{then-is_reached, else-is_reached}

pub with_distance-summary-requires-clause-sum : goal.with_distance-summary-requires-clause-sum
with_distance-summary-requires-clause-sum c =
    let table = c.args.self.now in
    let marks = table.marks.items in
    let k = c.loop-mark.mark-index in
    let few : length (take k marks) ≤ 4202500 = omega (arith, length-take k marks, table.sound.long, few_spots table.size) in
    let small = summary_small (take k marks) c.loop-mark.summary c.loop-mark.invariant few in
    omega (arith, small.1, table.sound.most k, ap (λ (l : List ℕ). get_or l k 0) c.deref-mark-items.ensures.value)

pub loop-mark-preserved : goal.loop-mark-preserved
loop-mark-preserved c =
    let marks = c.args.self.now.marks.items in
    let k = c.loop-mark.mark-index in
    let same = c.deref-mark-items.ensures.value in
    let mark = get_or marks k 0 in
    let tested : c.is_reached.result ≡ is_reached mark = c.is_reached.ensures ∙ ap (λ (l : List ℕ). is_reached (get_or l k 0)) same in
    let value = ap (λ (l : List ℕ). get_or l k 0) same in
    let more = take_more marks k 0 (omega (arith, c.loop-mark-test.true, ap length same)) in
    let new = c.if-is_reached.summary in
    let old = c.loop-mark.summary in
    subst (λ (l : List ℕ). IsSummaryOf l new) (sym more)
    (elim c.if-is_reached.branch [
      | then-is_reached w ↦
          let added = w.with_distance-summary.ensures in
          let is = w.summary-is in
          summary_push (take k marks) mark old new c.loop-mark.invariant (sym tested ∙ w.if-is_reached.true)
          (omega (arith, ap (λ (s : FlowSummary). s.cells) is, added.cells))
          (omega (arith, ap (λ (s : FlowSummary). s.sum) is, added.sum, value))
          (omega (arith, ap (λ (s : FlowSummary). s.farthest) is, added.farthest, value))
      | else-is_reached w ↦ subst (λ (s : FlowSummary). IsSummaryOf (take k marks ++ mark ∷ []) s) (sym w.summary-is)
          (summary_pass (take k marks) mark old c.loop-mark.invariant (sym tested ∙ w.if-is_reached.false))
    ])

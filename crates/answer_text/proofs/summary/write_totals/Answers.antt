use Rattle.std.proofs.Common.{◌≡◌, ◌++◌, ◌∷◌, [], List, ℕ, ap, ◌∙◌}
use Rattle.std.specs.Prelude.{codes, decimal}
use Rattle.std.proofs.lemmas.Result.{on_ok_weaker}
use Rattle.posts.specs.declared.replies.Reply.{Reply}
use Rattle.answer_text.specs.declared.counting.ReplyCounts.{ReplyCounts}
use Rattle.answer_text.specs.Answers.{line_of}
use Rattle.answer_text.specs.inner.Counting.{counts_of}
use Rattle.answer_text.specs.Summaries.{totals_line}
use Rattle.answer_text.proofs.LineTexts.{totals_pieces}
use Rattle.answer_text.proofs.summary.write_totals.Goals as goal

-- the first line by the counts
counts_line : ℕ → ReplyCounts → List ℕ
counts_line turns k = line_of (codes "summary" ∷ codes "turns" ∷ decimal turns ∷ codes "posts" ∷ decimal k.posts ∷ codes "added" ∷ decimal k.added
    ∷ codes "removed" ∷ decimal k.removed ∷ codes "refused" ∷ decimal k.refused ∷ codes "goal" ∷ decimal k.goal ∷ codes "near" ∷ decimal k.near
    ∷ codes "nowhere" ∷ decimal k.nowhere ∷ codes "cost" ∷ decimal k.cost ∷ codes "corners" ∷ decimal k.waypoints ∷ [])

-- the line by the counts of all replies is that of the definition
of_all : (text : List ℕ) (turns : ℕ) (k : ReplyCounts) (all : List Reply) → k ≡ counts_of all → text ++ counts_line turns k ≡ text ++ totals_line turns all
unfolding counts_line totals_line
of_all text turns k all same = ap (λ (k : ReplyCounts). text ++ counts_line turns k) same

pub returns : goal.returns
unfolding counts_line
returns c =
    let k = c.args.counts.now in
    let wrote : c.write_after-10.new.text ++ 10 ∷ [] ≡ c.args.text.now ++ counts_line c.args.turns k =
    rw (
      c.in_ok-write_after-10.ensures.ok,
      c.in_ok-write_after-9.ensures.ok,
      c.in_ok-write_after-8.ensures.ok,
      c.in_ok-write_after-7.ensures.ok,
      c.in_ok-write_after-6.ensures.ok,
      c.in_ok-write_after-5.ensures.ok,
      c.in_ok-write_after-4.ensures.ok,
      c.in_ok-write_after-3.ensures.ok,
      c.in_ok-write_after-2.ensures.ok,
      c.in_ok-write_after.ensures.ok,
    )
    (totals_pieces c.args.text.now (decimal c.args.turns) (decimal k.posts) (decimal k.added) (decimal k.removed) (decimal k.refused) (decimal k.goal)
    (decimal k.near) (decimal k.nowhere) (decimal k.cost) (decimal k.waypoints)) in
    on_ok_weaker c.extend.result
    (λ (last : c.extend.new.self ≡ c.write_after-10.new.text ++ 10 ∷ []). λ (all : List Reply) (same : k ≡ counts_of all).
    last ∙ (wrote ∙ of_all c.args.text.now c.args.turns k all same))
    c.extend.ensures.ok

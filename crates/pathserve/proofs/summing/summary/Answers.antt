use Rattle.made_match.proofs.SmallJournals.{journal_jobs_few}
use Rattle.pathserve.proofs.FewReplies.{replies_summed}
use Rattle.pathserve.proofs.summing.summary.Goals as goal

pub all_replies-requires-clause-few : goal.all_replies-requires-clause-few
all_replies-requires-clause-few g c = rw c.in_ok-map.ensures.journal (journal_jobs_few c.args.seed)

pub summary_text-requires-clause-few : goal.summary_text-requires-clause-few
summary_text-requires-clause-few g c =
    (replies_summed c.args.seed _ _ _ c.in_ok-map.ensures.map c.in_ok-map.ensures.journal c.in_ok-replies.ensures).few

pub summary_text-requires-clause-costs : goal.summary_text-requires-clause-costs
summary_text-requires-clause-costs g c =
    (replies_summed c.args.seed _ _ _ c.in_ok-map.ensures.map c.in_ok-map.ensures.journal c.in_ok-replies.ensures).costs

pub summary_text-requires-clause-waypoints : goal.summary_text-requires-clause-waypoints
summary_text-requires-clause-waypoints g c =
    (replies_summed c.args.seed _ _ _ c.in_ok-map.ensures.map c.in_ok-map.ensures.journal c.in_ok-replies.ensures).waypoints

use Rattle.fixed_point.proofs.writing.FixedText.+push_whole.Given as goal

-- the front of the number is smaller
abbrev pub decreases-push_whole : goal.decreases-push_whole
decreases-push_whole l = l.whole

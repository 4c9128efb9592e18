use Rattle.fixed_point.proofs.writing.FixedText.+push_decimals.Given as goal

-- fewer decimals are left to write
abbrev pub decreases-push_decimals : goal.decreases-push_decimals
decreases-push_decimals l = l.most

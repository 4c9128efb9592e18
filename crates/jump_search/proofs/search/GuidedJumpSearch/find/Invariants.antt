use Rattle.jump_search.proofs.search.GuidedJumpSearch.find.Given as goal

abbrev pub ghosts-uncounted_by : goal.ghosts-uncounted_by
ghosts-uncounted_by g a = record { name = a.blank.name; parts = a.blank.parts }

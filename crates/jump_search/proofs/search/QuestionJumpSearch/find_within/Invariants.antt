use Rattle.jump_search.proofs.search.QuestionJumpSearch.find_within.Given as goal

abbrev pub ghosts-uncounted_within : goal.ghosts-uncounted_within
ghosts-uncounted_within g a = record { name = a.blank.name; parts = a.blank.parts }

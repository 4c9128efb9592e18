-- What passes an edge in one call, and in calls one after another.
use Rattle.std.proofs.Common.{ℕ, List, [], ◌++◌, Option}
use Rattle.std.proofs.KnownBytes.{Appends-nil, Appends-trans, Consumes-nil, Consumes-trans}
use Rattle.io_edges.specs.Passing.{HasGiven, HasTaken}

-- ---- a source

-- a source that was not called
pub given_none : (before : Option (List ℕ)) → HasGiven before before
given_none before = record { given = []; rest = Consumes-nil before }

-- calls one after another
pub given_more : (before mid now : Option (List ℕ)) → HasGiven before mid → HasGiven mid now → HasGiven before now
given_more before mid now first second = record {
  given = first.given ++ second.given;
  rest = Consumes-trans before mid now first.given second.given first.rest second.rest;
}

-- ---- a sink

-- a sink that was not called
pub taken_none : (before : Option (List ℕ)) → HasTaken before before
taken_none before = record { taken = []; behind = Appends-nil before }

-- calls one after another
pub taken_more : (before mid now : Option (List ℕ)) → HasTaken before mid → HasTaken mid now → HasTaken before now
taken_more before mid now first second = record {
  taken = first.taken ++ second.taken;
  behind = Appends-trans before mid now first.taken second.taken first.behind second.behind;
}

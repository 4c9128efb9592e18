use Rattle.std.proofs.Common.{ℕ, Option, Some, None, IfSome, IfNone, ◌≡◌, sym, subst}
use Rattle.nav_types.specs.declared.straights.Way.{Way}
use Rattle.nav_types.specs.declared.straights.Way.TheVariants.{Up, Down}
use Rattle.class_planes.specs.inner.Runs.{LaneWords, OpensFirst, bits_along, opens_after}
use Rattle.class_planes.proofs.OpeningLemmas.{up_first, up_none, down_first, down_none}
use Rattle.class_planes.proofs.forced_places.first_opening.Goals as goal

found_so : (found : Option ℕ) (Is Wanted : ℕ → Type 0) → IfSome found Is → ((n : ℕ) → Is n → Wanted n)
    → IfSome found Wanted
found_so None Is Wanted is so = tt
found_so (Some n) Is Wanted is so = so n is

none_so : (found : Option ℕ) (Is Wanted : Type 0) → IfNone found Is → (Is → Wanted) → IfNone found Wanted
none_so None Is Wanted is so = so is
none_so (Some n) Is Wanted is so = tt

abbrev Opens : Way → ℕ → LaneWords → ℕ → Type 0
Opens way from lanes = OpensFirst (bits_along way lanes.left from) (bits_along way lanes.right from)

abbrev AreShut : Way → ℕ → LaneWords → Type 0
AreShut way from lanes = (n : ℕ) → opens_after (bits_along way lanes.left from) (bits_along way lanes.right from) n ≡ 0

pub returns-in-Up-clause-some : goal.returns-in-Up-clause-some
returns-in-Up-clause-some c =
    let own = c.lanes.inside in
    let lanes : LaneWords = record { mid = own.mid.now; left = own.left.now; right = own.right.now } in
    let found = c.first_up.result in
    subst (λ (l : LaneWords). IfSome found (Opens c.args.way c.args.from l)) c.lanes.view_is
    (subst (λ (w : Way). IfSome found (Opens w c.args.from lanes)) (sym c.in-Up.is)
    (found_so found _ (Opens Up c.args.from lanes) c.first_up.ensures.some
    (λ n next. up_first own.left.now own.right.now c.args.from n next)))

pub returns-in-Up-clause-none : goal.returns-in-Up-clause-none
returns-in-Up-clause-none c =
    let own = c.lanes.inside in
    let lanes : LaneWords = record { mid = own.mid.now; left = own.left.now; right = own.right.now } in
    let found = c.first_up.result in
    subst (λ (l : LaneWords). IfNone found (AreShut c.args.way c.args.from l)) c.lanes.view_is
    (subst (λ (w : Way). IfNone found (AreShut w c.args.from lanes)) (sym c.in-Up.is)
    (none_so found _ (AreShut Up c.args.from lanes) c.first_up.ensures.none
    (λ none. up_none own.left.now own.right.now c.args.from none)))

pub returns-in-Down-clause-some : goal.returns-in-Down-clause-some
returns-in-Down-clause-some c =
    let own = c.lanes.inside in
    let lanes : LaneWords = record { mid = own.mid.now; left = own.left.now; right = own.right.now } in
    let found = c.first_down.result in
    subst (λ (l : LaneWords). IfSome found (Opens c.args.way c.args.from l)) c.lanes.view_is
    (subst (λ (w : Way). IfSome found (Opens w c.args.from lanes)) (sym c.in-Down.is)
    (found_so found _ (Opens Down c.args.from lanes) c.first_down.ensures.some
    (λ n last. down_first own.left.now own.right.now c.args.from n last.0 last.1)))

pub returns-in-Down-clause-none : goal.returns-in-Down-clause-none
returns-in-Down-clause-none c =
    let own = c.lanes.inside in
    let lanes : LaneWords = record { mid = own.mid.now; left = own.left.now; right = own.right.now } in
    let found = c.first_down.result in
    subst (λ (l : LaneWords). IfNone found (AreShut c.args.way c.args.from l)) c.lanes.view_is
    (subst (λ (w : Way). IfNone found (AreShut w c.args.from lanes)) (sym c.in-Down.is)
    (none_so found _ (AreShut Down c.args.from lanes) c.first_down.ensures.none
    (λ none. down_none own.left.now own.right.now c.args.from none)))

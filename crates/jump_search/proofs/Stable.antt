-- A joined cell can't lack a chosen walk, and a walk of least cost that can't fail to be chosen is chosen.
use Rattle.std.proofs.Common.{ℕ, zero, suc, ◌≡◌, ◌≢◌, ◌+◌, ◌<◌, ◌≤◌, ◌⊎◌, inl, inr, Bool, true, false, List, [], ◌∷◌}
use Rattle.std.proofs.Common.{◌++◌, Option, None, Some, IsTrue, reverse, refl, sym, ap, subst, ◌∙◌, arith}
use Rattle.std.proofs.lemmas.Bool.{cases_eq, cases_lt, false≢true}
use Rattle.std.proofs.lemmas.List.{reverse-reverse}
use Rattle.std.proofs.lemmas.Option.{same_Some}
use Rattle.nav_types.specs.declared.cells.Cell.{Cell}
use Rattle.nav_types.specs.declared.directions.Dir.{Dir}
use Rattle.nav_types.specs.declared.directions.Dir.TheVariants.{N, E, S, W, NE, SE, SW, NW}
use Rattle.nav_types.specs.Directions.{is_straight, step_cost}
use Rattle.nav_types.specs.Walks.{Step, IsWalk, walk_cost, Joined, IsDistance}
use Rattle.nav_types.proofs.CellOrder.{same_cell}
use Rattle.nav_types.proofs.Walking.{IsWalk-push, walk_cost-push, IsDistance-unique, leads_from_same, step_cost_some}
use Rattle.walks.specs.Chosen.{Enters, preference, IsFirstIn, CanGoStraight, IsPicked, IsChosenBack, IsChosen}
use Rattle.walks.proofs.Tracing.{picked_within, turned, chosen_turned}
use Rattle.walks.proofs.Walking.{some_enters}
use Rattle.jump_scan.proofs.Keeping.{place_of_dir, same_place}

-- two directions are one or not
pub same_dir : (a b : Dir) → (a ≡ b) ⊎ (a ≡ b → ⊥)
same_dir a b = elim (cases_eq (place_of_dir a) (place_of_dir b)) [
  | inl same ↦ inl (same_place a b same)
  | inr other ↦ inr (λ same. other (ap place_of_dir same))
]

-- ---- the picked direction

first_stable : (Within : Dir → Type 0) (dirs : List Dir) (dir : Dir) → Within dir
    → ((IsFirstIn Within dirs dir → ⊥) → ⊥) → IsFirstIn Within dirs dir
first_stable Within [] dir within surely = absurd (surely (λ found. found))
first_stable Within (first ∷ rest) dir within surely = elim (same_dir dir first) [
  | inl same ↦ inl (subst Within same within, same)
  | inr other ↦
      let later : ((Within first → ⊥) × IsFirstIn Within rest dir → ⊥) → ⊥ =
      λ none. surely (λ found. elim found [ inl here ↦ other here.1 | inr after ↦ none after ]) in
      inr (
        λ here. later (λ after. after.0 here),
        first_stable Within rest dir within (λ none. later (λ after. none after.1)),
      )
]

picked_by_first : (Within : Dir → Type 0) (next : Option Dir) (dir : Dir) → Within dir
    → (CanGoStraight Within next × (next ≡ Some dir) → ⊥) → ((IsPicked Within next dir → ⊥) → ⊥)
    → IsPicked Within next dir
picked_by_first Within next dir within never surely =
    let other : ((CanGoStraight Within next → ⊥) × IsFirstIn Within preference dir → ⊥) → ⊥ =
    λ none. surely (λ picked. elim picked [ inl straight ↦ never straight | inr first ↦ none first ]) in
    inr (
      λ can. other (λ first. first.0 can),
      first_stable Within preference dir within (λ none. other (λ first. none first.1)),
    )

-- a direction within the set that can't fail to be picked is picked
pub picked_stable : (Within : Dir → Type 0) (next : Option Dir) (dir : Dir) → Within dir
    → ((IsPicked Within next dir → ⊥) → ⊥) → IsPicked Within next dir
picked_stable Within None dir within surely = picked_by_first Within None dir within (λ straight. straight.0) surely
picked_stable Within (Some ahead) dir within surely =
    let P = λ (v : Bool). is_straight ahead ≡ v → IsPicked Within (Some ahead) dir in
    elim (same_dir ahead dir) [
      | inl same ↦ elim (is_straight ahead) as P [
        | true ↦ λ straight. inl ((straight, subst Within (sym same) within), ap Some same)
        | false ↦ λ diagonal.
            picked_by_first Within (Some ahead) dir within (λ on. false≢true (sym diagonal ∙ on.0.0)) surely
      ] refl
      | inr other ↦ picked_by_first Within (Some ahead) dir within (λ on. other (same_Some ahead dir on.1)) surely
    ]

-- ---- a walk that can't fail to be chosen is chosen

-- a walk without its last step
pub walk_parted : (passes : Cell → Bool) (dirs : List Dir) (from to : Cell) (dir : Dir)
    → IsWalk passes from (dirs ++ dir ∷ []) to
    → (before : Cell) × (IsWalk passes from dirs before × Step passes dir before to)
walk_parted passes [] from to dir walk = (from, (refl, subst (λ (c : Cell). Step passes dir from c) walk.1.1 walk.1.0))
walk_parted passes (first ∷ dirs) from to dir walk =
    let rest = walk_parted passes dirs walk.0 to dir walk.1.1 in
    (rest.0, ((walk.0, (walk.1.0, rest.1.0)), rest.1.1))

back_stable : (passes : Cell → Bool) (start : Cell) (back : List Dir) (next : Option Dir) (cell : Cell)
    → IsWalk passes start (reverse back) cell
    → ((others : List Dir) → IsWalk passes start others cell → walk_cost (reverse back) ≤ walk_cost others)
    → ((IsChosenBack passes start next back cell → ⊥) → ⊥) → IsChosenBack passes start next back cell
back_stable passes start [] next cell walk least surely = walk
back_stable passes start (dir ∷ dirs) next cell walk least surely =
    let P = λ (way : List Dir). IsWalk passes start way cell in
    let parted = walk_parted passes (reverse dirs) start cell dir (subst P (sym (turned dir dirs)) walk) in
    let before = parted.0 in
    let step = parted.1.1 in
    let whole : walk_cost (reverse (dir ∷ dirs)) ≡ walk_cost (reverse dirs) + step_cost dir =
    ap walk_cost (sym (turned dir dirs)) ∙ walk_cost-push (reverse dirs) dir in
    let less : (others : List Dir) → IsWalk passes start others before → walk_cost (reverse dirs) ≤ walk_cost others =
    λ others other. omega (
      arith,
      least (others ++ dir ∷ []) (IsWalk-push passes others start before cell dir other step),
      walk_cost-push others dir,
      whole,
    ) in
    let enters : Enters passes start cell dir = record {
      before = before;
      step = step;
      cost = walk_cost (reverse dirs);
      near = record { walk = (reverse dirs, (parted.1.0, refl)); least = less };
      far = record {
        walk = (reverse (dir ∷ dirs), (walk, whole));
        least = λ others other. omega (arith, least others other, whole);
      };
    } in
    let Q = λ (c : Cell). IsChosenBack passes start (Some dir) dirs c in (
      λ same. surely (λ chosen. chosen.0 same),
      (
        picked_stable (Enters passes start cell) next dir enters (λ none. surely (λ chosen. none chosen.1.0)),
        (
          before,
          (
            step.leads,
            back_stable passes start dirs (Some dir) before parted.1.0 less (λ none. surely (λ chosen.
                let here = leads_from_same dir chosen.1.1.0 before cell chosen.1.1.1.0 step.leads in
                none (subst Q here chosen.1.1.1.1))),
          ),
        ),
      ),
    )

-- a walk of least cost that can't fail to be chosen is chosen
pub chosen_stable : (passes : Cell → Bool) (start end : Cell) (dirs : List Dir) → IsWalk passes start dirs end
    → ((others : List Dir) → IsWalk passes start others end → walk_cost dirs ≤ walk_cost others)
    → ((IsChosen passes start dirs end → ⊥) → ⊥) → IsChosen passes start dirs end
chosen_stable passes start end dirs walk least surely =
    let same = sym (reverse-reverse dirs) in
    let P = λ (way : List Dir). IsWalk passes start way end in
    let Q = λ (way : List Dir). (others : List Dir) → IsWalk passes start others end
    → walk_cost way ≤ walk_cost others in
    back_stable passes start (reverse dirs) None end (subst P same walk) (subst Q same least) surely

-- ---- a joined cell can't lack a chosen walk

-- the direction is among those of the list
abbrev IsAmong : List Dir → Dir → Type 0
IsAmong [] dir = ⊥
IsAmong (first ∷ rest) dir = (dir ≡ first) ⊎ IsAmong rest dir

preferred : (dir : Dir) → IsAmong preference dir
preferred N = inl refl
preferred E = inr (inl refl)
preferred S = inr (inr (inl refl))
preferred W = inr (inr (inr (inl refl)))
preferred NE = inr (inr (inr (inr (inl refl))))
preferred SE = inr (inr (inr (inr (inr (inl refl)))))
preferred SW = inr (inr (inr (inr (inr (inr (inl refl))))))
preferred NW = inr (inr (inr (inr (inr (inr (inr (inl refl)))))))

some_first : (Within : Dir → Type 0) (dirs : List Dir) (dir : Dir) → Within dir → IsAmong dirs dir
    → ((other : Dir) → IsFirstIn Within dirs other → ⊥) → ⊥
some_first Within [] dir within among none = among
some_first Within (first ∷ rest) dir within among none =
    let never : Within first → ⊥ = λ here. none first (inl (here, refl)) in
    elim among [
      | inl same ↦ never (subst Within same within)
      | inr later ↦ some_first Within rest dir within later (λ other found. none other (inr (never, found)))
    ]

no_straight : (Within : Dir → Type 0) (next : Option Dir) → ((other : Dir) → IsPicked Within next other → ⊥)
    → CanGoStraight Within next → ⊥
no_straight Within None none can = can
no_straight Within (Some ahead) none can = none ahead (inl (can, refl))

-- where some direction is within the set, one can't fail to be picked
pub some_picked : (Within : Dir → Type 0) (next : Option Dir) (dir : Dir) → Within dir
    → ((other : Dir) → IsPicked Within next other → ⊥) → ⊥
some_picked Within next dir within none =
    let never = no_straight Within next none in
    some_first Within preference dir within (preferred dir) (λ other found. none other (inr (never, found)))

least_walk : (passes : Cell → Bool) (start cell : Cell) (bound : ℕ) (dirs : List Dir) → walk_cost dirs < bound
    → IsWalk passes start dirs cell → ((cost : ℕ) → IsDistance passes start cell cost → ⊥) → ⊥
least_walk passes start cell zero dirs below walk none = omega (arith, below)
least_walk passes start cell (suc bound) dirs below walk none = none (walk_cost dirs) (record {
  walk = (dirs, (walk, refl));
  least = λ others other. elim (cases_lt (walk_cost others) (walk_cost dirs)) [
    | inl less ↦ absurd (least_walk passes start cell bound others (omega (arith, less, below)) other none)
    | inr more ↦ more
  ];
})

-- a joined cell can't lack a distance
pub some_distance : (passes : Cell → Bool) (start cell : Cell) → Joined passes start cell
    → ((cost : ℕ) → IsDistance passes start cell cost → ⊥) → ⊥
some_distance passes start cell joined none =
    least_walk passes start cell (suc (walk_cost joined.0)) joined.0 (omega arith) joined.1 none

same_or_other : (a b : Cell) → (a ≡ b) ⊎ (a ≢ b)
same_or_other a b = elim (cases_eq a.i b.i) [
  | inl column ↦ elim (cases_eq a.j b.j) [
    | inl row ↦ inl (same_cell a b column row)
    | inr other ↦ inr (λ same. other (ap (λ (cell : Cell). cell.j) same))
  ]
  | inr other ↦ inr (λ same. other (ap (λ (cell : Cell). cell.i) same))
]

chosen_back : (passes : Cell → Bool) (start : Cell) (bound : ℕ) (cell : Cell) (cost : ℕ) (next : Option Dir)
    → cost < bound → IsDistance passes start cell cost
    → ((dirs : List Dir) → IsChosenBack passes start next dirs cell → ⊥) → ⊥
chosen_back passes start zero cell cost next below distance none = omega (arith, below)
chosen_back passes start (suc bound) cell cost next below distance none = elim (same_or_other start cell) [
  | inl same ↦ none [] same
  | inr away ↦
      let some = some_enters passes start cell cost distance away in
      some_picked (Enters passes start cell) next some.0 some.1 (λ dir picked.
      let enters = picked_within (Enters passes start cell) next dir picked in
      let total = IsDistance-unique passes start cell (enters.cost + step_cost dir) cost enters.far distance in
      let least = step_cost_some dir in
      let less : enters.cost < bound = omega (arith, total, least, below) in
      chosen_back passes start bound enters.before enters.cost (Some dir) less enters.near
      (λ dirs rest. none (dir ∷ dirs) (away, (picked, (enters.before, (enters.step.leads, rest))))))
]

-- a joined cell can't lack a chosen walk
pub some_chosen : (passes : Cell → Bool) (start cell : Cell) → IsTrue (passes start) → Joined passes start cell
    → ((dirs : List Dir) → IsChosen passes start dirs cell → ⊥) → ⊥
some_chosen passes start cell passing joined none =
    some_distance passes start cell joined (λ cost distance.
    chosen_back passes start (suc cost) cell cost None (omega arith) distance
    (λ back chosen. none (reverse back) (chosen_turned passes start cell back (reverse back) refl chosen)))

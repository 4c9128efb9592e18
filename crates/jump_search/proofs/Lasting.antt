-- What stays of the nodes of a search as jumps are followed.
use Rattle.std.proofs.Common.{ℕ, ◌≡◌, ◌+◌, ◌≤◌, ◌⊎◌, Bool, false, List, ◌∷◌, length, Option, Some, None, inl, inr, refl}
use Rattle.std.proofs.Common.{ap, sym, subst, ◌∙◌, arith}
use Rattle.std.specs.List.{slice_get}
use Rattle.std.proofs.lemmas.Bool.{cases_Bool, both_ways}
use Rattle.nav_types.specs.declared.cells.Cell.{Cell}
use Rattle.nav_types.specs.declared.directions.Dir.{Dir}
use Rattle.nav_types.specs.Directions.{is_straight}
use Rattle.jump_search.specs.declared.nodes.Node.{Node}
use Rattle.jump_search.specs.declared.states.JumpState.{JumpState}
use Rattle.jump_search.specs.JumpStates.{IsJump, octile_between}
use Rattle.jump_search.specs.inner.Numbered.{HasState, LacksState, HasCheaper}
use Rattle.jump_search.specs.inner.Searched.{IsLastRun, IsKeptRun, IsMetByJumps, HasOpenedParent, IsRelaxed, IsNoted, IsDearer, AreMet}
use Rattle.jump_search.specs.inner.Underway.{IsLaterNode, AreLater, IsOpenNode, IsFollowedAlong}

pub kept_self : (arrived : Option Dir) (run : ℕ) → IsKeptRun arrived run run
kept_self None run = refl
kept_self (Some dir) run = elim (cases_Bool (is_straight dir)) [
  | inl straight ↦ inl (straight, omega arith)
  | inr diagonal ↦ inr (diagonal, omega arith)
]

pub kept_through : (arrived : Option Dir) (a b c : ℕ) → IsKeptRun arrived a b → IsKeptRun arrived b c
    → IsKeptRun arrived a c
kept_through None a b c one two = one ∙ two
kept_through (Some dir) a b c one two = elim one [
  | inl p ↦ elim two [
    | inl q ↦ inl (p.0, omega (arith, p.1, q.1))
    | inr q ↦ absurd (both_ways (is_straight dir) q.0 p.0)
  ]
  | inr p ↦ elim two [
    | inl q ↦ absurd (both_ways (is_straight dir) p.0 q.0)
    | inr q ↦ inr (p.0, omega (arith, p.1, q.1))
  ]
]

pub later_self : (node : Node) → IsLaterNode node node
later_self node = record {
  same = refl;
  cheap = omega arith;
  kept = λ e. kept_self node.state.arrived node.run;
  opened =
      λ o. (o, refl);
}

pub later_through : (a b c : Node) → IsLaterNode a b → IsLaterNode b c → IsLaterNode a c
later_through a b c one two =
    let low = one.cheap in let lower = two.cheap in
    record {
      same = two.same ∙ one.same;
      cheap = omega arith;
      kept = λ e.
          let last : c.cost ≡ b.cost = omega (arith, e, low, lower) in
          let first : b.cost ≡ a.cost = omega (arith, e, low, lower) in
          kept_through a.state.arrived c.run b.run a.run
          (subst (λ (s : JumpState). IsKeptRun s.arrived c.run b.run) one.same (two.kept last)) (one.kept first);
      opened = λ o. let first = one.opened o in let last = two.opened first.0 in (last.0, last.1 ∙ first.1);
    }

pub all_later_self : (nodes : List Node) → AreLater nodes nodes
all_later_self nodes = record {
  each = λ number a found. (a, (found, later_self a));
  back = λ number b found opened. (b, (found, (opened, later_self b)));
  opened = refl;
}

pub all_later_through : (a b c : List Node) → AreLater a b → AreLater b c → AreLater a c
all_later_through a b c one two = record {
  each = λ number x found.
      let y = one.each number x found in
      let z = two.each number y.0 y.1.0 in
      (z.0, (z.1.0, later_through x y.0 z.0 y.1.1 z.1.1));
  back = λ number z found opened.
      let y = two.back number z found opened in
      let x = one.back number y.0 y.1.0 y.1.1.0 in
      (x.0, (x.1.0, (x.1.1.0, later_through x.0 y.0 z x.1.1.1 y.1.1.1)));
  opened = two.opened ∙ one.opened;
}

pub relaxed_later : (old new : List Node) (state : JumpState) (cost run : ℕ) → AreLater old new
    → IsRelaxed old state cost run
    → IsRelaxed new state cost run
relaxed_later old new state cost run later relaxed =
    let next = later.each relaxed.place relaxed.node relaxed.known in
    let cheap = relaxed.cheap in let lower = next.1.1.cheap in
    record {
      place = relaxed.place;
      node = next.0;
      known = next.1.0;
      same = next.1.1.same ∙ relaxed.same;
      cheap = omega (arith, cheap, lower);
      kept = λ e.
          let last : next.0.cost ≡ relaxed.node.cost = omega (arith, e, cheap, lower) in
          let first : relaxed.node.cost ≡ cost = omega (arith, e, cheap, lower) in
          kept_through state.arrived next.0.run relaxed.node.run run
          (subst (λ (s : JumpState). IsKeptRun s.arrived next.0.run relaxed.node.run) relaxed.same (next.1.1.kept last))
          (relaxed.kept first);
    }

pub cheaper_later : (old new : List Node) (cell : Cell) (cost : ℕ) → AreLater old new → HasCheaper old cell cost
    → HasCheaper new cell cost
cheaper_later old new cell cost later cheaper =
    let next = later.each cheaper.0 cheaper.1.0 cheaper.1.1.0 in
    let lower = next.1.1.cheap in let less = cheaper.1.1.1.1 in (
      cheaper.0,
      (
        next.0,
        (
          next.1.0,
          (ap (λ (s : JumpState). s.cell) next.1.1.same ∙ cheaper.1.1.1.0, omega (arith, lower, less)),
        ),
      ),
    )

pub noted_later : (all : Bool) (passes hit : Cell → Bool) (start : Cell) (old new : List Node) (state : JumpState) (cost run : ℕ) → AreLater old new
    → IsNoted all passes hit start old state cost run
    → IsNoted all passes hit start new state cost run
noted_later all passes hit start old new state cost run later noted = elim noted [
  | inl relaxed ↦ inl (relaxed_later old new state cost run later relaxed)
  | inr other ↦ elim other [
    | inl left ↦ inr (inl (left.0, cheaper_later old new state.cell cost later left.1))
    | inr nearer ↦ inr (inr nearer)
  ]
]

pub dearer_later : (old new : List Node) (a b : Node) → AreLater old new → b.state ≡ a.state → a.cost ≤ b.cost
    → IsDearer old a → IsDearer new b
dearer_later old new a b later same most dearer =
    let next = later.each dearer.0 dearer.1.0 dearer.1.1.0 in
    let lower = next.1.1.cheap in let less = dearer.1.1.1.1 in (
      dearer.0,
      (
        next.0,
        (
          next.1.0,
          (
            ap (λ (s : JumpState). s.cell) (next.1.1.same) ∙ dearer.1.1.1.0 ∙ ap
                (λ (s : JumpState). s.cell) (sym same),
            omega (arith, lower, less, most),
          ),
        ),
      ),
    )

pub parent_later : (passes hit : Cell → Bool) (old new : List Node) (node : Node) → AreLater old new
    → HasOpenedParent passes hit old node
    → HasOpenedParent passes hit new node
parent_later passes hit old new node later has =
    let next = later.each has.place has.parent has.known in
    let parent = next.0 in
    let still = next.1.1.opened has.opened in
    let same : has.parent.state ≡ parent.state = sym next.1.1.same in
    record {
      place = has.place;
      parent = parent;
      known = next.1.0;
      opened = still.0;
      jump = subst (λ (s : JumpState). IsJump passes hit s node.state) same has.jump;
      cost = has.cost ∙ ap (λ (n : ℕ). n + octile_between has.parent.state.cell node.state.cell) (sym still.1)
          ∙ ap (λ (s : JumpState). parent.cost + octile_between s.cell node.state.cell) same;
      last = subst (λ (s : JumpState). IsLastRun passes s.cell node.state node.run) same has.last;
    }

pub parent_as : (passes hit : Cell → Bool) (nodes : List Node) (a b : Node) → b.state ≡ a.state → b.cost ≡ a.cost
    → b.run ≡ a.run
    → HasOpenedParent passes hit nodes a → HasOpenedParent passes hit nodes b
parent_as passes hit nodes a b same cost run has = record {
  place = has.place;
  parent = has.parent;
  known = has.known;
  opened = has.opened;
  jump = subst (λ (s : JumpState). IsJump passes hit has.parent.state s) (sym same) has.jump;
  cost = cost ∙ has.cost ∙ ap (λ (s : JumpState). has.parent.cost + octile_between has.parent.state.cell s.cell)
      (sym same);
  last = subst (λ (s : JumpState). IsLastRun passes has.parent.state.cell s b.run) (sym same)
      (subst (λ (n : ℕ). IsLastRun passes has.parent.state.cell a.state n) (sym run) has.last);
}

pub reached_as : (passes hit : Cell → Bool) (start : Cell) (a b : Node) → b.state ≡ a.state → b.cost ≡ a.cost
    → IsMetByJumps passes hit start a
    → IsMetByJumps passes hit start b
reached_as passes hit start a b same cost has =
    let Way = λ (s : JumpState) (n : ℕ). IsMetByJumps passes hit start
    (record { state = s; cost = n; run = 0; opened = false }) in
    subst (λ (n : ℕ). Way b.state n) (sym cost) (subst (λ (s : JumpState). Way s a.cost) (sym same) has)

reached_by : (passes hit : Cell → Bool) (start : Cell) (nodes : List Node) (node : Node) → AreMet passes hit start nodes
    → HasOpenedParent passes hit nodes node → IsMetByJumps passes hit start node
reached_by passes hit start nodes node met has =
    let way = met.reached has.place has.parent has.known in (
      has.parent.state ∷ way.0,
      (
        (has.jump, way.1.0),
        ap (λ (n : ℕ). n + octile_between has.parent.state.cell node.state.cell) way.1.1 ∙ sym has.cost,
      ),
    )

-- where a node of the new list is from: from the same number of the old one, or it has a parent there
abbrev pub IsFrom : (Cell → Bool) → (Cell → Bool) → List Node → ℕ → Node → Type 0
IsFrom passes hit old number b =
    ((a : Node) × ((slice_get old number ≡ Some a) × ((b.state ≡ a.state) × ((b.cost ≡ a.cost) × (b.run ≡ a.run)))))
    ⊎ (HasOpenedParent passes hit old b × (HasState old b.state number ⊎ ((number ≡ length old) × LacksState old b.state)))

-- the state of a node of the new list is that of the same number, or new
stood : (passes hit : Cell → Bool) (old : List Node) (number : ℕ) (b : Node) → IsFrom passes hit old number b
    → HasState old b.state number ⊎ ((number ≡ length old) × LacksState old b.state)
stood passes hit old number b from = elim from [
  | inl before ↦ inl (before.0, (before.1.0, sym before.1.1.0))
  | inr new ↦ new.1
]

once_from : (passes hit : Cell → Bool) (start : Cell) (old : List Node) (p q : ℕ) (a b : Node)
    → AreMet passes hit start old
    → IsFrom passes hit old p a → IsFrom passes hit old q b → a.state ≡ b.state → p ≡ q
once_from passes hit start old p q a b met from_a from_b same = elim (stood passes hit old p a from_a) [
  | inl one ↦ elim (stood passes hit old q b from_b) [
    | inl two ↦ met.once p q one.0 two.0 one.1.0 two.1.0 (one.1.1 ∙ same ∙ sym two.1.1)
    | inr two ↦ absurd (two.1 p (one.0, (one.1.0, one.1.1 ∙ same)))
  ]
  | inr one ↦ elim (stood passes hit old q b from_b) [
    | inl two ↦ absurd (one.1 q (two.0, (two.1.0, two.1.1 ∙ sym same)))
    | inr two ↦ one.0 ∙ sym two.0
  ]
]

pub met_later : (passes hit : Cell → Bool) (start : Cell) (old new : List Node) → AreMet passes hit start old
    → AreLater old new
    → ((number : ℕ) (b : Node) → slice_get new number ≡ Some b → IsFrom passes hit old number b)
    → AreMet passes hit start new
met_later passes hit start old new met later from =
    let first = met.first in
    let next = later.each 0 first.0 first.1.0 in
    let lower = next.1.1.cheap in let none = first.1.1.1 in
    record {
      first = (next.0, (next.1.0, (next.1.1.same ∙ first.1.1.0, omega (arith, lower, none))));
      once = λ p q a b in_p in_q same. once_from passes hit start old p q a b met (from p a in_p) (from q b in_q) same;
      reached = λ number b found. elim (from number b found) [
        | inl before ↦ reached_as passes hit start before.0 b before.1.1.0 before.1.1.1.0
            (met.reached number before.0 before.1.0)
        | inr new ↦ reached_by passes hit start old b met new.0
      ];
      parents = λ number b found some. elim (from number b found) [
        | inl before ↦ parent_later passes hit old new b later
            (parent_as passes hit old before.0 b before.1.1.0 before.1.1.1.0 before.1.1.1.1
            (met.parents number before.0 before.1.0 some))
        | inr fresh ↦ parent_later passes hit old new b later fresh.0
      ];
    }

pub along_later : (all : Bool) (passes hit : Cell → Bool) (start : Cell) (old new : List Node) (from : JumpState) (cost : ℕ) (dir : Dir)
    → AreLater old new
    → IsFollowedAlong all passes hit start old from cost dir → IsFollowedAlong all passes hit start new from cost dir
along_later all passes hit start old new from cost dir later along = λ state run jump arrived last.
    noted_later all passes hit start old new state (cost + octile_between from.cell state.cell) run later
    (along state run jump arrived last)

pub open_later : (old new : List Node) (state : JumpState) (cost : ℕ) → AreLater old new → IsOpenNode old state cost
    → IsOpenNode new state cost
open_later old new state cost later has =
    let next = later.each has.number has.node has.known in
    let still = next.1.1.opened has.opened in
    record {
      number = has.number;
      node = next.0;
      known = next.1.0;
      opened = still.0;
      same = next.1.1.same
          ∙ has.same;
      costs = still.1 ∙ has.costs;
    }

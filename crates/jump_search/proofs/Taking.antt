-- Opening the node of an entry that was taken from the open list.
use Rattle.std.proofs.Common.{ℕ, ◌≡◌, ◌≢◌, ◌+◌, ◌*◌, ◌<◌, ◌≤◌, ◌⊎◌, Bool, true, false, IsTrue, IsFalse, List, []}
use Rattle.std.proofs.Common.{◌∷◌, set, Option, Some, None, IfSome, inl, inr, refl, ap, sym, subst, ◌∙◌, arith}
use Rattle.std.specs.List.{slice_get}
use Rattle.std.specs.Option.{IsSome}
use Rattle.std.specs.FinMap as map
use Rattle.std.proofs.lemmas.Bool.{cases_Bool, cases_eq, both_ways}
use Rattle.std.proofs.lemmas.List.{length-set}
use Rattle.std.proofs.lemmas.Option.{slice_get_within}
use Rattle.nav_types.specs.declared.cells.Cell.{Cell}
use Rattle.nav_types.specs.Cells.{IsNotAfter}
use Rattle.nav_types.proofs.CellOrder.{IsNotAfter-trans}
use Rattle.open_heap.specs.declared.entries.Entry.{Entry}
use Rattle.open_heap.specs.Queue.{Queue, IsLeast}
use Rattle.jump_search.specs.declared.nodes.Node.{Node}
use Rattle.jump_search.specs.declared.searching.Best.{Best}
use Rattle.jump_search.specs.declared.states.JumpState.{JumpState}
use Rattle.jump_search.specs.Estimates.{IsConsistent}
use Rattle.jump_search.specs.JumpStates.{octile_between, IsJump, AreJumps}
use Rattle.jump_search.specs.inner.Numbered.{HasCheaper}
use Rattle.jump_search.specs.inner.Searched.{IsLastRun, HasOpenedParent, IsDearer, AreMet, IsFollowedFrom, IsRelaxed, IsNoted}
use Rattle.jump_search.specs.inner.Searched.{IsKeptRun}
use Rattle.jump_search.specs.inner.Underway.{estimate_of, opened_count, IsQueued, IsGoing, AreLater, IsOpenNode}
use Rattle.jump_search.specs.inner.Underway.{IsFollowable, Follows, IsBestHit, NoneHit, IsBestSoFar, IsUnderway, IsNotPast}
use Rattle.jump_search.specs.inner.Underway.{IsAsGood, IsBetter, IsTaken}
use Rattle.jump_search.proofs.Listing.{get_set_same, get_set_other, get_set_cases, one_item}
use Rattle.jump_search.proofs.Queueing.{removed_here, removed_apart}
use Rattle.jump_search.proofs.Lasting.{noted_later, parent_as, reached_as}
use Rattle.jump_search.proofs.Landing.{stop_free}
use Rattle.jump_search.proofs.Relaxing.{unopened_none, opened_one, count_set, count_most}

-- the node of the entry, which waited
pub record IsNext (ahead : Cell → ℕ) (floor : ℕ) (nodes : List Node) (entry : Entry) (node : Node) : Type 0 where
  pub known : slice_get nodes entry.key ≡ Some node
  pub unopened : IsFalse node.opened
  pub estimate : entry.estimate ≡ estimate_of ahead node
  pub early : floor ≤ entry.estimate

pub next_node : (all : Bool) (passes hit : Cell → Bool) (start : Cell) (ahead : Cell → ℕ) (floor : ℕ) (nodes : List Node)
    (queue : Queue)
    (best : Option Best) (entry : Entry) → IsTaken all passes hit start ahead floor nodes queue best entry
    → (node : Node) × IsNext ahead floor nodes entry node
next_node all passes hit start ahead floor nodes queue best entry taken =
    let has = taken.underway.queued.waits entry.key entry.estimate taken.least.present in
    (has.0, record { known = has.1.0; unopened = has.1.1.0; estimate = has.1.1.1.0; early = has.1.1.1.1 })

-- what waits after the entry was taken comes no sooner
later_estimate : (before : Queue) (entry : Entry) (number : ℕ) (value : ℕ) → IsLeast before entry
    → map.get before number ≡ Some value
    → entry.estimate ≤ value
later_estimate before entry number value least found = least.first number value found

-- the node is opened

abbrev pub opened_node : Node → Node
opened_node node = record { state = node.state; cost = node.cost; run = node.run; opened = true }

-- parents stay where a node is opened
parent_opened : (passes hit : Cell → Bool) (nodes : List Node) (number : ℕ) (a x : Node)
    → slice_get nodes number ≡ Some a → IsFalse a.opened
    → HasOpenedParent passes hit nodes x → HasOpenedParent passes hit (set nodes number (opened_node a)) x
parent_opened passes hit nodes number a x found not has =
    let apart : has.place ≢ number = λ same.
    let is = one_item nodes number has.parent a (subst (λ (n : ℕ). slice_get nodes n ≡ Some has.parent) same has.known)
    found in
    both_ways a.opened not (subst (λ (n : Node). IsTrue n.opened) is has.opened) in
    record {
      place = has.place;
      parent = has.parent;
      known = get_set_other nodes number has.place (opened_node a) has.parent apart has.known;
      opened = has.opened;
      jump = has.jump;
      cost = has.cost;
      last = has.last;
    }

-- a node of the list in which one is opened, as it was
was_before : (nodes : List Node) (number place : ℕ) (a x : Node) → slice_get nodes number ≡ Some a
    → slice_get (set nodes number (opened_node a)) place ≡ Some x
    → (y : Node) × ((slice_get nodes place ≡ Some y) × ((x.state ≡ y.state) × ((x.cost ≡ y.cost) × (x.run ≡ y.run))))
was_before nodes number place a x found at = elim (get_set_cases nodes number place (opened_node a) x at) [
  | inl here ↦ (
    a,
    (
      subst (λ (n : ℕ). slice_get nodes n ≡ Some a) (sym here.0) found,
      (
        sym (ap (λ (n : Node). n.state) here.1),
        (
          sym (ap (λ (n : Node). n.cost) here.1),
          sym
              (ap (λ (n : Node). n.run) here.1),
        ),
      ),
    ),
  )
  | inr apart ↦ (x, (apart.1, (refl, (refl, refl))))
]

-- where a node stands after one is opened
is_after : (nodes : List Node) (number place : ℕ) (a y : Node) → slice_get nodes number ≡ Some a
    → slice_get nodes place ≡ Some y
    → (x : Node) × ((slice_get (set nodes number (opened_node a)) place ≡ Some x)
    × ((x.state ≡ y.state) × ((x.cost ≡ y.cost) × (x.run ≡ y.run))))
is_after nodes number place a y found at = elim (cases_eq place number) [
  | inl here ↦
      let low = slice_get_within nodes number a found in
      let is = one_item nodes number a y found (subst (λ (n : ℕ). slice_get nodes n ≡ Some y) here at) in (
        opened_node a,
        (
          subst (λ (n : ℕ). slice_get (set nodes number (opened_node a)) n ≡ Some (opened_node a)) (sym here)
              (get_set_same nodes number (opened_node a) low),
          (ap (λ (n : Node). n.state) is, (ap (λ (n : Node). n.cost) is, ap (λ (n : Node). n.run) is)),
        ),
      )
  | inr apart ↦ (y, (get_set_other nodes number place (opened_node a) y apart at, (refl, (refl, refl))))
]

met_opened : (passes hit : Cell → Bool) (start : Cell) (nodes : List Node) (number : ℕ) (a : Node)
    → slice_get nodes number ≡ Some a → IsFalse a.opened
    → AreMet passes hit start nodes → AreMet passes hit start (set nodes number (opened_node a))
met_opened passes hit start nodes number a found not met =
    let first = met.first in
    let after = is_after nodes number 0 a first.0 found first.1.0 in
    record {
      first = (after.0, (after.1.0, (after.1.1.0 ∙ first.1.1.0, after.1.1.1.0 ∙ first.1.1.1)));
      once = λ p q x y in_p in_q same.
          let was_p = was_before nodes number p a x found in_p in
          let was_q = was_before nodes number q a y found in_q in
          met.once p q was_p.0 was_q.0 was_p.1.0 was_q.1.0 (sym was_p.1.1.0 ∙ same ∙ was_q.1.1.0);
      reached = λ place x at.
          let was = was_before nodes number place a x found at in
          let way = met.reached place was.0 was.1.0 in
          reached_as passes hit start was.0 x was.1.1.0 was.1.1.1.0 way;
      parents = λ place x at some.
          let was = was_before nodes number place a x found at in
          parent_as passes hit (set nodes number (opened_node a)) was.0 x was.1.1.0 was.1.1.1.0 was.1.1.1.1
          (parent_opened passes hit nodes number a was.0 found not (met.parents place was.0 was.1.0 some));
    }

cheaper_opened : (nodes : List Node) (number : ℕ) (a : Node) (cell : Cell) (cost : ℕ) → slice_get nodes number ≡ Some a
    → HasCheaper nodes cell cost → HasCheaper (set nodes number (opened_node a)) cell cost
cheaper_opened nodes number a cell cost found cheaper =
    let after = is_after nodes number cheaper.0 a cheaper.1.0 found cheaper.1.1.0 in
    let costs = after.1.1.1.0 in let less = cheaper.1.1.1.1 in (
      cheaper.0,
      (
        after.0,
        (
          after.1.0,
          (ap (λ (s : JumpState). s.cell) after.1.1.0 ∙ cheaper.1.1.1.0, omega (arith, costs, less)),
        ),
      ),
    )

dearer_opened : (nodes : List Node) (number : ℕ) (a x y : Node) → slice_get nodes number ≡ Some a → x.state ≡ y.state
    → x.cost ≡ y.cost
    → IsDearer nodes y → IsDearer (set nodes number (opened_node a)) x
dearer_opened nodes number a x y found same cost dearer =
    let new = set nodes number (opened_node a) in
    subst (λ (n : ℕ). HasCheaper new x.state.cell n) (sym cost)
    (subst (λ (s : JumpState). HasCheaper new s.cell y.cost) (sym same)
    (cheaper_opened nodes number a y.state.cell y.cost found dearer))

relaxed_opened : (nodes : List Node) (number : ℕ) (a : Node) (state : JumpState) (cost run : ℕ)
    → slice_get nodes number ≡ Some a
    → IsRelaxed nodes state cost run → IsRelaxed (set nodes number (opened_node a)) state cost run
relaxed_opened nodes number a state cost run found relaxed =
    let after = is_after nodes number relaxed.place a relaxed.node found relaxed.known in
    let costs = after.1.1.1.0 in let cheap = relaxed.cheap in
    record {
      place = relaxed.place;
      node = after.0;
      known = after.1.0;
      same = after.1.1.0 ∙ relaxed.same;
      cheap = omega (arith, costs, cheap);
      kept = λ e. subst (λ (n : ℕ). IsKeptRun state.arrived n run) (sym after.1.1.1.1) (relaxed.kept (sym costs ∙ e));
    }

noted_opened : (all : Bool) (passes hit : Cell → Bool) (start : Cell) (nodes : List Node) (number : ℕ) (a : Node) (state : JumpState) (cost run : ℕ)
    → slice_get nodes number ≡ Some a
    → IsNoted all passes hit start nodes state cost run → IsNoted all passes hit start (set nodes number (opened_node a)) state cost run
noted_opened all passes hit start nodes number a state cost run found noted = elim noted [
  | inl relaxed ↦ inl (relaxed_opened nodes number a state cost run found relaxed)
  | inr other ↦ elim other [
    | inl left ↦ inr (inl (left.0, cheaper_opened nodes number a state.cell cost found left.1))
    | inr nearer ↦ inr (inr nearer)
  ]
]

queued_opened : (all : Bool) (ahead : Cell → ℕ) (floor : ℕ) (nodes : List Node) (before : Queue) (entry : Entry) (a : Node)
    → IsQueued all ahead floor nodes before → IsLeast before entry → IsNext ahead floor nodes entry a
    → IsQueued all ahead entry.estimate (set nodes entry.key (opened_node a)) (map.remove before entry.key)
queued_opened all ahead floor nodes before entry a queued least next =
    let rest = map.remove before entry.key in
    let found = next.known in let estimate = next.estimate in let early = next.early in
    let new = set nodes entry.key (opened_node a) in
    record {
      waits = λ number value has. elim (cases_eq number entry.key) [
        | inl here ↦
            let none : map.get rest number ≡ None = subst (λ (n : ℕ). map.get rest n ≡ None) (sym here)
            (removed_here before entry.key) in
            let bad : None ≡ Some value = sym none ∙ has in
            absurd (cc)
        | inr apart ↦
            let was = sym (removed_apart before entry.key number apart) ∙ has in
            let old = queued.waits number value was in (
              old.0,
              (
                get_set_other nodes entry.key number (opened_node a) old.0 apart old.1.0,
                (old.1.1.0, (old.1.1.1.0, later_estimate before entry number value least was)),
              ),
            )
      ];
      others = λ number x at none. elim (get_set_cases nodes entry.key number (opened_node a) x at) [
        | inl here ↦ subst (λ (n : Node). IsTrue n.opened ⊎ (IsFalse all × IsDearer new n)) here.1 (inl refl)
        | inr apart ↦
            let was = queued.others number x apart.1 (sym (removed_apart before entry.key number apart.0) ∙ none) in
            elim was [
              | inl opened ↦ inl opened
              | inr left ↦ inr (left.0, dearer_opened nodes entry.key a x x found refl refl left.1)
            ]
      ];
      within = λ number x at opened. elim (get_set_cases nodes entry.key number (opened_node a) x at) [
        | inl here ↦
            let low : estimate_of ahead (opened_node a) ≤ entry.estimate = omega (arith, estimate) in
            subst (λ (n : Node). estimate_of ahead n ≤ entry.estimate) here.1 low
        | inr apart ↦ let low = queued.within number x apart.1 opened in omega (arith, low, early)
      ];
    }

-- a search whose node was opened, ready to follow its jumps
pub record IsReady (all : Bool) (passes hit : Cell → Bool) (start : Cell) (ahead : Cell → ℕ) (floor most : ℕ)
    (state : JumpState) (cost : ℕ)
    (nodes : List Node) (queue : Queue) : Type 0 where
  pub going : IsGoing all passes hit start ahead floor most nodes queue
  pub opened : IsOpenNode nodes state cost
  pub estimate : floor ≡ cost + ahead state.cell
  pub room : cost + 189812736 ≤ most
  pub low : most < 4611686018427387904

pub ready_opened : (all : Bool) (passes hit : Cell → Bool) (start : Cell) (ahead : Cell → ℕ) (floor : ℕ) (nodes : List Node)
    (queue : Queue)
    (best : Option Best) (entry : Entry) (a : Node) → IsTaken all passes hit start ahead floor nodes queue best entry
    → slice_get nodes entry.key ≡ Some a
    → IsReady all passes hit start ahead entry.estimate (189812736 * (opened_count nodes + 1)) a.state
    a.cost (set nodes entry.key (opened_node a)) queue
ready_opened all passes hit start ahead floor nodes queue best entry a taken found =
    let has = next_node all passes hit start ahead floor nodes queue best entry taken in
    let is = one_item nodes entry.key has.0 a has.1.known found in
    let next = subst (λ (n : Node). IsNext ahead floor nodes entry n) is has.1 in
    let before = taken.before in
    let low = slice_get_within nodes entry.key a found in
    let new = set nodes entry.key (opened_node a) in
    let few = taken.underway.few in
    let counted = count_most nodes in
    let here = taken.underway.costs entry.key a found in
    record {
      going = record {
        met = met_opened passes hit start nodes entry.key a found next.unopened taken.underway.met;
        queued = subst (λ (m : Queue). IsQueued all ahead entry.estimate new m) (sym taken.rest)
            (queued_opened all ahead floor nodes before entry a taken.underway.queued taken.least next);
        costs = λ number x at.
            let was = was_before nodes entry.key number a x found at in
            let most = taken.underway.costs number was.0 was.1.0 in
            let same = was.1.1.1.0 in
            omega (arith, most, same);
        few = omega (arith, few, length-set nodes entry.key (opened_node a));
      };
      opened = record {
        number = entry.key;
        node = opened_node a;
        known =
            get_set_same nodes entry.key (opened_node a) low;
        opened = refl;
        same = refl;
        costs = refl;
      };
      estimate = next.estimate;
      room = omega (arith, here);
      low = omega (arith, few, counted);
    }

-- the search can follow the jumps of the node that was opened
pub followable_opened : (all : Bool) (passes hit : Cell → Bool) (start : Cell) (ahead : Cell → ℕ) (floor : ℕ)
    (nodes : List Node) (queue : Queue)
    (best : Option Best) (entry : Entry) (a : Node) → IsTaken all passes hit start ahead floor nodes queue best entry
    → IsConsistent passes hit ahead → slice_get nodes entry.key ≡ Some a → IsFollowable all passes hit ahead a.state a.cost
    (set nodes entry.key (opened_node a)) queue
followable_opened all passes hit start ahead floor nodes queue best entry a taken consistent found =
    let ready = ready_opened all passes hit start ahead floor nodes queue best entry a taken found in
    let estimate = ready.estimate in
    record {
      start = start;
      floor = entry.estimate;
      most = 189812736 * (opened_count nodes + 1);
      going = ready.going;
      opened = ready.opened;
      early = omega (arith, estimate);
      consistent = consistent;
      room = ready.room;
      low = ready.low;
    }

-- as many are opened as before, and one
pub count_opened : (nodes new : List Node) (number : ℕ) (a : Node) → slice_get nodes number ≡ Some a → IsFalse a.opened
    → opened_count new ≡ opened_count (set nodes number (opened_node a)) → opened_count new ≡ opened_count nodes + 1
count_opened nodes new number a found not same =
    let sums = count_set nodes number a (opened_node a) found in
    let none = unopened_none a not in
    let one = opened_one (opened_node a) refl in
    omega (arith, same, sums, none, one)

jumps_free : (passes hit : Cell → Bool) (start : Cell) (before : List JumpState) (state : JumpState)
    → IsTrue (passes start)
    → AreJumps passes hit start before state → IsTrue (passes state.cell)
jumps_free passes hit start [] state free is = subst (λ (s : JumpState). IsTrue (passes s.cell)) (sym is) free
jumps_free passes hit start (last ∷ rest) state free jumps =
    let jump = jumps.0 in
    stop_free passes hit jump.dir last.cell state.cell (jumps_free passes hit start rest last free jumps.1) jump.stop

-- the cells of nodes are passable
pub node_free : (passes hit : Cell → Bool) (start : Cell) (nodes : List Node) (number : ℕ) (node : Node)
    → IsTrue (passes start)
    → AreMet passes hit start nodes → slice_get nodes number ≡ Some node → IsTrue (passes node.state.cell)
node_free passes hit start nodes number node free met found =
    let way = met.reached number node found in
    jumps_free passes hit start way.0 node.state free way.1.0

-- the nodes after the jumps of the opened node were followed, by the nodes before
pub record Regards (nodes new : List Node) (key : ℕ) (a : Node) : Type 0 where
  pub back : (number : ℕ) (x : Node) → slice_get new number ≡ Some x → IsTrue x.opened
      → ((x.state ≡ a.state) × (x.cost ≡ a.cost))
      ⊎ ((y : Node) × ((slice_get nodes number ≡ Some y)
      × (IsTrue y.opened × ((x.state ≡ y.state) × (x.cost ≡ y.cost)))))
  pub here : (x : Node) × ((slice_get new key ≡ Some x) × (IsTrue x.opened × ((x.state ≡ a.state) × (x.cost ≡ a.cost))))
  pub others : (number : ℕ) (y : Node) → slice_get nodes number ≡ Some y → IsTrue y.opened
      → (x : Node) × ((slice_get new number ≡ Some x) × (IsTrue x.opened × ((x.state ≡ y.state) × (x.cost ≡ y.cost))))

regards : (nodes new : List Node) (key : ℕ) (a : Node) → slice_get nodes key ≡ Some a → IsFalse a.opened
    → AreLater (set nodes key (opened_node a)) new → Regards nodes new key a
regards nodes new key a found not later =
    let mid = set nodes key (opened_node a) in
    let low = slice_get_within nodes key a found in
    record {
      back = λ number x at opened.
          let was = later.back number x at opened in
          let still = was.1.1.1.opened was.1.1.0 in
          elim (get_set_cases nodes key number (opened_node a) was.0 was.1.0) [
            | inl is ↦ inl (
              was.1.1.1.same ∙ sym (ap (λ (n : Node). n.state) is.1),
              still.1
                  ∙ sym (ap (λ (n : Node). n.cost) is.1),
            )
            | inr apart ↦ inr (was.0, (apart.1, (was.1.1.0, (was.1.1.1.same, still.1))))
          ];
      here =
          let next = later.each key (opened_node a) (get_set_same nodes key (opened_node a) low) in
          let still = next.1.1.opened refl in
          (next.0, (next.1.0, (still.0, (next.1.1.same, still.1))));
      others = λ number y at opened.
          let apart : number ≢ key = λ same.
          let is = one_item nodes key y a (subst (λ (n : ℕ). slice_get nodes n ≡ Some y) same at) found in
          both_ways a.opened not (subst (λ (n : Node). IsTrue n.opened) is opened) in
          let next = later.each number y (get_set_other nodes key number (opened_node a) y apart at) in
          let still = next.1.1.opened opened in
          (next.0, (next.1.0, (still.0, (next.1.1.same, still.1))));
    }

followed_opened : (all : Bool) (passes hit : Cell → Bool) (start : Cell) (ahead : Cell → ℕ) (nodes new : List Node) (key : ℕ) (a : Node)
    (before after : Queue)
    → slice_get nodes key ≡ Some a → Follows all passes hit start ahead a.state a.cost (λ other. Unit {0})
    (set nodes key (opened_node a)) new before after
    → ((number : ℕ) (y : Node) → slice_get nodes number ≡ Some y → IsTrue y.opened → IsFollowedFrom all passes hit start nodes y)
    → (number : ℕ) (x : Node)
    → ((x.state ≡ a.state) × (x.cost ≡ a.cost))
    ⊎ ((y : Node) × ((slice_get nodes number ≡ Some y) × (IsTrue y.opened × ((x.state ≡ y.state) × (x.cost ≡ y.cost)))))
    → IsFollowedFrom all passes hit start new x
followed_opened all passes hit start ahead nodes new key a before after found follows followed number x regard =
    λ state run jump last.
    elim regard [
      | inl is ↦
          let jump_a = subst (λ (s : JumpState). IsJump passes hit s state) is.0 jump in
          let last_a = subst (λ (s : JumpState). IsLastRun passes s.cell state run) is.0 last in
          let noted = follows.along jump_a.dir tt state run jump_a jump_a.arrived last_a in
          subst (λ (n : ℕ). IsNoted all passes hit start new state (n + octile_between x.state.cell state.cell) run) (sym is.1)
          (subst (λ (s : JumpState). IsNoted all passes hit start new state (a.cost + octile_between s.cell state.cell) run) (sym is.0)
          noted)
      | inr old ↦
          let y = old.0 in
          let same = old.1.1.1.0 in let costs = old.1.1.1.1 in
          let jump_y = subst (λ (s : JumpState). IsJump passes hit s state) same jump in
          let last_y = subst (λ (s : JumpState). IsLastRun passes s.cell state run) same last in
          let cost = y.cost + octile_between y.state.cell state.cell in
          let one = followed number y old.1.0 old.1.1.0 state run jump_y last_y in
          let two = noted_opened all passes hit start nodes key a state cost run found one in
          let three = noted_later all passes hit start (set nodes key (opened_node a)) new state cost run follows.later two in
          subst (λ (n : ℕ). IsNoted all passes hit start new state (n + octile_between x.state.cell state.cell) run) (sym costs)
          (subst (λ (s : JumpState). IsNoted all passes hit start new state (y.cost + octile_between s.cell state.cell) run) (sym same)
          three)
    ]

-- the hits

not_after_self : (a : Cell) → IsNotAfter a a
not_after_self a = inr (refl, omega arith)

hit_as : (hit : Cell → Bool) (x y : Node) → x.state ≡ y.state → IsTrue (hit x.state.cell) → IsTrue (hit y.state.cell)
hit_as hit x y same is = subst (λ (s : JumpState). IsTrue (hit s.cell)) same is

best_missed : (hit : Cell → Bool) (nodes new : List Node) (key : ℕ) (a : Node) (floor higher : ℕ) (best : Option Best)
    → Regards nodes new key a → IsFalse (hit a.state.cell) → IsNotPast best higher → IsBestSoFar hit nodes floor best
    → IsBestSoFar hit new higher best
best_missed hit nodes new key a floor higher None regard missed near none =
    λ number x at opened is. elim (regard.back number x at opened) [
      | inl this ↦ both_ways (hit a.state.cell) missed (hit_as hit x a this.0 is)
      | inr old ↦ none number old.0 old.1.0 old.1.1.0 (hit_as hit x old.0 old.1.1.1.0 is)
    ]
best_missed hit nodes new key a floor higher (Some best) regard missed near kept =
    let was = kept.0 in
    let ends = was.ends in
    let there = regard.others ends.0 ends.1.0 ends.1.1.0 ends.1.1.1.0 in (
      record {
        ends = (
          ends.0,
          (
            there.0,
            (
              there.1.0,
              (
                there.1.1.0,
                (
                  ap (λ (s : JumpState). s.cell) there.1.1.1.0 ∙ ends.1.1.1.1.0,
                  (there.1.1.1.1 ∙ ends.1.1.1.1.1.0, ends.1.1.1.1.1.1),
                ),
              ),
            ),
          ),
        );
        nearest = λ number x at opened is. elim (regard.back number x at opened) [
          | inl this ↦ absurd (both_ways (hit a.state.cell) missed (hit_as hit x a this.0 is))
          | inr old ↦
              let low = was.nearest number old.0 old.1.0 old.1.1.0 (hit_as hit x old.0 old.1.1.1.0 is) in
              let costs = old.1.1.1.1 in
              omega (arith, low, costs)
        ];
        earliest = λ number x at opened is equal. elim (regard.back number x at opened) [
          | inl this ↦ absurd (both_ways (hit a.state.cell) missed (hit_as hit x a this.0 is))
          | inr old ↦ subst (λ (s : JumpState). IsNotAfter best.cell s.cell) (sym old.1.1.1.0)
              (was.earliest number old.0 old.1.0 old.1.1.0 (hit_as hit x old.0 old.1.1.1.0 is)
              (sym old.1.1.1.1 ∙ equal))
        ];
      },
      near,
    )

best_first : (hit : Cell → Bool) (nodes new : List Node) (key : ℕ) (a : Node) (higher : ℕ) (result : Best)
    → Regards nodes new key a → IsTrue (hit a.state.cell) → higher ≡ a.cost
    → result ≡ record { cell = a.state.cell; cost = a.cost }
    → NoneHit hit nodes → IsBestHit hit new result × (higher ≤ result.cost)
best_first hit nodes new key a higher result regard is_hit floor is none =
    let cell : result.cell ≡ a.state.cell = ap (λ (b : Best). b.cell) is in
    let cost : result.cost ≡ a.cost = ap (λ (b : Best). b.cost) is in
    let here = regard.here in (
      record {
        ends = (
          key,
          (
            here.0,
            (
              here.1.0,
              (
                here.1.1.0,
                (
                  ap (λ (s : JumpState). s.cell) here.1.1.1.0 ∙ sym cell,
                  (here.1.1.1.1 ∙ sym cost, subst (λ (c : Cell). IsTrue (hit c)) (sym cell) is_hit),
                ),
              ),
            ),
          ),
        );
        nearest = λ number x at opened hit_x. elim (regard.back number x at opened) [
          | inl this ↦ let costs = this.1 in omega (arith, cost, costs)
          | inr old ↦ absurd (none number old.0 old.1.0 old.1.1.0 (hit_as hit x old.0 old.1.1.1.0 hit_x))
        ];
        earliest = λ number x at opened hit_x equal. elim (regard.back number x at opened) [
          | inl this ↦ subst (λ (c : Cell). IsNotAfter c x.state.cell)
              (ap (λ (s : JumpState). s.cell) this.0 ∙ sym cell) (not_after_self x.state.cell)
          | inr old ↦ absurd (none number old.0 old.1.0 old.1.1.0 (hit_as hit x old.0 old.1.1.1.0 hit_x))
        ];
      },
      omega (arith, floor, cost),
    )

good_cost : (a b : Best) → IsAsGood a b → a.cost ≤ b.cost
good_cost a b good = elim good [ inl less ↦ omega (arith, less) | inr same ↦ let e = same.0 in omega (arith, e) ]

good_cell : (a b : Best) → IsAsGood a b → a.cost ≡ b.cost → IsNotAfter a.cell b.cell
good_cell a b good same = elim good [ inl less ↦ absurd (omega (arith, less, same)) | inr is ↦ is.1 ]

best_better : (hit : Cell → Bool) (nodes new : List Node) (key : ℕ) (a : Node) (floor higher : ℕ) (best result : Best)
    → Regards nodes new key a → IsTrue (hit a.state.cell) → higher ≡ a.cost → higher ≤ best.cost
    → IsBetter (Some best) (record { cell = a.state.cell; cost = a.cost }) result
    → IsBestHit hit nodes best × (floor ≤ best.cost) → IsBestHit hit new result × (higher ≤ result.cost)
best_better hit nodes new key a floor higher best result regard is_hit level near better kept =
    let this : Best = record { cell = a.state.cell; cost = a.cost } in
    let was = kept.0 in
    let to_best = good_cost result best better.0 in
    let to_this = good_cost result this better.1.0 in
    let here = regard.here in
    let ends = was.ends in
    let there = regard.others ends.0 ends.1.0 ends.1.1.0 ends.1.1.1.0 in
    let Ends = λ (b : Best). (number : ℕ) × ((node : Node) × ((slice_get new number ≡ Some node) × (IsTrue node.opened
    × ((node.state.cell ≡ b.cell) × ((node.cost ≡ b.cost) × IsTrue (hit b.cell)))))) in
    let old_ends : Ends best = (
      ends.0,
      (
        there.0,
        (
          there.1.0,
          (
            there.1.1.0,
            (
              ap (λ (s : JumpState). s.cell) there.1.1.1.0 ∙ ends.1.1.1.1.0,
              (there.1.1.1.1 ∙ ends.1.1.1.1.1.0, ends.1.1.1.1.1.1),
            ),
          ),
        ),
      ),
    ) in
    let new_ends : Ends this = (
      key,
      (
        here.0,
        (here.1.0, (here.1.1.0, (ap (λ (s : JumpState). s.cell) here.1.1.1.0, (here.1.1.1.1, is_hit)))),
      ),
    ) in (
      record {
        ends = elim better.1.1 [ inl e ↦ subst Ends (sym e) old_ends | inr e ↦ subst Ends (sym e) new_ends ];
        nearest = λ number x at opened hit_x. elim (regard.back number x at opened) [
          | inl same ↦ let costs = same.1 in omega (arith, to_this, costs)
          | inr old ↦
              let low = was.nearest number old.0 old.1.0 old.1.1.0 (hit_as hit x old.0 old.1.1.1.0 hit_x) in
              let costs = old.1.1.1.1 in
              omega (arith, low, costs, to_best)
        ];
        earliest = λ number x at opened hit_x equal. elim (regard.back number x at opened) [
          | inl same ↦ subst (λ (s : JumpState). IsNotAfter result.cell s.cell) (sym same.0)
              (good_cell result this better.1.0 (sym equal ∙ same.1))
          | inr old ↦
              let hit_y = hit_as hit x old.0 old.1.1.1.0 hit_x in
              let low = was.nearest number old.0 old.1.0 old.1.1.0 hit_y in
              let costs = old.1.1.1.1 in
              let level_best : result.cost ≡ best.cost = omega (arith, low, costs, equal, to_best) in
              let before = good_cell result best better.0 level_best in
              let after = was.earliest number old.0 old.1.0 old.1.1.0 hit_y (sym costs ∙ equal ∙ level_best) in
              subst (λ (s : JumpState). IsNotAfter result.cell s.cell) (sym old.1.1.1.0)
              (IsNotAfter-trans result.cell best.cell old.0.state.cell before after)
        ];
      },
      elim better.1.1 [
        | inl e ↦ let same : result.cost ≡ best.cost = ap (λ (b : Best). b.cost) e in omega (arith, near, same)
        | inr e ↦ let same : result.cost ≡ a.cost = ap (λ (b : Best). b.cost) e in omega (arith, level, same)
      ],
    )

best_hit : (hit : Cell → Bool) (nodes new : List Node) (key : ℕ) (a : Node) (floor higher : ℕ)
    (best result : Option Best)
    → Regards nodes new key a → IsTrue (hit a.state.cell) → higher ≡ a.cost → IsNotPast best higher
    → IfSome result (λ r. IsBetter best (record { cell = a.state.cell; cost = a.cost }) r) → IsSome result
    → IsBestSoFar hit nodes floor best → IsBestSoFar hit new higher result
best_hit hit nodes new key a floor higher best None regard is_hit level near better some kept =
    absurd (both_ways false refl some)
best_hit hit nodes new key a floor higher None (Some r) regard is_hit level near better some kept =
    best_first hit nodes new key a higher r regard is_hit level better kept
best_hit hit nodes new key a floor higher (Some b) (Some r) regard is_hit level near better some kept =
    best_better hit nodes new key a floor higher b r regard is_hit level near better kept

-- the node was opened and its jumps were followed
pub opened_underway : (all : Bool) (passes hit : Cell → Bool) (start : Cell) (ahead : Cell → ℕ) (floor : ℕ)
    (nodes new : List Node) (queue after : Queue)
    (best result : Option Best) (entry : Entry) (a : Node)
    → IsTaken all passes hit start ahead floor nodes queue best entry
    → slice_get nodes entry.key ≡ Some a → (IsTrue (hit a.state.cell) → ahead a.state.cell ≡ 0)
    → Follows all passes hit start ahead a.state a.cost (λ other. Unit {0}) (set nodes entry.key (opened_node a)) new queue after
    → (IsTrue (hit a.state.cell) → IfSome result (λ r. IsBetter best (record { cell = a.state.cell; cost = a.cost }) r)
    × IsSome result)
    → (IsFalse (hit a.state.cell) → result ≡ best)
    → IsUnderway all passes hit start ahead entry.estimate new after result
opened_underway all passes hit start ahead floor nodes new queue after best result entry a taken found framed follows
    better missed =
    let has = next_node all passes hit start ahead floor nodes queue best entry taken in
    let is = one_item nodes entry.key has.0 a has.1.known found in
    let next = subst (λ (n : Node). IsNext ahead floor nodes entry n) is has.1 in
    let ready = ready_opened all passes hit start ahead floor nodes queue best entry a taken found in
    let higher = entry.estimate in
    let most = 189812736 * (opened_count nodes + 1) in
    let estimate = ready.estimate in
    let going = follows.going start higher most ready.going ready.opened (omega (arith, estimate)) ready.room in
    let regard = regards nodes new entry.key a found next.unopened follows.later in
    let counted = count_opened nodes new entry.key a found next.unopened follows.later.opened in
    record {
      met = going.met;
      queued = going.queued;
      followed = λ number x at opened. followed_opened all passes hit start ahead nodes new entry.key a queue after found follows
          taken.underway.followed number x
          (regard.back number x at opened);
      hits = elim (cases_Bool (hit a.state.cell)) [
        | inl is_hit ↦
            let none = framed is_hit in
            let both = better is_hit in
            best_hit hit nodes new entry.key a floor higher best result regard is_hit (omega (arith, estimate, none))
            taken.near both.0 both.1 taken.underway.hits
        | inr not ↦ subst (λ (b : Option Best). IsBestSoFar hit new higher b) (sym (missed not))
            (best_missed hit nodes new entry.key a floor higher best regard not taken.near taken.underway.hits)
      ];
      costs = λ number x at.
          let low = going.costs number x at in
          omega (arith, low, counted);
      few = going.few;
    }

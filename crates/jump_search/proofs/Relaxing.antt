-- Noting a jump: its state's node is added, gets a cost that is less, or keeps the better of two last runs.
use Rattle.std.proofs.Common.{ℕ, ◌≡◌, ◌+◌, ◌<◌, ◌≤◌, ◌⊎◌, Bool, true, false, cond, IsTrue, IsFalse, List, [], ◌∷◌, ◌++◌, length, set}
use Rattle.std.proofs.Common.{Option, Some, None, IfSome, inl, inr, refl, ap, sym, subst, ◌∙◌, arith}
use Rattle.std.specs.List.{slice_get}
use Rattle.std.specs.FinMap as map
use Rattle.std.proofs.lemmas.Bool.{cases_Bool, cases_eq, both_ways}
use Rattle.std.proofs.lemmas.List.{length-set}
use Rattle.std.proofs.lemmas.List.Sums.{sum_by-append, sum_by-cons, sum_by-set, count_by-le-length}
use Rattle.std.proofs.lemmas.Option.{same_Some, slice_get_within, get_or_from_slice_get, none-some}
use Rattle.nav_types.proofs.Items.{slice_get-append_left, slice_get-push_last, slice_get-push_cases}
use Rattle.nav_types.specs.declared.cells.Cell.{Cell}
use Rattle.open_heap.specs.Queue.{Queue}
use Rattle.jump_search.specs.declared.nodes.Node.{Node}
use Rattle.jump_search.specs.declared.states.JumpState.{JumpState}
use Rattle.jump_search.specs.inner.Numbered.{LacksState, HasCheaper}
use Rattle.jump_search.specs.inner.Searched.{IsKeptRun, HasOpenedParent, IsDearer}
use Rattle.jump_search.specs.inner.Underway.{estimate_of, opened_count, IsQueued, IsLaterNode, AreLater}
use Rattle.jump_search.specs.inner.Underway.{Relaxes}
use Rattle.jump_search.proofs.Listing.{get_set_same, get_set_other, get_set_cases, one_item}
use Rattle.jump_search.proofs.Queueing.{inserted_here, inserted_apart}
use Rattle.jump_search.proofs.Lasting.{kept_self, later_self, all_later_self, dearer_later, parent_as, IsFrom, met_later}

-- one for an opened node
unfoldable pub one_if_opened : Node → ℕ
one_if_opened node = cond node.opened 1 0

pub unopened_none : (node : Node) → IsFalse node.opened → one_if_opened node ≡ 0
unfolding one_if_opened
unopened_none node not = ap (λ (b : Bool). cond b 1 0) not

pub opened_one : (node : Node) → IsTrue node.opened → one_if_opened node ≡ 1
unfolding one_if_opened
opened_one node is = ap (λ (b : Bool). cond b 1 0) is

count_added : (nodes : List Node) (node : Node) → IsFalse node.opened
    → opened_count (nodes ++ node ∷ []) ≡ opened_count nodes
unfolding one_if_opened
count_added nodes node not =
    omega (
      arith,
      sum_by-append one_if_opened nodes (node ∷ []),
      sum_by-cons one_if_opened node [],
      unopened_none node
          not,
    )

pub count_set : (nodes : List Node) (number : ℕ) (a b : Node) → slice_get nodes number ≡ Some a
    → opened_count (set nodes number b) + one_if_opened a ≡ opened_count nodes + one_if_opened b
unfolding one_if_opened
count_set nodes number a b found =
    let low = slice_get_within nodes number a found in
    let read = get_or_from_slice_get nodes number a a found in
    subst (λ (x : Node). opened_count (set nodes number b) + one_if_opened x ≡ opened_count nodes + one_if_opened b)
    read
    (sum_by-set one_if_opened nodes number b a low)

count_kept : (nodes : List Node) (number : ℕ) (a b : Node) → slice_get nodes number ≡ Some a → b.opened ≡ a.opened
    → opened_count (set nodes number b) ≡ opened_count nodes
unfolding one_if_opened
count_kept nodes number a b found same =
    let alike : one_if_opened b ≡ one_if_opened a = ap (λ (x : Bool). cond x 1 0) same in
    omega (arith, count_set nodes number a b found, alike)

pub count_most : (nodes : List Node) → opened_count nodes ≤ length nodes
count_most nodes = count_by-le-length (λ (node : Node). node.opened) nodes

-- a node is added

pub later_added : (nodes : List Node) (node : Node) → IsFalse node.opened → AreLater nodes (nodes ++ node ∷ [])
later_added nodes node not = record {
  each = λ number a found. (a, (slice_get-append_left nodes (node ∷ []) number a found, later_self a));
  back = λ number b found opened. elim (slice_get-push_cases nodes node number b found) [
    | inl before ↦ (b, (before, (opened, later_self b)))
    | inr end ↦ absurd (both_ways b.opened (subst (λ (n : Node). IsFalse n.opened) end.1 not) opened)
  ];
  opened = count_added nodes node not;
}

from_added : (passes hit : Cell → Bool) (nodes : List Node) (node : Node) → LacksState nodes node.state
    → HasOpenedParent passes hit nodes node
    → (number : ℕ) (b : Node) → slice_get (nodes ++ node ∷ []) number ≡ Some b → IsFrom passes hit nodes number b
from_added passes hit nodes node lacks parent number b found = elim (slice_get-push_cases nodes node number b found) [
  | inl before ↦ inl (b, (before, (refl, (refl, refl))))
  | inr end ↦ subst (λ (n : Node). IsFrom passes hit nodes number n) end.1 (inr (parent, inr (end.0, lacks)))
]

queued_added : (all : Bool) (ahead : Cell → ℕ) (floor : ℕ) (nodes : List Node) (queue : Queue) (node : Node)
    → IsFalse node.opened
    → floor ≤ estimate_of ahead node → IsQueued all ahead floor nodes queue
    → IsQueued all ahead floor (nodes ++ node ∷ []) (map.insert queue (length nodes) (estimate_of ahead node))
queued_added all ahead floor nodes queue node not early queued =
    let more = nodes ++ node ∷ [] in
    let longer = map.insert queue (length nodes) (estimate_of ahead node) in
    let later = later_added nodes node not in
    record {
      waits = λ number value found. elim (cases_eq number (length nodes)) [
        | inl end ↦
            let here : map.get longer number ≡ Some (estimate_of ahead node) =
            subst (λ (n : ℕ). map.get longer n ≡ Some (estimate_of ahead node)) (sym end)
            (inserted_here queue (length nodes) (estimate_of ahead node)) in
            let same = same_Some (estimate_of ahead node) value (sym here ∙ found) in
            let at : slice_get more number ≡ Some node =
            subst (λ (n : ℕ). slice_get more n ≡ Some node) (sym end) (slice_get-push_last nodes node) in (
              node,
              (
                at,
                (
                  not,
                  subst (λ (p : ℕ). (p ≡ estimate_of ahead node)
                      × (floor ≤ p)) same (refl, early),
                ),
              ),
            )
        | inr before ↦
            let old = queued.waits number value (sym
            (inserted_apart queue (length nodes) (estimate_of ahead node) number before) ∙ found) in
            (old.0, (slice_get-append_left nodes (node ∷ []) number old.0 old.1.0, old.1.1))
      ];
      others = λ number b found none. elim (cases_eq number (length nodes)) [
        | inl end ↦
            let here : map.get longer number ≡ Some (estimate_of ahead node) =
            subst (λ (n : ℕ). map.get longer n ≡ Some (estimate_of ahead node)) (sym end)
            (inserted_here queue (length nodes) (estimate_of ahead node)) in
            absurd (none-some (estimate_of ahead node) (sym none ∙ here))
        | inr before ↦ elim (slice_get-push_cases nodes node number b found) [
          | inl old ↦
              let was = queued.others number b old (sym
              (inserted_apart queue (length nodes) (estimate_of ahead node) number before) ∙ none) in
              elim was [
                | inl opened ↦ inl opened
                | inr left ↦ inr (left.0, dearer_later nodes more b b later refl (omega arith) left.1)
              ]
          | inr end ↦ absurd (before end.0)
        ]
      ];
      within = λ number b found opened. elim (slice_get-push_cases nodes node number b found) [
        | inl old ↦ queued.within number b old opened
        | inr end ↦ absurd (both_ways b.opened (subst (λ (n : Node). IsFalse n.opened) end.1 not) opened)
      ];
    }

pub relaxes_added : (ahead : Cell → ℕ) (node : Node) (nodes : List Node) (queue : Queue) → IsFalse node.opened
    → LacksState nodes node.state
    → length (nodes ++ node ∷ []) ≤ 4294967296
    → Relaxes ahead node nodes (nodes ++ node ∷ []) queue (map.insert queue (length nodes) (estimate_of ahead node))
relaxes_added ahead node nodes queue not lacks few =
    let more = nodes ++ node ∷ [] in
    let later = later_added nodes node not in
    record {
      later = later;
      relaxed = record {
        place = length nodes;
        node = node;
        known = slice_get-push_last nodes node;
        same = refl;
        cheap = omega arith;
        kept = λ e. kept_self node.state.arrived node.run;
      };
      going = λ all passes hit start floor most going early cheap parent. record {
        met = met_later passes hit start nodes more going.met later (from_added passes hit nodes node lacks parent);
        queued = queued_added all ahead floor nodes queue node not early going.queued;
        costs = λ number b found. elim (slice_get-push_cases nodes node number b found) [
          | inl old ↦ going.costs number b old
          | inr end ↦ subst (λ (n : Node). n.cost ≤ most) end.1 cheap
        ];
        few = few;
      };
    }

-- a node is put in the place of one of its state

pub later_set : (nodes : List Node) (number : ℕ) (a b : Node) → slice_get nodes number ≡ Some a → IsLaterNode a b
    → b.opened ≡ a.opened
    → AreLater nodes (set nodes number b)
later_set nodes number a b found later same =
    let low = slice_get_within nodes number a found in
    record {
      each = λ place x at. elim (cases_eq place number) [
        | inl here ↦
            let is : a ≡ x = one_item nodes number a x found (subst (λ (n : ℕ). slice_get nodes n ≡ Some x) here at) in (
              b,
              (
                subst (λ (n : ℕ). slice_get (set nodes number b) n ≡ Some b) (sym here)
                    (get_set_same nodes number b low),
                subst (λ (n : Node). IsLaterNode n b) is later,
              ),
            )
        | inr apart ↦ (x, (get_set_other nodes number place b x apart at, later_self x))
      ];
      back = λ place x at opened. elim (get_set_cases nodes number place b x at) [
        | inl here ↦
            let was : IsTrue a.opened = sym same ∙ subst (λ (n : Node). IsTrue n.opened) (sym here.1) opened in (
              a,
              (
                subst (λ (n : ℕ). slice_get nodes n ≡ Some a) (sym here.0) found,
                (was, subst (λ (n : Node). IsLaterNode a n) here.1 later),
              ),
            )
        | inr apart ↦ (x, (apart.1, (opened, later_self x)))
      ];
      opened = count_kept nodes number a b found same;
    }

from_set : (passes hit : Cell → Bool) (nodes : List Node) (number : ℕ) (b : Node)
    → IsFrom passes hit nodes number b → (place : ℕ) (x : Node) → slice_get (set nodes number b) place ≡ Some x
    → IsFrom passes hit nodes place x
from_set passes hit nodes number b from place x at = elim (get_set_cases nodes number place b x at) [
  | inl here ↦ subst (λ (n : Node). IsFrom passes hit nodes place n) here.1
      (subst (λ (k : ℕ). IsFrom passes hit nodes k b) (sym here.0) from)
  | inr apart ↦ inl (x, (apart.1, (refl, (refl, refl))))
]

costs_set : (nodes : List Node) (number most : ℕ) (a b : Node) → slice_get nodes number ≡ Some a → b.cost ≤ a.cost
    → ((place : ℕ) (x : Node) → slice_get nodes place ≡ Some x → x.cost ≤ most) → (place : ℕ) (x : Node)
    → slice_get (set nodes number b) place ≡ Some x → x.cost ≤ most
costs_set nodes number most a b found lower costs place x at = elim (get_set_cases nodes number place b x at) [
  | inl here ↦ let was = costs number a found in subst (λ (n : Node). n.cost ≤ most) here.1 (omega (arith, was, lower))
  | inr apart ↦ costs place x apart.1
]

-- a node of an estimate that has not passed costs less than another in its place only where that is not opened
pub lower_unopened : (all : Bool) (ahead : Cell → ℕ) (floor : ℕ) (nodes : List Node) (queue : Queue) (number : ℕ) (a b : Node)
    → IsQueued all ahead floor nodes queue → slice_get nodes number ≡ Some a → b.state ≡ a.state
    → floor ≤ estimate_of ahead b → b.cost < a.cost → IsFalse a.opened
lower_unopened all ahead floor nodes queue number a b queued found same early less =
    let alike : ahead b.state.cell ≡ ahead a.state.cell =
    ap (λ (s : JumpState). ahead s.cell) same in
    elim (cases_Bool a.opened) [
      | inl opened ↦ let was = queued.within number a found opened in absurd (omega (arith, was, early, less, alike))
      | inr not ↦ not
    ]

if_waits : (found : Option ℕ) (P : ℕ → Type 0) → ((value : ℕ) → found ≡ Some value → P value) → IfSome found P
if_waits None P each = tt
if_waits (Some value) P each = each value refl

-- where it waits, it has no lesser estimate
pub lower_waits : (all : Bool) (ahead : Cell → ℕ) (floor : ℕ) (nodes : List Node) (queue : Queue) (number : ℕ) (a b : Node)
    → IsQueued all ahead floor nodes queue → slice_get nodes number ≡ Some a → b.state ≡ a.state → b.cost < a.cost
    → IfSome (map.get queue number) (λ value. estimate_of ahead b ≤ value)
lower_waits all ahead floor nodes queue number a b queued found same less =
    let alike : ahead b.state.cell ≡ ahead a.state.cell =
    ap (λ (s : JumpState). ahead s.cell) same in
    if_waits (map.get queue number) (λ value. estimate_of ahead b ≤ value) (λ value some.
    let has = queued.waits number value some in
    let is : has.0 ≡ a = one_item nodes number has.0 a has.1.0 found in
    let waits = subst (λ (n : Node). value ≡ estimate_of ahead n) is has.1.1.1.0 in
    omega (arith, waits, less, alike))

queued_lowered : (all : Bool) (ahead : Cell → ℕ) (floor : ℕ) (nodes : List Node) (queue : Queue) (number : ℕ) (a b : Node)
    → IsFalse b.opened
    → AreLater nodes (set nodes number b) → slice_get nodes number ≡ Some a → floor ≤ estimate_of ahead b
    → IsQueued all ahead floor nodes queue
    → IsQueued all ahead floor (set nodes number b) (map.insert queue number (estimate_of ahead b))
queued_lowered all ahead floor nodes queue number a b not later found early queued =
    let low = slice_get_within nodes number a found in
    let new = map.insert queue number (estimate_of ahead b) in
    record {
      waits = λ place value has. elim (cases_eq place number) [
        | inl here ↦
            let is : map.get new place ≡ Some (estimate_of ahead b) =
            subst (λ (n : ℕ). map.get new n ≡ Some (estimate_of ahead b)) (sym here)
            (inserted_here queue number (estimate_of ahead b)) in
            let same = same_Some (estimate_of ahead b) value (sym is ∙ has) in
            let at : slice_get (set nodes number b) place ≡ Some b =
            subst (λ (n : ℕ). slice_get (set nodes number b) n ≡ Some b) (sym here)
            (get_set_same nodes number b low) in (
              b,
              (
                at,
                (
                  not,
                  subst (λ (p : ℕ). (p ≡ estimate_of ahead b)
                      × (floor ≤ p)) same (refl, early),
                ),
              ),
            )
        | inr apart ↦
            let old = queued.waits place value (sym (inserted_apart queue number (estimate_of ahead b) place apart) ∙
            has) in
            (old.0, (get_set_other nodes number place b old.0 apart old.1.0, old.1.1))
      ];
      others = λ place x at none. elim (get_set_cases nodes number place b x at) [
        | inl here ↦
            let is : map.get new place ≡ Some (estimate_of ahead b) =
            subst (λ (n : ℕ). map.get new n ≡ Some (estimate_of ahead b)) (sym here.0)
            (inserted_here queue number (estimate_of ahead b)) in
            absurd (none-some (estimate_of ahead b) (sym none ∙ is))
        | inr apart ↦
            let was = queued.others place x apart.1 (sym (inserted_apart queue number (estimate_of ahead b) place apart.0)
            ∙ none) in
            elim was [
              | inl opened ↦ inl opened
              | inr left ↦ inr (left.0, dearer_later nodes (set nodes number b) x x later refl (omega arith) left.1)
            ]
      ];
      within = λ place x at opened. elim (get_set_cases nodes number place b x at) [
        | inl here ↦ absurd (both_ways x.opened (subst (λ (n : Node). IsFalse n.opened) here.1 not) opened)
        | inr apart ↦ queued.within place x apart.1 opened
      ];
    }

pub relaxes_lowered : (ahead : Cell → ℕ) (node : Node) (nodes : List Node) (queue : Queue) (number : ℕ) (a : Node)
    → IsFalse node.opened
    → IsFalse a.opened → slice_get nodes number ≡ Some a → a.state ≡ node.state → node.cost < a.cost
    → Relaxes ahead node nodes (set nodes number node) queue (map.insert queue number (estimate_of ahead node))
relaxes_lowered ahead node nodes queue number a not was found same less =
    let low = slice_get_within nodes number a found in
    let next : IsLaterNode a node = record {
      same = sym same;
      cheap = omega arith;
      kept = λ e. absurd (omega (arith, e, less));
      opened = λ o. absurd (both_ways a.opened was o);
    } in
    let later = later_set nodes number a node found next (not ∙ sym was) in
    record {
      later = later;
      relaxed = record {
        place = number;
        node = node;
        known = get_set_same nodes number node low;
        same = refl;
        cheap = omega arith;
        kept = λ e. kept_self node.state.arrived node.run;
      };
      going = λ all passes hit start floor most going early cheap parent.
          let from : IsFrom passes hit nodes number node = inr (parent, inl (a, (found, same))) in
          let few = going.few in
          record {
            met = met_later passes hit start nodes (set nodes number node) going.met later
                (from_set passes hit nodes number node from);
            queued = queued_lowered all ahead floor nodes queue number a node not later found early going.queued;
            costs = costs_set nodes number most a node found (omega arith) going.costs;
            few = omega (arith, length-set nodes number node, few);
          };
    }

-- only the last run of a node changes

queued_tied : (all : Bool) (ahead : Cell → ℕ) (floor : ℕ) (nodes : List Node) (queue : Queue) (number : ℕ) (a b : Node)
    → b.state ≡ a.state
    → b.cost ≡ a.cost → b.opened ≡ a.opened → AreLater nodes (set nodes number b) → slice_get nodes number ≡ Some a
    → IsQueued all ahead floor nodes queue → IsQueued all ahead floor (set nodes number b) queue
queued_tied all ahead floor nodes queue number a b same cost opened later found queued =
    let low = slice_get_within nodes number a found in
    let estimates : estimate_of ahead a ≡ estimate_of ahead b =
    ap (λ (n : ℕ). n + ahead a.state.cell) (sym cost)
    ∙ ap (λ (s : JumpState). b.cost + ahead s.cell) (sym same) in
    record {
      waits = λ place value has.
          let old = queued.waits place value has in
          elim (cases_eq place number) [
            | inl here ↦
                let is : old.0 ≡ a = one_item nodes number old.0 a
                (subst (λ (n : ℕ). slice_get nodes n ≡ Some old.0) here old.1.0) found in
                let at : slice_get (set nodes number b) place ≡ Some b =
                subst (λ (n : ℕ). slice_get (set nodes number b) n ≡ Some b) (sym here)
                (get_set_same nodes number b low) in
                let facts = subst (λ (n : Node). IsFalse n.opened
                × ((value ≡ estimate_of ahead n) × (floor ≤ value)))
                is old.1.1 in
                (b, (at, (opened ∙ facts.0, (facts.1.0 ∙ estimates, facts.1.1))))
            | inr apart ↦ (old.0, (get_set_other nodes number place b old.0 apart old.1.0, old.1.1))
          ];
      others = λ place x at none. elim (get_set_cases nodes number place b x at) [
        | inl here ↦
            let none_here = subst (λ (n : ℕ). map.get queue n ≡ None) here.0 none in
            let was = queued.others number a found none_here in
            let facts : IsTrue b.opened ⊎ (IsFalse all × IsDearer (set nodes number b) b) =
            elim was [
              | inl is ↦ inl (opened ∙ is)
              | inr left ↦ inr (
                left.0,
                dearer_later nodes (set nodes number b) a b later same (omega (arith, cost)) left.1,
              )
            ] in
            subst (λ (n : Node). IsTrue n.opened ⊎ (IsFalse all × IsDearer (set nodes number b) n)) here.1 facts
        | inr apart ↦
            let was = queued.others place x apart.1 none in
            elim was [
              | inl is ↦ inl is
              | inr left ↦ inr (left.0, dearer_later nodes (set nodes number b) x x later refl (omega arith) left.1)
            ]
      ];
      within = λ place x at is. elim (get_set_cases nodes number place b x at) [
        | inl here ↦
            let was = sym opened ∙ subst (λ (n : Node). IsTrue n.opened) (sym here.1) is in
            let low = queued.within number a found was in
            subst (λ (n : Node). estimate_of ahead n ≤ floor) here.1 (subst (λ (n : ℕ). n ≤ floor) estimates low)
        | inr apart ↦ queued.within place x apart.1 is
      ];
    }

pub relaxes_tied : (ahead : Cell → ℕ) (node : Node) (nodes : List Node) (queue : Queue) (number run : ℕ) (a : Node)
    → slice_get nodes number ≡ Some a
    → a.state ≡ node.state → node.cost ≡ a.cost → IsKeptRun node.state.arrived run a.run
    → IsKeptRun node.state.arrived run node.run
    → (run ≡ a.run) ⊎ (run ≡ node.run)
    → Relaxes ahead node nodes (set nodes number (record
    { state = a.state; cost = a.cost; run = run; opened = a.opened })) queue queue
relaxes_tied ahead node nodes queue number run a found same cost kept_a kept_node either =
    let b : Node = record { state = a.state; cost = a.cost; run = run; opened = a.opened } in
    let low = slice_get_within nodes number a found in
    let next : IsLaterNode a b = record {
      same = refl;
      cheap = omega arith;
      kept = λ e. subst (λ (s : JumpState). IsKeptRun s.arrived run a.run) (sym same) kept_a;
      opened = λ o. (o, refl);
    } in
    let later = later_set nodes number a b found next refl in
    record {
      later = later;
      relaxed = record {
        place = number;
        node = b;
        known = get_set_same nodes number b low;
        same = same;
        cheap = omega (arith, cost);
        kept = λ e. kept_node;
      };
      going = λ all passes hit start floor most going early cheap parent.
          let from : IsFrom passes hit nodes number b = elim either [
            | inl old ↦ inl (a, (found, (refl, (refl, old))))
            | inr new ↦ inr (parent_as passes hit nodes node b same (sym cost) new parent, inl (a, (found, refl)))
          ] in
          let few = going.few in
          record {
            met = met_later passes hit start nodes (set nodes number b) going.met later
                (from_set passes hit nodes number b from);
            queued = queued_tied all ahead floor nodes queue number a b refl refl refl later found going.queued;
            costs = costs_set nodes number most a b found (omega arith) going.costs;
            few = omega (arith, length-set nodes number b, few);
          };
    }

-- the state's node is cheaper

pub relaxes_none : (ahead : Cell → ℕ) (node : Node) (nodes : List Node) (queue : Queue) (number : ℕ) (a : Node)
    → slice_get nodes number ≡ Some a
    → a.state ≡ node.state → a.cost < node.cost → Relaxes ahead node nodes nodes queue queue
relaxes_none ahead node nodes queue number a found same less = record {
  later = all_later_self nodes;
  relaxed = record {
    place = number;
    node = a;
    known = found;
    same = same;
    cheap = omega arith;
    kept =
        λ e. absurd (omega (arith, e, less));
  };
  going = λ all passes hit start floor most going early cheap parent. going;
}

-- a jump is left

pub left_below : (all : Bool) (nodes : List Node) (cell : Cell) (cost bound : ℕ) → (IsTrue all → bound ≡ 0)
    → (IsFalse all → bound ≡ cost) → HasCheaper nodes cell bound → IsFalse all × HasCheaper nodes cell cost
left_below true nodes cell cost bound zero same cheaper =
    let none = zero refl in let less = cheaper.1.1.1.1 in absurd (omega (arith, none, less))
left_below false nodes cell cost bound zero same cheaper =
    (refl, subst (λ (n : ℕ). HasCheaper nodes cell n) (same refl) cheaper)

-- Nodes are found by their states.
use Rattle.std.proofs.Common.{ℕ, ◌≡◌, ◌≢◌, ◌+◌, ◌<◌, ◌≤◌, true, ◌&&◌, List, [], ◌∷◌, ◌++◌, length, get_or, set, nat_eq}
use Rattle.std.proofs.Common.{Option, Some, None, inl, inr, refl, sym, subst, ap, ◌∙◌, arith}
use Rattle.std.specs.List.{slice_get}
use Rattle.std.proofs.lemmas.Bool.{cases_lt, cases_eq, and_parts, eqb-true, eq-eqb, and_from}
use Rattle.std.proofs.lemmas.Option.{slice_get_within, slice_get_cases}
use Rattle.std.proofs.lemmas.List.{length-set, length_push, get_or_append_left, get_or_push}
use Rattle.nav_types.proofs.Items.{slice_get-push_cases}
use Rattle.nav_types.specs.declared.cells.Cell.{Cell}
use Rattle.nav_types.specs.declared.directions.Dir.{Dir}
use Rattle.nav_types.specs.declared.directions.Dir.TheVariants.{N, E, S, W, NE, SE, SW, NW}
use Rattle.jump_search.specs.declared.nodes.Node.{Node}
use Rattle.jump_search.specs.declared.states.JumpState.{JumpState}
use Rattle.jump_search.specs.inner.Numbered.{arrival_number, key_of, same_key, HasState, IsLastInSlot, AreLinked}
use Rattle.jump_search.specs.inner.Numbered.{AreSlotChains, IsSought, IsSearchable, AreDown}
use Rattle.jump_search.proofs.Listing.{one_item, get_set_cases}

-- the arrival of a number
arrival_of : ℕ → Option Dir
arrival_of n = get_or (None ∷ Some N ∷ Some E ∷ Some S ∷ Some W ∷ Some NE ∷ Some SE ∷ Some SW ∷ Some NW ∷ []) n None

arrival_back : (arrived : Option Dir) → arrival_of (arrival_number arrived) ≡ arrived
unfolding arrival_of
arrival_back None = refl
arrival_back (Some N) = refl
arrival_back (Some E) = refl
arrival_back (Some S) = refl
arrival_back (Some W) = refl
arrival_back (Some NE) = refl
arrival_back (Some SE) = refl
arrival_back (Some SW) = refl
arrival_back (Some NW) = refl

pub one_arrival : (a b : Option Dir) → arrival_number a ≡ arrival_number b → a ≡ b
one_arrival a b same = sym (arrival_back a) ∙ ap arrival_of same ∙ arrival_back b

state_of : Cell × ℕ → JumpState
state_of key = record { cell = key.0; arrived = arrival_of key.1 }

state_back : (state : JumpState) → state_of (key_of state) ≡ state
unfolding state_of
state_back state = ap (λ (arrived : Option Dir). record { cell = state.cell; arrived = arrived })
    (arrival_back state.arrived)

pub one_state : (a b : JumpState) → key_of a ≡ key_of b → a ≡ b
one_state a b same = sym (state_back a) ∙ ap state_of same ∙ state_back b

pub same_key_true : (a b : Cell × ℕ) → same_key a b ≡ true → a ≡ b
same_key_true a b same =
    let parts = and_parts (nat_eq a.0.j b.0.j && nat_eq a.0.i b.0.i) (nat_eq a.1 b.1) same in
    let cells = and_parts (nat_eq a.0.j b.0.j) (nat_eq a.0.i b.0.i) parts.0 in
    let rows = eqb-true a.0.j b.0.j cells.0 in
    let columns = eqb-true a.0.i b.0.i cells.1 in
    let arrivals = eqb-true a.1 b.1 parts.1 in
    let one : a ≡ (record { j = b.0.j; i = a.0.i }, a.1) =
    ap (λ (j : ℕ). let cell : Cell = record { j = j; i = a.0.i } in (cell, a.1)) rows in
    let two = ap (λ (i : ℕ). let cell : Cell = record { j = b.0.j; i = i } in (cell, a.1)) columns in
    let three = ap (λ (n : ℕ). (b.0, n)) arrivals in
    one ∙ two ∙ three

pub same_key_refl : (a : Cell × ℕ) → same_key a a ≡ true
same_key_refl a =
    and_from (nat_eq a.0.j a.0.j && nat_eq a.0.i a.0.i) (nat_eq a.1 a.1)
    (and_from (nat_eq a.0.j a.0.j) (nat_eq a.0.i a.0.i) (eq-eqb a.0.j a.0.j refl) (eq-eqb a.0.i a.0.i refl))
    (eq-eqb a.1 a.1 refl)

-- nodes in whose place there are others of their cells
last_kept : (Slot : Cell → ℕ) (nodes new : List Node) (slot bound after : ℕ)
    → ((k : ℕ) (b : Node) → k < bound → slice_get new k ≡ Some b
    → (a : Node) × ((slice_get nodes k ≡ Some a) × (a.state.cell ≡ b.state.cell)))
    → IsLastInSlot Slot nodes slot bound after → IsLastInSlot Slot new slot bound after
last_kept Slot nodes new slot bound after back last =
    let most = last.within in
    record {
      within = last.within;
      here = λ number node is found.
          let old = back number node (omega (arith, is, most)) found in
          ap Slot (sym old.1.1) ∙ last.here number old.0 is old.1.0;
      past = λ number node from low found same.
          let old = back number node low found in
          last.past number old.0 from low old.1.0 (ap Slot old.1.1 ∙ same);
    }

pub chained_put : (Slot Head : Cell → ℕ) (nodes : List Node) (links : List ℕ) (number : ℕ) (node : Node)
    → AreSlotChains Slot Head nodes links → HasState nodes node.state number
    → AreSlotChains Slot Head (set nodes number node) links
chained_put Slot Head nodes links number node chained has =
    let new = set nodes number node in
    let long = length-set nodes number node in
    let back : (k : ℕ) (b : Node) → slice_get new k ≡ Some b
    → (a : Node) × ((slice_get nodes k ≡ Some a) × (a.state.cell ≡ b.state.cell)) =
    λ k b found. elim (get_set_cases nodes number k node b found) [
      | inl here ↦ (
        has.0,
        (
          subst (λ (n : ℕ). slice_get nodes n ≡ Some has.0) (sym here.0) has.1.0,
          ap (λ (s : JumpState). s.cell) has.1.1 ∙ ap (λ (n : Node). n.state.cell) here.1,
        ),
      )
      | inr other ↦ (b, (other.1, refl))
    ] in
    record {
      linked = record {
        long = chained.linked.long ∙ sym long;
        each = λ place other found.
            let old = back place other found in
            subst (λ (cell : Cell). IsLastInSlot Slot new (Slot cell) place (get_or links place 0)) old.1.1
            (last_kept Slot nodes new (Slot old.0.state.cell) place (get_or links place 0)
            (λ k b low got. back k b got) (chained.linked.each place old.0 old.1.0));
      };
      heads = λ cell.
          subst (λ (n : ℕ). IsLastInSlot Slot new (Slot cell) n (Head cell)) (sym long)
          (last_kept Slot nodes new (Slot cell) (length nodes) (Head cell) (λ k b low got. back k b got)
          (chained.heads cell));
    }

-- a node before the last one of a list
before_push : (nodes : List Node) (node : Node) (bound : ℕ) → bound ≤ length nodes → (k : ℕ) (b : Node) → k < bound
    → slice_get (nodes ++ node ∷ []) k ≡ Some b
    → (a : Node) × ((slice_get nodes k ≡ Some a) × (a.state.cell ≡ b.state.cell))
before_push nodes node bound most k b low found = elim (slice_get-push_cases nodes node k b found) [
  | inl before ↦ (b, (before, refl))
  | inr end ↦ let is = end.0 in absurd (omega (arith, low, most, is))
]

links_more : (Slot Head : Cell → ℕ) (nodes : List Node) (links : List ℕ) (node : Node)
    → AreSlotChains Slot Head nodes links
    → AreLinked Slot (nodes ++ node ∷ []) (links ++ Head node.state.cell ∷ [])
links_more Slot Head nodes links node chained =
    let new = nodes ++ node ∷ [] in
    let head = Head node.state.cell in
    let more = links ++ head ∷ [] in
    let long = chained.linked.long in
    record {
      long = length_push links head ∙ ap (λ (n : ℕ). n + 1) long ∙ sym (length_push nodes node);
      each = λ number other found. elim (slice_get-push_cases nodes node number other found) [
        | inl before ↦
            let low = slice_get_within nodes number other before in
            let link : get_or more number 0 ≡ get_or links number 0 =
            get_or_append_left links (head ∷ []) 0 number (omega (arith, low, long)) in
            subst (λ (n : ℕ). IsLastInSlot Slot new (Slot other.state.cell) number n) (sym link)
            (last_kept Slot nodes new (Slot other.state.cell) number (get_or links number 0)
            (before_push nodes node number (omega (arith, low))) (chained.linked.each number other before))
        | inr end ↦
            let link : get_or more number 0 ≡ head = get_or_push links head 0 number (long ∙ sym end.0) in
            let last = last_kept Slot nodes new (Slot node.state.cell) (length nodes) head
            (before_push nodes node (length nodes) (omega arith)) (chained.heads node.state.cell) in
            let at = subst (λ (n : ℕ). IsLastInSlot Slot new (Slot node.state.cell) n head) (sym end.0) last in
            let to = subst (λ (n : ℕ). IsLastInSlot Slot new (Slot node.state.cell) number n) (sym link) at in
            subst (λ (n : Node). IsLastInSlot Slot new (Slot n.state.cell) number (get_or more number 0)) end.1 to
      ];
    }

head_here : (Slot : Cell → ℕ) (nodes : List Node) (node : Node) (slot after : ℕ)
    → Slot node.state.cell ≡ slot → after ≡ length nodes + 1
    → IsLastInSlot Slot (nodes ++ node ∷ []) slot (length (nodes ++ node ∷ [])) after
head_here Slot nodes node slot after same is =
    let new = nodes ++ node ∷ [] in
    let long = length_push nodes node in
    record {
      within = omega (arith, long, is);
      here = λ number other next found. elim (slice_get-push_cases nodes node number other found) [
        | inl before ↦
            let low = slice_get_within nodes number other before in
            absurd (omega (arith, low, next, is))
        | inr end ↦ ap (λ (n : Node). Slot n.state.cell) (sym end.1) ∙ same
      ];
      past = λ number other from low found. absurd (omega (arith, from, low, long, is));
    }

head_apart : (Slot : Cell → ℕ) (nodes : List Node) (node : Node) (slot after : ℕ)
    → Slot node.state.cell ≢ slot → IsLastInSlot Slot nodes slot (length nodes) after
    → IsLastInSlot Slot (nodes ++ node ∷ []) slot (length (nodes ++ node ∷ [])) after
head_apart Slot nodes node slot after differ old =
    let new = nodes ++ node ∷ [] in
    let long = length_push nodes node in
    let last = last_kept Slot nodes new slot (length nodes) after
    (before_push nodes node (length nodes) (omega arith)) old in
    let most = last.within in
    record {
      within = omega (arith, long, most);
      here = last.here;
      past = λ number other from low found. elim (slice_get-push_cases nodes node number other found) [
        | inl before ↦ last.past number other from (slice_get_within nodes number other before) found
        | inr end ↦ λ same. differ (ap (λ (n : Node). Slot n.state.cell) end.1 ∙ same)
      ];
    }

pub chained_more : (Slot Head New : Cell → ℕ) (nodes : List Node) (links : List ℕ) (node : Node) (after : ℕ)
    → AreSlotChains Slot Head nodes links → after ≡ length nodes + 1
    → ((other : Cell) → Slot other ≡ Slot node.state.cell → New other ≡ after)
    → ((other : Cell) → Slot other ≢ Slot node.state.cell → New other ≡ Head other)
    → AreSlotChains Slot New (nodes ++ node ∷ []) (links ++ Head node.state.cell ∷ [])
chained_more Slot Head New nodes links node after chained is here apart =
    let new = nodes ++ node ∷ [] in
    record {
      linked = links_more Slot Head nodes links node chained;
      heads = λ cell. elim (cases_eq (Slot cell) (Slot node.state.cell)) [
        | inl same ↦
            subst (λ (n : ℕ). IsLastInSlot Slot new (Slot cell) (length new) n) (sym (here cell same))
            (head_here Slot nodes node (Slot cell) after (sym same) is)
        | inr differ ↦
            subst (λ (n : ℕ). IsLastInSlot Slot new (Slot cell) (length new) n) (sym (apart cell differ))
            (head_apart Slot nodes node (Slot cell) (Head cell) (λ same. differ (sym same)) (chained.heads cell))
      ];
    }

pub chained_down : (Slot Head : Cell → ℕ) (nodes : List Node) (links : List ℕ) → AreSlotChains Slot Head nodes links
    → AreDown nodes links
chained_down Slot Head nodes links chained = record {
  long = chained.linked.long;
  each = λ number low. elim (slice_get_cases nodes number).1 [
    | inl found ↦ (chained.linked.each number found.0 found.2).within
    | inr past ↦ let most = past.0 in absurd (omega (arith, low, most))
  ];
}

pub sought_next : (nodes : List Node) (links : List ℕ) (state : JumpState) (after number : ℕ) (node : Node)
    → IsSearchable nodes links state after → number + 1 ≡ after → slice_get nodes number ≡ Some node
    → node.state ≢ state
    → IsSearchable nodes links state (get_or links number 0)
sought_next nodes links state after number node searchable next got differ =
    let Slot = searchable.0 in
    let linked = searchable.1.0 in
    let sought = searchable.1.1 in
    let last = linked.each number node got in
    let most = last.within in
    let low = slice_get_within nodes number node got in
    let slot : Slot node.state.cell ≡ Slot state.cell = sought.here number node next got in
    let then : IsSought Slot nodes state (get_or links number 0) = record {
      within = omega (arith, most, low);
      here = λ place other is found. last.here place other is found ∙ slot;
      past = λ place other from found same. elim (cases_lt place number) [
        | inl less ↦
            last.past place other from less found (ap (λ (s : JumpState). Slot s.cell) same ∙ sym slot)
        | inr more ↦ elim (cases_eq place number) [
          | inl at ↦
              let one = one_item nodes number node other got
              (subst (λ (n : ℕ). slice_get nodes n ≡ Some other) at found) in
              differ (ap (λ (n : Node). n.state) one ∙ same)
          | inr other_place ↦ sought.past place other (omega (arith, more, other_place, next)) found same
        ]
      ];
    } in
    (Slot, (linked, then))

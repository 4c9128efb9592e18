-- The places that have a page are those of the nodes.
use Rattle.std.proofs.Common.{ℕ, ◌≡◌, ◌≢◌, ◌<◌, ◌≤◌, List, [], ◌∷◌, ◌++◌, length, get_or, set, inl, inr}
use Rattle.std.proofs.Common.{refl, sym, ap, ◌∙◌, arith}
use Rattle.std.proofs.lemmas.Bool.{cases_eq}
use Rattle.std.proofs.lemmas.List.{length_push, get_or_append_left, get_or_push, length-set, get_or-set_same, get_or-set_other}
use Rattle.std.proofs.lemmas.Option.{slice_get_within, get_or_from_slice_get}
use Rattle.jump_search.specs.declared.nodes.Node.{Node}
use Rattle.jump_search.specs.declared.states.JumpState.{JumpState}
use Rattle.jump_search.specs.inner.Numbered.{HasState, AreCovered}
use Rattle.jump_search.specs.inner.Paged.{page_place}

-- each number is 0 but at the places of the nodes from that number on
abbrev pub IsBlankBut : List ℕ → List Node → ℕ → Type 0
IsBlankBut numbers nodes from = (place : ℕ)
    → ((k : ℕ) (d : Node) → from ≤ k → k < length nodes → page_place (get_or nodes k d).state.cell ≢ place)
    → get_or numbers place 0 ≡ 0

pub blank_but_covered : (numbers : List ℕ) (nodes : List Node) → AreCovered numbers nodes → IsBlankBut numbers nodes 0
blank_but_covered numbers nodes covered = λ place none. covered place (λ k d below. none k d (omega arith) below)

-- one more node has its page
pub covered_more : (old new : List ℕ) (nodes : List Node) (node : Node) → AreCovered old nodes
    → ((place : ℕ) → place ≢ page_place node.state.cell → get_or new place 0 ≡ get_or old place 0)
    → AreCovered new (nodes ++ node ∷ [])
covered_more old new nodes node covered same = λ place none.
    let long = length_push nodes node in
    let place_of_node = λ (n : Node). page_place n.state.cell in
    let apart : place ≢ page_place node.state.cell = λ (is : place ≡ page_place node.state.cell).
    none (length nodes) node (omega (arith, long))
    (ap place_of_node (get_or_push nodes node node (length nodes) refl) ∙ sym is) in
    same place apart ∙ covered place (λ k d below is. none k d (omega (arith, long, below))
    (ap place_of_node (get_or_append_left nodes (node ∷ []) d k below) ∙ is))

-- another node of the same state has the same page
pub covered_put : (table : List ℕ) (nodes : List Node) (number : ℕ) (node : Node) → HasState nodes node.state number
    → AreCovered table nodes → AreCovered table (set nodes number node)
covered_put table nodes number node has covered = λ place none.
    let long = length-set nodes number node in
    let low = slice_get_within nodes number has.0 has.1.0 in
    let place_of_node = λ (n : Node). page_place n.state.cell in
    covered place (λ k d below is. elim (cases_eq k number) [
      | inl same ↦
          let was : get_or nodes k d ≡ has.0 =
          ap (λ (n : ℕ). get_or nodes n d) same ∙ get_or_from_slice_get nodes number has.0 d has.1.0 in
          let now : get_or (set nodes number node) k d ≡ node =
          ap (λ (n : ℕ). get_or (set nodes number node) n d) same ∙ get_or-set_same nodes number node d low in
          none k d (omega (arith, long, below))
          (ap place_of_node now ∙ sym (ap (λ (s : JumpState). page_place s.cell) has.1.1) ∙ sym (ap place_of_node was) ∙ is)
      | inr apart ↦ none k d (omega (arith, long, below))
          (ap place_of_node (get_or-set_other nodes number k node d apart) ∙ is)
    ])

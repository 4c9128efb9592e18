use Rattle.std.proofs.Common.{ℕ, ◌≡◌, ◌≢◌, ◌+◌, ◌-◌, ◌<◌, ◌≤◌, true, false, Some, length, get_or, refl, sym, subst, ◌∙◌, arith}
use Rattle.std.specs.List.{slice_get}
use Rattle.std.proofs.lemmas.Bool.{false≢true}
use Rattle.std.proofs.lemmas.List.{get_or_read}
use Rattle.std.proofs.lemmas.Option.{slice_get_read}
use Rattle.jump_search.specs.declared.states.JumpState.{JumpState}
use Rattle.jump_search.specs.inner.Numbered.{key_of, same_key, IsSearchable}
use Rattle.jump_search.proofs.Numbering.{one_state, same_key_true, same_key_refl, sought_next}
use Rattle.jump_search.proofs.nodes.look_up_before.Goals as goal

pub returns-then-is_same : goal.returns-then-is_same
returns-then-is_same c =
    let node = c.index-node.result.now in
    let list = c.args.list.now.items in
    let within = c.walk.invariant.1.1.within in
    let test = c.walk-test.true in
    let inside : c.walk.after - 1 < length list = omega (arith, within, test) in
    let got : slice_get list (c.walk.after - 1) ≡ Some node =
    slice_get_read list (length list) (c.walk.after - 1) node refl inside c.index-node.ensures in
    let same : same_key (key_of node.state) (key_of c.args.state) ≡ true = sym c.is_same.ensures ∙ c.if-is_same.true in (
      node,
      (
        got,
        one_state node.state c.args.state (same_key_true (key_of node.state) (key_of c.args.state) same),
      ),
    )

pub walk-smaller : goal.walk-smaller
walk-smaller c =
    let number = c.walk.after - 1 in
    let node = c.index-node.result.now in
    let links = c.args.links.now.items in
    let list = c.args.list.now.items in
    let linked = c.walk.invariant.1.0 in
    let long = linked.long in
    let within = c.walk.invariant.1.1.within in
    let test = c.walk-test.true in
    let inside : number < length list = omega (arith, within, test) in
    let got : slice_get list number ≡ Some node =
    slice_get_read list (length list) number node refl inside c.index-node.ensures in
    let low : number < length links = omega (arith, long, within, test) in
    let link : c.index-after.result.now ≡ get_or links number 0 =
    get_or_read links number c.index-after.result.now low c.index-after.ensures 0 in
    let most : get_or links number 0 ≤ number = (linked.each number node got).within in
    omega (arith, link, most, test)

pub walk-preserved : goal.walk-preserved
walk-preserved c =
    let number = c.walk.after - 1 in
    let node = c.index-node.result.now in
    let list = c.args.list.now.items in
    let links = c.args.links.now.items in
    let state = c.args.state in
    let long = c.walk.invariant.1.0.long in
    let within = c.walk.invariant.1.1.within in
    let test = c.walk-test.true in
    let low : number < length links = omega (arith, long, within, test) in
    let link : c.index-after.result.now ≡ get_or links number 0 =
    get_or_read links number c.index-after.result.now low c.index-after.ensures 0 in
    let inside : number < length list = omega (arith, within, test) in
    let got : slice_get list number ≡ Some node =
    slice_get_read list (length list) number node refl inside c.index-node.ensures in
    let next : number + 1 ≡ c.walk.after = omega (arith, test) in
    let differ : node.state ≢ state = λ (same : node.state ≡ state).
    let is : same_key (key_of node.state) (key_of state) ≡ true =
    subst (λ (s : JumpState). same_key (key_of node.state) (key_of s) ≡ true) same (same_key_refl (key_of node.state)) in
    let bad : false ≡ true = sym c.if-is_same.false ∙ c.is_same.ensures ∙ is in
    false≢true bad in
    subst (λ (n : ℕ). IsSearchable list links state n) (sym link)
    (sought_next list links state c.walk.after number node c.walk.invariant next got differ)

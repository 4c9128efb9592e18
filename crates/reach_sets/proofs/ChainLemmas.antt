-- Chains join, turn round, and are carried over to other things.
use Rattle.std.proofs.Common.{◌≡◌, List, [], ◌∷◌, refl, sym, ap, ◌∙◌, subst, inl, inr}
use Rattle.reach_sets.specs.Chains.{Either, IsChain, AreChained}

pub chained_self : {A : Type 0} (Near : A → A → Type 0) (a : A) → AreChained Near a a
chained_self Near a = ([], refl)

pub chained_same : {A : Type 0} (Near : A → A → Type 0) (a b : A) → a ≡ b → AreChained Near a b
chained_same Near a b e = ([], e)

chained_next : {A : Type 0} (Near : A → A → Type 0) (a b c : A) → Either Near a b → AreChained Near b c → AreChained Near a c
chained_next Near a b c near rest = (b ∷ rest.0, (near, rest.1))

pub chained_once : {A : Type 0} (Near : A → A → Type 0) (a b : A) → Near a b → AreChained Near a b
chained_once Near a b near = chained_next Near a b b (inl near) (chained_self Near b)

chain_on : {A : Type 0} (Near : A → A → Type 0) (way : List A) (a b c : A) → IsChain Near a way b → AreChained Near b c → AreChained Near a c
chain_on {A} Near [] a b c e rest = let P : A → Type 0 = λ x. AreChained Near x c in subst P (sym e) rest
chain_on Near (next ∷ way) a b c chain rest =
    chained_next Near a next c chain.0 (chain_on Near way next b c chain.1 rest)

pub chained_on : {A : Type 0} (Near : A → A → Type 0) (a b c : A) → AreChained Near a b → AreChained Near b c → AreChained Near a c
chained_on Near a b c first rest = chain_on Near first.0 a b c first.1 rest

either_back : {A : Type 0} (Near : A → A → Type 0) (a b : A) → Either Near a b → Either Near b a
either_back Near a b near = elim near [ inl ahead ↦ inr ahead | inr behind ↦ inl behind ]

chain_back : {A : Type 0} (Near : A → A → Type 0) (way : List A) (a b : A) → IsChain Near a way b → AreChained Near b a
chain_back Near [] a b e = ([], sym e)
chain_back Near (next ∷ way) a b chain =
    chained_on Near b next a (chain_back Near way next b chain.1)
    (chained_next Near next a a (either_back Near a next chain.0) (chained_self Near a))

pub chained_back : {A : Type 0} (Near : A → A → Type 0) (a b : A) → AreChained Near a b → AreChained Near b a
chained_back Near a b chained = chain_back Near chained.0 a b chained.1

-- where things that are near are carried to things that are chained, so are chained things
carried : {A B : Type 0} (Near : A → A → Type 0) (Far : B → B → Type 0) (to : A → B) → ((a b : A) → Near a b → AreChained Far (to a) (to b)) → (way : List A) (a b : A) → IsChain Near a way b → AreChained Far (to a) (to b)
carried {A} {B} Near Far to each [] a b e =
    let P : A → Type 0 = λ x. AreChained Far (to a) (to x) in subst P e (chained_self Far (to a))
carried Near Far to each (next ∷ way) a b chain =
    chained_on Far (to a) (to next) (to b)
    (elim chain.0 [ inl ahead ↦ each a next ahead | inr behind ↦ chained_back Far (to next) (to a) (each next a behind) ])
    (carried Near Far to each way next b chain.1)

pub chained_to : {A B : Type 0} (Near : A → A → Type 0) (Far : B → B → Type 0) (to : A → B) → ((a b : A) → Near a b → AreChained Far (to a) (to b)) → (a b : A) → AreChained Near a b → AreChained Far (to a) (to b)
chained_to Near Far to each a b chained = carried Near Far to each chained.0 a b chained.1

constant_on : {A B : Type 0} (Near : A → A → Type 0) (f : A → B) → ((a b : A) → Near a b → f a ≡ f b) → (way : List A) (a b : A) → IsChain Near a way b → f a ≡ f b
constant_on Near f each [] a b e = ap f e
constant_on Near f each (next ∷ way) a b chain =
    (elim chain.0 [ inl ahead ↦ each a next ahead | inr behind ↦ sym (each next a behind) ])
    ∙ constant_on Near f each way next b chain.1

-- what near things have in common, chained things have in common
pub constant : {A B : Type 0} (Near : A → A → Type 0) (f : A → B) → ((a b : A) → Near a b → f a ≡ f b) → (a b : A) → AreChained Near a b → f a ≡ f b
constant Near f each a b chained = constant_on Near f each chained.0 a b chained.1

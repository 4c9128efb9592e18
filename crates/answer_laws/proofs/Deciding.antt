-- What can be decided: statements, and searches of lists.
use Rattle.std.proofs.Common.{ℕ, ◌≡◌, ◌+◌, ◌≤◌, ◌⊎◌, Bool, List, [], ◌∷◌, IsTrue, refl, inl, inr, sym, subst, arith}
use Rattle.std.specs.List.{Contains}
use Rattle.std.proofs.lemmas.Bool.{cases_Bool, both_ways, cases_lt}
use Rattle.nav_types.proofs.Items.{Contains-head, Contains-tail, Contains-cons_cases, Contains-none}

-- the statement holds, or it does not
abbrev pub Decided : Type 0 → Type 0
Decided P = P ⊎ (P → ⊥)

pub decided_test : (b : Bool) → Decided (IsTrue b)
decided_test b = elim (cases_Bool b) [ inl holds ↦ inl holds | inr fails ↦ inr (λ holds. both_ways b fails holds) ]

pub decided_both : {P Q : Type 0} → Decided P → Decided Q → Decided (P × Q)
decided_both (inl p) (inl q) = inl (p, q)
decided_both (inl p) (inr not_q) = inr (λ both. not_q both.1)
decided_both (inr not_p) q = inr (λ both. not_p both.0)

pub decided_either : {P Q : Type 0} → Decided P → Decided Q → Decided (P ⊎ Q)
decided_either (inl p) q = inl (inl p)
decided_either (inr not_p) (inl q) = inl (inr q)
decided_either (inr not_p) (inr not_q) = inr (λ either. elim either [ inl p ↦ not_p p | inr q ↦ not_q q ])

pub decided_not : {P : Type 0} → Decided P → Decided (P → ⊥)
decided_not (inl p) = inr (λ not_p. not_p p)
decided_not (inr not_p) = inl not_p

-- a statement that another gives, and that gives it
pub decided_as : {P Q : Type 0} → (P → Q) → (Q → P) → Decided P → Decided Q
decided_as there back (inl p) = inl (there p)
decided_as there back (inr not_p) = inr (λ q. not_p (back q))

-- a thing of the kind in the list, or none there is of it
pub some_in : {A : Type 0} (Kind : A → Type 0) → ((a : A) → Decided (Kind a)) → (list : List A)
    → ((a : A) × (Contains list a × Kind a)) ⊎ ((a : A) → Contains list a → Kind a → ⊥)
some_in Kind decide [] = inr (λ a inside. absurd (Contains-none a inside))
some_in {A} Kind decide (x ∷ xs) = elim (decide x) [
  | inl here ↦ inl (x, (Contains-head x xs, here))
  | inr not_here ↦ elim (some_in Kind decide xs) [
    | inl later ↦ inl (later.0, (Contains-tail x xs later.0 later.1.0, later.1.1))
    | inr none ↦ inr (λ a inside is. elim (Contains-cons_cases x xs a inside) [
      | inl same ↦ not_here (subst Kind (sym same) is)
      | inr rest ↦ none a rest is
    ])
  ]
]

-- whether there is a thing of a kind, all of which a list has
pub decided_some : {A : Type 0} (Kind : A → Type 0) → ((a : A) → Decided (Kind a)) → (list : List A)
    → ((a : A) → Kind a → Contains list a) → Decided ((a : A) × Kind a)
decided_some Kind decide list all = elim (some_in Kind decide list) [
  | inl found ↦ inl (found.0, found.1.1)
  | inr none ↦ inr (λ some. none some.0 (all some.0 some.1) some.1)
]

-- a thing of the kind in the list that is no worse than any other there, or none there is of it
abbrev pub BestIn : {A : Type 0} → (A → Type 0) → (A → A → Type 0) → List A → Type 0
BestIn {A} Kind NoWorse list = ((a : A) × (Kind a × ((b : A) → Contains list b → Kind b → NoWorse a b)))
    ⊎ ((a : A) → Contains list a → Kind a → ⊥)

better_of : {A : Type 0} (Kind : A → Type 0) (NoWorse : A → A → Type 0)
    → ((a b : A) → NoWorse a b ⊎ NoWorse b a) → ((a b c : A) → NoWorse a b → NoWorse b c → NoWorse a c)
    → (x : A) (xs : List A) → Kind x → BestIn Kind NoWorse xs → BestIn Kind NoWorse (x ∷ xs)
better_of Kind NoWorse total on x xs here (inr none) = inl (
  x,
  (
    here,
    λ b inside is. elim (Contains-cons_cases x xs b inside) [
      | inl same ↦ subst (NoWorse x) same (elim (total x x) [ inl own ↦ own | inr own ↦ own ])
      | inr rest ↦ absurd (none b rest is)
    ],
  ),
)
better_of Kind NoWorse total on x xs here (inl best) = elim (total x best.0) [
  | inl first ↦ inl (
    x,
    (
      here,
      λ b inside is. elim (Contains-cons_cases x xs b inside) [
        | inl same ↦ subst (NoWorse x) same (elim (total x x) [ inl own ↦ own | inr own ↦ own ])
        | inr rest ↦ on x best.0 b first (best.1.1 b rest is)
      ],
    ),
  )
  | inr later ↦ inl (
    best.0,
    (
      best.1.0,
      λ b inside is. elim (Contains-cons_cases x xs b inside) [
        | inl same ↦ subst (NoWorse best.0) same later
        | inr rest ↦ best.1.1 b rest is
      ],
    ),
  )
]

not_of : {A : Type 0} (Kind : A → Type 0) (NoWorse : A → A → Type 0) (x : A) (xs : List A) → (Kind x → ⊥)
    → BestIn Kind NoWorse xs → BestIn Kind NoWorse (x ∷ xs)
not_of Kind NoWorse x xs not_here (inl best) = inl (
  best.0,
  (
    best.1.0,
    λ b inside is. elim (Contains-cons_cases x xs b inside) [
      | inl same ↦ absurd (not_here (subst Kind (sym same) is))
      | inr rest ↦ best.1.1 b rest is
    ],
  ),
)
not_of Kind NoWorse x xs not_here (inr none) = inr (λ b inside is. elim (Contains-cons_cases x xs b inside) [
  | inl same ↦ not_here (subst Kind (sym same) is)
  | inr rest ↦ none b rest is
])

pub best_in : {A : Type 0} (Kind : A → Type 0) (NoWorse : A → A → Type 0) → ((a : A) → Decided (Kind a))
    → ((a b : A) → NoWorse a b ⊎ NoWorse b a) → ((a b c : A) → NoWorse a b → NoWorse b c → NoWorse a c)
    → (list : List A) → BestIn Kind NoWorse list
best_in Kind NoWorse decide total on [] = inr (λ a inside. absurd (Contains-none a inside))
best_in Kind NoWorse decide total on (x ∷ xs) = elim (decide x) [
  | inl here ↦ better_of Kind NoWorse total on x xs here (best_in Kind NoWorse decide total on xs)
  | inr not_here ↦ not_of Kind NoWorse x xs not_here (best_in Kind NoWorse decide total on xs)
]

-- the least number of a kind, or none there is of it
abbrev pub LeastNumber : (ℕ → Type 0) → Type 0
LeastNumber Kind = ((c : ℕ) × (Kind c × ((d : ℕ) → Kind d → c ≤ d))) ⊎ ((d : ℕ) → Kind d → ⊥)

-- of either of two kinds
pub least_of_either : (Kind Other : ℕ → Type 0) → LeastNumber Kind → LeastNumber Other → LeastNumber (λ c. Kind c ⊎ Other c)
least_of_either Kind Other (inr none) (inr neither) = inr (λ d either. elim either [ inl one ↦ none d one | inr other ↦ neither d other ])
least_of_either Kind Other (inl one) (inr neither) =
    inl (one.0, (inl one.1.0, λ d either. elim either [ inl here ↦ one.1.1 d here | inr there ↦ absurd (neither d there) ]))
least_of_either Kind Other (inr none) (inl other) =
    inl (other.0, (inr other.1.0, λ d either. elim either [ inl here ↦ absurd (none d here) | inr there ↦ other.1.1 d there ]))
least_of_either Kind Other (inl one) (inl other) = elim (cases_lt one.0 other.0) [
  | inl less ↦ inl (one.0, (inl one.1.0, λ d either. elim either [ inl here ↦ one.1.1 d here | inr there ↦ omega (arith, less, other.1.1 d there) ]))
  | inr more ↦ inl (other.0, (inr other.1.0, λ d either. elim either [ inl here ↦ omega (arith, more, one.1.1 d here) | inr there ↦ other.1.1 d there ]))
]

-- of the sums of one number of each
abbrev pub IsSumOf : (ℕ → Type 0) → (ℕ → Type 0) → ℕ → Type 0
IsSumOf Kind Other c = (p : ℕ) × ((q : ℕ) × (Kind p × (Other q × (c ≡ p + q))))

pub least_of_sums : (Kind Other : ℕ → Type 0) → LeastNumber Kind → LeastNumber Other → LeastNumber (IsSumOf Kind Other)
least_of_sums Kind Other (inr none) other = inr (λ d sum. none sum.0 sum.1.1.0)
least_of_sums Kind Other (inl one) (inr none) = inr (λ d sum. none sum.1.0 sum.1.1.1.0)
least_of_sums Kind Other (inl one) (inl other) = inl (
  one.0 + other.0,
  (
    (one.0, (other.0, (one.1.0, (other.1.0, refl)))),
    λ d sum. omega (arith, one.1.1 sum.0 sum.1.1.0, other.1.1 sum.1.0 sum.1.1.1.0, sum.1.1.1.1),
  ),
)

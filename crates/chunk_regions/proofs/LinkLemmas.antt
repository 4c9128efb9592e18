-- Links between regions that meet: where they lead, and what a new one keeps.
use Rattle.std.proofs.Common.{ℕ, zero, suc, ◌≡◌, ◌≤◌, ◌+◌, ◌-◌, ◌⊎◌, ◌∙◌, List, [], ◌∷◌, ◌++◌, length, length-append, min, max, set, ap, refl, inl, inr, sym, subst, arith}
use Rattle.std.specs.Prelude.{slice_index}
use Rattle.std.proofs.lemmas.Bool.{cases_eq, cases_lt}
use Rattle.std.proofs.lemmas.List.{get_or_push, get_or_append_left, get_or-set_same, get_or-set_other, length-set}
use Rattle.nav_types.specs.declared.cells.Cell.{Cell}
use Rattle.chunk_regions.specs.inner.Joining.{LeadDown, follow, IsRoot, IsRootOf, AreJoined, AreShared, AreOne, KeepsShared, AreGrown}
use Rattle.chunk_regions.proofs.BoundLemmas.{AreBounded-begin, AreBounded-next}

-- ---- where links lead

-- links lead to a region
follow_within : (links : List ℕ) (region steps : ℕ) → LeadDown links → 1 ≤ region → region ≤ length links
    → (1 ≤ follow links steps region) × (follow links steps region ≤ length links)
follow_within links region zero down some known = (some, known)
follow_within links region (suc steps) down some known =
    let was = follow_within links region steps down some known in
    let least = was.0 in
    let most = was.1 in
    let to = down (follow links steps region - 1) (omega arith) in
    let below = to.1 in
    (to.0, omega arith)

-- and to one that has the same number, where regions that are linked do
follow_shared : (links : List ℕ) (number : ℕ → ℕ) (region steps : ℕ) → LeadDown links → AreShared links number → 1 ≤ region
    → region ≤ length links → number (follow links steps region) ≡ number region
follow_shared links number region zero down shared some known = refl
follow_shared links number region (suc steps) down shared some known =
    let at = follow links steps region in
    let was = follow_within links region steps down some known in
    let least = was.0 in
    let most = was.1 in
    let back : at - 1 + 1 ≡ at = omega arith in
    shared (at - 1) (omega arith) ∙ ap number back ∙ follow_shared links number region steps down shared some known

-- a region is one with its root
pub root_one : (links : List ℕ) (region root : ℕ) → LeadDown links → 1 ≤ region → region ≤ length links → IsRootOf links region root
    → AreOne links region root
root_one links region root down some known is = λ number shared.
    sym (follow_shared links number region is.steps down shared some known) ∙ ap number is.led

-- ---- a new link

-- a later root is linked to an earlier one
pub record IsLinked (links : List ℕ) (earlier later : ℕ) (joined : List ℕ) : Type 0 where
  pub low : IsRoot links earlier
  pub high : IsRoot links later
  pub order : earlier ≤ later
  pub is : joined ≡ set links (later - 1) earlier

-- which of the two roots is the later one
pub joined_cases : (links : List ℕ) (region other : ℕ) (joined : List ℕ) (earlier : ℕ) → IsRoot links region
    → (j : AreJoined links region other joined earlier)
    → ((earlier ≡ region) × IsLinked links region j.root joined) ⊎ ((earlier ≡ j.root) × IsLinked links j.root region joined)
joined_cases links region other joined earlier own j = elim (cases_lt region j.root) [
  | inl less ↦
      let low : min region j.root ≡ region = omega arith in
      let high : max region j.root ≡ j.root = omega arith in
      inl (
        j.is ∙ low,
        record {
          low = own;
          high = j.found.is;
          order = omega arith;
          is = j.linked ∙ ap (λ n. set links (n - 1) (min region j.root)) high ∙ ap (λ n. set links (j.root - 1) n) low;
        },
      )
  | inr more ↦
      let low : min region j.root ≡ j.root = omega arith in
      let high : max region j.root ≡ region = omega arith in
      inr (
        j.is ∙ low,
        record {
          low = j.found.is;
          high = own;
          order = more;
          is = j.linked ∙ ap (λ n. set links (n - 1) (min region j.root)) high ∙ ap (λ n. set links (region - 1) n) low;
        },
      )
]

-- the links of the two, and those of others
pub new_link : (links : List ℕ) (earlier later : ℕ) (joined : List ℕ) → IsLinked links earlier later joined
    → slice_index joined (later - 1) ≡ earlier
new_link links earlier later joined l =
    let some = l.high.some in
    let within = l.high.within in
    ap (λ (ns : List ℕ). slice_index ns (later - 1)) l.is ∙ get_or-set_same links (later - 1) earlier 0 (omega arith)

pub old_link : (links : List ℕ) (earlier later : ℕ) (joined : List ℕ) (place : ℕ) → IsLinked links earlier later joined
    → (place ≡ later - 1 → ⊥) → slice_index joined place ≡ slice_index links place
old_link links earlier later joined place l apart =
    ap (λ (ns : List ℕ). slice_index ns place) l.is ∙ get_or-set_other links (later - 1) place earlier 0 apart

pub same_count : (links : List ℕ) (earlier later : ℕ) (joined : List ℕ) → IsLinked links earlier later joined → length joined ≡ length links
same_count links earlier later joined l = ap (λ (ns : List ℕ). length ns) l.is ∙ length-set links (later - 1) earlier

pub LeadDown-linked : (links : List ℕ) (earlier later : ℕ) (joined : List ℕ) → IsLinked links earlier later joined → LeadDown links → LeadDown joined
LeadDown-linked links earlier later joined l down = λ place inside.
    let count = same_count links earlier later joined l in
    elim (cases_eq place (later - 1)) [
      | inl same ↦
          let new = ap (λ k. slice_index joined k) same ∙ new_link links earlier later joined l in
          let least = l.low.some in
          let some = l.high.some in
          let order = l.order in
          (omega arith, omega arith)
      | inr apart ↦
          let old = old_link links earlier later joined place l apart in
          let was = down place (omega arith) in
          let least = was.0 in
          let most = was.1 in
          (omega arith, omega arith)
    ]

pub IsRoot-linked : (links : List ℕ) (earlier later : ℕ) (joined : List ℕ) → IsLinked links earlier later joined → IsRoot joined earlier
IsRoot-linked links earlier later joined l =
    let count = same_count links earlier later joined l in
    let within = l.low.within in
    record {
      some = l.low.some;
      within = omega arith;
      last = elim (cases_eq (earlier - 1) (later - 1)) [
        | inl same ↦ ap (λ k. slice_index joined k) same ∙ new_link links earlier later joined l
        | inr apart ↦ old_link links earlier later joined (earlier - 1) l apart ∙ l.low.last
      ];
    }

pub KeepsShared-linked : (links : List ℕ) (earlier later : ℕ) (joined : List ℕ) → IsLinked links earlier later joined → KeepsShared links joined
KeepsShared-linked links earlier later joined l = λ number shared place inside.
    let count = same_count links earlier later joined l in
    elim (cases_eq place (later - 1)) [
      | inl same ↦
          let some = l.high.some in
          let own : slice_index links place ≡ place + 1 = ap (λ k. slice_index links k) same ∙ l.high.last ∙ omega arith in
          ap number own
      | inr apart ↦ ap number (sym (old_link links earlier later joined place l apart)) ∙ shared place (omega arith)
    ]

-- the two are one
pub linked_one : (links : List ℕ) (earlier later : ℕ) (joined : List ℕ) → IsLinked links earlier later joined → AreOne joined later earlier
linked_one links earlier later joined l = λ number shared.
    let count = same_count links earlier later joined l in
    let some = l.high.some in
    let within = l.high.within in
    let back : later ≡ later - 1 + 1 = omega arith in
    ap number back ∙ sym (shared (later - 1) (omega arith)) ∙ ap number (new_link links earlier later joined l)

-- what was joined
pub AreJoined-count : (links : List ℕ) (region other : ℕ) (joined : List ℕ) (earlier : ℕ) → AreJoined links region other joined earlier
    → length joined ≡ length links
AreJoined-count links region other joined earlier j =
    ap (λ (ns : List ℕ). length ns) j.linked ∙ length-set links (max region j.root - 1) (min region j.root)

pub AreJoined-down : (links : List ℕ) (region other : ℕ) (joined : List ℕ) (earlier : ℕ) → IsRoot links region → LeadDown links
    → AreJoined links region other joined earlier → LeadDown joined
AreJoined-down links region other joined earlier own down j = elim (joined_cases links region other joined earlier own j) [
  | inl first ↦ LeadDown-linked links region j.root joined first.1 down
  | inr second ↦ LeadDown-linked links j.root region joined second.1 down
]

pub AreJoined-root : (links : List ℕ) (region other : ℕ) (joined : List ℕ) (earlier : ℕ) → IsRoot links region
    → AreJoined links region other joined earlier → IsRoot joined earlier
AreJoined-root links region other joined earlier own j = elim (joined_cases links region other joined earlier own j) [
  | inl first ↦ subst (λ n. IsRoot joined n) (sym first.0) (IsRoot-linked links region j.root joined first.1)
  | inr second ↦ subst (λ n. IsRoot joined n) (sym second.0) (IsRoot-linked links j.root region joined second.1)
]

pub AreJoined-kept : (links : List ℕ) (region other : ℕ) (joined : List ℕ) (earlier : ℕ) → IsRoot links region
    → AreJoined links region other joined earlier → KeepsShared links joined
AreJoined-kept links region other joined earlier own j = elim (joined_cases links region other joined earlier own j) [
  | inl first ↦ KeepsShared-linked links region j.root joined first.1
  | inr second ↦ KeepsShared-linked links j.root region joined second.1
]

-- both are one with the earlier
pub AreJoined-region : (links : List ℕ) (region other : ℕ) (joined : List ℕ) (earlier : ℕ) → IsRoot links region
    → AreJoined links region other joined earlier → AreOne joined region earlier
AreJoined-region links region other joined earlier own j = elim (joined_cases links region other joined earlier own j) [
  | inl first ↦ λ number shared. ap number (sym first.0)
  | inr second ↦ λ number shared. linked_one links j.root region joined second.1 number shared ∙ ap number (sym second.0)
]

pub AreJoined-other : (links : List ℕ) (region other : ℕ) (joined : List ℕ) (earlier : ℕ) → IsRoot links region → LeadDown links → 1 ≤ other
    → other ≤ length links → AreJoined links region other joined earlier → AreOne joined other earlier
AreJoined-other links region other joined earlier own down some known j = λ number shared.
    root_one links other j.root down some known j.found number (AreJoined-kept links region other joined earlier own j number shared)
    ∙ elim (joined_cases links region other joined earlier own j) [
      | inl first ↦ linked_one links region j.root joined first.1 number shared ∙ ap number (sym first.0)
      | inr second ↦ ap number (sym second.0)
    ]

-- ---- regions with their links

-- no spans
pub AreGrown-none : AreGrown [] [] []
AreGrown-none = record {
  bounded = record {
    few = omega arith;
    within = λ k inside. absurd (omega arith);
  };
  each = refl;
  down = λ place inside. absurd (omega arith);
}

-- the next span begins a region
pub AreGrown-begin : (regions : List ℕ) (firsts : List Cell) (links : List ℕ) (cell : Cell) → AreGrown regions firsts links
    → AreGrown (regions ++ (length firsts + 1) ∷ []) (firsts ++ cell ∷ []) (links ++ (length firsts + 1) ∷ [])
AreGrown-begin regions firsts links cell grown =
    let n = length firsts + 1 in
    let more : length (firsts ++ cell ∷ []) ≡ length firsts + 1 = length-append firsts (cell ∷ []) in
    let other : length (links ++ n ∷ []) ≡ length links + 1 = length-append links (n ∷ []) in
    let each = grown.each in
    record {
      bounded = AreBounded-begin regions firsts cell grown.bounded;
      each = omega arith;
      down = λ place inside. elim (cases_lt place (length links)) [
        | inl less ↦
            let same = get_or_append_left links (n ∷ []) 0 place less in
            let was = grown.down place less in
            let least = was.0 in
            let most = was.1 in
            (omega arith, omega arith)
        | inr last ↦ let same = get_or_push links n 0 place (omega arith) in (omega arith, omega arith)
      ];
    }

-- a region more keeps the links of those before
pub KeepsShared-begin : (links : List ℕ) (n : ℕ) → KeepsShared links (links ++ n ∷ [])
KeepsShared-begin links n = λ number shared place inside.
    let longer : length (links ++ n ∷ []) ≡ length links + 1 = length-append links (n ∷ []) in
    ap number (sym (get_or_append_left links (n ∷ []) 0 place inside)) ∙ shared place (omega arith)

-- the next span takes a region
pub AreGrown-next : (regions : List ℕ) (firsts : List Cell) (links : List ℕ) (n : ℕ) → IsRoot links n → AreGrown regions firsts links
    → AreGrown (regions ++ n ∷ []) firsts links
AreGrown-next regions firsts links n root grown =
    let some = root.some in
    let within = root.within in
    let each = grown.each in
    record {
      bounded = AreBounded-next regions firsts n some (omega arith) grown.bounded;
      each = grown.each;
      down = grown.down;
    }

-- links change that lead down
pub AreGrown-linked : (regions : List ℕ) (firsts : List Cell) (links joined : List ℕ) → length joined ≡ length links → LeadDown joined
    → AreGrown regions firsts links → AreGrown regions firsts joined
AreGrown-linked regions firsts links joined count down grown = record {
  bounded = grown.bounded;
  each = count ∙ grown.each;
  down = down;
}

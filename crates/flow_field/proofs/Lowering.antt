-- A mark that falls leaves what is known of marks that spread.
use Rattle.std.proofs.Common.{ℕ, ◌≡◌, ◌+◌, ◌-◌, ◌*◌, ◌<◌, ◌≤◌, ◌⊎◌, inl, inr, Bool, cond, ltb, List, IsTrue, length, get_or, set, count_by, sym, ap, ◌∙◌, subst, arith}
use Rattle.std.proofs.lemmas.Bool.{cases_eq, cases_lt, lt-ltb, le-ltb, cond-true, cond-false}
use Rattle.std.proofs.lemmas.List.{length-set, get_or-set_same, get_or-set_other}
use Rattle.std.proofs.lemmas.List.Sums.{sum_by-set}
use Rattle.nav_types.specs.declared.cells.Cell.{Cell}
use Rattle.nav_types.specs.declared.cells.Size.{Size}
use Rattle.nav_types.specs.declared.directions.Dir.{Dir}
use Rattle.nav_types.specs.Cells.{IsInside}
use Rattle.nav_types.specs.Walks.{Joined}
use Rattle.flow_field.specs.Flows.{LeadsToTarget}
use Rattle.flow_field.specs.inner.Marks.{free, spot_of, mark_of, IsSound, IsSpreading}
use Rattle.flow_field.proofs.Spots.{spot_of-lt, spot_of-inj}

-- whether a mark counts as known
abbrev pub known : ℕ → ℕ
known mark = cond (ltb mark free) 1 0

pub known_is : (mark : ℕ) → ((mark < free) × (known mark ≡ 1)) ⊎ ((free ≤ mark) × (known mark ≡ 0))
known_is mark = elim (cases_lt mark free) [
  | inl below ↦ inl (below, cond-true (ltb mark free) 1 0 (lt-ltb mark free below))
  | inr above ↦ inr (above, cond-false (ltb mark free) 1 0 (le-ltb mark free above))
]

counted : (marks : List ℕ) (p mark : ℕ) → p < length marks → count_by (λ x. ltb x free) (set marks p mark) + known (get_or marks p 0) ≡ count_by (λ x. ltb x free) marks + known mark
counted marks p mark below = sum_by-set (λ (x : ℕ). cond (ltb x free) 1 0) marks p mark 0 below

-- the mark of a passable cell falls to one that a walk gives
pub record IsFall (passes hit : Cell → Bool) (start : Cell) (size : Size) (marks : List ℕ) (next : Cell) (mark : ℕ) : Type 0 where
  pub passable : IsTrue (passes next)
  pub some : 0 < mark
  pub less : mark < mark_of size marks next
  pub joined : Joined passes start next
  pub walk : (dirs : List Dir) × LeadsToTarget passes hit next dirs (mark - 1)
  pub most : mark ≤ 1 + 92682 * (count_by (λ x. ltb x free) marks + 1 - known (mark_of size marks next))

-- the cell is not the one whose mark falls, or it is
which : (passes : Cell → Bool) (size : Size) (inside : (cell : Cell) → IsTrue (passes cell) → IsInside size cell) (next cell : Cell) → IsTrue (passes next) → IsTrue (passes cell)
    → (next ≡ cell) ⊎ (spot_of size cell ≡ spot_of size next → ⊥)
which passes size inside next cell passable here = elim (cases_eq (spot_of size cell) (spot_of size next)) [
  | inl same ↦ inl (spot_of-inj size next cell (inside next passable) (inside cell here) (sym same))
  | inr other ↦ inr other
]

sound_fallen : (passes hit : Cell → Bool) (start : Cell) (size : Size) (marks : List ℕ) (next : Cell) (mark : ℕ)
    → IsFall passes hit start size marks next mark → IsSound passes hit start size marks → IsSound passes hit start size (set marks (spot_of size next) mark)
sound_fallen passes hit start size marks next mark fall sound =
    let p = spot_of size next in
    let news = set marks p mark in
    let less = fall.less in
    let some = fall.some in
    let most_here = sound.most p in
    let within : p < length marks = omega (arith, spot_of-lt size next (sound.inside next fall.passable), sound.long) in
    let at : get_or news p 0 ≡ mark = get_or-set_same marks p mark 0 within in
    let same_at : (k : ℕ) → k ≡ p → get_or news k 0 ≡ mark = λ k e. ap (λ (i : ℕ). get_or news i 0) e ∙ at in
    let off : (k : ℕ) → (k ≡ p → ⊥) → get_or news k 0 ≡ get_or marks k 0 = λ k e. get_or-set_other marks p k mark 0 e in
    let sums = counted marks p mark within in
    let one : known mark ≡ 1 = elim (known_is mark) [ inl w ↦ w.1 | inr w ↦ absurd (omega (arith, w.0)) ] in
    let before : known (get_or marks p 0) ≤ 1 = elim (known_is (get_or marks p 0)) [ inl w ↦ omega (arith, w.1) | inr w ↦ omega (arith, w.1) ] in
    let grown : count_by (λ x. ltb x free) marks ≤ count_by (λ x. ltb x free) news = omega arith in
    record {
      inside = sound.inside;
      long = length-set marks p mark ∙ sound.long;
      most = λ k. elim (cases_eq k p) [
        | inl same ↦ omega (arith, same_at k same)
        | inr other ↦ omega (arith, off k other, sound.most k)
      ];
      passable = λ cell here. elim (cases_eq (spot_of size cell) p) [
        | inl same ↦ omega (arith, same_at (spot_of size cell) same)
        | inr other ↦ omega (arith, off (spot_of size cell) other, sound.passable cell here)
      ];
      cells = λ k held. elim (cases_eq k p) [
        | inl same ↦ (next, (fall.passable, same))
        | inr other ↦ sound.cells k (omega (arith, off k other))
      ];
      joined = λ cell here below. elim (which passes size sound.inside next cell fall.passable here) [
        | inl same ↦ subst (λ (c : Cell). Joined passes start c) same fall.joined
        | inr other ↦ sound.joined cell here (omega (arith, off (spot_of size cell) other))
      ];
      walks = λ cell here below. elim (which passes size sound.inside next cell fall.passable here) [
        | inl same ↦
            let P = λ (c : Cell). (dirs : List Dir) × LeadsToTarget passes hit c dirs (mark_of size news c - 1) in
            let Q = λ (n : ℕ). (dirs : List Dir) × LeadsToTarget passes hit next dirs (n - 1) in
            subst P same (subst Q (sym at) fall.walk)
        | inr other ↦
            let Q = λ (n : ℕ). (dirs : List Dir) × LeadsToTarget passes hit cell dirs (n - 1) in
            let e = off (spot_of size cell) other in
            subst Q (sym e) (sound.walks cell here (omega arith))
      ];
      few = λ k below. elim (cases_eq k p) [
        | inl same ↦ omega (arith, same_at k same, fall.most)
        | inr other ↦ omega (arith, off k other, sound.few k (omega (arith, off k other)))
      ];
    }

-- what waits after a fall: what did, and the place
pub record IsQueued (p : ℕ) (Old New : ℕ → Type 0) : Type 0 where
  pub kept : (spot : ℕ) → Old spot → New spot
  pub added : New p
  pub only : (spot : ℕ) → New spot → Old spot ⊎ (spot ≡ p)

pub spreading_fallen : (passes hit : Cell → Bool) (start : Cell) (size : Size) (Found : Cell → Type 0) (LeftOut : Cell → Dir → Type 0) (marks : List ℕ) (Old New : ℕ → Type 0) (next : Cell) (mark : ℕ)
    → IsFall passes hit start size marks next mark → IsQueued (spot_of size next) Old New
    → IsSpreading passes hit start size Found LeftOut marks Old → IsSpreading passes hit start size Found LeftOut (set marks (spot_of size next) mark) New
spreading_fallen passes hit start size Found LeftOut marks Old New next mark fall queued spreads =
    let p = spot_of size next in
    let news = set marks p mark in
    let sound = spreads.sound in
    let less = fall.less in
    let some = fall.some in
    let most_here = sound.most p in
    let within : p < length marks = omega (arith, spot_of-lt size next (sound.inside next fall.passable), sound.long) in
    let at : get_or news p 0 ≡ mark = get_or-set_same marks p mark 0 within in
    let same_at : (k : ℕ) → k ≡ p → get_or news k 0 ≡ mark = λ k e. ap (λ (i : ℕ). get_or news i 0) e ∙ at in
    let off : (k : ℕ) → (k ≡ p → ⊥) → get_or news k 0 ≡ get_or marks k 0 = λ k e. get_or-set_other marks p k mark 0 e in
    let lower : (k : ℕ) → get_or news k 0 ≤ get_or marks k 0 = λ k. elim (cases_eq k p) [
      | inl same ↦ omega (arith, same_at k same, ap (λ (i : ℕ). get_or marks i 0) same)
      | inr other ↦ omega (arith, off k other)
    ] in
    record {
      sound = sound_fallen passes hit start size marks next mark fall sound;
      reached = λ k waits. elim (cases_eq k p) [
        | inl same ↦ (omega (arith, same_at k same), omega (arith, same_at k same))
        | inr other ↦ elim (queued.only k waits) [
          | inl old ↦ let was = spreads.reached k old in (omega (arith, was.0, off k other), omega (arith, was.1, off k other))
          | inr here ↦ absurd (other here)
        ]
      ];
      ends = λ target found is_hit joined.
          let was = spreads.ends target found is_hit joined in
          elim (cases_eq (spot_of size target) p) [
            | inl same ↦ absurd (omega (arith, was, ap (λ (i : ℕ). get_or marks i 0) same))
            | inr other ↦ off (spot_of size target) other ∙ was
          ];
      settled = λ cell dir here below.
          elim (cases_eq (spot_of size cell) p) [
            | inl same ↦ inr (inl (subst New (sym same) queued.added))
            | inr other ↦
                let e = off (spot_of size cell) other in
                elim (spreads.settled cell dir here (omega arith)) [
                  | inl settled ↦ inl (λ to step. omega (arith, settled to step, lower (spot_of size to), e))
                  | inr rest ↦ elim rest [
                    | inl waits ↦ inr (inl (queued.kept (spot_of size cell) waits))
                    | inr out ↦ inr (inr out)
                  ]
                ]
          ];
    }

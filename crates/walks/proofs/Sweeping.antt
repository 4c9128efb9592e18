-- A lowered table stays sound, and a sound table that is settled is exact.
use Rattle.std.proofs.Common.{ℕ, ◌≡◌, ◌+◌, ◌-◌, ◌*◌, ◌<◌, ◌≤◌, ◌⊎◌, inl, inr, Bool, true, false, ◌||◌, cond, ltb, List, [], ◌∷◌, ◌++◌, IsTrue, length, get_or, set, sum, count_by, refl, sym, ap, ◌∙◌, subst, arith, below_more}
use Rattle.std.specs.Prelude.{replicate}
use Rattle.std.proofs.lemmas.Bool.{cases_eq, cases_lt, cases_Bool, or_parts, or_cases, ltb-true, ltb-false, lt-ltb, le-ltb, cond-true, cond-false, both_ways}
use Rattle.std.proofs.lemmas.List.{length-set, length-replicate, get_or-set_same, get_or-set_other, get_or-replicate, get_or_past}
use Rattle.std.proofs.lemmas.List.Sums.{sum_by-set, sum_by-cons, count_by-le-length}
use Rattle.std.proofs.lemmas.Nat.{mul-le}
use Rattle.nav_types.specs.declared.cells.Cell.{Cell}
use Rattle.nav_types.specs.declared.cells.Size.{Size}
use Rattle.nav_types.specs.declared.directions.Dir.{Dir}
use Rattle.nav_types.specs.declared.directions.Dir.TheVariants.{N, E, S, W, NE, SE, SW, NW}
use Rattle.nav_types.specs.Cells.{IsInside}
use Rattle.nav_types.specs.Directions.{step_cost}
use Rattle.nav_types.specs.Walks.{Step, IsWalk, walk_cost}
use Rattle.nav_types.specs.Places.{place_of, cell_of}
use Rattle.walks.specs.inner.Tables.{entry, unreached, CoversMap, IsSoundTable, IsSoundForSome, IsSettledAlong, IsSettledAt, IsSettled, Lowers, HasDistances}
use Rattle.nav_types.proofs.CellPlaces.{place_of-lt, place_of-inj, cell_of-place_of}
use Rattle.nav_types.proofs.Walking.{IsWalk-push, walk_cost-push, leads_to_same, step_cost_most, step_cost_some}

pub few_cells : (size : Size) → size.w * size.h ≤ 4194304
few_cells size =
    let wide = size.wide in let high = size.high in
    mul-le size.w size.h 2048 2048 wide.few high.few

-- the table where a walk has reached the start alone

blank_at : (n p k : ℕ) → p < n → (k ≡ p) ⊎ (((k < n) × (get_or (set (replicate n unreached) p 0) k 0 ≡ unreached)) ⊎ ((n ≤ k) × (get_or (set (replicate n unreached) p 0) k 0 ≡ 0)))
blank_at n p k below =
    elim (cases_eq k p) [
      | inl same ↦ inl same
      | inr other ↦
          let off = get_or-set_other (replicate n unreached) p k 0 0 other in
          elim (cases_lt k n) [
            | inl within ↦ inr (inl (within, off ∙ get_or-replicate n k unreached 0 within))
            | inr past ↦ inr (inr (past, off ∙ get_or_past (replicate n unreached) k 0 (omega (arith, length-replicate n unreached))))
          ]
    ]

pub sound_blank : (passes : Cell → Bool) (start : Cell) (size : Size) → IsInside size start → IsSoundTable passes start size (set (replicate (size.w * size.h) unreached) (place_of size start) 0)
sound_blank passes start size inside =
    let n = size.w * size.h in
    let p = place_of size start in
    let table = set (replicate n unreached) p 0 in
    let below : p < n = place_of-lt size start inside in
    let zero_at : get_or table p 0 ≡ 0 = get_or-set_same (replicate n unreached) p 0 0 (omega (arith, length-replicate n unreached)) in
    let at_start : (k : ℕ) → k ≡ p → get_or table k 0 ≡ 0 = λ k e. ap (λ (i : ℕ). get_or table i 0) e ∙ zero_at in
    record {
      covers = length-set (replicate n unreached) p 0 ∙ length-replicate n unreached;
      starts = zero_at;
      most = λ k. elim (blank_at n p k below) [
        | inl same ↦ omega (arith, at_start k same)
        | inr rest ↦ elim rest [ inl far ↦ omega (arith, far.1) | inr past ↦ omega (arith, past.1) ]
      ];
      walks = λ cell in_cell less. elim (blank_at n p (place_of size cell) below) [
        | inl same ↦ ([], (place_of-inj size start cell inside in_cell (sym same), sym (at_start (place_of size cell) same)))
        | inr rest ↦ elim rest [
          | inl far ↦ absurd (omega (arith, less, far.1))
          | inr past ↦ absurd (omega (arith, place_of-lt size cell in_cell, past.0))
        ]
      ];
      few = λ k less. elim (blank_at n p k below) [
        | inl same ↦ omega (arith, at_start k same)
        | inr rest ↦ elim rest [ inl far ↦ absurd (omega (arith, less, far.1)) | inr past ↦ omega (arith, past.1) ]
      ];
    }

-- one cost made less

weight : ℕ → ℕ
weight cost = cond (ltb cost unreached) 1 0

weight_is : (cost : ℕ) → ((cost < unreached) × (weight cost ≡ 1)) ⊎ ((unreached ≤ cost) × (weight cost ≡ 0))
unfolding weight
weight_is cost = elim (cases_lt cost unreached) [
  | inl below ↦ inl (below, cond-true (ltb cost unreached) 1 0 (lt-ltb cost unreached below))
  | inr above ↦ inr (above, cond-false (ltb cost unreached) 1 0 (le-ltb cost unreached above))
]

-- what is known of a table and its lowered one
record IsLowered (passes : Cell → Bool) (size : Size) (costs : List ℕ) (cell next : Cell) (dir : Dir) (cost : ℕ) : Type 0 where
  pub in_cell : IsInside size cell
  pub in_next : IsInside size next
  pub step : Step passes dir cell next
  pub is : cost ≡ entry size costs cell + step_cost dir
  pub less : cost < entry size costs next

counted : (costs : List ℕ) (p cost : ℕ) → p < length costs → count_by (λ x. ltb x unreached) (set costs p cost) + weight (get_or costs p 0) ≡ count_by (λ x. ltb x unreached) costs + weight cost
unfolding weight
counted costs p cost below = sum_by-set (λ (x : ℕ). cond (ltb x unreached) 1 0) costs p cost 0 below

few_lowered : (passes : Cell → Bool) (start : Cell) (size : Size) (costs : List ℕ) (cell next : Cell) (dir : Dir) (cost : ℕ)
    → IsLowered passes size costs cell next dir cost → IsSoundTable passes start size costs
    → (k : ℕ) → get_or (set costs (place_of size next) cost) k 0 < unreached
    → get_or (set costs (place_of size next) cost) k 0 ≤ 92682 * count_by (λ x. ltb x unreached) (set costs (place_of size next) cost)
few_lowered passes start size costs cell next dir cost low sound k below =
    let p = place_of size next in
    let within : p < length costs = omega (arith, place_of-lt size next low.in_next, sound.covers) in
    let sums = counted costs p cost within in
    let fewest = step_cost_most dir in
    let known : cost < unreached = omega (arith, low.less, sound.most p) in
    let here : entry size costs cell ≤ 92682 * count_by (λ x. ltb x unreached) costs = sound.few (place_of size cell) (omega (arith, low.is, step_cost_some dir)) in
    let one : weight cost ≡ 1 = elim (weight_is cost) [ inl w ↦ w.1 | inr w ↦ absurd (omega (arith, w.0)) ] in
    let there : cost ≤ 92682 * count_by (λ x. ltb x unreached) (set costs p cost) =
    elim (weight_is (get_or costs p 0)) [
      | inl w ↦ omega (arith, sound.few p w.0, w.1, low.less)
      | inr w ↦ omega (arith, w.1, low.is)
    ] in
    let grown : count_by (λ x. ltb x unreached) costs ≤ count_by (λ x. ltb x unreached) (set costs p cost) =
    elim (weight_is (get_or costs p 0)) [ inl w ↦ omega (arith, w.1) | inr w ↦ omega (arith, w.1) ] in
    elim (cases_eq k p) [
      | inl same ↦ omega (arith, ap (λ (i : ℕ). get_or (set costs p cost) i 0) same, get_or-set_same costs p cost 0 within)
      | inr other ↦
          let off = get_or-set_other costs p k cost 0 other in
          omega (arith, sound.few k (omega arith))
    ]

walks_lowered : (passes : Cell → Bool) (start : Cell) (size : Size) (costs : List ℕ) (cell next : Cell) (dir : Dir) (cost : ℕ)
    → IsLowered passes size costs cell next dir cost → IsSoundTable passes start size costs
    → (at : Cell) → IsInside size at → entry size (set costs (place_of size next) cost) at < unreached
    → (dirs : List Dir) × (IsWalk passes start dirs at × (walk_cost dirs ≡ entry size (set costs (place_of size next) cost) at))
walks_lowered passes start size costs cell next dir cost low sound at in_at below =
    let p = place_of size next in
    let within : p < length costs = omega (arith, place_of-lt size next low.in_next, sound.covers) in
    elim (cases_eq (place_of size at) p) [
      | inl same ↦
          let is_next : next ≡ at = sym (place_of-inj size at next in_at low.in_next same) in
          let known : entry size costs cell < unreached = omega (arith, low.is, low.less, sound.most p) in
          let walk = sound.walks cell low.in_cell known in
          let P = λ (c : Cell). IsWalk passes start (walk.0 ++ dir ∷ []) c in
          let value : entry size (set costs p cost) at ≡ cost = ap (λ (i : ℕ). get_or (set costs p cost) i 0) same ∙ get_or-set_same costs p cost 0 within in
          let sums = walk_cost-push walk.0 dir in
          let was = walk.1.1 in
          (walk.0 ++ dir ∷ [], (subst P is_next (IsWalk-push passes walk.0 start cell next dir walk.1.0 low.step), omega (arith, low.is)))
      | inr other ↦
          let off : entry size (set costs p cost) at ≡ entry size costs at = get_or-set_other costs p (place_of size at) cost 0 other in
          let walk = sound.walks at in_at (omega arith) in
          (walk.0, (walk.1.0, walk.1.1 ∙ sym off))
    ]

sound_lowered : (passes : Cell → Bool) (start : Cell) (size : Size) (costs : List ℕ) (cell next : Cell) (dir : Dir) (cost : ℕ)
    → IsLowered passes size costs cell next dir cost → IsSoundTable passes start size costs → IsSoundTable passes start size (set costs (place_of size next) cost)
sound_lowered passes start size costs cell next dir cost low sound =
    let p = place_of size next in
    let within : p < length costs = omega (arith, place_of-lt size next low.in_next, sound.covers) in
    record {
      covers = length-set costs p cost ∙ sound.covers;
      starts = elim (cases_eq (place_of size start) p) [
        | inl same ↦ absurd (omega (arith, low.less, sound.starts, ap (λ (i : ℕ). get_or costs i 0) same))
        | inr other ↦ get_or-set_other costs p (place_of size start) cost 0 other ∙ sound.starts
      ];
      most = λ k. elim (cases_eq k p) [
        | inl same ↦ omega (arith, ap (λ (i : ℕ). get_or (set costs p cost) i 0) same, get_or-set_same costs p cost 0 within, low.less, sound.most p)
        | inr other ↦ omega (arith, get_or-set_other costs p k cost 0 other, sound.most k)
      ];
      walks = walks_lowered passes start size costs cell next dir cost low sound;
      few = few_lowered passes start size costs cell next dir cost low sound;
    }

-- what a step along one direction leaves, by whether the cost fell
pub relaxes_along : (passes : Cell → Bool) (size : Size) (costs news : List ℕ) (cell next : Cell) (dir : Dir) (cost : ℕ) (fell : Bool)
    → CoversMap size costs → IsInside size cell → IsInside size next → Step passes dir cell next → cost ≡ entry size costs cell + step_cost dir
    → fell ≡ ltb cost (entry size costs next) → news ≡ cond fell (set costs (place_of size next) cost) costs
    → Lowers passes size (IsSettledAlong passes size cell dir) costs news fell
relaxes_along passes size costs news cell next dir cost true covers in_cell in_next step is tested lowered =
    let low : IsLowered passes size costs cell next dir cost = record { in_cell = in_cell; in_next = in_next; step = step; is = is; less = ltb-true cost (entry size costs next) (sym tested) } in
    let within : place_of size next < length costs = omega (arith, place_of-lt size next in_next, covers) in
    record {
      sound = λ start sound. let P = λ (table : List ℕ). IsSoundTable passes start size table in subst P (sym lowered) (sound_lowered passes start size costs cell next dir cost low sound);
      less = λ _. omega (arith, ap sum lowered, sum_by-set (λ (x : ℕ). x) costs (place_of size next) cost 0 within, low.less);
      same = λ e. absurd (both_ways true e refl);
      settled = λ e. absurd (both_ways true e refl);
    }
relaxes_along passes size costs news cell next dir cost false covers in_cell in_next step is tested kept =
    let no_less : entry size costs next ≤ cost = ltb-false cost (entry size costs next) (sym tested) in
    record {
      sound = λ start sound. let P = λ (table : List ℕ). IsSoundTable passes start size table in subst P (sym kept) sound;
      less = λ e. absurd (both_ways false refl e);
      same = λ _. kept;
      settled = λ _. λ other taken.
          let P = λ (table : List ℕ). entry size table other ≤ entry size table cell + step_cost dir in
          let Q = λ (c : Cell). entry size costs c ≤ entry size costs cell + step_cost dir in
          subst P (sym kept) (subst Q (leads_to_same dir cell next other step.leads taken.leads) (omega arith));
    }

pub relaxes_none : (passes : Cell → Bool) (size : Size) (Settled : List ℕ → Type 0) (costs : List ℕ) → Settled costs → Lowers passes size Settled costs costs false
relaxes_none passes size Settled costs settled = record {
  sound = λ start sound. sound;
  less = λ e. absurd (both_ways false refl e);
  same = λ _. refl;
  settled = λ _. settled;
}

-- one round more of a loop
pub relaxes_more : (passes : Cell → Bool) (size : Size) (Settled : ℕ → List ℕ → Type 0) (i : ℕ) (a b c : List ℕ) (f g : Bool)
    → Lowers passes size (λ table. (k : ℕ) → k < i → Settled k table) a b f → Lowers passes size (Settled i) b c g
    → Lowers passes size (λ table. (k : ℕ) → k < i + 1 → Settled k table) a c (f || g)
relaxes_more passes size Settled i a b c f g old new = record {
  sound = λ start sound. new.sound start (old.sound start sound);
  less = λ e. elim (cases_Bool f) [
    | inl yes_f ↦ elim (cases_Bool g) [
      | inl yes_g ↦ omega (arith, old.less yes_f, new.less yes_g)
      | inr no_g ↦ omega (arith, old.less yes_f, ap sum (new.same no_g))
    ]
    | inr no_f ↦ elim (or_cases f g e) [
      | inl yes_f ↦ absurd (both_ways f no_f yes_f)
      | inr yes_g ↦ omega (arith, new.less yes_g, ap sum (old.same no_f))
    ]
  ];
  same = λ e. let parts = or_parts f g e in new.same parts.1 ∙ old.same parts.0;
  settled = λ e.
      let parts = or_parts f g e in
      let P = λ (table : List ℕ). (k : ℕ) → k < i → Settled k table in
      below_more (λ k. Settled k c) i (subst P (sym (new.same parts.1)) (old.settled parts.0)) (new.settled parts.1);
}

pub relaxes_as : (passes : Cell → Bool) (size : Size) (Settled Wanted : List ℕ → Type 0) (a b : List ℕ) (f : Bool)
    → ((table : List ℕ) → Settled table → Wanted table) → Lowers passes size Settled a b f → Lowers passes size Wanted a b f
relaxes_as passes size Settled Wanted a b f turn relaxes = record {
  sound = relaxes.sound;
  less = relaxes.less;
  same = relaxes.same;
  settled = λ e. turn b (relaxes.settled e);
}

pub table_kept : (passes : Cell → Bool) (size : Size) (Settled : List ℕ → Type 0) (a b : List ℕ) (f : Bool) → Lowers passes size Settled a b f → IsSoundForSome passes size a → IsSoundForSome passes size b
table_kept passes size Settled a b f relaxes table = (table.0, relaxes.sound table.0 table.1)

pub settled_throughout : (passes : Cell → Bool) (size : Size) (costs : List ℕ) (forward : Bool) (count passed : ℕ) → count ≡ size.w * size.h → count ≤ passed
    → ((k : ℕ) → k < passed → IsSettledAt passes size (cell_of size (cond forward k (count - 1 - k))) costs) → IsSettled passes size costs
settled_throughout passes size costs true count passed whole past each = λ cell inside.
    let below = place_of-lt size cell inside in
    let P = λ (c : Cell). IsSettledAt passes size c costs in
    subst P (cell_of-place_of size cell inside) (each (place_of size cell) (omega arith))
settled_throughout passes size costs false count passed whole past each = λ cell inside.
    let below = place_of-lt size cell inside in
    let P = λ (c : Cell). IsSettledAt passes size c costs in
    let back : count - 1 - (count - 1 - place_of size cell) ≡ place_of size cell = omega arith in
    subst P (ap (cell_of size) back ∙ cell_of-place_of size cell inside) (each (count - 1 - place_of size cell) (omega arith))

pub each_dir : (P : Dir → Type 0) → P N → P E → P S → P W → P NE → P SE → P SW → P NW → (dir : Dir) → P dir
each_dir P n e s w ne se sw nw N = n
each_dir P n e s w ne se sw nw E = e
each_dir P n e s w ne se sw nw S = s
each_dir P n e s w ne se sw nw W = w
each_dir P n e s w ne se sw nw NE = ne
each_dir P n e s w ne se sw nw SE = se
each_dir P n e s w ne se sw nw SW = sw
each_dir P n e s w ne se sw nw NW = nw

-- a sound table that is settled is exact

walk_most : (passes : Cell → Bool) (size : Size) (costs : List ℕ) → ((cell : Cell) → IsTrue (passes cell) → IsInside size cell) → IsSettled passes size costs
    → (dirs : List Dir) (from to : Cell) → IsWalk passes from dirs to → entry size costs to ≤ entry size costs from + walk_cost dirs
walk_most passes size costs within settled [] from to walk = omega (arith, ap (entry size costs) walk)
walk_most passes size costs within settled (dir ∷ dirs) from to walk =
    let step = walk.1.0 in
    omega (arith, settled from (within from step.start) dir walk.0 step, walk_most passes size costs within settled dirs walk.0 to walk.1.1, sum_by-cons step_cost dir dirs)

walk_reached : (passes : Cell → Bool) (start : Cell) (size : Size) (costs : List ℕ) → ((cell : Cell) → IsTrue (passes cell) → IsInside size cell) → IsSettled passes size costs → IsSoundTable passes start size costs
    → (dirs : List Dir) (from to : Cell) → entry size costs from < unreached → IsWalk passes from dirs to → entry size costs to < unreached
walk_reached passes start size costs within settled sound [] from to below walk = omega (arith, ap (entry size costs) walk)
walk_reached passes start size costs within settled sound (dir ∷ dirs) from to below walk =
    let step = walk.1.0 in
    let here = sound.few (place_of size from) below in
    let count : count_by (λ x. ltb x unreached) costs ≤ 4194304 = omega (arith, count_by-le-length (λ (x : ℕ). ltb x unreached) costs, sound.covers, few_cells size) in
    let next : entry size costs walk.0 < unreached = omega (arith, settled from (within from step.start) dir walk.0 step, step_cost_most dir) in
    walk_reached passes start size costs within settled sound dirs walk.0 to next walk.1.1

pub exact_settled : (passes : Cell → Bool) (start : Cell) (size : Size) (costs : List ℕ) → ((cell : Cell) → IsTrue (passes cell) → IsInside size cell) → IsSettled passes size costs → IsSoundTable passes start size costs
    → HasDistances passes start size costs
exact_settled passes start size costs within settled sound = record {
  covers = sound.covers;
  most = sound.most;
  distance = λ cell inside below. record {
    walk = sound.walks cell inside below;
    least = λ dirs walk. omega (arith, sound.starts, walk_most passes size costs within settled dirs start cell walk);
  };
  reached = λ cell dirs inside walk. walk_reached passes start size costs within settled sound dirs start cell (omega (arith, sound.starts)) walk;
}

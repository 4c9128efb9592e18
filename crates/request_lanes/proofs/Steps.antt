-- Each step keeps the rule of a lane.
use Rattle.std.proofs.Common.{◌≡◌, ◌≢◌, ℕ, zero, suc, ◌+◌, ◌^◌, ◌<◌, ◌≤◌, true, false, true≢false, max, List, [], ◌∷◌, ◌++◌, length, set, sym, refl, ap, ◌∙◌, subst, ⊎_elim, append_assoc, length-append, arith}
use mathlib.Core.Option.{some, some-ne-none}
use lib.ListN.{get_elem?}
use Rattle.crossbeam_queue.specs.Fifo.{Pushes, Pops, Forks, Merges, Learns}
use Rattle.crossbeam_queue.proofs.Lists.{at_set, at_snoc}
use Rattle.request_lanes.specs.declared.rule.Log.{Log}
use Rattle.request_lanes.specs.inner.Order.{log, posting, taking, IsPassOf, InOrder}

module _ {T : Type 0} where
  at_end : (l : List (Log T)) (a b : Log T) (j : ℕ) → get_elem? l j ≢ some b → get_elem? (l ++ a ∷ []) j ≡ some b → j ≡ length l
  at_end [] a b zero n e = refl
  at_end [] a b (suc j) n e = absurd (some-ne-none b (sym e))
  at_end (x ∷ xs) a b zero n e = absurd (n e)
  at_end (x ∷ xs) a b (suc j) n e = ap suc (at_end xs a b j n e)

  abbrev Each : (ℕ → Log T → Type 0) → List (Log T) → Type 0
  Each F views = (pass : ℕ) (v : Log T) → get_elem? views pass ≡ some v → F pass v

  each_set : (F : ℕ → Log T → Type 0) (views : List (Log T)) (pass : ℕ) (w : Log T) → F pass w → ((j : ℕ) (u : Log T) → j ≢ pass → get_elem? views j ≡ some u → F j u) → Each F (set views pass w)
  each_set F views pass w mine others j u e = ⊎_elim (λ (x : (j ≡ pass) × (w ≡ u)). subst (λ (y : ℕ × Log T). F y.0 y.1) (λ i. (sym x.0 i, x.1 i)) mine)
      (λ (x : (j ≢ pass) × (get_elem? views j ≡ some u)). others j u x.0 x.1) (at_set views pass j w u e)

  -- a pass that may do nothing fits anywhere, if it was told of no more than was posted
  idle_fits : (poster taker : ℕ) (posted taken : List T) (pass told : ℕ) → told ≤ length posted → IsPassOf poster taker posted taken pass (log false false [] [] told)
  idle_fits poster taker posted taken pass told few = record {
    posts = λ p. absurd (true≢false (sym p));
    takes = λ p. absurd (true≢false (sym p));
    told = few;
  }

  abbrev pub fresh : Log T
  fresh = log true true [] [] 0

  pub begins : InOrder [] (fresh ∷ [])
  begins = record {
    poster = 0;
    taker = 0;
    posted = [];
    taken = [];
    whole = refl;
    few = omega arith;
    fits = each_set (IsPassOf 0 0 [] []) (fresh ∷ []) 0 fresh (record { posts = λ _. (refl, refl); takes = λ _. (refl, refl); told = omega arith })
        (λ j u other e. absurd (other (at_end [] _ u j (λ x. some-ne-none u (sym x)) e)));
  }

  pub posts : (n pass : ℕ) (v : Log T) (item : T) → v.posts ≡ true → length v.posted < 2 ^ 62 → Pushes InOrder n pass v item (λ w. w ≡ posting v item)
  posts n pass v item may room queued views _ h at =
      let w : Log T = posting v item in
      let mine = h.fits pass v at in
      let all : List T = h.posted ++ item ∷ [] in
      let longer : length all ≡ length h.posted + 1 = length-append h.posted (item ∷ []) in
      let same : length v.posted ≡ length h.posted = ap length (mine.posts may).1 in
      let few = h.few in
      let told = mine.told in (
        w,
        record {
          poster = h.poster;
          taker = h.taker;
          posted = all;
          taken = h.taken;
          whole = ap (λ l. l ++ item ∷ []) h.whole ∙ append_assoc h.taken queued (item ∷ []);
          few = omega arith;
          fits = each_set (IsPassOf h.poster h.taker all h.taken) views pass w
              (record { posts = λ _. ((mine.posts may).0, ap (λ l. l ++ item ∷ []) (mine.posts may).1); takes = mine.takes; told = omega arith })
              (λ j u other e. let theirs = h.fits j u e in let heard = theirs.told in record {
                posts = λ p. absurd (other ((theirs.posts p).0 ∙ sym (mine.posts may).0));
                takes = theirs.takes;
                told = omega arith;
              });
        },
        refl,
      )

  -- the rule after the item at the front was taken
  after_take : (pass : ℕ) (v : Log T) → v.takes ≡ true → (item : T) (queued : List T) (views : List (Log T)) → InOrder (item ∷ queued) views → get_elem? views pass ≡ some v → InOrder queued (set views pass (taking v item))
  after_take pass v may item queued views h at =
      let w : Log T = taking v item in
      let mine = h.fits pass v at in
      let all : List T = h.taken ++ item ∷ [] in record {
        poster = h.poster;
        taker = h.taker;
        posted = h.posted;
        taken = all;
        whole = h.whole ∙ sym (append_assoc h.taken (item ∷ []) queued);
        few = h.few;
        fits = each_set (IsPassOf h.poster h.taker h.posted all) views pass w
            (record { posts = mine.posts; takes = λ _. ((mine.takes may).0, ap (λ l. l ++ item ∷ []) (mine.takes may).1); told = mine.told })
            (λ j u other e. let theirs = h.fits j u e in record {
              posts = theirs.posts;
              takes = λ p. absurd (other ((theirs.takes p).0 ∙ sym (mine.takes may).0));
              told = theirs.told;
            });
      }

  -- what was taken is no longer than what was posted, even with one item more
  few_taken : (v : Log T) (posted taken : List T) (item : T) (queued : List T) → v.taken ≡ taken → posted ≡ taken ++ item ∷ queued → length posted ≤ 2 ^ 62 → length (v.taken ++ item ∷ []) ≤ 2 ^ 62
  few_taken v posted taken item queued same whole few =
      let a : length (v.taken ++ item ∷ []) ≡ length v.taken + 1 = length-append v.taken (item ∷ []) in
      let b : length v.taken ≡ length taken = ap length same in
      let c : length posted ≡ length taken + suc (length queued) = ap length whole ∙ length-append taken (item ∷ queued) in
      omega arith

  pub takes : (pass : ℕ) (v : Log T) → v.takes ≡ true
      → Pops InOrder pass v (λ item w. (w ≡ taking v item) × (length w.taken ≤ 2 ^ 62) × (v.posts ≡ true → (left : List T) × (v.posted ≡ v.taken ++ item ∷ left)))
  takes pass v may item queued views h at = let mine = h.fits pass v at in (
    taking v item,
    after_take pass v may item queued views h at,
    (
      refl,
      few_taken v h.posted h.taken item queued (mine.takes may).1 h.whole h.few,
      λ both. (queued, (mine.posts both).1 ∙ h.whole ∙ ap (λ l. l ++ item ∷ queued) (sym (mine.takes may).1)),
    ),
  )

  pub sees : (pass : ℕ) (v : Log T) → v.takes ≡ true
      → Learns InOrder pass v (λ queued. (v.told ≤ length v.taken + length queued) × (v.posts ≡ true → v.posted ≡ v.taken ++ queued))
  sees pass v may queued views h at =
      let mine = h.fits pass v at in
      let told = mine.told in
      let a : length h.posted ≡ length h.taken + length queued = ap length h.whole ∙ length-append h.taken queued in
      let b : length v.taken ≡ length h.taken = ap length (mine.takes may).1 in (
        omega arith,
        λ both. (mine.posts both).1 ∙ h.whole ∙ ap (λ l. l ++ queued) (sym (mine.takes may).1),
      )

  -- one pass of a lane becomes its two ends
  pub parts : (pass : ℕ) (v : Log T) → v.posts ≡ true → v.takes ≡ true → Forks InOrder pass v (log true false v.posted [] 0) (log false true [] v.taken 0)
  parts pass v a b queued views h at =
      let l : Log T = log true false v.posted [] 0 in
      let r : Log T = log false true [] v.taken 0 in
      let mine = h.fits pass v at in
      let vs : List (Log T) = set views pass l in
      let Old : ℕ → Log T → Type 0 = λ j u. (u.posts ≡ true → (j ≡ h.poster) × (u.posted ≡ h.posted)) × (u.takes ≢ true) × (u.told ≤ length h.posted) in
      let old : Each Old vs = each_set Old views pass l ((λ _. mine.posts a), (λ p. true≢false (sym p)), omega arith)
      (λ j u other e. ((h.fits j u e).posts, (λ p. other (((h.fits j u e).takes p).0 ∙ sym (mine.takes b).0)), (h.fits j u e).told)) in record {
        poster = h.poster;
        taker = length vs;
        posted = h.posted;
        taken = h.taken;
        whole = h.whole;
        few = h.few;
        fits = λ j u e. ⊎_elim (λ x. record { posts = (old j u x).0; takes = λ p. absurd ((old j u x).1 p); told = (old j u x).2 })
            (λ (is : r ≡ u). record {
              posts = λ p. absurd (true≢false (sym (ap (λ (y : Log T). y.posts) is ∙ p)));
              takes = λ p. (at_end vs r u j (λ x. (old j u x).1 p) e, ap (λ (y : Log T). y.taken) (sym is) ∙ (mine.takes b).1);
              told = subst (λ (y : Log T). y.told ≤ length h.posted) is (omega arith);
            })
            (at_snoc vs r u j e);
      }

  -- the two ends of a lane become one pass
  pub meets : (pass : ℕ) (v : Log T) (other : ℕ) (u : Log T) → v.posts ≡ true → u.takes ≡ true → Merges InOrder pass v other u (log true true v.posted u.taken 0) (log false false [] [] 0)
  meets pass v other u a b queued views h at two at' =
      let both : Log T = log true true v.posted u.taken 0 in
      let mine = h.fits pass v at in
      let vs : List (Log T) = set views pass both in
      let was : get_elem? views other ≡ some u = ⊎_elim (λ x. absurd (two x.0)) (λ x. x.1) (at_set views pass other both u at') in
      let theirs = (h.fits other u was).takes b in
      let Now : ℕ → Log T → Type 0 = λ j y. j ≢ other → IsPassOf h.poster pass h.posted h.taken j y in
      let now : Each Now vs = each_set Now views pass both (λ _. record { posts = λ _. mine.posts a; takes = λ _. (refl, theirs.1); told = omega arith })
      (λ j y _ e apart. record { posts = (h.fits j y e).posts; takes = λ p. absurd (apart (((h.fits j y e).takes p).0 ∙ sym theirs.0)); told = (h.fits j y e).told }) in record {
        poster = h.poster;
        taker = pass;
        posted = h.posted;
        taken = h.taken;
        whole = h.whole;
        few = h.few;
        fits = each_set (IsPassOf h.poster pass h.posted h.taken) vs other (log false false [] [] 0) (idle_fits _ _ _ _ _ _ (omega arith)) (λ j y apart e. now j y e apart);
      }

  -- a new pass is told how many items were posted
  pub counts : (pass : ℕ) (v : Log T) → v.posts ≡ true → Forks InOrder pass v v (log false false [] [] (length v.posted))
  counts pass v a queued views h at =
      let r : Log T = log false false [] [] (length v.posted) in
      let mine = h.fits pass v at in
      let same : length v.posted ≡ length h.posted = ap length (mine.posts a).1 in
      let vs : List (Log T) = set views pass v in
      let F = IsPassOf h.poster h.taker h.posted h.taken in
      let old : Each F vs = each_set F views pass v mine (λ j u _ e. h.fits j u e) in record {
        poster = h.poster;
        taker = h.taker;
        posted = h.posted;
        taken = h.taken;
        whole = h.whole;
        few = h.few;
        fits = λ j u e. ⊎_elim (old j u) (λ (is : r ≡ u). subst (λ (y : Log T). F j y) is (idle_fits _ _ _ _ _ _ (omega arith))) (at_snoc vs r u j e);
      }

  -- a pass is told what another was told
  pub hears : (pass : ℕ) (v : Log T) (other : ℕ) (u : Log T) → Merges InOrder pass v other u (log v.posts v.takes v.posted v.taken (max v.told u.told)) (log false false [] [] 0)
  hears pass v other u queued views h at two at' =
      let w : Log T = log v.posts v.takes v.posted v.taken (max v.told u.told) in
      let mine = h.fits pass v at in
      let vs : List (Log T) = set views pass w in
      let was : get_elem? views other ≡ some u = ⊎_elim (λ x. absurd (two x.0)) (λ x. x.1) (at_set views pass other w u at') in
      let a = mine.told in
      let b = (h.fits other u was).told in
      let F = IsPassOf h.poster h.taker h.posted h.taken in
      let now : Each F vs = each_set F views pass w (record { posts = mine.posts; takes = mine.takes; told = omega arith }) (λ j y _ e. h.fits j y e) in record {
        poster = h.poster;
        taker = h.taker;
        posted = h.posted;
        taken = h.taken;
        whole = h.whole;
        few = h.few;
        fits = each_set F vs other (log false false [] [] 0) (idle_fits _ _ _ _ _ _ (omega arith)) (λ j y _ e. now j y e);
      }

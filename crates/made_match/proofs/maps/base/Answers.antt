use Rattle.std.proofs.Common.{◌≡◌, ◌++◌, ◌∷◌, [], ℕ, List, All, sym, subst}
use Rattle.std.proofs.lemmas.List.Elements.{All-append}
use Rattle.nav_types.specs.declared.cells.Rect.{Rect}
use Rattle.nav_types.specs.Cells.{IsRectInside}
use Rattle.made_match.specs.Making.{draw_base_rect, map_size}
use Rattle.made_match.proofs.Drawing.{drawn_more, all_one}
use Rattle.made_match.proofs.maps.base.Goals as goal

pub loop-number-preserved : goal.loop-number-preserved
loop-number-preserved c =
    let P : Rect × ℕ → Type 0 = λ entry. IsRectInside map_size entry.0 in
    let pushed : c.push.new.self ≡ c.loop-number.base ++ c.base_rect.result ∷ [] = c.in_ok-push.ensures.ok in
    record {
      drawn = drawn_more (λ n. draw_base_rect) c.loop-number._number c.args.draws.now c.loop-number.draws c.base_rect.new.draws
          c.loop-number.base c.push.new.self c.base_rect.result c.loop-number.invariant.drawn c.base_rect.ensures.value
          c.base_rect.ensures.state pushed;
      inside = subst (λ (l : List (Rect × ℕ)). All P l) (sym pushed)
          (All-append P c.loop-number.base (c.base_rect.result ∷ []) c.loop-number.invariant.inside
          (all_one P c.base_rect.result c.base_rect.ensures.inside));
    }

use Rattle.std.proofs.Common.{◌≡◌, Option, Some, None, List, [], inl, inr, refl, subst, sym, ◌∙◌, ap}
use Rattle.posts.specs.declared.replies.TurnReplies.{TurnReplies}
use Rattle.posts.specs.declared.posts.Post.{Post}
use Rattle.posts.specs.Maps.{Map}
use Rattle.match_play.specs.Replays.{IsLastTold}
use Rattle.pathserve_c.specs.Saves.{IsToldLast}
use Rattle.pathserve_c.proofs.struct_matches.StructMatch.open_script.Goals as goal

-- what stands for the replies of the last turn is what it was told, or nothing
told_last : (m : Map) (journal : List (List (List Post))) (told : Option TurnReplies) (last : TurnReplies) → IsLastTold m journal told
    → ((its : TurnReplies) → told ≡ Some its → last ≡ its) → (told ≡ None → last.replies ≡ []) → IsToldLast m journal last
told_last m journal (Some its) last is some none = inl (subst (λ (t : TurnReplies). IsLastTold m journal (Some t)) (sym (some its refl)) is)
told_last m journal None last is some none = inr (is, none refl)

pub returns : goal.returns
returns c =
    let is = c.in-Ok.ensures in
    record {
      journal = is.journal;
      keeps = is.keeps;
      reads = is.reads;
      newest = sym (c.version-2.ensures.version ∙ ap (λ (m : Map). m.version) (c.map.ensures ∙ c.version.ensures.map)) ∙ c.if-version-ne-NEWEST_VERSION.false;
      told = told_last c.in-Ok.opened.game.map is.journal c.in-Ok.opened.told c.told_or_nothing.result is.told c.told_or_nothing.ensures.some
          c.told_or_nothing.ensures.none;
      posted = search;
      most = refl;
    }

pub returns-then-version-ne-NEWEST_VERSION : goal.returns-then-version-ne-NEWEST_VERSION
returns-then-version-ne-NEWEST_VERSION c =
    let game = c.in-Ok.opened.game in (
      game.map,
      (
        c.in-Ok.ensures.journal,
        (
          c.in-Ok.ensures.reads,
          λ is. c.if-version-ne-NEWEST_VERSION.true (c.version-2.ensures.version ∙ (ap (λ (m : Map). m.version) (c.map.ensures ∙ c.version.ensures.map) ∙ is)),
        ),
      ),
    )

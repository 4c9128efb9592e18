-- The turns of a script played one after another.
use Rattle.std.proofs.Common.{◌≡◌, ℕ, ◌<◌, List, [], ◌∷◌, ◌++◌, All, length, take, get_or, Some, sym, ap, subst, ◌∙◌}
use Rattle.std.proofs.lemmas.List.{length-append, take_more}
use Rattle.std.proofs.lemmas.List.Elements.{All-get_or}
use Rattle.posts.specs.declared.posts.Post.{Post}
use Rattle.posts.specs.declared.replies.TurnReplies.{TurnReplies}
use Rattle.posts.specs.Maps.{Map}
use Rattle.turn_core.specs.Turns.{IsTurnTold, standing}
use Rattle.turn_core.specs.Words.{bare}
use Rattle.match_play.specs.Posted.{Past, PostedState, Kept, standing_in, with_turn}
use Rattle.match_play.specs.Replays.{IsLastTold}

-- the turn that was handed out keeps to the map, and is the next of the journal
pub turn_keeps : (P : List (List Post) → Type 0) (journal : List (List (List Post))) (i : ℕ) (turn : List (List Post)) → i < length journal
    → turn ≡ get_or journal i turn → All P journal → P turn
turn_keeps P journal i turn below is all = subst P (sym is) (All-get_or P journal i turn below all)

taken_next : (journal done : List (List (List Post))) (turn : List (List Post)) → length done < length journal → turn ≡ get_or journal (length done) turn
    → take (length (done ++ turn ∷ [])) journal ≡ take (length done) journal ++ turn ∷ []
taken_next journal done turn below is =
    ap (λ (n : ℕ). take n journal) (length-append done (turn ∷ []))
    ∙ (take_more journal (length done) turn below ∙ ap (λ (t : List (List Post)). take (length done) journal ++ t ∷ []) (sym is))

-- a turn more was played
pub game_next : (m : Map) (journal done : List (List (List Post))) (turn : List (List Post)) (old new : PostedState) (told : TurnReplies)
    → length done < length journal → turn ≡ get_or journal (length done) turn → old ≡ record { map = m; past = Kept (take (length done) journal) }
    → new.map ≡ old.map → new.past ≡ with_turn old.map old.past turn → IsTurnTold old.map (standing_in old) turn told
    → (new ≡ record { map = m; past = Kept (take (length (done ++ turn ∷ [])) journal) })
    × IsLastTold m (take (length (done ++ turn ∷ [])) journal) (Some told)
game_next m journal done turn old new told below is was map pushed answer =
    let grown = taken_next journal done turn below is in
    let on : new.map ≡ m = map ∙ ap (λ (s : PostedState). s.map) was in
    let all : new.past ≡ Kept (take (length (done ++ turn ∷ [])) journal) =
    pushed ∙ (ap (λ (s : PostedState). with_turn s.map s.past turn) was ∙ ap Kept (sym grown)) in (
      λ i. record { map = on i; past = all i },
      (
        take (length done) journal,
        (turn, (grown, subst (λ (s : PostedState). IsTurnTold s.map (standing_in s) turn told) was answer)),
      ),
    )

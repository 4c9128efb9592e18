-- Turns as edits of what stands.
use Rattle.std.proofs.Common.{◌≡◌, ℕ, ◌+◌, ◌<◌, List, [], ◌∷◌, ◌++◌, Option, None, Some, length, take, get_or, refl, sym, ap, ◌∙◌, append_assoc}
use Rattle.std.specs.Prelude.{filter_map, flat_map, option_to_list}
use Rattle.std.proofs.lemmas.List.{take_more}
use Rattle.std.proofs.lemmas.List.Elements.{filter_map-append}
use Rattle.posts.specs.declared.edits.Edit.{Edit}
use Rattle.posts.specs.declared.edits.EditReply.{EditReply}
use Rattle.posts.specs.declared.posts.Post.{Post}
use Rattle.posts.specs.declared.posts.Post.TheVariants.{Edit as Editing, Ask as Asking}
use Rattle.posts.specs.Maps.{Map}
use Rattle.posts.specs.Posts.{edit_of}
use Rattle.grid_versions.specs.Editing.{after_edits, edit_reply, edit_replies}
use Rattle.turn_core.specs.Words.{Standing, edited}
use Rattle.turn_core.specs.Turns.{after, after_turn}
use Rattle.turn_core.specs.inner.ReplyLists.{edits_told, edits_told_in}

one_item : {X Y : Type 0} (h : X → Option Y) (x : X) → filter_map h (x ∷ []) ≡ option_to_list (h x)
one_item h x = elim (h x) as (λ o. filter_map (λ (y : _). o) (x ∷ []) ≡ option_to_list o) [ None ↦ refl | Some y ↦ refl ]

-- one item more
pub filter_map_more : {X Y : Type 0} (h : X → Option Y) (xs : List X) (i : ℕ) (d : X) → i < length xs → filter_map h (take (i + 1) xs) ≡ filter_map h (take i xs) ++ option_to_list (h (get_or xs i d))
filter_map_more h xs i d lt =
    ap (filter_map h) (take_more xs i d lt) ∙ filter_map-append h (take i xs) (get_or xs i d ∷ [])
    ∙ ap (λ (l : List _). filter_map h (take i xs) ++ l) (one_item h (get_or xs i d))

edited_posts : (m : Map) (s : Standing) (ps : List Post) (rest : List Edit) → after_edits m s (filter_map edit_of ps ++ rest) ≡ after_edits m (after m s ps) rest
unfolding edited
edited_posts m s [] rest = refl
edited_posts m s (Editing e ∷ ps) rest = edited_posts m (edited m s (Editing e)) ps rest
edited_posts m s (Asking q ∷ ps) rest = edited_posts m s ps rest

-- what stands after the edits of a turn is what stands after the turn
pub edited_turn : (m : Map) (s : Standing) (turn : List (List Post)) → after_edits m s (flat_map (filter_map edit_of) turn) ≡ after_turn m s turn
edited_turn m s [] = refl
edited_turn m s (ps ∷ turn) = edited_posts m s ps (flat_map (filter_map edit_of) turn) ∙ edited_turn m (after m s ps) turn

told_posts : (m : Map) (s : Standing) (ps : List Post) (rest : List Edit)
    → edit_replies m s (filter_map edit_of ps ++ rest) ≡ edits_told m s ps ++ edit_replies m (after m s ps) rest
unfolding edited
told_posts m s [] rest = refl
told_posts m s (Editing e ∷ ps) rest = ap (λ (l : List EditReply). edit_reply m s e ∷ l) (told_posts m (edited m s (Editing e)) ps rest)
told_posts m s (Asking q ∷ ps) rest = told_posts m s ps rest

-- the replies to the edits of a turn
pub told_turn : (m : Map) (s : Standing) (turn : List (List Post)) → edit_replies m s (flat_map (filter_map edit_of) turn) ≡ edits_told_in m s turn
told_turn m s [] = refl
told_turn m s (ps ∷ turn) = told_posts m s ps (flat_map (filter_map edit_of) turn) ∙ ap (λ (l : List EditReply). edits_told m s ps ++ l) (told_turn m (after m s ps) turn)

-- the item that one more gives is at the end
pub pushed_some : {X Y : Type 0} (h : X → Option Y) (old got new : List Y) (xs : List X) (i : ℕ) (x : X) (o : Option Y) → i < length xs → x ≡ get_or xs i x
    → o ≡ h x → got ≡ old ++ filter_map h (take i xs) → new ≡ got ++ option_to_list o → new ≡ old ++ filter_map h (take (i + 1) xs)
pushed_some h old got new xs i x o lt is gives before after =
    after ∙ ap (λ (l : List _). l ++ option_to_list o) before
    ∙ ap (λ (p : Option _). old ++ filter_map h (take i xs) ++ option_to_list p) (gives ∙ ap h is)
    ∙ append_assoc old (filter_map h (take i xs)) (option_to_list (h (get_or xs i x)))
    ∙ ap (λ (l : List _). old ++ l) (sym (filter_map_more h xs i x lt))

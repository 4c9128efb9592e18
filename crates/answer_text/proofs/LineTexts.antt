-- Lines by their first word and what follows it, and pieces appended one after another.
use Rattle.std.proofs.Common.{◌≡◌, ℕ, ◌++◌, ◌∷◌, [], List, ap, sym, ◌∙◌, append-nil, append_assoc}
use Rattle.std.specs.Prelude.{codes}
use Rattle.std.specs.List.{join_with_byte}
use Rattle.answer_text.specs.Answers.{line_of}
use Rattle.answer_text.specs.inner.Spacing.{spaced}

-- joined words are the first, and each other after a space
joined : (word : List ℕ) (words : List (List ℕ)) → join_with_byte 32 (word ∷ words) ≡ word ++ spaced words
joined word [] = sym (append-nil word)
joined word (next ∷ words) = ap (λ (rest : List ℕ). word ++ 32 ∷ rest) (joined next words)

-- a line is its first word, each other word after a space, and a newline
line_is : (word : List ℕ) (words : List (List ℕ)) → line_of (word ∷ words) ≡ word ++ (spaced words ++ 10 ∷ [])
line_is word words = ap (λ (t : List ℕ). t ++ 10 ∷ []) (joined word words) ∙ append_assoc word (spaced words) (10 ∷ [])

-- the pieces of the line of a reply
pub reply_pieces : (text caller post : List ℕ) (words : List (List ℕ))
    → text ++ caller ++ (codes " " ++ post) ++ spaced words ++ 10 ∷ [] ≡ text ++ line_of (caller ∷ post ∷ words)
reply_pieces text caller post words =
    let regrouped : text ++ caller ++ (codes " " ++ post) ++ spaced words ++ 10 ∷ [] ≡ text ++ (caller ++ (spaced (post ∷ words) ++ 10 ∷ [])) =
    simp append_assoc in
    regrouped ∙ sym (ap (λ (t : List ℕ). text ++ t) (line_is caller (post ∷ words)))

-- the pieces of the words of a path
pub path_pieces : (text a b c d e f g h i : List ℕ)
    → text ++ a ++ (b ++ c) ++ (d ++ e) ++ f ++ g ++ h ++ i ≡ text ++ (a ++ (b ++ (c ++ (d ++ (e ++ (f ++ (g ++ (h ++ i))))))))
path_pieces text a b c d e f g h i = simp append_assoc

-- the pieces of the summary's first line
pub totals_pieces : (text turns posts added removed refused goal near nowhere cost corners : List ℕ)
    → text ++ (codes "summary turns " ++ turns) ++ (codes " posts " ++ posts) ++ (codes " added " ++ added) ++ (codes " removed " ++ removed)
    ++ (codes " refused " ++ refused) ++ (codes " goal " ++ goal) ++ (codes " near " ++ near) ++ (codes " nowhere " ++ nowhere)
    ++ (codes " cost " ++ cost) ++ (codes " corners " ++ corners) ++ 10 ∷ []
    ≡ text ++ line_of (codes "summary" ∷ codes "turns" ∷ turns ∷ codes "posts" ∷ posts ∷ codes "added" ∷ added ∷ codes "removed" ∷ removed
    ∷ codes "refused" ∷ refused ∷ codes "goal" ∷ goal ∷ codes "near" ∷ near ∷ codes "nowhere" ∷ nowhere ∷ codes "cost" ∷ cost
    ∷ codes "corners" ∷ corners ∷ [])
totals_pieces text turns posts added removed refused goal near nowhere cost corners = simp append_assoc

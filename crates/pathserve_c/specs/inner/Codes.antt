-- How the states of matches are stored in ghost fields.
use Rattle.std.specs.Prelude.{ℕ, List, Option, refl}
use Rattle.std.specs.Coded.{Coded, code_by, coded×, coded_list, coded_option, coded_ℕ}
use Rattle.match_play.specs.declared.states.MatchState.{MatchState}
use Rattle.match_play.specs.Posted.{PostedState}
use Rattle.posts.specs.declared.posts.Post.{Post}
use Rattle.posts.specs.declared.replies.TurnReplies.{TurnReplies}
use Rattle.pathserve_c.specs.declared.line_limits.LineLimit.{LineLimit}
use Rattle.pathserve_c.specs.Structs.{StructState}
use Rattle.pathserve_c.specs.Texts.{TextState}

-- a match by text is stored as its parts
abbrev pub text_code : Coded MatchState → Coded LineLimit → Coded TextState
text_code course_code limit_code =
    code_by (MatchState × (List ℕ × Option LineLimit)) (coded× course_code (coded× (coded_list coded_ℕ) (coded_option limit_code)))
    (λ s. (s.game, (s.waiting, s.limit))) (λ p. record { game = p.0; waiting = p.1.0; limit = p.1.1 }) (λ _. refl)

-- a match by structs is stored as its parts
abbrev pub struct_code : Coded PostedState → Coded Post → Coded TurnReplies → Coded StructState
struct_code game_code post_code told_code =
    code_by (PostedState × (List (ℕ × Post) × (TurnReplies × ℕ)))
    (coded× game_code (coded× (coded_list (coded× coded_ℕ post_code)) (coded× told_code coded_ℕ)))
    (λ s. (s.game, (s.posted, (s.told, s.most)))) (λ p. record { game = p.0; posted = p.1.0; told = p.1.1.0; most = p.1.1.1 }) (λ _. refl)

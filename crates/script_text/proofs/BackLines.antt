-- Each canonical line reads back as what it was written from.
use Rattle.std.proofs.Common.{refl}
use Rattle.std.specs.Prelude.{◌≡◌, ℕ, ◌<◌, ◌≤◌, ◌^◌, Some, IsTrue, codes}
use Rattle.posts.specs.declared.posts.Post.{Post}
use Rattle.script_text.specs.Forms.{post_of, end_of}
use Rattle.script_text.specs.Canon.{whole_json, post_json, end_json, is_post_of}
use Rattle.script_text.specs.ReadsBack.{IsPostValue}
use Rattle.script_text.proofs.BackForms.{ReadsTo}
use Rattle.script_text.proofs.BackTexts.{sorted, reads_sorted}
use Rattle.script_text.proofs.BackValues.{one_key}
use Rattle.script_text.proofs.BackPosts.{post_back}
use Rattle.script_text.proofs.GrammarLines.{end-from}

pub post_reads : (version callers caller : ℕ) (post : Post) → callers ≤ 64 → caller < callers → IsPostValue post
    → IsTrue (is_post_of version post)
    → ReadsTo (post_json version caller post) (λ d. post_of version callers d ≡ Some (record { caller = caller; post = post }))
post_reads version callers caller post few below value has = post_back version callers caller post few below value has

pub end_reads : (turn : ℕ) → turn < 2 ^ 64 → ReadsTo (end_json turn) (λ d. end_of d ≡ Some turn)
unfolding end_json
end_reads turn small =
    reads_sorted (end_json turn) (λ d. end_of d ≡ Some turn) ((refl, refl), small, tt)
    (end-from (sorted (end_json turn)) turn (whole_json turn, one_key (codes "end") (whole_json turn), refl))

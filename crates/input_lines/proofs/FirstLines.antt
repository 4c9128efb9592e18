-- The first line of bytes.
use Rattle.std.proofs.Common.{◌≡◌, ◌≢◌, ℕ, ◌≤◌, length, arith, List, [], ◌∷◌, ◌++◌, take, cond, Option, Some, None, position, refl, ap, sym, ◌∙◌}
use Rattle.std.proofs.lemmas.List.{append-nil}
use Rattle.std.proofs.lemmas.List.Elements.{All-head, All-tail}
use Rattle.std.proofs.lemmas.Bool.{ne_eqb}
use Rattle.input_lines.specs.declared.intake.LineEnd.{LineEnd}
use Rattle.input_lines.specs.declared.intake.LineEnd.TheVariants.{Newline, Input}
use Rattle.input_lines.specs.Lines.{IsPlain, first_line}
use Rattle.input_lines.specs.Held.{Taken, newline_of, HasEnd}
use Rattle.input_lines.proofs.Newlines.{is_newline, at_newline, no_newline}

pub first_line-plain : (line rest : List ℕ) → IsPlain line → first_line (line ++ rest) ≡ line ++ first_line rest
first_line-plain [] rest plain = refl
first_line-plain (byte ∷ line) rest plain =
    ap (λ b. cond b [] (byte ∷ first_line (line ++ rest))) (ne_eqb byte 10 (All-head (λ b. b ≢ 10) byte line plain))
    ∙ ap (λ more. byte ∷ more) (first_line-plain line rest (All-tail (λ b. b ≢ 10) byte line plain))

pub first_line-some : (bs : List ℕ) (at : ℕ) → position is_newline bs ≡ Some at → take at bs ≡ first_line bs
first_line-some bs at found =
    let cut = at_newline bs at found in
    sym (ap first_line cut.0 ∙ first_line-plain (take at bs) _ cut.1 ∙ append-nil (take at bs))

pub first_line-none : (bs : List ℕ) → position is_newline bs ≡ None → bs ≡ first_line bs
first_line-none bs none =
    let plain = no_newline bs none in
    sym (ap first_line (sym (append-nil bs)) ∙ first_line-plain bs [] plain ∙ append-nil bs)

-- a whole line is the first of what is held
pub first_of_whole : (line : List ℕ) (end : Option LineEnd) (rest : Taken) → IsPlain line → HasEnd end rest → first_line (line ++ (newline_of end ++ rest.bytes)) ≡ line
first_of_whole line None rest plain ends = absurd ends
first_of_whole line (Some Newline) rest plain ends = first_line-plain line _ plain ∙ append-nil line
first_of_whole line (Some Input) rest plain ends = first_line-plain line _ plain ∙ ap (λ bs. line ++ first_line bs) ends.0 ∙ append-nil line

pub some_held : (line newline rest : List ℕ) → 1 ≤ length (line ++ newline) → line ++ (newline ++ rest) ≢ []
some_held [] [] rest some = absurd (omega (arith, some))
some_held [] (byte ∷ newline) rest some = λ e. absurd (cc)
some_held (byte ∷ line) newline rest some = λ e. absurd (cc)

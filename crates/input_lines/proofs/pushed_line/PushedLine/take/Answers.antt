use Rattle.std.proofs.Common.{◌≡◌, ◌∙◌, [], refl, ap, sym, take, arith, false}
use Rattle.std.proofs.lemmas.List.{append-nil}
use Rattle.std.proofs.lemmas.Result.{err_from_is_err_and}
use Rattle.input_lines.specs.Held.{HeldLine}
use Rattle.input_lines.specs.Pushed.{pushed_line}
use Rattle.input_lines.proofs.Newlines.{at_newline, no_newline}
use Rattle.input_lines.proofs.PushedLines.{ends_line, goes_on, not_pushed, whole_line}
use Rattle.input_lines.proofs.pushed_line.PushedLine.take.Goals as goal

pub push_part-requires-clause-plain : goal.push_part-requires-clause-plain
push_part-requires-clause-plain c = (at_newline c.args.bytes.now.now c.in-Some.at (sym c.in-Some.ensures.place)).1

pub push_part-requires-in-None-clause-plain : goal.push_part-requires-in-None-clause-plain
push_part-requires-in-None-clause-plain c = no_newline c.args.bytes.now.now (sym c.in-None.ensures.place)

-- the line is refused
pub returns-in_err-push_part-in-Some-clause-takes : goal.returns-in_err-push_part-in-Some-clause-takes
returns-in_err-push_part-in-Some-clause-takes c =
    let bytes = c.args.bytes.now.now in
    let p = err_from_is_err_and c.from_residual.result c.from_residual.ensures.1 in
    let s = at_newline bytes c.in-Some.at (sym c.in-Some.ensures.place) in
    rw (p.1, p.2) (not_pushed c.args.self.now c.push_part.new.self c.args.room c.in_err-push_part-in-Some.field-0.0 bytes (take c.in-Some.at bytes) _ bytes s.0 s.1 c.in_err-push_part-in-Some.ensures.fault)

pub returns-in_err-push_part-in-None-clause-takes : goal.returns-in_err-push_part-in-None-clause-takes
returns-in_err-push_part-in-None-clause-takes c =
    let bytes = c.args.bytes.now.now in
    let p = err_from_is_err_and c.from_residual-in_err-push_part-in-None.result c.from_residual-in_err-push_part-in-None.ensures.1 in
    rw (p.1, p.2) (not_pushed c.args.self.now c.push_part-in-None.new.self c.args.room c.in_err-push_part-in-None.field-0.0 bytes bytes [] bytes (sym (append-nil bytes))
    (no_newline bytes (sym c.in-None.ensures.place)) c.in_err-push_part-in-None.ensures.fault)

-- the line is whole
pub returns-in_ok-push_part-in-Some-clause-takes : goal.returns-in_ok-push_part-in-Some-clause-takes
returns-in_ok-push_part-in-Some-clause-takes c =
    let was : c.args.self.now ≡ pushed_line c.self.inside.line.items false = sym c.self.view_is ∙ ap (pushed_line c.self.inside.line.items) c.if-self.false in
    let longer = ap (λ (h : HeldLine). h.line) (c.self-in-Some.view_is ∙ c.in_ok-push_part-in-Some.ensures.ok) in (
      ends_line c.args.self.now c.self.inside.line.items c.self-in-Some.inside.line.items c.args.bytes.now.now c.in-Some.at was longer (sym c.in-Some.ensures.place),
      whole_line c.self-in-Some.inside.line.items _ (omega (arith, c.len-in-Some.ensures)),
    )

-- the line goes on
pub returns-in_ok-push_part-in-None-clause-takes : goal.returns-in_ok-push_part-in-None-clause-takes
returns-in_ok-push_part-in-None-clause-takes c =
    let was : c.args.self.now ≡ pushed_line c.self.inside.line.items false = sym c.self.view_is ∙ ap (pushed_line c.self.inside.line.items) c.if-self.false in
    let grown = c.in_ok-push_part-in-None.ensures.ok in
    (goes_on c.args.self.now c.push_part-in-None.new.self c.self.inside.line.items c.args.bytes.now.now was grown, (refl, ap (λ (h : HeldLine). h.line_end) grown))

use Rattle.std.proofs.Common.{◌≡◌, ◌∙◌, sym, ap, arith}
use Rattle.std.proofs.lemmas.Bool.{false≢true}
use Rattle.input_lines.proofs.Newlines.{held-nil, nil-held}
use Rattle.input_lines.proofs.NeededReads.{reads-none, reads-kept, reads-piece}
use Rattle.input_lines.proofs.ToldLines.{refills-none}
use Rattle.input_lines.proofs.intake.Intake.refill.Goals as goal

-- the end of the input was met before
pub returns-then-self-clause-told : goal.returns-then-self-clause-told
returns-then-self-clause-told g c =
    refills-none c.args.self.now (g.S.Source.left c.args.source.now) (λ none. sym (ap (λ t. t.ended) c.self.view_is) ∙ c.if-self.true)

-- bytes are held
pub returns-then-self-2-clause-told : goal.returns-then-self-2-clause-told
returns-then-self-2-clause-told g c =
    let i = c.self.inside in
    refills-none c.args.self.now (g.S.Source.left c.args.source.now) (λ none.
    let used : i.from ≡ i.to = nil-held i.buffer.items i.from i.to (omega arith) (omega (arith, i.buffer.ok.0)) (ap (λ t. t.bytes) c.self.view_is ∙ none) in
    absurd (omega arith))

pub returns-then-self-2-clause-ended : goal.returns-then-self-2-clause-ended
returns-then-self-2-clause-ended g c =
    let i = c.self.inside in
    λ none.
    let used : i.from ≡ i.to = nil-held i.buffer.items i.from i.to (omega arith) (omega (arith, i.buffer.ok.0)) (ap (λ t. t.bytes) c.self.view_is ∙ none) in
    absurd (omega arith)

-- nothing is read where bytes are held, or at the end of the input
pub returns-then-self-clause-reads : goal.returns-then-self-clause-reads
returns-then-self-clause-reads g c = reads-none c.args.self.now.bytes c.args.self.now.ended (g.S.Source.left c.args.source.now)

pub returns-then-self-2-clause-reads : goal.returns-then-self-2-clause-reads
returns-then-self-2-clause-reads g c = reads-none c.args.self.now.bytes c.args.self.now.ended (g.S.Source.left c.args.source.now)

-- one read
pub returns-in-Ok-clause-reads : goal.returns-in-Ok-clause-reads
returns-in-Ok-clause-reads g c =
    let i = c.self.inside in
    let left = g.S.Source.left in
    let none = sym (ap (λ t. t.bytes) c.self.view_is) ∙ held-nil i.buffer.items i.from i.to (omega (arith, i.buffer.ok.0)) (omega arith) in
    reads-piece c.args.self.now.bytes c.args.self.now.ended (left c.args.source.now) (left c.read_into.new.source) c.in-Ok.count c.read_into.new.buffer.items
    (sym (ap (λ t. t.ended) c.self.view_is) ∙ c.if-self.false) none (omega arith) c.in-Ok.ensures.bytes.0

pub returns-in-Err-clause-reads : goal.returns-in-Err-clause-reads
returns-in-Err-clause-reads g c =
    reads-kept c.args.self.now.bytes c.args.self.now.ended (g.S.Source.left c.args.source.now) (g.S.Source.left c.read_into.new.source) c.in-Err.ensures.bytes

-- what holds only where bytes were held, or the end of the input was met

pub returns-in-Ok-clause-still : goal.returns-in-Ok-clause-still
returns-in-Ok-clause-still g c =
    let i = c.self.inside in
    let none = sym (ap (λ t. t.bytes) c.self.view_is) ∙ held-nil i.buffer.items i.from i.to (omega (arith, i.buffer.ok.0)) (omega arith) in
    λ some. absurd (some none)

pub returns-in-Ok-clause-kept : goal.returns-in-Ok-clause-kept
returns-in-Ok-clause-kept g c =
    let i = c.self.inside in
    let none = sym (ap (λ t. t.bytes) c.self.view_is) ∙ held-nil i.buffer.items i.from i.to (omega (arith, i.buffer.ok.0)) (omega arith) in
    λ some. absurd (some none)

pub returns-in-Err-clause-still : goal.returns-in-Err-clause-still
returns-in-Err-clause-still g c =
    let i = c.self.inside in
    let none = sym (ap (λ t. t.bytes) c.self.view_is) ∙ held-nil i.buffer.items i.from i.to (omega (arith, i.buffer.ok.0)) (omega arith) in
    λ some. absurd (some none)

pub returns-in-Err-clause-kept : goal.returns-in-Err-clause-kept
returns-in-Err-clause-kept g c =
    let i = c.self.inside in
    let none = sym (ap (λ t. t.bytes) c.self.view_is) ∙ held-nil i.buffer.items i.from i.to (omega (arith, i.buffer.ok.0)) (omega arith) in
    λ some. absurd (some none)

pub returns-in-Ok-clause-stays : goal.returns-in-Ok-clause-stays
returns-in-Ok-clause-stays g c = λ ended. absurd (false≢true (sym c.if-self.false ∙ ap (λ t. t.ended) c.self.view_is ∙ ended))

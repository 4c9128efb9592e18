use Rattle.std.proofs.Common.{ℕ, List, length, ◌≡◌, ◌≢◌, ◌+◌, ◌-◌, ◌*◌, ◌<◌, ◌≤◌, take, drop, ◌++◌, ap, ap₂, sym, ◌∙◌, subst, ⊎_elim, arith}
use Rattle.std.specs.Prelude.{slice_range}
use Rattle.std.proofs.lemmas.Bool.{cases_eq}
use Rattle.nav_types.specs.declared.straights.Way.{Way}
use Rattle.class_planes.specs.inner.Lines.{LineTable, line_in, patched}
use Rattle.class_planes.specs.inner.StopLines.{IsBandStop, IsStopBit, lanes_of}
use Rattle.class_planes.proofs.LineLemmas.{part_long}
use Rattle.class_planes.proofs.StopBandLemmas.{line_fits, put_here, put_other}
use Rattle.class_planes.proofs.StopWordLemmas.{stop_alike}
use Rattle.class_planes.proofs.TurnLemmas.{put_is}
use Rattle.class_planes.proofs.stops.write_line.Goals as goal

-- the place of line n in its band, and what is written there
record IsPut (words k start count : ℕ) (band out new : List ℕ) : Type 0 where
  pub at : start ≡ k * words
  pub wide : count ≡ words
  pub within : start + count ≤ length band
  pub long : length out ≡ words
  pub put : new ≡ patched band (k * words) out

put_of : (words k start count : ℕ) (band out : List ℕ) → start ≡ k * words → count ≡ words → length band ≡ 32 * words
    → k < 32 → length out ≡ length (slice_range band start (start + count))
    → IsPut words k start count band out (take start band ++ (out ++ drop (start + count - start) (drop start band)))
put_of words k start count band out at wide long below stays =
    let fits : k * words + words ≤ length band = line_fits words k (length band) long below in
    let within : start + count ≤ length band = omega (arith, fits, at, wide) in
    let out_long : length out ≡ count = stays ∙ part_long band start (start + count) count (omega arith) within in
    record {
      at = at;
      wide = wide;
      within = within;
      long = out_long ∙ wide;
      put = put_is band out start count out_long ∙ ap (λ s. patched band s out) at;
    }

here_right : (way : Way) (lines : LineTable) (count first n m i : ℕ) (k start wide : ℕ) (band out new : List ℕ)
    → IsPut lines.words k start wide band out new → length band ≡ 32 * lines.words → k < 32 → m ≡ k → first + m ≡ n
    → IsStopBit way (lanes_of lines count n) out i → IsBandStop way lines count first new m i
here_right way lines count first n m i k start wide band out new is long below same line right =
    stop_alike way (lanes_of lines count (first + m)) out (line_in lines.words new m) i
    (λ j. put_here band out new lines.words k m j is.put long below is.long same)
    (subst (λ (q : ℕ). IsStopBit way (lanes_of lines count q) out i) (sym line) right)

-- the bits of the line before
part_right : (way : Way) (lines : LineTable) (count first n m i : ℕ) (k start wide : ℕ) (band out new : List ℕ)
    → IsPut lines.words k start wide band out new → m ≡ k → first + m ≡ n → IsBandStop way lines count first band m i
    → IsStopBit way (lanes_of lines count n) (slice_range band start (start + wide)) i
part_right way lines count first n m i k start wide band out new is same line was =
    let begins : m * lines.words ≡ start = ap (λ q. q * lines.words) same ∙ sym is.at in
    let part : line_in lines.words band m ≡ slice_range band start (start + wide) =
    ap₂ (λ s w. slice_range band s (s + w)) begins (sym is.wide) in
    subst (λ (xs : List ℕ). IsStopBit way (lanes_of lines count n) xs i) part
    (subst (λ (q : ℕ). IsStopBit way (lanes_of lines count q) (line_in lines.words band m) i) line was)

pub renew_line-requires-clause-words : goal.renew_line-requires-clause-words
renew_line-requires-clause-words c =
    let words : ℕ = c.args.map.now.lines.words in
    let band : List ℕ = c.args.band.now in
    let k : ℕ = c.args.n - c.args.first in
    let start : ℕ = c.from.result * c.words-words.result in
    let at : start ≡ k * words = ap₂ (λ a b. a * b) c.from.ensures c.words-words.ensures in
    let fits : k * words + words ≤ length band =
    line_fits words k (length band) c.requires.band (omega (arith, c.requires.high, c.requires.low)) in
    let wide : c.words-words.result ≡ words = c.words-words.ensures in
    part_long band start (start + c.words-words.result) c.words-words.result (omega arith) (omega (arith, fits, at, wide))
    ∙ wide

pub returns-clause-near : goal.returns-clause-near
returns-clause-near c m i line near =
    let lines : LineTable = c.args.map.now.lines in
    let k : ℕ = c.args.n - c.args.first in
    let band : List ℕ = c.args.band.now in
    let out : List ℕ = c.renew_line.new.stops in
    let count : ℕ = c.words-words.result in
    let start : ℕ = c.from.result * count in
    let below : k < 32 = omega (arith, c.requires.high, c.requires.low) in
    let put = put_of lines.words k start count band out (ap₂ (λ a b. a * b) c.from.ensures c.words-words.ensures)
    c.words-words.ensures c.requires.band below c.renew_line.ensures.stays in
    here_right c.args.way lines c.args.map.now.count c.args.first c.args.n m i k start count band out
    (take start band ++ (out ++ drop (start + count - start) (drop start band))) put c.requires.band below
    (omega (arith, line)) line (c.renew_line.ensures.near i near)

pub returns-clause-kept : goal.returns-clause-kept
returns-clause-kept c m i small inside within was =
    let lines : LineTable = c.args.map.now.lines in
    let k : ℕ = c.args.n - c.args.first in
    let band : List ℕ = c.args.band.now in
    let out : List ℕ = c.renew_line.new.stops in
    let count : ℕ = c.words-words.result in
    let start : ℕ = c.from.result * count in
    let below : k < 32 = omega (arith, c.requires.high, c.requires.low) in
    let new : List ℕ = take start band ++ (out ++ drop (start + count - start) (drop start band)) in
    let put : IsPut lines.words k start count band out new = put_of lines.words k start count band out
    (ap₂ (λ a b. a * b) c.from.ensures c.words-words.ensures)
    c.words-words.ensures c.requires.band below c.renew_line.ensures.stays in
    ⊎_elim
    (λ (line : c.args.first + m ≡ c.args.n).
    let same : m ≡ k = omega (arith, line) in
    here_right c.args.way lines c.args.map.now.count c.args.first c.args.n m i k start count band out new put c.requires.band below
    same line (c.renew_line.ensures.kept i within
    (part_right c.args.way lines c.args.map.now.count c.args.first c.args.n m i k start count band out new put same line was)))
    (λ (other : c.args.first + m ≢ c.args.n).
    stop_alike c.args.way (lanes_of lines c.args.map.now.count (c.args.first + m)) (line_in lines.words band m)
    (line_in lines.words new m) i
    (λ j. put_other band out new lines.words k m j put.put c.requires.band below put.long
    (λ e. other (omega (arith, e, c.requires.low)))) was)
    (cases_eq (c.args.first + m) c.args.n)

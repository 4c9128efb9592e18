-- The answer to a journal: it is one, its first part answers the first turns, and a turn more adds its replies.
use Rattle.std.proofs.Common.{◌≡◌, ◌≢◌, ℕ, ◌<◌, List, [], ◌∷◌, ◌++◌, length, take, refl, sym, ap, ◌∙◌, subst}
use Rattle.std.proofs.lemmas.List.{take-map}
use Rattle.nav_types.specs.declared.cells.Cell.{Cell}
use Rattle.nav_types.specs.declared.cells.Chunk.{Chunk}
use Rattle.nav_types.specs.Cells.{chunk_of}
use Rattle.nav_types.specs.Regions.{IsRegionFirst, IsNextChunk, IsEdge, IsAreaFirst}
use Rattle.posts.specs.declared.posts.Post.{Post}
use Rattle.posts.specs.declared.posts.Post.TheVariants.{Edit as Editing, Ask as Asking}
use Rattle.posts.specs.declared.replies.Reply.{Reply}
use Rattle.posts.specs.declared.replies.Reply.TheVariants.{Answer as Answered}
use Rattle.posts.specs.declared.replies.TurnReplies.{TurnReplies}
use Rattle.posts.specs.Maps.{Map}
use Rattle.grid_versions.specs.Passing.{passable_at}
use Rattle.nav_types.proofs.Counting.{Counts-unique}
use Rattle.turn_core.specs.Words.{Standing, bare, edited, TellsNumbers}
use Rattle.turn_core.proofs.OneAnswer.{one_answer_to}
use Rattle.turn_core.specs.Turns.{after, after_turn, standing, Gets, AreReplies, AreTurnReplies, OneThread, TellNumbers, IsTurnTold, replies_in, IsOneThread}

pub same_cons : {A : Type 0} (x y : A) (xs ys : List A) → x ≡ y → xs ≡ ys → x ∷ xs ≡ y ∷ ys
same_cons x y xs ys p q = cc

one_reply : (m : Map) (final s : Standing) (p : Post) (a b : Reply) → Gets m final s p a → Gets m final s p b → a ≡ b
one_reply m final s (Editing e) a b x y = x ∙ sym y
one_reply m final s (Asking q) a b x y = x.1.0 ∙ ap Answered (one_answer_to m final q x.0 y.0 x.1.1 y.1.1) ∙ sym y.1.0

one_list : (m : Map) (final s : Standing) (ps : List Post) (a b : List Reply) → AreReplies m final s ps a → AreReplies m final s ps b → a ≡ b
one_list m final s [] [] [] x y = refl
one_list m final s [] [] (r ∷ b) x y = absurd y
one_list m final s [] (r ∷ a) b x y = absurd x
one_list m final s (p ∷ ps) [] b x y = absurd x
one_list m final s (p ∷ ps) (r ∷ a) [] x y = absurd y
one_list m final s (p ∷ ps) (r ∷ a) (t ∷ b) x y =
    same_cons r t a b (one_reply m final s p r t x.0 y.0) (one_list m final (edited m s p) ps a b x.1 y.1)

pub one_turn : (m : Map) (final s : Standing) (turn : List (List Post)) (a b : List (List Reply)) → AreTurnReplies m final s turn a → AreTurnReplies m final s turn b → a ≡ b
one_turn m final s [] [] [] x y = refl
one_turn m final s [] [] (r ∷ b) x y = absurd y
one_turn m final s [] (r ∷ a) b x y = absurd x
one_turn m final s (ps ∷ turn) [] b x y = absurd x
one_turn m final s (ps ∷ turn) (r ∷ a) [] x y = absurd y
one_turn m final s (ps ∷ turn) (r ∷ a) (t ∷ b) x y =
    same_cons r t a b (one_list m final s ps r t x.0 y.0) (one_turn m final (after m s ps) turn a b x.1 y.1)

-- a journal has one list of replies
pub one_thread_lem : (m : Map) (s : Standing) (journal : List (List (List Post))) (a b : List (List (List Reply))) → OneThread m s journal a → OneThread m s journal b → a ≡ b
one_thread_lem m s [] [] [] x y = refl
one_thread_lem m s [] [] (r ∷ b) x y = absurd y
one_thread_lem m s [] (r ∷ a) b x y = absurd x
one_thread_lem m s (turn ∷ journal) [] b x y = absurd x
one_thread_lem m s (turn ∷ journal) (r ∷ a) [] x y = absurd y
one_thread_lem m s (turn ∷ journal) (r ∷ a) (t ∷ b) x y =
    same_cons r t a b (one_turn m (after_turn m s turn) s turn r t x.0 y.0) (one_thread_lem m (after_turn m s turn) journal a b x.1 y.1)

same_told : (a b : TurnReplies) → a.tallies ≡ b.tallies → a.relabelled ≡ b.relabelled → a.replies ≡ b.replies → a ≡ b
same_told a b p q r = λ i. record { tallies = p i; relabelled = q i; replies = r i }

-- a turn has one set of numbers of regions, of edges and of areas
pub one_tally : (m : Map) (before now : Standing) (a b : TurnReplies) → TellsNumbers m before now a → TellsNumbers m before now b → a.tallies ≡ b.tallies
unfolding TellsNumbers
one_tally m before now a b x y =
    let classes = length m.classes in
    let passes = passable_at m now in
    let regions = Counts-unique (λ (r : ℕ × Cell). (r.0 < classes) × IsRegionFirst (passes r.0) r.1) a.tallies.regions b.tallies.regions x.0.region_count y.0.region_count in
    let edges = Counts-unique (λ (e : ℕ × Chunk × Chunk × ℕ × ℕ). (e.0 < classes) × (IsNextChunk e.1 e.2 × IsEdge (passes e.0) e.1 e.2 e.3 e.4)) a.tallies.edges b.tallies.edges x.0.edge_count y.0.edge_count in
    let areas = Counts-unique (λ (p : ℕ × Cell). (p.0 < classes) × IsAreaFirst (passes p.0) p.1) a.tallies.areas b.tallies.areas x.0.area_count y.0.area_count in
    λ i. record { regions = regions i; edges = edges i; areas = areas i }

-- and one number of changed pairs of class and chunk
pub one_relabelling : (m : Map) (before now : Standing) (a b : TurnReplies) → TellsNumbers m before now a → TellsNumbers m before now b → a.relabelled ≡ b.relabelled
unfolding TellsNumbers
one_relabelling m before now a b x y =
    Counts-unique (λ (p : ℕ × Chunk). (p.0 < length m.classes) × ((cell : Cell) × ((chunk_of cell ≡ p.1) × (passable_at m before p.0 cell ≢ passable_at m now p.0 cell)))) a.relabelled b.relabelled x.1 y.1

-- a turn has one reply with these replies to its callers
pub one_telling : (m : Map) (before now : Standing) (a b : TurnReplies) → TellsNumbers m before now a → TellsNumbers m before now b → a.replies ≡ b.replies → a ≡ b
one_telling m before now a b x y same = same_told a b (one_tally m before now a b x y) (one_relabelling m before now a b x y) same

-- a turn has one answer
pub one_turn_told : (m : Map) (s : Standing) (turn : List (List Post)) (a b : TurnReplies) → IsTurnTold m s turn a → IsTurnTold m s turn b → a ≡ b
one_turn_told m s turn a b x y = one_telling m s (after_turn m s turn) a b x.numbers y.numbers
    (one_turn m (after_turn m s turn) s turn a.replies b.replies x.replies y.replies)

one_told : (m : Map) (s : Standing) (journal : List (List (List Post))) (a b : List TurnReplies) → TellNumbers m s journal a → TellNumbers m s journal b → replies_in a ≡ replies_in b → a ≡ b
one_told m s [] [] [] x y same = refl
one_told m s [] [] (r ∷ b) x y same = absurd y
one_told m s [] (r ∷ a) b x y same = absurd x
one_told m s (turn ∷ journal) [] b x y same = absurd x
one_told m s (turn ∷ journal) (r ∷ a) [] x y same = absurd y
one_told m s (turn ∷ journal) (r ∷ a) (t ∷ b) x y same =
    let head : r.replies ≡ t.replies = cc in
    let tail : replies_in a ≡ replies_in b = cc in
    same_cons r t a b (one_telling m s (after_turn m s turn) r t x.0 y.0 head) (one_told m (after_turn m s turn) journal a b x.1 y.1 tail)

-- a journal has one answer
pub one_answer_list : (m : Map) (journal : List (List (List Post))) (a b : List TurnReplies) → IsOneThread m journal a → IsOneThread m journal b → a ≡ b
one_answer_list m journal a b x y = one_told m bare journal a b x.numbers y.numbers (one_thread_lem m bare journal (replies_in a) (replies_in b) x.replies y.replies)

-- the first replies are those to the first turns
pub thread_front : (m : Map) (s : Standing) (journal rest : List (List (List Post))) (all : List (List (List Reply))) → OneThread m s (journal ++ rest) all → OneThread m s journal (take (length journal) all)
thread_front m s [] rest all x = tt
thread_front m s (turn ∷ journal) rest [] x = absurd x
thread_front m s (turn ∷ journal) rest (r ∷ all) x = (x.0, thread_front m (after_turn m s turn) journal rest all x.1)

numbers_front : (m : Map) (s : Standing) (journal rest : List (List (List Post))) (all : List TurnReplies) → TellNumbers m s (journal ++ rest) all → TellNumbers m s journal (take (length journal) all)
numbers_front m s [] rest all x = tt
numbers_front m s (turn ∷ journal) rest [] x = absurd x
numbers_front m s (turn ∷ journal) rest (r ∷ all) x = (x.0, numbers_front m (after_turn m s turn) journal rest all x.1)

pub answer_front : (m : Map) (journal rest : List (List (List Post))) (all : List TurnReplies) → IsOneThread m (journal ++ rest) all → IsOneThread m journal (take (length journal) all)
answer_front m journal rest all x = record {
  replies = subst (OneThread m bare journal) (take-map (λ (told : TurnReplies). told.replies) (length journal) all) (thread_front m bare journal rest (replies_in all) x.replies);
  numbers = numbers_front m bare journal rest all x.numbers;
}

-- what stands after one turn more
pub standing_more : (m : Map) (s : Standing) (journal : List (List (List Post))) (turn : List (List Post)) → standing m s (journal ++ turn ∷ []) ≡ after_turn m (standing m s journal) turn
standing_more m s [] turn = refl
standing_more m s (t ∷ journal) turn = standing_more m (after_turn m s t) journal turn

-- the replies to one turn more
pub thread_more : (m : Map) (s : Standing) (journal : List (List (List Post))) (turn : List (List Post)) (all : List (List (List Reply))) (replies : List (List Reply))
    → OneThread m s journal all → AreTurnReplies m (after_turn m (standing m s journal) turn) (standing m s journal) turn replies
    → OneThread m s (journal ++ turn ∷ []) (all ++ replies ∷ [])
thread_more m s [] turn [] replies x y = (y, tt)
thread_more m s [] turn (r ∷ all) replies x y = absurd x
thread_more m s (t ∷ journal) turn [] replies x y = absurd x
thread_more m s (t ∷ journal) turn (r ∷ all) replies x y = (x.0, thread_more m (after_turn m s t) journal turn all replies x.1 y)

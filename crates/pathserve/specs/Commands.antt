-- The words of a command line.
use Rattle.std.specs.Prelude.{ℕ, ◌+◌, ◌-◌, ◌*◌, ◌^◌, ◌==◌, ◌&&◌, ◌||◌, not, List, [], ◌∷◌, length, slice_index, Bool, Option, Some, None, is_some, if◌then◌else◌, nat_le, nat_lt, codes, bytes_eq, option_map, option_and_then}
use Rattle.std.specs.Int.{is_in_range}
use Rattle.std.specs.Str.Parse.{digits_value}
use Rattle.fixed_point.specs.Text.{is_digits}
use Rattle.pathserve.specs.declared.commands.Command.{Command}
use Rattle.pathserve.specs.declared.commands.Command.TheVariants.{Replay, Serve, Make}
use Rattle.posts.specs.declared.notes.Report.{Report}
use Rattle.posts.specs.declared.notes.Report.TheVariants.{Answers, OpenedNumbers, Flows, Smoothed}

-- the number of two digits, if it is at most 64
abbrev pub up_to_64 : ℕ → ℕ → Option ℕ
up_to_64 tens units = let n = (tens - 48) * 10 + (units - 48) in if nat_le n 64 then Some n else None

-- the number from 1 to 64 that a word is in decimal, without a sign or a leading zero
abbrev pub workers_of : List ℕ → Option ℕ
workers_of (units ∷ []) = if is_in_range 49 57 units then Some (units - 48) else None
workers_of (tens ∷ (units ∷ [])) = if is_in_range 49 57 tens && is_in_range 48 57 units then up_to_64 tens units else None
workers_of word = None

-- one to twenty digits without a leading zero (48), or the single digit 0
abbrev pub is_whole_number : List ℕ → Bool
is_whole_number word = is_digits 20 word && (length word == 1 || not (slice_index word 0 == 48))

-- the number below 2^64 that a word is in decimal, without a sign or a leading zero
abbrev pub seed_of : List ℕ → Option ℕ
seed_of word = let seed = digits_value 10 word in if is_whole_number word && nat_lt seed (2 ^ 64) then Some seed else None

-- what a word asks to be told beside the answers to a script
abbrev pub report_by : List ℕ → Option Report
report_by word =
    if bytes_eq word (codes "replay") then Some Answers
    else if bytes_eq word (codes "profile") then Some OpenedNumbers
    else if bytes_eq word (codes "flow") then Some Flows
    else if bytes_eq word (codes "smooth") then Some Smoothed
    else None

-- a word that is a command by itself
abbrev pub is_script_word : List ℕ → Bool
is_script_word word = bytes_eq word (codes "serve") || is_some (report_by word)

-- the command of one word, by so many workers
abbrev pub command_by : List ℕ → ℕ → Option Command
command_by word workers =
    if bytes_eq word (codes "serve") then Some (Serve workers)
    else option_map (λ report. Replay report workers) (report_by word)

-- the command of a word and a number, by so many workers
abbrev pub make_by : List ℕ → List ℕ → ℕ → Option Command
make_by word number workers =
    if bytes_eq word (codes "make") then option_map (λ seed. Make seed workers) (seed_of number) else None

-- The command of the words, where they are in the grammar: one that answers a script, `serve`, or `make` with a number, by 4
-- workers, or by the number behind `--workers`.
abbrev pub command_of : List (List ℕ) → Option Command
command_of (word ∷ []) = command_by word 4
command_of (word ∷ (number ∷ [])) = make_by word number 4
command_of (word ∷ (option ∷ (count ∷ []))) =
    if bytes_eq option (codes "--workers") then option_and_then (command_by word) (workers_of count) else None
command_of (word ∷ (number ∷ (option ∷ (count ∷ [])))) =
    if bytes_eq option (codes "--workers") then option_and_then (make_by word number) (workers_of count) else None
command_of words = None

-- the number of workers in a command
abbrev pub workers_in : Command → ℕ
workers_in (Replay report workers) = workers
workers_in (Serve workers) = workers
workers_in (Make seed workers) = workers

-- Which word of a command line is wrong.
use Rattle.std.specs.Prelude.{ℕ, ◌≡◌, ◌+◌, ◌⊎◌, List, [], ◌∷◌, ◌++◌, length, None, IsSome}
use Rattle.pathserve.specs.Commands.{command_of}

-- some command begins with these words
abbrev pub BeginsCommand : List (List ℕ) → Type 0
BeginsCommand words = (more : List (List ℕ)) × IsSome (command_of (words ++ more))

-- The command goes on behind these words, which are all.
pub record LacksWord (words before : List (List ℕ)) : Type 0 where
  pub all : words ≡ before
  pub unfinished : command_of words ≡ None

-- No command goes on with this word.
pub record HasWrongWord (words before : List (List ℕ)) : Type 0 where
  pub word : List ℕ
  pub behind : List (List ℕ)
  pub parts : words ≡ before ++ word ∷ behind
  pub wrong : BeginsCommand (before ++ word ∷ []) → ⊥

-- The word of this number, from 1, is the first that is wrong: some command begins with the words before it, and none with it
-- too; or it is the one that is missing.
pub record IsFirstWrong (words : List (List ℕ)) (number : ℕ) : Type 0 where
  pub before : List (List ℕ)
  pub place : number ≡ length before + 1
  pub begins : BeginsCommand before
  pub wrong : LacksWord words before ⊎ HasWrongWord words before

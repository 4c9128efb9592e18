-- The first word that is wrong.
use Rattle.std.proofs.Common.{◌≡◌, ◌∙◌, ℕ, ◌+◌, List, [], ◌∷◌, ◌++◌, length, Bool, true, false, cond, Option, Some, None, option_map, option_and_then, is_some, IfSome, inl, inr, refl, sym, ap, subst, append_assoc, length-append, arith}
use Rattle.std.proofs.lemmas.List.{append-nil}
use Rattle.std.specs.Prelude.{◌↔◌, ◌||◌, IsSome, bytes_eq, codes}
use Rattle.std.proofs.lemmas.Slice.Eq.{bytes_eq-Decides}
use Rattle.pathserve.specs.declared.commands.Command.{Command}
use Rattle.pathserve.specs.declared.commands.Command.TheVariants.{Replay, Serve, Make}
use Rattle.posts.specs.declared.notes.Report.{Report}
use Rattle.pathserve.specs.Commands.{command_of, command_by, make_by, is_script_word, report_by, seed_of, workers_of}
use Rattle.pathserve.specs.WrongWords.{BeginsCommand, IsFirstWrong}
use Rattle.pathserve.specs.inner.WordPlaces.{wrong_at, wrong_behind_make, wrong_option, wrong_count}

abbrev workers_word : List ℕ
workers_word = codes "--workers"

none_some : {A P : Type 0} (x : Option A) → x ≡ None → IsSome x → P
none_some None e some = absurd cc
none_some (Some a) e some = absurd cc

-- ---- what is no command

cond_none : (b : Bool) (x : Option Command) → x ≡ None → cond b x None ≡ None
cond_none true x e = e
cond_none false x e = refl

then_none : (f : ℕ → Option Command) (n : Option ℕ) → ((m : ℕ) → f m ≡ None) → option_and_then f n ≡ None
then_none f None none = refl
then_none f (Some m) none = none m

no_script : (word : List ℕ) (b : Bool) (report : Option Report) (workers : ℕ) → b || is_some report ≡ false → cond b (Some (Serve workers)) (option_map (λ r. Replay r workers) report) ≡ None
no_script word true report workers e = absurd cc
no_script word false None workers e = refl
no_script word false (Some report) workers e = absurd cc

no_command_by : (word : List ℕ) (workers : ℕ) → is_script_word word ≡ false → command_by word workers ≡ None
no_command_by word workers e = no_script word (bytes_eq word (codes "serve")) (report_by word) workers e

no_make_by : (word number : List ℕ) (workers : ℕ) → bytes_eq word (codes "make") ≡ false → make_by word number workers ≡ None
no_make_by word number workers e = ap (λ b. cond b (option_map (λ seed. Make seed workers) (seed_of number)) None) e

no_seed_by : (word number : List ℕ) (workers : ℕ) → seed_of number ≡ None → make_by word number workers ≡ None
no_seed_by word number workers e =
    cond_none (bytes_eq word (codes "make")) (option_map (λ seed. Make seed workers) (seed_of number)) (ap (option_map (λ seed. Make seed workers)) e)

-- ---- what is a command

some_script : (b : Bool) (report : Option Report) (workers : ℕ) → b || is_some report ≡ true → IsSome (cond b (Some (Serve workers)) (option_map (λ r. Replay r workers) report))
some_script true report workers e = refl
some_script false None workers e = absurd cc
some_script false (Some report) workers e = refl

some_command_by : (word : List ℕ) (workers : ℕ) → is_script_word word ≡ true → IsSome (command_by word workers)
some_command_by word workers e = some_script (bytes_eq word (codes "serve")) (report_by word) workers e

some_make : (b : Bool) (seed : Option ℕ) (workers : ℕ) → b ≡ true → is_some seed ≡ true → IsSome (cond b (option_map (λ s. Make s workers) seed) None)
some_make true None workers make some = absurd cc
some_make true (Some seed) workers make some = refl
some_make false seed workers make some = absurd cc

some_make_by : (word number : List ℕ) (workers : ℕ) → bytes_eq word (codes "make") ≡ true → is_some (seed_of number) ≡ true → IsSome (make_by word number workers)
some_make_by word number workers make some = some_make (bytes_eq word (codes "make")) (seed_of number) workers make some

some_counted : (f : ℕ → Option Command) (b : Bool) (n : Option ℕ) → b ≡ true → is_some n ≡ true → ((m : ℕ) → IsSome (f m)) → IsSome (cond b (option_and_then f n) None)
some_counted f true None is some all = absurd cc
some_counted f true (Some n) is some all = all n
some_counted f false n is some all = absurd cc

-- ---- a whole command, behind which only the number of workers may stand

record IsCommand (front : List (List ℕ)) : Type 0 where
  whole : IsSome (command_of front)
  option : (word : List ℕ) (more : List (List ℕ)) → bytes_eq word workers_word ≡ false → command_of (front ++ word ∷ more) ≡ None
  unfinished : (word : List ℕ) → command_of (front ++ word ∷ []) ≡ None
  counted : (word count : List ℕ) → bytes_eq word workers_word ≡ true → is_some (workers_of count) ≡ true → IsSome (command_of (front ++ word ∷ (count ∷ [])))
  no_count : (word count : List ℕ) (more : List (List ℕ)) → workers_of count ≡ None → command_of (front ++ word ∷ (count ∷ more)) ≡ None
  last : (word count next : List ℕ) (more : List (List ℕ)) → command_of (front ++ word ∷ (count ∷ (next ∷ more))) ≡ None

script_option : (word option : List ℕ) (more : List (List ℕ)) → bytes_eq word (codes "make") ≡ false → bytes_eq option workers_word ≡ false → command_of (word ∷ (option ∷ more)) ≡ None
script_option word option [] make e = no_make_by word option 4 make
script_option word option (count ∷ []) make e = ap (λ b. cond b (option_and_then (command_by word) (workers_of count)) None) e
script_option word option (next ∷ (count ∷ [])) make e =
    cond_none (bytes_eq next (codes "--workers")) (option_and_then (make_by word option) (workers_of count)) (then_none (make_by word option) (workers_of count) (λ m. no_make_by word option m make))
script_option word option (next ∷ (count ∷ (other ∷ more))) make e = refl

script_no_count : (word option count : List ℕ) (more : List (List ℕ)) → bytes_eq word (codes "make") ≡ false → workers_of count ≡ None → command_of (word ∷ (option ∷ (count ∷ more))) ≡ None
script_no_count word option count [] make e = cond_none (bytes_eq option (codes "--workers")) (option_and_then (command_by word) (workers_of count)) (ap (option_and_then (command_by word)) e)
script_no_count word option count (next ∷ []) make e =
    cond_none (bytes_eq count (codes "--workers")) (option_and_then (make_by word option) (workers_of next)) (then_none (make_by word option) (workers_of next) (λ m. no_make_by word option m make))
script_no_count word option count (next ∷ (other ∷ more)) make e = refl

script_last : (word option count next : List ℕ) (more : List (List ℕ)) → bytes_eq word (codes "make") ≡ false → command_of (word ∷ (option ∷ (count ∷ (next ∷ more)))) ≡ None
script_last word option count next [] make =
    cond_none (bytes_eq count (codes "--workers")) (option_and_then (make_by word option) (workers_of next)) (then_none (make_by word option) (workers_of next) (λ m. no_make_by word option m make))
script_last word option count next (other ∷ more) make = refl

script_command : (word : List ℕ) → bytes_eq word (codes "make") ≡ false → is_script_word word ≡ true → IsCommand (word ∷ [])
script_command word make script = record {
  whole = some_command_by word 4 script;
  option = λ option more e. script_option word option more make e;
  unfinished = λ option. no_make_by word option 4 make;
  counted = λ option count is some. some_counted (command_by word) (bytes_eq option (codes "--workers")) (workers_of count) is some (λ m. some_command_by word m script);
  no_count = λ option count more e. script_no_count word option count more make e;
  last = λ option count next more. script_last word option count next more make;
}

-- ---- a match made out of a number

make_is_none : (word : List ℕ) (workers : ℕ) → bytes_eq word (codes "make") ≡ true → command_by word workers ≡ None
make_is_none word workers e = no_command_by word workers (ap is_script_word ((bytes_eq-Decides word (codes "make")).0 e))

make_three : (word number option : List ℕ) → bytes_eq word (codes "make") ≡ true → command_of (word ∷ (number ∷ (option ∷ []))) ≡ None
make_three word number option make =
    cond_none (bytes_eq number (codes "--workers")) (option_and_then (command_by word) (workers_of option)) (then_none (command_by word) (workers_of option) (λ m. make_is_none word m make))

make_option : (word number option : List ℕ) (more : List (List ℕ)) → bytes_eq word (codes "make") ≡ true → bytes_eq option workers_word ≡ false → command_of (word ∷ (number ∷ (option ∷ more))) ≡ None
make_option word number option [] make e = make_three word number option make
make_option word number option (count ∷ []) make e = ap (λ b. cond b (option_and_then (make_by word number) (workers_of count)) None) e
make_option word number option (count ∷ (next ∷ more)) make e = refl

make_no_seed : (word number : List ℕ) (more : List (List ℕ)) → bytes_eq word (codes "make") ≡ true → seed_of number ≡ None → command_of (word ∷ (number ∷ more)) ≡ None
make_no_seed word number [] make e = no_seed_by word number 4 e
make_no_seed word number (option ∷ []) make e = make_three word number option make
make_no_seed word number (option ∷ (count ∷ [])) make e =
    cond_none (bytes_eq option (codes "--workers")) (option_and_then (make_by word number) (workers_of count)) (then_none (make_by word number) (workers_of count) (λ m. no_seed_by word number m e))
make_no_seed word number (option ∷ (count ∷ (next ∷ more))) make e = refl

make_no_count : (word number option count : List ℕ) (more : List (List ℕ)) → workers_of count ≡ None → command_of (word ∷ (number ∷ (option ∷ (count ∷ more)))) ≡ None
make_no_count word number option count [] e = cond_none (bytes_eq option (codes "--workers")) (option_and_then (make_by word number) (workers_of count)) (ap (option_and_then (make_by word number)) e)
make_no_count word number option count (next ∷ more) e = refl

make_command : (word number : List ℕ) → bytes_eq word (codes "make") ≡ true → is_some (seed_of number) ≡ true → IsCommand (word ∷ (number ∷ []))
make_command word number make seed = record {
  whole = some_make_by word number 4 make seed;
  option = λ option more e. make_option word number option more make e;
  unfinished = λ option. make_three word number option make;
  counted = λ option count is some. some_counted (make_by word number) (bytes_eq option (codes "--workers")) (workers_of count) is some (λ m. some_make_by word number m make seed);
  no_count = λ option count more e. make_no_count word number option count more e;
  last = λ option count next more. refl;
}

-- ---- judged

abbrev Judged : List (List ℕ) → Option ℕ → Type 0
Judged words None = IsSome (command_of words)
Judged words (Some n) = (command_of words ≡ None) × IsFirstWrong words n

-- the word behind these is wrong, whatever follows
wrong_word : (front : List (List ℕ)) (word : List ℕ) (behind : List (List ℕ)) (n : ℕ) → n ≡ length front + 1 → BeginsCommand front → ((more : List (List ℕ)) → command_of (front ++ word ∷ more) ≡ None)
    → Judged (front ++ word ∷ behind) (Some n)
wrong_word front word behind n place begins none = (
  none behind,
  record {
    before = front;
    place = place;
    begins = begins;
    wrong = inr (record {
      word = word;
      behind = behind;
      parts = refl;
      wrong = λ (more, some). none_some (command_of ((front ++ word ∷ []) ++ more)) (ap command_of (append_assoc front (word ∷ []) more) ∙ none more) some;
    });
  },
)

-- the word behind these is missing
lacks_word : (words : List (List ℕ)) (n : ℕ) → n ≡ length words + 1 → BeginsCommand words → command_of words ≡ None → Judged words (Some n)
lacks_word words n place begins none = (none, record { before = words; place = place; begins = begins; wrong = inl (record { all = refl; unfinished = none }) })

-- behind a command
judged_count : (front : List (List ℕ)) (word : List ℕ) (words : List (List ℕ)) → IsCommand front → bytes_eq word workers_word ≡ true
    → Judged (front ++ word ∷ words) (wrong_count words (length front + 2))
judged_count front word [] c is =
    lacks_word (front ++ word ∷ []) (length front + 2) (omega (arith, length-append front (word ∷ [])))
    (codes "1" ∷ [], subst (λ words. IsSome (command_of words)) (sym (append_assoc front (word ∷ []) (codes "1" ∷ []))) (c.counted word (codes "1") is refl)) (c.unfinished word)
judged_count front word (count ∷ []) c is = by_count (workers_of count) refl
  where
    by_count : (found : Option ℕ) → workers_of count ≡ found → Judged (front ++ word ∷ (count ∷ [])) (cond (is_some found) None (Some (length front + 2)))
    by_count (Some n) e = c.counted word count is (ap is_some e)
    by_count None e =
        let parts = append_assoc front (word ∷ []) (count ∷ []) in
        let none : (more : List (List ℕ)) → command_of ((front ++ word ∷ []) ++ count ∷ more) ≡ None =
        λ more. ap command_of (append_assoc front (word ∷ []) (count ∷ more)) ∙ c.no_count word count more e in
        subst (λ words. Judged words (Some (length front + 2))) parts
        (wrong_word (front ++ word ∷ []) count [] (length front + 2) (omega (arith, length-append front (word ∷ [])))
        (codes "1" ∷ [], subst (λ words. IsSome (command_of words)) (sym (append_assoc front (word ∷ []) (codes "1" ∷ []))) (c.counted word (codes "1") is refl)) none)
judged_count front word (count ∷ (next ∷ words)) c is = by_count (workers_of count) refl
  where
    by_count : (found : Option ℕ) → workers_of count ≡ found
        → Judged (front ++ word ∷ (count ∷ (next ∷ words))) (cond (is_some found) (Some (length front + 2 + 1)) (Some (length front + 2)))
    by_count (Some n) e =
        let parts = append_assoc front (word ∷ (count ∷ [])) (next ∷ words) in
        let none : (more : List (List ℕ)) → command_of ((front ++ word ∷ (count ∷ [])) ++ next ∷ more) ≡ None =
        λ more. ap command_of (append_assoc front (word ∷ (count ∷ [])) (next ∷ more)) ∙ c.last word count next more in
        subst (λ words. Judged words (Some (length front + 2 + 1))) parts
        (wrong_word (front ++ word ∷ (count ∷ [])) next words (length front + 2 + 1) (omega (arith, length-append front (word ∷ (count ∷ []))))
        ([], subst (λ words. IsSome (command_of words)) (sym (append-nil (front ++ word ∷ (count ∷ [])))) (c.counted word count is (ap is_some e))) none)
    by_count None e =
        let parts = append_assoc front (word ∷ []) (count ∷ (next ∷ words)) in
        let none : (more : List (List ℕ)) → command_of ((front ++ word ∷ []) ++ count ∷ more) ≡ None =
        λ more. ap command_of (append_assoc front (word ∷ []) (count ∷ more)) ∙ c.no_count word count more e in
        subst (λ words. Judged words (Some (length front + 2))) parts
        (wrong_word (front ++ word ∷ []) count (next ∷ words) (length front + 2) (omega (arith, length-append front (word ∷ [])))
        (codes "1" ∷ [], subst (λ words. IsSome (command_of words)) (sym (append_assoc front (word ∷ []) (codes "1" ∷ []))) (c.counted word (codes "1") is refl)) none)

judged_option : (front : List (List ℕ)) (words : List (List ℕ)) → IsCommand front → Judged (front ++ words) (wrong_option words (length front + 1))
judged_option front [] c = subst (λ words. IsSome (command_of words)) (sym (append-nil front)) c.whole
judged_option front (word ∷ words) c = by_word (bytes_eq word (codes "--workers")) refl
  where
    by_word : (test : Bool) → bytes_eq word (codes "--workers") ≡ test
        → Judged (front ++ word ∷ words) (cond test (wrong_count words (length front + 1 + 1)) (Some (length front + 1)))
    by_word true e = subst (λ n. Judged (front ++ word ∷ words) (wrong_count words n)) (omega arith) (judged_count front word words c e)
    by_word false e =
        wrong_word front word words (length front + 1) refl ([], subst (λ ws. IsSome (command_of ws)) (sym (append-nil front)) c.whole) (λ more. c.option word more e)

-- behind `make`
judged_make : (word : List ℕ) (words : List (List ℕ)) → bytes_eq word (codes "make") ≡ true → Judged (word ∷ words) (wrong_behind_make words)
judged_make word [] make = lacks_word (word ∷ []) 2 refl (codes "0" ∷ [], some_make_by word (codes "0") 4 make refl) (make_is_none word 4 make)
judged_make word (number ∷ words) make = by_number (seed_of number) refl
  where
    by_number : (found : Option ℕ) → seed_of number ≡ found → Judged (word ∷ (number ∷ words)) (cond (is_some found) (wrong_option words 3) (Some 2))
    by_number (Some seed) e = judged_option (word ∷ (number ∷ [])) words (make_command word number make (ap is_some e))
    by_number None e =
        wrong_word (word ∷ []) number words 2 refl (codes "0" ∷ [], some_make_by word (codes "0") 4 make refl) (λ more. make_no_seed word number more make e)

-- a word with which no command begins
no_command : (word : List ℕ) (words : List (List ℕ)) → bytes_eq word (codes "make") ≡ false → is_script_word word ≡ false → command_of (word ∷ words) ≡ None
no_command word [] make script = no_command_by word 4 script
no_command word (number ∷ []) make script = no_make_by word number 4 make
no_command word (option ∷ (count ∷ [])) make script =
    cond_none (bytes_eq option (codes "--workers")) (option_and_then (command_by word) (workers_of count)) (then_none (command_by word) (workers_of count) (λ m. no_command_by word m script))
no_command word (number ∷ (option ∷ (count ∷ []))) make script =
    cond_none (bytes_eq option (codes "--workers")) (option_and_then (make_by word number) (workers_of count)) (then_none (make_by word number) (workers_of count) (λ m. no_make_by word number m make))
no_command word (number ∷ (option ∷ (count ∷ (next ∷ words)))) make script = refl

judged : (words : List (List ℕ)) → Judged words (wrong_at words)
judged [] = lacks_word [] 1 refl (codes "serve" ∷ [], refl) refl
judged (word ∷ words) = by_word (bytes_eq word (codes "make")) refl (is_script_word word) refl
  where
    by_word : (make : Bool) → bytes_eq word (codes "make") ≡ make → (script : Bool) → is_script_word word ≡ script
        → Judged (word ∷ words) (cond make (wrong_behind_make words) (cond script (wrong_option words 2) (Some 1)))
    by_word true make script e = judged_make word words make
    by_word false make true script = judged_option (word ∷ []) words (script_command word make script)
    by_word false make false script = wrong_word [] word words 1 refl (codes "serve" ∷ [], refl) (λ more. no_command word more make script)

-- ---- what is answered

first_of : (words : List (List ℕ)) (found : Option ℕ) → Judged words found → IfSome found (IsFirstWrong words)
first_of words None j = tt
first_of words (Some n) j = j.1

none_of : (words : List (List ℕ)) (found : Option ℕ) → Judged words found → (found ≡ None) ↔ IsSome (command_of words)
none_of words None j = (λ e. j, λ some. refl)
none_of words (Some n) j = (λ e. absurd cc, λ some. none_some (command_of words) j.0 some)

pub is_first_wrong : (words : List (List ℕ)) (found : Option ℕ) → found ≡ wrong_at words → IfSome found (IsFirstWrong words)
is_first_wrong words found is = first_of words found (subst (Judged words) (sym is) (judged words))

pub none_wrong : (words : List (List ℕ)) (found : Option ℕ) → found ≡ wrong_at words → (found ≡ None) ↔ IsSome (command_of words)
none_wrong words found is = none_of words found (subst (Judged words) (sym is) (judged words))

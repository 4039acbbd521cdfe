-- What the words after the program's name ask for.
use Rattle.std.specs.Prelude.{ℕ, ◌≤◌, Bool, true, false, not, ◌&&◌, ◌==◌, List, [], ◌∷◌, Option, Some, None, if◌then◌else◌, bytes_eq, codes}
use Rattle.std.specs.Option.{option_and_then}
use Rattle.program_words.specs.declared.words.Wanted.{Wanted}
use Rattle.program_words.specs.declared.words.Asked.{Asked}
use Rattle.program_words.specs.declared.words.Asked.TheVariants.{Run, Check, Drill, Replay, Nothing}
use Rattle.program_words.specs.declared.words.TheConstants.{MOST_DRILL_JOBS}
use Rattle.basic_values.specs.Decimals.{number_between}

-- a word that begins with a minus and goes on after it is a flag
abbrev pub is_flag : List ℕ → Bool
is_flag [] = false
is_flag (byte ∷ []) = false
is_flag (byte ∷ second ∷ bytes) = byte == 45

-- the flags among the words, and the words that are none
pub record Sorted : Type 0 where
  pub flags : List (List ℕ)
  pub plain : List (List ℕ)

abbrev pub with_flag : List ℕ → Sorted → Sorted
with_flag word sorted = record sorted { flags = word ∷ sorted.flags }

abbrev pub with_plain : List ℕ → Sorted → Sorted
with_plain word sorted = record sorted { plain = word ∷ sorted.plain }

-- the first word `--` is neither, and after it no word is a flag
abbrev pub sorted : List (List ℕ) → Sorted
sorted [] = record { flags = []; plain = [] }
sorted (word ∷ words) =
    if bytes_eq word (codes "--") then record { flags = []; plain = words }
    else if is_flag word then with_flag word (sorted words) else with_plain word (sorted words)

-- an action, a count after it if there is one, and what the flags ask for
pub record Said : Type 0 where
  pub action : List ℕ
  pub count : Option (List ℕ)
  pub wanted : Wanted

abbrev pub nothing_wanted : Wanted
nothing_wanted = record { history = false; printer = false }

abbrev pub is_nothing : Wanted → Bool
is_nothing wanted = not wanted.history && not wanted.printer

-- no flag except `--history` and `--printer`, and each once at the most
abbrev pub wanted_more : List ℕ → Wanted → Option Wanted
wanted_more flag wanted =
    if bytes_eq flag (codes "--history")
    then (if wanted.history then None else Some (record wanted { history = true }))
    else if bytes_eq flag (codes "--printer")
    then (if wanted.printer then None else Some (record wanted { printer = true }))
    else None

abbrev pub wanted_from : Wanted → List (List ℕ) → Option Wanted
wanted_from wanted [] = Some wanted
wanted_from wanted (flag ∷ flags) =
    option_and_then (λ more. wanted_from more flags) (wanted_more flag wanted)

-- one plain word or two
abbrev pub said_with : List (List ℕ) → Wanted → Option Said
said_with [] wanted = None
said_with (action ∷ []) wanted =
    Some (record { action = action; count = None; wanted = wanted })
said_with (action ∷ count ∷ []) wanted =
    Some (record { action = action; count = Some count; wanted = wanted })
said_with (action ∷ count ∷ third ∷ words) wanted = None

-- with what the flags before these ask for
abbrev pub said_in : Wanted → List (List ℕ) → List (List ℕ) → Option Said
said_in wanted flags plain = option_and_then (said_with plain) (wanted_from wanted flags)

-- run, with what its flags ask for, and check and replay, without anything
abbrev pub asked_alone : List ℕ → Wanted → Asked
asked_alone action wanted =
    if bytes_eq action (codes "run") then Run wanted
    else if bytes_eq action (codes "check") && is_nothing wanted then Check
    else if bytes_eq action (codes "replay") && is_nothing wanted then Replay else Nothing

abbrev pub drill_by : Option ℕ → Asked
drill_by None = Nothing
drill_by (Some jobs) = Drill jobs

-- drill, with a number from 1 to 16 in digits without a leading zero
abbrev pub asked_counting : List ℕ → Wanted → List ℕ → Asked
asked_counting action wanted count =
    if bytes_eq action (codes "drill") && is_nothing wanted
    then drill_by (number_between 1 MOST_DRILL_JOBS count) else Nothing

abbrev pub asked_with : Option (List ℕ) → List ℕ → Wanted → Asked
asked_with None action wanted = asked_alone action wanted
asked_with (Some count) action wanted = asked_counting action wanted count

abbrev pub asked_plainly : Said → Asked
asked_plainly said = asked_with said.count said.action said.wanted

abbrev pub asked_where : Option Said → Asked
asked_where None = Nothing
asked_where (Some said) = asked_plainly said

abbrev pub said : List (List ℕ) → Option Said
said words = said_in nothing_wanted (sorted words).flags (sorted words).plain

abbrev pub asked : List (List ℕ) → Asked
asked words = asked_where (said words)

-- a drill has from 1 to 16 terminals
abbrev pub IsFew : Asked → Type 0
IsFew (Drill jobs) = (1 ≤ jobs) × (jobs ≤ MOST_DRILL_JOBS)
IsFew asked = Unit {0}

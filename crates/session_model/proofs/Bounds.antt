-- A bound on statements changes nothing of a session, as long as the units are fewer.
use Rattle.std.proofs.Common.{◌≡◌, ℕ, zero, suc, ◌<◌, ◌≤◌, List, [], ◌∷◌, ◌++◌, Option, Some, None, refl, sym, ap, subst, arith}
use Rattle.std.specs.Prelude.{Bool, true, false, if◌then◌else◌, Result, Ok, Err}
use Rattle.monitor_calls.specs.declared.calls.Request.TheVariants.{Tick}
use Rattle.monitor_calls.specs.declared.calls.Reply.{Reply}
use Rattle.monitor_calls.specs.declared.names.Account.{Account}
use Rattle.monitor_calls.specs.Typing.{Typing, Line, Over, Open}
use Rattle.basic_tree.specs.LineVerdicts.{Verdict, HasTree, RefusedFor, Judge}
use Rattle.basic_tree.specs.SpellingStatements.{line_statements}
use Rattle.basic_tree.specs.Trees.{StatementTree}
use Rattle.job_model.specs.Act.{Act, Gives, Breaks, Asks, Types, Takes, Break, Faulted, Halted, Gone, Left, ◌then◌, over}
use Rattle.job_model.specs.Play.{Clock, counted, ticked, is_quiet, lets_on, play, play_tick, Broke, Finished, behind_ask}
use Rattle.job_model.specs.Ends.{at_ends}
use Rattle.job_model.specs.Texts.{line_end}
use Rattle.program_model.specs.declared.refusals.LowerRefusal.{LowerRefusal}
use Rattle.program_model.specs.Program.{Program, Position, whole}
use Rattle.program_model.specs.Job as program
use Rattle.program_model.specs.Job.{Job}
use Rattle.program_model.specs.Storage.{in_storage}
use Rattle.program_model.specs.FileActs.{shut_act}
use Rattle.program_model.specs.Control.{At, Behind, home_of, runs_at}
use Rattle.program_model.specs.Bounds.{Alike, gives, breaks, asks, types, spent, takes}
use Rattle.program_model.specs.Running.{Coming, runs_cleared, raises, continues_open, continues, line_alone, apart, together}
use Rattle.program_model.specs.Soundness.{can_begin, refusal_of, refusal_now}
use Rattle.program_model.proofs.BoundLemmas.{same, and_then, ends_closed_alike, bounds_enough_from, cleared_enough, raises_enough}
use Rattle.program_model.proofs.ChainLemmas.{SpendsFirst, cleared_spends, raises_spend}
use Rattle.file_names.specs.declared.spec.Spec.{Spec}
use Rattle.basic_tree.specs.ProgramLines.{Lines}
use Rattle.program_files.specs.Programs.{reads_pages}
use Rattle.session_model.specs.ProgramFiles.{spec_read, is_blank_text, program_on}
use Rattle.session_model.specs.Commands.{Command, Run, RunFile, Continue, Immediate, command_of}
use Rattle.session_model.specs.Texts.{illegal_command}
use Rattle.session_model.specs.Talk.{Session, Step, Ending, ProgramRun, answered, says, outlived, with_job, reported, run_is_over, Runner, in_session, runs_there, runs_unless, begun, runs, with_storage, chains_to, unread, reads_program, follows_chain, behind_end, run_to, ends_run, runs_chained, runs_all, goes_on, line_ended, line_unless, immediate, program_by, headed, tried, by_name, loaded, runs_loaded, reads_and_runs, user_acts, acts, key_acts, session}

in_session_alike : {R A : Type 0} (n : ℕ) (ended other : Break (program.Leaving R) → Job R → Step R) (s : Session R) (m m' : program.Deed R A) → ((k : ℕ) (why : Break (program.Leaving R)) (j : Job R) → k ≤ n → Alike k (ended why j) (other why j)) → Alike n m m' → Alike n (in_session ended s m) (in_session other s m')
in_session_alike n ended other s m m' f (gives {n = i} {s = j}) = f n (Left program.Ended) j (omega arith)
in_session_alike n ended other s m m' f (breaks {n = i} {b = b} {s = j}) = f n b j (omega arith)
in_session_alike n ended other s m m' f (asks {n = i} {r = r} {k = k} {k' = k'} e) = asks (λ x. in_session_alike n ended other s (k x) (k' x) f (e x))
in_session_alike n ended other s m m' f (types {n = i} {k = k} {k' = k'} e) = types (λ key. in_session_alike n ended other s (k key) (k' key) f (e key))
in_session_alike n ended other s m m' f spent = spent
in_session_alike n ended other s m m' f (takes {n = i} {s = j} {m = k} {m' = k'} e) = takes (in_session_alike i ended other s k k' (λ l why j le. f l why j (omega (arith, le))) e)

-- if no chain comes before a unit, what is done at a chain has one less
abbrev IsChain : {R : Type 0} → Break (program.Leaving R) → Type 0
IsChain (Left program.Chained) = Unit {0}
IsChain why = ⊥

spends_alike : {R A : Type 0} (n : ℕ) (ended other : Break (program.Leaving R) → Job R → Step R) (s : Session R) (m m' : program.Deed R A) → ((k : ℕ) (why : Break (program.Leaving R)) (j : Job R) → ¬ (IsChain why) → Alike k (ended why j) (other why j))
    → ((k : ℕ) (why : Break (program.Leaving R)) (j : Job R) → k < n → Alike k (ended why j) (other why j)) → SpendsFirst m → Alike n m m' → Alike n (in_session ended s m) (in_session other s m')
spends_alike n ended other s m m' f g spends (gives {n = i} {s = j}) = f n (Left program.Ended) j (λ no. no)
spends_alike n ended other s m m' f g spends (breaks {n = i} {b = Left program.Chained} {s = j}) = absurd spends
spends_alike n ended other s m m' f g spends (breaks {n = i} {b = Left program.Ended} {s = j}) = f n _ j (λ no. no)
spends_alike n ended other s m m' f g spends (breaks {n = i} {b = Left (program.Stopped q)} {s = j}) = f n _ j (λ no. no)
spends_alike n ended other s m m' f g spends (breaks {n = i} {b = Left (program.StoppedInside home)} {s = j}) = f n _ j (λ no. no)
spends_alike n ended other s m m' f g spends (breaks {n = i} {b = Faulted fault} {s = j}) = f n _ j (λ no. no)
spends_alike n ended other s m m' f g spends (breaks {n = i} {b = Halted halt} {s = j}) = f n _ j (λ no. no)
spends_alike n ended other s m m' f g spends (breaks {n = i} {b = Gone} {s = j}) = f n _ j (λ no. no)
spends_alike n ended other s m m' f g spends (asks {n = i} {r = r} {k = k} {k' = k'} e) = asks (λ x. spends_alike n ended other s (k x) (k' x) f g (spends x) (e x))
spends_alike n ended other s m m' f g spends (types {n = i} {k = k} {k' = k'} e) = types (λ key. spends_alike n ended other s (k key) (k' key) f g (spends key) (e key))
spends_alike n ended other s m m' f g spends spent = spent
spends_alike n ended other s m m' f g spends (takes {n = i} {s = j} {m = k} {m' = k'} e) = takes (in_session_alike i ended other s k k' (λ l why j le. g l why j (omega (arith, le))) e)

over_alike : {K L P S A : Type 0} (n : ℕ) (ways : K → L) (put : P → S) (m m' : Act K P A) → Alike n m m' → Alike n (over ways put m) (over ways put m')
over_alike n ways put m m' gives = gives
over_alike n ways put m m' breaks = breaks
over_alike n ways put m m' (asks {n = i} {r = r} {k = k} {k' = k'} e) = asks (λ x. over_alike n ways put (k x) (k' x) (e x))
over_alike n ways put m m' (types {n = i} {k = k} {k' = k'} e) = types (λ key. over_alike n ways put (k key) (k' key) (e key))
over_alike n ways put m m' spent = spent
over_alike n ways put m m' (takes {n = i} {s = j} {m = k} {m' = k'} e) = takes (over_alike i ways put k k' e)

-- what comes next, after an interaction tree on files, if it is alike
tried_alike : {R P A : Type 0} (n : ℕ) (whole : P → Session R) (next next' : A → Session R → Step R) (act : Act ⊥ P A) → ((k : ℕ) (a : A) (s : Session R) → k ≤ n → Alike k (next a s) (next' a s)) → Alike n (tried whole next act) (tried whole next' act)
tried_alike n whole next next' (Gives a p) f = f n a (whole p) (omega arith)
tried_alike n whole next next' (Breaks why p) f = same n _
tried_alike n whole next next' (Asks r by) f = asks (λ x. tried_alike n whole next next' (by x) f)
tried_alike n whole next next' (Types by) f = types (λ key. tried_alike n whole next next' (by key) f)
tried_alike zero whole next next' (Takes p rest) f = spent
tried_alike (suc n) whole next next' (Takes p rest) f = takes (tried_alike n whole next next' rest (λ k a s le. f k a s (omega (arith, le))))

-- what is done at the ends of a tree
at_ends_alike : {K P R A : Type 0} (n : ℕ) (put : P → Session R) (given given' : A → P → Step R) (broken broken' : Break K → P → Step R) (act : Act K P A) → ((k : ℕ) (a : A) (p : P) → k ≤ n → Alike k (given a p) (given' a p)) → ((k : ℕ) (why : Break K) (p : P) → k ≤ n → Alike k (broken why p) (broken' why p))
    → Alike n (at_ends put given broken act) (at_ends put given' broken' act)
at_ends_alike n put given given' broken broken' (Gives a p) f g = f n a p (omega arith)
at_ends_alike n put given given' broken broken' (Breaks why p) f g = g n why p (omega arith)
at_ends_alike n put given given' broken broken' (Asks r by) f g = asks (λ x. at_ends_alike n put given given' broken broken' (by x) f g)
at_ends_alike n put given given' broken broken' (Types by) f g = types (λ key. at_ends_alike n put given given' broken broken' (by key) f g)
at_ends_alike zero put given given' broken broken' (Takes p rest) f g = spent
at_ends_alike (suc n) put given given' broken broken' (Takes p rest) f g = takes (at_ends_alike n put given given' broken broken' rest (λ k a s le. f k a s (omega (arith, le))) (λ k a s le. g k a s (omega (arith, le))))

-- CHAINS

-- how a program begins, and what a chain leads to, if runs are alike
module _ (n most more : ℕ) (run other : Runner)
    (run_alike : (k : ℕ) (p : Program) (line : Option ℕ) (s : Session Position) → k ≤ n → Alike k (run p s (runs_cleared p most line s.job)) (other p s (runs_cleared p more line s.job))) where
  there_alike : (k : ℕ) (p : Program) (line : Option ℕ) (b : Bool) (s : Session Position) → k ≤ n → Alike k (runs_there run p most line b s) (runs_there other p more line b s)
  there_alike k p line true s le = run_alike k p line s le
  there_alike k p line false s le = same k _

  unless_alike : (k : ℕ) (o : Option LowerRefusal) (p : Program) (line : Option ℕ) (s : Session Position) → k ≤ n → Alike k (runs_unless run o p most line s) (runs_unless other o p more line s)
  unless_alike k (Some refusal) p line s le = same k _
  unless_alike k None p line s le = there_alike k p line (can_begin p line) s le

  runs_alike : (k : ℕ) (p : Program) (line : Option ℕ) (s : Session Position) → k ≤ n → Alike k (runs run p most line s) (runs other p more line s)
  runs_alike k p line s le =
      tried_alike k (with_storage s) _ _ (shut_act (in_storage.part s.job)) (λ l a s below. unless_alike l (refusal_of p) p line (begun p s) (omega (arith, le, below)))

  module _ (judge : Judge) (faulted faulted' : ℕ → Job Position → Step Position) (over : Break (program.Leaving Position) → Job Position → Session Position) (s : Session Position)
      (faulted_alike : (k number : ℕ) (j : Job Position) → k ≤ n → Alike k (faulted number j) (faulted' number j)) where
    abbrev end : Ending
    end = record { judge = judge; run = run; most = most; faulted = faulted; over = over; session = s }

    abbrev end' : Ending
    end' = record { judge = judge; run = other; most = more; faulted = faulted'; over = over; session = s }

    chain_alike : (k : ℕ) (read : List ℕ × Lines) (s : Session Position) → k ≤ n → Alike k (chains_to judge run most read s) (chains_to judge other more read s)
    chain_alike k (name, lines) s le = runs_alike k (program_by judge lines) s.job.destination.line (loaded name lines s) le

    unread_alike : (k : ℕ) (why : Break ⊥) (j : Job Position) → k ≤ n → Alike k (unread end why j) (unread end' why j)
    unread_alike k (Faulted number) j le = faulted_alike k number j le
    unread_alike k (Halted halt) j le = same k _
    unread_alike k Gone j le = same k _
    unread_alike k (Left none) j le = absurd none

    follows_alike : (j : Job Position) (k : ℕ) → k ≤ n → Alike k (follows_chain end j) (follows_chain end' j)
    follows_alike j k le =
        at_ends_alike k (λ _. with_job j s) _ _ _ _ (reads_program judge j.account j.destination.name) (λ l read p below. chain_alike l read (with_job j s) (omega (arith, le, below))) (λ l why p below. unread_alike l why j (omega (arith, le, below)))

    behind_alike : (k : ℕ) (why : Break (program.Leaving Position)) (j : Job Position) → k ≤ n → Alike k (behind_end end why j) (behind_end end' why j)
    behind_alike k (Left program.Chained) j le = follows_alike j k le
    behind_alike k (Left program.Ended) j le = same k _
    behind_alike k (Left (program.Stopped q)) j le = same k _
    behind_alike k (Left (program.StoppedInside home)) j le = same k _
    behind_alike k (Faulted fault) j le = same k _
    behind_alike k (Halted halt) j le = same k _
    behind_alike k Gone j le = same k _

module _ (judge : Judge) (most more : ℕ) where
  abbrev in_run : ℕ → Program → Session Position → ProgramRun
  in_run bound p s = record { judge = judge; most = bound; program = p; session = s }

  -- an end that is no chain
  last_alike : (count count' k : ℕ) (p : Program) (s : Session Position) (why : Break (program.Leaving Position)) (j : Job Position) → ¬ (IsChain why) → Alike k (ends_run count (in_run most p s) why j) (ends_run count' (in_run more p s) why j)
  last_alike count count' k p s why j nay =
      subst (λ (m : Step Position). Alike k m (ends_run count' (in_run more p s) why j)) (sym (is_last most count why nay))
      (subst (λ (m : Step Position). Alike k (outlived (run_is_over s) s why j) m) (sym (is_last more count' why nay)) (same k _))
    where
      is_last : (most count : ℕ) (why : Break (program.Leaving Position)) → ¬ (IsChain why) → ends_run count (in_run most p s) why j ≡ outlived (run_is_over s) s why j
      is_last most zero why nay = refl
      is_last most (suc count) (Left program.Chained) nay = absurd (nay tt)
      is_last most (suc count) (Left program.Ended) nay = refl
      is_last most (suc count) (Left (program.Stopped q)) nay = refl
      is_last most (suc count) (Left (program.StoppedInside home)) nay = refl
      is_last most (suc count) (Faulted fault) nay = refl
      is_last most (suc count) (Halted halt) nay = refl
      is_last most (suc count) Gone nay = refl

  -- a run that takes a unit before it chains
  after_alike : (count count' n : ℕ) (p : Program) (s : Session Position) (m m' : program.Deed Position Coming) → ((k : ℕ) (why : Break (program.Leaving Position)) (j : Job Position) → k < n → Alike k (ends_run count (in_run most p s) why j) (ends_run count' (in_run more p s) why j)) → SpendsFirst m → Alike n m m'
      → Alike n (run_to (ends_run count) judge most p s m) (run_to (ends_run count') judge more p s m')
  after_alike count count' n p s m m' f spends e =
      spends_alike n (ends_run count (in_run most p s)) (ends_run count' (in_run more p s)) s m m' (λ k why j nay. last_alike count count' k p s why j nay) f spends e

  -- as long as chains and statements are more than units
  ended_alike : (count count' k : ℕ) (p : Program) (s : Session Position) (why : Break (program.Leaving Position)) (j : Job Position) → k < most → k < more → k < count → k < count' → Alike k (ends_run count (in_run most p s) why j) (ends_run count' (in_run more p s) why j)
  ended_alike zero count' k p s why j lt lt' few few' = absurd (omega (arith, few))
  ended_alike (suc count) zero k p s why j lt lt' few few' = absurd (omega (arith, few'))
  ended_alike (suc count) (suc count') k p s why j lt lt' few few' =
      behind_alike k most more (run_to (ends_run count) judge most) (run_to (ends_run count') judge more)
      (λ l p line s le. after_alike count count' l p s _ _ (λ i why j less. ended_alike count count' i p s why j (omega (arith, lt, le, less)) (omega (arith, lt', le, less)) (omega (arith, few, le, less)) (omega (arith, few', le, less)))
      (cleared_spends p most line s.job) (cleared_enough p most more l line s.job (omega (arith, lt, le)) (omega (arith, lt', le))))
      judge (λ number j. run_to (ends_run count) judge most p s (raises p most number j)) (λ number j. run_to (ends_run count') judge more p s (raises p more number j)) (run_is_over s) s
      (λ l number j le. after_alike count count' l p s _ _ (λ i why j less. ended_alike count count' i p s why j (omega (arith, lt, le, less)) (omega (arith, lt', le, less)) (omega (arith, few, le, less)) (omega (arith, few', le, less)))
      (raises_spend p most number j) (raises_enough p most more l number j (omega (arith, lt, le)) (omega (arith, lt', le))))
      k why j (omega arith)

  chains_alike : (n : ℕ) (p : Program) (s : Session Position) (m m' : program.Deed Position Coming) → n < most → n < more → Alike n m m' → Alike n (runs_chained judge most most p s m) (runs_chained judge more more p s m')
  chains_alike n p s m m' lt lt' e = in_session_alike n (ends_run most (in_run most p s)) (ends_run more (in_run more p s)) s m m' (λ k why j le. ended_alike most more k p s why j (omega (arith, lt, le)) (omega (arith, lt', le)) (omega (arith, lt, le)) (omega (arith, lt', le))) e

  first_alike : (n : ℕ) (p : Program) (line : Option ℕ) (s : Session Position) → n < most → n < more → Alike n (runs_chained judge most most p s (runs_cleared p most line s.job)) (runs_chained judge more more p s (runs_cleared p more line s.job))
  first_alike n p line s lt lt' = chains_alike n p s _ _ lt lt' (cleared_enough p most more n line s.job lt lt')

  line_ended_alike : (n : ℕ) (s : Session Position) (why : Break (program.Leaving Position)) (j : Job Position) → n < most → n < more → Alike n (line_ended judge most s why j) (line_ended judge more s why j)
  line_ended_alike n s why j lt lt' =
      behind_alike n most more (runs_chained judge most most) (runs_chained judge more more) (λ k p line s le. first_alike k p line s (omega (arith, lt, le)) (omega (arith, lt', le)))
      judge (λ number j. Gives tt (reported s (Faulted number) j)) (λ number j. Gives tt (reported s (Faulted number) j)) (reported s) s (λ k number j le. same k _)
      n why j (omega arith)

-- COMMANDS

module _ (judge : Judge) (n most more : ℕ) (less : n < most) (less' : n < more) where
  all_alike : (p : Program) (s : Session Position) → Alike n (runs_all judge p most s) (runs_all judge p more s)
  all_alike p s = runs_alike n most more (runs_chained judge most most) (runs_chained judge more more) (λ k p line s le. first_alike judge most more k p line s (omega (arith, le, less)) (omega (arith, le, less'))) n p None s (omega arith)

  open_alike : (p : Program) (way : program.Leaving Position) (j : Job Position) → Alike n (continues_open p most way j) (continues_open p more way j)
  open_alike p program.Ended j = same n _
  open_alike p program.Chained j = same n _
  open_alike p (program.Stopped q) j = bounds_enough_from p most more n (Behind q) (runs_at (home_of p q.statement) j) less less'
  open_alike p (program.StoppedInside home) j = bounds_enough_from p most more n (At (whole home.behind)) j less less'

  continues_alike : (p : Program) (way : program.Leaving Position) (j : Job Position) → Alike n (continues p most way j) (continues p more way j)
  continues_alike p way j = ends_closed_alike n (continues_open p most way j) (continues_open p more way j) (open_alike p way j)

  on_alike : (p : Program) (stop : Option (program.Leaving Position)) (s : Session Position) → Alike n (goes_on judge p most stop s) (goes_on judge p more stop s)
  on_alike p None s = same n _
  on_alike p (Some stop) s = chains_alike judge most more n p s _ _ less less' (continues_alike p stop s.job)

  now_alike : (o : Option LowerRefusal) (statements : List StatementTree) (s : Session Position) → Alike n (line_unless judge o statements most s) (line_unless judge o statements more s)
  now_alike (Some refusal) statements s = same n _
  now_alike None statements s =
      let alone = line_alone statements in
      in_session_alike n (line_ended judge most s) (line_ended judge more s) s _ _ (λ k why j le. line_ended_alike judge most more k s why j (omega (arith, le, less)) (omega (arith, le, less')))
      (over_alike n (λ way. way) (together s.job) _ _ (bounds_enough_from alone most more n (At (whole 0)) (apart alone s.job) less less'))

  immediate_alike : (verdict : Verdict) (s : Session Position) → Alike n (immediate judge verdict most s) (immediate judge verdict more s)
  immediate_alike (RefusedFor cause) s = same n _
  immediate_alike (HasTree tree) s = now_alike (refusal_now (line_statements tree)) (line_statements tree) s

  runs_loaded_alike : (name : List ℕ) (o : Option Lines) (s : Session Position) → Alike n (runs_loaded judge most name o s) (runs_loaded judge more name o s)
  runs_loaded_alike name None s = same n _
  runs_loaded_alike name (Some lines) s = all_alike (program_by judge lines) (loaded name lines s)

module _ (judge : Judge) (n most more : ℕ) (less : n < most) (less' : n < more) where
  by_name_alike : (named : Result Spec ℕ) (s : Session Position) → Alike n (by_name named (reads_and_runs judge most) s) (by_name named (reads_and_runs judge more) s)
  by_name_alike (Err number) s = same n _
  by_name_alike (Ok spec) s =
      tried_alike n (λ _. s) _ _ (reads_pages spec.name spec.code)
      (λ k pages s le. runs_loaded_alike judge k most more (omega (arith, le, less)) (omega (arith, le, less')) spec.name.stem (program_on judge pages) s)

  file_alike : (b : Bool) (m : Step Position) (named : Result Spec ℕ) (s : Session Position)
      → Alike n (if b then m else by_name named (reads_and_runs judge most) s) (if b then m else by_name named (reads_and_runs judge more) s)
  file_alike true m named s = same n m
  file_alike false m named s = by_name_alike named s

  user_alike : (own : Account) (command : Command) (s : Session Position) → Alike n (user_acts judge most own command s) (user_acts judge more own command s)
  user_alike own (RunFile tail) s = file_alike (is_blank_text tail) (answered illegal_command s) (spec_read own tail) s
  user_alike own (Run with_name) s = all_alike judge n most more less less' (program_by judge s.lines) (headed with_name s)
  user_alike own Continue s = on_alike judge n most more less less' (program_by judge s.lines) s.stop s
  user_alike own (Immediate statement) s = immediate_alike judge n most more less less' (judge statement) s
  user_alike own command s = same n _

  acts_alike : (o : Option Account) (command : Command) (s : Session Position) → Alike n (acts judge most o command s) (acts judge more o command s)
  acts_alike None command s = same n _
  acts_alike (Some account) command s = user_alike account command s

key_alike : (judge : Judge) (n most more : ℕ) (key : Option (List ℕ)) (s : Session Position) → n < most → n < more → Alike n (key_acts judge most key s) (key_acts judge more key s)
key_alike judge n most more None s less less' = same n _
key_alike judge n most more (Some line) s less less' = acts_alike judge n most more less less' s.account (command_of line) (says (line ++ line_end) s)

pub session_alike : (judge : Judge) (n most more count : ℕ) (s : Session Position) → n < most → n < more → Alike n (session judge most count s) (session judge more count s)
session_alike judge n most more zero s less less' = same n _
session_alike judge n most more (suc count) s less less' =
    and_then n _ _ _ _ (types (λ key. key_alike judge n most more key s less less')) (λ k a s le. session_alike judge k most more count s (omega (arith, le, less)) (omega (arith, le, less')))

-- trees that are alike as far as there is fuel are played alike
ticks_alike : {L S A : Type 0} (s : S) (c : Clock) (m m' : Act L S A) (fuel : ℕ) (keys : Typing) → ((d : Clock) (given : List Reply) → play m d fuel keys given ≡ play m' d fuel keys given) → (given : List Reply)
    → play_tick s c (λ left. play m (ticked c) fuel keys left) given ≡ play_tick s c (λ left. play m' (ticked c) fuel keys left) given
ticks_alike s c m m' fuel keys h [] = refl
ticks_alike s c m m' fuel keys h (x ∷ given) = go (lets_on x c)
  where
    go : (b : Bool) → behind_ask Tick (if b then play m (ticked c) fuel keys given else ([], Finished (Broke Gone s))) ≡ behind_ask Tick (if b then play m' (ticked c) fuel keys given else ([], Finished (Broke Gone s)))
    go true = ap (behind_ask Tick) (h (ticked c) given)
    go false = refl

pub unit_alike : {L S A : Type 0} (s : S) (c : Clock) (m m' : Act L S A) (fuel : ℕ) (keys : Typing) → ((d : Clock) (given : List Reply) → play m d fuel keys given ≡ play m' d fuel keys given) → (given : List Reply)
    → play (Takes s m) c (suc fuel) keys given ≡ play (Takes s m') c (suc fuel) keys given
unit_alike s c m m' fuel keys h given = go (is_quiet c)
  where
    go : (b : Bool) → (if b then play m (counted c) fuel keys given else play_tick s c (λ left. play m (ticked c) fuel keys left) given) ≡ (if b then play m' (counted c) fuel keys given else play_tick s c (λ left. play m' (ticked c) fuel keys left) given)
    go true = h (counted c) given
    go false = ticks_alike s c m m' fuel keys h given

pub play_alike : {L S A : Type 0} (n : ℕ) (m m' : Act L S A) → Alike n m m' → (c : Clock) (fuel : ℕ) (keys : Typing) (given : List Reply) → fuel ≤ n → play m c fuel keys given ≡ play m' c fuel keys given
play_alike n m m' gives c fuel keys given le = refl
play_alike n m m' breaks c fuel keys given le = refl
play_alike n m m' (asks {n = i} {r = r} {k = k} {k' = k'} e) c fuel keys [] le = refl
play_alike n m m' (asks {n = i} {r = r} {k = k} {k' = k'} e) c fuel keys (x ∷ given) le = ap (behind_ask r) (play_alike n (k x) (k' x) (e x) c fuel keys given le)
play_alike n m m' (types {n = i} {k = k} {k' = k'} e) c fuel (Line line keys) given le = play_alike n (k (Some line)) (k' (Some line)) (e (Some line)) c fuel keys given le
play_alike n m m' (types {n = i} {k = k} {k' = k'} e) c fuel Over given le = play_alike n (k None) (k' None) (e None) c fuel Over given le
play_alike n m m' (types {n = i} {k = k} {k' = k'} e) c fuel Open given le = refl
play_alike n m m' spent c zero keys given le = refl
play_alike n m m' spent c (suc fuel) keys given le = absurd (omega (arith, le))
play_alike n m m' (takes {n = i} {s = s} {m = k} {m' = k'} e) c zero keys given le = refl
play_alike n m m' (takes {n = i} {s = s} {m = k} {m' = k'} e) c (suc fuel) keys given le = unit_alike s c k k' fuel keys (λ d given. play_alike i k k' e d fuel keys given (omega (arith, le))) given

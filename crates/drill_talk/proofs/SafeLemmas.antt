-- Lemmas on trees whose every path counts.
use Rattle.std.proofs.Common.{◌≡◌, ℕ, zero, suc, Bool, true, false, List, [], ◌∷◌, Option, Some, None, refl, sym, subst}
use Rattle.std.specs.Prelude.{if◌then◌else◌, ◌&&◌, ◌+◌, nat_lt}
use Rattle.monitor_calls.specs.declared.calls.Request.{Request}
use Rattle.monitor_calls.specs.declared.calls.Request.TheVariants.{Tick}
use Rattle.monitor_calls.specs.declared.calls.Reply.{Reply}
use Rattle.monitor_calls.specs.declared.calls.Reply.TheVariants.{Done}
use Rattle.monitor_calls.specs.Pairs.{Pair, requests, replies}
use Rattle.monitor_calls.specs.Typing.{Typing, Line, Over, Open}
use Rattle.monitor_model.specs.Counters.{Counting, MayCount, page_kept, Counts}
use Rattle.monitor_model.proofs.Tools.{by_test}
use Rattle.job_model.specs.Act.{Act, Gives, Breaks, Asks, Types, Takes, Break, Gone, ◌then◌, over, break_over}
use Rattle.job_model.specs.Ends.{at_ends}
use Rattle.job_model.specs.Asking.{counts_as}
use Rattle.job_model.specs.Play.{Clock, play, play_tick, is_quiet, counted, ticked, lets_on, last_tick, is_done, End, Broke, Finished, Played}
use Rattle.program_model.specs.Program.{Program, Position}
use Rattle.program_model.specs.Job.{Job, Leaving, Deed}
use Rattle.program_model.specs.Running.{Coming, ends_closed, turn, calls_of, runs}
use Rattle.drill_talk.proofs.Safe.{Post, Safe}
use Rattle.drill_talk.specs.Laws.{AreProper}

-- FOLLOWING

module _ {L S A B : Type 0} (c : Counting) (Q : Post B S) (E : Post (Break L) S) (next : A → S → Act L S B) where
  pub then_safe : (m : Act L S A) (keys : Typing) (kept : Option (List ℕ)) → Safe c (λ keys kept a s. Safe c Q E (next a s) keys kept) E m keys kept → Safe c Q E (m then next) keys kept
  then_safe (Gives a s) keys kept safe = safe
  then_safe (Breaks why s) keys kept safe = safe
  then_safe (Asks r by) keys kept safe = (safe.0, λ reply proper. then_safe (by reply) keys (page_kept c.channel kept r reply) (safe.1 reply proper))
  then_safe (Types by) (Line line keys) kept safe = then_safe (by (Some line)) keys kept safe
  then_safe (Types by) Over kept safe = then_safe (by None) Over kept safe
  then_safe (Types by) Open kept safe = tt
  then_safe (Takes s rest) keys kept safe = then_safe rest keys kept safe

module _ {K L P S A B : Type 0} (c : Counting) (Q : Post B S) (E : Post (Break L) S) (put : P → S) (given : A → P → Act L S B) (broken : Break K → P → Act L S B) where
  pub ends_safe : (m : Act K P A) (keys : Typing) (kept : Option (List ℕ)) → Safe c (λ keys kept a p. Safe c Q E (given a p) keys kept) (λ keys kept why p. Safe c Q E (broken why p) keys kept) m keys kept → Safe c Q E (at_ends put given broken m) keys kept
  ends_safe (Gives a s) keys kept safe = safe
  ends_safe (Breaks why s) keys kept safe = safe
  ends_safe (Asks r by) keys kept safe = (safe.0, λ reply proper. ends_safe (by reply) keys (page_kept c.channel kept r reply) (safe.1 reply proper))
  ends_safe (Types by) (Line line keys) kept safe = ends_safe (by (Some line)) keys kept safe
  ends_safe (Types by) Over kept safe = ends_safe (by None) Over kept safe
  ends_safe (Types by) Open kept safe = tt
  ends_safe (Takes s rest) keys kept safe = ends_safe rest keys kept safe

module _ {K L P S A : Type 0} (c : Counting) (Q : Post A S) (E : Post (Break L) S) (ways : K → L) (put : P → S) where
  pub over_safe : (m : Act K P A) (keys : Typing) (kept : Option (List ℕ)) → Safe c (λ keys kept a p. Q keys kept a (put p)) (λ keys kept why p. E keys kept (break_over ways why) (put p)) m keys kept → Safe c Q E (over ways put m) keys kept
  over_safe (Gives a s) keys kept safe = safe
  over_safe (Breaks why s) keys kept safe = safe
  over_safe (Asks r by) keys kept safe = (safe.0, λ reply proper. over_safe (by reply) keys (page_kept c.channel kept r reply) (safe.1 reply proper))
  over_safe (Types by) (Line line keys) kept safe = over_safe (by (Some line)) keys kept safe
  over_safe (Types by) Over kept safe = over_safe (by None) Over kept safe
  over_safe (Types by) Open kept safe = tt
  over_safe (Takes s rest) keys kept safe = over_safe rest keys kept safe

-- other posts that follow
module _ {L S A : Type 0} (c : Counting) (Q Q' : Post A S) (E E' : Post (Break L) S) (q : (keys : Typing) (kept : Option (List ℕ)) (a : A) (s : S) → Q keys kept a s → Q' keys kept a s) (e : (keys : Typing) (kept : Option (List ℕ)) (why : Break L) (s : S) → E keys kept why s → E' keys kept why s) where
  pub more_safe : (m : Act L S A) (keys : Typing) (kept : Option (List ℕ)) → Safe c Q E m keys kept → Safe c Q' E' m keys kept
  more_safe (Gives a s) keys kept safe = q keys kept a s safe
  more_safe (Breaks why s) keys kept safe = e keys kept why s safe
  more_safe (Asks r by) keys kept safe = (safe.0, λ reply proper. more_safe (by reply) keys (page_kept c.channel kept r reply) (safe.1 reply proper))
  more_safe (Types by) (Line line keys) kept safe = more_safe (by (Some line)) keys kept safe
  more_safe (Types by) Over kept safe = more_safe (by None) Over kept safe
  more_safe (Types by) Open kept safe = tt
  more_safe (Takes s rest) keys kept safe = more_safe rest keys kept safe

-- PLAYING

-- a Tick that lets the job continue keeps the page
tick_keeps : (channel : ℕ) (kept : Option (List ℕ)) (reply : Reply) → is_done (counts_as Tick reply) ≡ true → page_kept channel kept Tick reply ≡ kept
tick_keeps channel kept Done on = refl
tick_keeps channel kept reply on = absurd (cc)

and_left : (a b : Bool) → (a && b) ≡ true → a ≡ true
and_left true b on = refl
and_left false b on = absurd (cc)

module _ {L S A : Type 0} (c : Counting) (Q : Post A S) (E : Post (Break L) S) where
  abbrev Done_so : Option (List ℕ) → List Pair → List Request → Type 0
  Done_so kept pairs made = made ≡ requests pairs → Counts c kept pairs

  abbrev gone : S → Played (End L S A)
  gone s = ([], Finished (Broke Gone s))

  none_more : (kept : Option (List ℕ)) (pairs : List Pair) → Done_so kept pairs []
  none_more kept [] is = tt
  none_more kept (pair ∷ pairs) is = absurd (cc)

  one_more : (kept : Option (List ℕ)) (r : Request) (pair : Pair) (pairs : List Pair) (made : List Request) → MayCount c kept r → Done_so (page_kept c.channel kept r pair.1) pairs made → Done_so kept (pair ∷ pairs) (r ∷ made)
  one_more kept r pair pairs made may later is =
      let same : r ≡ pair.0 = cc in
      let rest : made ≡ requests pairs = cc in
      (subst (MayCount c kept) same may, subst (λ r. Counts c (page_kept c.channel kept r pair.1) pairs) same (later rest))

  pub played : (m : Act L S A) (clock : Clock) (fuel : ℕ) (keys : Typing) (kept : Option (List ℕ)) (pairs : List Pair) → AreProper pairs → Safe c Q E m keys kept → Done_so kept pairs (play m clock fuel keys (replies pairs)).0
  played (Gives a s) clock fuel keys kept pairs proper safe = none_more kept pairs
  played (Breaks why s) clock fuel keys kept pairs proper safe = none_more kept pairs
  played (Asks r by) clock fuel keys kept [] proper safe = λ is. tt
  played (Asks r by) clock fuel keys kept (pair ∷ pairs) proper safe =
      one_more kept r pair pairs _ safe.0 (played (by pair.1) clock fuel keys (page_kept c.channel kept r pair.1) pairs proper.1 (safe.1 pair.1 proper.0))
  played (Types by) clock fuel (Line line keys) kept pairs proper safe = played (by (Some line)) clock fuel keys kept pairs proper safe
  played (Types by) clock fuel Over kept pairs proper safe = played (by None) clock fuel Over kept pairs proper safe
  played (Types by) clock fuel Open kept pairs proper safe = none_more kept pairs
  played (Takes s rest) clock zero keys kept pairs proper safe = none_more kept pairs
  played (Takes s rest) clock (suc fuel) keys kept pairs proper safe =
      by_test (is_quiet clock)
      (λ t. subst (λ q. Done_so kept pairs (if q then play rest (counted clock) fuel keys (replies pairs) else play_tick s clock (λ left. play rest (ticked clock) fuel keys left) (replies pairs)).0) (sym t)
      (played rest (counted clock) fuel keys kept pairs proper safe))
      (λ f. subst (λ q. Done_so kept pairs (if q then play rest (counted clock) fuel keys (replies pairs) else play_tick s clock (λ left. play rest (ticked clock) fuel keys left) (replies pairs)).0) (sym f)
      (tick (λ pairs proper. played rest (ticked clock) fuel keys kept pairs proper safe) pairs proper))
    where
      tick : ((pairs : List Pair) → AreProper pairs → Done_so kept pairs (play rest (ticked clock) fuel keys (replies pairs)).0) → (pairs : List Pair) → AreProper pairs → Done_so kept pairs (play_tick s clock (λ left. play rest (ticked clock) fuel keys left) (replies pairs)).0
      tick on [] proper = λ is. tt
      tick on (pair ∷ pairs) proper = one_more kept Tick pair pairs _ tt
          (by_test (lets_on pair.1 clock)
          (λ t. subst (λ q. Done_so (page_kept c.channel kept Tick pair.1) pairs (if q then play rest (ticked clock) fuel keys (replies pairs) else gone s).0) (sym t)
          (subst (λ k. Done_so k pairs (play rest (ticked clock) fuel keys (replies pairs)).0) (sym (tick_keeps c.channel kept pair.1 (and_left (is_done (counts_as Tick pair.1)) (nat_lt (clock.ticks + 1) last_tick) t)))
          (on pairs proper.1)))
          (λ f. subst (λ q. Done_so (page_kept c.channel kept Tick pair.1) pairs (if q then play rest (ticked clock) fuel keys (replies pairs) else gone s).0) (sym f)
          (none_more _ pairs)))

-- THE END OF A PROGRAM

module _ {A : Type 0} (c : Counting) (Q : Post A (Job Position)) (E : Post (Break (Leaving Position)) (Job Position)) where
  abbrev broke : Break (Leaving Position) → Job Position → Deed Position A
  broke why j = Breaks why j

  pub closed_safe : (m : Deed Position A) (keys : Typing) (kept : Option (List ℕ)) → Safe c Q (λ keys kept why j. Safe c Q E (ends_closed (broke why j)) keys kept) m keys kept → Safe c Q E (ends_closed m) keys kept
  closed_safe (Gives a s) keys kept safe = safe
  closed_safe (Breaks why s) keys kept safe = safe
  closed_safe (Asks r by) keys kept safe = (safe.0, λ reply proper. closed_safe (by reply) keys (page_kept c.channel kept r reply) (safe.1 reply proper))
  closed_safe (Types by) (Line line keys) kept safe = closed_safe (by (Some line)) keys kept safe
  closed_safe (Types by) Over kept safe = closed_safe (by None) Over kept safe
  closed_safe (Types by) Open kept safe = tt
  closed_safe (Takes s rest) keys kept safe = closed_safe rest keys kept safe

-- a program: what is so before each statement, if each turn keeps it
module _ (c : Counting) (program : Program) (Inv : Post Coming (Job Position)) (E : Post (Break (Leaving Position)) (Job Position)) where
  abbrev pub TurnIsSafe : Type 0
  TurnIsSafe = (most : ℕ) (coming : Coming) (j : Job Position) (keys : Typing) (kept : Option (List ℕ)) → Inv keys kept coming j → Safe c Inv E (turn (calls_of program (runs program most)) program coming j) keys kept

  pub runs_safe : TurnIsSafe → (most : ℕ) (coming : Coming) (j : Job Position) (keys : Typing) (kept : Option (List ℕ)) → Inv keys kept coming j → Safe c Inv E (runs program most coming j) keys kept
  runs_safe each zero coming j keys kept inv = inv
  runs_safe each (suc most) coming j keys kept inv =
      then_safe c Inv E (λ coming j. runs program most coming j) (turn (calls_of program (runs program most)) program coming j) keys kept
      (more_safe c Inv (λ keys kept coming j. Safe c Inv E (runs program most coming j) keys kept) E E
      (λ keys kept coming j inv. runs_safe each most coming j keys kept inv) (λ keys kept why j e. e)
      (turn (calls_of program (runs program most)) program coming j) keys kept (each most coming j keys kept inv))

-- The session from RUNNH on.
use Rattle.std.proofs.Common.{◌≡◌, ℕ, zero, suc, Bool, true, false, List, [], ◌∷◌, ◌++◌, refl, sym, ap, subst, Option, Some, None}
use Rattle.std.specs.Prelude.{codes, drop, replicate}
use Rattle.std.specs.Fmt.{digits}
use Rattle.basic_values.specs.Arithmetic.{repeated_product}
use Rattle.basic_values.specs.Messages.{fault_text}
use Rattle.basic_strings.specs.Places.{place_of}
use Rattle.basic_strings.specs.Readings.{value_read, item_read}
use Rattle.basic_tree.specs.Words.{keywords, signs}
use Rattle.basic_tree.specs.Tokens.{letter_front, digit_front, quote_front, sign_front, front_of, items_from, tokens_from}
use Rattle.grammar_machine.specs.MachineRun.{run}
use Rattle.grammar_machine.specs.MachineJudge.{verdict_of, judge_of}
use Rattle.grammar_machine.proofs.Judged.{judge_of_judges}
use Rattle.file_names.specs.SpecFronts.{spec_in, bracketed_in, closed_code}
use Rattle.monitor_calls.specs.declared.calls.Request.TheVariants.{CloseFile}
use Rattle.monitor_calls.specs.declared.calls.Reply.{Reply}
use Rattle.monitor_calls.specs.declared.calls.Reply.TheVariants.{Done, Failed}
use Rattle.monitor_calls.specs.Typing.{Typing, all_typed}
use Rattle.monitor_model.specs.Counters.{page_kept}
use Rattle.channels.specs.declared.states.ChannelState.{ChannelState}
use Rattle.channels.specs.Files.{Files, closed_channel}
use Rattle.channels.specs.Openings.{closes_from, closes_all, quietly, tells_closed}
use Rattle.job_memory.specs.Memory.{forget_all}
use Rattle.job_model.specs.Act.{Gives, Breaks, Break, Faulted, Halted, Gone, Left, ◌then◌, over, no_way, on, break_over}
use Rattle.job_model.specs.Asking.{counts_as}
use Rattle.job_model.specs.Play.{Played, at_start, fuel_for}
use Rattle.monitor_calls.specs.Pairs.{replies}
use Rattle.job_model.specs.Replies.{done_by}
use Rattle.program_model.specs.Program.{Position, whole}
use Rattle.program_model.specs.Job.{Job, Leaving, Ended, Stopped, StoppedInside, Chained}
use Rattle.program_model.specs.Storage.{in_storage, in_files}
use Rattle.program_model.specs.FileActs.{shut_act}
use Rattle.program_model.specs.Running.{Coming, Begin, ends_closed, runs}
use Rattle.session_model.specs.Talk.{Session, Step, session, in_session, ends_run, ProgramRun, begun, with_job, run_is_over, whole_session, statements_for}
use Rattle.drill_deck.specs.DrillDeck.{drill_account, drill_keys}
use Rattle.drill_talk.proofs.DrillProgram.{drill_lines, drill_program, fresh, idle, OneChannel, NotChained, EndsSo, RunCounts}
use Rattle.drill_talk.specs.Laws.{drill_counting, TalkCounts}
use Rattle.drill_talk.proofs.Safe.{Safe, Post}
use Rattle.drill_talk.proofs.SafeLemmas.{then_safe, ends_safe, over_safe, more_safe, closed_safe, played}
use Rattle.drill_talk.proofs.SessionRows.{any, user, IsSafe, leaves, stored_all, hello_safe}

-- THE IMPLICIT CLOSE

abbrev same : {A S : Type 0} → Typing → Post A S
same keys left kept a s = left ≡ keys

module _ (keys : Typing) (files : Files) where
  after_close : (x : Reply) (kept : Option (List ℕ)) (update : Bool) (next recount loaded unread column : ℕ)
      → let f = record files { channels = idle true update next recount loaded unread column ∷ replicate 11 closed_channel } in
      Safe drill_counting (same keys) (same keys) ((quietly (over no_way (λ none. f) (done_by x)) then λ _ f. tells_closed 1 f) then λ _ f. closes_from 2 11 f) keys kept
  after_close Done kept update next recount loaded unread column = refl
  after_close (Failed number) kept update next recount loaded unread column = refl
  after_close x kept update next recount loaded unread column = refl

  closes_safe : (open_now update : Bool) (next recount loaded unread column : ℕ) (kept : Option (List ℕ))
      → Safe drill_counting (same keys) (same keys) (closes_all (record files { channels = idle open_now update next recount loaded unread column ∷ replicate 11 closed_channel })) keys kept
  closes_safe false update next recount loaded unread column kept = refl
  closes_safe true update next recount loaded unread column kept = (tt, λ reply proper. after_close (counts_as (CloseFile 1) reply) (page_kept 1 kept (CloseFile 1) reply) update next recount loaded unread column)

shuts_safe : (j : Job Position) → OneChannel j → (keys : Typing) (kept : Option (List ℕ)) → Safe drill_counting (same keys) (same keys) (closes_all (in_storage.part j).files) keys kept
shuts_safe j one keys kept =
    subst (λ (channels : List ChannelState). Safe drill_counting (same keys) (same keys) (closes_all (record (in_storage.part j).files { channels = channels })) keys kept) (sym one.channels)
    (closes_safe keys (in_storage.part j).files one.open_now one.update one.next one.recount one.loaded one.unread one.column kept)

-- WHAT A PROGRAM'S END LEADS TO

module _ (most : ℕ) (shown : List ℕ) where
  abbrev pub begun_session : Session Position
  begun_session = begun drill_program (user drill_lines shown)

  abbrev pub the_run : ProgramRun
  the_run = record { judge = judge_of; most = most; program = drill_program; session = begun_session }

  abbrev pub Leaves : Post (Unit {0}) (Session Position)
  Leaves keys kept done s = Safe drill_counting any any (session judge_of most 2 s) keys kept

  abbrev pub bye : Typing
  bye = all_typed (codes "BYE" ∷ [])

  ended_safe : (count : ℕ) (why : Break (Leaving Position)) (j : Job Position) (kept : Option (List ℕ)) → NotChained why → Safe drill_counting Leaves any (ends_run count the_run why j) bye kept
  ended_safe zero (Faulted number) j kept so = leaves most (run_is_over begun_session (Faulted number) j) (Some drill_account) kept refl
  ended_safe zero (Halted halt) j kept so = leaves most (run_is_over begun_session (Halted halt) j) (Some drill_account) kept refl
  ended_safe zero Gone j kept so = tt
  ended_safe zero (Left Ended) j kept so = leaves most (run_is_over begun_session (Left Ended) j) (Some drill_account) kept refl
  ended_safe zero (Left (Stopped place)) j kept so = leaves most (run_is_over begun_session (Left (Stopped place)) j) (Some drill_account) kept refl
  ended_safe zero (Left (StoppedInside home)) j kept so = leaves most (run_is_over begun_session (Left (StoppedInside home)) j) (Some drill_account) kept refl
  ended_safe zero (Left Chained) j kept so = absurd so
  ended_safe (suc count) (Faulted number) j kept so = leaves most (run_is_over begun_session (Faulted number) j) (Some drill_account) kept refl
  ended_safe (suc count) (Halted halt) j kept so = leaves most (run_is_over begun_session (Halted halt) j) (Some drill_account) kept refl
  ended_safe (suc count) Gone j kept so = tt
  ended_safe (suc count) (Left Ended) j kept so = leaves most (run_is_over begun_session (Left Ended) j) (Some drill_account) kept refl
  ended_safe (suc count) (Left (Stopped place)) j kept so = leaves most (run_is_over begun_session (Left (Stopped place)) j) (Some drill_account) kept refl
  ended_safe (suc count) (Left (StoppedInside home)) j kept so = leaves most (run_is_over begun_session (Left (StoppedInside home)) j) (Some drill_account) kept refl
  ended_safe (suc count) (Left Chained) j kept so = absurd so

-- RUNNH, computed up to the first statement
pub runs_row : (most : ℕ) (screen : List ℕ) (kept : Option (List ℕ))
    → (let shown = screen ++ codes "RUNNH\r\n" in
    Safe drill_counting any any (in_session (ends_run most (the_run most shown)) (begun_session most shown) (ends_closed (runs drill_program most (Begin (whole 0)) (fresh shown))) then λ _ s. session judge_of most 2 s) (all_typed (codes "BYE" ∷ [])) kept)
    → IsSafe most 3 (user drill_lines screen) (drop 14 drill_keys) kept
unfolding digits fault_text repeated_product place_of value_read item_read keywords signs letter_front digit_front quote_front sign_front front_of items_from tokens_from run verdict_of spec_in bracketed_in closed_code
runs_row most screen kept safe = safe

-- what the end of the program asks, and leads to
module _ (most : ℕ) (shown : List ℕ) where
  abbrev typed : Typing
  typed = all_typed (codes "BYE" ∷ [])

  abbrev ends : Break (Leaving Position) → Job Position → Step Position
  ends why j = ends_run most (the_run most shown) why j

  abbrev AtEnd : Post Coming (Job Position)
  AtEnd keys kept coming j = Safe drill_counting (Leaves most shown) any (ends (Left Ended) j) keys kept

  abbrev AtBreak : Post (Break (Leaving Position)) (Job Position)
  AtBreak keys kept why j = Safe drill_counting (Leaves most shown) any (ends why j) keys kept

  at_break : (why : Break (Leaving Position)) (j : Job Position) (keys : Typing) (kept : Option (List ℕ)) → keys ≡ typed → NotChained why → AtBreak keys kept why j
  at_break why j keys kept is so = subst (λ (k : Typing). AtBreak k kept why j) (sym is) (ended_safe most shown most why j kept so)

  broken_safe : (why : Break ⊥) (j : Job Position) (keys : Typing) (kept : Option (List ℕ)) → keys ≡ typed → AtBreak keys kept (break_over no_way why) j
  broken_safe (Faulted number) j keys kept is = at_break (Faulted number) j keys kept is tt
  broken_safe (Halted halt) j keys kept is = at_break (Halted halt) j keys kept is tt
  broken_safe Gone j keys kept is = at_break Gone j keys kept is tt
  broken_safe (Left none) j keys kept is = absurd none

  closing_safe : (j : Job Position) → OneChannel j → (kept : Option (List ℕ)) → Safe drill_counting AtEnd AtBreak (ends_closed (Breaks (Left Ended) j)) typed kept
  closing_safe j one kept =
      let s = in_storage.part j in
      let put = in_storage.with_part j in
      then_safe drill_counting AtEnd AtBreak (λ _ j. Breaks (Left Ended) j) (on in_storage shut_act j) typed kept
      (over_safe drill_counting (λ keys kept done j. AtBreak keys kept (Left Ended) j) AtBreak no_way put (shut_act s) typed kept
      (then_safe drill_counting (λ keys kept done s. AtBreak keys kept (Left Ended) (put s)) (λ keys kept why s. AtBreak keys kept (break_over no_way why) (put s)) (λ _ s. Gives tt (record s { memory = forget_all s.memory })) (on in_files closes_all s) typed kept
      (over_safe drill_counting (λ keys kept done s. AtBreak keys kept (Left Ended) (put (record s { memory = forget_all s.memory }))) (λ keys kept why s. AtBreak keys kept (break_over no_way why) (put s)) no_way (in_files.with_part s) (closes_all s.files) typed kept
      (more_safe drill_counting (same typed) (λ keys kept done files. AtBreak keys kept (Left Ended) (put (record (in_files.with_part s files) { memory = forget_all s.memory })))
      (same typed) (λ keys kept why files. AtBreak keys kept (break_over no_way (break_over no_way why)) (put (in_files.with_part s files)))
      (λ keys kept done files is. at_break (Left Ended) (put (record (in_files.with_part s files) { memory = forget_all s.memory })) keys kept is tt)
      (λ keys kept why files is. twice_broken why (put (in_files.with_part s files)) keys kept is)
      (closes_all s.files) typed kept (shuts_safe j one typed kept)))))
    where
      twice_broken : (why : Break ⊥) (j : Job Position) (keys : Typing) (kept : Option (List ℕ)) → keys ≡ typed → AtBreak keys kept (break_over no_way (break_over no_way why)) j
      twice_broken (Faulted number) j keys kept is = at_break (Faulted number) j keys kept is tt
      twice_broken (Halted halt) j keys kept is = at_break (Halted halt) j keys kept is tt
      twice_broken Gone j keys kept is = at_break Gone j keys kept is tt
      twice_broken (Left none) j keys kept is = absurd none

  closes_so : (why : Break (Leaving Position)) (j : Job Position) (keys : Typing) (kept : Option (List ℕ)) → keys ≡ typed → EndsSo why j → Safe drill_counting AtEnd AtBreak (ends_closed (Breaks why j)) keys kept
  closes_so (Left Ended) j keys kept is so = subst (λ (k : Typing). Safe drill_counting AtEnd AtBreak (ends_closed (Breaks (Left Ended) j)) k kept) (sym is) (closing_safe j so kept)
  closes_so (Faulted number) j keys kept is so = at_break (Faulted number) j keys kept is tt
  closes_so (Halted halt) j keys kept is so = at_break (Halted halt) j keys kept is tt
  closes_so Gone j keys kept is so = at_break Gone j keys kept is tt
  closes_so (Left (Stopped place)) j keys kept is so = at_break (Left (Stopped place)) j keys kept is tt
  closes_so (Left (StoppedInside home)) j keys kept is so = at_break (Left (StoppedInside home)) j keys kept is tt
  closes_so (Left Chained) j keys kept is so = absurd so

  from_run : RunCounts → (kept : Option (List ℕ)) → Safe drill_counting any any (in_session (ends_run most (the_run most shown)) (begun_session most shown) (ends_closed (runs drill_program most (Begin (whole 0)) (fresh shown))) then λ _ s. session judge_of most 2 s) typed kept
  from_run counts kept =
      then_safe drill_counting any any (λ _ s. session judge_of most 2 s) (in_session (ends_run most (the_run most shown)) (begun_session most shown) (ends_closed (runs drill_program most (Begin (whole 0)) (fresh shown)))) typed kept
      (ends_safe drill_counting (Leaves most shown) any (λ j. with_job j (begun_session most shown)) (λ value j. ends (Left Ended) j) ends (ends_closed (runs drill_program most (Begin (whole 0)) (fresh shown))) typed kept
      (closed_safe drill_counting AtEnd AtBreak (runs drill_program most (Begin (whole 0)) (fresh shown)) typed kept
      (more_safe drill_counting (same typed) AtEnd (λ left kept why j. (left ≡ typed) × EndsSo why j) (λ keys kept why j. Safe drill_counting AtEnd AtBreak (ends_closed (Breaks why j)) keys kept)
      (λ keys kept coming j is. at_break (Left Ended) j keys kept is tt)
      (λ keys kept why j so. closes_so why j keys kept so.0 so.1)
      (runs drill_program most (Begin (whole 0)) (fresh shown)) typed kept (counts most shown typed kept))))

pub talk_counts_by_runs : RunCounts → TalkCounts
talk_counts_by_runs counts pairs screen proper talks =
    let given = replies pairs in
    let most = statements_for given in
    let is = ap (λ (t : Played (List ℕ)). t.0) (talks.1 judge_of judge_of_judges) in
    played drill_counting any any (whole_session judge_of most 17) at_start (fuel_for given) (all_typed drill_keys) None pairs proper
    (hello_safe most (λ screen kept. stored_all most screen kept (λ shown. runs_row most shown kept (from_run most (shown ++ codes "RUNNH\r\n") counts kept)))) is

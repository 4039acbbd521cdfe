-- Each turn of the drill's program asks only what a counting job may ask.
use Rattle.std.proofs.Common.{◌≡◌, ℕ, zero, suc, Bool, true, false, List, [], ◌∷◌, length, replicate, Option, Some, None, ℤ, pos, refl, sym, ap, subst, ◌∙◌, ◌⊎◌, inl, inr}
use Rattle.std.specs.Prelude.{if◌then◌else◌, slice_set, not, ◌+ℤ◌}
use Rattle.basic_values.specs.Numbers.{wrap}
use Rattle.std.specs.List.{AllByRecursion}
use Rattle.std.specs.Ordering.{int_cmp, is_eq}
use Rattle.monitor_calls.specs.declared.calls.Request.TheVariants.{Get, Put, OpenFile, CloseFile, Sleep}
use Rattle.monitor_calls.specs.declared.calls.Reply.{Reply}
use Rattle.monitor_calls.specs.declared.calls.Reply.TheVariants.{Done, Block, Opened, Failed, Expired}
use Rattle.monitor_calls.specs.declared.files.OpenKind.TheVariants.{Either, Output}
use Rattle.monitor_calls.specs.Proper.{IsProperReply, IsByte}
use Rattle.monitor_calls.specs.Typing.{Typing}
use Rattle.monitor_model.specs.Counters.{page_kept}
use Rattle.file_names.specs.SpecFronts.{spec_in, bracketed_in, closed_code}
use Rattle.job_memory.specs.declared.contents.Content.TheVariants.{Number}
use Rattle.job_memory.specs.Memory.{forget}
use Rattle.channels.specs.Transfers.{page_from}
use Rattle.job_model.specs.Act.{Break}
use Rattle.job_model.specs.Asking.{counts_as, is_error}
use Rattle.program_model.specs.Program.{Position, whole, inside}
use Rattle.program_model.specs.Job.{Job, Leaving, no_destination}
use Rattle.program_model.specs.Loops.{is_past}
use Rattle.program_model.specs.Control.{Doing}
use Rattle.program_model.specs.Running.{Coming, Begin, turn, calls_of, runs}
use Rattle.drill_deck.specs.Tallies.{counter}
use Rattle.drill_talk.specs.Laws.{drill_counting, next_number}
use Rattle.drill_talk.proofs.DrillProgram.{drill_program, name_i, name_k, EndsSo, RunCounts}
use Rattle.drill_talk.proofs.DrillTurns.{Rest, Variables, with_c, job_in, begun_in, drill_turn_at, got, put, opened, closed, ended, slept, has_room, with_number, with_c_and, let_by, tested_by, again_by, for_by, next_by, next_of_i, limits_of, number_of_k, is_waiting}
use Rattle.drill_talk.proofs.Safe.{Safe, Post}
use Rattle.drill_talk.proofs.SafeLemmas.{more_safe, runs_safe}
use Rattle.drill_talk.proofs.NumberRows.{counted_up, counted_long, lset_counts, put_whole, get_whole}

-- WHERE A JOB IS

-- the statements at which an error may arise
pub data Place : Type 0 where
  AtOpen : Place
  AtGet : Place
  AtPut : Place
  AtClose : Place

abbrev pub number_at : Place → ℕ
number_at AtOpen = 1
number_at AtGet = 4
number_at AtPut = 6
number_at AtClose = 8

-- the statements of the handler
pub data Step : Type 0 where
  Tests : Step
  Reports : Step
  Zeroes : Step
  Waits : Step
  Adds : Step
  Sleeps : Step
  Resumes : Step

abbrev pub step_at : Step → Position
step_at Tests = whole 10
step_at Reports = inside (whole 10) true
step_at Zeroes = whole 11
step_at Waits = whole 12
step_at Adds = inside (whole 12) true
step_at Sleeps = whole 13
step_at Resumes = whole 14

-- nothing but perhaps K% is stored; C$ is the field
abbrev pub Unset : Variables → Type 0
Unset variables = (variables ≡ []) ⊎ ((k : ℤ) × (variables ≡ (name_k, Number k) ∷ []))

abbrev pub HasC : Variables → Type 0
HasC variables = (rest : Variables) × (variables ≡ with_c rest)

-- a channel that is open, with its field and a whole buffer
abbrev pub Ready : Bool → Variables → List ℕ → Type 0
Ready open_now variables buffer = (open_now ≡ true) × (HasC variables × (length buffer ≡ 512))

-- the buffer's number is one step on from that of the page that is kept
abbrev pub Stepped : List ℕ → Option (List ℕ) → Type 0
Stepped buffer kept = (old : List ℕ) × ((kept ≡ Some old) × (counter buffer ≡ next_number (counter old)))

abbrev pub Cond : Place → Bool → Variables → List ℕ → Option (List ℕ) → Type 0
Cond AtOpen open_now variables buffer kept = (open_now ≡ false) × Unset variables
Cond AtGet open_now variables buffer kept = Ready open_now variables buffer
Cond AtPut open_now variables buffer kept = Ready open_now variables buffer × Stepped buffer kept
Cond AtClose open_now variables buffer kept = Ready open_now variables buffer

pub data Where : Type 0 where
  Main : Place → Where
  AtField : Where
  AtFor : Where
  AtLset : Where
  AtNext : Where
  AtGoto : Where
  AtEnd : Where
  -- the handler, for an error of that statement
  Handler : Step → Place → Where

abbrev pub place_of : Where → Position
place_of (Main p) = whole (number_at p)
place_of AtField = whole 2
place_of AtFor = whole 3
place_of AtLset = whole 5
place_of AtNext = whole 7
place_of AtGoto = whole 9
place_of AtEnd = whole 15
place_of (Handler s p) = step_at s

abbrev pub is_handler : Where → Bool
is_handler (Handler s p) = true
is_handler w = false

abbrev Bytes : List ℕ → Type 0
Bytes buffer = (a b : ℕ) (more : List ℕ) → buffer ≡ a ∷ b ∷ more → IsByte a × IsByte b

abbrev pub Holds : Where → ℕ → Bool → Variables → List ℕ → Option (List ℕ) → Type 0
Holds (Main p) place open_now variables buffer kept = Cond p open_now variables buffer kept
Holds AtField place open_now variables buffer kept = (open_now ≡ true) × (Unset variables × (buffer ≡ replicate 512 0))
Holds AtFor place open_now variables buffer kept = Ready open_now variables buffer
Holds AtLset place open_now variables buffer kept = Ready open_now variables buffer × ((kept ≡ Some buffer) × Bytes buffer)
Holds AtNext place open_now variables buffer kept = Ready open_now variables buffer
Holds AtGoto place open_now variables buffer kept = Unit {0}
Holds AtEnd place open_now variables buffer kept = Unit {0}
Holds (Handler s p) place open_now variables buffer kept = (place ≡ number_at p) × Cond p open_now variables buffer kept

-- what is so before each statement
pub record Inv (keys left : Typing) (kept : Option (List ℕ)) (coming : Coming) (j : Job Position) : Type 0 where
  pub typed : left ≡ keys
  pub at : Where
  pub place : ℕ
  pub open_now : Bool
  pub variables : Variables
  pub buffer : List ℕ
  pub rest : Rest
  pub coming_is : coming ≡ Begin (place_of at)
  pub job_is : j ≡ job_in (is_handler at) place open_now variables buffer rest
  pub holds : Holds at place open_now variables buffer kept

abbrev pub Ends : Typing → Post (Break (Leaving Position)) (Job Position)
Ends keys left kept why j = (left ≡ keys) × EndsSo why j

-- a reply that fails, or counts as one that ends the job
fails : (P : Reply → Type 0) (number : ℕ) (error : Bool) → P (Failed number) → P Expired → P (if error then Failed number else Expired)
fails P number true failed expired = failed
fails P number false failed expired = expired

module _ (keys : Typing) (most : ℕ) where
  -- what a turn leads to, and a turn
  abbrev Comes : Option (List ℕ) → Doing Coming → Type 0
  Comes kept m = Safe drill_counting (Inv keys) (Ends keys) m keys kept

  abbrev Turns : Option (List ℕ) → Position → Job Position → Type 0
  Turns kept q j = Comes kept (drill_turn_at most q j)

  -- the job is before a statement
  comes_at : (w : Where) (kept : Option (List ℕ)) (place : ℕ) (open_now : Bool) (variables : Variables) (buffer : List ℕ) (d : Rest) → Holds w place open_now variables buffer kept → Inv keys keys kept (Begin (place_of w)) (job_in (is_handler w) place open_now variables buffer d)
  comes_at w kept place open_now variables buffer d holds = record {
    typed = refl;
    at = w;
    place = place;
    open_now = open_now;
    variables = variables;
    buffer = buffer;
    rest = d;
    coming_is = refl;
    job_is = refl;
    holds = holds;
  }

  -- an error has come: to the handler
  handles : (p : Place) (kept : Option (List ℕ)) (open_now : Bool) (variables : Variables) (buffer : List ℕ) (d : Rest) → Cond p open_now variables buffer kept → Inv keys keys kept (Begin (whole 10)) (job_in true (number_at p) open_now variables buffer d)
  handles p kept open_now variables buffer d cond = comes_at (Handler Tests p) kept (number_at p) open_now variables buffer d (refl, cond)

  module _ (kept : Option (List ℕ)) (place : ℕ) (d : Rest) where
    -- OPEN and FIELD
    module _ (variables : Variables) (unset : Unset variables) (buffer : List ℕ) where
      open_replied : (reply : Reply) → Comes (page_kept 1 kept (OpenFile 1 drill_counting.name Either true None) reply) (opened most (job_in false place false variables buffer (begun_in 1 20 d)) (counts_as (OpenFile 1 drill_counting.name Either true None) reply))
      open_replied (Opened blocks read write) = comes_at AtField _ place true variables (replicate 512 0) (record (begun_in 1 20 d) { update = true; next = 1; recount = 0; loaded = 0; unread = 0; column = 0 }) (refl, (unset, refl))
      open_replied (Failed number) =
          fails (λ x. Comes kept (opened most (job_in false place false variables buffer (begun_in 1 20 d)) x)) number (is_error number)
          (handles AtOpen kept false variables (replicate 512 0) (record (begun_in 1 20 d) { number = number; error_line = 20 }) (refl, unset)) (refl, tt)
      open_replied reply = (refl, tt)

      not_output : Either ≡ Output → ⊥
      not_output is = cc

      open_turn : Turns kept (whole 1) (job_in false place false variables buffer d)
      unfolding spec_in bracketed_in closed_code
      open_turn = ((refl, (refl, (not_output, refl))), λ reply proper. open_replied reply)

    field_turn : (variables : Variables) → Unset variables → Turns kept (whole 2) (job_in false place true variables (replicate 512 0) d)
    field_turn variables (inl none) =
        subst (λ v. Turns kept (whole 2) (job_in false place true v (replicate 512 0) d)) (sym none)
        (comes_at AtFor kept place true (with_c []) (replicate 512 0) (begun_in 2 30 d) (refl, (([], refl), refl)))
    field_turn variables (inr (k, is)) =
        subst (λ v. Turns kept (whole 2) (job_in false place true v (replicate 512 0) d)) (sym is)
        (comes_at AtFor kept place true (with_c ((name_k, Number k) ∷ [])) (replicate 512 0) (begun_in 2 30 d) (refl, (((name_k, Number k) ∷ [], refl), refl)))

    module _ (rest : Variables) (buffer : List ℕ) (long : length buffer ≡ 512) where
      abbrev Ready_so : Type 0
      Ready_so = Ready true (with_c rest) buffer

      ready : Ready_so
      ready = (refl, ((rest, refl), long))

      -- GET
      get_replied : (reply : Reply) → IsProperReply reply → Comes (page_kept 1 kept (Get 1 1) reply) (got most (job_in false place true (with_c rest) buffer (begun_in 4 50 d)) (counts_as (Get 1 1) reply))
      get_replied (Block page) proper =
          let left = record (begun_in 4 50 d) { next = 2; recount = 512; unread = 0; counted = 512 } in
          subst (λ b. Inv keys keys (Some page) (Begin (whole 5)) (job_in false place true (with_c rest) b left)) (sym (get_whole page buffer proper.0 long))
          (comes_at AtLset (Some page) place true (with_c rest) page left ((refl, ((rest, refl), proper.0)), (refl, λ a b more is. let bytes = subst (AllByRecursion IsByte) is proper.1 in (bytes.0, bytes.1.0))))
      get_replied (Failed number) proper =
          fails (λ x. Comes kept (got most (job_in false place true (with_c rest) buffer (begun_in 4 50 d)) x)) number (is_error number)
          (handles AtGet kept true (with_c rest) buffer (record (begun_in 4 50 d) { number = number; error_line = 50 }) ready) (refl, tt)
      get_replied reply proper = (refl, tt)

      get_turn : Turns kept (whole 4) (job_in false place true (with_c rest) buffer d)
      get_turn = ((refl, refl), λ reply proper. get_replied reply proper)

      -- LSET
      lset_turn : kept ≡ Some buffer → Bytes buffer → Turns kept (whole 5) (job_in false place true (with_c rest) buffer d)
      lset_turn is bytes =
          comes_at (Main AtPut) kept place true (with_c rest) (counted_up buffer) (begun_in 5 60 d)
          ((refl, ((rest, refl), counted_long buffer long)), (buffer, (is, lset_counts buffer long bytes)))

      -- PUT
      put_replied : Stepped buffer kept → (reply : Reply) → Comes (page_kept 1 kept (Put 1 1 (page_from buffer)) reply) (put most (job_in false place true (with_c rest) buffer (begun_in 6 70 d)) (counts_as (Put 1 1 (page_from buffer)) reply))
      put_replied stepped Done = comes_at AtNext _ place true (with_c rest) buffer (record (begun_in 6 70 d) { next = 2; unread = 0 }) ready
      put_replied stepped (Failed number) =
          fails (λ x. Comes kept (put most (job_in false place true (with_c rest) buffer (begun_in 6 70 d)) x)) number (is_error number)
          (handles AtPut kept true (with_c rest) buffer (record (begun_in 6 70 d) { number = number; error_line = 70 }) (ready, stepped)) (refl, tt)
      put_replied stepped reply = (refl, tt)

      put_turn : Stepped buffer kept → Turns kept (whole 6) (job_in false place true (with_c rest) buffer d)
      put_turn stepped =
          ((refl, (refl, (stepped.0, stepped.1.0, ap counter (put_whole buffer long) ∙ stepped.1.1))), λ reply proper. put_replied stepped reply)

      -- FOR and NEXT
      for_stored : (room : Bool) (new : Variables) → Comes kept (for_by most room (with_c new) (job_in false place true (with_c rest) buffer (begun_in 3 40 d)))
      for_stored true new = comes_at (Main AtGet) kept place true (with_c new) buffer (record (begun_in 3 40 d) { limits = slice_set d.limits 0 (pos 20, pos 1) }) (refl, ((new, refl), long))
      for_stored false new = (refl, tt)

      for_turn : Turns kept (whole 3) (job_in false place true (with_c rest) buffer d)
      for_turn = for_stored (has_room (with_c_and name_i (pos 1) rest)) (with_number name_i (pos 1) rest)

      next_stored : (past room : Bool) (new : Variables) → Comes kept (next_by most past room (with_c new) (job_in false place true (with_c rest) buffer (begun_in 7 80 d)))
      next_stored true room new = comes_at (Main AtClose) kept place true (with_c rest) buffer (begun_in 7 80 d) ready
      next_stored false true new = comes_at (Main AtGet) kept place true (with_c new) buffer (begun_in 7 80 d) (refl, ((new, refl), long))
      next_stored false false new = (refl, tt)

      next_turn : Turns kept (whole 7) (job_in false place true (with_c rest) buffer d)
      next_turn = next_stored (is_past (next_of_i rest d) (limits_of d).0 (limits_of d).1) (has_room (with_c_and name_i (next_of_i rest d) rest)) (with_number name_i (next_of_i rest d) rest)

      -- CLOSE
      close_replied : (reply : Reply) → Comes (page_kept 1 kept (CloseFile 1) reply) (closed most (job_in false place true (with_c rest) buffer (begun_in 8 90 d)) (counts_as (CloseFile 1) reply))
      close_replied Done =
          comes_at AtGoto _ place false (forget 1 (record { variables = with_c rest; arrays = []; aside = [] })).variables (replicate 512 0)
          (record (begun_in 8 90 d) { update = false; next = 1; recount = 0; loaded = 0; unread = 0; column = 0 }) tt
      close_replied (Failed number) =
          fails (λ x. Comes kept (closed most (job_in false place true (with_c rest) buffer (begun_in 8 90 d)) x)) number (is_error number)
          (handles AtClose kept true (with_c rest) buffer (record (begun_in 8 90 d) { number = number; error_line = 90 }) ready) (refl, tt)
      close_replied reply = (refl, tt)

      close_turn : Turns kept (whole 8) (job_in false place true (with_c rest) buffer d)
      close_turn = (tt, λ reply proper. close_replied reply)

    module _ (variables : Variables) (buffer : List ℕ) where
      goto_turn : (open_now : Bool) → Turns kept (whole 9) (job_in false place open_now variables buffer d)
      goto_turn open_now = comes_at AtEnd kept place open_now variables buffer (begun_in 9 90 d) tt

      -- END
      is_over : (x : Reply) (kept : Option (List ℕ)) → Comes kept (ended most (job_in false place true variables buffer (begun_in 15 130 d)) x)
      is_over Done kept = (refl, record { open_now = false; update = false; next = 1; recount = 0; loaded = 0; unread = 0; column = 0; channels = refl })
      is_over (Failed number) kept = (refl, record { open_now = false; update = false; next = 1; recount = 0; loaded = 0; unread = 0; column = 0; channels = refl })
      is_over x kept = (refl, tt)

      end_turn : (open_now : Bool) → Turns kept (whole 15) (job_in false place open_now variables buffer d)
      end_turn false = (refl, record { open_now = false; update = d.update; next = d.next; recount = d.recount; loaded = d.loaded; unread = d.unread; column = d.column; channels = refl })
      end_turn true = (tt, λ reply proper. is_over (counts_as (CloseFile 1) reply) (page_kept 1 kept (CloseFile 1) reply))

    -- THE HANDLER
    module _ (open_now : Bool) (variables : Variables) (buffer : List ℕ) (p : Place) (is : place ≡ number_at p) where
      stays : (s : Step) (new : Variables) (d : Rest) → Cond p open_now new buffer kept → Inv keys keys kept (Begin (step_at s)) (job_in true place open_now new buffer d)
      stays s new d cond = comes_at (Handler s p) kept place open_now new buffer d (is, cond)

    -- a store to K%
    k_stored : (open_now : Bool) (variables : Variables) (buffer : List ℕ) (p : Place) (n : ℤ) → Cond p open_now variables buffer kept → Cond p open_now (with_number name_k n variables) buffer kept
    k_stored open_now variables buffer AtOpen n (shut, inl none) = (shut, inr (n, ap (with_number name_k n) none))
    k_stored open_now variables buffer AtOpen n (shut, inr some) = (shut, inr (n, ap (with_number name_k n) some.1))
    k_stored open_now variables buffer AtGet n (opens, (has, long)) = (opens, ((with_number name_k n has.0, ap (with_number name_k n) has.1), long))
    k_stored open_now variables buffer AtPut n ((opens, (has, long)), stepped) = ((opens, ((with_number name_k n has.0, ap (with_number name_k n) has.1), long)), stepped)
    k_stored open_now variables buffer AtClose n (opens, (has, long)) = (opens, ((with_number name_k n has.0, ap (with_number name_k n) has.1), long))

    module _ (open_now : Bool) (variables : Variables) (buffer : List ℕ) (p : Place) (is : place ≡ number_at p) (cond : Cond p open_now variables buffer kept) where
      tested : (b : Bool) → Comes kept (tested_by most (whole 10) b (job_in true place open_now variables buffer (begun_in 10 100 d)))
      tested true = stays open_now variables buffer p is Reports variables (begun_in 10 100 d) cond
      tested false = stays open_now variables buffer p is Zeroes variables (begun_in 10 100 d) cond

      zeroed : (room : Bool) → Comes kept (let_by most (whole 11) room (with_number name_k (pos 0) variables) (job_in true place open_now variables buffer (begun_in 11 110 d)))
      zeroed true = stays open_now variables buffer p is Waits (with_number name_k (pos 0) variables) (begun_in 11 110 d) (k_stored open_now variables buffer p (pos 0) cond)
      zeroed false = (refl, tt)

      waits : (b : Bool) → Comes kept (tested_by most (whole 12) b (job_in true place open_now variables buffer (begun_in 12 110 d)))
      waits true = stays open_now variables buffer p is Adds variables (begun_in 12 110 d) cond
      waits false = stays open_now variables buffer p is Sleeps variables (begun_in 12 110 d) cond

      -- after K% was stored, the WHILE tests again
      waits_again : (b : Bool) (n : ℤ) → Comes kept (again_by most b (job_in true place open_now (with_number name_k n variables) buffer (begun_in 12 110 d)))
      waits_again true n = stays open_now variables buffer p is Adds (with_number name_k n variables) (begun_in 12 110 d) (k_stored open_now variables buffer p n cond)
      waits_again false n = stays open_now variables buffer p is Sleeps (with_number name_k n variables) (begun_in 12 110 d) (k_stored open_now variables buffer p n cond)

      added : (room : Bool) (n : ℤ) → Comes kept (let_by most (inside (whole 12) true) room (with_number name_k n variables) (job_in true place open_now variables buffer (begun_in 12 110 d)))
      added true n = waits_again (is_waiting (with_number name_k n variables)) n
      added false n = (refl, tt)

      slept_replied : (reply : Reply) → Comes (page_kept 1 kept (Sleep 1) reply) (slept most (job_in true place open_now variables buffer (begun_in 13 120 d)) (counts_as (Sleep 1) reply))
      slept_replied Done = stays open_now variables buffer p is Resumes variables (begun_in 13 120 d) cond
      slept_replied (Failed number) =
          fails (λ x. Comes kept (slept most (job_in true place open_now variables buffer (begun_in 13 120 d)) x)) number (is_error number) (refl, tt) (refl, tt)
      slept_replied reply = (refl, tt)

      handler_turn : (s : Step) → Turns kept (step_at s) (job_in true place open_now variables buffer d)
      handler_turn Tests = tested (not (is_eq (int_cmp (pos d.number) (pos 19))))
      handler_turn Reports = (refl, tt)
      handler_turn Zeroes = zeroed (has_room (with_number name_k (pos 0) variables))
      handler_turn Waits = waits (is_waiting variables)
      handler_turn Adds =
          let n = wrap (number_of_k variables +ℤ pos 1) in
          added (has_room (with_number name_k n variables)) n
      handler_turn Sleeps = (tt, λ reply proper. slept_replied reply)
      handler_turn Resumes =
          subst (λ m. Inv keys keys kept (Begin (whole m)) (job_in false place open_now variables buffer (begun_in 14 120 d))) (sym is)
          (comes_at (Main p) kept place open_now variables buffer (begun_in 14 120 d) cond)

    -- EVERY TURN

    if_ready : (m : ℕ) (open_now : Bool) (variables : Variables) (buffer : List ℕ) → Ready open_now variables buffer
        → ((rest : Variables) → Turns kept (whole m) (job_in false place true (with_c rest) buffer d)) → Turns kept (whole m) (job_in false place open_now variables buffer d)
    if_ready m open_now variables buffer (opens, (has, long)) turns =
        subst (λ o. Turns kept (whole m) (job_in false place o variables buffer d)) (sym opens)
        (subst (λ v. Turns kept (whole m) (job_in false place true v buffer d)) (sym has.1) (turns has.0))

    turn_at : (w : Where) (open_now : Bool) (variables : Variables) (buffer : List ℕ) → Holds w place open_now variables buffer kept → Turns kept (place_of w) (job_in (is_handler w) place open_now variables buffer d)
    turn_at (Main AtOpen) open_now variables buffer (shut, unset) =
        subst (λ o. Turns kept (whole 1) (job_in false place o variables buffer d)) (sym shut) (open_turn variables unset buffer)
    turn_at AtField open_now variables buffer (opens, (unset, zeros)) =
        subst (λ o. Turns kept (whole 2) (job_in false place o variables buffer d)) (sym opens)
        (subst (λ b. Turns kept (whole 2) (job_in false place true variables b d)) (sym zeros) (field_turn variables unset))
    turn_at AtFor open_now variables buffer ready = if_ready 3 open_now variables buffer ready (λ rest. for_turn rest buffer ready.1.1)
    turn_at (Main AtGet) open_now variables buffer ready = if_ready 4 open_now variables buffer ready (λ rest. get_turn rest buffer ready.1.1)
    turn_at AtLset open_now variables buffer (ready, (is, bytes)) = if_ready 5 open_now variables buffer ready (λ rest. lset_turn rest buffer ready.1.1 is bytes)
    turn_at (Main AtPut) open_now variables buffer (ready, stepped) = if_ready 6 open_now variables buffer ready (λ rest. put_turn rest buffer ready.1.1 stepped)
    turn_at AtNext open_now variables buffer ready = if_ready 7 open_now variables buffer ready (λ rest. next_turn rest buffer ready.1.1)
    turn_at (Main AtClose) open_now variables buffer ready = if_ready 8 open_now variables buffer ready (λ rest. close_turn rest buffer ready.1.1)
    turn_at AtGoto open_now variables buffer holds = goto_turn variables buffer open_now
    turn_at AtEnd open_now variables buffer holds = end_turn variables buffer open_now
    turn_at (Handler s p) open_now variables buffer (is, cond) = handler_turn open_now variables buffer p is cond s

  each_turn : (coming : Coming) (j : Job Position) (left : Typing) (kept : Option (List ℕ)) → Inv keys left kept coming j → Safe drill_counting (Inv keys) (Ends keys) (turn (calls_of drill_program (runs drill_program most)) drill_program coming j) left kept
  each_turn coming j left kept inv =
      subst (λ (c : Coming). Safe drill_counting (Inv keys) (Ends keys) (turn (calls_of drill_program (runs drill_program most)) drill_program c j) left kept) (sym inv.coming_is)
      (subst (λ (j : Job Position). Safe drill_counting (Inv keys) (Ends keys) (drill_turn_at most (place_of inv.at) j) left kept) (sym inv.job_is)
      (subst (λ (k : Typing). Safe drill_counting (Inv keys) (Ends keys) (drill_turn_at most (place_of inv.at) (job_in (is_handler inv.at) inv.place inv.open_now inv.variables inv.buffer inv.rest)) k kept) (sym inv.typed)
      (turn_at kept inv.place inv.rest inv.at inv.open_now inv.variables inv.buffer inv.holds)))

-- what the job has after its first statement
abbrev first_rest : List ℕ → Rest
first_rest screen = record {
  update = false;
  next = 1;
  recount = 0;
  loaded = 0;
  unread = 0;
  column = 0;
  counted = 0;
  others = replicate 11 (replicate 512 0);
  common = [];
  screen = screen;
  limits = replicate 1 (pos 0, pos 1);
  item = 0;
  line = 10;
  home = record { start = 0; behind = 1; line = 10 };
  destination = no_destination;
  number = 0;
  error_line = 0;
}

pub run_counts : RunCounts
run_counts zero screen keys kept = refl
run_counts (suc most) screen keys kept =
    more_safe drill_counting (Inv keys) (λ left _ _ _. left ≡ keys) (Ends keys) (Ends keys) (λ left kept coming j inv. inv.typed) (λ left kept why j ends. ends)
    (runs drill_program most (Begin (whole 1)) (job_in false 0 false [] (replicate 512 0) (first_rest screen))) keys kept
    (runs_safe drill_counting drill_program (Inv keys) (Ends keys) (λ most coming j left kept inv. each_turn keys most coming j left kept inv) most (Begin (whole 1)) (job_in false 0 false [] (replicate 512 0) (first_rest screen)) keys kept
    (comes_at keys most (Main AtOpen) kept 0 false [] (replicate 512 0) (first_rest screen) (refl, inl refl)))

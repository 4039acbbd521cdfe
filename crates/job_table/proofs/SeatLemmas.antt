-- The table of jobs keeps its shape.
use Rattle.std.proofs.Common.{◌≡◌, ◌≢◌, ℕ, ◌+◌, ◌<◌, zero, suc, List, [], ◌∷◌, length, length-set, get_or, set, replicate, Some, None, arith, refl, sym, ap, ◌∙◌, subst}
use Rattle.std.specs.Prelude.{Option, IfNone}
use Rattle.monitor_calls.specs.declared.names.Account.{Account}
use Rattle.monitor_model.specs.declared.entries.ChannelEntry.{ChannelEntry}
use Rattle.monitor_model.specs.declared.entries.JobEntry.{JobEntry}
use Rattle.monitor_model.specs.Jobs.{nobody, job_at, account_of}
use Rattle.job_table.specs.Seats.{IsSeated, AreSeated}

pub seat_at : (jobs : List JobEntry) (job : ℕ) (d : JobEntry) → AreSeated jobs → job < length jobs → IsSeated (get_or jobs job d)
seat_at [] job d all lt = absurd (omega (arith, lt))
seat_at (j ∷ jobs) zero d all lt = all.0
seat_at (j ∷ jobs) (suc job) d all lt = seat_at jobs job d all.1 (omega (arith, lt))

pub seat_places : (jobs : List JobEntry) (job : ℕ) (d : JobEntry) → AreSeated jobs → job < length jobs → length (get_or jobs job d).channels ≡ 13
seat_places jobs job d all lt = (seat_at jobs job d all lt).places

pub seated_set : (jobs : List JobEntry) (job : ℕ) (new : JobEntry) → AreSeated jobs → IsSeated new → AreSeated (set jobs job new)
seated_set [] job new all is = tt
seated_set (j ∷ jobs) zero new all is = (is, all.1)
seated_set (j ∷ jobs) (suc job) new all is = (all.0, seated_set jobs job new all.1 is)

pub seated_nobody : IsSeated nobody
seated_nobody = record { places = refl; visitor = λ none. refl }

pub seated_new : (jobs : ℕ) → AreSeated (replicate jobs nobody)
seated_new zero = tt
seated_new (suc jobs) = (seated_nobody, seated_new jobs)

get_or_any : (jobs : List JobEntry) (job : ℕ) (d e : JobEntry) → job < length jobs → get_or jobs job d ≡ get_or jobs job e
get_or_any [] job d e lt = absurd (omega (arith, lt))
get_or_any (j ∷ jobs) zero d e lt = refl
get_or_any (j ∷ jobs) (suc job) d e lt = get_or_any jobs job d e (omega (arith, lt))

-- AN ENTRY THAT WAS READ at the place of a job

if_none : {T : Type 0} (o : Option T) (P : Type 0) → (o ≡ None → P) → IfNone o P
if_none None P p = p refl
if_none (Some x) P p = tt

set_itself : {T : Type 0} (n i : ℕ) (x : T) → set (replicate n x) i x ≡ replicate n x
set_itself zero i x = refl
set_itself (suc n) zero x = refl
set_itself (suc n) (suc i) x = ap (λ xs. x ∷ xs) (set_itself n i x)

module _ (jobs : List JobEntry) (job : ℕ) (read : JobEntry) (all : AreSeated jobs) (lt : job < length jobs) (is : read ≡ get_or jobs job read) where
  read_is : job_at jobs job ≡ read
  read_is = get_or_any jobs job nobody read lt ∙ sym is

  read_seat : IsSeated read
  read_seat = subst IsSeated (sym is) (seat_at jobs job read all lt)

  pub visitor_read : IfNone read.account (job_at jobs job ≡ nobody)
  visitor_read = if_none read.account _ (λ none. read_is ∙ read_seat.visitor none)

  pub seated_log_in : (account : Account) → AreSeated (set jobs job (record { account = Some account; calls = 0; channels = read.channels }))
  seated_log_in account = seated_set jobs job _ all (record { places = read_seat.places; visitor = λ none. absurd (cc) })

  pub seated_count : account_of jobs job ≢ None → AreSeated (set jobs job (record { account = read.account; calls = read.calls + 1; channels = read.channels }))
  unfolding account_of
  seated_count known =
      seated_set jobs job _ all (record { places = read_seat.places; visitor = λ none. absurd (known (ap (λ j. j.account) read_is ∙ none)) })

  pub seated_set_channel : (channel : ℕ) (entry : Option ChannelEntry) → (entry ≢ None → account_of jobs job ≢ None) → AreSeated (set jobs job (record { account = read.account; calls = read.calls; channels = set read.channels channel entry }))
  unfolding account_of
  seated_set_channel channel entry known =
      seated_set jobs job _ all (record { places = length-set read.channels channel entry ∙ read_seat.places; visitor = λ none. by entry refl none }) where
        by : (o : Option ChannelEntry) → entry ≡ o → read.account ≡ None → ◌≡◌ {A = JobEntry} (record { account = read.account; calls = read.calls; channels = set read.channels channel entry }) nobody
        by None closes none =
            (λ i. record { account = none i; calls = (read_seat.visitor none i).calls; channels = set (read_seat.visitor none i).channels channel (closes i) })
            ∙ (λ i. record { account = None; calls = 0; channels = set_itself 13 channel None i })
        by (Some e) opens none = absurd (known (λ closes. absurd (let clash : Some e ≡ None = sym opens ∙ closes in cc)) (ap (λ j. j.account) read_is ∙ none))

-- The printer is with a job that is logged in, by each move.
use Rattle.std.proofs.Common.{◌≡◌, ◌≢◌, ℕ, true, false, cond, refl, sym, ap, ◌∙◌, subst, Some, None}
use Rattle.std.proofs.lemmas.Bool.{ne_eqb, cases_eq}
use Rattle.monitor_calls.specs.declared.names.Account.{Account}
use Rattle.monitor_calls.specs.declared.calls.Request.{Request}
use Rattle.monitor_model.specs.Jobs.{account_of}
use Rattle.monitor_model.specs.Printing.{Printer, has_printer, is_assigned, free_printer}
use Rattle.monitor_model.specs.State.{State}
use Rattle.monitor_model.specs.Good.{GoodPrinter}
use Rattle.monitor_model.proofs.Tools.{either}
use Rattle.monitor_model.proofs.JobLemmas.{no_login, account_of-count, account_of-set_channel, account_of-end_job_other}
use Rattle.monitor_model.proofs.Outcomes.{Printing, assigns, deassigns, begins, finishes}
use Rattle.monitor_model.proofs.Moves.{Keeps}
use Rattle.monitor_model.proofs.PrinterLemmas.{freed, still_not}

-- a change by a job leaves the printer with this job, or free
changed_by : (m : State) (job : ℕ) (request : Request) (printer : Printer) → Printing m job request printer → (k : ℕ) → job ≢ k → has_printer printer k ≡ false
changed_by m job request printer (assigns asked other is) k ne = ap (λ p. has_printer p k) is ∙ ne_eqb job k ne
changed_by m job request printer (deassigns asked own idle is) k ne = ap (λ p. has_printer p k) is
changed_by m job request printer (begins asked other is) k ne = ap (λ p. has_printer p k) is ∙ ne_eqb job k ne
changed_by m job request printer (finishes asked own is) k ne = ap (λ p. has_printer p k) is ∙
    elim (is_assigned m.printer job) as (λ v. has_printer (cond v (Some (record { job = job; assigned = true; printing = false })) None) k ≡ false) [ true ↦ ne_eqb job k ne | false ↦ refl ]

-- the printer stays, and who is logged in
kept : (m new : State) → new.printer ≡ m.printer → ((k : ℕ) → account_of new.jobs k ≡ None → account_of m.jobs k ≡ None) → GoodPrinter m → GoodPrinter new
kept m new same back g = record { known = λ k none. ap (λ p. has_printer p k) same ∙ g.known k (back k none) }

-- a job that is logged in changes it
changed : (m : State) (job : ℕ) (caller : Account) (request : Request) (printer : Printer) → account_of m.jobs job ≡ Some caller → Printing m job request printer → GoodPrinter (record m { printer = printer })
changed m job caller request printer some printing = record {
  known = λ k none. changed_by m job request printer printing k (λ same.
      let clash : Some caller ≡ None = sym some ∙ subst (λ x. account_of m.jobs x ≡ None) (sym same) none in absurd (cc));
}

-- a job is at its end
ended_kept : (m : State) (job : ℕ) (k : ℕ) → (job ≢ k → has_printer m.printer k ≡ false) → has_printer (free_printer m.printer job) k ≡ false
ended_kept m job k others =
    either (cases_eq job k)
    (λ same. subst (λ x. has_printer (free_printer m.printer job) x ≡ false) same (freed m.printer job))
    (λ ne. still_not m.printer job k (others ne))

pub printer_keeps : (job : ℕ) (F : ℕ → Type 0) → Keeps job F GoodPrinter
printer_keeps job F = record {
  logs_in = λ m account password none right g. kept m _ refl (λ k e. no_login m.jobs job account k e) g;
  counts = λ m caller some more g. kept m _ refl (λ k e. sym (account_of-count m.jobs job k) ∙ e) g;
  ends = λ m all g. record {
    known = λ k none. ended_kept m job k (λ ne. g.known k (sym (account_of-end_job_other m.jobs job k (λ same. ne (sym same))) ∙ none));
  };
  opens = λ m c entry caller low some none there g. kept m _ refl (λ k e. sym (account_of-set_channel m.jobs job c (Some entry) k) ∙ e) g;
  makes = λ m name code none known few g. kept m _ refl (λ k e. e) g;
  remakes = λ m name code there unopened g. kept m _ refl (λ k e. e) g;
  removes = λ m name there unopened g. kept m _ refl (λ k e. e) g;
  renames = λ m old new code same there unopened fresh g. kept m _ refl (λ k e. e) g;
  posts = λ m caller receivers some posting g. kept m _ refl (λ k e. e) g;
  prints = λ m caller request printer some printing g. changed m job caller request printer some printing;
  closes = λ m c caller f some g. kept m _ refl (λ k e. sym (account_of-set_channel m.jobs job c None k) ∙ e) g;
  releases = λ m c f g. kept m _ refl (λ k e. e) g;
  adds = λ m c at first count is update read few none free g. kept m _ refl (λ k e. e) g;
  stores = λ m c at block page is write some free room g. kept m _ refl (λ k e. e) g;
}

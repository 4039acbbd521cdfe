-- Who has the printer, and who prints, after each change of it.
use Rattle.std.proofs.Common.{◌≡◌, ◌≢◌, ℕ, ◌==◌, true, false, cond, refl, sym, ◌∙◌, Some, None, eq-eqb}
use Rattle.std.specs.Prelude.{◌&&◌}
use Rattle.std.proofs.lemmas.Bool.{true≢false, not-false, and_parts, eqb-true}
use Rattle.monitor_model.specs.Printing.{Printer, has_printer, is_anothers, is_assigned, is_printing, close_printer, free_printer}
use Rattle.monitor_model.proofs.Tools.{by_test}

pub self : (job : ℕ) → (job == job) ≡ true
self job = eq-eqb job job refl

-- WHO HAS IT

-- a job that prints has it
pub prints_has : (printer : Printer) (job : ℕ) → is_printing printer job ≡ true → has_printer printer job ≡ true
prints_has None job prints = absurd (cc)
prints_has (Some at) job prints = (and_parts (at.job == job) at.printing prints).0

pub has_not : (printer : Printer) (job : ℕ) → has_printer printer job ≡ false → is_printing printer job ≡ false
has_not printer job none =
    by_test (is_printing printer job) (λ prints. absurd (true≢false (sym (prints_has printer job prints) ∙ none))) (λ e. e)

-- no two jobs have it
pub one_has : (printer : Printer) (job k : ℕ) → has_printer printer job ≡ true → is_printing printer k ≡ true → job ≡ k
one_has None job k own prints = absurd (cc)
one_has (Some at) job k own prints =
    sym (eqb-true at.job job own) ∙ eqb-true at.job k (prints_has (Some at) k prints)

-- if no other job than this one has it, no other prints
pub none_else : (printer : Printer) (job k : ℕ) → is_anothers printer job ≡ false → is_printing printer k ≡ true → job ≡ k
none_else None job k own prints = absurd (cc)
none_else (Some at) job k own prints = one_has (Some at) job k (not-false _ own) prints

-- AFTER THE END OF A JOB

-- it has the printer no longer
pub freed : (printer : Printer) (job : ℕ) → has_printer (free_printer printer job) job ≡ false
freed None job = refl
freed (Some at) job =
    elim (at.job == job) as (λ v. (at.job == job) ≡ v → has_printer (cond v None (Some at)) job ≡ false) [ true ↦ λ own. refl | false ↦ λ other. other ] refl

-- no job gets it
pub still_not : (printer : Printer) (job k : ℕ) → has_printer printer k ≡ false → has_printer (free_printer printer job) k ≡ false
still_not printer job k none =
    elim (has_printer printer job) as (λ v. has_printer (cond v None printer) k ≡ false) [ true ↦ refl | false ↦ none ]

pub printed_before : (printer : Printer) (job k : ℕ) → is_printing (free_printer printer job) k ≡ true → is_printing printer k ≡ true
printed_before printer job k =
    elim (has_printer printer job) as (λ v. is_printing (cond v None printer) k ≡ true → is_printing printer k ≡ true) [
      | true ↦ λ prints. absurd (cc)
      | false ↦ λ prints. prints
    ]

-- another job that prints goes on
pub prints_on : (printer : Printer) (job k : ℕ) → job ≢ k → is_printing printer k ≡ true → is_printing (free_printer printer job) k ≡ true
prints_on printer job k other prints =
    elim (has_printer printer job) as (λ v. has_printer printer job ≡ v → is_printing (cond v None printer) k ≡ true) [
      | true ↦ λ own. absurd (other (one_has printer job k own prints))
      | false ↦ λ not_own. prints
    ] refl

-- AFTER A PRINT JOB

-- nobody prints
pub nobody_prints : (printer : Printer) (job k : ℕ) → is_printing (close_printer printer job) k ≡ false
nobody_prints printer job k =
    elim (is_assigned printer job) as (λ v. is_printing (cond v (Some (record { job = job; assigned = true; printing = false })) None) k ≡ false) [
      | true ↦ elim (job == k) as (λ v. (v && false) ≡ false) [ true ↦ refl | false ↦ refl ]
      | false ↦ refl
    ]

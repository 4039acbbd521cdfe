-- The refusals of each call of the printer, in order.
use Rattle.std.specs.Prelude.{ℕ, Bool, not, nat_lt, List, [], ◌∷◌}
use Rattle.basic_values.specs.declared.errors.TheConstants.{IN_USE, NO_DEVICE, NOT_OPEN, ILLEGAL_BYTE_COUNT}
use Rattle.basic_values.specs.declared.limits.TheConstants.{LONGEST_MESSAGE}
use Rattle.monitor_model.specs.Printing.{Printer, has_printer, is_anothers, is_printing}

-- another job has it
abbrev pub assign_refusals : Printer → ℕ → List (Bool × ℕ)
assign_refusals printer job = (is_anothers printer job, NO_DEVICE) ∷ []

-- the job does not have it; it has a print job open
abbrev pub deassign_refusals : Printer → ℕ → List (Bool × ℕ)
deassign_refusals printer job =
    (not (has_printer printer job), NOT_OPEN) ∷ (is_printing printer job, IN_USE) ∷ []

-- another job has it; the job has a print job open
abbrev pub open_refusals : Printer → ℕ → List (Bool × ℕ)
open_refusals printer job =
    (is_anothers printer job, NO_DEVICE) ∷ (is_printing printer job, IN_USE) ∷ []

-- the job has no print job open; the string is too long
abbrev pub print_refusals : Printer → ℕ → ℕ → List (Bool × ℕ)
print_refusals printer job length =
    (not (is_printing printer job), NOT_OPEN) ∷ (nat_lt LONGEST_MESSAGE length, ILLEGAL_BYTE_COUNT) ∷ []

-- the job has no print job open
abbrev pub close_refusals : Printer → ℕ → List (Bool × ℕ)
close_refusals printer job = (not (is_printing printer job), NOT_OPEN) ∷ []

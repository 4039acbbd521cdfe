-- The line printer. One job at a time can have it: assigned, for a print job, or both.
use Rattle.std.specs.Prelude.{ℕ, Bool, true, false, not, ◌&&◌, ◌==◌, if◌then◌else◌, Option, Some, None}
use Rattle.monitor_model.specs.declared.entries.PrinterEntry.{PrinterEntry}

-- free, or a job's
abbrev pub Printer : Type 0
Printer = Option PrinterEntry

-- WHAT A JOB HAS

-- the job has it
abbrev pub has_printer : Printer → ℕ → Bool
has_printer None job = false
has_printer (Some at) job = at.job == job

-- a job has it, and it is not this one
abbrev pub is_anothers : Printer → ℕ → Bool
is_anothers None job = false
is_anothers (Some at) job = not (at.job == job)

-- the job has it assigned
abbrev pub is_assigned : Printer → ℕ → Bool
is_assigned None job = false
is_assigned (Some at) job = at.job == job && at.assigned

-- the job is printing
abbrev pub is_printing : Printer → ℕ → Bool
is_printing None job = false
is_printing (Some at) job = at.job == job && at.printing

-- WHAT A JOB CHANGES

-- the job has it assigned; a print job of it goes on
abbrev pub assign : Printer → ℕ → Printer
assign printer job =
    Some (record { job = job; assigned = true; printing = is_printing printer job })

-- the job is printing; what it has assigned stays so
abbrev pub open_printer : Printer → ℕ → Printer
open_printer printer job =
    Some (record { job = job; assigned = is_assigned printer job; printing = true })

-- the print job is over; the printer is free unless the job has assigned it
abbrev pub close_printer : Printer → ℕ → Printer
close_printer printer job =
    if is_assigned printer job
    then Some (record { job = job; assigned = true; printing = false })
    else None

-- the job is at its end; the printer is free if the job had it
abbrev pub free_printer : Printer → ℕ → Printer
free_printer printer job = if has_printer printer job then None else printer

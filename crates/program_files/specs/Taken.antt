-- What the functions compute from a reply is what the reply counts as. No contract of a public call
-- mentions it.
use Rattle.std.specs.Prelude.{◌≡◌, ℕ, Some, Result, Err}
use Rattle.basic_values.specs.declared.failures.Stop.{Stop}
use Rattle.basic_values.specs.declared.failures.Stop.TheVariants as stop
use Rattle.job_model.specs.Act.{Act}
use Rattle.job_model.specs.Follow.{answered_by}

abbrev pub first_stop : ℕ → Stop → Stop
first_stop first (stop.Fault number) = stop.Fault first
first_stop first other = other

-- a call that makes no request leaves this tree, in the state after it; or memory ran out
abbrev pub IsTold : {S A : Type 0} → Result A Stop → Act ⊥ S A → S → Type 0
IsTold (Err stop.NoMemory) act s = Unit {0}
IsTold result act s = answered_by result s ≡ Some act

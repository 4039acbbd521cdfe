-- The state of a job while its program runs, and what a statement leads to.
use Rattle.std.specs.Prelude.{ℕ, List, [], ℤ, pos, if◌then◌else◌, nat_le, None, Result, Ok, Err, length}
use Rattle.basic_values.specs.declared.texts.TheConstants.{MOST_BYTES}
use Rattle.basic_values.specs.declared.failures.Halt.TheVariants.{TooLong}
use Rattle.monitor_calls.specs.declared.names.Account.{Account}
use Rattle.channels.specs.declared.states.ChannelState.{ChannelState}
use Rattle.program_model.specs.declared.destinations.Destination.{Destination}
use Rattle.program_model.specs.declared.homes.Home.{Home}
pub use Rattle.program_model.specs.declared.values.Value.{Value}
pub use Rattle.program_model.specs.declared.values.Value.TheVariants.{Number, Text}
pub use Rattle.program_model.specs.declared.values.Frame.{Frame}
use Rattle.error_trap.specs.declared.trap.Trap.{Trap}
use Rattle.job_memory.specs.Memory.{Memory}
use Rattle.job_model.specs.Act.{Act, Gives, Breaks, Faulted, Halted}

-- a value that is known to be a number, and one that is known to be a string
abbrev pub number : Value → ℤ
number (Number n) = n
number (Text t) = pos 0

abbrev pub text : Value → List ℕ
text (Number n) = []
text (Text t) = t

-- before any CHAIN
abbrev pub no_destination : Destination
no_destination = record { name = []; line = None }

-- R is how the place of a statement is kept.
pub record Job (R : Type 0) : Type 0 where
  -- the account that the job acts for
  pub account : Account
  pub memory : Memory
  -- channels 1 to 12, RECOUNT, and the channels' buffers
  pub channels : List ChannelState
  pub recount : ℕ
  pub buffers : List (List ℕ)
  -- core common
  pub common : List ℕ
  -- all bytes that were written to the terminal
  pub screen : List ℕ
  -- its place is the number of a statement
  pub trap : Trap
  -- the statements after which RETURN continues, the newest first
  pub returns : List R
  -- limit and step of each FOR
  pub limits : List (ℤ × ℤ)
  -- the number of the DATA item that READ takes next
  pub item : ℕ
  -- the line of the statement that runs, in a body too; 0 in immediate mode
  pub line : ℕ
  -- the statement of a line that runs at top level
  pub home : Home
  -- the running calls, the innermost first
  pub frames : List Frame
  -- the program that the last CHAIN leads to
  pub destination : Destination

-- The ways to leave a program that are no error: its end, a STOP, and a CHAIN, which leads to the
-- job's destination. CONT continues after the STOP. If the STOP is in a body, CONT continues after
-- the statement that runs at top level.
pub data Leaving (R : Type 0) : Type 0 where
  Ended : Leaving R
  Stopped : R → Leaving R
  StoppedInside : Home → Leaving R
  Chained : Leaving R

-- what a part of a program does
abbrev pub Deed : Type 0 → Type 0 → Type 0
Deed R A = Act (Leaving R) (Job R) A

-- A string is made, if it is not too long.
abbrev pub text_made : {R : Type 0} → List ℕ → Job R → Deed R Value
text_made bytes j = if nat_le (length bytes) MOST_BYTES then Gives (Text bytes) j else Breaks (Halted TooLong) j

-- a value, or the number of an error
abbrev pub or_fault : {R A : Type 0} → Result A ℕ → Job R → Deed R A
or_fault (Ok value) j = Gives value j
or_fault (Err fault) j = Breaks (Faulted fault) j

-- What the jobs of a drill ask, and that none of their Puts is lost.
use Rattle.std.specs.Prelude.{◌≡◌, ℕ, ◌<◌, ◌+◌, ◌%◌, List, length, codes, None}
use Rattle.std.specs.List.{AllByRecursion}
use Rattle.monitor_calls.specs.declared.calls.Entry.{Entry}
use Rattle.monitor_calls.specs.Pairs.{Pair, requests, replies}
use Rattle.monitor_calls.specs.Proper.{IsProperReply, Proper}
use Rattle.monitor_calls.specs.Typing.{all_typed}
use Rattle.monitor_model.specs.State as monitor
use Rattle.monitor_model.specs.Counters.{Counting, Counts}
use Rattle.monitor_model.specs.History.{Legal, part_of}
use Rattle.session_model.specs.Talk.{IsTalk}
use Rattle.drill_deck.specs.DrillDeck.{drill_account, drill_deck, drill_keys}
use Rattle.drill_deck.specs.Tallies.{counter, puts_in, sum_in}

-- THE JOBS COUNT

abbrev pub next_number : ℕ → ℕ
next_number n = (n + 1) % 65536

-- in the first block of COUNT.DAT, through channel 1, by the number in the first two bytes
abbrev pub drill_counting : Counting
drill_counting = record {
  name = record { owner = drill_account; stem = codes "COUNT"; extension = codes "DAT" };
  block = 1;
  channel = 1;
  number = counter;
  step = next_number;
}

abbrev pub AreProper : List Pair → Type 0
AreProper pairs = AllByRecursion (λ (pair : Pair). IsProperReply pair.1) pairs

-- whatever the replies are, the session of the drill's keys asks only what a job that counts may ask
abbrev pub TalkCounts : Type 0
TalkCounts = (pairs : List Pair) (screen : List ℕ)
    → AreProper pairs → IsTalk (all_typed drill_keys) (replies pairs) (requests pairs) screen
    → Counts drill_counting None pairs

-- NO PUT IS LOST

-- the state of the monitor that the drill's deck gives
abbrev pub drill_opening : ℕ → monitor.State
drill_opening jobs =
    let deck = drill_deck jobs in
    monitor.opening deck.accounts deck.blocks deck.files (length deck.terminals)

-- the pairs of a job are what the session of the drill's keys makes
abbrev pub HasCounted : List Entry → ℕ → Type 0
HasCounted history job =
    let pairs = part_of job history in
    (screen : List ℕ) × IsTalk (all_typed drill_keys) (replies pairs) (requests pairs) screen

-- In every history in which each job has the session of the drill's keys, in whatever order the
-- calls were answered: the number that the last Put wrote is how many Puts were done, in 16 bits.
abbrev pub NoPutIsLost : Type 0
NoPutIsLost = (jobs : ℕ) (history : List Entry)
    → Legal (drill_opening jobs) history → Proper history
    → ((job : ℕ) → job < jobs → HasCounted history job)
    → sum_in history ≡ puts_in history % 65536

-- In a run of the drill's deck each job has the session of the drill's keys, so no Put is lost.
use Rattle.std.proofs.Common.{◌≡◌, ℕ, zero, suc, ◌%◌, List, [], ◌∷◌, ◌++◌, Some, refl, subst, arith, get_or}
use Rattle.std.specs.Prelude.{slice_get}
use Rattle.std.specs.List.{AllByRecursion}
use Rattle.std.proofs.lemmas.Option.{slice_get-get_or}
use Rattle.monitor_calls.specs.declared.calls.Entry.{Entry}
use Rattle.monitor_calls.specs.Pairs.{requests, replies}
use Rattle.monitor_calls.specs.Typing.{all_typed}
use Rattle.monitor_model.specs.History.{part_of}
use Rattle.session_model.specs.Talk.{IsTalk}
use Rattle.deck_model.specs.Deck.{Terminal}
use Rattle.drill_deck.specs.DrillDeck.{drill_deck, drill_keys, drill_terminal, drill_terminals}
use Rattle.drill_deck.specs.Tallies.{puts_in, sum_in}
use Rattle.drill_talk.specs.Laws.{HasCounted, NoPutIsLost}
use Rattle.drill_talk.proofs.Counted.{as_many}
use Rattle.time_sharing.specs.Runs.{Talks, HasTalked, IsRun}

abbrev HasKeys : Terminal → Type 0
HasKeys terminal = terminal.keys ≡ drill_keys

one_more : (terminals : List Terminal) (number : ℕ) → AllByRecursion HasKeys terminals → AllByRecursion HasKeys (terminals ++ drill_terminal number ∷ [])
one_more [] number all = (refl, tt)
one_more (terminal ∷ terminals) number all = (all.0, one_more terminals number all.1)

all_keys : (jobs : ℕ) → AllByRecursion HasKeys (drill_terminals jobs)
all_keys zero = tt
all_keys (suc jobs) = one_more (drill_terminals jobs) (suc jobs) (all_keys jobs)

keys_at : (terminals : List Terminal) (j : ℕ) (terminal : Terminal) → AllByRecursion HasKeys terminals → slice_get terminals j ≡ Some terminal → HasKeys terminal
keys_at [] j terminal all at = absurd (cc)
keys_at (first ∷ terminals) zero terminal all at = let same : first ≡ terminal = cc in subst HasKeys same all.0
keys_at (first ∷ terminals) (suc j) terminal all at = keys_at terminals j terminal all.1 at

talk_of : (history : List Entry) (job : ℕ) (terminal : Terminal) (screen : List ℕ) → HasKeys terminal → HasTalked history job terminal screen → HasCounted history job
unfolding Talks
talk_of history job terminal screen keys talk =
    (screen, subst (λ (keys : List (List ℕ)). IsTalk (all_typed keys) (replies (part_of job history)) (requests (part_of job history)) screen) keys talk)

pub is_counted : NoPutIsLost → (jobs : ℕ) (history : List Entry) (screens : List (List ℕ)) → IsRun (drill_deck jobs) history screens → sum_in history ≡ puts_in history % 65536
is_counted law jobs history screens run =
    law jobs history run.legal run.proper (λ job low.
    let terminals = drill_terminals jobs in
    let blank : Terminal = drill_terminal 0 in
    let many = as_many jobs in
    let shown = run.talks.as_many in
    let terminal = slice_get-get_or terminals job blank (omega (arith, low, many)) in
    let screen = slice_get-get_or screens job [] (omega (arith, low, many, shown)) in
    talk_of history job (get_or terminals job blank) (get_or screens job []) (keys_at terminals job (get_or terminals job blank) (all_keys jobs) terminal)
    (run.talks.each job (get_or terminals job blank) (get_or screens job []) terminal screen))

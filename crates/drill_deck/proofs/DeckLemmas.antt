-- The drill's deck can be run.
use Rattle.std.proofs.Common.{◌≡◌, ◌≤◌, ℕ, [], ◌∷◌, true, refl}
use Rattle.monitor_calls.specs.Volumes.{is_good_volume}
use Rattle.deck_model.specs.Deck.{IsDeck}
use Rattle.drill_deck.specs.DrillDeck.{drill_deck, drill_entry, drill_file}
use Rattle.drill_deck.proofs.NameLemmas.{are_terminals}

good_volume : is_good_volume 8 (drill_entry ∷ []) (drill_file ∷ []) ≡ true
good_volume = refl

pub is_deck : (jobs : ℕ) → jobs ≤ 16 → IsDeck (drill_deck jobs)
is_deck jobs few = record { volume = good_volume; terminals = are_terminals jobs few }

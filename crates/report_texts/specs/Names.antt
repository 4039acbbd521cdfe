-- The names of terminals.
use Rattle.std.specs.Prelude.{ℕ, List, map}
use Rattle.deck_reader.specs.declared.decks.Terminal.{Terminal}

abbrev pub names_of : List Terminal → List (List ℕ)
names_of terminals = map (λ (terminal : Terminal). terminal.name) terminals

use Rattle.std.proofs.Common.{◌≡◌, map}
use Rattle.deck_reader.specs.Seen.{terminal_of}
use Rattle.drill_deck.specs.DrillDeck.{drill_terminals}
use Rattle.drill_deck.proofs.decks.terminals.Given as goal

abbrev pub invariant-loop-place : goal.invariant-loop-place
invariant-loop-place l = map terminal_of l.terminals.items ≡ drill_terminals l.place

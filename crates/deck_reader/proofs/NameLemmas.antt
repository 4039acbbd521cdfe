-- The names of terminals, as the code keeps them and as the definitions have them.
use Rattle.std.proofs.Common.{◌≡◌, ℕ, List, [], ◌∷◌, map, refl, ap}
use Rattle.std.specs.Prelude.{◌||◌, Bool, bytes_eq}
use Rattle.deck_model.specs.Deck.{has_terminal}
use Rattle.deck_reader.specs.declared.decks.Terminal.{Terminal}
use Rattle.deck_reader.specs.Seen.{terminal_of, is_named}

pub named_is : (terminals : List Terminal) (name : List ℕ) → is_named terminals name ≡ has_terminal (map terminal_of terminals) name
unfolding is_named
named_is [] name = refl
named_is (terminal ∷ terminals) name = ap (λ (b : Bool). bytes_eq terminal.name name || b) (named_is terminals name)

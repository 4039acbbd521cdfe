-- Laws over the definitions.
use Rattle.std.specs.Prelude.{◌≡◌, ◌+◌, ℕ, true, nat_lt, List}
use Rattle.deck_model.specs.declared.faults.DeckCause.{DeckCause}
use Rattle.deck_model.specs.declared.versions.Version.TheVariants.{One}
use Rattle.monitor_calls.specs.Volumes.{blocks_of}
use Rattle.deck_model.specs.Files.{File}
use Rattle.deck_model.specs.Deck.{Deck}
use Rattle.deck_model.specs.Spelling.{AreQuotas, Spelled}
use Rattle.deck_model.specs.Refusals.{passes_quota, Refused}

-- bytes spell at most one deck
abbrev pub OneDeck : Type 0
OneDeck =
    (bytes : List ℕ) (deck other : Deck) → Spelled bytes deck → Spelled bytes other → deck ≡ other

-- bytes are rejected at one line at most, and for one cause
abbrev pub OneRefusal : Type 0
OneRefusal =
    (bytes : List ℕ) (line other : ℕ) (why otherwise : DeckCause) → Refused bytes line why
    → Refused bytes other otherwise → (line ≡ other) × (why ≡ otherwise)

-- bytes that spell a deck are not rejected
abbrev pub NeverBoth : Type 0
NeverBoth =
    (bytes : List ℕ) (deck : Deck) (line : ℕ) (why : DeckCause) → Spelled bytes deck
    → Refused bytes line why → ⊥

-- if each quota is the whole disk, no file passes a quota that would fit on the disk
abbrev pub QuotasTellNothing : Type 0
QuotasTellNothing =
    (deck : Deck) (file : File) → AreQuotas One deck
    → passes_quota deck.accounts deck.files file ≡ true
    → nat_lt deck.blocks (blocks_of deck.files + file.blocks) ≡ true

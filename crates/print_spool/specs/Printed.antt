-- What is written of the print jobs of a history: how many there are, and each with its terminal.
use Rattle.std.specs.Prelude.{ℕ, ◌<◌, List, [], ◌∷◌, ◌++◌, length, codes, get_or}
use Rattle.std.specs.Fmt.{decimal}
use Rattle.monitor_calls.specs.declared.calls.Entry.{Entry}
use Rattle.monitor_model.specs.Listings.{listings}

-- each entry's job has a name
abbrev pub AreNamed : List (List ℕ) → List Entry → Type 0
AreNamed names [] = Unit {0}
AreNamed names (entry ∷ entries) = (entry.job < length names) × AreNamed names entries

-- the name of the terminal and how many bytes there are, the bytes, and a LF
abbrev pub listing_text : List ℕ → List ℕ → List ℕ
listing_text name text =
    (codes "LISTING " ++ name ++ codes " " ++ decimal (length text) ++ codes "\n")
    ++ (text ++ codes "\n")

-- the print jobs in order, each with its job and its bytes
abbrev pub listing_texts : List (List ℕ) → List (ℕ × List ℕ) → List ℕ
listing_texts names [] = []
listing_texts names (listing ∷ listings) =
    listing_text (get_or names listing.0 []) listing.1 ++ listing_texts names listings

-- how many print jobs there are, and then all of them
abbrev pub printed_text : List (List ℕ) → List Entry → List ℕ
printed_text names history =
    (codes "PRINTED " ++ decimal (length (listings history)) ++ codes "\n")
    ++ listing_texts names (listings history)

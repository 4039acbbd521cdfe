-- The result of reading lines that are taken one after the other.
use Rattle.std.proofs.Common.{◌≡◌, ℕ, ◌+◌, List, [], ◌∷◌, Ok, Err, refl, ap, ◌∙◌}
use Rattle.std.specs.Prelude.{Result, IfOk}
use Rattle.basic_values.specs.declared.failures.Trouble.{Trouble}
use Rattle.basic_values.specs.declared.failures.Trouble.TheVariants as trouble
use Rattle.deck_model.specs.declared.faults.DeckCause.{DeckCause}
use Rattle.deck_model.specs.declared.faults.DeckFault.{DeckFault}
use Rattle.deck_model.specs.Fronts as fronts
use Rattle.deck_model.specs.Lines.{whole_lines, cut_line}
use Rattle.deck_model.specs.Refusals.{Refused}
use Rattle.deck_model.specs.Spelling.{Spelled}
use Rattle.deck_model.specs.Reading.{behind_line, DeckVerdict, at_end, onwards, reading, verdict}
use Rattle.deck_model.proofs.ReadingLaws.{told_spelled, told_refused}
use Rattle.deck_reader.specs.declared.decks.Deck.{Deck}
use Rattle.deck_reader.specs.declared.failures.ReadError.{ReadError}
use Rattle.deck_reader.specs.declared.failures.ReadError.TheVariants as errors
use Rattle.deck_reader.specs.declared.fronts.Front.{Front}
use Rattle.deck_reader.specs.Seen.{deck_of, front_of, Decides, trouble_at, IfRefused, Tells}

-- the result after a front, of the lines of these bytes
abbrev pub told_behind : fronts.Front → ℕ → List ℕ → DeckVerdict
told_behind front number bytes = reading front number (whole_lines bytes) (cut_line bytes)

pub begins : (bytes : List ℕ) → verdict bytes ≡ told_behind fronts.Nothing 1 bytes
unfolding verdict
begins bytes = refl

abbrev IsFirst : List ℕ → List ℕ → List ℕ → Type 0
IsFirst bytes line after = (whole_lines bytes ≡ line ∷ whole_lines after) × (cut_line bytes ≡ cut_line after)

one_line : (front : fronts.Front) (number : ℕ) (bytes line after : List ℕ) → IsFirst bytes line after → told_behind front number bytes ≡ onwards (behind_line front line) number (λ next. told_behind next (number + 1) after)
unfolding reading
one_line front number bytes line after first = λ i. reading front number (first.0 i) (first.1 i)

pub goes_on : (front next : fronts.Front) (number : ℕ) (bytes line after : List ℕ) → IsFirst bytes line after → behind_line front line ≡ Ok next → told_behind front number bytes ≡ told_behind next (number + 1) after
goes_on front next number bytes line after first e =
    one_line front number bytes line after first ∙ ap (λ (r : Result fronts.Front DeckCause). onwards r number (λ next. told_behind next (number + 1) after)) e

pub stops : (front : fronts.Front) (error : ReadError) (number : ℕ) (bytes line after : List ℕ) (v : DeckVerdict) → IsFirst bytes line after → Decides {X = Front} front_of (Err error) (behind_line front line) → v ≡ told_behind front number bytes → Tells (Err (trouble_at error number)) v
stops front errors.Memory number bytes line after v first decides told = tt
stops front (errors.Refused why) number bytes line after v first decides told =
    told ∙ one_line front number bytes line after first ∙ ap (λ (r : Result fronts.Front DeckCause). onwards r number (λ next. told_behind next (number + 1) after)) decides

pub ends : (front : fronts.Front) (number : ℕ) (bytes : List ℕ) → (whole_lines bytes ≡ []) × (cut_line bytes ≡ bytes) → told_behind front number bytes ≡ at_end front number bytes
unfolding reading
ends front number bytes none = λ i. reading front number (none.0 i) (none.1 i)

pub found_so : (bytes : List ℕ) (r : Result Deck (Trouble DeckFault)) → Tells r (verdict bytes) → IfOk r (λ deck. Spelled bytes (deck_of deck))
found_so bytes (Ok deck) told = told_spelled bytes (deck_of deck) told
found_so bytes (Err e) told = tt

pub refused_so : (bytes : List ℕ) (r : Result Deck (Trouble DeckFault)) → Tells r (verdict bytes) → IfRefused r (λ fault. Refused bytes fault.line fault.cause)
refused_so bytes (Ok deck) told = tt
refused_so bytes (Err (trouble.Refused fault)) told = told_refused bytes fault.line fault.cause told
refused_so bytes (Err trouble.NoMemory) told = tt

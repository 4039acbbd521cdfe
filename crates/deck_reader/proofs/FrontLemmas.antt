-- What a line adds to a front, by what the code finds of it.
use Rattle.std.proofs.Common.{◌≡◌, ℕ, ◌<◌, ◌≤◌, true, false, cond, List, length, map, Some, Ok, Err, refl, sym, ◌∙◌, arith}
use Rattle.std.specs.Prelude.{Result, None, nat_le}
use Rattle.std.proofs.lemmas.Bool.{le-leb, lt-leb}
use Rattle.std.proofs.lemmas.List.{length-map}
use Rattle.monitor_calls.specs.Names.{is_terminal_name}
use Rattle.deck_model.specs.declared.faults.DeckCause.{DeckCause}
use Rattle.deck_model.specs.declared.faults.DeckCause.TheVariants as cause
use Rattle.deck_model.specs.declared.versions.Version.{Version}
use Rattle.deck_model.specs.Deck as model
use Rattle.deck_model.specs.Deck.{has_terminal}
use Rattle.deck_model.specs.Forms as forms
use Rattle.deck_model.specs.Forms.{Account, File, Keys, Block, AccountTexts, FileTexts}
use Rattle.deck_model.specs.Fronts.{Front, InAccounts, InFile, InTerminal, with_account, with_file, with_block, with_text, with_terminal, entry_of, new_file, new_terminal}
use Rattle.deck_model.specs.Refusals.{is_in_range, first_cause, account_causes, file_causes, content_causes, block_causes, terminal_causes}
use Rattle.deck_model.specs.Reading.{groups_in, contents_in, session_in, form_at, unless_refused, behind_form, behind_line}
use Rattle.basic_values.proofs.PlaceLemmas.{missed}
use Rattle.deck_reader.specs.declared.decks.Terminal.{Terminal}
use Rattle.deck_reader.specs.Seen.{terminal_of, is_named}
use Rattle.deck_reader.proofs.NameLemmas.{named_is}

no_room : (terminals : List model.Terminal) (name : List ℕ) (front : Front) → is_terminal_name name ≡ true → has_terminal terminals name ≡ false → 63 ≤ length terminals → unless_refused front (first_cause (terminal_causes terminals name)) ≡ Err cause.Space
no_room terminals name front good new full =
    let no : nat_le 63 (length terminals) ≡ true = le-leb 63 (length terminals) full in
    rw (good, new, no) refl

has_room : (terminals : List model.Terminal) (name : List ℕ) (front : Front) → is_terminal_name name ≡ true → has_terminal terminals name ≡ false → length terminals < 63 → unless_refused front (first_cause (terminal_causes terminals name)) ≡ Ok front
has_room terminals name front good new few =
    let yes : nat_le 63 (length terminals) ≡ false = lt-leb 63 (length terminals) few in
    rw (good, new, yes) refl

pub terminal_full : (terminals : List Terminal) (name : List ℕ) (front : Front) → is_terminal_name name ≡ true → is_named terminals name ≡ false → 63 ≤ length terminals → unless_refused front (first_cause (terminal_causes (map terminal_of terminals) name)) ≡ Err cause.Space
terminal_full terminals name front good new full =
    no_room (map terminal_of terminals) name front good (sym (named_is terminals name) ∙ new) (omega (arith, length-map terminals terminal_of))

pub terminal_added : (terminals : List Terminal) (name : List ℕ) (front : Front) → is_terminal_name name ≡ true → is_named terminals name ≡ false → length terminals < 63 → unless_refused front (first_cause (terminal_causes (map terminal_of terminals) name)) ≡ Ok front
terminal_added terminals name front good new few =
    has_room (map terminal_of terminals) name front good (sym (named_is terminals name) ∙ new) (omega (arith, length-map terminals terminal_of))

pub account_behind : (version : Version) (deck : model.Deck) (line : List ℕ) (texts : AccountTexts) → groups_in version line ≡ Some (Account texts) → behind_line (InAccounts version deck) line ≡ unless_refused (InAccounts version (with_account deck (entry_of deck.blocks texts))) (first_cause (account_causes deck texts))
unfolding behind_line behind_form form_at
account_behind version deck line texts e = rw e refl

-- the front after the line of a file
abbrev pub filed : Version → model.Deck → FileTexts → Result Front DeckCause
filed version deck texts = unless_refused (InFile version deck (new_file texts)) (first_cause (file_causes version deck texts))

pub file_behind : (version : Version) (deck : model.Deck) (line : List ℕ) (texts : FileTexts) → groups_in version line ≡ Some (File texts) → behind_line (InAccounts version deck) line ≡ filed version deck texts
unfolding behind_line behind_form form_at
file_behind version deck line texts e = rw e refl

pub next_file_behind : (version : Version) (deck : model.Deck) (file : model.File) (line : List ℕ) (texts : FileTexts) → contents_in version line ≡ Some (File texts) → behind_line (InFile version deck file) line ≡ filed version (with_file deck file) texts
unfolding behind_line behind_form form_at
next_file_behind version deck file line texts e = rw e refl

pub text_behind : (version : Version) (deck : model.Deck) (file : model.File) (line text : List ℕ) → contents_in version line ≡ Some (Keys text) → behind_line (InFile version deck file) line ≡ unless_refused (InFile version deck (with_text file text)) (first_cause (content_causes (with_text file text)))
unfolding behind_line behind_form form_at
text_behind version deck file line text e = rw e refl

pub block_behind : (version : Version) (deck : model.Deck) (file : model.File) (line bytes : List ℕ) → contents_in version line ≡ Some (Block bytes) → behind_line (InFile version deck file) line ≡ unless_refused (InFile version deck (with_block file bytes)) (first_cause (block_causes file bytes))
unfolding behind_line behind_form form_at
block_behind version deck file line bytes e = rw e refl

-- the front after the line of a terminal
abbrev pub named : Version → model.Deck → List ℕ → Result Front DeckCause
named version deck name = unless_refused (InTerminal version deck (new_terminal name)) (first_cause (terminal_causes deck.terminals name))

pub named_behind : (version : Version) (deck : model.Deck) (file : model.File) (line name : List ℕ) → contents_in version line ≡ Some (forms.Terminal name) → behind_line (InFile version deck file) line ≡ named version (with_file deck file) name
unfolding behind_line behind_form form_at
named_behind version deck file line name e = rw e refl

pub first_terminal_behind : (version : Version) (deck : model.Deck) (line name : List ℕ) → groups_in version line ≡ Some (forms.Terminal name) → behind_line (InAccounts version deck) line ≡ named version deck name
unfolding behind_line behind_form form_at
first_terminal_behind version deck line name e = rw e refl

pub next_terminal_behind : (version : Version) (deck : model.Deck) (terminal : model.Terminal) (line name : List ℕ) → session_in line ≡ Some (forms.Terminal name) → behind_line (InTerminal version deck terminal) line ≡ named version (with_terminal deck terminal) name
unfolding behind_line behind_form form_at
next_terminal_behind version deck terminal line name e = rw e refl

-- fields of an account that are out of their ranges
pub account_out : (deck : model.Deck) (texts : AccountTexts) (front : Front) → cond (is_in_range texts) (Some (entry_of deck.blocks texts)) None ≡ None → unless_refused front (first_cause (account_causes deck texts)) ≡ Err cause.Range
account_out deck texts front none =
    let entry = entry_of deck.blocks texts in
    let no : is_in_range texts ≡ false = (missed (is_in_range texts) entry entry none).0 in
    rw no refl

-- Names and codes of files in their ranges, by the version of the deck.
use Rattle.std.proofs.Common.{◌≡◌, ℕ, ◌≤◌, Bool, true, List, [], ◌∷◌, length, Option, Some, None, refl, arith}
use Rattle.std.specs.Prelude.{◌&&◌, nat_le, unwrap_or}
use Rattle.std.specs.List.{list_all}
use Rattle.std.specs.Char.{is_ascii_alphanumeric}
use Rattle.std.proofs.lemmas.Bool.{leb-true, le-leb}
use Rattle.std.proofs.lemmas.Bool.Decides.{nat_tests}
use Rattle.basic_values.proofs.CutLaws.{and_left, and_right, and_both}
use Rattle.monitor_calls.specs.declared.files.FileName.{FileName}
use Rattle.monitor_calls.specs.FileNames.{is_deck_name}
use Rattle.monitor_calls.specs.Names.{is_capital_or_digit, is_text_of, is_short_text}
use Rattle.monitor_calls.specs.Volumes.{is_good_name}
use Rattle.deck_model.specs.declared.versions.Version.{Version}
use Rattle.deck_model.specs.declared.versions.Version.TheVariants.{One, Two, Three}
use Rattle.deck_model.specs.Forms.{is_file_letter, is_file_word}
use Rattle.deck_model.specs.Spelling.{extension_of, IsNameIn}
use Rattle.deck_model.specs.Refusals.{is_stem, is_extension, most_extension, most_code}

pub weaker : (p q : ℕ → Bool) → ((n : ℕ) → p n ≡ true → q n ≡ true) → (xs : List ℕ) → list_all p xs ≡ true → list_all q xs ≡ true
weaker p q f [] e = refl
weaker p q f (x ∷ xs) e = and_both (q x) (list_all q xs) (f x (and_left (p x) (list_all p xs) e)) (weaker p q f xs (and_right (p x) (list_all p xs) e))

capital_is_letter : (byte : ℕ) → is_capital_or_digit byte ≡ true → is_ascii_alphanumeric byte ≡ true
capital_is_letter byte e = grind (arith, nat_tests)

-- the parts of a text's range
record HasRange (kind : ℕ → Bool) (least most : ℕ) (text : List ℕ) : Type 0 where
  at_least : least ≤ length text
  at_most : length text ≤ most
  all : list_all kind text ≡ true

range_of : (kind : ℕ → Bool) (least most : ℕ) (text : List ℕ) → is_text_of kind least most text ≡ true → HasRange kind least most text
range_of kind least most text e =
    let lengths = and_left (nat_le least (length text) && nat_le (length text) most) (list_all kind text) e in
    record {
      at_least = leb-true _ _ (and_left (nat_le least (length text)) (nat_le (length text) most) lengths);
      at_most = leb-true _ _ (and_right (nat_le least (length text)) (nat_le (length text) most) lengths);
      all = and_right (nat_le least (length text) && nat_le (length text) most) (list_all kind text) e;
    }

in_range : (kind : ℕ → Bool) (least most : ℕ) (text : List ℕ) → least ≤ length text → length text ≤ most → list_all kind text ≡ true → is_text_of kind least most text ≡ true
in_range kind least most text few many all =
    and_both (nat_le least (length text) && nat_le (length text) most) (list_all kind text)
    (and_both (nat_le least (length text)) (nat_le (length text) most) (le-leb _ _ few) (le-leb _ _ many)) all

-- capital letters are letters, and fewer are few
capitals_short : (least most : ℕ) (text : List ℕ) → most ≤ 6 → is_text_of is_capital_or_digit least most text ≡ true → is_short_text text ≡ true
capitals_short least most text few e =
    let r = range_of is_capital_or_digit least most text e in
    in_range is_ascii_alphanumeric 0 6 text (omega arith) (omega (arith, few, r.at_most)) (weaker is_capital_or_digit is_ascii_alphanumeric capital_is_letter text r.all)

-- ---- what a name in the range of a line is

stem_short : (version : Version) (stem : List ℕ) → is_stem version stem ≡ true → is_short_text stem ≡ true
stem_short One stem e = capitals_short 1 6 stem (omega arith) e
stem_short Two stem e = capitals_short 1 6 stem (omega arith) e
stem_short Three stem e = e

-- an extension that is there, or none
extension_range : (version : Version) (extension : Option (List ℕ)) → is_extension version extension ≡ true → is_text_of (is_file_letter version) 0 (most_extension version) (unwrap_or extension []) ≡ true
extension_range version None e = in_range (is_file_letter version) 0 (most_extension version) [] (omega arith) (omega arith) refl
extension_range version (Some text) e =
    let r = range_of (is_file_letter version) 1 (most_extension version) text e in
    in_range (is_file_letter version) 0 (most_extension version) text (omega arith) r.at_most r.all

range_short : (version : Version) (extension : List ℕ) → is_text_of (is_file_letter version) 0 (most_extension version) extension ≡ true → is_short_text extension ≡ true
range_short One extension e = capitals_short 0 3 extension (omega arith) e
range_short Two extension e = capitals_short 0 3 extension (omega arith) e
range_short Three extension e = e

pub name_good : (version : Version) (name : FileName) (extension : Option (List ℕ)) → is_stem version name.stem ≡ true → is_extension version extension ≡ true → unwrap_or extension [] ≡ name.extension → is_good_name name ≡ true
name_good version name extension stem there same =
    and_both (is_short_text name.stem) (is_short_text name.extension) (stem_short version name.stem stem) (rw (← same) (range_short version (unwrap_or extension []) (extension_range version extension there)))

pub code_good : (version : Version) (code : ℕ) → nat_le code (most_code version) ≡ true → nat_le code 255 ≡ true
code_good One code e = le-leb code 255 (omega (arith, leb-true code 63 e))
code_good Two code e = le-leb code 255 (omega (arith, leb-true code 63 e))
code_good Three code e = e

old_name : (name : FileName) (code : ℕ) (extension : Option (List ℕ)) → is_text_of is_capital_or_digit 1 6 name.stem ≡ true → is_text_of is_capital_or_digit 0 3 (unwrap_or extension []) ≡ true → unwrap_or extension [] ≡ name.extension → nat_le code 63 ≡ true → (is_deck_name name && nat_le code 63) ≡ true
old_name name code extension stem range same small =
    and_both (is_deck_name name) (nat_le code 63) (and_both (is_text_of is_capital_or_digit 1 6 name.stem) (is_text_of is_capital_or_digit 0 3 name.extension) stem (rw (← same) range)) small

pub name_in : (version : Version) (name : FileName) (code : ℕ) (extension : Option (List ℕ)) → is_stem version name.stem ≡ true → is_extension version extension ≡ true → unwrap_or extension [] ≡ name.extension → nat_le code (most_code version) ≡ true → IsNameIn version name code
name_in One name code extension stem there same small = old_name name code extension stem (extension_range One extension there) same small
name_in Two name code extension stem there same small = old_name name code extension stem (extension_range Two extension there) same small
name_in Three name code extension stem there same small = tt

-- ---- what a name that the version can give is on its line

-- its stem, its extension and its code are in the ranges of a line
pub record InLineRange (version : Version) (name : FileName) (number : ℕ) : Type 0 where
  pub stem : is_stem version name.stem ≡ true
  pub stem_word : is_file_word version name.stem ≡ true
  pub extension : is_extension version (extension_of name.extension) ≡ true
  pub extension_word : is_file_word version name.extension ≡ true
  pub code : nat_le number (most_code version) ≡ true

extension_there : (version : Version) (text : List ℕ) → is_text_of (is_file_letter version) 0 (most_extension version) text ≡ true → is_extension version (extension_of text) ≡ true
extension_there version [] e = refl
extension_there version (b ∷ bs) e =
    let r = range_of (is_file_letter version) 0 (most_extension version) (b ∷ bs) e in
    in_range (is_file_letter version) 1 (most_extension version) (b ∷ bs) (omega arith) r.at_most r.all

old_range : (name : FileName) (code : ℕ) → (is_deck_name name && nat_le code 63) ≡ true → (is_text_of is_capital_or_digit 1 6 name.stem ≡ true) × ((is_text_of is_capital_or_digit 0 3 name.extension ≡ true) × (nat_le code 63 ≡ true))
old_range name code e =
    let named = and_left (is_deck_name name) (nat_le code 63) e in (
      and_left (is_text_of is_capital_or_digit 1 6 name.stem) (is_text_of is_capital_or_digit 0 3 name.extension) named,
      (
        and_right (is_text_of is_capital_or_digit 1 6 name.stem) (is_text_of is_capital_or_digit 0 3 name.extension) named,
        and_right (is_deck_name name) (nat_le code 63) e,
      ),
    )

line_range : (version : Version) (name : FileName) (code least : ℕ) → is_text_of (is_file_letter version) least 6 name.stem ≡ true → is_stem version name.stem ≡ true → is_text_of (is_file_letter version) 0 (most_extension version) name.extension ≡ true → nat_le code (most_code version) ≡ true → InLineRange version name code
line_range version name code least word stem extension small = record {
  stem = stem;
  stem_word = (range_of (is_file_letter version) least 6 name.stem word).all;
  extension = extension_there version name.extension extension;
  extension_word = (range_of (is_file_letter version) 0 (most_extension version) name.extension extension).all;
  code = small;
}

pub in_line_range : (version : Version) (name : FileName) (code : ℕ) → is_good_name name ≡ true → nat_le code 255 ≡ true → IsNameIn version name code → InLineRange version name code
in_line_range One name code good small is =
    let old = old_range name code is in
    line_range One name code 1 old.0 old.0 old.1.0 old.1.1
in_line_range Two name code good small is =
    let old = old_range name code is in
    line_range Two name code 1 old.0 old.0 old.1.0 old.1.1
in_line_range Three name code good small is =
    let stem = and_left (is_short_text name.stem) (is_short_text name.extension) good in
    line_range Three name code 0 stem stem (and_right (is_short_text name.stem) (is_short_text name.extension) good) small

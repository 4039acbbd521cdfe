-- Which texts name a file, and which file each names: the manual's file specification.
use Rattle.std.specs.Prelude.{◌≡◌, ℕ, ◌≤◌, true, Bool, not, ◌&&◌, ◌==◌, nat_lt, if◌then◌else◌, List, [], ◌++◌, map, filter, slice_get, Option, Some, None, is_some, unwrap_or, codes}
use Rattle.std.specs.Fmt.{decimal}
use Rattle.std.specs.List.{prefix_len}
use Rattle.std.specs.Char.{is_ascii_alphanumeric, to_ascii_uppercase}
use Rattle.basic_values.specs.declared.errors.TheConstants.{ILLEGAL_FILE_NAME, NO_DEVICE}
use Rattle.basic_values.specs.Blanks.{is_blank}
use Rattle.basic_values.specs.declared.limits.TheConstants.{MOST_CODE}
use Rattle.monitor_calls.specs.declared.names.Account.{Account}
use Rattle.monitor_calls.specs.Names.{is_text_of, is_capital_or_digit, is_password}
use Rattle.monitor_calls.specs.NameTexts.{account_text}
use Rattle.basic_values.specs.Cuts.{behind}
use Rattle.file_names.specs.declared.spec.Spec.{Spec}

-- WHAT IS READ: no blanks, and letters as capitals

abbrev pub solid : List ℕ → List ℕ
solid text = filter (λ byte. not (is_blank byte)) text

abbrev pub squeezed : List ℕ → List ℕ
squeezed text = map to_ascii_uppercase (solid text)

-- THE PARTS OF A SPECIFICATION

-- the owner: none is named, the library by a dollar sign, or an account in brackets
pub data OwnerPlace : Type 0 where
  Untold : OwnerPlace
  Library : OwnerPlace
  Bracketed : Account → OwnerPlace

pub record Written : Type 0 where
  pub device : Bool
  pub place : OwnerPlace
  pub stem : List ℕ
  pub extension : Option (List ℕ)
  pub code : Option ℕ

abbrev pub device_text : Bool → List ℕ
device_text device = if device then codes "SY:" else []

abbrev pub place_text : OwnerPlace → List ℕ
place_text Untold = []
place_text Library = codes "$"
place_text (Bracketed account) = account_text account

abbrev pub extension_written : Option (List ℕ) → List ℕ
extension_written None = []
extension_written (Some extension) = codes "." ++ extension

abbrev pub code_written : Option ℕ → List ℕ
code_written None = []
code_written (Some code) = codes "<" ++ decimal code ++ codes ">"

abbrev pub written_text : Written → List ℕ
written_text w =
    device_text w.device ++ place_text w.place ++ w.stem ++ extension_written w.extension
    ++ code_written w.code

-- projects count from 1, and no number of an account is above 254
abbrev pub IsPlace : OwnerPlace → Type 0
IsPlace Untold = Unit {0}
IsPlace Library = Unit {0}
IsPlace (Bracketed account) =
    (1 ≤ account.project) × (account.project ≤ 254) × (account.programmer ≤ 254)

-- 0 to 3 letters and digits
abbrev pub is_extension : List ℕ → Bool
is_extension text = is_text_of is_capital_or_digit 0 3 text

abbrev pub IsExtension : Option (List ℕ) → Type 0
IsExtension None = Unit {0}
IsExtension (Some extension) = is_extension extension ≡ true

abbrev pub IsCode : Option ℕ → Type 0
IsCode None = Unit {0}
IsCode (Some code) = code ≤ MOST_CODE

-- the stem has 1 to 6 letters and digits
pub record IsWritten (w : Written) : Type 0 where
  pub place : IsPlace w.place
  pub stem : is_password w.stem ≡ true
  pub extension : IsExtension w.extension
  pub code : IsCode w.code

-- WHAT IT MEANS: without an owner it is the caller's account, and without an extension the default

abbrev pub library : Account
library = record { project = 1; programmer = 2 }

abbrev pub owner_of : Account → OwnerPlace → Account
owner_of own Untold = own
owner_of own Library = library
owner_of own (Bracketed account) = account

abbrev pub spec_of : Account → List ℕ → Written → Spec
spec_of own default w = record {
  name = record {
    owner = owner_of own w.place;
    stem = w.stem;
    extension = unwrap_or w.extension default;
  };
  code = w.code;
}

-- the text spells the specification, after blanks are dropped and letters become capitals
pub record IsSpecOf (own : Account) (default text : List ℕ) (spec : Spec) : Type 0 where
  pub written : Written
  pub proper : IsWritten written
  pub says : written_text written ≡ squeezed text
  pub means : spec_of own default written ≡ spec

-- THE ERROR OF A TEXT THAT IS NO SPECIFICATION

-- it begins with the name of a device, letters or digits and a colon, which is not the system's own
abbrev pub letters_in : List ℕ → ℕ
letters_in text = prefix_len is_ascii_alphanumeric (solid text)

abbrev pub has_device : List ℕ → Bool
has_device text =
    nat_lt 0 (letters_in text) && unwrap_or (slice_get (solid text) (letters_in text)) 0 == 58

abbrev pub names_device : List ℕ → Bool
names_device text = has_device text && not (is_some (behind (codes "SY:") (squeezed text)))

-- 8, the manual's "Device not available", or 2, "Illegal file name"
abbrev pub refusal_of : List ℕ → ℕ
refusal_of text = if names_device text then NO_DEVICE else ILLEGAL_FILE_NAME

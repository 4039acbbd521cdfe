-- Reading a specification from the start of a text: what the functions of `spec` compute. The
-- result is the specification that the text spells (`laws::specs_are_read`).
use Rattle.std.specs.Prelude.{ℕ, ◌==◌, if◌then◌else◌, List, length, Option, Some, None, unwrap_or, Result, Ok, Err, codes}
use Rattle.basic_values.specs.declared.limits.TheConstants.{MOST_CODE}
use Rattle.basic_values.specs.Decimals.{number_between}
use Rattle.monitor_calls.specs.declared.names.Account.{Account}
use Rattle.monitor_calls.specs.Names.{is_password}
use Rattle.basic_values.specs.Cuts.{◌>>=◌, behind, cut}
use Rattle.file_names.specs.declared.spec.Spec.{Spec}
use Rattle.file_names.specs.Names.{library, is_extension, squeezed, refusal_of}

-- after the system's own device, if that is named
abbrev pub without_device : List ℕ → List ℕ
without_device text = unwrap_or (behind (codes "SY:") text) text

-- the account in brackets, whose first bracket was read, and what follows them
unfoldable pub bracketed_in : List ℕ → Option (Account × List ℕ)
bracketed_in text = do
  parts ← cut 93 text
  numbers ← cut 44 parts.0
  project ← number_between 1 254 numbers.0
  programmer ← number_between 0 254 numbers.1
  Some (record { project = project; programmer = programmer }, parts.1)

abbrev pub owner_behind
    : Account → List ℕ → Option (List ℕ) → Option (List ℕ) → Option (Account × List ℕ)
owner_behind own text (Some rest) bracket = Some (library, rest)
owner_behind own text None (Some inside) = bracketed_in inside
owner_behind own text None None = Some (own, text)

-- the owner, and what follows it
abbrev pub owner_in : Account → List ℕ → Option (Account × List ℕ)
owner_in own text = owner_behind own text (behind (codes "$") text) (behind (codes "[") text)

unfoldable pub closed_code : List ℕ → Option ℕ
closed_code text = do
  parts ← cut 62 text
  code ← number_between 0 MOST_CODE parts.0
  if length parts.1 == 0 then Some code else None

-- what is before the code, and the code
abbrev pub code_behind : List ℕ → Option (List ℕ × List ℕ) → Option (List ℕ × Option ℕ)
code_behind text None = Some (text, None)
code_behind text (Some parts) = do
  code ← closed_code parts.1
  Some (parts.0, Some code)

abbrev pub code_in : List ℕ → Option (List ℕ × Option ℕ)
code_in text = code_behind text (cut 60 text)

-- the stem, and the extension
abbrev pub stem_before : List ℕ → Option (List ℕ × List ℕ) → List ℕ
stem_before text None = text
stem_before text (Some parts) = parts.0

abbrev pub stem_in : List ℕ → List ℕ
stem_in text = stem_before text (cut 46 text)

abbrev pub extension_behind : List ℕ → Option (List ℕ × List ℕ) → Option (List ℕ)
extension_behind default None = Some default
extension_behind default (Some parts) = if is_extension parts.1 then Some parts.1 else None

abbrev pub extension_in : List ℕ → List ℕ → Option (List ℕ)
extension_in default text = extension_behind default (cut 46 text)

unfoldable pub spec_in : Account → List ℕ → List ℕ → Option Spec
spec_in own default text = do
  owned ← owner_in own (without_device text)
  coded ← code_in owned.1
  extension ← extension_in default coded.0
  if is_password (stem_in coded.0)
      then Some (record {
        name = record { owner = owned.0; stem = stem_in coded.0; extension = extension };
        code = coded.1;
      })
      else None

abbrev pub spec_or : ℕ → Option Spec → Result Spec ℕ
spec_or refusal None = Err refusal
spec_or refusal (Some spec) = Ok spec

-- the specification that a text is, or the error that rejects it
abbrev pub spec_said : Account → List ℕ → List ℕ → Result Spec ℕ
spec_said own default text = spec_or (refusal_of text) (spec_in own default (squeezed text))

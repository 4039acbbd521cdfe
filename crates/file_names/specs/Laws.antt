-- The laws of all specifications.
use Rattle.std.specs.Prelude.{◌≡◌, ℕ, true, ◌≤◌, List, [], None, Ok, Err}
use Rattle.monitor_calls.specs.declared.names.Account.{Account}
use Rattle.monitor_calls.specs.declared.files.FileName.{FileName}
use Rattle.monitor_calls.specs.Names.{is_password}
use Rattle.monitor_calls.specs.NameTexts.{name_text}
use Rattle.file_names.specs.declared.spec.Spec.{Spec}
use Rattle.file_names.specs.Names.{IsSpecOf, is_extension, refusal_of}
use Rattle.file_names.specs.SpecFronts.{spec_said}

-- a text is at most one specification
abbrev pub SpecIsOne : Type 0
SpecIsOne = (own : Account) (default text : List ℕ) (a b : Spec)
    → IsSpecOf own default text a → IsSpecOf own default text b → a ≡ b

-- a name that a specification can have
pub record IsSpecName (name : FileName) : Type 0 where
  pub least : 1 ≤ name.owner.project
  pub project : name.owner.project ≤ 254
  pub programmer : name.owner.programmer ≤ 254
  pub stem : is_password name.stem ≡ true
  pub extension : is_extension name.extension ≡ true

-- the text printed for it is that name, whatever the default extension is
abbrev pub PrintedIsRead : Type 0
PrintedIsRead = (own : Account) (default : List ℕ) (name : FileName) → IsSpecName name
    → (name.extension ≡ [] → default ≡ [])
    → IsSpecOf own default (name_text name) (record { name = name; code = None })

-- the specification that is read is the one that the text spells; a text that spells none is
-- rejected
pub record AreRead (own : Account) (default text : List ℕ) : Type 0 where
  pub read : (spec : Spec) → IsSpecOf own default text spec → spec_said own default text ≡ Ok spec
  pub spelled : (spec : Spec) → spec_said own default text ≡ Ok spec → IsSpecOf own default text spec
  pub refused : ((spec : Spec) → IsSpecOf own default text spec → ⊥)
      → spec_said own default text ≡ Err (refusal_of text)

abbrev pub SpecsAreRead : Type 0
SpecsAreRead = (own : Account) (default text : List ℕ) → AreRead own default text

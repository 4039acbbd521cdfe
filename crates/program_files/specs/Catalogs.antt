-- The catalog of an account: a line for each of its files.
use Rattle.std.specs.Prelude.{ℕ, zero, suc, ◌-◌, Bool, true, false, if◌then◌else◌, List, ◌++◌, length, replicate, Option, Some, None, codes}
use Rattle.std.specs.Fmt.{decimal}
use Rattle.monitor_calls.specs.declared.names.Account.{Account}
use Rattle.monitor_calls.specs.declared.files.FileName.{FileName}
use Rattle.monitor_calls.specs.declared.calls.Request.TheVariants.{Directory}
use Rattle.monitor_calls.specs.declared.calls.Reply.{Reply}
use Rattle.monitor_calls.specs.declared.calls.Reply.TheVariants.{Name, Failed}
use Rattle.basic_values.specs.Texts.{space}
use Rattle.job_model.specs.Act.{Act, Gives, Breaks, Gone, ◌then◌}
use Rattle.job_model.specs.Asking.{ask}

-- A LINE: the stem in 6 columns, a point, the extension in 3, the blocks in 6 right-aligned, the
-- code

abbrev pub at_left : ℕ → List ℕ → List ℕ
at_left width text = text ++ replicate (width - length text) space

abbrev pub at_right : ℕ → List ℕ → List ℕ
at_right width text = replicate (width - length text) space ++ text

-- a dash if they are not known
abbrev pub blocks_text : Option ℕ → List ℕ
blocks_text None = codes "-"
blocks_text (Some blocks) = decimal blocks

abbrev pub file_line : FileName → ℕ → Option ℕ → List ℕ
file_line name code blocks =
    at_left 6 name.stem ++ codes "." ++ at_left 3 name.extension ++ at_right 6 (blocks_text blocks)
    ++ codes "  <" ++ decimal code ++ codes ">\r\n"

-- THE LINES ONE AFTER ANOTHER, on a screen

abbrev pub ScreenAct : Type 0 → Type 0
ScreenAct A = Act ⊥ (List ℕ) A

-- whether there was a file; its line is written
abbrev pub shown_by : Reply → List ℕ → ScreenAct Bool
shown_by (Name name code blocks) screen = Gives true (screen ++ file_line name code blocks)
shown_by (Failed number) screen = Gives false screen
shown_by reply screen = Breaks Gone screen

abbrev pub shows_file : Account → ℕ → List ℕ → ScreenAct Bool
shows_file owner index screen = ask (Directory owner index) screen then shown_by

-- from this index on, up to the first at which there is no file, and at most this many
unfoldable pub catalog_from : Account → ℕ → ℕ → List ℕ → ScreenAct Unit
catalog_from owner index zero screen = Gives tt screen
catalog_from owner index (suc more) screen =
    shows_file owner index screen then λ was_one screen.
    if was_one then catalog_from owner (suc index) more screen else Gives tt screen

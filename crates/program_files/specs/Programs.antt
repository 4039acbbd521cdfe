-- How the pages of a file are read and written: all of them, in order.
use Rattle.std.specs.Prelude.{ℕ, zero, suc, List, [], ◌∷◌, Option}
use Rattle.monitor_calls.specs.declared.files.FileName.{FileName}
use Rattle.monitor_calls.specs.declared.files.OpenKind.{OpenKind}
use Rattle.monitor_calls.specs.declared.files.OpenKind.TheVariants.{Input}
use Rattle.job_model.specs.Act.{Gives, ◌then◌}
use Rattle.program_files.specs.declared.channels.Opened.TheVariants.{Channel}
use Rattle.program_files.specs.Channels.{FileAct, opens, gets, puts, closed_behind}

-- this many blocks, from this one on; the first error ends it
abbrev pub gets_from : ℕ → ℕ → FileAct (List (List ℕ))
gets_from block zero = Gives [] tt
gets_from block (suc more) =
    gets block then λ page _. gets_from (suc block) more then λ pages _. Gives (page ∷ pages) tt

-- these pages, from this block on; the first error ends it
abbrev pub puts_from : ℕ → List (List ℕ) → FileAct Unit
puts_from block [] = Gives tt tt
puts_from block (page ∷ pages) = puts block page then λ _ _. puts_from (suc block) pages

-- the pages of an existing file
abbrev pub reads_pages : FileName → Option ℕ → FileAct (List (List ℕ))
reads_pages name code =
    opens name Input code then λ blocks _. closed_behind Channel (gets_from 1 blocks)

-- the pages of a new file
abbrev pub writes_pages : FileName → OpenKind → Option ℕ → List (List ℕ) → FileAct Unit
writes_pages name kind code pages =
    opens name kind code then λ _ _. closed_behind Channel (puts_from 1 pages)

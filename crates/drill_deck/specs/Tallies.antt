-- The tally of a drill: how many Puts were done, and the number that the last of them wrote.
use Rattle.std.specs.Prelude.{ℕ, ◌+◌, ◌*◌, List, [], ◌∷◌, ◌++◌, Option, Some, None, length, slice_index, codes}
use Rattle.std.specs.Fmt.{decimal}
use Rattle.monitor_calls.specs.declared.calls.Entry.{Entry}
use Rattle.monitor_calls.specs.declared.calls.Request.{Request}
use Rattle.monitor_calls.specs.declared.calls.Request.TheVariants.{Put}
use Rattle.monitor_calls.specs.declared.calls.Reply.{Reply}
use Rattle.monitor_calls.specs.declared.calls.Reply.TheVariants.{Done}

-- the page of a Put that was done
abbrev pub page_by : Request → Reply → Option (List ℕ)
page_by (Put channel block page) Done = Some page
page_by request reply = None

abbrev pub page_put : Entry → Option (List ℕ)
page_put entry = page_by entry.request entry.reply

abbrev pub with_put : Option (List ℕ) → List (List ℕ) → List (List ℕ)
with_put None pages = pages
with_put (Some page) pages = page ∷ pages

-- the pages of all Puts that were done, in their order
abbrev pub pages_put : List Entry → List (List ℕ)
pages_put [] = []
pages_put (entry ∷ history) = with_put (page_put entry) (pages_put history)

-- the number in the first two bytes, high byte first
abbrev pub counter : List ℕ → ℕ
counter page = 256 * slice_index page 0 + slice_index page 1

-- that of the last page; if there is none, this one
abbrev pub last_counter : ℕ → List (List ℕ) → ℕ
last_counter none [] = none
last_counter none (page ∷ pages) = last_counter (counter page) pages

abbrev pub puts_in : List Entry → ℕ
puts_in history = length (pages_put history)

abbrev pub sum_in : List Entry → ℕ
sum_in history = last_counter 0 (pages_put history)

-- DRILL, the jobs, the Puts that were done, and the number
abbrev pub drill_line : ℕ → ℕ → ℕ → List ℕ
drill_line jobs puts sum =
    codes "DRILL " ++ decimal jobs ++ codes " JOBS " ++ decimal puts ++ codes " PUTS "
    ++ decimal sum ++ codes " SUM\n"

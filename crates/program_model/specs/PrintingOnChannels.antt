-- PRINT and PRINT USING write to a channel. Channel 0 is the terminal, and is meant if none is
-- named.
use Rattle.std.specs.Prelude.{ℕ, Bool, if◌then◌else◌, List, [], ◌∷◌, map, Option, Some, None, Result, ℤ, is_some}
use Rattle.basic_tree.specs.declared.parts.Separator.{Separator}
use Rattle.basic_tree.specs.declared.parts.Separator.TheVariants.{Comma, Semicolon}
use Rattle.basic_tree.specs.Trees.{Tree, Literal, PrintedTree, Value, Tab, PrintItemTree, PrintChannelTree, UsingItemTree}
use Rattle.channels.specs.TextOut.{writes_text}
use Rattle.job_model.specs.Act.{Gives, ◌then◌, on}
use Rattle.job_model.specs.Texts.{line_end}
use Rattle.print_using.specs.Values.{PrintedValue, PrintedNumber, PrintedText}
use Rattle.print_using.specs.Using.{using_bytes, with_line_end}
use Rattle.terminal_line.specs.Columns.{zone_text, tab_text}
use Rattle.program_model.specs.Job.{Number, Text, number, text, Job, Deed, or_fault}
use Rattle.program_model.specs.Job as job
use Rattle.program_model.specs.Expressions.{Around, value_of, values_of}
use Rattle.program_model.specs.FileStatements.{in_order}
use Rattle.program_model.specs.OnChannels.{is_terminal, column_on, column_count}
use Rattle.program_model.specs.Parts.{given}
use Rattle.program_model.specs.Printing.{written, value_bytes}
use Rattle.program_model.specs.Storage.{StorageAct, in_files, stores_by}

-- ONE WRITING

abbrev pub text_act : ℤ → List ℕ → StorageAct Unit
text_act channel bytes s = on in_files (writes_text channel bytes) s

abbrev pub writes_on : {R : Type 0} → ℤ → List ℕ → Job R → Deed R (Unit {0})
writes_on channel bytes j =
    if is_terminal channel then Gives tt (written bytes j) else stores_by (text_act channel bytes) j

-- what moves to a column, and to a zone
abbrev pub tab_on : {R : Type 0} → ℤ → ℤ → Job R → Deed R (List ℕ)
tab_on channel wanted j = or_fault (column_on channel j) j then λ column j. Gives (tab_text wanted (column_count column)) j

abbrev pub zone_on : {R : Type 0} → ℤ → Job R → Deed R (List ℕ)
zone_on channel j = or_fault (column_on channel j) j then λ column j. Gives (zone_text (column_count column)) j

-- the channel is tested before the first item
abbrev pub output_tested : {R : Type 0} → ℤ → Job R → Deed R (Unit {0})
output_tested channel j = or_fault (column_on channel j) j then λ _ j. Gives tt j

-- PRINT

-- Without a channel, PRINT writes to the terminal.
abbrev pub printed_to : Option PrintChannelTree → Tree
printed_to None = Literal 0
printed_to (Some channel) = channel.number

abbrev pub print_one_on : {R : Type 0} → Around R → ℤ → PrintedTree → Job R → Deed R (Unit {0})
print_one_on around channel (Value e) j = value_of around e j then λ v j. writes_on channel (value_bytes v) j
print_one_on around channel (Tab e) j =
    value_of around e j then λ v j. tab_on channel (number v) j then λ spaces j. writes_on channel spaces j

abbrev pub separated_on : {R : Type 0} → ℤ → Separator → Job R → Deed R (Unit {0})
separated_on channel Comma j = zone_on channel j then λ spaces j. writes_on channel spaces j
separated_on channel Semicolon j = Gives tt j

-- each item is evaluated and written before the next
abbrev pub print_items_on : {R : Type 0} → Around R → ℤ → List PrintItemTree → Job R → Deed R (Unit {0})
print_items_on around channel [] j = Gives tt j
print_items_on around channel (item ∷ items) j =
    print_one_on around channel item.printed j
    then λ _ j. separated_on channel item.separator j
    then λ _ j. print_items_on around channel items j

-- the line is ended, unless a separator is at its end
abbrev pub print_end_on : {R : Type 0} → Around R → ℤ → List PrintItemTree → Option PrintedTree → Job R → Deed R (Unit {0})
print_end_on around channel items (Some last) j =
    print_one_on around channel last j then λ _ j. writes_on channel line_end j
print_end_on around channel [] None j = writes_on channel line_end j
print_end_on around channel (item ∷ items) None j = Gives tt j

abbrev pub print_all_on : {R : Type 0} → Around R → Tree → List PrintItemTree → Option PrintedTree → Job R → Deed R (Unit {0})
print_all_on around channel items last j =
    value_of around channel j
    then λ v j. output_tested (number v) j
    then λ _ j. print_items_on around (number v) items j
    then λ _ j. print_end_on around (number v) items last j

-- PRINT USING

-- without a channel it is the terminal's
abbrev pub or_terminal : Option Tree → Tree
or_terminal None = Literal 0
or_terminal (Some channel) = channel

abbrev pub used_value : job.Value → PrintedValue
used_value (Number n) = PrintedNumber n
used_value (Text t) = PrintedText t

-- the values in the order of the source
abbrev pub used_values : List UsingItemTree → Option Tree → List Tree
used_values [] last = given last
used_values (item ∷ items) last = item.value ∷ used_values items last

-- what is written; the line is ended, unless a separator is at its end
abbrev pub used_bytes : Bool → List ℕ → List job.Value → Result (List ℕ) ℕ
used_bytes ends_line format vs =
    if ends_line then with_line_end (using_bytes format (map used_value vs)) else using_bytes format (map used_value vs)

abbrev pub writes_used : {R : Type 0} → Bool → ℤ → List ℕ → List job.Value → Job R → Deed R (Unit {0})
writes_used ends_line channel format vs j =
    or_fault (used_bytes ends_line format vs) j then λ bytes j. writes_on channel bytes j

-- the channel is tested first; all is evaluated before anything is written, and it is one writing
abbrev pub print_using_on : {R : Type 0} → Around R → Option Tree → Tree → List UsingItemTree → Option Tree → Job R → Deed R (Unit {0})
print_using_on around channel format items last j =
    value_of around (or_terminal channel) j
    then λ v j. output_tested (number v) j
    then λ _ j. value_of around format j
    then λ f j. values_of around (in_order (used_values items last)) j
    then λ vs j. writes_used (is_some last) (number v) (text f) vs j

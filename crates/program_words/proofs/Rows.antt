-- The table entries at the end of the walk, with the defaults of the flags, and what is read of
-- them.
use Rattle.std.proofs.Common.{◌≡◌, Bool, true, false, List, [], ◌∷◌, ◌++◌, Option, Some, None, refl, sym, ap, ◌∙◌, append-nil}
use Rattle.std.specs.Prelude.{codes, bytes_eq, fold, slice_get, option_and_then, option_map, if◌then◌else◌}
use Rattle.clap.specs.Words.{Row, Text, first_of, one_of}
use Rattle.clap.specs.Simple.{filled, with_index}
use Rattle.clap.specs.Walk.{finished, has_row, more_values, reading_by, row_text, with_default, with_values}
use Rattle.clap.specs.declared.parser.matches.ValueSource.TheVariants.{DefaultValue}
use Rattle.clap.proofs.OnLiterals.{clap_on_literals}
use Rattle.program_words.specs.declared.words.Wanted.{Wanted}
use Rattle.program_words.specs.CommandLine.{action_rule, count_rule}
use Rattle.program_words.specs.Words.{Said, said_with}
use Rattle.program_words.proofs.Uses.{shape, row_of_id, other_row, own_row, Mark, History, Printer, Use, mark_rule, mark_id, rows_for, Place, First, Second, Full, place_at, plain_at, has_mark, marked, AreValid, FoundWords, words_as, found_at, marks_found, has_none, has_some, none_there, at_missing}
use Rattle.program_words.proofs.Walks.{held, held_at, settled_is}

-- DEFAULTS: false, of a flag that was not given

abbrev flag_default : Mark → List Row → List Row
flag_default mark rows = with_default rows (filled (mark_rule mark))

abbrev default_row : Mark → Row
default_row mark = record { id = mark_id mark; values = codes "false" ∷ []; count = None; source = Some DefaultValue; reading = reading_by (filled (mark_rule mark)) }

abbrev defaulted : Mark → Bool → List Row → List Row
defaulted mark has rows = if has then rows else with_values (mark_id mark) (reading_by (filled (mark_rule mark))) DefaultValue (codes "false" ∷ []) rows

defaulted_is : (mark : Mark) (rows : List Row) → flag_default mark rows ≡ defaulted mark (has_row (mark_id mark) rows) rows
defaulted_is History rows = refl
defaulted_is Printer rows = refl

added : (mark : Mark) (rows : List Row) → row_of_id (mark_id mark) rows ≡ None → defaulted mark false rows ≡ rows ++ default_row mark ∷ []
added mark rows none = at_missing (mark_id mark) (more_values DefaultValue (codes "false" ∷ [])) (default_row mark ∷ []) rows none

-- another argument's entry stays the same
other_default : (mark : Mark) (id : Text) (rows : List Row) → bytes_eq (mark_id mark) id ≡ false → row_of_id id (flag_default mark rows) ≡ row_of_id id rows
other_default mark id rows ne = ap (row_of_id id) (defaulted_is mark rows) ∙ go (has_row (mark_id mark) rows) refl
  where
    go : (has : Bool) → has_row (mark_id mark) rows ≡ has → row_of_id id (defaulted mark has rows) ≡ row_of_id id rows
    go true e = refl
    go false e = ap (row_of_id id) (added mark rows (none_there (mark_id mark) rows e)) ∙ other_row id rows (default_row mark) ne

abbrev pub truth_text : Bool → Text
truth_text true = codes "true"
truth_text false = codes "false"

own_default : (mark : Mark) (rows : List Row) (has : Bool) → row_of_id (mark_id mark) rows ≡ marked has mark → one_of (mark_id mark) (flag_default mark rows) ≡ Some (truth_text has)
unfolding clap_on_literals
own_default History rows true e = ap (one_of (codes "history")) (defaulted_is History rows ∙ ap (λ has. defaulted History has rows) (has_some (codes "history") rows _ e)) ∙ ap (option_and_then row_text) e
own_default Printer rows true e = ap (one_of (codes "printer")) (defaulted_is Printer rows ∙ ap (λ has. defaulted Printer has rows) (has_some (codes "printer") rows _ e)) ∙ ap (option_and_then row_text) e
own_default History rows false e =
    ap (one_of (codes "history")) (defaulted_is History rows ∙ ap (λ has. defaulted History has rows) (has_none (codes "history") rows e) ∙ added History rows e)
    ∙ ap (option_and_then row_text) (own_row (codes "history") rows (default_row History) refl e)
own_default Printer rows false e =
    ap (one_of (codes "printer")) (defaulted_is Printer rows ∙ ap (λ has. defaulted Printer has rows) (has_none (codes "printer") rows e) ∙ added Printer rows e)
    ∙ ap (option_and_then row_text) (own_row (codes "printer") rows (default_row Printer) refl e)

-- THE ENTRIES AT THE END

abbrev pub rows_at : List Use → List Row
rows_at uses = finished shape.rules (held_at uses)

abbrev ended : List Row → List Row
ended rows = flag_default Printer (flag_default History rows)

no_action_default : (rows : List Row) → with_default rows (with_index 1 (filled action_rule)) ≡ rows
no_action_default rows = elim (has_row (codes "action") rows) as (λ has. (if has then rows else rows) ≡ rows) [ true ↦ refl | false ↦ refl ]

no_count_default : (rows : List Row) → with_default rows (with_index 2 (filled count_rule)) ≡ rows
no_count_default rows = elim (has_row (codes "count") rows) as (λ has. (if has then rows else rows) ≡ rows) [ true ↦ refl | false ↦ refl ]

pub ended_is : (uses : List Use) → AreValid uses → rows_at uses ≡ ended (rows_for uses)
ended_is uses v =
    ap (λ now. fold with_default now.rows shape.rules) (settled_is uses v)
    ∙ ap (λ rows. ended (with_default rows (with_index 2 (filled count_rule)))) (no_action_default (rows_for uses)) ∙ ap ended (no_count_default (rows_for uses))

flag_of_end : (mark : Mark) (rows : List Row) (has : Bool) → row_of_id (mark_id mark) rows ≡ marked has mark → one_of (mark_id mark) (ended rows) ≡ Some (truth_text has)
flag_of_end History rows has e = ap (option_and_then row_text) (other_default Printer (codes "history") (flag_default History rows) refl) ∙ own_default History rows has e
flag_of_end Printer rows has e = own_default Printer (flag_default History rows) has (other_default History (codes "printer") rows refl ∙ e)

pub flag_at : (mark : Mark) (uses : List Use) → AreValid uses → one_of (mark_id mark) (rows_at uses) ≡ Some (truth_text (has_mark mark uses))
flag_at mark uses v = ap (one_of (mark_id mark)) (ended_is uses v) ∙ flag_of_end mark (rows_for uses) (has_mark mark uses) (marks_found mark uses v)

-- the plain words are there too
pub words_at : (uses : List Use) → AreValid uses → FoundWords (place_at uses) (plain_at uses) (rows_at uses)
words_at uses v =
    let same : (id : Text) → bytes_eq (codes "history") id ≡ false → bytes_eq (codes "printer") id ≡ false → row_of_id id (rows_at uses) ≡ row_of_id id (rows_for uses) =
    λ id e f. ap (row_of_id id) (ended_is uses v) ∙ other_default Printer id (flag_default History (rows_for uses)) f ∙ other_default History id (rows_for uses) e in
    words_as (place_at uses) (plain_at uses) (rows_for uses) (rows_at uses) (same (codes "action") refl refl) (same (codes "count") refl refl) (found_at uses v)

-- WHAT IS READ OF ENTRIES

abbrev pub is_true : Option Text → Bool
is_true None = false
is_true (Some text) = bytes_eq text (codes "true")

true_is : (has : Bool) → is_true (Some (truth_text has)) ≡ has
true_is true = refl
true_is false = refl

abbrev read_with : Option Text → Wanted → Option Text → Option Said
read_with count wanted action = option_map (λ action. record { action = action; count = count; wanted = wanted }) action

abbrev pub wanted_in : List Row → Wanted
wanted_in rows = record { history = is_true (one_of (codes "history") rows); printer = is_true (one_of (codes "printer") rows) }

abbrev pub read : List Row → Option Said
read rows = read_with (first_of (codes "count") rows) (wanted_in rows) (first_of (codes "action") rows)

abbrev first_value : Option Row → Option Text
first_value row = option_and_then (λ r. slice_get r.values 0) row

read_by : (place : Place) (words : List Text) (rows : List Row) (wanted : Wanted) → FoundWords place words rows → read_with (first_of (codes "count") rows) wanted (first_of (codes "action") rows) ≡ said_with words wanted
read_by First words rows wanted found = ap (λ row. read_with (first_of (codes "count") rows) wanted (first_value row)) found.1 ∙ ap (λ words. said_with words wanted) (sym found.0)
read_by Second words rows wanted found = (λ i. read_with (first_value (found.3 i)) wanted (first_value (found.2 i))) ∙ ap (λ words. said_with words wanted) (sym found.1)
read_by Full words rows wanted found = (λ i. read_with (first_value (found.4 i)) wanted (first_value (found.3 i))) ∙ ap (λ words. said_with words wanted) (sym found.2)

-- what the uses so far say
pub read_at : (uses : List Use) → AreValid uses → read (rows_at uses) ≡ said_with (plain_at uses ++ []) (record { history = has_mark History uses; printer = has_mark Printer uses })
read_at uses v =
    (λ i. read_with (first_of (codes "count") (rows_at uses)) (record { history = is_true (flag_at History uses v i); printer = is_true (flag_at Printer uses v i) }) (first_of (codes "action") (rows_at uses)))
    ∙ (λ i. read_with (first_of (codes "count") (rows_at uses)) (record { history = true_is (has_mark History uses) i; printer = true_is (has_mark Printer uses) i }) (first_of (codes "action") (rows_at uses)))
    ∙ read_by (place_at uses) (plain_at uses) (rows_at uses) _ (words_at uses v)
    ∙ ap (λ words. said_with words (record { history = has_mark History uses; printer = has_mark Printer uses })) (sym (append-nil (plain_at uses)))

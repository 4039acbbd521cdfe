-- The uses of the command's arguments so far, the newest first, and the table entries that are kept
-- of them.
use Rattle.std.proofs.Common.{◌≡◌, ℕ, Bool, true, false, cond, ◌||◌, List, [], ◌∷◌, ◌++◌, Option, Some, None, refl, ap, subst, ◌∙◌, append-nil}
use Rattle.std.specs.Prelude.{codes, bytes_eq, if◌then◌else◌}
use Rattle.std.specs.List.{find}
use Rattle.std.specs.Option.{option_or}
use Rattle.std.proofs.lemmas.List.Folds.{find-append}
use Rattle.clap.specs.Words.{Row, Rule, Text, built}
use Rattle.clap.specs.Simple.{Shape, filled}
use Rattle.clap.specs.Walk.{at_row, has_row, more_values, reading_by, with_values, without}
use Rattle.clap.specs.declared.builder.value_parser.Reading.{Reading}
use Rattle.clap.specs.declared.parser.matches.ValueSource.TheVariants.{CommandLine}
use Rattle.program_words.specs.declared.words.Wanted.{Wanted}
use Rattle.program_words.specs.CommandLine.{command_app, action_rule, count_rule, history_rule, printer_rule}

-- the command as it is built
abbrev pub shape : Shape
shape = (built command_app).top

-- the two flags
pub data Mark : Type 0 where
  History : Mark
  Printer : Mark

pub data Use : Type 0 where
  Flag : Mark → Use
  Action : Text → Use
  Count : Text → Use

abbrev pub mark_rule : Mark → Rule
mark_rule History = history_rule
mark_rule Printer = printer_rule

abbrev pub mark_id : Mark → Text
mark_id mark = (mark_rule mark).id

-- the word that is the flag
abbrev pub mark_word : Mark → Text
mark_word History = codes "--history"
mark_word Printer = codes "--printer"

abbrev pub action_row : Text → Row
action_row text = record { id = codes "action"; values = text ∷ []; count = None; source = Some CommandLine; reading = reading_by (filled action_rule) }

abbrev pub count_row : Text → Row
count_row text = record { id = codes "count"; values = text ∷ []; count = None; source = Some CommandLine; reading = reading_by (filled count_rule) }

abbrev pub flag_row : Mark → Row
flag_row mark = record { id = mark_id mark; values = codes "true" ∷ []; count = None; source = Some CommandLine; reading = reading_by (filled (mark_rule mark)) }

abbrev pub row_for : Use → Row
row_for (Flag mark) = flag_row mark
row_for (Action text) = action_row text
row_for (Count text) = count_row text

abbrev pub rows_for : List Use → List Row
rows_for [] = []
rows_for (newest ∷ uses) = rows_for uses ++ row_for newest ∷ []

-- THE ARGUMENT OF THE NEXT PLAIN WORD

pub data Place : Type 0 where
  First : Place
  Second : Place
  Full : Place

abbrev pub place_at : List Use → Place
place_at [] = First
place_at (Flag mark ∷ uses) = place_at uses
place_at (Action text ∷ uses) = Second
place_at (Count text ∷ uses) = Full

abbrev pub is_full : Place → Bool
is_full Full = true
is_full place = false

abbrev pub position_of : Place → ℕ
position_of First = 1
position_of Second = 2
position_of Full = 3

abbrev pub plainly_at : Place → Text → List Use → List Use
plainly_at First word uses = Action word ∷ uses
plainly_at Second word uses = Count word ∷ uses
plainly_at Full word uses = uses

-- the plain words so far, in their order
abbrev pub plain_at : List Use → List Text
plain_at [] = []
plain_at (Flag mark ∷ uses) = plain_at uses
plain_at (Action text ∷ uses) = plain_at uses ++ text ∷ []
plain_at (Count text ∷ uses) = plain_at uses ++ text ∷ []

-- THE FLAGS SO FAR

abbrev pub is_mark : Mark → Mark → Bool
is_mark History History = true
is_mark Printer Printer = true
is_mark mark other = false

abbrev pub has_mark : Mark → List Use → Bool
has_mark mark [] = false
has_mark mark (Flag other ∷ uses) = if is_mark mark other then true else has_mark mark uses
has_mark mark (Action text ∷ uses) = has_mark mark uses
has_mark mark (Count text ∷ uses) = has_mark mark uses

abbrev pub wanted_at : List Use → Wanted
wanted_at uses = record { history = has_mark History uses; printer = has_mark Printer uses }

-- each argument was used once at the most, and the action first
abbrev pub AreValid : List Use → Type 0
AreValid [] = Unit {0}
AreValid (Flag mark ∷ uses) = (has_mark mark uses ≡ false) × AreValid uses
AreValid (Action text ∷ uses) = (place_at uses ≡ First) × AreValid uses
AreValid (Count text ∷ uses) = (place_at uses ≡ Second) × AreValid uses

-- WHAT IS FOUND IN THE TABLE

abbrev pub row_of_id : Text → List Row → Option Row
row_of_id id rows = find (λ r. bytes_eq r.id id) rows

behind : (id : Text) (rows : List Row) (row : Row) → row_of_id id (rows ++ row ∷ []) ≡ option_or (row_of_id id rows) (if bytes_eq row.id id then Some row else None)
behind id rows row = find-append (λ r. bytes_eq r.id id) rows (row ∷ [])

or_none : (found : Option Row) → option_or found None ≡ found
or_none None = refl
or_none (Some row) = refl

-- an entry of another argument
pub other_row : (id : Text) (rows : List Row) (row : Row) → bytes_eq row.id id ≡ false → row_of_id id (rows ++ row ∷ []) ≡ row_of_id id rows
other_row id rows row e = behind id rows row ∙ rw e (or_none (row_of_id id rows))

-- the first entry of this one
pub own_row : (id : Text) (rows : List Row) (row : Row) → bytes_eq row.id id ≡ true → row_of_id id rows ≡ None → row_of_id id (rows ++ row ∷ []) ≡ Some row
own_row id rows row e none = behind id rows row ∙ ap (λ found. option_or found (if bytes_eq row.id id then Some row else None)) none ∙ rw e refl

abbrev pub marked : Bool → Mark → Option Row
marked true mark = Some (flag_row mark)
marked false mark = None

abbrev pub FoundWords : Place → List Text → List Row → Type 0
FoundWords First words rows = (words ≡ []) × (row_of_id (codes "action") rows ≡ None) × (row_of_id (codes "count") rows ≡ None)
FoundWords Second words rows = (a : Text) × (words ≡ a ∷ []) × (row_of_id (codes "action") rows ≡ Some (action_row a)) × (row_of_id (codes "count") rows ≡ None)
FoundWords Full words rows = (a : Text) × (b : Text) × (words ≡ a ∷ b ∷ []) × (row_of_id (codes "action") rows ≡ Some (action_row a)) × (row_of_id (codes "count") rows ≡ Some (count_row b))

-- in tables that have the same of them
pub words_as : (place : Place) (words : List Text) (rows later : List Row) → row_of_id (codes "action") later ≡ row_of_id (codes "action") rows → row_of_id (codes "count") later ≡ row_of_id (codes "count") rows → FoundWords place words rows → FoundWords place words later
words_as First words rows later e f found = (found.0, e ∙ found.1, f ∙ found.2)
words_as Second words rows later e f found = (found.0, found.1, e ∙ found.2, f ∙ found.3)
words_as Full words rows later e f found = (found.0, found.1, found.2, e ∙ found.3, f ∙ found.4)

-- the plain words are those that the table has
pub found_at : (uses : List Use) → AreValid uses → FoundWords (place_at uses) (plain_at uses) (rows_for uses)
found_at [] v = (refl, refl, refl)
found_at (Flag History ∷ uses) v = words_as (place_at uses) (plain_at uses) (rows_for uses) _ (other_row (codes "action") (rows_for uses) (flag_row History) refl) (other_row (codes "count") (rows_for uses) (flag_row History) refl) (found_at uses v.1)
found_at (Flag Printer ∷ uses) v = words_as (place_at uses) (plain_at uses) (rows_for uses) _ (other_row (codes "action") (rows_for uses) (flag_row Printer) refl) (other_row (codes "count") (rows_for uses) (flag_row Printer) refl) (found_at uses v.1)
found_at (Action a ∷ uses) v =
    let found = subst (λ place. FoundWords place (plain_at uses) (rows_for uses)) v.0 (found_at uses v.1) in
    (a, ap (λ words. words ++ a ∷ []) found.0, own_row (codes "action") (rows_for uses) (action_row a) refl found.1, other_row (codes "count") (rows_for uses) (action_row a) refl ∙ found.2)
found_at (Count b ∷ uses) v =
    let found = subst (λ place. FoundWords place (plain_at uses) (rows_for uses)) v.0 (found_at uses v.1) in
    (found.0, b, ap (λ words. words ++ b ∷ []) found.1, other_row (codes "action") (rows_for uses) (count_row b) refl ∙ found.2, own_row (codes "count") (rows_for uses) (count_row b) refl found.3)

-- and the flags
pub marks_found : (mark : Mark) (uses : List Use) → AreValid uses → row_of_id (mark_id mark) (rows_for uses) ≡ marked (has_mark mark uses) mark
marks_found mark [] v = refl
marks_found History (Flag History ∷ uses) v = own_row (codes "history") (rows_for uses) (flag_row History) refl (marks_found History uses v.1 ∙ ap (λ has. marked has History) v.0)
marks_found History (Flag Printer ∷ uses) v = other_row (codes "history") (rows_for uses) (flag_row Printer) refl ∙ marks_found History uses v.1
marks_found Printer (Flag History ∷ uses) v = other_row (codes "printer") (rows_for uses) (flag_row History) refl ∙ marks_found Printer uses v.1
marks_found Printer (Flag Printer ∷ uses) v = own_row (codes "printer") (rows_for uses) (flag_row Printer) refl (marks_found Printer uses v.1 ∙ ap (λ has. marked has Printer) v.0)
marks_found History (Action a ∷ uses) v = other_row (codes "history") (rows_for uses) (action_row a) refl ∙ marks_found History uses v.1
marks_found Printer (Action a ∷ uses) v = other_row (codes "printer") (rows_for uses) (action_row a) refl ∙ marks_found Printer uses v.1
marks_found History (Count b ∷ uses) v = other_row (codes "history") (rows_for uses) (count_row b) refl ∙ marks_found History uses v.1
marks_found Printer (Count b ∷ uses) v = other_row (codes "printer") (rows_for uses) (count_row b) refl ∙ marks_found Printer uses v.1

-- AN ENTRY THAT EXISTS, OR NOT

pub has_none : (id : Text) (rows : List Row) → row_of_id id rows ≡ None → has_row id rows ≡ false
has_none id [] e = refl
has_none id (row ∷ rows) e = (elim (bytes_eq row.id id) as (λ b. cond b (Some row) (row_of_id id rows) ≡ None → (b || has_row id rows) ≡ false) [ true ↦ λ f. absurd (cc) | false ↦ λ f. has_none id rows f ]) e

pub has_some : (id : Text) (rows : List Row) (found : Row) → row_of_id id rows ≡ Some found → has_row id rows ≡ true
has_some id [] found e = absurd (cc)
has_some id (row ∷ rows) found e = (elim (bytes_eq row.id id) as (λ b. cond b (Some row) (row_of_id id rows) ≡ Some found → (b || has_row id rows) ≡ true) [ true ↦ λ f. refl | false ↦ λ f. has_some id rows found f ]) e

pub none_there : (id : Text) (rows : List Row) → has_row id rows ≡ false → row_of_id id rows ≡ None
none_there id [] e = refl
none_there id (row ∷ rows) e = (elim (bytes_eq row.id id) as (λ b. (b || has_row id rows) ≡ false → cond b (Some row) (row_of_id id rows) ≡ None) [ true ↦ λ f. absurd (cc) | false ↦ λ f. none_there id rows f ]) e

pub at_missing : (id : Text) (change : Row → List Row) (missing rows : List Row) → row_of_id id rows ≡ None → at_row id change missing rows ≡ rows ++ missing
at_missing id change missing [] e = refl
at_missing id change missing (row ∷ rows) e =
    (elim (bytes_eq row.id id) as (λ b. cond b (Some row) (row_of_id id rows) ≡ None → cond b (change row ++ rows) (row ∷ at_row id change missing rows) ≡ row ∷ (rows ++ missing)) [
      | true ↦ λ f. absurd (cc)
      | false ↦ λ f. ap (λ later. row ∷ later) (at_missing id change missing rows f)
    ]) e

-- the first use of an argument
pub used_once : (id : Text) (how : Reading) (values : List Text) (rows : List Row) → row_of_id id rows ≡ None
    → with_values id how CommandLine values (without id rows) ≡ rows ++ record { id = id; values = values; count = None; source = Some CommandLine; reading = how } ∷ []
used_once id how values rows none =
    ap (with_values id how CommandLine values) (at_missing id (λ _. []) [] rows none ∙ append-nil rows)
    ∙ at_missing id (more_values CommandLine values) (record { id = id; values = values; count = None; source = Some CommandLine; reading = how } ∷ []) rows none

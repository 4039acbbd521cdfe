-- How the walk of the command goes over words.
use Rattle.std.proofs.Common.{◌≡◌, ℕ, Bool, true, false, List, [], ◌∷◌, ◌++◌, Option, Some, None, refl, sym, ap, subst, ◌∙◌}
use Rattle.std.specs.Prelude.{codes, bytes_eq}
use Rattle.clap.specs.Words.{Row, Text, Kinds}
use Rattle.clap.specs.Lexer.{long_of, short_of}
use Rattle.clap.specs.Walk.{Held, Walk, arg_by_index, has_row, idle, pushed, reading_by, settled, to_positional, value, walked, with_values, without}
use Rattle.clap.specs.Faults.{settle_fault, step_fault, turn_fault, use_fault}
use Rattle.clap.specs.Kinds.{or_else}
use Rattle.clap.specs.declared.parser.matches.ValueSource.TheVariants.{CommandLine}
use Rattle.clap.specs.declared.error.kind.ErrorKind.TheVariants as kind
use Rattle.clap.specs.Simple.{filled}
use Rattle.clap.proofs.OnLiterals.{clap_on_literals}
use Rattle.program_words.specs.CommandLine.{action_rule, count_rule}
use Rattle.program_words.proofs.Uses.{shape, row_of_id, Mark, History, Printer, Use, Flag, Action, Count, mark_rule, mark_id, mark_word, flag_row, rows_for, Place, First, Second, Full, place_at, is_full, position_of, plainly_at, plain_at, has_mark, marked, AreValid, FoundWords, found_at, marks_found, has_none, has_some, used_once}

abbrev pub held : List Row → Option (Text × List Text) → Held
held rows pending = record { rows = rows; pending = pending; skip = 0 }

-- a plain word is read as a value once more is known
abbrev pub held_at : List Use → Held
held_at [] = held [] None
held_at (Flag mark ∷ uses) = held (rows_for (Flag mark ∷ uses)) None
held_at (Action text ∷ uses) = held (rows_for uses) (Some (codes "action", text ∷ []))
held_at (Count text ∷ uses) = held (rows_for uses) (Some (codes "count", text ∷ []))

abbrev pub walk_with : Bool → ℕ → Held → Walk
walk_with trailing position now = record { held = now; waiting = idle; position = position; is_trailing = trailing; stopped = None }

abbrev pub walk_at : Bool → List Use → Walk
walk_at trailing uses = walk_with trailing (position_of (place_at uses)) (held_at uses)

abbrev pub step : Bool → List Use → Text → Walk
step trailing uses word = walked shape.rules [] (walk_at trailing uses) word

abbrev pub fault_at : Bool → List Use → Text → Kinds
fault_at trailing uses word = turn_fault shape [] (walk_at trailing uses) word

-- WHAT IS HELD

no_action : (uses : List Use) → AreValid (Action [] ∷ uses) → row_of_id (codes "action") (rows_for uses) ≡ None
no_action uses v = (subst (λ place. FoundWords place (plain_at uses) (rows_for uses)) v.0 (found_at uses v.1)).1

no_count : (uses : List Use) → AreValid (Count [] ∷ uses) → row_of_id (codes "count") (rows_for uses) ≡ None
no_count uses v = (subst (λ place. FoundWords place (plain_at uses) (rows_for uses)) v.0 (found_at uses v.1)).3

pub settled_is : (uses : List Use) → AreValid uses → settled shape.rules (held_at uses) ≡ held (rows_for uses) None
settled_is [] v = refl
settled_is (Flag mark ∷ uses) v = refl
settled_is (Action a ∷ uses) v = ap (λ rows. held rows None) (used_once (codes "action") (reading_by (filled action_rule)) (a ∷ []) (rows_for uses) (no_action uses v))
settled_is (Count b ∷ uses) v = ap (λ rows. held rows None) (used_once (codes "count") (reading_by (filled count_rule)) (b ∷ []) (rows_for uses) (no_count uses v))

pub settle_passes : (uses : List Use) → AreValid uses → settle_fault shape.rules false (held_at uses) ≡ []
settle_passes [] v = refl
settle_passes (Flag mark ∷ uses) v = refl
settle_passes (Action a ∷ uses) v = rw (has_none (codes "action") (rows_for uses) (no_action uses v)) refl
settle_passes (Count b ∷ uses) v = rw (has_none (codes "count") (rows_for uses) (no_count uses v)) refl

-- A PLAIN WORD

-- a word that is no flag and no end of flags
pub record IsPlain (word : Text) : Type 0 where
  pub ends_none : bytes_eq word (45 ∷ 45 ∷ []) ≡ false
  pub no_long : long_of word ≡ None
  pub no_short : short_of word ≡ None

-- it goes to the argument of that place
positioned : Bool → List Use → Place → Text → Walk
positioned trailing uses place word =
    to_positional shape.rules (arg_by_index shape.rules (position_of place)) word (walk_with trailing (position_of place) (held_at uses)) (held_at uses)

behind_flags : (trailing : Bool) (mark : Mark) (uses : List Use) (place : Place) (word : Text) → is_full place ≡ false → positioned trailing (Flag mark ∷ uses) place word ≡ walk_at trailing (plainly_at place word (Flag mark ∷ uses))
unfolding positioned
behind_flags true mark uses First word e = refl
behind_flags true mark uses Second word e = refl
behind_flags false mark uses First word e = refl
behind_flags false mark uses Second word e = refl
behind_flags trailing mark uses Full word e = absurd (cc)

behind_action : (trailing : Bool) (a : Text) (uses : List Use) (word : Text) → AreValid (Action a ∷ uses) → positioned trailing (Action a ∷ uses) Second word ≡ walk_at trailing (Count word ∷ Action a ∷ uses)
unfolding positioned
behind_action true a uses word v = ap (λ now. walk_with true 3 (pushed (codes "count") word now)) (settled_is (Action a ∷ uses) v)
behind_action false a uses word v = ap (λ now. walk_with false 3 (pushed (codes "count") word now)) (settled_is (Action a ∷ uses) v)

at_first : (trailing : Bool) (word : Text) → positioned trailing [] First word ≡ walk_at trailing (Action word ∷ [])
unfolding positioned
at_first true word = refl
at_first false word = refl

abbrev pub plainly : List Use → Text → List Use
plainly uses word = plainly_at (place_at uses) word uses

positioned_is : (trailing : Bool) (uses : List Use) (word : Text) → AreValid uses → is_full (place_at uses) ≡ false → positioned trailing uses (place_at uses) word ≡ walk_at trailing (plainly uses word)
positioned_is trailing [] word v e = at_first trailing word
positioned_is trailing (Flag mark ∷ uses) word v e = behind_flags trailing mark uses (place_at uses) word e
positioned_is trailing (Action a ∷ uses) word v e = behind_action trailing a uses word v
positioned_is trailing (Count b ∷ uses) word v e = absurd (cc)

pub trailing_step : (uses : List Use) (word : Text) → AreValid uses → is_full (place_at uses) ≡ false → step true uses word ≡ walk_at true (plainly uses word)
unfolding clap_on_literals positioned
trailing_step uses word v e = positioned_is true uses word v e

pub plain_step : (uses : List Use) (word : Text) → IsPlain word → AreValid uses → is_full (place_at uses) ≡ false → step false uses word ≡ walk_at false (plainly uses word)
unfolding clap_on_literals positioned
plain_step uses word p v e = rw (p.ends_none, p.no_long, p.no_short) (positioned_is false uses word v e)

-- THE FAULTS OF A PLAIN WORD

placed_fault : List Use → Place → Kinds
placed_fault uses place = step_fault shape (position_of place) (held_at uses) value

none_behind_flags : (mark : Mark) (uses : List Use) (place : Place) → is_full place ≡ false → placed_fault (Flag mark ∷ uses) place ≡ []
unfolding placed_fault
none_behind_flags mark uses First e = refl
none_behind_flags mark uses Second e = refl
none_behind_flags mark uses Full e = absurd (cc)

placed_passes : (uses : List Use) → AreValid uses → is_full (place_at uses) ≡ false → placed_fault uses (place_at uses) ≡ []
unfolding placed_fault
placed_passes [] v e = refl
placed_passes (Flag mark ∷ uses) v e = none_behind_flags mark uses (place_at uses) e
placed_passes (Action a ∷ uses) v e = settle_passes (Action a ∷ uses) v
placed_passes (Count b ∷ uses) v e = absurd (cc)

placed_full : (uses : List Use) (place : Place) → is_full place ≡ true → placed_fault uses place ≡ kind.UnknownArgument ∷ []
unfolding placed_fault
placed_full uses First e = absurd (cc)
placed_full uses Second e = absurd (cc)
placed_full uses Full e = refl

pub trailing_passes : (uses : List Use) (word : Text) → AreValid uses → is_full (place_at uses) ≡ false → fault_at true uses word ≡ []
unfolding clap_on_literals placed_fault
trailing_passes uses word v e = placed_passes uses v e

pub trailing_full : (uses : List Use) (word : Text) → is_full (place_at uses) ≡ true → fault_at true uses word ≡ kind.UnknownArgument ∷ []
unfolding clap_on_literals placed_fault
trailing_full uses word e = placed_full uses (place_at uses) e

pub plain_passes : (uses : List Use) (word : Text) → IsPlain word → AreValid uses → is_full (place_at uses) ≡ false → fault_at false uses word ≡ []
unfolding clap_on_literals placed_fault
plain_passes uses word p v e = rw (p.ends_none, p.no_long, p.no_short) (placed_passes uses v e)

pub plain_full : (uses : List Use) (word : Text) → IsPlain word → is_full (place_at uses) ≡ true → fault_at false uses word ≡ kind.UnknownArgument ∷ []
unfolding clap_on_literals placed_fault
plain_full uses word p e = rw (p.ends_none, p.no_long, p.no_short) (placed_full uses (place_at uses) e)

-- THE END OF FLAGS

pub end_step : (uses : List Use) → step false uses (codes "--") ≡ walk_at true uses
unfolding clap_on_literals
end_step uses = refl

pub end_passes : (uses : List Use) → fault_at false uses (codes "--") ≡ []
unfolding clap_on_literals
end_passes uses = refl

-- A FLAG

pub no_skip : (uses : List Use) → (held_at uses).skip ≡ 0
no_skip [] = refl
no_skip (Flag mark ∷ uses) = refl
no_skip (Action a ∷ uses) = refl
no_skip (Count b ∷ uses) = refl

not_there : (mark : Mark) (uses : List Use) → AreValid uses → has_mark mark uses ≡ false → row_of_id (mark_id mark) (rows_for uses) ≡ None
not_there mark uses v e = marks_found mark uses v ∙ ap (λ has. marked has mark) e

abbrev flag_rows : Mark → Held → List Row
flag_rows mark now = with_values (mark_id mark) (reading_by (filled (mark_rule mark))) CommandLine (codes "true" ∷ []) (without (mark_id mark) now.rows)

flag_rows_are : (mark : Mark) (uses : List Use) → AreValid uses → has_mark mark uses ≡ false → flag_rows mark (settled shape.rules (held_at uses)) ≡ rows_for (Flag mark ∷ uses)
flag_rows_are mark uses v e = ap (flag_rows mark) (settled_is uses v) ∙ used_once (mark_id mark) (reading_by (filled (mark_rule mark))) (codes "true" ∷ []) (rows_for uses) (not_there mark uses v e)

flag_walk : (mark : Mark) (uses : List Use) → AreValid uses → has_mark mark uses ≡ false
    → walk_with false (position_of (place_at uses)) (record { rows = flag_rows mark (settled shape.rules (held_at uses)); pending = None; skip = (held_at uses).skip }) ≡ walk_at false (Flag mark ∷ uses)
flag_walk mark uses v e = λ i. walk_with false (position_of (place_at uses)) (record { rows = flag_rows_are mark uses v e i; pending = None; skip = no_skip uses i })

pub flag_step : (mark : Mark) (uses : List Use) → AreValid uses → has_mark mark uses ≡ false → step false uses (mark_word mark) ≡ walk_at false (Flag mark ∷ uses)
unfolding clap_on_literals
flag_step History uses v e = flag_walk History uses v e
flag_step Printer uses v e = flag_walk Printer uses v e

-- its result, from the result for the pending word and from the table entries after it
abbrev reacts : Mark → Kinds → List Row → Kinds
reacts mark settling rows = or_else settling (use_fault false (filled (mark_rule mark)) [] rows)

reacts_is : (mark : Mark) (uses : List Use) → AreValid uses
    → or_else (reacts mark (settle_fault shape.rules false (held_at uses)) (settled shape.rules (held_at uses)).rows) [] ≡ or_else (reacts mark [] (rows_for uses)) []
reacts_is mark uses v =
    ap (λ settling. or_else (reacts mark settling (settled shape.rules (held_at uses)).rows) []) (settle_passes uses v)
    ∙ ap (λ (now : Held). or_else (reacts mark [] now.rows) []) (settled_is uses v)

reacts_once : (mark : Mark) (rows : List Row) → has_row (mark_id mark) rows ≡ false → or_else (reacts mark [] rows) [] ≡ []
reacts_once History rows e = rw e refl
reacts_once Printer rows e = rw e refl

reacts_again : (mark : Mark) (rows : List Row) → has_row (mark_id mark) rows ≡ true → or_else (reacts mark [] rows) [] ≡ kind.ArgumentConflict ∷ []
reacts_again History rows e = rw e refl
reacts_again Printer rows e = rw e refl

told_by_flag : (mark : Mark) (uses : List Use) → AreValid uses → fault_at false uses (mark_word mark) ≡ or_else (reacts mark [] (rows_for uses)) []
unfolding clap_on_literals
told_by_flag History uses v = reacts_is History uses v
told_by_flag Printer uses v = reacts_is Printer uses v

pub flag_passes : (mark : Mark) (uses : List Use) → AreValid uses → has_mark mark uses ≡ false → fault_at false uses (mark_word mark) ≡ []
flag_passes mark uses v e = told_by_flag mark uses v ∙ reacts_once mark (rows_for uses) (has_none (mark_id mark) (rows_for uses) (not_there mark uses v e))

pub flag_again : (mark : Mark) (uses : List Use) → AreValid uses → has_mark mark uses ≡ true → fault_at false uses (mark_word mark) ≡ kind.ArgumentConflict ∷ []
flag_again mark uses v e = told_by_flag mark uses v ∙ reacts_again mark (rows_for uses) (has_some (mark_id mark) (rows_for uses) (flag_row mark) (marks_found mark uses v ∙ ap (λ has. marked has mark) e))

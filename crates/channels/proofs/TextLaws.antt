-- The interaction trees of text on channels keep the sizes of buffers.
use Rattle.std.proofs.Common.{ℕ, zero, suc, ◌-◌, Bool, true, false, List, [], ◌∷◌, length, refl, sym, subst}
use Rattle.std.specs.Prelude.{ℤ, nat_lt, if◌then◌else◌, ◌&&◌, ◌==◌}
use Rattle.std.proofs.lemmas.List.{length-set}
use Rattle.basic_values.specs.declared.errors.TheConstants.{END_OF_FILE, DATA_FORMAT_ERROR}
use Rattle.job_model.specs.Act.{Gives, Breaks, Break, Faulted, Halted, Gone, Left, ◌then◌}
use Rattle.job_model.specs.Ends.{EndsWhere}
use Rattle.job_model.proofs.Ending.{ends_then, ends_at_ends}
use Rattle.record_fields.specs.Buffers.{IsChannel, buffer_of}
use Rattle.channels.specs.declared.lines.Taken.{Taken}
use Rattle.channels.specs.declared.lines.Taken.TheVariants.{AllTaken, LineTaken, TooMany}
use Rattle.channels.specs.declared.lines.Turn.{Turn}
use Rattle.channels.specs.declared.lines.Turn.TheVariants.{GoesOn, IsWhole}
use Rattle.channels.specs.declared.lines.TheConstants.{MOST_LINE, MOST_TURNS}
use Rattle.channels.specs.Files.{Files, FilesAct, changes, state_of, channel_opened}
use Rattle.channels.specs.Transfers.{fetches}
use Rattle.channels.specs.Waiting.{settles, is_state_due, settles_due}
use Rattle.channels.specs.TextOut.{byte_gathered, gathers, writes_text}
use Rattle.channels.specs.TextIn.{record_loaded, reads_next, takes_unread, with_unread, without_last_return, ends_line, ends_at_stop, goes_on_with, behind_taking, takes_turn, behind_turn, line_from, whole_line, reads_line}
use Rattle.channels.specs.Sizes.{AreSized, KeepsSizes}
use Rattle.channels.proofs.SizeMoves.{sized_state, sized_both, length_filled}
use Rattle.channels.proofs.SizeLaws.{ends_fetches, settles_keeps, opened_is, ends_tested}
use Rattle.channels.proofs.Turned.{whole_is}

-- PRINT #

settles_due_keeps : (c : ℕ) → IsChannel c → KeepsSizes (settles_due c)
settles_due_keeps c is files sized = by_test (is_state_due (state_of c files))
  where
    by_test : (b : Bool) → EndsWhere AreSized (if b then settles c files else Gives tt files)
    by_test true = settles_keeps c is files sized
    by_test false = sized

gathers_keeps : (c : ℕ) → IsChannel c → (bytes : List ℕ) → KeepsSizes (gathers c bytes)
gathers_keeps c is [] files sized = sized
gathers_keeps c is (byte ∷ bytes) files sized =
    ends_then AreSized (settles_due c (byte_gathered c byte files)) (λ _. gathers c bytes)
    (settles_due_keeps c is (byte_gathered c byte files) (sized_both c is files _ _ files.recount sized (length-set (buffer_of c files.buffers) _ byte) refl refl)) (λ _ s h. gathers_keeps c is bytes s h)

pub writes_text_keeps : (channel : ℤ) (bytes : List ℕ) → KeepsSizes (writes_text channel bytes)
writes_text_keeps channel bytes files sized = ends_tested (channel_opened channel files.channels) files (λ c files. settles_due c files then λ _. gathers c bytes) sized
    (λ c is. let at = opened_is channel files.channels c is in ends_then AreSized (settles_due c files) (λ _. gathers c bytes) (settles_due_keeps c at files sized) (λ _ s h. gathers_keeps c at bytes s h))

-- INPUT #

reads_next_keeps : (c : ℕ) → IsChannel c → KeepsSizes (reads_next c)
reads_next_keeps c is files sized = ends_then AreSized (fetches c (state_of c files).next (state_of c files).size files) (λ reading. changes (record_loaded c reading)) (ends_fetches c (state_of c files).next (state_of c files).size files sized)
    (λ reading s h. sized_both c is s _ _ s.recount h (length_filled reading.1 (buffer_of c s.buffers)) refl refl)

abbrev ended_by : Bool → List ℕ → Files → FilesAct Turn
ended_by b line files = if b then Breaks (Faulted DATA_FORMAT_ERROR) files else Gives (IsWhole line) files

ends_line_keeps : (line : List ℕ) → KeepsSizes (ends_line line)
ends_line_keeps line files sized = by_test (nat_lt MOST_LINE (length line))
  where
    by_test : (b : Bool) → EndsWhere AreSized (ended_by b line files)
    by_test true = sized
    by_test false = sized

goes_on_keeps : (c : ℕ) → IsChannel c → (line : List ℕ) (files : Files) → AreSized files → EndsWhere AreSized (goes_on_with line (reads_next c files))
goes_on_keeps c is line files sized =
    ends_at_ends AreSized AreSized (λ files. files) (λ _ files. Gives (GoesOn line) files) (ends_at_stop line) (reads_next c files) (reads_next_keeps c is files sized) (λ s h. h) (λ _ s h. h) by_break
  where
    by_test : (number : ℕ) (b : Bool) (s : Files) → AreSized s → EndsWhere AreSized (if b then ends_line line s else Breaks (Faulted number) s)
    by_test number true s h = ends_line_keeps line s h
    by_test number false s h = h

    by_break : (why : Break ⊥) (s : Files) → AreSized s → EndsWhere AreSized (ends_at_stop line why s)
    by_break (Faulted number) s h = by_test number (number == END_OF_FILE && nat_lt 0 (length line)) s h
    by_break (Halted halt) s h = h
    by_break Gone s h = h
    by_break (Left none) s h = absurd none

takes_turn_keeps : (c : ℕ) → IsChannel c → (line : List ℕ) → KeepsSizes (takes_turn c line)
takes_turn_keeps c is line files sized = by_taken (takes_unread c line files)
  where
    left : (count : ℕ) → AreSized (with_unread c count files)
    left count = sized_state c is files _ files.recount sized refl refl

    by_taken : (taken : Taken) → EndsWhere AreSized (behind_taking c taken files)
    by_taken (AllTaken more) = goes_on_keeps c is more (with_unread c 0 files) (left 0)
    by_taken (LineTaken more count) = ends_line_keeps (without_last_return more) (with_unread c count files) (left count)
    by_taken (TooMany count) = left count

line_from_keeps : (more c : ℕ) → IsChannel c → (line : List ℕ) → KeepsSizes (line_from more c line)
line_from_keeps zero c is line files sized = sized
line_from_keeps (suc more) c is line files sized = ends_then AreSized (takes_turn c line files) (behind_turn (line_from more c)) (takes_turn_keeps c is line files sized) (by_turn (λ line s h. line_from_keeps more c is line s h))
  where
    by_turn : ((line : List ℕ) → KeepsSizes (line_from more c line)) → (turn : Turn) (s : Files) → AreSized s → EndsWhere AreSized (behind_turn (line_from more c) turn s)
    by_turn rest (GoesOn line) s h = rest line s h
    by_turn rest (IsWhole line) s h = h

whole_line_keeps : (c : ℕ) → IsChannel c → KeepsSizes (whole_line c)
whole_line_keeps c is files sized = subst (λ (act : FilesAct (List ℕ)). EndsWhere AreSized act) (sym (whole_is c files)) (line_from_keeps (MOST_TURNS - 0) c is [] files sized)

pub reads_line_keeps : (channel : ℤ) → KeepsSizes (reads_line channel)
reads_line_keeps channel files sized = ends_tested (channel_opened channel files.channels) files (λ c files. settles c files then λ _. whole_line c) sized
    (λ c is. let at = opened_is channel files.channels c is in ends_then AreSized (settles c files) (λ _. whole_line c) (settles_keeps c at files sized) (λ _ s h. whole_line_keeps c at s h))

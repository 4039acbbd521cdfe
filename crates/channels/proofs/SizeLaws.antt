-- The interaction trees of records, openings and windows keep the sizes of buffers.
use Rattle.std.proofs.Common.{◌≡◌, ℕ, zero, suc, ◌+◌, ◌≤◌, Bool, true, false, List, [], length, take, refl, sym, ap, subst, ◌∙◌, arith}
use Rattle.std.specs.Prelude.{ℤ, pos, negsuc, Option, Result, Ok, Err, if◌then◌else◌, ◌&&◌, ◌==◌}
use Rattle.std.proofs.lemmas.Bool.Decides.{nat_tests}
use Rattle.std.proofs.lemmas.List.{length-replicate}
use Rattle.basic_values.specs.declared.errors.TheConstants.{END_OF_FILE, ILLEGAL_CHANNEL, NOT_OPEN}
use Rattle.monitor_calls.specs.declared.files.FileName.{FileName}
use Rattle.monitor_calls.specs.declared.files.OpenKind.{OpenKind}
use Rattle.monitor_calls.specs.declared.calls.Request.TheVariants as request
use Rattle.monitor_calls.specs.Volumes.{is_between}
use Rattle.job_model.specs.Act.{Gives, Breaks, Break, Faulted, Halted, Gone, Left, ◌then◌}
use Rattle.job_model.specs.Ends.{EndsWhere}
use Rattle.job_model.specs.Replies.{ReplyAct, asks_for, done_by, opened_by, block_by, pages_by}
use Rattle.job_model.proofs.Ending.{ends_then, ends_at_ends, ends_no_part}
use Rattle.record_fields.specs.declared.sizes.RecordSize.{RecordSize}
use Rattle.record_fields.specs.declared.sizes.RecordSize.TheVariants.{One, Two, Three}
use Rattle.record_fields.specs.Buffers.{IsChannel, buffer_of, blank}
use Rattle.record_fields.specs.Sizes.{blocks_of, bytes_of}
use Rattle.channels.specs.declared.states.ChannelState.{ChannelState}
use Rattle.channels.specs.declared.states.Waiting.{Waiting}
use Rattle.channels.specs.declared.states.Waiting.TheVariants.{Nothing, Bytes, Window}
use Rattle.channels.specs.Files.{Files, FilesAct, asks, changes, tested, closed_channel, state_of, is_open_at, channel_named, where_open, channel_opened}
use Rattle.channels.specs.Transfers.{joined, asks_close, asks_unlock, asks_block, asks_pages, fetches, page_from, pages_from, stores_block, stores_pages, stores}
use Rattle.channels.specs.Waiting.{with_waiting, gathered_stored, stores_waiting, settles}
use Rattle.channels.specs.Records.{record_named, block_or_next, record_got, gets_at, gets_on, gets_record, record_put, puts_at, puts_on, puts_record, unlocks}
use Rattle.channels.specs.Openings.{with_opened, with_blank, opens_file, with_closed, tells_closed, closes_on, if_opened, closes_file, past_faults, quietly, shuts_on, shuts_file, closes_from, closes_all}
use Rattle.channels.specs.Windows.{with_window, zeros_at_end, reads_window, is_window, with_use, changes_window, opens_window}
use Rattle.channels.specs.Sizes.{AreSized, KeepsSizes}
use Rattle.channels.proofs.SizeMoves.{sized_at, sized_state, sized_buffer, sized_both, length_filled}

-- REQUESTS

pub ends_asks : {A : Type 0} (request : ReplyAct A) → KeepsSizes (asks request)
ends_asks request files sized = ends_no_part ⊥ AreSized files sized request

ends_block : (c block : ℕ) → KeepsSizes (asks_block c block)
ends_block c block = ends_asks (asks_for block_by (request.Get c block))

ends_pages : (c block : ℕ) (size : RecordSize) → KeepsSizes (asks_pages c block size)
ends_pages c block size = ends_asks (asks_for pages_by (request.GetRecord c block (blocks_of size)))

ends_close : (c : ℕ) → KeepsSizes (asks_close c)
ends_close c = ends_asks (asks_for done_by (request.CloseFile c))

ends_stores_block : (c block : ℕ) (bytes : List ℕ) → KeepsSizes (stores_block c block bytes)
ends_stores_block c block bytes = ends_asks (asks_for done_by (request.Put c block (page_from bytes)))

ends_stores_pages : (c block : ℕ) (size : RecordSize) (bytes : List ℕ) → KeepsSizes (stores_pages c block size bytes)
ends_stores_pages c block size bytes = ends_asks (asks_for done_by (request.PutRecord c block (pages_from (blocks_of size) bytes)))

pub ends_fetches : (c block : ℕ) (size : RecordSize) → KeepsSizes (fetches c block size)
ends_fetches c block One files sized = ends_then AreSized (asks_block c block files) (λ page. Gives (1, page)) (ends_block c block files sized) (λ page s h. h)
ends_fetches c block Two files sized = ends_then AreSized (asks_pages c block Two files) (λ pages. Gives (length pages, joined pages)) (ends_pages c block Two files sized) (λ pages s h. h)
ends_fetches c block Three files sized = ends_then AreSized (asks_pages c block Three files) (λ pages. Gives (length pages, joined pages)) (ends_pages c block Three files sized) (λ pages s h. h)

ends_stores : (c block : ℕ) (size : RecordSize) (bytes : List ℕ) → KeepsSizes (stores c block size bytes)
ends_stores c block One bytes = ends_stores_block c block bytes
ends_stores c block Two bytes = ends_stores_pages c block Two bytes
ends_stores c block Three bytes = ends_stores_pages c block Three bytes

-- PENDING DATA

pub settles_keeps : (c : ℕ) → IsChannel c → KeepsSizes (settles c)
settles_keeps c is files sized = by_waiting (state_of c files).waiting
  where
    by_waiting : (waiting : Waiting) → EndsWhere AreSized (stores_waiting c waiting files)
    by_waiting Nothing = sized
    by_waiting (Bytes count) = ends_then AreSized (stores c (state_of c files).next (state_of c files).size (take count (buffer_of c files.buffers)) files) (λ _. changes (gathered_stored c))
        (ends_stores c _ (state_of c files).size (take count (buffer_of c files.buffers)) files sized) (λ _ s h. sized_state c is s _ s.recount h refl refl)
    by_waiting (Window block false) = sized
    by_waiting (Window block true) = ends_then AreSized (stores_block c block (buffer_of c files.buffers) files) (λ _. changes (with_waiting c (Window block false)))
        (ends_stores_block c block (buffer_of c files.buffers) files sized) (λ _ s h. sized_state c is s _ s.recount h refl refl)

-- WHICH CHANNEL

abbrev named_by : Bool → ℕ → Result ℕ ℕ
named_by b c = if b then Ok c else Err ILLEGAL_CHANNEL

abbrev opened_by_test : Bool → ℕ → Result ℕ ℕ
opened_by_test b c = if b then Ok c else Err NOT_OPEN

pub named_is : (n : ℤ) (c : ℕ) → channel_named n ≡ Ok c → IsChannel c
named_is (pos k) c e = by_test (is_between 1 12 k) refl e
  where
    by_test : (b : Bool) → is_between 1 12 k ≡ b → named_by b k ≡ Ok c → IsChannel c
    by_test true is e = (let same : k ≡ c = cc in subst IsChannel same (record { low = grind (arith, nat_tests); high = grind (arith, nat_tests) }))
    by_test false is e = absurd (cc)
named_is (negsuc k) c e = absurd (cc)

pub opened_is : (n : ℤ) (channels : List ChannelState) (c : ℕ) → channel_opened n channels ≡ Ok c → IsChannel c
opened_is n channels c e = by_channel (channel_named n) refl e
  where
    by_test : (d : ℕ) (b : Bool) → channel_named n ≡ Ok d → opened_by_test b d ≡ Ok c → IsChannel c
    by_test d true is e = (let same : d ≡ c = cc in subst IsChannel same (named_is n d is))
    by_test d false is e = absurd (cc)

    by_channel : (r : Result ℕ ℕ) → channel_named n ≡ r → where_open r channels ≡ Ok c → IsChannel c
    by_channel (Ok d) is e = by_test d (is_open_at d channels) is e
    by_channel (Err number) is e = absurd (cc)

pub ends_tested : {A B : Type 0} (r : Result A ℕ) (files : Files) (next : A → Files → FilesAct B) → AreSized files → ((value : A) → r ≡ Ok value → EndsWhere AreSized (next value files)) → EndsWhere AreSized (tested r files then next)
ends_tested (Ok value) files next sized k = k value refl
ends_tested (Err number) files next sized k = sized

-- RECORDS

gets_at_keeps : (c block : ℕ) → IsChannel c → KeepsSizes (gets_at c block)
gets_at_keeps c block is files sized = ends_then AreSized (fetches c block (state_of c files).size files) (λ reading. changes (record_got c block reading)) (ends_fetches c block (state_of c files).size files sized)
    (λ reading s h. sized_both c is s _ _ _ h (length_filled reading.1 (buffer_of c s.buffers)) refl refl)

gets_on_keeps : (c block : ℕ) → IsChannel c → KeepsSizes (gets_on c block)
gets_on_keeps c block is files sized = ends_then AreSized (settles c files) (λ _ files. gets_at c (block_or_next block c files) files) (settles_keeps c is files sized) (λ _ s h. gets_at_keeps c (block_or_next block c s) is s h)

pub gets_keeps : (channel block : ℤ) → KeepsSizes (gets_record channel block)
gets_keeps channel block files sized = ends_tested (channel_opened channel files.channels) files (λ c files. tested (record_named block) files then λ block. gets_on c block) sized
    (λ c is. ends_tested (record_named block) files (λ block. gets_on c block) sized (λ block _. gets_on_keeps c block (opened_is channel files.channels c is) files sized))

puts_at_keeps : (c block : ℕ) → IsChannel c → KeepsSizes (puts_at c block)
puts_at_keeps c block is files sized = ends_then AreSized (stores c block (state_of c files).size (buffer_of c files.buffers) files) (λ _. changes (record_put c block)) (ends_stores c block (state_of c files).size (buffer_of c files.buffers) files sized)
    (λ _ s h. sized_state c is s _ s.recount h refl refl)

puts_on_keeps : (c block : ℕ) → IsChannel c → KeepsSizes (puts_on c block)
puts_on_keeps c block is files sized = ends_then AreSized (settles c files) (λ _ files. puts_at c (block_or_next block c files) files) (settles_keeps c is files sized) (λ _ s h. puts_at_keeps c (block_or_next block c s) is s h)

pub puts_keeps : (channel block : ℤ) → KeepsSizes (puts_record channel block)
puts_keeps channel block files sized = ends_tested (channel_opened channel files.channels) files (λ c files. tested (record_named block) files then λ block. puts_on c block) sized
    (λ c is. ends_tested (record_named block) files (λ block. puts_on c block) sized (λ block _. puts_on_keeps c block (opened_is channel files.channels c is) files sized))

pub unlocks_keeps : (channel : ℤ) → KeepsSizes (unlocks channel)
unlocks_keeps channel files sized = ends_tested (channel_opened channel files.channels) files (λ c. asks_unlock c) sized (λ c is. ends_asks (asks_for done_by (request.Unlock c)) files sized)

-- CLOSING

closed_sized : (c : ℕ) → IsChannel c → (files : Files) → AreSized files → AreSized (with_closed c files)
closed_sized c is files sized = sized_at c is files closed_channel (blank One) files.recount sized (length-replicate {A = ℕ} 512 0) (λ _. refl)

closes_on_keeps : (c : ℕ) → IsChannel c → KeepsSizes (closes_on c)
closes_on_keeps c is files sized = ends_then AreSized (settles c files) (λ _ files. asks_close c files then λ _. tells_closed c) (settles_keeps c is files sized)
    (λ _ s h. ends_then AreSized (asks_close c s) (λ _. tells_closed c) (ends_close c s h) (λ _ t g. closed_sized c is t g))

ends_if : (b : Bool) (act : Files → FilesAct (Option ℕ)) → KeepsSizes act → KeepsSizes (if_opened b act)
ends_if true act keeps files sized = keeps files sized
ends_if false act keeps files sized = sized

pub closes_keeps : (channel : ℤ) → KeepsSizes (closes_file channel)
closes_keeps channel files sized = ends_tested (channel_named channel) files (λ c files. if_opened (is_open_at c files.channels) (closes_on c) files) sized
    (λ c is. ends_if (is_open_at c files.channels) (closes_on c) (closes_on_keeps c (named_is channel c is)) files sized)

quietly_keeps : (act : FilesAct (Unit {0})) → EndsWhere AreSized act → EndsWhere AreSized (quietly act)
quietly_keeps act h = ends_at_ends AreSized AreSized (λ files. files) (λ _ files. Gives tt files) past_faults act h (λ s g. g) (λ _ s g. g) by_break
  where
    by_break : (why : Break ⊥) (s : Files) → AreSized s → EndsWhere AreSized (past_faults why s)
    by_break (Faulted number) s g = g
    by_break (Halted halt) s g = g
    by_break Gone s g = g
    by_break (Left none) s g = absurd none

shuts_on_keeps : (c : ℕ) → IsChannel c → KeepsSizes (shuts_on c)
shuts_on_keeps c is files sized = ends_then AreSized (quietly (settles c files)) (λ _ files. quietly (asks_close c files) then λ _. tells_closed c) (quietly_keeps (settles c files) (settles_keeps c is files sized))
    (λ _ s h. ends_then AreSized (quietly (asks_close c s)) (λ _. tells_closed c) (quietly_keeps (asks_close c s) (ends_close c s h)) (λ _ t g. closed_sized c is t g))

pub shuts_keeps : (c : ℕ) → IsChannel c → KeepsSizes (shuts_file c)
shuts_keeps c is files sized = ends_if (is_open_at c files.channels) (shuts_on c) (shuts_on_keeps c is) files sized

closes_from_keeps : (c more : ℕ) → 1 ≤ c → c + more ≤ 13 → KeepsSizes (closes_from c more)
closes_from_keeps c zero low high files sized = sized
closes_from_keeps c (suc more) low high files sized =
    ends_then AreSized (shuts_file c files) (λ _. closes_from (suc c) more) (shuts_keeps c (record { low = low; high = omega (arith, high) }) files sized)
    (λ _ s h. closes_from_keeps (suc c) more (omega (arith, low)) (omega (arith, high)) s h)

pub closes_all_keeps : KeepsSizes closes_all
closes_all_keeps = closes_from_keeps 1 12 (omega arith) (omega arith)

-- OPENING

-- before the opening is answered, the files are these
pub opens_keeps : (c : ℕ) → IsChannel c → (name : FileName) (kind : OpenKind) (update : Bool) (code : Option ℕ) (size : RecordSize) (files : Files) → (state_of c files).open_now ≡ false → AreSized files → EndsWhere AreSized (opens_file c name kind update code size files)
opens_keeps c is name kind update code size files shut sized =
    ends_at_ends (λ s. s ≡ files) AreSized (with_blank c) (λ _. changes (with_opened c update size)) (λ why files. Breaks why (with_blank c files)) (asks (asks_for opened_by (request.OpenFile c name kind update code)) files)
    (ends_no_part ⊥ (λ s. s ≡ files) files refl (asks_for opened_by (request.OpenFile c name kind update code))) (λ s same. blanked s same) (λ blocks s same. opened s same) (λ why s same. blanked s same)
  where
    blanked : (s : Files) → s ≡ files → AreSized (with_blank c s)
    blanked s same = subst (λ (s : Files). AreSized (with_blank c s)) (sym same) (sized_buffer c is files (blank One) sized (length-replicate {A = ℕ} 512 0 ∙ sym (sized.whole c is ∙ ap bytes_of (sized.closed c is shut))))

    opened : (s : Files) → s ≡ files → AreSized (with_opened c update size s)
    opened s same = subst (λ (s : Files). AreSized (with_opened c update size s)) (sym same) (sized_at c is files (record closed_channel { open_now = true; update = update; size = size }) (blank size) files.recount sized (length-replicate {A = ℕ} (bytes_of size) 0) (λ shut. absurd (cc)))

-- WINDOWS

pub opens_window_keeps : (c block : ℕ) (writing : Bool) → IsChannel c → KeepsSizes (opens_window c block writing)
opens_window_keeps c block writing is files sized = by_test (is_window block (state_of c files).waiting)
  where
    window_sized : (dirty : Bool) (page : List ℕ) (s : Files) → AreSized s → AreSized (with_window c block dirty page s)
    window_sized dirty page s h = sized_both c is s _ _ s.recount h (length_filled page (buffer_of c s.buffers)) refl refl

    by_end : (number : ℕ) (b : Bool) (s : Files) → AreSized s → EndsWhere AreSized (if b then changes (with_window c block true []) s else Breaks (Faulted number) s)
    by_end number true s h = window_sized true [] s h
    by_end number false s h = h

    by_break : (why : Break ⊥) (s : Files) → AreSized s → EndsWhere AreSized (zeros_at_end c block writing why s)
    by_break (Faulted number) s h = by_end number (writing && number == END_OF_FILE) s h
    by_break (Halted halt) s h = h
    by_break Gone s h = h
    by_break (Left none) s h = absurd none

    window_read : KeepsSizes (reads_window c block writing)
    window_read s h = ends_at_ends AreSized AreSized (λ files. files) (λ page. changes (with_window c block writing page)) (zeros_at_end c block writing) (asks_block c block s) (ends_block c block s h) (λ s g. g) (λ page s g. window_sized writing page s g) by_break

    use_sized : (writing : Bool) → AreSized (with_use c block writing files)
    use_sized true = sized_state c is files _ files.recount sized refl refl
    use_sized false = sized

    by_test : (b : Bool) → EndsWhere AreSized (if b then changes (with_use c block writing) files else changes_window c block writing files)
    by_test true = use_sized writing
    by_test false = ends_then AreSized (settles c files) (λ _. reads_window c block writing) (settles_keeps c is files sized) (λ _ s h. window_read s h)

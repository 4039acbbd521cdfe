-- Bytes collected together are those collected one by one.
use Rattle.std.proofs.Common.{◌≡◌, ℕ, zero, suc, ◌+◌, ◌-◌, ◌<◌, ◌≤◌, false, List, [], ◌∷◌, ◌++◌, length, refl, sym, ap, subst, ◌∙◌, arith}
use Rattle.std.specs.Prelude.{slice_set, slice_index_or}
use Rattle.std.specs.List.{fold}
use Rattle.std.proofs.lemmas.Bool.Decides.{nat_tests}
use Rattle.std.proofs.lemmas.Grind.{get_or-set_at}
use Rattle.std.proofs.lemmas.List.{length-set}
use Rattle.job_model.specs.Act.{◌then◌}
use Rattle.job_model.proofs.Thens.{then_assoc, then_gives}
use Rattle.record_fields.specs.Buffers.{buffer_of, written_from}
use Rattle.record_fields.specs.Sizes.{bytes_of}
use Rattle.record_fields.proofs.WrittenLemmas.{written_none, written_more}
use Rattle.terminal_line.specs.Columns.{column_behind}
use Rattle.channels.specs.declared.states.ChannelState.{ChannelState}
use Rattle.channels.specs.declared.states.Waiting.TheVariants.{Bytes}
use Rattle.channels.specs.Files.{Files, FilesAct, closed_channel, state_of}
use Rattle.channels.specs.Waiting.{is_state_due, settles_due}
use Rattle.channels.specs.TextOut.{bytes_waiting, byte_gathered, gathers, run_gathered}
use Rattle.channels.proofs.Calls.{if_false}
use Rattle.channels.proofs.Ended.{set_twice}

-- ONE CHANNEL

-- the files with another state and another buffer of a channel
abbrev both : ℕ → ChannelState → List ℕ → Files → Files
both c state buffer files = record { channels = slice_set files.channels (c - 1) state; recount = files.recount; buffers = slice_set files.buffers (c - 1) buffer }

abbrev together : Files → List ChannelState → List (List ℕ) → Files
together files channels buffers = record { channels = channels; recount = files.recount; buffers = buffers }

-- what is read where something was set, and set there again
set_read : {A : Type 0} (xs : List A) (i : ℕ) (a d : A) (by : A → A) → slice_set (slice_set xs i a) i (by (slice_index_or (slice_set xs i a) i d)) ≡ slice_set xs i (by a)
set_read [] i a d by = refl
set_read (x ∷ xs) zero a d by = refl
set_read {A} (x ∷ xs) (suc i) a d by = ap (λ (l : List A). x ∷ l) (set_read xs i a d by)

-- BYTES OF A STATE

abbrev with_byte : ℕ → ChannelState → ChannelState
with_byte byte state = record state { waiting = Bytes (bytes_waiting state.waiting + 1); unread = 0; column = column_behind state.column byte }

abbrev with_run : List ℕ → ChannelState → ChannelState
with_run run state = record state { waiting = Bytes (bytes_waiting state.waiting + length run); unread = 0; column = fold column_behind state.column run }

abbrev as_counted : List ℕ → ChannelState → ℕ → ChannelState
as_counted run state count = record state { waiting = Bytes count; unread = 0; column = fold column_behind state.column run }

-- a byte, and bytes after it
run_of_state : (byte : ℕ) (run : List ℕ) (state : ChannelState) → with_run run (with_byte byte state) ≡ with_run (byte ∷ run) state
run_of_state byte run state =
    let n : ℕ = bytes_waiting state.waiting in
    let same : n + 1 + length run ≡ n + suc (length run) = omega arith in
    ap (as_counted (byte ∷ run) state) same

module _ (c byte : ℕ) (files : Files) (in_channels : c - 1 < length files.channels) where
  abbrev state : ChannelState
  state = state_of c files

  abbrev count : ℕ
  count = bytes_waiting (state_of c files).waiting

  abbrev buffer : List ℕ
  buffer = buffer_of c files.buffers

  pub state_behind : state_of c (byte_gathered c byte files) ≡ with_byte byte (state_of c files)
  state_behind = get_or-set_at files.channels (c - 1) (c - 1) (with_byte byte (state_of c files)) closed_channel refl in_channels

  -- one byte by itself
  run_of_one : byte_gathered c byte files ≡ run_gathered c (byte ∷ []) files
  run_of_one =
      let n : ℕ = bytes_waiting (state_of c files).waiting in
      let b : List ℕ = buffer_of c files.buffers in
      ap (λ (b : List ℕ). both c (with_byte byte (state_of c files)) b files) (sym (written_more n byte [] b ∙ written_none (n + 1) (slice_set b n byte)))

  -- a byte, and more bytes after it
  run_more : (run : List ℕ) → run_gathered c run (byte_gathered c byte files) ≡ run_gathered c (byte ∷ run) files
  run_more run =
      let s : ChannelState = state_of c files in
      let n : ℕ = bytes_waiting s.waiting in
      let b : List ℕ = buffer_of c files.buffers in
      let first : Files = byte_gathered c byte files in
      ap (λ (state : ChannelState). both c (with_run run state) (written_from (bytes_waiting state.waiting) run (buffer_of c first.buffers)) first) state_behind
      ∙ ap (λ (channels : List ChannelState). together files channels (slice_set first.buffers (c - 1) (written_from (n + 1) run (buffer_of c first.buffers)))) (set_twice files.channels (c - 1) (with_byte byte s) (with_run run (with_byte byte s)))
      ∙ ap (λ (buffers : List (List ℕ)). together files (slice_set files.channels (c - 1) (with_run run (with_byte byte s))) buffers) (set_read files.buffers (c - 1) (slice_set b n byte) [] (written_from (n + 1) run))
      ∙ ap (λ (b : List ℕ). both c (with_run run (with_byte byte s)) b files) (sym (written_more n byte run b))
      ∙ ap (λ (state : ChannelState). both c state (written_from n (byte ∷ run) b) files) (run_of_state byte run s)

-- RUNS

not_due : (size count : ℕ) (byte : ℕ) (state : ChannelState) → bytes_waiting state.waiting + 1 < bytes_of state.size → is_state_due (with_byte byte state) ≡ false
not_due size count byte state less = grind (arith, nat_tests)

-- bytes that fit into the buffer
pub gathers_run : (c : ℕ) (run : List ℕ) (files : Files) → c - 1 < length files.channels → 1 ≤ length run → bytes_waiting (state_of c files).waiting + length run ≤ bytes_of (state_of c files).size
    → gathers c run files ≡ settles_due c (run_gathered c run files)
gathers_run c [] files in_channels some fits = absurd (omega (arith, some))
gathers_run c (byte ∷ []) files in_channels some fits = then_gives (settles_due c (byte_gathered c byte files)) ∙ ap (settles_due c) (run_of_one c byte files in_channels)
gathers_run c (byte ∷ next ∷ run) files in_channels some fits =
    let first : Files = byte_gathered c byte files in
    let s : ChannelState = state_of c files in
    let n : ℕ = bytes_waiting s.waiting in
    let less : n + 1 < bytes_of s.size = omega (arith, fits) in
    let is : state_of c first ≡ with_byte byte s = state_behind c byte files in_channels in
    let room : is_state_due (state_of c first) ≡ false = ap is_state_due is ∙ not_due 0 0 byte s less in
    let still : c - 1 < length first.channels = subst (λ (k : ℕ). c - 1 < k) (sym (length-set files.channels (c - 1) (with_byte byte s))) in_channels in
    let rest : n + 1 + length (next ∷ run) ≤ bytes_of s.size = omega (arith, fits) in
    let fit : bytes_waiting (state_of c first).waiting + length (next ∷ run) ≤ bytes_of (state_of c first).size = subst (λ (state : ChannelState). bytes_waiting state.waiting + length (next ∷ run) ≤ bytes_of state.size) (sym is) rest in
    ap (λ (act : FilesAct (Unit {0})). act then λ _. gathers c (next ∷ run)) (if_false _ _ room)
    ∙ gathers_run c (next ∷ run) first still (omega arith) fit
    ∙ ap (settles_due c) (run_more c byte files in_channels (next ∷ run))

-- some bytes, and more after them
pub gathers_append : (c : ℕ) (run behind : List ℕ) (files : Files) → gathers c (run ++ behind) files ≡ gathers c run files then λ _. gathers c behind
gathers_append c [] behind files = refl
gathers_append c (byte ∷ run) behind files =
    let first : FilesAct (Unit {0}) = settles_due c (byte_gathered c byte files) in
    ap (λ (next : Unit {0} → Files → FilesAct (Unit {0})). first then next) (λ i u files. gathers_append c run behind files i)
    ∙ sym (then_assoc first (λ _. gathers c run) (λ _. gathers c behind))

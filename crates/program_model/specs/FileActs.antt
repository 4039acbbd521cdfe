-- What the statements on files do, each with the values of its operands.
use Rattle.std.specs.Prelude.{ℕ, ◌==◌, nat_le, Bool, true, false, ◌||◌, if◌then◌else◌, List, [], ◌∷◌, length, map, drop, Option, Some, None, unwrap_or, Result, Ok, Err, ℤ}
use Rattle.basic_values.specs.declared.errors.TheConstants.{ILLEGAL_BYTE_COUNT}
use Rattle.monitor_calls.specs.declared.files.OpenKind.{OpenKind}
use Rattle.monitor_calls.specs.declared.calls.Request.{Request}
use Rattle.monitor_calls.specs.declared.calls.Request.TheVariants as request
use Rattle.basic_tree.specs.declared.names.Name.{Name}
use Rattle.basic_values.specs.declared.failures.Halt.TheVariants.{RoomFull}
use Rattle.channels.specs.Files.{tested, channel_to_open, channel_opened}
use Rattle.channels.specs.Openings.{opens_file, closes_file, closes_all}
use Rattle.channels.specs.Records.{gets_record, puts_record, unlocks}
use Rattle.file_names.specs.declared.spec.Spec.{Spec}
use Rattle.file_names.specs.SpecFronts.{spec_said}
use Rattle.job_memory.specs.declared.contents.Content.TheVariants.{Fielded}
use Rattle.job_memory.specs.declared.contents.TheConstants.{MOST_ROOM}
use Rattle.job_memory.specs.Memory.{Memory, store, room_of, forget, forget_all}
use Rattle.job_model.specs.Act.{Gives, Breaks, Halted, ◌then◌, on}
use Rattle.job_model.specs.Replies.{asks_for, done_by, no_part}
use Rattle.record_fields.specs.declared.sizes.RecordSize.{RecordSize}
use Rattle.record_fields.specs.declared.sizes.RecordSize.TheVariants as size
use Rattle.record_fields.specs.declared.parts.Part.{Part}
use Rattle.record_fields.specs.Buffers.{buffer_of}
use Rattle.record_fields.specs.Layouts.{natural, laid_out}
use Rattle.program_model.specs.declared.file_acts.FileAct.{FileAct}
use Rattle.program_model.specs.declared.file_acts.FileAct.TheVariants as file
use Rattle.program_model.specs.Job.{Value, number}
use Rattle.program_model.specs.Functions.{number_at, text_at}
use Rattle.program_model.specs.Storage.{Storage, StorageAct, in_files}

-- what is tested before any request
abbrev pub is_tested : {A : Type 0} → Result A ℕ → StorageAct A
is_tested result s = on in_files (tested result) s

-- a request that is either done or refused
abbrev pub asks_done : Request → StorageAct Unit
asks_done request s = on no_part (λ _. asks_for done_by request) s

-- the file that a string names; a name without an extension has none
abbrev pub file_said : List ℕ → Storage → Result Spec ℕ
file_said text s = spec_said s.account [] text

-- OPEN

-- RECORDSIZE: 0 is one block
abbrev pub record_size : Option ℕ → Option RecordSize
record_size (Some bytes) =
    if bytes == 0 || bytes == 512 then Some size.One
    else if bytes == 1024 then Some size.Two
    else if bytes == 1536 then Some size.Three
    else None
record_size None = None

-- MODE: with 1 a block that GET reads is locked
abbrev pub is_update : Option ℕ → Option Bool
is_update (Some mode) = if mode == 0 then Some false else if mode == 1 then Some true else None
is_update None = None

abbrev pub both_given : {A B : Type 0} → Option A → Option B → Result (A × B) ℕ
both_given (Some a) (Some b) = Ok (a, b)
both_given (Some a) None = Err ILLEGAL_BYTE_COUNT
both_given None b = Err ILLEGAL_BYTE_COUNT

abbrev pub record_and_mode : ℤ → ℤ → Result (RecordSize × Bool) ℕ
record_and_mode bytes mode = both_given (record_size (natural bytes)) (is_update (natural mode))

-- on a channel that an OPEN may take, with the size of its records and its mode
abbrev pub opens_on : OpenKind → ℕ → RecordSize × Bool → Spec → StorageAct Unit
opens_on kind c how spec s = on in_files (opens_file c spec.name kind how.1 spec.code how.0) s

abbrev pub opens_said : OpenKind → List ℕ → ℕ → RecordSize × Bool → StorageAct Unit
opens_said kind text c how s = is_tested (file_said text s) s then λ spec. opens_on kind c how spec

-- these are errors, in this order: a channel outside 1 to 12, a channel that is open, a size or
-- mode that does not exist, and a string that names no file
abbrev pub open_act : OpenKind → List ℕ → ℤ → ℤ → ℤ → StorageAct Unit
open_act kind text channel bytes mode s =
    is_tested (channel_to_open channel s.files.channels) s then λ c s.
    is_tested (record_and_mode bytes mode) s then λ how. opens_said kind text c how

-- CLOSE

-- what was fielded on a channel that was closed is empty
abbrev pub without_fields : Option ℕ → Storage → Storage
without_fields None s = s
without_fields (Some c) s = record s { memory = forget c s.memory }

abbrev pub close_act : ℤ → StorageAct Unit
close_act channel s = on in_files (closes_file channel) s then λ closed s. Gives tt (without_fields closed s)

-- all channels are closed implicitly
abbrev pub shut_act : StorageAct Unit
shut_act s = on in_files closes_all s then λ _ s. Gives tt (record s { memory = forget_all s.memory })

-- GET, PUT AND UNLOCK

abbrev pub get_act : ℤ → ℤ → StorageAct Unit
get_act channel block s = on in_files (gets_record channel block) s

abbrev pub put_act : ℤ → ℤ → StorageAct Unit
put_act channel block s = on in_files (puts_record channel block) s

abbrev pub unlock_act : ℤ → StorageAct Unit
unlock_act channel s = on in_files (unlocks channel) s

-- FIELD: an illegal width binds nothing; otherwise the variables are bound from left to right, as
-- long as there is memory

abbrev pub bound : Memory → StorageAct Unit
bound m s = if nat_le (room_of m) MOST_ROOM then Gives tt (record s { memory = m }) else Breaks (Halted RoomFull) s

abbrev pub binds : ℕ → List Name → List Part → StorageAct Unit
binds c (x ∷ xs) (part ∷ parts) s = bound (store x (Fielded c part) s.memory) s then λ _. binds c xs parts
binds c [] parts s = Gives tt s
binds c (x ∷ xs) [] s = Gives tt s

abbrev pub fields_laid : List Name → List ℤ → ℕ → StorageAct Unit
fields_laid names widths c s =
    is_tested (laid_out (length (buffer_of c s.files.buffers)) widths) s then λ parts. binds c names parts

abbrev pub field_act : List Name → ℤ → List ℤ → StorageAct Unit
field_act names channel widths s =
    is_tested (channel_opened channel s.files.channels) s then λ c. fields_laid names widths c

-- KILL AND NAME: the code of the file that is killed or renamed is ignored

abbrev pub kill_act : List ℕ → StorageAct Unit
kill_act text s = is_tested (file_said text s) s then λ spec. asks_done (request.Kill spec.name)

abbrev pub rename_act : List ℕ → List ℕ → StorageAct Unit
rename_act old new s =
    is_tested (file_said old s) s then λ old s.
    is_tested (file_said new s) s then λ new. asks_done (request.Rename old.name new.name new.code)

-- SLEEP: this many seconds, and none for a negative number

abbrev pub seconds_of : ℤ → ℕ
seconds_of number = unwrap_or (natural number) 0

abbrev pub sleep_act : ℤ → StorageAct Unit
sleep_act number = asks_done (request.Sleep (seconds_of number))

-- EACH WITH THE VALUES OF ITS OPERANDS, in the order of the source. CLUSTERSIZE changes nothing.

abbrev pub act_by : FileAct → List Value → StorageAct Unit
act_by (file.Open kind) vs = open_act kind (text_at 0 vs) (number_at 1 vs) (number_at 2 vs) (number_at 4 vs)
act_by file.Close vs = close_act (number_at 0 vs)
act_by file.ShutAll vs = shut_act
act_by file.Get vs = get_act (number_at 0 vs) (number_at 1 vs)
act_by file.Put vs = put_act (number_at 0 vs) (number_at 1 vs)
act_by file.Unlock vs = unlock_act (number_at 0 vs)
act_by (file.Field names) vs = field_act names (number_at 0 vs) (map number (drop 1 vs))
act_by file.Kill vs = kill_act (text_at 0 vs)
act_by file.Rename vs = rename_act (text_at 0 vs) (text_at 1 vs)
act_by file.Sleep vs = sleep_act (number_at 0 vs)

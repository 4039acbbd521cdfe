-- The turns of the drill's program.
use Rattle.std.specs.Ordering.{int_cmp, is_lt}
use Rattle.std.specs.Prelude.{slice_set, slice_index_or, ◌+ℤ◌, pos, nat_le, if◌then◌else◌, ℕ, ◌+◌, Bool, true, false, List, [], ◌∷◌, replicate, Some, ℤ}
use Rattle.monitor_calls.specs.declared.calls.Reply.{Reply}
use Rattle.basic_tree.specs.declared.names.Name.{Name}
use Rattle.job_memory.specs.declared.contents.Content.{Content}
use Rattle.job_memory.specs.declared.contents.Content.TheVariants.{Fielded, Number}
use Rattle.job_memory.specs.declared.contents.TheConstants.{MOST_ROOM}
use Rattle.job_memory.specs.Contents.{number_in}
use Rattle.job_memory.specs.Memory.{room_of, forget_all}
use Rattle.job_memory.specs.Names.{name_cmp, at_name}
use Rattle.std.specs.Map.{lookup}
use Rattle.std.specs.BTreeMap.{insert_entry}
use Rattle.basic_values.specs.declared.failures.Halt.TheVariants.{RoomFull}
use Rattle.job_model.specs.Ends.{at_ends}
use Rattle.channels.specs.Openings.{with_blank, with_opened, quietly, tells_closed, closes_from}
use Rattle.record_fields.specs.declared.sizes.RecordSize.TheVariants.{One}
use Rattle.program_model.specs.Expressions.{Around}
use Rattle.program_model.specs.FileActs.{without_fields}
use Rattle.program_model.specs.FileStatements.{close_each}
use Rattle.record_fields.specs.declared.parts.Part.{Part}
use Rattle.channels.specs.Files.{closed_channel, changes, FilesAct}
use Rattle.channels.specs.Records.{record_got, record_put}
use Rattle.job_model.specs.Act.{Gives, Breaks, Halted, Left, ◌then◌, over, no_way}
use Rattle.job_model.specs.Replies.{block_by, done_by, opened_by}
use Rattle.program_model.specs.declared.destinations.Destination.{Destination}
use Rattle.program_model.specs.declared.homes.Home.{Home}
use Rattle.program_model.specs.Program.{Position, whole, inside}
use Rattle.program_model.specs.Job.{Job, Ended}
use Rattle.program_model.specs.Operators.{truth, is_true}
use Rattle.program_model.specs.Statements.{by_turn, by_truth}
use Rattle.program_model.specs.declared.values.Value.TheVariants as value
use Rattle.program_model.specs.Control.{Doing, Onward, At, Behind, goes_on}
use Rattle.program_model.specs.Storage.{in_storage, in_files}
use Rattle.program_model.specs.Traps.{trapped}
use Rattle.program_model.specs.Running.{Coming, Begin, turn, calls_of, runs, reached, handler, begin_at}
use Rattle.drill_deck.specs.DrillDeck.{drill_account}
use Rattle.drill_talk.proofs.DrillProgram.{drill_program, name_c, name_i, name_k, idle}

-- what the job has besides its variables, its buffer and whether an error is being handled
pub record Rest : Type 0 where
  pub update : Bool
  pub next : ℕ
  pub recount : ℕ
  pub loaded : ℕ
  pub unread : ℕ
  pub column : ℕ
  pub counted : ℕ
  pub others : List (List ℕ)
  pub common : List ℕ
  pub screen : List ℕ
  pub limits : List (ℤ × ℤ)
  pub item : ℕ
  pub line : ℕ
  pub home : Home
  pub destination : Destination
  pub number : ℕ
  pub error_line : ℕ

abbrev pub Variables : Type 0
Variables = List (Name × Content)

abbrev pub first_two : Part
first_two = record { offset = 0; length = 2 }

-- C$ is a field, and these are the other variables
abbrev pub with_c : Variables → Variables
with_c rest = (name_c, Fielded 1 first_two) ∷ rest

-- the job: whether an error of the statement with this number is being handled, and whether channel
-- 1 is open
abbrev pub job_in : Bool → ℕ → Bool → Variables → List ℕ → Rest → Job Position
job_in active place open_now variables buffer d = record {
  account = drill_account;
  memory = record { variables = variables; arrays = []; aside = [] };
  channels = idle open_now d.update d.next d.recount d.loaded d.unread d.column ∷ replicate 11 closed_channel;
  recount = d.counted;
  buffers = buffer ∷ d.others;
  common = d.common;
  screen = d.screen;
  trap = record { handler = Some 100; active = active; number = d.number; line = d.error_line; place = place };
  returns = [];
  limits = d.limits;
  item = d.item;
  line = d.line;
  home = d.home;
  frames = [];
  destination = d.destination;
}

abbrev pub begun_in : ℕ → ℕ → Rest → Rest
begun_in m line d = record d { line = line; home = record { start = m; behind = m + 1; line = line } }

-- a statement that runs with the files that a tree leaves, and what comes next
abbrev pub on_files_of : ℕ → ℕ → Job Position → FilesAct Unit → Doing Coming
on_files_of most m k act =
    trapped (handler drill_program)
    (over no_way (in_storage.with_part k) (over no_way (in_files.with_part (in_storage.part k)) act)
    then (λ _. goes_on (whole m))
    then reached (calls_of drill_program (runs drill_program most)) drill_program)

-- what follows the reply to the GET, and to the PUT, by what it counts as
abbrev pub got : ℕ → Job Position → Reply → Doing Coming
got most k x =
    on_files_of most 4 k
    (over no_way (λ none. (in_storage.part k).files) (block_by x)
    then (λ page. Gives (1, page)) then λ reading. changes (record_got 1 1 reading))

abbrev pub put : ℕ → Job Position → Reply → Doing Coming
put most k x =
    on_files_of most 6 k
    (over no_way (λ none. (in_storage.part k).files) (done_by x) then λ _. changes (record_put 1 1))

abbrev pub around_of : ℕ → Around Position
around_of most = calls_of drill_program (runs drill_program most)

-- what comes of a statement that led to this
abbrev pub led_to : ℕ → Doing Onward → Doing Coming
led_to most act = trapped (handler drill_program) (act then reached (around_of most) drill_program)

-- OPEN, by what the reply counts as
abbrev pub opened : ℕ → Job Position → Reply → Doing Coming
opened most k x =
    on_files_of most 1 k
    (at_ends (with_blank 1) (λ _. changes (with_opened 1 true One)) (λ why files. Breaks why (with_blank 1 files))
    (over no_way (λ none. (in_storage.part k).files) (opened_by x)))

-- CLOSE, by what the reply counts as
abbrev pub closed : ℕ → Job Position → Reply → Doing Coming
closed most k x =
    led_to most
    (over no_way (in_storage.with_part k)
    (over no_way (in_files.with_part (in_storage.part k)) (over no_way (λ none. (in_storage.part k).files) (done_by x) then λ _. tells_closed 1)
    then λ closed s. Gives (tt {0}) (without_fields closed s))
    then (λ _ j. close_each (around_of most) [] j) then λ _. goes_on (whole 8))

-- END closes the channel: by what the reply counts as
abbrev pub ended : ℕ → Job Position → Reply → Doing Coming
ended most k x =
    let s = in_storage.part k in
    led_to most
    (over no_way (in_storage.with_part k)
    (over no_way (in_files.with_part s)
    ((quietly (over no_way (λ none. s.files) (done_by x)) then λ _ f. tells_closed 1 f) then λ _ f. closes_from 2 11 f)
    then λ _ s. Gives (tt {0}) (record s { memory = forget_all s.memory }))
    then λ _ j. Breaks (Left Ended) j)

-- SLEEP, by what the reply counts as
abbrev pub slept : ℕ → Job Position → Reply → Doing Coming
slept most k x =
    led_to most (over no_way (in_storage.with_part k) (over no_way (λ none. in_storage.part k) (done_by x)) then λ _. goes_on (whole 13))

-- a store to a variable, if there is room for it, and what comes next
abbrev pub with_variables : Variables → Job Position → Job Position
with_variables variables j = record j { memory = record { variables = variables; arrays = []; aside = [] } }

abbrev pub stored_if : Bool → Variables → Job Position → Doing (Unit {0})
stored_if room variables k = if room then Gives (tt {0}) (with_variables variables k) else Breaks (Halted RoomFull) k

abbrev pub has_room : Variables → Bool
has_room variables = nat_le (room_of (record { variables = variables; arrays = []; aside = [] })) MOST_ROOM

abbrev pub with_number : Name → ℤ → Variables → Variables
with_number x n variables = insert_entry name_cmp variables x (Number n)

abbrev pub number_of_k : Variables → ℤ
number_of_k variables = number_in (lookup (at_name name_k) variables)

abbrev pub with_c_and : Name → ℤ → Variables → Variables
with_c_and x n rest = with_number x n (with_c rest)

-- FOR and NEXT
abbrev pub for_by : ℕ → Bool → Variables → Job Position → Doing Coming
for_by most room variables k =
    led_to most
    (stored_if room variables k then (λ _ j. Gives true (record j { limits = slice_set j.limits 0 (pos 20, pos 1) }))
    then by_turn (Behind (whole 3)) (At (whole 8)))

abbrev pub next_by : ℕ → Bool → Bool → Variables → Job Position → Doing Coming
next_by most past room variables k =
    led_to most
    ((if past then Gives false k else (stored_if room variables k then λ _ j. Gives true j))
    then by_turn (At (whole 4)) (Behind (whole 7)))

-- a store of LET, at a position
abbrev pub let_by : ℕ → Position → Bool → Variables → Job Position → Doing Coming
let_by most q room variables k = led_to most (stored_if room variables k then (λ _ j. Gives (tt {0}) j) then λ _ j. goes_on q j)

-- IF and WHILE
abbrev pub tested_by : ℕ → Position → Bool → Job Position → Doing Coming
tested_by most q is k = led_to most (by_truth (At (inside q true)) (Behind q) (value.Number (truth is)) k)

-- after the statement inside the WHILE
abbrev pub again_by : ℕ → Bool → Job Position → Doing Coming
again_by most is k =
    trapped (handler drill_program)
    (elim (is_true (value.Number (truth is))) [
      | true ↦ Gives (inside (whole 12) true) k
      | false ↦ Gives (whole 13) k
    ] then begin_at)

abbrev pub limits_of : Rest → ℤ × ℤ
limits_of d = slice_index_or d.limits 0 (pos 0, pos 1)

abbrev pub next_of_i : Variables → Rest → ℤ
next_of_i rest d = number_in (lookup (at_name name_i) rest) +ℤ (limits_of d).1

abbrev pub is_waiting : Variables → Bool
is_waiting variables = is_lt (int_cmp (number_of_k variables) (pos 1000))

abbrev pub drill_turn_at : ℕ → Position → Job Position → Doing Coming
drill_turn_at most q j = turn (calls_of drill_program (runs drill_program most)) drill_program (Begin q) j

-- What each statement does at its position, and what it leads to.
use Rattle.std.specs.Prelude.{ℕ, Bool, true, false, if◌then◌else◌, List, [], ◌∷◌, map, Option, Some, None}
use Rattle.basic_tree.specs.Trees.{Tree, ModifierTree, If, Unless, While, Until, ForModifier, StatementTree, IfThen, IfGoto, Modified, For, Next, FnEnd, Data, Dim, DimFile, Def, Let, Result as ResultOf, Print, PrintUsing, Input, InputLine, Read, Restore, Goto, Gosub, Return, OnGoto, OnGosub, OnErrorGoto, Resume, Stop, End, Chain, Sleep, Open, Close, Get, Put, Unlock, Field, Lset, Rset, Kill, Rename, MatRead, MatPrint, MatLet}
use Rattle.job_model.specs.Act.{Gives, Breaks, ◌then◌}
use Rattle.job_model.specs.Act as act
use Rattle.record_fields.specs.declared.writing.Side.TheVariants.{Left, Right}
use Rattle.program_model.specs.Program.{Program, Position, whole, inside, items_of, behind_body, next_of, for_of, behind_statement, loop_place}
use Rattle.program_model.specs.Job.{Value, number, Job, Ended, Stopped}
use Rattle.program_model.specs.Operators.{is_true}
use Rattle.program_model.specs.Expressions.{Around, value_of}
use Rattle.program_model.specs.Targets.{stored_to_all}
use Rattle.program_model.specs.Control.{Onward, At, Behind, Leave, Doing, goes_on, at_line, at_else, chosen, on_chosen, home_of, runs_at, kept, returned}
use Rattle.program_model.specs.Loops.{begins_loop, next_turn}
use Rattle.program_model.specs.DataItems.{read_all}
use Rattle.program_model.specs.PrintingOnChannels.{printed_to, print_all_on, print_using_on}
use Rattle.program_model.specs.Input.{input, input_line, input_on, input_line_on}
use Rattle.program_model.specs.Justified.{justifies_by}
use Rattle.program_model.specs.Calls.{answered}
use Rattle.program_model.specs.Traps.{sets_handler, resumes}
use Rattle.program_model.specs.declared.file_acts.FileAct.{FileAct}
use Rattle.program_model.specs.declared.file_acts.FileAct.TheVariants as file
use Rattle.program_model.specs.Storage.{stores_by}
use Rattle.program_model.specs.FileActs.{shut_act}
use Rattle.program_model.specs.FileStatements.{or_zero, acts_by, kind_for, close_each}
use Rattle.program_model.specs.Chaining.{line_operand, chained}
use Rattle.program_model.specs.declared.matrix_acts.MatrixAct.{MatrixAct}
use Rattle.program_model.specs.declared.matrix_acts.MatrixAct.TheVariants as mat
use Rattle.program_model.specs.MatrixStatements.{form_of, matrix_acts_by}
use Rattle.program_model.specs.Parts.{matrix_expressions}

abbrev pub goes_to : Onward → Job Position → Doing Onward
goes_to o j = Gives o j

-- one way if it is true, and another if not
abbrev pub either_way : Onward → Onward → Bool → Onward
either_way o other true = o
either_way o other false = other

abbrev pub by_truth : Onward → Onward → Value → Job Position → Doing Onward
by_truth o other v j = Gives (either_way o other (is_true v)) j

abbrev pub by_turn : Onward → Onward → Bool → Job Position → Doing Onward
by_turn o other has_turn j = Gives (either_way o other has_turn) j

-- the FOR that a NEXT closes, by its place; and the statement after a FOR or NEXT
abbrev pub place_of_for : Program → Option ℕ → ℕ
place_of_for program (Some m) = loop_place program (whole m)
place_of_for program None = 0

abbrev pub behind_pair : Program → Option ℕ → Onward
behind_pair program m = At (whole (behind_statement program m))

-- a DEF is skipped, with its body if it has one
abbrev pub past_def : Program → Position → Option Tree → Onward
past_def program q (Some value) = Behind q
past_def program q None = At (whole (behind_body program q.statement))

-- a modifier: whether the statement before it begins
abbrev pub modified : Around Position → Program → Position → ModifierTree → Job Position → Doing Onward
modified around program q (If e) j = value_of around e j then by_truth (At (inside q true)) (Behind q)
modified around program q (Unless e) j = value_of around e j then by_truth (Behind q) (At (inside q true))
modified around program q (While e) j = value_of around e j then by_truth (At (inside q true)) (Behind q)
modified around program q (Until e) j = value_of around e j then by_truth (Behind q) (At (inside q true))
modified around program q (ForModifier variable from to step) j =
    begins_loop around variable (loop_place program q) from to step j then by_turn (At (inside q true)) (Behind q)

-- a statement on files, by the values of its operands, and the statement after it
abbrev pub file_act : Around Position → Position → FileAct → List Tree → Job Position → Doing Onward
file_act around q act operands j = acts_by around act operands j then λ _. goes_on q

-- a statement of MAT, and what it does with whole arrays
abbrev pub on_matrices : Around Position → Program → Position → MatrixAct → List Tree → Job Position → Doing Onward
on_matrices around program q act operands j = matrix_acts_by around (items_of program) act operands j then λ _. goes_on q

-- each form has its equation
abbrev pub does : Around Position → Program → Position → StatementTree → Job Position → Doing Onward
does around program q (IfThen e clause otherwise) j = value_of around e j then by_truth (At (inside q true)) (at_else q otherwise)
does around program q (IfGoto e n otherwise) j = value_of around e j then by_truth (at_line program n) (at_else q otherwise)
does around program q (Modified s modifier) j = modified around program q modifier j
does around program q (For variable from to step) j =
    begins_loop around variable (loop_place program q) from to step j
    then by_turn (Behind q) (behind_pair program (next_of program q.statement))
does around program q (Next variable) j =
    next_turn variable (place_of_for program (for_of program q.statement)) j
    then by_turn (behind_pair program (for_of program q.statement)) (Behind q)
does around program q FnEnd j = Gives Leave j
does around program q (Data items) j = goes_on q j
does around program q (Dim shapes) j = goes_on q j
does around program q (Def f parameters value) j = Gives (past_def program q value) j
does around program q (Let word targets e) j =
    value_of around e j then λ v j. stored_to_all around targets v j then λ _ j. goes_on q j
does around program q (ResultOf f e) j = value_of around e j then λ v j. goes_on q (answered v j)
does around program q (Print channel items last) j =
    print_all_on around (printed_to channel) items last j then λ _ j. goes_on q j
does around program q (Input None prompt targets) j = input around prompt targets j then λ _ j. goes_on q j
does around program q (InputLine None variable) j = input_line variable j then λ _ j. goes_on q j
does around program q (Read targets) j = read_all around (items_of program) targets j then λ _ j. goes_on q j
does around program q Restore j = goes_on q (record j { item = 0 })
does around program q (Goto apart n) j = Gives (at_line program n) j
does around program q (Gosub apart n) j = kept q (goes_to (at_line program n)) j
does around program q Return j = returned (λ place j. Gives (Behind place) (runs_at (home_of program place.statement) j)) j.returns j
does around program q (OnGoto e lines) j =
    value_of around e j then λ v j. on_chosen (chosen (number v) lines) (λ n j. Gives (at_line program n) j) j
does around program q (OnGosub e lines) j =
    value_of around e j then λ v j. on_chosen (chosen (number v) lines) (λ n j. kept q (goes_to (at_line program n)) j) j
does around program q (OnErrorGoto n) j = sets_handler n (goes_on q) j
does around program q (Resume n) j = resumes (λ m. At (whole m)) (at_line program) n j
does around program q Stop j = Breaks (act.Left (Stopped q)) j
does around program q End j = stores_by shut_act j then λ _ j. Breaks (act.Left Ended) j
does around program q (PrintUsing channel format values last) j =
    print_using_on around channel format values last j then λ _ j. goes_on q j
does around program q (Input (Some channel) prompt targets) j = input_on around channel targets j then λ _ j. goes_on q j
does around program q (InputLine (Some channel) variable) j = input_line_on around channel variable j then λ _ j. goes_on q j
does around program q (DimFile channel arrays) j = goes_on q j
does around program q (Chain e line) j =
    value_of around e j then λ name j. value_of around (line_operand line) j then λ n. chained name n
does around program q (Sleep e) j = file_act around q file.Sleep (e ∷ []) j
does around program q (Open name purpose hash channel size cluster mode) j =
    file_act around q (file.Open (kind_for purpose)) (name ∷ channel ∷ or_zero size ∷ or_zero cluster ∷ or_zero mode ∷ []) j
does around program q (Close channels) j = close_each around channels j then λ _. goes_on q
does around program q (Get channel block) j = file_act around q file.Get (channel ∷ or_zero block ∷ []) j
does around program q (Put channel block) j = file_act around q file.Put (channel ∷ or_zero block ∷ []) j
does around program q (Unlock channel) j = file_act around q file.Unlock (channel ∷ []) j
does around program q (Field channel parts) j =
    file_act around q (file.Field (map (λ part. part.name) parts)) (channel ∷ map (λ part. part.width) parts) j
does around program q (Lset variable e) j = justifies_by around Left variable e j then λ _ j. goes_on q j
does around program q (Rset variable e) j = justifies_by around Right variable e j then λ _ j. goes_on q j
does around program q (Kill e) j = file_act around q file.Kill (e ∷ []) j
does around program q (Rename old new) j = file_act around q file.Rename (old ∷ new ∷ []) j
does around program q (MatRead matrices) j = on_matrices around program q (mat.Read matrices) [] j
does around program q (MatPrint matrix separator) j = on_matrices around program q (mat.Print matrix separator) [] j
does around program q (MatLet target value) j =
    on_matrices around program q (mat.Assign target (form_of value)) (matrix_expressions value) j

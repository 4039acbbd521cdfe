-- The program of the drill, as trees.
use Rattle.std.specs.Prelude.{◌≡◌, ℕ, Bool, true, false, List, [], ◌∷◌, replicate, Option, Some, None, codes}
use Rattle.basic_tree.specs.declared.names.Name.{Name}
use Rattle.basic_tree.specs.declared.expressions.Operator.TheVariants as operator
use Rattle.basic_tree.specs.declared.expressions.Relation.TheVariants as relation
use Rattle.basic_tree.specs.declared.expressions.Function.TheVariants as function
use Rattle.basic_tree.specs.declared.parts.OpenFor.TheVariants as purpose
use Rattle.basic_tree.specs.Trees.{Literal, Quoted, Variable, FunctionOf, Operation, Comparison, NoTrees, AndTrees, While, StatementClause, NoElse, StatementTree, IfThen, Modified, For, Next, Let, Goto, OnErrorGoto, Resume, End, Sleep, Open, Close, Get, Put, Field, Lset}
use Rattle.basic_tree.specs.ProgramLines.{Lines}
use Rattle.drill_deck.specs.DrillDeck.{drill_account}
use Rattle.job_model.specs.Act.{Break, Left}
use Rattle.program_model.specs.Program.{Program, Position, whole}
use Rattle.program_model.specs.Job.{Job, Leaving, Ended, Chained}
use Rattle.program_model.specs.Running.{Begin, cleared, runs}
use Rattle.session_model.specs.Talk as talk
use Rattle.monitor_calls.specs.Typing.{Typing}
use Rattle.channels.specs.declared.states.ChannelState.{ChannelState}
use Rattle.channels.specs.declared.states.Waiting.TheVariants.{Nothing}
use Rattle.record_fields.specs.declared.sizes.RecordSize.TheVariants.{One}
use Rattle.channels.specs.Files.{closed_channel}
use Rattle.drill_talk.specs.Laws.{drill_counting}
use Rattle.drill_talk.proofs.Safe.{Safe}

-- the lines of the program, by their numbers
abbrev pub drill_lines : Lines
drill_lines =
    (10, codes " ON ERROR GOTO 100")
    ∷ (20, codes " OPEN \"COUNT.DAT\" AS FILE 1%, MODE 1%")
    ∷ (30, codes " FIELD #1%, 2% AS C$")
    ∷ (40, codes " FOR I%=1% TO 20%")
    ∷ (50, codes " GET #1%, RECORD 1%")
    ∷ (60, codes " LSET C$=CVT%$(CVT$%(C$)+1%)")
    ∷ (70, codes " PUT #1%, RECORD 1%")
    ∷ (80, codes " NEXT I%")
    ∷ (90, codes " CLOSE 1% : GOTO 130")
    ∷ (100, codes " IF ERR<>19% THEN ON ERROR GOTO 0")
    ∷ (110, codes " K%=0% : K%=K%+1% WHILE K%<1000%")
    ∷ (120, codes " SLEEP 1% : RESUME")
    ∷ (130, codes " END") ∷ []

abbrev pub name_c : Name
name_c = record { letter = 67; digit = None; text = true }

abbrev pub name_i : Name
name_i = record { letter = 73; digit = None; text = false }

abbrev pub name_k : Name
name_k = record { letter = 75; digit = None; text = false }

abbrev pub counts_up : StatementTree
counts_up = Lset name_c (FunctionOf function.CvtToText (AndTrees (Operation (FunctionOf function.CvtToNumber (AndTrees (Variable name_c) NoTrees)) operator.Plus (Literal 1)) NoTrees))

abbrev pub waits_on : StatementTree
waits_on = Modified (Let false (Variable name_k ∷ []) (Operation (Variable name_k) operator.Plus (Literal 1))) (While (Comparison (Variable name_k) relation.Less (Literal 1000)))

abbrev pub drill_program : Program
drill_program =
    record { number = 10; statements = OnErrorGoto (Some 100) ∷ [] }
    ∷ record { number = 20; statements = Open (Quoted (codes "COUNT.DAT")) purpose.Either false (Literal 1) None None (Some (Literal 1)) ∷ [] }
    ∷ record { number = 30; statements = Field (Literal 1) (record { width = Literal 2; name = name_c } ∷ []) ∷ [] }
    ∷ record { number = 40; statements = For name_i (Literal 1) (Literal 20) None ∷ [] }
    ∷ record { number = 50; statements = Get (Literal 1) (Some (Literal 1)) ∷ [] }
    ∷ record { number = 60; statements = counts_up ∷ [] }
    ∷ record { number = 70; statements = Put (Literal 1) (Some (Literal 1)) ∷ [] }
    ∷ record { number = 80; statements = Next name_i ∷ [] }
    ∷ record { number = 90; statements = Close (record { hash = false; number = Literal 1 } ∷ []) ∷ Goto false 130 ∷ [] }
    ∷ record { number = 100; statements = IfThen (Comparison (FunctionOf function.Err NoTrees) relation.Different (Literal 19)) (StatementClause (OnErrorGoto (Some 0))) NoElse ∷ [] }
    ∷ record { number = 110; statements = Let false (Variable name_k ∷ []) (Literal 0) ∷ waits_on ∷ [] }
    ∷ record { number = 120; statements = Sleep (Literal 1) ∷ Resume None ∷ [] }
    ∷ record { number = 130; statements = End ∷ [] } ∷ []

-- the job before RUNNH, with this screen, and when its program begins
abbrev pub drill_job : List ℕ → Job Position
drill_job screen = record talk.new_job { account = drill_account; screen = screen }

abbrev pub fresh : List ℕ → Job Position
fresh screen = record (cleared drill_program (drill_job screen)) { line = 130 }

-- a channel with records of one block and no pending data
abbrev pub idle : Bool → Bool → ℕ → ℕ → ℕ → ℕ → ℕ → ChannelState
idle open_now update next recount loaded unread column = record {
  open_now = open_now;
  update = update;
  size = One;
  next = next;
  recount = recount;
  waiting = Nothing;
  loaded = loaded;
  unread = unread;
  column = column;
}

-- channel 1 is such a one, and the other channels are closed
pub record OneChannel (j : Job Position) : Type 0 where
  pub open_now : Bool
  pub update : Bool
  pub next : ℕ
  pub recount : ℕ
  pub loaded : ℕ
  pub unread : ℕ
  pub column : ℕ
  pub channels : j.channels ≡ idle open_now update next recount loaded unread column ∷ replicate 11 closed_channel

-- how the program may end: by no CHAIN
abbrev pub NotChained : Break (Leaving Position) → Type 0
NotChained (Left Chained) = ⊥
NotChained why = Unit {0}

abbrev pub EndsSo : Break (Leaving Position) → Job Position → Type 0
EndsSo (Left Ended) j = OneChannel j
EndsSo why j = NotChained why

-- the program, for at most this many statements, asks only what a counting job may ask, and takes
-- no key
abbrev pub RunCounts : Type 0
RunCounts = (most : ℕ) (screen : List ℕ) (keys : Typing) (kept : Option (List ℕ))
    → Safe drill_counting (λ left _ _ _. left ≡ keys) (λ left _ why j. (left ≡ keys) × EndsSo why j) (runs drill_program most (Begin (whole 0)) (fresh screen)) keys kept

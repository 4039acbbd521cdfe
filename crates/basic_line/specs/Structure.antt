-- What the functions of clauses and lines return, in terms of symbols of the machine, whatever is
-- expected after these.
use Rattle.std.specs.Prelude.{◌≡◌, ℕ, ◌+◌, ◌-◌, ◌<◌, ◌≤◌, Bool, true, false, cond, List, [], ◌∷◌, ◌++◌, length, drop, Option, Some, None, option_map, map, Result, Ok, Err}
use Rattle.std.specs.Global.{Vec}
use Rattle.basic_expr.specs.declared.failures.Failure.{Failure}
use Rattle.basic_expr.specs.declared.failures.Failure.TheVariants as failure
use Rattle.basic_expr.specs.ParsedSymbols.{First}
use Rattle.basic_tree.specs.declared.statements.Statement.{Statement}
use Rattle.basic_tree.specs.declared.statements.Clause.{Clause}
use Rattle.basic_tree.specs.declared.tokens.Keyword.{Keyword}
use Rattle.basic_tree.specs.declared.tokens.Keyword.TheVariants as keyword
use Rattle.basic_tree.specs.SpellingWords.{Word, Number, most_levels}
use Rattle.basic_tree.specs.SpellingStatements.{wants_else, else_wants_else, clause_wants_else, statements_of}
use Rattle.basic_tree.specs.Trees.{Tree, ClauseTree, LineClause, ElseTree, NoElse, Else, StatementTree, IfThen, IfGoto}
use Rattle.basic_tree.specs.StatementViews.{statement_of, clause_of}
use Rattle.grammar_machine.specs.MachineStack.{Value, Values, Stated, Parsed, Symbol, Go, Form, IfKey, TakeKey, LiteralIn, ClauseIn, AwaitClause, Close, Do, AddStatement, OneStatement, MoreStatements, LineNumber, within}
use Rattle.grammar_machine.specs.MachineForms.{says, else_form}
use Rattle.grammar_machine.specs.MachineSentences as sentences
use Rattle.grammar_machine.specs.MachineSentences.{Sentence, sentence_of}
use Rattle.grammar_machine.specs.MachineJudge.{line_symbols, line_values}
use Rattle.grammar_machine.specs.MachineRun.{Halt, run}
use Rattle.statement_parts.specs.ParsedForms.{halt_at, Behind, From, IsPlaced, Leads, Makes, Halts}
use Rattle.statement_parts.specs.declared.read.Read.{Read}
use Rattle.basic_line.specs.declared.choices.Stated.{Stated as ReadStatement}
use Rattle.basic_line.specs.declared.choices.ClauseRead.{ClauseRead}
use Rattle.basic_line.specs.declared.choices.Otherwise.{Otherwise}
use Rattle.basic_line.specs.declared.sentences.Class.{Class}
use Rattle.basic_line.specs.declared.sentences.Class.TheVariants as class

-- ---- which statement begins at a place

abbrev pub class_as : Class → sentences.Class
class_as class.Choice = sentences.Choice
class_as class.Head = sentences.Head
class_as class.Simple = sentences.Simple

abbrev pub classes : Option Class → Option sentences.Class
classes c = option_map class_as c

abbrev pub class_in : Option Sentence → Option sentences.Class
class_in b = option_map (λ s. s.class) b

-- a statement of the class begins with the first word
pub record SentenceAt (ws : List Word) (from : ℕ) (c : Class) : Type 0 where
  pub word : Word
  pub rest : List Word
  pub sentence : Sentence
  pub first : drop from ws ≡ word ∷ rest
  pub known : sentence_of word ≡ Some sentence
  pub class : sentence.class ≡ class_as c

-- the machine stops at the failure, if this symbol is expected
abbrev pub StopsAt : ℕ → List Word → ℕ → Symbol → Failure → Type 0
StopsAt n ws from s e = (halt : Halt) → halt_at ws e ≡ Some halt → (k : List Symbol) (vs : Values) → run n (drop from ws) (s ∷ k) vs ≡ Err halt

-- whether a word can be a line number
abbrev pub is_line_number : Word → Bool
is_line_number (Number n) = within LineNumber n
is_line_number other = false

-- no statement begins there, and no clause, unless a line number is there
abbrev pub Nothing : List Word → ℕ → Type 0
Nothing ws from =
    ((n : ℕ) (k : List Symbol) (ss : List (Option StatementTree)) (vs : Values) → run n (drop from ws) (OneStatement ∷ k) (Parsed ss ∷ vs) ≡ run n (drop from ws) k (Parsed (ss ++ None ∷ []) ∷ vs))
    × (First is_line_number (drop from ws) → (n : ℕ) (g : ClauseTree → Form) → StopsAt n ws from (Go (ClauseIn g)) (failure.Wrong from))

-- ---- whole statements

-- the words up to the end are a statement of the line
abbrev pub StatesLine : ℕ → List Word → ℕ → ℕ → StatementTree → Type 0
StatesLine n ws from end s = (k : List Symbol) (vs : Values) → run n (drop from ws) (OneStatement ∷ k) vs ≡ run n (drop end ws) (Do AddStatement ∷ k) (Stated s ∷ vs)

-- the words up to the end are a statement that is a clause
abbrev pub StatesClause : ℕ → List Word → ℕ → ℕ → StatementTree → Type 0
StatesClause n ws from end s = (g : ClauseTree → Form) (k : List Symbol) (vs : Values) → run n (drop from ws) (Go (ClauseIn g) ∷ k) vs ≡ run n (drop end ws) (Close ∷ AwaitClause g ∷ k) (Stated s ∷ vs)

abbrev pub StopsClause : ℕ → List Word → ℕ → Failure → Type 0
StopsClause n ws from e = (g : ClauseTree → Form) → StopsAt n ws from (Go (ClauseIn g)) e

-- ---- what is read, or where the machine stops

-- a statement with its modifiers, which is allowed in the line and in a clause
abbrev pub StatesSimple : ℕ → List Word → ℕ → Result (Read Statement) Failure → Type 0
StatesSimple n ws from (Ok x) = Behind ws from x.end × StatesLine n ws from x.end (statement_of x.value) × StatesClause n ws from x.end (statement_of x.value) × (wants_else (statement_of x.value) ≡ false)
StatesSimple n ws from (Err e) = IsPlaced ws e × StopsAt n ws from OneStatement e × StopsClause n ws from e

-- ---- choices

-- a keyword that opens a nesting level is there
abbrev pub OpensKey : List Word → ℕ → Keyword → Type 0
OpensKey ws from key =
    (from < length ws)
    × ((n : ℕ) (f h : Form) → 0 < n → Leads n (n - 1) ws from (from + 1) (IfKey true key f h) f)
    × ((f h : Form) → Halts 0 ws from (IfKey true key f h) (failure.TooDeep from))

-- a line number is there; as a clause it ends the clause's nesting level
abbrev pub IsLineNumber : List Word → ℕ → ℕ → Type 0
IsLineNumber ws from line =
    (from < length ws)
    × ((n : ℕ) (g : ℕ → Form) → Leads n n ws from (from + 1) (LiteralIn LineNumber g) (g line))
    × ((n : ℕ) (g : ClauseTree → Form) → 0 < n → Leads (n - 1) n ws from (from + 1) (ClauseIn g) (g (LineClause line)))

abbrev pub NoLineNumber : List Word → ℕ → Type 0
NoLineNumber ws from = First is_line_number (drop from ws) × ((n : ℕ) (g : ℕ → Form) → Halts n ws from (LiteralIn LineNumber g) (failure.Wrong from))

-- the line number that a word is
abbrev pub line_in : Word → Option ℕ
line_in (Number n) = cond (within LineNumber n) (Some n) None
line_in other = None

-- the words up to the end lead from a form to a value, and out of the innermost of this many
-- nesting levels
abbrev pub LeadsOut : ℕ → List Word → ℕ → ℕ → Form → Value → Type 0
LeadsOut n ws from end f v = (k : List Symbol) (vs : Values) → run (n - 1) (drop from ws) (Go f ∷ k) vs ≡ run n (drop end ws) k (v ∷ vs)

-- ELSE and its clause, or nothing
abbrev pub else_tree : Option Clause → ElseTree
else_tree None = NoElse
else_tree (Some clause) = Else (clause_of clause)

-- after THEN
abbrev pub then_form : Tree → Form
then_form condition = ClauseIn (λ clause. else_form (clause_wants_else clause) (λ otherwise. says (IfThen condition clause otherwise)))

-- after a condition without THEN
abbrev pub goto_form : Tree → Form
goto_form condition = TakeKey false keyword.Goto (LiteralIn LineNumber (λ n. else_form false (λ otherwise. says (IfGoto condition n otherwise))))

-- an IF of this form, and whether an ELSE after it would belong to it
abbrev pub StatesIf : ℕ → List Word → ℕ → Form → Result ReadStatement Failure → Type 0
StatesIf n ws from f (Ok x) = Behind ws from x.end × Makes n ws from x.end f (Stated (statement_of x.statement)) × (x.takes_else ≡ wants_else (statement_of x.statement))
StatesIf n ws from f (Err e) = IsPlaced ws e × Halts n ws from f e

-- what follows THEN, whose nesting level is the innermost of this many
abbrev pub StatesThen : ℕ → List Word → ℕ → Tree → Result ReadStatement Failure → Type 0
StatesThen n ws from condition (Ok x) = Behind ws from x.end × LeadsOut n ws from x.end (then_form condition) (Stated (statement_of x.statement)) × (x.takes_else ≡ wants_else (statement_of x.statement))
StatesThen n ws from condition (Err e) = IsPlaced ws e × Halts (n - 1) ws from (then_form condition) e

-- ELSE and its clause, or nothing
abbrev pub StatesElse : ℕ → List Word → ℕ → Bool → Result Otherwise Failure → Type 0
StatesElse n ws from taken (Ok x) = From ws from x.end × ((g : ElseTree → Form) → Leads n n ws from x.end (else_form taken g) (g (else_tree x.clause))) × (x.takes_else ≡ else_wants_else (else_tree x.clause))
StatesElse n ws from taken (Err e) = IsPlaced ws e × ((g : ElseTree → Form) → Halts n ws from (else_form taken g) e)

-- a clause, with which the innermost of this many nesting levels ends
abbrev pub StatesClauseIn : ℕ → List Word → ℕ → Result ClauseRead Failure → Type 0
StatesClauseIn n ws from (Ok x) = Behind ws from x.end × ((g : ClauseTree → Form) → Leads (n - 1) n ws from x.end (ClauseIn g) (g (clause_of x.clause))) × (x.takes_else ≡ clause_wants_else (clause_of x.clause))
StatesClauseIn n ws from (Err e) = IsPlaced ws e × StopsClause (n - 1) ws from e

-- ---- lines

-- the words up to the end are what is between two separators: a statement or nothing
abbrev pub IsPlace : ℕ → List Word → ℕ → ℕ → Option Statement → Type 0
IsPlace n ws from end s = (k : List Symbol) (ss : List (Option StatementTree)) (vs : Values) → run n (drop from ws) (OneStatement ∷ k) (Parsed ss ∷ vs) ≡ run n (drop end ws) k (Parsed (ss ++ option_map statement_of s ∷ []) ∷ vs)

abbrev pub in_list : Option Statement → List Statement
in_list None = []
in_list (Some s) = s ∷ []

-- from its first word the machine comes to this place, where more statements may follow after a
-- separator
pub record LineSoFar (ws : List Word) (place : ℕ) (statements : List Statement) : Type 0 where
  pub first : Option StatementTree
  pub others : List (Option StatementTree)
  pub runs : run most_levels ws line_symbols line_values ≡ run most_levels (drop place ws) (MoreStatements ∷ []) (Parsed (first ∷ others) ∷ [])
  pub stated : map statement_of statements ≡ statements_of (first ∷ others)
  pub within : place ≤ length ws

-- the line ends at this place
pub record LineEnds (ws : List Word) (place : ℕ) (statements : List Statement) : Type 0 where
  pub first : Option StatementTree
  pub others : List (Option StatementTree)
  pub runs : run most_levels ws line_symbols line_values ≡ Ok (Parsed (first ∷ others) ∷ [], drop place ws)
  pub stated : map statement_of statements ≡ statements_of (first ∷ others)
  pub within : place ≤ length ws

-- the machine stops in the line
abbrev pub LineStops : List Word → Failure → Type 0
LineStops ws e = (halt : Halt) → halt_at ws e ≡ Some halt → run most_levels ws line_symbols line_values ≡ Err halt

-- ---- lines that are read, or where the machine stops

-- a statement of the line
abbrev pub StatesOne : List Word → ℕ → Result (Read Statement) Failure → Type 0
StatesOne ws from (Ok x) = Behind ws from x.end × StatesLine most_levels ws from x.end (statement_of x.value)
StatesOne ws from (Err e) = IsPlaced ws e × StopsAt most_levels ws from OneStatement e

-- what is between two separators: a statement, added to those before, or nothing
abbrev pub StatesPlace : List Word → ℕ → List Statement → List Statement → Result ℕ Failure → Type 0
StatesPlace ws from before after (Ok end) = From ws from end × ((s : Option Statement) × IsPlace most_levels ws from end s × (after ≡ before ++ in_list s))
StatesPlace ws from before after (Err e) = IsPlaced ws e × StopsAt most_levels ws from OneStatement e

-- all statements of the line
abbrev pub StatesAll : List Word → Result (Read (Vec Statement)) Failure → Type 0
StatesAll ws (Ok x) = LineEnds ws x.end x.value.items
StatesAll ws (Err e) = IsPlaced ws e × LineStops ws e

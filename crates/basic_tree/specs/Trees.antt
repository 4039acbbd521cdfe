-- Trees without pointers. Each case is a production of the grammar, with its parts in the order of
-- the source.
use Rattle.std.specs.Prelude.{ℕ, Bool, List, Option}
use Rattle.basic_tree.specs.declared.names.Name.{Name}
use Rattle.basic_tree.specs.declared.expressions.Operator.{Operator}
use Rattle.basic_tree.specs.declared.expressions.Relation.{Relation}
use Rattle.basic_tree.specs.declared.expressions.Function.{Function}
use Rattle.basic_tree.specs.declared.parts.Shape.{Shape}
use Rattle.basic_tree.specs.declared.parts.FileShape.{FileShape}
use Rattle.basic_tree.specs.declared.parts.Separator.{Separator}
use Rattle.basic_tree.specs.declared.parts.OpenFor.{OpenFor}

mutual
  -- an expression
  pub data Tree : Type 0 where
    Literal : ℕ → Tree
    Quoted : List ℕ → Tree
    Variable : Name → Tree
    -- an element of an array and its subscripts
    Element : Name → Trees → Tree
    -- a function of the language and its arguments
    FunctionOf : Function → Trees → Tree
    -- a function of the program and its arguments
    Call : Name → Trees → Tree
    Parenthesized : Tree → Tree
    Negative : Tree → Tree
    Positive : Tree → Tree
    Not : Tree → Tree
    Operation : Tree → Operator → Tree → Tree
    Comparison : Tree → Relation → Tree → Tree

  -- subscripts or arguments
  pub data Trees : Type 0 where
    NoTrees : Trees
    AndTrees : Tree → Trees → Trees

-- what PRINT writes
pub data PrintedTree : Type 0 where
  Value : Tree → PrintedTree
  Tab : Tree → PrintedTree

-- a modifier, which follows a statement
pub data ModifierTree : Type 0 where
  If : Tree → ModifierTree
  Unless : Tree → ModifierTree
  While : Tree → ModifierTree
  Until : Tree → ModifierTree
  -- variable, start, limit and step
  ForModifier : Name → Tree → Tree → Option Tree → ModifierTree

-- an item of PRINT and the separator after it
pub record PrintItemTree : Type 0 where
  pub printed : PrintedTree
  pub separator : Separator

-- the channel of PRINT, and whether a comma follows it
pub record PrintChannelTree : Type 0 where
  pub number : Tree
  pub comma : Bool

-- a value of PRINT USING and the separator after it
pub record UsingItemTree : Type 0 where
  pub value : Tree
  pub separator : Separator

-- the value that MAT stores in its array: a constant, or computed from arrays by their names
pub data MatrixTree : Type 0 where
  Zero : MatrixTree
  One : MatrixTree
  Identity : MatrixTree
  Copy : Name → MatrixTree
  Sum : Name → Name → MatrixTree
  Difference : Name → Name → MatrixTree
  Product : Name → Name → MatrixTree
  -- a number times an array
  Scaled : Tree → Name → MatrixTree
  Transposed : Name → MatrixTree

-- the prompt of INPUT and the separator after it
pub record PromptTree : Type 0 where
  pub text : List ℕ
  pub separator : Separator

-- the line of CHAIN, and whether the word LINE is before it
pub record ChainLineTree : Type 0 where
  pub word : Bool
  pub number : Tree

-- a channel of CLOSE, and whether `#` is before it
pub record CloseChannelTree : Type 0 where
  pub hash : Bool
  pub number : Tree

-- a part of FIELD
pub record FieldPartTree : Type 0 where
  pub width : Tree
  pub name : Name

mutual
  -- what an IF runs: a line, or a statement
  pub data ClauseTree : Type 0 where
    LineClause : ℕ → ClauseTree
    StatementClause : StatementTree → ClauseTree

  -- nothing, or ELSE and a clause
  pub data ElseTree : Type 0 where
    NoElse : ElseTree
    Else : ClauseTree → ElseTree

  -- a statement. A `Bool` says whether an optional word or sign was written that does not change
  -- the meaning
  pub data StatementTree : Type 0 where
    IfThen : Tree → ClauseTree → ElseTree → StatementTree
    IfGoto : Tree → ℕ → ElseTree → StatementTree
    Modified : StatementTree → ModifierTree → StatementTree
    -- variable, start, limit and step
    For : Name → Tree → Tree → Option Tree → StatementTree
    Next : Name → StatementTree
    FnEnd : StatementTree
    Data : List (List ℕ) → StatementTree
    Dim : List Shape → StatementTree
    DimFile : ℕ → List FileShape → StatementTree
    -- function, parameters, and the value of a function of one line
    Def : Name → List Name → Option Tree → StatementTree
    -- the word LET, targets and value
    Let : Bool → List Tree → Tree → StatementTree
    Result : Name → Tree → StatementTree
    -- channel, items with their separators, and the last item
    Print : Option PrintChannelTree → List PrintItemTree → Option PrintedTree → StatementTree
    -- channel, format, values with their separators, and the last value
    PrintUsing : Option Tree → Tree → List UsingItemTree → Option Tree → StatementTree
    -- channel, prompt and targets
    Input : Option Tree → Option PromptTree → List Tree → StatementTree
    InputLine : Option Tree → Name → StatementTree
    Read : List Tree → StatementTree
    Restore : StatementTree
    -- whether it was written as two words, and the line
    Goto : Bool → ℕ → StatementTree
    Gosub : Bool → ℕ → StatementTree
    Return : StatementTree
    OnGoto : Tree → List ℕ → StatementTree
    OnGosub : Tree → List ℕ → StatementTree
    OnErrorGoto : Option ℕ → StatementTree
    Resume : Option ℕ → StatementTree
    Stop : StatementTree
    End : StatementTree
    Chain : Tree → Option ChainLineTree → StatementTree
    Sleep : Tree → StatementTree
    -- file, purpose, `#`, channel, RECORDSIZE, CLUSTERSIZE and MODE
    Open : Tree → OpenFor → Bool → Tree → Option Tree → Option Tree → Option Tree → StatementTree
    Close : List CloseChannelTree → StatementTree
    -- channel and record
    Get : Tree → Option Tree → StatementTree
    Put : Tree → Option Tree → StatementTree
    Unlock : Tree → StatementTree
    Field : Tree → List FieldPartTree → StatementTree
    Lset : Name → Tree → StatementTree
    Rset : Name → Tree → StatementTree
    Kill : Tree → StatementTree
    -- NAME old AS new
    Rename : Tree → Tree → StatementTree
    MatRead : List Name → StatementTree
    -- array, and the separator after it
    MatPrint : Name → Option Separator → StatementTree
    -- target and value
    MatLet : Name → MatrixTree → StatementTree

-- a line: the statement before the first separator, and the one after each
pub record LineTree : Type 0 where
  pub first : Option StatementTree
  pub others : List (Option StatementTree)

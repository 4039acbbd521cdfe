-- The statements and lines of the code, without pointers.
use Rattle.std.specs.Prelude.{List, map, option_map}
use Rattle.basic_tree.specs.declared.statements.Statement.{Statement, Held-Statement-IfThen-2, None', Some'}
use Rattle.basic_tree.specs.declared.statements.Statement.TheVariants as statement
use Rattle.basic_tree.specs.declared.statements.Clause.{Clause}
use Rattle.basic_tree.specs.declared.statements.Clause.TheVariants as clause
use Rattle.basic_tree.specs.declared.programs.Line.{Line}
use Rattle.basic_tree.specs.Trees.{ClauseTree, LineClause, StatementClause, ElseTree, NoElse, Else, StatementTree, IfThen, IfGoto, Modified, For, Next, FnEnd, Data, Dim, DimFile, Def, Let, Result, Print, Input, InputLine, Read, Restore, Goto, Gosub, Return, OnGoto, OnGosub, OnErrorGoto, Resume, Stop, End, Chain, Sleep, Open, Close, Get, Put, Unlock, Field, Lset, Rset, Kill, Rename, PrintUsing, MatRead, MatPrint, MatLet}
use Rattle.basic_tree.specs.TreeViews.{tree_of, target_of, printed_of, item_of, using_item_of, matrix_of, print_channel_of, prompt_of, chain_line_of, close_channel_of, field_part_of, modifier_of}

abbrev mutual
  pub statement_of : Statement → StatementTree
  statement_of (statement.IfThen' condition then otherwise) = IfThen (tree_of condition) (clause_of then) (else_of otherwise)
  statement_of (statement.IfGoto' condition n otherwise) = IfGoto (tree_of condition) n (else_of otherwise)
  statement_of (statement.Modified' p s m) = Modified (statement_of s) (modifier_of m)
  statement_of (statement.For v start limit step) = For v (tree_of start) (tree_of limit) (option_map tree_of step)
  statement_of (statement.Next v) = Next v
  statement_of statement.FnEnd = FnEnd
  statement_of (statement.Data items) = Data items
  statement_of (statement.Dim shapes) = Dim shapes
  statement_of (statement.DimFile c shapes) = DimFile c shapes
  statement_of (statement.Def f parameters value) = Def f parameters (option_map tree_of value)
  statement_of (statement.Let word targets value) = Let word (map target_of targets) (tree_of value)
  statement_of (statement.Result f value) = Result f (tree_of value)
  statement_of (statement.Print c items last) = Print (option_map print_channel_of c) (map item_of items) (option_map printed_of last)
  statement_of (statement.PrintUsing c format values last) =
      PrintUsing (option_map tree_of c) (tree_of format) (map using_item_of values) (option_map tree_of last)
  statement_of (statement.Input c p targets) = Input (option_map tree_of c) (option_map prompt_of p) (map target_of targets)
  statement_of (statement.InputLine c v) = InputLine (option_map tree_of c) v
  statement_of (statement.Read targets) = Read (map target_of targets)
  statement_of statement.Restore = Restore
  statement_of (statement.Goto apart n) = Goto apart n
  statement_of (statement.Gosub apart n) = Gosub apart n
  statement_of statement.Return = Return
  statement_of (statement.OnGoto e ns) = OnGoto (tree_of e) ns
  statement_of (statement.OnGosub e ns) = OnGosub (tree_of e) ns
  statement_of (statement.OnErrorGoto n) = OnErrorGoto n
  statement_of (statement.Resume n) = Resume n
  statement_of statement.Stop = Stop
  statement_of statement.End = End
  statement_of (statement.Chain e l) = Chain (tree_of e) (option_map chain_line_of l)
  statement_of (statement.Sleep e) = Sleep (tree_of e)
  statement_of (statement.Open file purpose hash c size cluster mode) =
      Open (tree_of file) purpose hash (tree_of c) (option_map tree_of size) (option_map tree_of cluster) (option_map tree_of mode)
  statement_of (statement.Close cs) = Close (map close_channel_of cs)
  statement_of (statement.Get c block) = Get (tree_of c) (option_map tree_of block)
  statement_of (statement.Put c block) = Put (tree_of c) (option_map tree_of block)
  statement_of (statement.Unlock c) = Unlock (tree_of c)
  statement_of (statement.Field c ps) = Field (tree_of c) (map field_part_of ps)
  statement_of (statement.Lset v e) = Lset v (tree_of e)
  statement_of (statement.Rset v e) = Rset v (tree_of e)
  statement_of (statement.Kill e) = Kill (tree_of e)
  statement_of (statement.Rename old new) = Rename (tree_of old) (tree_of new)
  statement_of (statement.MatRead names) = MatRead names
  statement_of (statement.MatPrint a s) = MatPrint a s
  statement_of (statement.MatLet a v) = MatLet a (matrix_of v)

  pub clause_of : Clause → ClauseTree
  clause_of (clause.Line n) = LineClause n
  clause_of (clause.Statement' p s) = StatementClause (statement_of s)

  -- ELSE and its clause, or nothing
  pub else_of : Held-Statement-IfThen-2 → ElseTree
  else_of None' = NoElse
  else_of (Some' clause) = Else (clause_of clause)

-- the statements of a line
abbrev pub line_of : Line → List StatementTree
line_of line = map statement_of line.statements.items

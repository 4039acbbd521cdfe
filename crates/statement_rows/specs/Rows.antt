-- The table entries of statements by their first words: what follows the word, and the statement
-- that is built from it.
use Rattle.std.specs.Prelude.{ℕ, Bool, true, false, List, [], ◌∷◌, Option, Some, None}
use Rattle.basic_tree.specs.declared.tokens.Keyword.{Keyword}
use Rattle.basic_tree.specs.declared.tokens.Keyword.TheVariants as keyword
use Rattle.basic_tree.specs.declared.tokens.Sign.TheVariants as sign
use Rattle.basic_tree.specs.declared.kinds.Want.TheVariants as want
use Rattle.basic_tree.specs.declared.parts.OpenFor.{OpenFor}
use Rattle.basic_tree.specs.Trees.{Tree, StatementTree, For, Next, FnEnd, Data, Let, Read, Restore, Goto, Gosub, Resume, Open, Close, Field, Return, Stop, End, Sleep, Get, Put, Unlock, Lset, Rset, Kill, Rename}
use Rattle.grammar_machine.specs.MachineStack.{Form, TakeKey}
use Rattle.grammar_machine.specs.MachineForms.{says}
use Rattle.statement_rows.specs.declared.piece.Piece.{Piece}
use Rattle.statement_rows.specs.declared.piece.Piece.TheVariants as piece
use Rattle.statement_rows.specs.Pieces.{row_form}
use Rattle.statement_rows.specs.Slots.{SlotTrees, behind_first, first_option, first_tree, nothing_read}

-- what follows a word whose statement has a table entry
abbrev pub row_of : Keyword → Option (List Piece)
row_of keyword.For = Some (piece.Range ∷ [])
row_of keyword.Next = Some (piece.Variable want.Number ∷ [])
row_of keyword.FnEnd = Some []
row_of keyword.Data = Some (piece.Items ∷ [])
row_of keyword.Let = Some (piece.Assigned ∷ [])
row_of keyword.Read = Some (piece.Targets ∷ [])
row_of keyword.Restore = Some []
row_of keyword.Goto = Some (piece.Line ∷ [])
row_of keyword.Gosub = Some (piece.Line ∷ [])
row_of keyword.Go = Some (piece.Either keyword.To keyword.Sub ∷ piece.Line ∷ [])
row_of keyword.Return = Some []
row_of keyword.Resume = Some (piece.PerhapsLine ∷ [])
row_of keyword.Stop = Some []
row_of keyword.End = Some []
row_of keyword.Sleep = Some (piece.Value want.Number ∷ [])
row_of keyword.Open =
    Some (piece.Value want.Text ∷ piece.Purpose ∷ piece.Key keyword.As ∷ piece.Key keyword.File
    ∷ piece.Mark sign.Hash ∷ piece.Value want.Number ∷ piece.OpenOptions ∷ [])
row_of keyword.Close = Some (piece.Channels ∷ [])
row_of keyword.Get = Some (piece.Sign sign.Hash ∷ piece.Value want.Number ∷ piece.Option keyword.Record ∷ [])
row_of keyword.Put = Some (piece.Sign sign.Hash ∷ piece.Value want.Number ∷ piece.Option keyword.Record ∷ [])
row_of keyword.Unlock = Some (piece.Sign sign.Hash ∷ piece.Value want.Number ∷ [])
row_of keyword.Field = Some (piece.Sign sign.Hash ∷ piece.Value want.Number ∷ piece.Sign sign.Comma ∷ piece.Fields ∷ [])
row_of keyword.Lset = Some (piece.Variable want.Text ∷ piece.Sign sign.Equal ∷ piece.Value want.Text ∷ [])
row_of keyword.Rset = Some (piece.Variable want.Text ∷ piece.Sign sign.Equal ∷ piece.Value want.Text ∷ [])
row_of keyword.Kill = Some (piece.Value want.Text ∷ [])
row_of keyword.Name = Some (piece.Value want.Text ∷ piece.Key keyword.As ∷ piece.Value want.Text ∷ [])
row_of other = None

-- a jump; true: it is written as two words
abbrev pub gone : Bool → ℕ → StatementTree
gone true line = Goto true line
gone false line = Gosub true line

-- OPEN from what was read after it
abbrev pub opened : SlotTrees → StatementTree
opened s =
    Open (first_tree s.values) s.purpose s.mark (first_tree (behind_first s.values))
    (first_option s.options) (first_option (behind_first s.options)) (first_option (behind_first (behind_first s.options)))

-- the same, from these expressions and marks
abbrev pub opened_of : List Tree → List (Option Tree) → OpenFor → Bool → StatementTree
opened_of values options purpose hash = opened (record nothing_read { values = values; options = options; purpose = purpose; mark = hash })

-- the statements on files and on fields of a record, and END
abbrev pub file_built : Keyword → SlotTrees → StatementTree
file_built keyword.Open s = opened s
file_built keyword.Close s = Close s.channels
file_built keyword.Get s = Get (first_tree s.values) (first_option s.options)
file_built keyword.Put s = Put (first_tree s.values) (first_option s.options)
file_built keyword.Unlock s = Unlock (first_tree s.values)
file_built keyword.Field s = Field (first_tree s.values) s.fields
file_built keyword.Lset s = Lset s.variable (first_tree s.values)
file_built keyword.Rset s = Rset s.variable (first_tree s.values)
file_built keyword.Kill s = Kill (first_tree s.values)
file_built keyword.Name s = Rename (first_tree s.values) (first_tree (behind_first s.values))
file_built other s = End

-- the statement of such a word, from what was read after it
abbrev pub built : Keyword → SlotTrees → StatementTree
built keyword.For s = For s.variable (first_tree s.values) (first_tree (behind_first s.values)) (first_option s.options)
built keyword.Next s = Next s.variable
built keyword.FnEnd s = FnEnd
built keyword.Data s = Data s.items
built keyword.Let s = Let true s.targets (first_tree s.values)
built keyword.Read s = Read s.targets
built keyword.Restore s = Restore
built keyword.Goto s = Goto false s.number
built keyword.Gosub s = Gosub false s.number
built keyword.Go s = gone s.mark s.number
built keyword.Return s = Return
built keyword.Resume s = Resume s.perhaps_line
built keyword.Stop s = Stop
built keyword.Sleep s = Sleep (first_tree s.values)
built other s = file_built other s

-- the form of a statement of such a word and its table entry
abbrev pub statement_form : Keyword → List Piece → Form
statement_form k row = TakeKey false k (row_form row nothing_read (λ s. says (built k s)))

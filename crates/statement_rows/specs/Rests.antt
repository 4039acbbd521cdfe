-- The table entries after a first word, if the next word decides, and the statements that are built
-- from them.
use Rattle.std.specs.Prelude.{ℕ, Bool, true, false, List, [], ◌∷◌}
use Rattle.basic_tree.specs.declared.tokens.Keyword.TheVariants as keyword
use Rattle.basic_tree.specs.declared.tokens.Sign.TheVariants as sign
use Rattle.basic_tree.specs.declared.kinds.Want.TheVariants as want
use Rattle.basic_tree.specs.Trees.{Tree, StatementTree, OnErrorGoto, OnGoto, OnGosub, Dim, DimFile, Input, InputLine, MatRead, MatPrint, MatLet}
use Rattle.grammar_machine.specs.MachineStack.{Form}
use Rattle.grammar_machine.specs.MachineForms.{says}
use Rattle.statement_rows.specs.declared.piece.Piece.{Piece}
use Rattle.statement_rows.specs.declared.piece.Piece.TheVariants as piece
use Rattle.statement_rows.specs.declared.rests.Rest.{Rest}
use Rattle.statement_rows.specs.declared.rests.Rest.TheVariants as rest
use Rattle.statement_rows.specs.Pieces.{row_form}
use Rattle.statement_rows.specs.Slots.{SlotTrees, first_option, first_tree, nothing_read}

abbrev pub rest_row : Rest → List Piece
rest_row rest.OnError = piece.Key keyword.Goto ∷ piece.PerhapsLine ∷ []
rest_row rest.OnLines = piece.Value want.Number ∷ piece.Either keyword.Goto keyword.Gosub ∷ piece.Lines ∷ []
rest_row rest.DimFile = piece.Bound ∷ piece.Sign sign.Comma ∷ piece.FileShapes ∷ []
rest_row rest.DimArrays = piece.Shapes ∷ []
rest_row rest.InputLine = piece.PerhapsChannel ∷ piece.Variable want.Text ∷ []
rest_row rest.InputTargets = piece.Source ∷ piece.Targets ∷ []
rest_row rest.MatRead = piece.Arrays ∷ []
rest_row rest.MatPrint = piece.Variable want.Number ∷ piece.PerhapsSeparator ∷ []
rest_row rest.MatLet = piece.Variable want.Number ∷ piece.Sign sign.Equal ∷ piece.Matrix ∷ []

-- ON .. GOTO or ON .. GOSUB
abbrev pub on_lines : Bool → Tree → List ℕ → StatementTree
on_lines true selector lines = OnGoto selector lines
on_lines false selector lines = OnGosub selector lines

abbrev pub rest_built : Rest → SlotTrees → StatementTree
rest_built rest.OnError s = OnErrorGoto s.perhaps_line
rest_built rest.OnLines s = on_lines s.mark (first_tree s.values) s.lines
rest_built rest.DimFile s = DimFile s.number s.file_shapes
rest_built rest.DimArrays s = Dim s.shapes
rest_built rest.InputLine s = InputLine (first_option s.options) s.variable
rest_built rest.InputTargets s = Input (first_option s.options) s.prompt s.targets
rest_built rest.MatRead s = MatRead s.arrays
rest_built rest.MatPrint s = MatPrint s.variable s.separator
rest_built rest.MatLet s = MatLet s.variable s.matrix

abbrev pub rest_form : Rest → Form
rest_form r = row_form (rest_row r) nothing_read (λ s. says (rest_built r s))

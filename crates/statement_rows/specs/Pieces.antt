-- The machine's form of a piece and of a table entry, and the result of reading them.
use Rattle.std.specs.Prelude.{ℕ, ◌≤◌, true, false, List, [], ◌∷◌, length, drop, Option, Some, None, option_map, Result, Ok, Err}
use Rattle.basic_expr.specs.declared.failures.Failure.{Failure}
use Rattle.basic_tree.specs.declared.tokens.Keyword.TheVariants as keyword
use Rattle.basic_tree.specs.declared.tokens.Sign.TheVariants as sign
use Rattle.basic_tree.specs.declared.kinds.Want.TheVariants as want
use Rattle.basic_tree.specs.declared.parts.OpenFor.TheVariants as open_for
use Rattle.basic_tree.specs.declared.parts.Separator.TheVariants as separator
use Rattle.basic_tree.specs.SpellingWords.{Word}
use Rattle.grammar_machine.specs.MachineStack.{Form, TakeKey, TakeSign, IfKey, IfSign, ExprOf, NameIn, LiteralIn, LiteralIf, QuotedIf, LineNumber, Bound, Targets, Channels, FieldParts, Lines, Arrays, Shapes, FileShapes}
use Rattle.grammar_machine.specs.MachineForms.{number_option, range_form, matrix_form, list_form, options_form, targets_in, channels_in, parts_in, lines_in, names_in, shapes_in, files_in}
use Rattle.statement_parts.specs.declared.read.Read.{Read}
use Rattle.statement_lists.specs.ListForms.{assigned_form}
use Rattle.statement_parts.specs.Forms.{items_form}
use Rattle.statement_parts.specs.ParsedForms.{From, Halts, IsPlaced, Leads, PartsFrom}
use Rattle.statement_rows.specs.declared.piece.Piece.{Piece}
use Rattle.statement_rows.specs.declared.piece.Piece.TheVariants as piece
use Rattle.statement_rows.specs.declared.part.Part.{Part}
use Rattle.statement_rows.specs.declared.slots.Slots.{Slots}
use Rattle.statement_rows.specs.Slots.{PartTree, MarkPart, ValuePart, PerhapsPart, VariablePart, NumberPart, PerhapsLinePart, PurposePart, OptionsPart, SourcePart, SeparatorPart, MatrixPart, RangePart, AssignedPart, TargetsPart, ChannelsPart, FieldsPart, LinesPart, ItemsPart, ArraysPart, ShapesPart, FileShapesPart, SlotTrees, added, nothing_read, part_of, slots_of}

-- ---- forms

-- after the prompt of an INPUT
abbrev pub prompted_form : List ℕ → (Option PartTree → Form) → Form
prompted_form text f =
    IfSign false sign.Semicolon (f (Some (SourcePart None (Some (record { text = text; separator = separator.Semicolon })))))
    (TakeSign false sign.Comma (f (Some (SourcePart None (Some (record { text = text; separator = separator.Comma }))))))

-- a piece, and what follows it as a function of what it gives: a keyword or a sign gives nothing
abbrev pub piece_form : Piece → (Option PartTree → Form) → Form
piece_form (piece.Key k) f = TakeKey false k (f None)
piece_form (piece.Sign s) f = TakeSign false s (f None)
piece_form (piece.Either k l) f = IfKey false k (f (Some (MarkPart true))) (TakeKey false l (f (Some (MarkPart false))))
piece_form (piece.Mark s) f = IfSign false s (f (Some (MarkPart true))) (f (Some (MarkPart false)))
piece_form (piece.Value w) f = ExprOf w (λ t. f (Some (ValuePart t)))
piece_form (piece.Option k) f = number_option k (λ t. f (Some (PerhapsPart t)))
piece_form piece.PerhapsChannel f =
    IfSign false sign.Hash (ExprOf want.Number (λ c. TakeSign false sign.Comma (f (Some (PerhapsPart (Some c))))))
    (f (Some (PerhapsPart None)))
piece_form (piece.Variable w) f = NameIn w (λ name. f (Some (VariablePart name)))
piece_form piece.Line f = LiteralIn LineNumber (λ n. f (Some (NumberPart n)))
piece_form piece.PerhapsLine f = LiteralIf Bound (λ n. f (Some (PerhapsLinePart (Some n)))) (f (Some (PerhapsLinePart None)))
piece_form piece.Bound f = LiteralIn Bound (λ n. f (Some (NumberPart n)))
piece_form piece.Purpose f =
    IfKey false keyword.For
    (IfKey false keyword.Input (f (Some (PurposePart open_for.Input)))
    (TakeKey false keyword.Output (f (Some (PurposePart open_for.Output)))))
    (f (Some (PurposePart open_for.Either)))
piece_form piece.OpenOptions f = options_form (λ size cluster mode. f (Some (OptionsPart size cluster mode)))
piece_form piece.Source f =
    IfSign false sign.Hash (ExprOf want.Number (λ c. TakeSign false sign.Comma (f (Some (SourcePart (Some c) None)))))
    (QuotedIf (λ text. prompted_form text f) (f (Some (SourcePart None None))))
piece_form piece.PerhapsSeparator f =
    IfSign false sign.Comma (f (Some (SeparatorPart (Some separator.Comma))))
    (IfSign false sign.Semicolon (f (Some (SeparatorPart (Some separator.Semicolon)))) (f (Some (SeparatorPart None))))
piece_form piece.Matrix f = matrix_form (λ m. f (Some (MatrixPart m)))
piece_form piece.Range f = range_form (λ v start limit step. f (Some (RangePart v start limit step)))
piece_form piece.Assigned f = assigned_form (λ ts value. f (Some (AssignedPart ts value)))
piece_form piece.Targets f = list_form (Targets want.Either) (λ items. f (Some (TargetsPart (targets_in items))))
piece_form piece.Channels f = list_form Channels (λ items. f (Some (ChannelsPart (channels_in items))))
piece_form piece.Fields f = list_form FieldParts (λ items. f (Some (FieldsPart (parts_in items))))
piece_form piece.Lines f = list_form Lines (λ items. f (Some (LinesPart (lines_in items))))
piece_form piece.Items f = items_form (λ items. f (Some (ItemsPart items)))
piece_form piece.Arrays f = list_form Arrays (λ items. f (Some (ArraysPart (names_in items))))
piece_form piece.Shapes f = list_form Shapes (λ items. f (Some (ShapesPart (shapes_in items))))
piece_form piece.FileShapes f = list_form FileShapes (λ items. f (Some (FileShapesPart (files_in items))))

-- the pieces of a table entry one after another, and then what is made of all that they gave
abbrev pub row_form : List Piece → SlotTrees → (SlotTrees → Form) → Form
row_form [] read g = g read
row_form (p ∷ ps) read g = piece_form p (λ v. row_form ps (added read v) g)

-- ---- reading

-- what a piece gives, or where the machine stops
abbrev pub PieceRead : ℕ → List Word → ℕ → Piece → Result (Read (Option Part)) Failure → Type 0
PieceRead n ws from p r = PartsFrom n ws from (piece_form p) (λ x g. g (option_map part_of x)) r

-- one more piece was read and added to what was read before it; or where the machine stops
abbrev pub PieceAdded : ℕ → List Word → ℕ → Piece → SlotTrees → SlotTrees → Result ℕ Failure → Type 0
PieceAdded n ws from p old new (Ok end) = From ws from end × ((g : SlotTrees → Form) → Leads n n ws from end (piece_form p (λ v. g (added old v))) (g new))
PieceAdded n ws from p old new (Err e) = IsPlaced ws e × ((g : Option PartTree → Form) → Halts n ws from (piece_form p g) e)

-- what a table entry gives, or where the machine stops
abbrev pub RowRead : ℕ → List Word → ℕ → List Piece → Result (Read Slots) Failure → Type 0
RowRead n ws from row r = PartsFrom n ws from (row_form row nothing_read) (λ x g. g (slots_of x)) r

-- this many pieces of a table entry were read, and gave this
pub record Rowed (n : ℕ) (ws : List Word) (from : ℕ) (row : List Piece) (read : SlotTrees) (count end : ℕ) : Type 0 where
  pub runs : (g : SlotTrees → Form) → Leads n n ws from end (row_form row nothing_read g) (row_form (drop count row) read g)
  pub after : from ≤ end
  pub within : end ≤ length ws

-- What the pieces of a statement give, and what was read of it, by kinds.
use Rattle.std.specs.Prelude.{◌≡◌, ℕ, Bool, false, List, [], ◌∷◌, ◌++◌, map, Option, Some, None, option_map}
use Rattle.basic_tree.specs.declared.names.Name.{Name}
use Rattle.basic_tree.specs.declared.parts.OpenFor.{OpenFor}
use Rattle.basic_tree.specs.declared.parts.OpenFor.TheVariants as open_for
use Rattle.basic_tree.specs.declared.parts.Separator.{Separator}
use Rattle.basic_tree.specs.declared.parts.Shape.{Shape}
use Rattle.basic_tree.specs.declared.parts.FileShape.{FileShape}
use Rattle.basic_tree.specs.Trees.{Tree, Literal, PromptTree, MatrixTree, Zero, CloseChannelTree, FieldPartTree}
use Rattle.basic_tree.specs.TreeViews.{tree_of, matrix_of, prompt_of, target_of, close_channel_of, field_part_of}
use Rattle.statement_rows.specs.declared.part.Part.{Part}
use Rattle.statement_rows.specs.declared.part.Part.TheVariants as part
use Rattle.statement_rows.specs.declared.slots.Slots.{Slots}

-- ---- what a piece gives

pub data PartTree : Type 0 where
  MarkPart : Bool → PartTree
  ValuePart : Tree → PartTree
  PerhapsPart : Option Tree → PartTree
  VariablePart : Name → PartTree
  NumberPart : ℕ → PartTree
  PerhapsLinePart : Option ℕ → PartTree
  PurposePart : OpenFor → PartTree
  OptionsPart : Option Tree → Option Tree → Option Tree → PartTree
  SourcePart : Option Tree → Option PromptTree → PartTree
  SeparatorPart : Option Separator → PartTree
  MatrixPart : MatrixTree → PartTree
  RangePart : Name → Tree → Tree → Option Tree → PartTree
  AssignedPart : List Tree → Tree → PartTree
  TargetsPart : List Tree → PartTree
  ChannelsPart : List CloseChannelTree → PartTree
  FieldsPart : List FieldPartTree → PartTree
  LinesPart : List ℕ → PartTree
  ItemsPart : List (List ℕ) → PartTree
  ArraysPart : List Name → PartTree
  ShapesPart : List Shape → PartTree
  FileShapesPart : List FileShape → PartTree

abbrev pub part_of : Part → PartTree
part_of (part.Mark stands) = MarkPart stands
part_of (part.Value t) = ValuePart (tree_of t)
part_of (part.Perhaps t) = PerhapsPart (option_map tree_of t)
part_of (part.Variable name) = VariablePart name
part_of (part.Number n) = NumberPart n
part_of (part.PerhapsLine n) = PerhapsLinePart n
part_of (part.Purpose p) = PurposePart p
part_of (part.OpenOptions o) = OptionsPart (option_map tree_of o.record_size) (option_map tree_of o.cluster_size) (option_map tree_of o.mode)
part_of (part.Source s) = SourcePart (option_map tree_of s.channel) (option_map prompt_of s.prompt)
part_of (part.PerhapsSeparator s) = SeparatorPart s
part_of (part.Matrix m) = MatrixPart (matrix_of m)
part_of (part.Range r) = RangePart r.variable (tree_of r.start) (tree_of r.limit) (option_map tree_of r.step)
part_of (part.Assigned a) = AssignedPart (map target_of a.targets) (tree_of a.value)
part_of (part.Targets ts) = TargetsPart (map target_of ts)
part_of (part.Channels cs) = ChannelsPart (map close_channel_of cs)
part_of (part.Fields ps) = FieldsPart (map field_part_of ps)
part_of (part.Lines ns) = LinesPart ns
part_of (part.Items texts) = ItemsPart texts
part_of (part.Arrays names) = ArraysPart names
part_of (part.Shapes ss) = ShapesPart ss
part_of (part.FileShapes ss) = FileShapesPart ss

-- ---- what was read: the expressions in order, and the last part of each other kind

pub record SlotTrees : Type 0 where
  pub values : List Tree
  pub options : List (Option Tree)
  pub mark : Bool
  pub variable : Name
  pub number : ℕ
  pub perhaps_line : Option ℕ
  pub purpose : OpenFor
  pub prompt : Option PromptTree
  pub separator : Option Separator
  pub matrix : MatrixTree
  pub targets : List Tree
  pub channels : List CloseChannelTree
  pub fields : List FieldPartTree
  pub lines : List ℕ
  pub items : List (List ℕ)
  pub arrays : List Name
  pub shapes : List Shape
  pub file_shapes : List FileShape

abbrev pub HasNoExpression : SlotTrees → Type 0
HasNoExpression slots = (slots.values ≡ []) × (slots.options ≡ [])

abbrev pub nothing_read : SlotTrees
nothing_read = record {
  values = [];
  options = [];
  mark = false;
  variable = record { letter = 65; digit = None; text = false };
  number = 0;
  perhaps_line = None;
  purpose = open_for.Either;
  prompt = None;
  separator = None;
  matrix = Zero;
  targets = [];
  channels = [];
  fields = [];
  lines = [];
  items = [];
  arrays = [];
  shapes = [];
  file_shapes = [];
}

abbrev pub slots_of : Slots → SlotTrees
slots_of s = record {
  values = map tree_of s.values.items;
  options = map (option_map tree_of) s.options.items;
  mark = s.mark;
  variable = s.variable;
  number = s.number;
  perhaps_line = s.perhaps_line;
  purpose = s.purpose;
  prompt = option_map prompt_of s.prompt;
  separator = s.separator;
  matrix = matrix_of s.matrix;
  targets = map target_of s.targets;
  channels = map close_channel_of s.channels;
  fields = map field_part_of s.fields;
  lines = s.lines;
  items = s.items;
  arrays = s.arrays;
  shapes = s.shapes;
  file_shapes = s.file_shapes;
}

abbrev pub added : SlotTrees → Option PartTree → SlotTrees
added s None = s
added s (Some (MarkPart stands)) = record s { mark = stands }
added s (Some (ValuePart t)) = record s { values = s.values ++ t ∷ [] }
added s (Some (PerhapsPart t)) = record s { options = s.options ++ t ∷ [] }
added s (Some (VariablePart name)) = record s { variable = name }
added s (Some (NumberPart n)) = record s { number = n }
added s (Some (PerhapsLinePart n)) = record s { perhaps_line = n }
added s (Some (PurposePart p)) = record s { purpose = p }
added s (Some (OptionsPart size cluster mode)) = record s { options = ((s.options ++ size ∷ []) ++ cluster ∷ []) ++ mode ∷ [] }
added s (Some (SourcePart channel prompt)) = record s { options = s.options ++ channel ∷ []; prompt = prompt }
added s (Some (SeparatorPart x)) = record s { separator = x }
added s (Some (MatrixPart m)) = record s { matrix = m }
added s (Some (RangePart v start limit step)) =
    record s { variable = v; values = (s.values ++ start ∷ []) ++ limit ∷ []; options = s.options ++ step ∷ [] }
added s (Some (AssignedPart ts value)) = record s { targets = ts; values = s.values ++ value ∷ [] }
added s (Some (TargetsPart ts)) = record s { targets = ts }
added s (Some (ChannelsPart cs)) = record s { channels = cs }
added s (Some (FieldsPart ps)) = record s { fields = ps }
added s (Some (LinesPart ns)) = record s { lines = ns }
added s (Some (ItemsPart texts)) = record s { items = texts }
added s (Some (ArraysPart names)) = record s { arrays = names }
added s (Some (ShapesPart ss)) = record s { shapes = ss }
added s (Some (FileShapesPart ss)) = record s { file_shapes = ss }

-- ---- what is taken from the expressions in order

abbrev pub first_tree : List Tree → Tree
first_tree [] = Literal 0
first_tree (t ∷ ts) = t

abbrev pub first_option : List (Option Tree) → Option Tree
first_option [] = None
first_option (t ∷ ts) = t

abbrev pub behind_first : {A : Type 0} → List A → List A
behind_first [] = []
behind_first (x ∷ xs) = xs

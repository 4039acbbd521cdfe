-- The pieces of statements and lines: how each statement is spelled, and when it is admissible.
-- `pieces_of` has a clause for each statement, in full: it defines the language, so no clause
-- covers several.
use Rattle.std.specs.Prelude.{◌≡◌, ℕ, nat_lt, length, Bool, true, false, not, ◌&&◌, ◌||◌, if◌then◌else◌, List, [], ◌∷◌, ◌++◌, Option, Some, None}
use Rattle.basic_tree.specs.declared.tokens.Keyword.{Keyword}
use Rattle.basic_tree.specs.declared.tokens.Keyword.TheVariants as keyword
use Rattle.basic_tree.specs.declared.tokens.Sign.TheVariants as sign
use Rattle.basic_tree.specs.declared.kinds.Want.TheVariants as want
use Rattle.basic_tree.specs.SpellingWords.{Word, FnNamed, Item, LevelStep, Plain, words}
use Rattle.basic_tree.specs.Trees.{ClauseTree, LineClause, StatementClause, ElseTree, NoElse, Else, StatementTree, IfThen, IfGoto, Modified, For, Next, FnEnd, Data, Dim, DimFile, Def, Let, Result, Print, Input, InputLine, Read, Restore, Goto, Gosub, Return, OnGoto, OnGosub, OnErrorGoto, Resume, Stop, End, Chain, Sleep, Open, Close, Get, Put, Unlock, Field, Lset, Rset, Kill, Rename, PrintUsing, MatRead, MatPrint, MatLet, LineTree}
use Rattle.basic_tree.specs.SpellingExpressions.{want_of}
use Rattle.basic_tree.specs.SpellingPieces.{WordPiece, pieces_steps, ArePieces, perhaps, optional, each, Fixed, NameOf, Holds, key, sign_piece, opening, closing, number, text, line, line_or_zero, bound, target, many}
use Rattle.basic_tree.specs.SpellingParts.{is_parted, has_value, is_one, kind_of_first, shape, file_shape, separator_piece, printed, print_item, using_values, array, matrix, channel, print_channel, channel_and_comma, prompt, range, modifier, parameters, value, chain_line, open_for, option_of, close_channel, field_part}

-- ---- where a statement is allowed

abbrev pub is_if : StatementTree → Bool
is_if (IfThen condition clause otherwise) = true
is_if (IfGoto condition n otherwise) = true
is_if other = false

-- a statement that is allowed in no clause and takes no modifier
abbrev pub is_head : StatementTree → Bool
is_head (For v start limit step) = true
is_head (Next v) = true
is_head FnEnd = true
is_head (Data items) = true
is_head (Dim shapes) = true
is_head (DimFile c shapes) = true
is_head (Def f ps v) = true
is_head other = false

-- the statement ends in an IF without ELSE, so an ELSE that follows belongs to that IF
abbrev mutual
  pub wants_else : StatementTree → Bool
  wants_else (IfThen condition clause otherwise) = else_wants_else otherwise
  wants_else (IfGoto condition n otherwise) = else_wants_else otherwise
  wants_else other = false

  pub else_wants_else : ElseTree → Bool
  else_wants_else NoElse = true
  else_wants_else (Else clause) = clause_wants_else clause

  pub clause_wants_else : ClauseTree → Bool
  clause_wants_else (LineClause n) = false
  clause_wants_else (StatementClause s) = wants_else s

abbrev pub has_else : ElseTree → Bool
has_else NoElse = false
has_else (Else clause) = true

-- ---- pieces

-- the ends of the nesting levels that the modifiers of a statement open
abbrev pub closings : StatementTree → List WordPiece
closings (Modified s m) = closing ∷ closings s
closings other = []

-- GOTO and GOSUB as one word or two
abbrev pub go : Bool → Keyword → Keyword → List WordPiece
go apart second whole = if apart then key keyword.Go ∷ key second ∷ [] else key whole ∷ []

abbrev pub items : List (List ℕ) → List WordPiece
items [] = Holds false ∷ []
items (item ∷ more) = Fixed (Plain (Item item)) ∷ each (λ i. Fixed (Plain (Item i)) ∷ []) more

abbrev mutual
  -- the pieces of a statement, without the ends of the nesting levels that its modifiers open
  pub pieces_of : StatementTree → List WordPiece
  pieces_of (IfThen condition clause otherwise) =
      key keyword.If ∷ number condition ∷ opening keyword.Then
      ∷ (clause_pieces clause ++ closing ∷ Holds (not (has_else otherwise && clause_wants_else clause)) ∷ else_pieces otherwise)
  pieces_of (IfGoto condition n otherwise) =
      key keyword.If ∷ number condition ∷ key keyword.Goto ∷ line n ∷ else_pieces otherwise
  pieces_of (Modified s m) = Holds (not (is_if s || is_head s)) ∷ (pieces_of s ++ modifier m)
  pieces_of (For v start limit step) = key keyword.For ∷ range v start limit step
  pieces_of (Next v) = key keyword.Next ∷ NameOf want.Number v ∷ []
  pieces_of FnEnd = key keyword.FnEnd ∷ []
  pieces_of (Data list) = key keyword.Data ∷ items list
  pieces_of (Dim shapes) = key keyword.Dim ∷ many shape shapes
  pieces_of (DimFile c shapes) =
      key keyword.Dim ∷ sign_piece sign.Hash ∷ bound c ∷ sign_piece sign.Comma ∷ many file_shape shapes
  pieces_of (Def f ps v) =
      key keyword.Def ∷ Fixed (Plain (FnNamed f)) ∷ Holds (nat_lt (length ps) 6)
      ∷ (parameters ps ++ optional (λ t. value f.text t) v)
  pieces_of (Let word ts v) =
      perhaps word (key keyword.Let) ++ many (λ t. target (want_of (kind_of_first ts)) t) ts ++ value (kind_of_first ts) v
  pieces_of (Result f v) = Fixed (Plain (FnNamed f)) ∷ value f.text v
  pieces_of (Print c list last) =
      key keyword.Print ∷ Holds (is_parted c list last)
      ∷ (optional print_channel c ++ each print_item list ++ optional printed last)
  pieces_of (PrintUsing c format values last) =
      key keyword.Print ∷ Holds (has_value values last)
      ∷ (optional channel_and_comma c ++ key keyword.Using ∷ text format ∷ sign_piece sign.Comma ∷ using_values values last)
  pieces_of (Input c p ts) =
      key keyword.Input ∷ Holds (is_one c p)
      ∷ (optional channel_and_comma c ++ optional prompt p ++ many (λ t. target want.Either t) ts)
  pieces_of (InputLine c x) =
      key keyword.Input ∷ key keyword.Line ∷ (optional channel_and_comma c ++ NameOf want.Text x ∷ [])
  pieces_of (Read ts) = key keyword.Read ∷ many (λ t. target want.Either t) ts
  pieces_of Restore = key keyword.Restore ∷ []
  pieces_of (Goto apart n) = go apart keyword.To keyword.Goto ++ line n ∷ []
  pieces_of (Gosub apart n) = go apart keyword.Sub keyword.Gosub ++ line n ∷ []
  pieces_of Return = key keyword.Return ∷ []
  pieces_of (OnGoto t ns) = key keyword.On ∷ number t ∷ key keyword.Goto ∷ many (λ n. line n ∷ []) ns
  pieces_of (OnGosub t ns) = key keyword.On ∷ number t ∷ key keyword.Gosub ∷ many (λ n. line n ∷ []) ns
  pieces_of (OnErrorGoto n) =
      key keyword.On ∷ key keyword.Error ∷ key keyword.Goto ∷ optional (λ m. line_or_zero m ∷ []) n
  pieces_of (Resume n) = key keyword.Resume ∷ optional (λ m. line_or_zero m ∷ []) n
  pieces_of Stop = key keyword.Stop ∷ []
  pieces_of End = key keyword.End ∷ []
  pieces_of (Chain t l) = key keyword.Chain ∷ text t ∷ optional (chain_line t) l
  pieces_of (Sleep t) = key keyword.Sleep ∷ number t ∷ []
  pieces_of (Open file purpose hash c record_size cluster_size mode) =
      key keyword.Open ∷ text file
      ∷ (open_for purpose ++ key keyword.As ∷ key keyword.File
      ∷ (perhaps hash (sign_piece sign.Hash) ++ number c
      ∷ (option_of keyword.RecordSize record_size ++ option_of keyword.ClusterSize cluster_size ++ option_of keyword.Mode mode)))
  pieces_of (Close cs) = key keyword.Close ∷ many close_channel cs
  pieces_of (Get c block) = key keyword.Get ∷ (channel c ++ option_of keyword.Record block)
  pieces_of (Put c block) = key keyword.Put ∷ (channel c ++ option_of keyword.Record block)
  pieces_of (Unlock c) = key keyword.Unlock ∷ channel c
  pieces_of (Field c ps) = key keyword.Field ∷ (channel_and_comma c ++ many field_part ps)
  pieces_of (Lset x v) = key keyword.Lset ∷ NameOf want.Text x ∷ value true v
  pieces_of (Rset x v) = key keyword.Rset ∷ NameOf want.Text x ∷ value true v
  pieces_of (Kill t) = key keyword.Kill ∷ text t ∷ []
  pieces_of (Rename old new) = key keyword.Name ∷ text old ∷ key keyword.As ∷ text new ∷ []
  pieces_of (MatRead arrays) = key keyword.Mat ∷ key keyword.Read ∷ many array arrays
  pieces_of (MatPrint a separator) = key keyword.Mat ∷ key keyword.Print ∷ NameOf want.Number a ∷ optional (λ s. separator_piece s ∷ []) separator
  pieces_of (MatLet a v) = key keyword.Mat ∷ NameOf want.Number a ∷ sign_piece sign.Equal ∷ matrix v

  pub clause_pieces : ClauseTree → List WordPiece
  clause_pieces (LineClause n) = line n ∷ []
  clause_pieces (StatementClause s) = Holds (not (is_head s)) ∷ (pieces_of s ++ closings s)

  pub else_pieces : ElseTree → List WordPiece
  else_pieces NoElse = []
  else_pieces (Else clause) = opening keyword.Else ∷ (clause_pieces clause ++ closing ∷ [])

-- ---- lines

abbrev pub statement_pieces : StatementTree → List WordPiece
statement_pieces s = pieces_of s ++ closings s

abbrev pub line_pieces : LineTree → List WordPiece
line_pieces l =
    optional statement_pieces l.first
    ++ each (λ statement. sign_piece sign.Colon ∷ optional statement_pieces statement) l.others

abbrev pub line_steps : LineTree → List LevelStep
line_steps l = pieces_steps (line_pieces l)

-- every piece of the line is admissible
abbrev pub IsAdmissible : LineTree → Type 0
IsAdmissible l = ArePieces (line_pieces l)

-- the words spell the line
pub record IsLine (spelled : List Word) (l : LineTree) : Type 0 where
  pub admissible : IsAdmissible l
  pub spelling : spelled ≡ words (line_steps l)

-- the statements of a line
abbrev pub statements_of : List (Option StatementTree) → List StatementTree
statements_of [] = []
statements_of (None ∷ others) = statements_of others
statements_of (Some s ∷ others) = s ∷ statements_of others

abbrev pub line_statements : LineTree → List StatementTree
line_statements l = statements_of (l.first ∷ l.others)

-- Every line ends exactly the nesting levels that it opens: proved by its pieces.
use Rattle.std.proofs.Common.{subst, ◌≡◌, ℕ, suc, Bool, true, false, List, [], ◌∷◌, ◌++◌, Option, Some, None, refl, sym, append_assoc}
use Rattle.std.proofs.lemmas.List.{append-nil}
use Rattle.basic_tree.specs.declared.names.Name.{Name}
use Rattle.basic_tree.specs.declared.tokens.Sign.TheVariants as sign
use Rattle.basic_tree.specs.declared.parts.Shape.{Shape}
use Rattle.basic_tree.specs.declared.parts.FileShape.{FileShape}
use Rattle.basic_tree.specs.declared.parts.Separator.{Separator}
use Rattle.basic_tree.specs.declared.parts.Separator.TheVariants as separator
use Rattle.basic_tree.specs.declared.parts.OpenFor.{OpenFor}
use Rattle.basic_tree.specs.declared.parts.OpenFor.TheVariants as purpose
use Rattle.basic_tree.specs.declared.tokens.Keyword.{Keyword}
use Rattle.basic_tree.specs.SpellingWords.{Item, LevelStep, Plain, Opens, Closes}
use Rattle.basic_tree.specs.Trees.{Tree, PrintedTree, Value, Tab, ModifierTree, If, Unless, While, Until, ForModifier, PrintItemTree, PrintChannelTree, UsingItemTree, MatrixTree, Scaled, Transposed, ChainLineTree, CloseChannelTree, PromptTree, ClauseTree, LineClause, StatementClause, ElseTree, NoElse, Else, StatementTree, IfThen, IfGoto, Modified, For, Next, FnEnd, Data, Dim, DimFile, Def, Let, Result, Print, Input, InputLine, Read, Restore, Goto, Gosub, Return, OnGoto, OnGosub, OnErrorGoto, Resume, Stop, End, Chain, Sleep, Open, Close, Get, Put, Unlock, Field, Lset, Rset, Kill, Rename, PrintUsing, MatRead, MatPrint, MatLet, LineTree}
use Rattle.basic_tree.specs.declared.tokens.Keyword.TheVariants as keyword
use Rattle.basic_tree.specs.declared.kinds.Want.TheVariants as want
use Rattle.basic_tree.specs.SpellingExpressions.{steps_of, want_of}
use Rattle.basic_tree.specs.SpellingPieces.{perhaps, optional, each, WordPiece, Fixed, Expression, NameOf, LiteralOf, Holds, pieces_steps, closing, sign_piece, key, number, text, line, line_or_zero, target, after_commas, many}
use Rattle.basic_tree.specs.SpellingParts.{kind_of_first, shape, element_size, file_shape, separator_piece, printed, print_item, using_item, using_values, array, matrix, channel, print_channel, channel_and_comma, prompt, modifier, name, parameters, value, chain_line, open_for, option_of, close_channel, field_part}
use Rattle.basic_tree.specs.SpellingStatements.{line_steps, closings, go, items, pieces_of, clause_pieces, else_pieces, statement_pieces, line_pieces}
use Rattle.grammar_machine.proofs.MachineLevels.{Above, tree_above}
use Rattle.grammar_machine.proofs.MachineReads.{place_pieces, separated}

-- the pieces lead from this many open nesting levels to that many
abbrev pub Rises : ℕ → List WordPiece → ℕ → Type 0
Rises d [] e = d ≡ e
Rises d (Fixed (Plain w) ∷ ps) e = Rises d ps e
Rises d (Fixed (Opens w) ∷ ps) e = Rises (suc d) ps e
Rises d (Fixed Closes ∷ ps) e = (c : ℕ) × (d ≡ suc c) × Rises c ps e
Rises d (Expression w t ∷ ps) e = Rises d ps e
Rises d (NameOf w n ∷ ps) e = Rises d ps e
Rises d (LiteralOf b n ∷ ps) e = Rises d ps e
Rises d (Holds b ∷ ps) e = Rises d ps e

-- the pieces end the nesting levels that they open
abbrev pub Balanced : List WordPiece → Type 0
Balanced ps = (d : ℕ) → Rises d ps d

pub rises_append : (a b : List WordPiece) (d e f : ℕ) → Rises d a e → Rises e b f → Rises d (a ++ b) f
rises_append [] b d e f x y = subst (λ (z : ℕ). Rises z b f) (sym x) y
rises_append (Fixed (Plain w) ∷ a) b d e f x y = rises_append a b d e f x y
rises_append (Fixed (Opens w) ∷ a) b d e f x y = rises_append a b (suc d) e f x y
rises_append (Fixed Closes ∷ a) b d e f x y = (x.0, x.1, rises_append a b x.0 e f x.2 y)
rises_append (Expression w t ∷ a) b d e f x y = rises_append a b d e f x y
rises_append (NameOf w n ∷ a) b d e f x y = rises_append a b d e f x y
rises_append (LiteralOf h n ∷ a) b d e f x y = rises_append a b d e f x y
rises_append (Holds h ∷ a) b d e f x y = rises_append a b d e f x y

pub rises_above : (a : List WordPiece) (d e : ℕ) (q : List LevelStep) → Rises d a e → Above e q → Above d (pieces_steps a ++ q)
rises_above [] d e q x y = subst (λ (z : ℕ). Above z q) (sym x) y
rises_above (Fixed (Plain w) ∷ a) d e q x y = rises_above a d e q x y
rises_above (Fixed (Opens w) ∷ a) d e q x y = rises_above a (suc d) e q x y
rises_above (Fixed Closes ∷ a) d e q x y = (x.0, x.1, rises_above a x.0 e q x.2 y)
rises_above (Expression w t ∷ a) d e q x y = subst (λ z. Above d z) (sym (append_assoc (steps_of t) (pieces_steps a) q)) (tree_above t d (pieces_steps a ++ q) (rises_above a d e q x y))
rises_above (NameOf w n ∷ a) d e q x y = rises_above a d e q x y
rises_above (LiteralOf h n ∷ a) d e q x y = rises_above a d e q x y
rises_above (Holds h ∷ a) d e q x y = rises_above a d e q x y

-- ---- optional parts and lists

both : (a b : List WordPiece) → Balanced a → Balanced b → Balanced (a ++ b)
both a b x y = λ d. rises_append a b d d d (x d) (y d)

perhaps_level : (b : Bool) (p : WordPiece) → Balanced (p ∷ []) → Balanced (perhaps b p)
perhaps_level true p x = x
perhaps_level false p x = λ d. refl

optional_level : {A : Type 0} → (f : A → List WordPiece) → ((a : A) → Balanced (f a)) → (o : Option A) → Balanced (optional f o)
optional_level f x None = λ d. refl
optional_level f x (Some a) = x a

each_level : {A : Type 0} → (f : A → List WordPiece) → ((a : A) → Balanced (f a)) → (l : List A) → Balanced (each f l)
each_level f x [] = λ d. refl
each_level f x (a ∷ l) = both (f a) (each f l) (x a) (each_level f x l)

after_commas_level : {A : Type 0} → (f : A → List WordPiece) → ((a : A) → Balanced (f a)) → (l : List A) → Balanced (after_commas f l)
after_commas_level f x [] = λ d. refl
after_commas_level f x (a ∷ l) = both (f a) (after_commas f l) (x a) (after_commas_level f x l)

many_level : {A : Type 0} → (f : A → List WordPiece) → ((a : A) → Balanced (f a)) → (l : List A) → Balanced (many f l)
many_level f x [] = λ d. refl
many_level f x (a ∷ l) = both (f a) (after_commas f l) (x a) (after_commas_level f x l)

-- ---- parts of statements

shape_level : (s : Shape) → Balanced (shape s)
shape_level s = λ d. rises_append (optional (λ second. sign_piece sign.Comma ∷ LiteralOf _ second ∷ []) s.second) (sign_piece sign.Closing ∷ closing ∷ []) (suc d) (suc d) d (optional_level _ (λ a e. refl) s.second (suc d)) (d, refl, refl)

file_shape_level : (s : FileShape) → Balanced (file_shape s)
file_shape_level s = both (shape s.shape) (optional (λ size. element_size s.shape.name size) s.size) (shape_level s.shape) (optional_level _ (λ a e. refl) s.size)

separator_level : (s : Separator) → Balanced (separator_piece s ∷ [])
separator_level separator.Comma = λ d. refl
separator_level separator.Semicolon = λ d. refl

printed_level : (p : PrintedTree) → Balanced (printed p)
printed_level (Value t) = λ d. refl
printed_level (Tab t) = λ d. (d, refl, refl)

print_item_level : (i : PrintItemTree) → Balanced (print_item i)
print_item_level i = both (printed i.printed) (separator_piece i.separator ∷ []) (printed_level i.printed) (separator_level i.separator)

print_channel_level : (c : PrintChannelTree) → Balanced (print_channel c)
print_channel_level c = both (channel c.number) (perhaps c.comma (sign_piece sign.Comma)) (λ d. refl) (perhaps_level c.comma (sign_piece sign.Comma) (λ d. refl))

using_item_level : (i : UsingItemTree) → Balanced (using_item i)
using_item_level i = separator_level i.separator

using_values_level : (values : List UsingItemTree) (last : Option Tree) → Balanced (using_values values last)
using_values_level values last = both (each using_item values) (optional (λ t. Expression want.Either t ∷ []) last) (each_level using_item using_item_level values) (optional_level _ (λ a e. refl) last)

matrix_level : (m : MatrixTree) → Balanced (matrix m)
matrix_level (Scaled t b) = λ d. (d, refl, refl)
matrix_level (Transposed b) = λ d. (d, refl, refl)
matrix_level m = λ d. refl

prompt_level : (p : PromptTree) → Balanced (prompt p)
prompt_level p = separator_level p.separator

-- a modifier opens a nesting level and does not end it
pub modifier_rises : (m : ModifierTree) (d : ℕ) → Rises d (modifier m) (suc d)
modifier_rises (If t) d = refl
modifier_rises (Unless t) d = refl
modifier_rises (While t) d = refl
modifier_rises (Until t) d = refl
modifier_rises (ForModifier v start limit step) d = optional_level _ (λ a e. refl) step (suc d)

parameters_level : (ns : List Name) → Balanced (parameters ns)
parameters_level [] = λ d. refl
parameters_level (n ∷ ns) = λ d. rises_append (many name (n ∷ ns)) (sign_piece sign.Closing ∷ closing ∷ []) (suc d) (suc d) d (many_level name (λ a e. refl) (n ∷ ns) (suc d)) (d, refl, refl)

chain_line_level : (t : Tree) (l : ChainLineTree) → Balanced (chain_line t l)
chain_line_level t l = both (perhaps l.word (key _)) (Holds _ ∷ number l.number ∷ []) (perhaps_level l.word (key _) (λ d. refl)) (λ d. refl)

open_for_level : (p : OpenFor) → Balanced (open_for p)
open_for_level purpose.Input = λ d. refl
open_for_level purpose.Output = λ d. refl
open_for_level purpose.Either = λ d. refl

option_level : (k : Keyword) (t : Option Tree) → Balanced (option_of k t)
option_level k t = optional_level _ (λ a e. refl) t

close_channel_level : (c : CloseChannelTree) → Balanced (close_channel c)
close_channel_level c = both (perhaps c.hash (sign_piece sign.Hash)) (number c.number ∷ []) (perhaps_level c.hash (sign_piece sign.Hash) (λ d. refl)) (λ d. refl)

go_level : (apart : Bool) (j k : Keyword) → Balanced (go apart j k)
go_level true j k = λ d. refl
go_level false j k = λ d. refl

items_level : (l : List (List ℕ)) → Balanced (items l)
items_level [] = λ d. refl
items_level (item ∷ more) = each_level (λ i. Fixed (Plain (Item i)) ∷ []) (λ a e. refl) more

-- ---- statements

-- the number of nesting levels that are open after a statement's last modifier, if this many are
-- open before it
abbrev pub raised : StatementTree → ℕ → ℕ
raised (Modified s m) d = suc (raised s d)
raised other d = d

-- the ends of its modifiers' nesting levels
pub closings_rise : (s : StatementTree) (d : ℕ) → Rises (raised s d) (closings s) d
closings_rise (Modified s m) d = (raised s d, refl, closings_rise s d)
closings_rise s d = refl

mutual
  pub statement_rises : (s : StatementTree) (d : ℕ) → Rises d (pieces_of s) (raised s d)
  statement_rises (IfThen t c o) d = rises_append (clause_pieces c) (closing ∷ Holds _ ∷ else_pieces o) (suc d) (suc d) d (clause_level c (suc d)) (d, refl, else_level o d)
  statement_rises (IfGoto t n o) d = else_level o d
  statement_rises (Modified s m) d = rises_append (pieces_of s) (modifier m) d (raised s d) (suc (raised s d)) (statement_rises s d) (modifier_rises m (raised s d))
  statement_rises (For v start limit step) d = optional_level (λ t. key keyword.Step ∷ number t ∷ []) (λ a e. refl) step d
  statement_rises (Next v) d = refl
  statement_rises FnEnd d = refl
  statement_rises (Data list) d = items_level list d
  statement_rises (Dim shapes) d = many_level shape shape_level shapes d
  statement_rises (DimFile c shapes) d = many_level file_shape file_shape_level shapes d
  statement_rises (Def f ps v) d = both (parameters ps) (optional (λ t. value f.text t) v) (parameters_level ps) (optional_level (λ t. value f.text t) (λ a e. refl) v) d
  statement_rises (Let word ts v) d =
      let targets = many (λ t. target (want_of (kind_of_first ts)) t) ts in
      both (perhaps word (key keyword.Let) ++ targets) (value (kind_of_first ts) v)
      (both (perhaps word (key keyword.Let)) targets (perhaps_level word (key keyword.Let) (λ e. refl)) (many_level (λ t. target (want_of (kind_of_first ts)) t) (λ a e. refl) ts))
      (λ e. refl) d
  statement_rises (Result f v) d = refl
  statement_rises (Print c list last) d =
      both (optional print_channel c ++ each print_item list) (optional printed last)
      (both (optional print_channel c) (each print_item list) (optional_level print_channel print_channel_level c) (each_level print_item print_item_level list))
      (optional_level printed printed_level last) d
  statement_rises (PrintUsing c format values last) d =
      both (optional channel_and_comma c) (key keyword.Using ∷ text format ∷ sign_piece sign.Comma ∷ using_values values last)
      (optional_level channel_and_comma (λ a e. refl) c) (using_values_level values last) d
  statement_rises (Input c p ts) d =
      both (optional channel_and_comma c ++ optional prompt p) (many (λ t. target want.Either t) ts)
      (both (optional channel_and_comma c) (optional prompt p) (optional_level channel_and_comma (λ a e. refl) c) (optional_level prompt prompt_level p))
      (many_level (λ t. target want.Either t) (λ a e. refl) ts) d
  statement_rises (InputLine c x) d = both (optional channel_and_comma c) (NameOf want.Text x ∷ []) (optional_level channel_and_comma (λ a e. refl) c) (λ e. refl) d
  statement_rises (Read ts) d = many_level (λ t. target want.Either t) (λ a e. refl) ts d
  statement_rises Restore d = refl
  statement_rises (Goto apart n) d = both (go apart keyword.To keyword.Goto) (line n ∷ []) (go_level apart keyword.To keyword.Goto) (λ e. refl) d
  statement_rises (Gosub apart n) d = both (go apart keyword.Sub keyword.Gosub) (line n ∷ []) (go_level apart keyword.Sub keyword.Gosub) (λ e. refl) d
  statement_rises Return d = refl
  statement_rises (OnGoto t ns) d = many_level (λ n. line n ∷ []) (λ a e. refl) ns d
  statement_rises (OnGosub t ns) d = many_level (λ n. line n ∷ []) (λ a e. refl) ns d
  statement_rises (OnErrorGoto n) d = optional_level (λ m. line_or_zero m ∷ []) (λ a e. refl) n d
  statement_rises (Resume n) d = optional_level (λ m. line_or_zero m ∷ []) (λ a e. refl) n d
  statement_rises Stop d = refl
  statement_rises End d = refl
  statement_rises (Chain t l) d = optional_level (chain_line t) (chain_line_level t) l d
  statement_rises (Sleep t) d = refl
  statement_rises (Open file use_for hash c record_size cluster_size mode) d =
      let options = option_of keyword.RecordSize record_size ++ option_of keyword.ClusterSize cluster_size ++ option_of keyword.Mode mode in
      both (open_for use_for) (key keyword.As ∷ key keyword.File ∷ (perhaps hash (sign_piece sign.Hash) ++ number c ∷ options)) (open_for_level use_for)
      (both (perhaps hash (sign_piece sign.Hash)) (number c ∷ options) (perhaps_level hash (sign_piece sign.Hash) (λ e. refl))
      (both (option_of keyword.RecordSize record_size ++ option_of keyword.ClusterSize cluster_size) (option_of keyword.Mode mode)
      (both (option_of keyword.RecordSize record_size) (option_of keyword.ClusterSize cluster_size) (option_level keyword.RecordSize record_size) (option_level keyword.ClusterSize cluster_size))
      (option_level keyword.Mode mode))) d
  statement_rises (Close cs) d = many_level close_channel close_channel_level cs d
  statement_rises (Get c block) d = option_level keyword.Record block d
  statement_rises (Put c block) d = option_level keyword.Record block d
  statement_rises (Unlock c) d = refl
  statement_rises (Field c ps) d = many_level field_part (λ a e. refl) ps d
  statement_rises (Lset x v) d = refl
  statement_rises (Rset x v) d = refl
  statement_rises (Kill t) d = refl
  statement_rises (Rename old new) d = refl
  statement_rises (MatRead arrays) d = many_level array (λ a e. refl) arrays d
  statement_rises (MatPrint a s) d = optional_level (λ x. separator_piece x ∷ []) separator_level s d
  statement_rises (MatLet a m) d = matrix_level m d

  pub clause_level : (c : ClauseTree) → Balanced (clause_pieces c)
  clause_level (LineClause n) = λ d. refl
  clause_level (StatementClause s) = λ d. rises_append (pieces_of s) (closings s) d (raised s d) d (statement_rises s d) (closings_rise s d)

  pub else_level : (o : ElseTree) → Balanced (else_pieces o)
  else_level NoElse = λ d. refl
  else_level (Else c) = λ d. rises_append (clause_pieces c) (closing ∷ []) (suc d) (suc d) d (clause_level c (suc d)) (d, refl, refl)

-- ---- lines

statement_level : (s : StatementTree) → Balanced (statement_pieces s)
statement_level s = λ d. rises_append (pieces_of s) (closings s) d (raised s d) d (statement_rises s d) (closings_rise s d)

pub place_level : (s : Option StatementTree) → Balanced (place_pieces s)
place_level s = optional_level statement_pieces statement_level s

pub line_level : (l : LineTree) → Balanced (line_pieces l)
line_level l = both (place_pieces l.first) (each separated l.others) (place_level l.first) (each_level separated (λ s. place_level s) l.others)

pub line_above : (l : LineTree) → Above 0 (line_steps l)
line_above l = subst (λ q. Above 0 q) (append-nil (pieces_steps (line_pieces l))) (rises_above (line_pieces l) 0 0 [] (line_level l 0) tt)

-- The word with which each statement begins, and its form. It serves proofs only.
use Rattle.std.specs.Prelude.{true, false, [], ◌∷◌, Option, Some, None}
use Rattle.basic_tree.specs.declared.tokens.Keyword.{Keyword}
use Rattle.basic_tree.specs.declared.tokens.Keyword.TheVariants as keyword
use Rattle.basic_tree.specs.declared.tokens.Sign.TheVariants as sign
use Rattle.basic_tree.specs.declared.kinds.Want.TheVariants as want
use Rattle.basic_tree.specs.declared.parts.Separator.TheVariants as separator
use Rattle.basic_tree.specs.declared.parts.OpenFor.TheVariants as purpose
use Rattle.basic_tree.specs.SpellingWords.{Word, Key, Named, FnNamed}
use Rattle.basic_tree.specs.Trees.{Tree, PromptTree, If, Unless, While, Until, ForModifier, IfThen, IfGoto, For, Next, FnEnd, Data, Dim, DimFile, Result, Print, Input, InputLine, Read, Restore, Goto, Gosub, Return, OnGoto, OnGosub, OnErrorGoto, Resume, Stop, End, Chain, Sleep, Get, Put, Unlock, Field, Close, Lset, Rset, Kill, Rename, MatRead, MatPrint, MatLet}
use Rattle.basic_tree.specs.SpellingExpressions.{want_of}
use Rattle.basic_tree.specs.SpellingStatements.{clause_wants_else}
use Rattle.grammar_machine.specs.MachineStack.{Modifying, Targets, Shapes, FileShapes, Parameters, Arrays, Lines, Channels, FieldParts, LineNumber, Bound, Form, Made, TakeKey, TakeSign, TakeClosing, IfKey, IfSign, ExprOf, ExprIf, NameIn, FnNameIn, LiteralIn, LiteralIf, QuotedIf, ItemIn, MoreItems, MorePrinted, ClauseIn}
use Rattle.grammar_machine.specs.MachineForms.{chains, list_form, targets_in, shapes_in, files_in, names_in, lines_in, channels_in, parts_in, says, range_form, else_form, targets_form, value_form, using_value_form, matrix_form, number_option, file_form}

-- ---- statements that can be neither clauses nor modified

abbrev pub if_form : Form
if_form =
    TakeKey false keyword.If (ExprOf want.Number (λ condition.
    IfKey true keyword.Then (ClauseIn (λ clause. else_form (clause_wants_else clause) (λ otherwise. says (IfThen condition clause otherwise))))
    (TakeKey false keyword.Goto (LiteralIn LineNumber (λ n. else_form false (λ otherwise. says (IfGoto condition n otherwise)))))))

abbrev pub for_form : Form
for_form = TakeKey false keyword.For (range_form (λ v start limit step. says (For v start limit step)))

abbrev pub next_form : Form
next_form = TakeKey false keyword.Next (NameIn want.Number (λ v. says (Next v)))

abbrev pub data_form : Form
data_form = TakeKey false keyword.Data (ItemIn (λ item. MoreItems (item ∷ []) (λ items. says (Data items))))

abbrev pub dim_form : Form
dim_form =
    TakeKey false keyword.Dim
    (IfSign false sign.Hash (LiteralIn Bound (λ c. TakeSign false sign.Comma (list_form FileShapes (λ items. says (DimFile c (files_in items))))))
    (list_form Shapes (λ items. says (Dim (shapes_in items)))))

abbrev pub def_form : Form
def_form =
    TakeKey false keyword.Def (FnNameIn (λ f.
    IfSign true sign.Opening (list_form Parameters (λ items. TakeClosing (value_form f (names_in items)))) (value_form f [])))

-- ---- the simple ones

abbrev pub result_form : Form
result_form = FnNameIn (λ f. TakeSign false sign.Equal (ExprOf (want_of f.text) (λ value. says (Result f value))))

-- after USING: the format, and a first value
abbrev pub using_form : Option Tree → Form
using_form c = ExprOf want.Text (λ format. TakeSign false sign.Comma (ExprOf want.Either (λ t. using_value_form c format [] t)))

abbrev pub print_form : Form
print_form =
    TakeKey false keyword.Print
    (IfSign false sign.Hash (ExprOf want.Number (λ c.
    IfSign false sign.Comma (IfKey false keyword.Using (using_form (Some c)) (MorePrinted (Some (record { number = c; comma = true })) []))
    (says (Print (Some (record { number = c; comma = false })) [] None))))
    (IfKey false keyword.Using (using_form None) (MorePrinted None [])))

abbrev pub input_targets : Option Tree → Option PromptTree → Form
input_targets c prompt = list_form (Targets want.Either) (λ items. says (Input c prompt (targets_in items)))

abbrev pub input_form : Form
input_form =
    TakeKey false keyword.Input
    (IfKey false keyword.Line
    (IfSign false sign.Hash (ExprOf want.Number (λ c. TakeSign false sign.Comma (NameIn want.Text (λ x. says (InputLine (Some c) x)))))
    (NameIn want.Text (λ x. says (InputLine None x))))
    (IfSign false sign.Hash (ExprOf want.Number (λ c. TakeSign false sign.Comma (input_targets (Some c) None)))
    (QuotedIf (λ text.
    IfSign false sign.Semicolon (input_targets None (Some (record { text = text; separator = separator.Semicolon })))
    (TakeSign false sign.Comma (input_targets None (Some (record { text = text; separator = separator.Comma })))))
    (input_targets None None))))

abbrev pub go_form : Form
go_form =
    TakeKey false keyword.Go
    (IfKey false keyword.To (LiteralIn LineNumber (λ n. says (Goto true n)))
    (TakeKey false keyword.Sub (LiteralIn LineNumber (λ n. says (Gosub true n)))))

abbrev pub on_form : Form
on_form =
    TakeKey false keyword.On
    (IfKey false keyword.Error
    (TakeKey false keyword.Goto (LiteralIf Bound (λ n. says (OnErrorGoto (Some n))) (says (OnErrorGoto None))))
    (ExprOf want.Number (λ t.
    IfKey false keyword.Goto (list_form Lines (λ items. says (OnGoto t (lines_in items))))
    (TakeKey false keyword.Gosub (list_form Lines (λ items. says (OnGosub t (lines_in items))))))))

abbrev pub chain_form : Form
chain_form =
    TakeKey false keyword.Chain (ExprOf want.Text (λ t.
    IfKey false keyword.Line (ExprOf want.Number (λ n. says (Chain t (Some (record { word = true; number = n })))))
    (ExprIf (chains t) want.Number (λ n. says (Chain t (Some (record { word = false; number = n })))) (says (Chain t None)))))

abbrev pub open_form : Form
open_form =
    TakeKey false keyword.Open (ExprOf want.Text (λ file.
    IfKey false keyword.For
    (IfKey false keyword.Input (file_form file purpose.Input) (TakeKey false keyword.Output (file_form file purpose.Output)))
    (file_form file purpose.Either)))

abbrev pub field_form : Form
field_form =
    TakeKey false keyword.Field (TakeSign false sign.Hash (ExprOf want.Number (λ c.
    TakeSign false sign.Comma (list_form FieldParts (λ items. says (Field c (parts_in items)))))))

abbrev pub lset_form : Form
lset_form = TakeKey false keyword.Lset (NameIn want.Text (λ x. TakeSign false sign.Equal (ExprOf want.Text (λ value. says (Lset x value)))))

abbrev pub rset_form : Form
rset_form = TakeKey false keyword.Rset (NameIn want.Text (λ x. TakeSign false sign.Equal (ExprOf want.Text (λ value. says (Rset x value)))))

abbrev pub mat_print_form : Form
mat_print_form =
    NameIn want.Number (λ a.
    IfSign false sign.Comma (says (MatPrint a (Some separator.Comma)))
    (IfSign false sign.Semicolon (says (MatPrint a (Some separator.Semicolon)))
    (says (MatPrint a None))))

abbrev pub mat_form : Form
mat_form =
    TakeKey false keyword.Mat
    (IfKey false keyword.Read (list_form Arrays (λ items. says (MatRead (names_in items))))
    (IfKey false keyword.Print mat_print_form
    (NameIn want.Number (λ a. TakeSign false sign.Equal (matrix_form (λ v. says (MatLet a v)))))))

-- ---- which statement begins with a word

-- an IF; a statement that is allowed in no clause and takes no modifier; any other
pub data Class : Type 0 where
  Choice : Class
  Head : Class
  Simple : Class

pub record Sentence : Type 0 where
  pub class : Class
  pub form : Form

abbrev pub choice : Form → Option Sentence
choice f = Some (record { class = Choice; form = f })

abbrev pub head : Form → Option Sentence
head f = Some (record { class = Head; form = f })

abbrev pub simple : Form → Option Sentence
simple f = Some (record { class = Simple; form = f })

abbrev pub key_sentence : Keyword → Option Sentence
key_sentence keyword.If = choice if_form
key_sentence keyword.For = head for_form
key_sentence keyword.Next = head next_form
key_sentence keyword.FnEnd = head (TakeKey false keyword.FnEnd (says FnEnd))
key_sentence keyword.Data = head data_form
key_sentence keyword.Dim = head dim_form
key_sentence keyword.Def = head def_form
key_sentence keyword.Let = simple (TakeKey false keyword.Let (targets_form true))
key_sentence keyword.Print = simple print_form
key_sentence keyword.Input = simple input_form
key_sentence keyword.Read = simple (TakeKey false keyword.Read (list_form (Targets want.Either) (λ items. says (Read (targets_in items)))))
key_sentence keyword.Restore = simple (TakeKey false keyword.Restore (says Restore))
key_sentence keyword.Goto = simple (TakeKey false keyword.Goto (LiteralIn LineNumber (λ n. says (Goto false n))))
key_sentence keyword.Gosub = simple (TakeKey false keyword.Gosub (LiteralIn LineNumber (λ n. says (Gosub false n))))
key_sentence keyword.Go = simple go_form
key_sentence keyword.Return = simple (TakeKey false keyword.Return (says Return))
key_sentence keyword.On = simple on_form
key_sentence keyword.Resume = simple (TakeKey false keyword.Resume (LiteralIf Bound (λ n. says (Resume (Some n))) (says (Resume None))))
key_sentence keyword.Stop = simple (TakeKey false keyword.Stop (says Stop))
key_sentence keyword.End = simple (TakeKey false keyword.End (says End))
key_sentence keyword.Chain = simple chain_form
key_sentence keyword.Sleep = simple (TakeKey false keyword.Sleep (ExprOf want.Number (λ n. says (Sleep n))))
key_sentence keyword.Open = simple open_form
key_sentence keyword.Close = simple (TakeKey false keyword.Close (list_form Channels (λ items. says (Close (channels_in items)))))
key_sentence keyword.Get = simple (TakeKey false keyword.Get (TakeSign false sign.Hash (ExprOf want.Number (λ c. number_option keyword.Record (λ b. says (Get c b))))))
key_sentence keyword.Put = simple (TakeKey false keyword.Put (TakeSign false sign.Hash (ExprOf want.Number (λ c. number_option keyword.Record (λ b. says (Put c b))))))
key_sentence keyword.Unlock = simple (TakeKey false keyword.Unlock (TakeSign false sign.Hash (ExprOf want.Number (λ c. says (Unlock c)))))
key_sentence keyword.Field = simple field_form
key_sentence keyword.Lset = simple lset_form
key_sentence keyword.Rset = simple rset_form
key_sentence keyword.Kill = simple (TakeKey false keyword.Kill (ExprOf want.Text (λ t. says (Kill t))))
key_sentence keyword.Name = simple (TakeKey false keyword.Name (ExprOf want.Text (λ old. TakeKey false keyword.As (ExprOf want.Text (λ new. says (Rename old new))))))
key_sentence keyword.Mat = simple mat_form
key_sentence other = None

abbrev pub sentence_of : Word → Option Sentence
sentence_of (Key k) = key_sentence k
sentence_of (Named name) = simple (targets_form false)
sentence_of (FnNamed name) = simple result_form
sentence_of other = None

-- ---- modifiers

abbrev pub key_modifier : Keyword → Option Form
key_modifier keyword.If = Some (TakeKey true keyword.If (ExprOf want.Number (λ t. Made (Modifying (If t)))))
key_modifier keyword.Unless = Some (TakeKey true keyword.Unless (ExprOf want.Number (λ t. Made (Modifying (Unless t)))))
key_modifier keyword.While = Some (TakeKey true keyword.While (ExprOf want.Number (λ t. Made (Modifying (While t)))))
key_modifier keyword.Until = Some (TakeKey true keyword.Until (ExprOf want.Number (λ t. Made (Modifying (Until t)))))
key_modifier keyword.For = Some (TakeKey true keyword.For (range_form (λ v start limit step. Made (Modifying (ForModifier v start limit step)))))
key_modifier other = None

abbrev pub modifier_of : Word → Option Form
modifier_of (Key k) = key_modifier k
modifier_of other = None

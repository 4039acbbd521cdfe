-- What each expected symbol does with the next word, or at the end. It serves proofs only.
use Rattle.std.specs.Prelude.{ℕ, ◌||◌, ◌&&◌, ◌==◌, not, List, [], ◌∷◌, ◌++◌, Bool, true, false, cond, Option, Some, None, option_and_then}
use Rattle.basic_tree.specs.declared.names.Name.{Name}
use Rattle.basic_tree.specs.declared.tokens.Keyword.{Keyword}
use Rattle.basic_tree.specs.declared.tokens.Keyword.TheVariants as keyword
use Rattle.basic_tree.specs.declared.tokens.Sign.{Sign}
use Rattle.basic_tree.specs.declared.tokens.Sign.TheVariants as sign
use Rattle.basic_tree.specs.declared.expressions.Operator.{Operator}
use Rattle.basic_tree.specs.declared.expressions.Operator.TheVariants as operator
use Rattle.basic_tree.specs.declared.expressions.Relation.{Relation}
use Rattle.basic_tree.specs.declared.kinds.Want.{Want}
use Rattle.basic_tree.specs.declared.kinds.Want.TheVariants as want
use Rattle.basic_tree.specs.SpellingWords.{Word, Key, Punctuation, Named, FnNamed, Number, Quotation}
use Rattle.basic_tree.specs.SpellingWords.{Item as ItemOf}
use Rattle.basic_tree.specs.Trees.{Tree, Variable, Call, NoTrees, Value, Tab, PrintItemTree, PrintChannelTree, UsingItemTree, ClauseTree, LineClause, StatementClause, Print, PrintUsing}
use Rattle.basic_tree.specs.GrammarTables.{sign_level, not_level, operator_level, joins_texts}
use Rattle.grammar_machine.specs.GrammarWords.{operator_of, relation_of, is_same_sign, is_same_keyword}
use Rattle.basic_tree.specs.SpellingExpressions.{is_text, want_of}
use Rattle.grammar_machine.specs.MachineStack.{AddStatement, Arguments, Await, AwaitClause, ClauseIn, Close, Collect, Do, Expect, Exponent, ExprIf, ExprOf, FnNameIn, Form, Go, IfKey, IfSign, Item, ItemIn, Level, Limit, LineNumber, LiteralIf, LiteralIn, Made, MakeCall, MakeComparison, MakeElement, MakeOperation, Modifiers, Modify, More, MoreArguments, MoreItems, MoreOf, MorePrinted, MoreUsing, MoreRelations, MoreStatements, NameIn, OneStatement, Opening, QuotedIf, SecondSubscript, Sequence, Several, Stated, Subscripts, Symbol, TakeClosing, TakeKey, TakeSign, TargetOf, Term, Values, below, kept, kept_parsed, kept_several, kept_stated, loosest, made, others, stated, top, with_statement, within}
use Rattle.grammar_machine.specs.MachineForms.{begins_value, item_form, has_room, printed_form, using_value_form}
use Rattle.grammar_machine.specs.MachineSentences.{Class, Choice, Head, Simple, Sentence, sentence_of, modifier_of}
use Rattle.grammar_machine.specs.MachineStarts.{Start, takes, atom, signed, start}

-- ---- what a symbol does with the next word, or at the end

pub data MachineMove : Type 0 where
  -- it takes the word, which may open a nesting level
  Shifts : Bool → Values → List Symbol → MachineMove
  Skips : Values → MachineMove
  -- a nesting level ends
  Closes : Values → MachineMove
  Refuses : MachineMove

abbrev pub begun : Option Start → MachineMove
begun None = Refuses
begun (Some s) = Shifts s.opens s.values s.expected

abbrev pub begin : ℕ → Want → Values → Option Word → MachineMove
begin l w vs None = Refuses
begin l w vs (Some t) = begun (start l w vs t)

-- what follows an operator
abbrev pub right_of : Operator → Bool → Symbol
right_of operator.Power is_textual = Exponent
right_of operator.Times is_textual = Level sign_level (want_of is_textual)
right_of operator.Divided is_textual = Level sign_level (want_of is_textual)
right_of operator.Plus is_textual = Level 3 (want_of is_textual)
right_of operator.Minus is_textual = Level 3 (want_of is_textual)
right_of operator.And is_textual = Level not_level (want_of is_textual)
right_of operator.Or is_textual = Level 7 (want_of is_textual)
right_of operator.Xor is_textual = Level 8 (want_of is_textual)
right_of operator.Imp is_textual = Level 9 (want_of is_textual)
right_of operator.Eqv is_textual = Level 10 (want_of is_textual)

abbrev pub joined : Bool → ℕ → Operator → Bool → Values → MachineMove
joined true l o is_textual vs = Shifts false vs (right_of o is_textual ∷ Do (MakeOperation o) ∷ More l ∷ [])
joined false l o is_textual vs = Skips (kept vs)

abbrev pub more_of : ℕ → Option Operator → Bool → Values → MachineMove
more_of l None is_textual vs = Skips (kept vs)
more_of l (Some o) is_textual vs = joined (operator_level o == l && (not is_textual || joins_texts o)) l o is_textual vs

abbrev pub more : ℕ → Option Word → Bool → Values → MachineMove
more l t is_textual vs = more_of l (option_and_then operator_of t) is_textual vs

abbrev pub no_relation : Bool → Bool → Values → MachineMove
no_relation true true vs = Refuses
no_relation must_be_number is_textual vs = Skips (kept vs)

abbrev pub related : Option Relation → Bool → Bool → Values → MachineMove
related None must_be_number is_textual vs = no_relation must_be_number is_textual vs
related (Some r) must_be_number is_textual vs = Shifts false vs (Level 4 (want_of is_textual) ∷ Do (MakeComparison r) ∷ MoreRelations must_be_number ∷ [])

abbrev pub exponent : Values → Option Word → MachineMove
exponent vs None = Refuses
exponent vs (Some t) = begun (signed want.Number vs Exponent t (atom want.Number vs t))

abbrev pub expect : Sign → Values → Option Word → MachineMove
expect s vs (Some (Punctuation t)) = cond (is_same_sign s t) (Shifts false vs []) Refuses
expect s vs other = Refuses

abbrev pub open_list : Values → Option Word → MachineMove
open_list vs (Some (Punctuation sign.Opening)) = Shifts true vs []
open_list vs other = Refuses

abbrev pub subscripts : Name → Values → Option Word → MachineMove
subscripts name vs (Some (Punctuation sign.Opening)) =
    Shifts true (Several NoTrees ∷ vs) (Level loosest want.Number ∷ Do Collect ∷ SecondSubscript ∷ Expect sign.Closing ∷ Close ∷ Do (MakeElement name) ∷ [])
subscripts name vs other = Skips (Term (Variable name) ∷ vs)

abbrev pub second_subscript : Values → Option Word → MachineMove
second_subscript vs (Some (Punctuation sign.Comma)) = Shifts false vs (Level loosest want.Number ∷ Do Collect ∷ [])
second_subscript vs other = Skips (kept_several vs)

abbrev pub arguments : Name → Values → Option Word → MachineMove
arguments name vs (Some (Punctuation sign.Opening)) =
    Shifts true (Several NoTrees ∷ vs) (Level loosest want.Either ∷ Do Collect ∷ MoreArguments ∷ Expect sign.Closing ∷ Close ∷ Do (MakeCall name) ∷ [])
arguments name vs other = Skips (Term (Call name NoTrees) ∷ vs)

abbrev pub more_arguments : Values → Option Word → MachineMove
more_arguments vs (Some (Punctuation sign.Comma)) = Shifts false vs (Level loosest want.Either ∷ Do Collect ∷ MoreArguments ∷ [])
more_arguments vs other = Skips (kept_several vs)

-- ---- statements

-- what is expected after what was taken; nothing is skipped there
abbrev pub then_also : List Symbol → MachineMove → MachineMove
then_also more (Shifts opens vs ks) = Shifts opens vs (ks ++ more)
then_also more other = Refuses

abbrev pub take_key : Bool → Keyword → Values → Option Word → List Symbol → MachineMove → MachineMove
take_key opens k vs (Some (Key l)) more else_move = cond (is_same_keyword k l) (Shifts opens vs more) else_move
take_key opens k vs other more else_move = else_move

abbrev pub take_sign : Bool → Sign → Values → Option Word → List Symbol → MachineMove → MachineMove
take_sign opens s vs (Some (Punctuation t)) more else_move = cond (is_same_sign s t) (Shifts opens vs more) else_move
take_sign opens s vs other more else_move = else_move

abbrev pub expression : Want → (Tree → Form) → Values → Option Word → MachineMove
expression w g vs o = then_also (Await g ∷ []) (begin loosest w vs o)

abbrev pub expression_if : (Word → Bool) → Want → (Tree → Form) → Values → Option Word → MachineMove → MachineMove
expression_if test w g vs None else_move = else_move
expression_if test w g vs (Some t) else_move = cond (test t) (expression w g vs (Some t)) else_move

abbrev pub target : Want → (Tree → Form) → Values → Option Word → MachineMove
target w g vs (Some (Named name)) = cond (takes w name.text) (Shifts false vs (Subscripts name ∷ Await g ∷ [])) Refuses
target w g vs other = Refuses

abbrev pub name_in : Want → (Name → Form) → Values → Option Word → MachineMove
name_in w g vs (Some (Named name)) = cond (takes w name.text) (Shifts false vs (Go (g name) ∷ [])) Refuses
name_in w g vs other = Refuses

abbrev pub fn_name_in : (Name → Form) → Values → Option Word → MachineMove
fn_name_in g vs (Some (FnNamed name)) = Shifts false vs (Go (g name) ∷ [])
fn_name_in g vs other = Refuses

abbrev pub literal_in : Limit → (ℕ → Form) → Values → Option Word → MachineMove → MachineMove
literal_in limit g vs (Some (Number n)) else_move = cond (within limit n) (Shifts false vs (Go (g n) ∷ [])) else_move
literal_in limit g vs other else_move = else_move

abbrev pub quoted_if : (List ℕ → Form) → Values → Option Word → MachineMove → MachineMove
quoted_if g vs (Some (Quotation text)) else_move = Shifts false vs (Go (g text) ∷ [])
quoted_if g vs other else_move = else_move

abbrev pub item_in : (List ℕ → Form) → Values → Option Word → MachineMove → MachineMove
item_in g vs (Some (ItemOf item)) else_move = Shifts false vs (Go (g item) ∷ [])
item_in g vs other else_move = else_move

abbrev pub more_of_list : Sequence → List Item → (List Item → Form) → Values → Option Word → MachineMove → MachineMove
more_of_list s items g vs (Some (Punctuation sign.Comma)) else_move =
    cond (has_room s items) (Shifts false vs (Go (item_form s (λ item. MoreOf s (items ++ item ∷ []) g)) ∷ [])) else_move
more_of_list s items g vs other else_move = else_move

-- after TAB
abbrev pub tab_form : Option PrintChannelTree → List PrintItemTree → Form
tab_form c items = TakeSign true sign.Opening (ExprOf want.Number (λ t. TakeClosing (printed_form c items (Tab t))))

abbrev pub more_printed : Option PrintChannelTree → List PrintItemTree → Values → Option Word → MachineMove
more_printed c items vs o =
    take_key false keyword.Tab vs o (Go (tab_form c items) ∷ [])
    (expression_if begins_value want.Either (λ t. printed_form c items (Value t)) vs o (Skips (Stated (Print c items None) ∷ vs)))

abbrev pub more_using : Option Tree → Tree → List UsingItemTree → Values → Option Word → MachineMove
more_using c format values vs o =
    expression_if begins_value want.Either (λ t. using_value_form c format values t) vs o (Skips (Stated (PrintUsing c format values None) ∷ vs))

-- what a form does, given what clauses do
abbrev pub form_move_with : ((ClauseTree → Form) → Values → Option Word → MachineMove) → Form → Values → Option Word → MachineMove
form_move_with clause (Made v) vs o = Skips (v ∷ vs)
form_move_with clause (TakeKey opens k f) vs o = take_key opens k vs o (Go f ∷ []) Refuses
form_move_with clause (TakeSign opens s f) vs o = take_sign opens s vs o (Go f ∷ []) Refuses
form_move_with clause (TakeClosing f) vs o = take_sign false sign.Closing vs o (Close ∷ Go f ∷ []) Refuses
form_move_with clause (IfKey opens k f h) vs o = take_key opens k vs o (Go f ∷ []) (form_move_with clause h vs o)
form_move_with clause (IfSign opens s f h) vs o = take_sign opens s vs o (Go f ∷ []) (form_move_with clause h vs o)
form_move_with clause (ExprOf w g) vs o = expression w g vs o
form_move_with clause (ExprIf test w g h) vs o = expression_if test w g vs o (form_move_with clause h vs o)
form_move_with clause (TargetOf w g) vs o = target w g vs o
form_move_with clause (NameIn w g) vs o = name_in w g vs o
form_move_with clause (FnNameIn g) vs o = fn_name_in g vs o
form_move_with clause (LiteralIn limit g) vs o = literal_in limit g vs o Refuses
form_move_with clause (LiteralIf limit g h) vs o = literal_in limit g vs o (form_move_with clause h vs o)
form_move_with clause (QuotedIf g h) vs o = quoted_if g vs o (form_move_with clause h vs o)
form_move_with clause (ItemIn g) vs o = item_in g vs o Refuses
form_move_with clause (MoreItems items g) vs o = item_in (λ item. MoreItems (items ++ item ∷ []) g) vs o (form_move_with clause (g items) vs o)
form_move_with clause (MoreOf s items g) vs o = more_of_list s items g vs o (form_move_with clause (g items) vs o)
form_move_with clause (MorePrinted c items) vs o = more_printed c items vs o
form_move_with clause (MoreUsing c format values) vs o = more_using c format values vs o
form_move_with clause (ClauseIn g) vs o = clause g vs o

-- no statement begins with a clause
abbrev pub no_clause : (ClauseTree → Form) → Values → Option Word → MachineMove
no_clause g vs o = Refuses

-- what follows a statement that is a clause
abbrev pub behind_clause : (ClauseTree → Form) → Class → MachineMove → MachineMove
behind_clause g Choice m = then_also (Close ∷ AwaitClause g ∷ []) m
behind_clause g Head m = Refuses
behind_clause g Simple m = then_also (Modifiers ∷ Close ∷ AwaitClause g ∷ []) m

abbrev pub clause_sentence : (ClauseTree → Form) → Values → Word → Option Sentence → MachineMove
clause_sentence g vs t None = Refuses
clause_sentence g vs t (Some s) = behind_clause g s.class (form_move_with no_clause s.form vs (Some t))

abbrev pub clause_move : (ClauseTree → Form) → Values → Option Word → MachineMove
clause_move g vs None = Refuses
clause_move g vs (Some (Number n)) = cond (within LineNumber n) (Shifts false vs (Close ∷ Go (g (LineClause n)) ∷ [])) Refuses
clause_move g vs (Some t) = clause_sentence g vs t (sentence_of t)

abbrev pub form_move : Form → Values → Option Word → MachineMove
form_move f vs o = form_move_with clause_move f vs o

-- what follows a statement of the line
abbrev pub behind_class : Class → List Symbol
behind_class Simple = Modifiers ∷ Do AddStatement ∷ []
behind_class other = Do AddStatement ∷ []

abbrev pub statement_move : Values → Word → Option Sentence → MachineMove
statement_move vs t None = Skips (with_statement None vs)
statement_move vs t (Some s) = then_also (behind_class s.class) (form_move s.form vs (Some t))

abbrev pub one_statement : Values → Option Word → MachineMove
one_statement vs None = Skips (with_statement None vs)
one_statement vs (Some t) = statement_move vs t (sentence_of t)

abbrev pub modified : Values → Word → Option Form → MachineMove
modified vs t None = Skips (kept_stated vs)
modified vs t (Some f) = then_also (Do Modify ∷ Modifiers ∷ Close ∷ []) (form_move f vs (Some t))

abbrev pub modifiers : Values → Option Word → MachineMove
modifiers vs None = Skips (kept_stated vs)
modifiers vs (Some t) = modified vs t (modifier_of t)

abbrev pub more_statements : Values → Option Word → MachineMove
more_statements vs o = take_sign false sign.Colon vs o (OneStatement ∷ MoreStatements ∷ []) (Skips (kept_parsed vs))

abbrev pub move : Symbol → Values → Option Word → MachineMove
move (Level l w) vs t = begin l w vs t
move (More l) vs t = more l t (is_text (top vs)) vs
move (MoreRelations must_be_number) vs t = related (option_and_then relation_of t) must_be_number (is_text (top vs)) vs
move Exponent vs t = exponent vs t
move (Expect s) vs t = expect s vs t
move Opening vs t = open_list vs t
move Close vs t = Closes vs
move (Do a) vs t = Skips (made a vs ∷ others a vs)
move (Subscripts name) vs t = subscripts name vs t
move SecondSubscript vs t = second_subscript vs t
move (Arguments name) vs t = arguments name vs t
move MoreArguments vs t = more_arguments vs t
move (Go f) vs t = form_move f vs t
move (Await g) vs t = form_move (g (top vs)) (below vs) t
move (AwaitClause g) vs t = form_move (g (StatementClause (stated vs))) (below vs) t
move Modifiers vs t = modifiers vs t
move OneStatement vs t = one_statement vs t
move MoreStatements vs t = more_statements vs t

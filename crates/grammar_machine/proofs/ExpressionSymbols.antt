-- The words of an expression expect only symbols of expressions.
use Rattle.std.proofs.Common.{◌&&◌, ◌||◌, ◌==◌, not, ℕ, zero, suc, Bool, true, false, cond, List, [], ◌∷◌, ◌++◌, Option, Some, None}
use Rattle.basic_tree.specs.declared.tokens.Keyword.TheVariants as keyword
use Rattle.basic_tree.specs.declared.names.Name.{Name}
use Rattle.basic_tree.specs.declared.tokens.Sign.{Sign}
use Rattle.basic_tree.specs.declared.tokens.Sign.TheVariants as sign
use Rattle.basic_tree.specs.declared.expressions.Operator.{Operator}
use Rattle.basic_tree.specs.declared.expressions.Operator.TheVariants as operator
use Rattle.basic_tree.specs.declared.expressions.Relation.{Relation}
use Rattle.basic_tree.specs.declared.expressions.Function.{Function}
use Rattle.basic_tree.specs.declared.kinds.Want.{Want}
use Rattle.basic_tree.specs.declared.kinds.Want.TheVariants as want
use Rattle.basic_tree.specs.SpellingWords.{Word, Key, Punctuation, Named, FnNamed, Number, Quotation}
use Rattle.basic_tree.specs.SpellingExpressions.{is_text}
use Rattle.std.specs.Prelude.{nat_lt}
use Rattle.basic_tree.specs.GrammarTables.{operator_level, joins_texts, arguments_of, gives_text, sign_level}
use Rattle.grammar_machine.specs.GrammarWords.{operator_of, relation_of, function_of, is_same_sign}
use Rattle.grammar_machine.specs.MachineStack.{Values, top, Action, Symbol, Level, More, MoreRelations, Exponent, Expect, Opening, Close, Do, Subscripts, SecondSubscript, Arguments, MoreArguments}
use Rattle.grammar_machine.specs.MachineStarts.{Start, behind, takes, more_expected, arguments_expected, function_start, atom, signed, negated, side, relations, Rank, Signs, Relations, Nots, Chain, rank_of, ranked, start}
use Rattle.grammar_machine.specs.MachineMoves.{MachineMove, Shifts, Skips, Closes, Refuses, begun, right_of, joined, more_of, no_relation, related, move}
use Rattle.grammar_machine.specs.MachineRun.{Turn, Next, Ended, Stuck, Deep, entered, moved, turn}

-- ---- the symbols of expressions

-- what the words of an expression expect
pub data InExpressions : Symbol → Type 0 where
  ALevel : (l : ℕ) (w : Want) → InExpressions (Level l w)
  AMore : (l : ℕ) → InExpressions (More l)
  AMoreRelations : (b : Bool) → InExpressions (MoreRelations b)
  AnExponent : InExpressions Exponent
  AnExpect : (s : Sign) → InExpressions (Expect s)
  AnOpening : InExpressions Opening
  AClose : InExpressions Close
  ADo : (a : Action) → InExpressions (Do a)
  ASubscripts : (name : Name) → InExpressions (Subscripts name)
  ASecondSubscript : InExpressions SecondSubscript
  AnArguments : (name : Name) → InExpressions (Arguments name)
  AMoreArguments : InExpressions MoreArguments

abbrev pub AllInExpressions : List Symbol → Type 0
AllInExpressions [] = Unit {0}
AllInExpressions (s ∷ k) = InExpressions s × AllInExpressions k

both_in : (a b : List Symbol) → AllInExpressions a → AllInExpressions b → AllInExpressions (a ++ b)
both_in [] b h g = g
both_in (s ∷ a) b h g = (h.0, both_in a b h.1 g)

-- ---- what begins an expression expects nothing else

abbrev StartsIn : Option Start → Type 0
StartsIn None = Unit {0}
StartsIn (Some s) = AllInExpressions s.expected

behind_in : (more : List Symbol) (s : Option Start) → AllInExpressions more → StartsIn s → StartsIn (behind more s)
behind_in more None h g = tt
behind_in more (Some s) h g = both_in s.expected more g h

cond_in : (b : Bool) (s : Option Start) → StartsIn s → StartsIn (cond b s None)
cond_in true s h = h
cond_in false s h = tt

more_expected_in : (ws : List Want) → AllInExpressions (more_expected ws)
more_expected_in [] = (AnExpect _, (AClose, tt))
more_expected_in (w ∷ ws) = (AnExpect _, (ALevel _ w, (ADo _, more_expected_in ws)))

arguments_expected_in : (ws : List Want) → AllInExpressions (arguments_expected ws)
arguments_expected_in [] = tt
arguments_expected_in (w ∷ ws) = (AnOpening, (ALevel _ w, (ADo _, more_expected_in ws)))

function_in : (w : Want) (vs : Values) (f : Option Function) → StartsIn (function_start w vs f)
function_in w vs None = tt
function_in w vs (Some f) = cond_in (takes w (gives_text f)) _ (both_in (arguments_expected (arguments_of f)) _ (arguments_expected_in (arguments_of f)) (ADo _, tt))

atom_in : (w : Want) (vs : Values) (t : Word) → StartsIn (atom w vs t)
atom_in w vs (Number n) = cond_in (takes w false) _ (cond_in (nat_lt n 32768) _ tt)
atom_in w vs (Quotation text) = cond_in (takes w true) _ tt
atom_in w vs (Named name) = cond_in (takes w name.text) _ (ASubscripts name, tt)
atom_in w vs (FnNamed name) = cond_in (takes w name.text) _ (AnArguments name, tt)
atom_in w vs (Punctuation sign.Opening) = (ALevel _ w, (AnExpect _, (AClose, (ADo _, tt))))
atom_in w vs (Punctuation s) = tt
atom_in w vs (Key k) = function_in w vs (function_of k)
atom_in w vs t = tt

signed_in : (w : Want) (vs : Values) (operand : Symbol) (t : Word) (s : Option Start) → InExpressions operand → StartsIn s → StartsIn (signed w vs operand t s)
signed_in w vs operand (Punctuation sign.Minus) s h g = cond_in (takes w false) _ (h, (AClose, (ADo _, tt)))
signed_in w vs operand (Punctuation sign.Plus) s h g = cond_in (takes w false) _ (h, (AClose, (ADo _, tt)))
signed_in w vs operand (Punctuation x) s h g = g
signed_in w vs operand t s h g = g

negated_in : (w : Want) (vs : Values) (t : Word) (s : Option Start) → StartsIn s → StartsIn (negated w vs t s)
negated_in w vs (Key keyword.Not) s g = cond_in (takes w false) _ (ALevel _ _, (AClose, (ADo _, tt)))
negated_in w vs (Key k) s g = g
negated_in w vs t s g = g

relations_in : (w : Want) → AllInExpressions (relations w)
relations_in want.Number = (AMoreRelations true, tt)
relations_in want.Text = tt
relations_in want.Either = (AMoreRelations false, tt)

ranked_in : (r : Rank) (l : ℕ) (w : Want) (vs : Values) (t : Word) (tighter : Want → Option Start) → ((v : Want) → StartsIn (tighter v)) → StartsIn (ranked r l w vs t tighter)
ranked_in Signs l w vs t tighter h = signed_in w vs (Level sign_level want.Number) t (tighter w) (ALevel _ _) (h w)
ranked_in Relations l w vs t tighter h = behind_in (relations w) (tighter (side w)) (relations_in w) (h (side w))
ranked_in Nots l w vs t tighter h = negated_in w vs t (tighter w) (h w)
ranked_in Chain l w vs t tighter h = behind_in (More l ∷ []) (tighter w) (AMore l, tt) (h w)

start_in : (l : ℕ) (w : Want) (vs : Values) (t : Word) → StartsIn (start l w vs t)
start_in zero w vs t = atom_in w vs t
start_in (suc l) w vs t = ranked_in (rank_of (suc l)) (suc l) w vs t (λ v. start l v vs t) (λ v. start_in l v vs t)

-- ---- each move expects nothing else

abbrev MovesIn : MachineMove → Type 0
MovesIn (Shifts opens vs more) = AllInExpressions more
MovesIn (Skips vs) = Unit {0}
MovesIn (Closes vs) = Unit {0}
MovesIn Refuses = Unit {0}

begun_in : (s : Option Start) → StartsIn s → MovesIn (begun s)
begun_in None h = tt
begun_in (Some s) h = h

right_in : (o : Operator) (x : Bool) → InExpressions (right_of o x)
right_in operator.Power x = AnExponent
right_in o x = ALevel _ _

joined_in : (b : Bool) (l : ℕ) (o : Operator) (x : Bool) (vs : Values) → MovesIn (joined b l o x vs)
joined_in true l o x vs = (right_in o x, (ADo _, (AMore l, tt)))
joined_in false l o x vs = tt

more_in : (l : ℕ) (o : Option Operator) (x : Bool) (vs : Values) → MovesIn (more_of l o x vs)
more_in l None x vs = tt
more_in l (Some o) x vs = joined_in (operator_level o == l && (not x || joins_texts o)) l o x vs

no_relation_in : (b x : Bool) (vs : Values) → MovesIn (no_relation b x vs)
no_relation_in true true vs = tt
no_relation_in true false vs = tt
no_relation_in false x vs = tt

related_in : (o : Option Relation) (b x : Bool) (vs : Values) → MovesIn (related o b x vs)
related_in None b x vs = no_relation_in b x vs
related_in (Some r) b x vs = (ALevel _ _, (ADo _, (AMoreRelations b, tt)))

expect_in : (b : Bool) (vs : Values) → MovesIn (cond b (Shifts false vs []) Refuses)
expect_in true vs = tt
expect_in false vs = tt

move_in : {s : Symbol} → InExpressions s → (vs : Values) (t : Word) → MovesIn (move s vs (Some t))
move_in (ALevel l w) vs t = begun_in (start l w vs t) (start_in l w vs t)
move_in (AMore l) vs t = more_in l (operator_of t) (is_text (top vs)) vs
move_in (AMoreRelations b) vs t = related_in (relation_of t) b (is_text (top vs)) vs
move_in AnExponent vs t = begun_in (signed want.Number vs Exponent t (atom want.Number vs t)) (signed_in want.Number vs Exponent t (atom want.Number vs t) AnExponent (atom_in want.Number vs t))
move_in (AnExpect s) vs (Punctuation x) = expect_in (is_same_sign s x) vs
move_in AnOpening vs (Punctuation sign.Opening) = tt
move_in (ASubscripts name) vs (Punctuation sign.Opening) = (ALevel _ _, (ADo _, (ASecondSubscript, (AnExpect _, (AClose, (ADo _, tt))))))
move_in ASecondSubscript vs (Punctuation sign.Comma) = (ALevel _ _, (ADo _, tt))
move_in (AnArguments name) vs (Punctuation sign.Opening) = (ALevel _ _, (ADo _, (AMoreArguments, (AnExpect _, (AClose, (ADo _, tt))))))
move_in AMoreArguments vs (Punctuation sign.Comma) = (ALevel _ _, (ADo _, (AMoreArguments, tt)))
move_in s vs t = tt

abbrev pub TurnsIn : Turn → Type 0
TurnsIn (Next m vs k) = AllInExpressions k
TurnsIn (Ended vs) = Unit {0}
TurnsIn Stuck = Unit {0}
TurnsIn Deep = Unit {0}

entered_in : (b : Bool) (n : ℕ) (vs : Values) (k : List Symbol) → AllInExpressions k → TurnsIn (entered b n vs k)
entered_in false n vs k h = h
entered_in true zero vs k h = tt
entered_in true (suc n) vs k h = h

moved_in : (m : MachineMove) (n : ℕ) (k : List Symbol) (f : ℕ → Values → Turn) → MovesIn m → AllInExpressions k → ((i : ℕ) (vs : Values) → TurnsIn (f i vs)) → TurnsIn (moved m n k f)
moved_in (Shifts b vs more) n k f h g on = entered_in b n vs (more ++ k) (both_in more k h g)
moved_in (Skips vs) n k f h g on = on n vs
moved_in (Closes vs) n k f h g on = on (suc n) vs
moved_in Refuses n k f h g on = tt

pub turn_in : (k : List Symbol) (n : ℕ) (vs : Values) (t : Word) → AllInExpressions k → TurnsIn (turn k n vs (Some t))
turn_in [] n vs t h = tt
turn_in (s ∷ k) n vs t h = moved_in (move s vs (Some t)) n k (λ m vs'. turn k m vs' (Some t)) (move_in h.0 vs t) h.1 (λ i vs'. turn_in k i vs' t h.1)

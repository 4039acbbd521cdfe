-- What the functions of the parser return, in terms of symbols of the machine, whatever is expected
-- after these.
use Rattle.std.specs.Prelude.{◌≡◌, nat_lt, ℕ, suc, ◌+◌, ◌==◌, not, ◌||◌, ◌&&◌, Bool, true, false, ◌<◌, ◌≤◌, List, [], ◌∷◌, ◌++◌, length, drop, Option, Some, None, Result, Ok, Err}
use Rattle.basic_expr.specs.declared.failures.Failure.{Failure}
use Rattle.basic_expr.specs.declared.failures.Failure.TheVariants as failure
use Rattle.basic_expr.specs.declared.failures.Found.{Found}
use Rattle.basic_expr.specs.declared.signs.Prefix.{Prefix}
use Rattle.basic_expr.specs.declared.signs.Prefix.TheVariants as prefix
use Rattle.basic_tree.specs.declared.tokens.Keyword.{Keyword}
use Rattle.basic_tree.specs.declared.tokens.Sign.{Sign}
use Rattle.basic_tree.specs.declared.tokens.Sign.TheVariants as sign
use Rattle.basic_tree.specs.declared.expressions.Expr.{Expr}
use Rattle.basic_tree.specs.declared.expressions.Operator.{Operator}
use Rattle.basic_tree.specs.declared.expressions.Relation.{Relation}
use Rattle.basic_tree.specs.declared.expressions.Function.{Function}
use Rattle.basic_tree.specs.declared.kinds.Want.{Want}
use Rattle.basic_tree.specs.declared.kinds.Want.TheVariants as want
use Rattle.basic_tree.specs.SpellingWords.{FnNamed, Item, Key, Named, Number, Punctuation, Quotation, Word}
use Rattle.basic_tree.specs.SpellingExpressions.{is_text, want_of}
use Rattle.basic_tree.specs.Trees.{Tree, Trees, NoTrees, AndTrees, Negative, Positive, Not}
use Rattle.basic_tree.specs.TreeViews.{tree_of}
use Rattle.basic_tree.specs.GrammarTables.{arguments_of, gives_text, joins_texts, operator_level}
use Rattle.grammar_machine.specs.GrammarWords.{function_of, is_same_sign, is_same_keyword}
use Rattle.grammar_machine.specs.MachineStack.{Action, Close, Do, Exponent, Level, MakeComparison, MakeFunction, MakeNegative, MakeNot, MakeOperation, MakePositive, More, MoreRelations, SecondSubscript, Several, Symbol, Term, Value, Values}
use Rattle.grammar_machine.specs.MachineStarts.{arguments_expected, takes}
use Rattle.grammar_machine.specs.MachineMoves.{right_of}
use Rattle.grammar_machine.specs.MachineRun.{Halt, TooDeep, Wrong, run}

-- ---- symbols

-- with these symbols and values on top of any others, the machine stops like this
abbrev pub HaltsAll : ℕ → List Word → List Symbol → Values → ℕ → Halt → Type 0
HaltsAll n ws ss v from halt = (k : List Symbol) (vs : Values) → run n (drop from ws) (ss ++ k) (v ++ vs) ≡ Err halt

abbrev pub RefusesAll : ℕ → List Word → List Symbol → Values → ℕ → Failure → Type 0
RefusesAll n ws ss v from failure.NoMemory = Unit {0}
RefusesAll n ws ss v from (failure.Wrong place) = (place ≤ length ws) × HaltsAll n ws ss v from (Wrong (drop place ws))
RefusesAll n ws ss v from (failure.TooDeep place) = (place < length ws) × HaltsAll n ws ss v from (TooDeep (drop place ws))

-- with these symbols and values on top, the words up to the end are taken, and this value replaces
-- the values
abbrev pub TakesAll : ℕ → List Word → List Symbol → Values → ℕ → ℕ → Value → Type 0
TakesAll n ws ss v from end made = (k : List Symbol) (vs : Values) → run n (drop from ws) (ss ++ k) (v ++ vs) ≡ run n (drop end ws) k (made ∷ vs)

-- the same with the tree that was found
abbrev pub ReadsAll : ℕ → List Word → List Symbol → Values → ℕ → Result Found Failure → Type 0
ReadsAll n ws ss v from (Ok f) = TakesAll n ws ss v from f.end (Term (tree_of f.tree))
ReadsAll n ws ss v from (Err e) = RefusesAll n ws ss v from e

-- one symbol
abbrev pub ReadsAt : ℕ → List Word → Symbol → ℕ → Result Found Failure → Type 0
ReadsAt n ws s from r = ReadsAll n ws (s ∷ []) [] from r

abbrev pub RefusesAt : ℕ → List Word → Symbol → ℕ → Failure → Type 0
RefusesAt n ws s from e = RefusesAll n ws (s ∷ []) [] from e

-- if it ends, then after the place, and with this kind
abbrev pub EndsBehind : List Word → ℕ → Result Found Failure → Type 0
EndsBehind ws from (Ok f) = (from < f.end) × (f.end ≤ length ws) × (f.text ≡ is_text (tree_of f.tree))
EndsBehind ws from (Err e) = Unit {0}

-- if it ends, then at the place or after it, and with this kind
abbrev pub EndsFrom : List Word → ℕ → Result Found Failure → Type 0
EndsFrom ws from (Ok f) = (from ≤ f.end) × (f.end ≤ length ws) × (f.text ≡ is_text (tree_of f.tree))
EndsFrom ws from (Err e) = Unit {0}

-- ---- words

-- this word is at the place
abbrev pub WordStands : List Word → Word → ℕ → Type 0
WordStands ws w place = (place < length ws) × (drop place ws ≡ w ∷ drop (place + 1) ws)

-- the first word, if there is one, does not pass the test
abbrev pub First : (Word → Bool) → List Word → Type 0
First test [] = Unit {0}
First test (w ∷ ws) = test w ≡ false

abbrev pub is_sign : Sign → Word → Bool
is_sign s (Punctuation t) = is_same_sign s t
is_sign s other = false

abbrev pub is_key : Keyword → Word → Bool
is_key k (Key j) = is_same_keyword k j
is_key k other = false

-- one sign, with any nesting levels left
abbrev pub RefusesSign : List Word → Sign → ℕ → Failure → Type 0
RefusesSign ws s from failure.NoMemory = ⊥
RefusesSign ws s from (failure.Wrong place) = (place ≤ length ws) × (place ≡ from) × First (is_sign s) (drop place ws)
RefusesSign ws s from (failure.TooDeep place) = ⊥

abbrev pub ReadsSign : List Word → Sign → ℕ → Result ℕ Failure → Type 0
ReadsSign ws s from (Ok end) = (end ≡ from + 1) × (end ≤ length ws) × (drop from ws ≡ Punctuation s ∷ drop end ws)
ReadsSign ws s from (Err e) = RefusesSign ws s from e

-- ---- operators

-- whether an operator continues a precedence level after a string, or else after a number
abbrev pub goes_on : Operator → ℕ → Bool → Bool
goes_on o level text = operator_level o == level && (not text || joins_texts o)

-- at a place, after an operand of this kind, the operator continues the precedence level
abbrev pub TakesOperator : List Word → ℕ → ℕ → Bool → Operator → Type 0
TakesOperator ws place level text o =
    (n : ℕ) (k : List Symbol) (a : Tree) (vs : Values) → is_text a ≡ text
    → run n (drop place ws) (More level ∷ k) (Term a ∷ vs) ≡ run n (drop (place + 1) ws) (right_of o text ∷ Do (MakeOperation o) ∷ More level ∷ k) (Term a ∷ vs)

-- at a place, after an operand of this kind, the precedence level ends
abbrev pub EndsLevel : List Word → ℕ → ℕ → Bool → Type 0
EndsLevel ws place level text =
    (n : ℕ) (k : List Symbol) (a : Tree) (vs : Values) → is_text a ≡ text
    → run n (drop place ws) (More level ∷ k) (Term a ∷ vs) ≡ run n (drop place ws) k (Term a ∷ vs)

-- the operator at a place that continues a precedence level, or none
abbrev pub OperatorAt : List Word → ℕ → ℕ → Bool → Option Operator → Type 0
OperatorAt ws place level text (Some o) = (place < length ws) × TakesOperator ws place level text o
OperatorAt ws place level text None = EndsLevel ws place level text

-- at a place, after an operand, the relation continues
abbrev pub TakesRelation : List Word → ℕ → Relation → Type 0
TakesRelation ws place r =
    (n : ℕ) (must_be_number : Bool) (k : List Symbol) (a : Tree) (vs : Values)
    → run n (drop place ws) (MoreRelations must_be_number ∷ k) (Term a ∷ vs)
    ≡ run n (drop (place + 1) ws) (Level 4 (want_of (is_text a)) ∷ Do (MakeComparison r) ∷ MoreRelations must_be_number ∷ k) (Term a ∷ vs)

-- at a place the relations end, after an operand of a kind that the whole may have
abbrev pub EndsRelations : List Word → ℕ → Type 0
EndsRelations ws place =
    (n : ℕ) (must_be_number : Bool) (k : List Symbol) (a : Tree) (vs : Values) → (must_be_number && is_text a) ≡ false
    → run n (drop place ws) (MoreRelations must_be_number ∷ k) (Term a ∷ vs) ≡ run n (drop place ws) k (Term a ∷ vs)

-- at a place a string is rejected, because it has to become a number
abbrev pub RefusesText : List Word → ℕ → Type 0
RefusesText ws place =
    (n : ℕ) (k : List Symbol) (a : Tree) (vs : Values) → is_text a ≡ true
    → run n (drop place ws) (MoreRelations true ∷ k) (Term a ∷ vs) ≡ Err (Wrong (drop place ws))

-- the relation at a place, or none
abbrev pub RelationAt : List Word → ℕ → Option Relation → Type 0
RelationAt ws place (Some r) = (place < length ws) × TakesRelation ws place r
RelationAt ws place None = EndsRelations ws place × RefusesText ws place

-- whether relations are allowed if this kind is expected: a relation gives a number
abbrev pub takes_relations : Want → Bool
takes_relations want.Number = true
takes_relations want.Text = false
takes_relations want.Either = true

-- ---- what comes before an operand

abbrev pub action_of : Prefix → Action
action_of prefix.Minus = MakeNegative
action_of prefix.Plus = MakePositive
action_of prefix.Not = MakeNot

abbrev pub prefixed : Prefix → Tree → Tree
prefixed prefix.Minus a = Negative a
prefixed prefix.Plus a = Positive a
prefixed prefix.Not a = Not a

-- at a place, if a number is allowed, a prefix opens a nesting level for the operand
abbrev pub OpensPrefixed : (Want → Bool) → (Want → Symbol) → Symbol → List Word → ℕ → Prefix → Type 0
OpensPrefixed fits s operand ws place p =
    (n : ℕ) (w : Want) (k : List Symbol) (vs : Values) → fits w ≡ true
    → run (suc n) (drop place ws) (s w ∷ k) vs ≡ run n (drop (place + 1) ws) (operand ∷ Close ∷ Do (action_of p) ∷ k) vs

-- with no nesting level left it is too deep there
abbrev pub DeepPrefixed : (Want → Bool) → (Want → Symbol) → List Word → ℕ → Type 0
DeepPrefixed fits s ws place =
    (w : Want) (k : List Symbol) (vs : Values) → fits w ≡ true → run 0 (drop place ws) (s w ∷ k) vs ≡ Err (TooDeep (drop place ws))

-- if no number is allowed, it is rejected
abbrev pub RefusesPrefixed : (Want → Bool) → (Want → Symbol) → List Word → ℕ → Type 0
RefusesPrefixed fits s ws place =
    (n : ℕ) (w : Want) (k : List Symbol) (vs : Values) → fits w ≡ false → run n (drop place ws) (s w ∷ k) vs ≡ Err (Wrong (drop place ws))

-- an operand that binds more tightly is there
abbrev pub GoesTighter : (Want → Symbol) → (Want → Symbol) → List Word → ℕ → Type 0
GoesTighter s tighter ws place =
    (n : ℕ) (w : Want) (k : List Symbol) (vs : Values) → run n (drop place ws) (s w ∷ k) vs ≡ run n (drop place ws) (tighter w ∷ k) vs

-- the prefix at a place, or none
abbrev pub PrefixAt : (Want → Bool) → (Want → Symbol) → Symbol → (Want → Symbol) → List Word → ℕ → Option Prefix → Type 0
PrefixAt fits s operand tighter ws place (Some p) =
    (place < length ws) × OpensPrefixed fits s operand ws place p × DeepPrefixed fits s ws place × RefusesPrefixed fits s ws place
PrefixAt fits s operand tighter ws place None = GoesTighter s tighter ws place

-- a number is allowed if this kind is expected
abbrev pub takes_number : Want → Bool
takes_number w = takes w false

abbrev pub always : Want → Bool
always w = true

abbrev pub signed_level : ℕ → Want → Symbol
signed_level l w = Level l w

abbrev pub exponents : Want → Symbol
exponents w = Exponent

abbrev pub number_atom : Want → Symbol
number_atom w = Level 0 want.Number

-- ---- atoms

abbrev pub fits_function : Want → Option Function → Bool
fits_function w None = false
fits_function w (Some f) = takes w (gives_text f)

-- whether an atom of the expected kind begins with a word
abbrev pub begins_atom : Want → Word → Bool
begins_atom w (Key k) = fits_function w (function_of k)
begins_atom w (Punctuation s) = is_same_sign sign.Opening s
begins_atom w (Named name) = takes w name.text
begins_atom w (FnNamed name) = takes w name.text
begins_atom w (Number n) = takes w false && nat_lt n 32768
begins_atom w (Quotation text) = takes w true
begins_atom w (Item bytes) = false

-- ---- lists

-- the trees of several expressions
abbrev pub trees_in : List Expr → Trees
trees_in [] = NoTrees
trees_in (e ∷ es) = AndTrees (tree_of e) (trees_in es)

-- the second subscript after a first one
abbrev pub second_tree : Option Expr → Trees
second_tree None = NoTrees
second_tree (Some e) = AndTrees (tree_of e) NoTrees

-- after a first subscript, the words up to the end are taken as a second one, or as none
abbrev pub TakesSecond : ℕ → List Word → ℕ → Option Expr → ℕ → Type 0
TakesSecond n ws from second end =
    (k : List Symbol) (a : Tree) (vs : Values)
    → run n (drop from ws) (SecondSubscript ∷ k) (Several (AndTrees a NoTrees) ∷ vs) ≡ run n (drop end ws) k (Several (AndTrees a (second_tree second)) ∷ vs)

abbrev pub ReadsSecond : ℕ → List Word → ℕ → Result (Option Expr × ℕ) Failure → Type 0
ReadsSecond n ws from (Ok x) = (from ≤ x.1) × (x.1 ≤ length ws) × TakesSecond n ws from x.0 x.1
ReadsSecond n ws from (Err e) = RefusesAt n ws SecondSubscript from e

-- what is expected after the name of a function of the language
abbrev pub function_expected : Function → List Symbol
function_expected f = arguments_expected (arguments_of f) ++ Do (MakeFunction f) ∷ []

-- ---- loops

-- so far an expression was read, and more may be expected
pub record Continues (n : ℕ) (ws : List Word) (s : Symbol) (from : ℕ) (more : List Symbol) (f : Found) : Type 0 where
  pub runs : (k : List Symbol) (vs : Values) → run n (drop from ws) (s ∷ k) vs ≡ run n (drop f.end ws) (more ++ k) (Term (tree_of f.tree) ∷ vs)
  pub after : from < f.end
  pub within : f.end ≤ length ws
  pub kind : f.text ≡ is_text (tree_of f.tree)

-- so far these arguments were read after an opened nesting level, and more may be expected
pub record Gathers (n m : ℕ) (ws : List Word) (ss : List Symbol) (v : Values) (from : ℕ) (more : List Symbol) (items : List Expr) (place : ℕ) : Type 0 where
  pub runs : (k : List Symbol) (vs : Values) → run n (drop from ws) (ss ++ k) (v ++ vs) ≡ run m (drop place ws) (more ++ k) (Several (trees_in items) ∷ vs)
  pub after : from < place
  pub within : place ≤ length ws

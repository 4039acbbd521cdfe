-- How an expression of a precedence level begins with a word, and what is expected after that. It
-- serves proofs only.
use Rattle.std.specs.Prelude.{ℕ, zero, suc, ◌+◌, ◌==◌, nat_lt, not, if◌then◌else◌, List, [], ◌∷◌, ◌++◌, Bool, true, false, cond, Option, Some, None}
use Rattle.basic_values.specs.declared.limits.TheConstants.{MOST_NUMBER}
use Rattle.basic_tree.specs.declared.tokens.Keyword.TheVariants as keyword
use Rattle.basic_tree.specs.declared.tokens.Sign.TheVariants as sign
use Rattle.basic_tree.specs.declared.expressions.Function.{Function}
use Rattle.basic_tree.specs.declared.kinds.Want.{Want}
use Rattle.basic_tree.specs.declared.kinds.Want.TheVariants as want
use Rattle.basic_tree.specs.SpellingWords.{Word, Key, Punctuation, Named, FnNamed, Number, Quotation}
use Rattle.basic_tree.specs.Trees.{Literal, Quoted, NoTrees}
use Rattle.basic_tree.specs.GrammarTables.{sign_level, relation_level, not_level, arguments_of, gives_text}
use Rattle.grammar_machine.specs.GrammarWords.{function_of}
use Rattle.grammar_machine.specs.MachineStack.{Action, Arguments, Close, Collect, Do, Expect, Level, MakeFunction, MakeNegative, MakeNot, MakeParenthesized, MakePositive, More, MoreRelations, Opening, Several, Subscripts, Symbol, Term, Values, loosest}

-- ---- how an expression begins

-- whether a nesting level opens, the values, and what is expected then
pub record Start : Type 0 where
  pub opens : Bool
  pub values : Values
  pub expected : List Symbol

abbrev pub starts : Bool → Values → List Symbol → Option Start
starts opens vs expected = Some (record { opens = opens; values = vs; expected = expected })

abbrev pub behind : List Symbol → Option Start → Option Start
behind more None = None
behind more (Some s) = Some (record { opens = s.opens; values = s.values; expected = s.expected ++ more })

-- whether a number or a string is allowed if this kind is expected
abbrev pub takes : Want → Bool → Bool
takes want.Number is_textual = not is_textual
takes want.Text is_textual = is_textual
takes want.Either is_textual = true

abbrev pub if_takes : Want → Bool → Option Start → Option Start
if_takes w is_textual s = cond (takes w is_textual) s None

-- the arguments of a function, each of its kind, separated by commas
abbrev pub more_expected : List Want → List Symbol
more_expected [] = Expect sign.Closing ∷ Close ∷ []
more_expected (w ∷ ws) = Expect sign.Comma ∷ Level loosest w ∷ Do Collect ∷ more_expected ws

abbrev pub arguments_expected : List Want → List Symbol
arguments_expected [] = []
arguments_expected (w ∷ ws) = Opening ∷ Level loosest w ∷ Do Collect ∷ more_expected ws

abbrev pub function_start : Want → Values → Option Function → Option Start
function_start w vs None = None
function_start w vs (Some f) =
    if_takes w (gives_text f) (starts false (Several NoTrees ∷ vs) (arguments_expected (arguments_of f) ++ Do (MakeFunction f) ∷ []))

abbrev pub atom : Want → Values → Word → Option Start
atom w vs (Number n) = if_takes w false (cond (nat_lt n (MOST_NUMBER + 1)) (starts false (Term (Literal n) ∷ vs) []) None)
atom w vs (Quotation text) = if_takes w true (starts false (Term (Quoted text) ∷ vs) [])
atom w vs (Named name) = if_takes w name.text (starts false vs (Subscripts name ∷ []))
atom w vs (FnNamed name) = if_takes w name.text (starts false vs (Arguments name ∷ []))
atom w vs (Punctuation sign.Opening) = starts true vs (Level loosest w ∷ Expect sign.Closing ∷ Close ∷ Do MakeParenthesized ∷ [])
atom w vs (Key k) = function_start w vs (function_of k)
atom w vs other = None

-- what a sign or NOT leads to
abbrev pub prefixed : Want → Values → Symbol → Action → Option Start
prefixed w vs operand a = if_takes w false (starts true vs (operand ∷ Close ∷ Do a ∷ []))

abbrev pub signed : Want → Values → Symbol → Word → Option Start → Option Start
signed w vs operand (Punctuation sign.Minus) s = prefixed w vs operand MakeNegative
signed w vs operand (Punctuation sign.Plus) s = prefixed w vs operand MakePositive
signed w vs operand other s = s

abbrev pub negated : Want → Values → Word → Option Start → Option Start
negated w vs (Key keyword.Not) s = prefixed w vs (Level not_level want.Number) MakeNot
negated w vs other s = s

-- the kind of a relation's left side
abbrev pub side : Want → Want
side want.Number = want.Either
side want.Text = want.Text
side want.Either = want.Either

abbrev pub relations : Want → List Symbol
relations want.Number = MoreRelations true ∷ []
relations want.Text = []
relations want.Either = MoreRelations false ∷ []

-- what a precedence level has: signs, relations, NOT, or a chain of operators
pub data Rank : Type 0 where
  Signs : Rank
  Relations : Rank
  Nots : Rank
  Chain : Rank

abbrev pub rank_of : ℕ → Rank
rank_of l =
    if l == sign_level then Signs
    else (if l == relation_level then Relations
    else (if l == not_level then Nots
    else Chain))

abbrev pub ranked : Rank → ℕ → Want → Values → Word → (Want → Option Start) → Option Start
ranked Signs l w vs t tighter = signed w vs (Level sign_level want.Number) t (tighter w)
ranked Relations l w vs t tighter = behind (relations w) (tighter (side w))
ranked Nots l w vs t tighter = negated w vs t (tighter w)
ranked Chain l w vs t tighter = behind (More l ∷ []) (tighter w)

abbrev pub start : ℕ → Want → Values → Word → Option Start
start zero w vs t = atom w vs t
start (suc l) w vs t = ranked (rank_of (suc l)) (suc l) w vs t (λ v. start l v vs t)

-- CHAIN: a number right after a string expression that cannot take the number's first word.
use Rattle.std.proofs.Common.{subst, ◌≡◌, ◌+◌, ◌&&◌, not, ℕ, Bool, true, false, List, [], ◌∷◌, ◌++◌, Option, Some, None, refl, sym, ap, ◌∙◌, arith}
use Rattle.basic_tree.specs.declared.tokens.Keyword.TheVariants as keyword
use Rattle.basic_tree.specs.declared.tokens.Sign.TheVariants as sign
use Rattle.basic_tree.specs.declared.kinds.Want.TheVariants as want
use Rattle.basic_tree.specs.SpellingWords.{Word, Key, Punctuation, LevelStep, Plain, Opens, Closes, words}
use Rattle.basic_tree.specs.Trees.{Tree, Variable, Call, Negative, Positive, Not, Operation, Comparison, NoTrees, AndTrees, Chain}
use Rattle.basic_tree.specs.SpellingExpressions.{steps_of}
use Rattle.basic_tree.specs.SpellingParts.{first_word, last_word, is_name, may_follow}
use Rattle.basic_tree.specs.SpellingPieces.{WordPiece, Expression, Holds, IsPiece, ArePieces, pieces_steps, number}
use Rattle.basic_tree.specs.SpellingStatements.{pieces_of}
use Rattle.grammar_machine.specs.GrammarWords.{operator_of, relation_of}
use Rattle.grammar_machine.specs.MachineStack.{Value, Go, Await, Form, ExprOf, ExprIf}
use Rattle.grammar_machine.specs.MachineForms.{begins_value, chains}
use Rattle.grammar_machine.specs.MachineRun.{run}
use Rattle.grammar_machine.proofs.MachineSteps.{First, is_operator_at, is_relation, is_opening}
use Rattle.grammar_machine.proofs.MachineLeads.{Follows, ends_bare, words_append, words_parts}
use Rattle.grammar_machine.proofs.MachineComplete.{depth_of, whole}
use Rattle.grammar_machine.proofs.MachineForms.{complete}
use Rattle.grammar_machine.proofs.FormSteps.{run_expr, run_await, expr_if, expr_if_not}
use Rattle.grammar_machine.proofs.FormReads.{Reads, Begins, begins_tree}
use Rattle.grammar_machine.proofs.FormParts.{read_made, read_holds, read_key, read_if_key, read_not_key, read_expr, ending_value}
use Rattle.grammar_machine.proofs.FormSimple.{Begun, begun_as}

-- ---- the last word of an expression

last_behind : (a b : List Word) (w : Word) → last_word (a ++ w ∷ b) ≡ last_word (w ∷ b)
last_behind [] b w = refl
last_behind (x ∷ []) b w = refl
last_behind (x ∷ (y ∷ a)) b w = last_behind (y ∷ a) b w

-- a list of words that is not empty
abbrev IsSome : List Word → Type 0
IsSome [] = ⊥
IsSome (w ∷ ws) = Unit {0}

last_behind_some : (a b : List Word) → IsSome b → last_word (a ++ b) ≡ last_word b
last_behind_some a [] h = absurd h
last_behind_some a (w ∷ b) h = last_behind a b w

some_append : (a b : List Word) → IsSome b → IsSome (a ++ b)
some_append [] b h = h
some_append (w ∷ a) b h = tt

some_words : (t : Tree) → IsSome (words (steps_of t))
some_words (Operation a o b) = subst IsSome (sym (words_append (steps_of a) (Plain _ ∷ steps_of b))) (some_append (words (steps_of a)) (_ ∷ words (steps_of b)) tt)
some_words (Comparison a o b) = subst IsSome (sym (words_append (steps_of a) (Plain _ ∷ steps_of b))) (some_append (words (steps_of a)) (_ ∷ words (steps_of b)) tt)
some_words t = tt

-- after a first word
last_second : (w : Word) (b : List Word) → IsSome b → last_word (w ∷ b) ≡ last_word b
last_second w b h = last_behind_some (w ∷ []) b h

words_closed : (a : List LevelStep) → words (a ++ Closes ∷ []) ≡ words a
words_closed [] = refl
words_closed (Plain w ∷ a) = ap (λ x. w ∷ x) (words_closed a)
words_closed (Opens w ∷ a) = ap (λ x. w ∷ x) (words_closed a)
words_closed (Closes ∷ a) = words_closed a

last_prefixed : (w : Word) (a : Tree) → last_word (w ∷ words (steps_of a ++ Closes ∷ [])) ≡ last_word (words (steps_of a))
last_prefixed w a = ap (λ x. last_word (w ∷ x)) (words_closed (steps_of a)) ∙ last_second w (words (steps_of a)) (some_words a)

last_joined : (w : Word) (a b : Tree) → last_word (words (steps_of a ++ Plain w ∷ steps_of b)) ≡ last_word (words (steps_of b))
last_joined w a b = ap last_word (words_append (steps_of a) (Plain w ∷ steps_of b)) ∙ last_behind (words (steps_of a)) (words (steps_of b)) w ∙ last_second w (words (steps_of b)) (some_words b)

-- a tree whose last name could take a list ends in a name
bare_name : (t : Tree) → ends_bare t ≡ true → is_name (last_word (words (steps_of t))) ≡ true
bare_name (Variable name) h = refl
bare_name (Call name NoTrees) h = refl
bare_name (Call name (AndTrees a more)) h = absurd cc
bare_name (Negative a) h = ap is_name (last_prefixed _ a) ∙ bare_name a h
bare_name (Positive a) h = ap is_name (last_prefixed _ a) ∙ bare_name a h
bare_name (Not a) h = ap is_name (last_prefixed _ a) ∙ bare_name a h
bare_name (Operation a o b) h = ap is_name (last_joined _ a b) ∙ bare_name b h
bare_name (Comparison a o b) h = ap is_name (last_joined _ a b) ∙ bare_name b h
bare_name t h = absurd cc

-- ---- the first word of the number

value_no_operator : (l : Option Word) (t : Word) → begins_value t ≡ true → may_follow l (Some t) ≡ true → operator_of t ≡ None
value_no_operator l (Punctuation sign.Opening) b m = refl
value_no_operator l (Punctuation s) b m = absurd cc
value_no_operator l (Key keyword.And) b m = absurd cc
value_no_operator l (Key keyword.Or) b m = absurd cc
value_no_operator l (Key keyword.Xor) b m = absurd cc
value_no_operator l (Key keyword.Imp) b m = absurd cc
value_no_operator l (Key keyword.Eqv) b m = absurd cc
value_no_operator l (Key k) b m = refl
value_no_operator l t b m = refl

value_no_relation : (t : Word) → begins_value t ≡ true → relation_of t ≡ None
value_no_relation (Punctuation sign.Opening) b = refl
value_no_relation (Punctuation sign.Plus) b = refl
value_no_relation (Punctuation sign.Minus) b = refl
value_no_relation (Punctuation s) b = absurd cc
value_no_relation t b = refl

value_follows : (l : Option Word) (t : Word) (r : List Word) → begins_value t ≡ true → may_follow l (Some t) ≡ true → Follows 12 (t ∷ r)
value_follows l t r b m =
    let o : (c : ℕ) → is_operator_at c (operator_of t) ≡ false = λ c. ap (λ x. is_operator_at c x) (value_no_operator l t b m) in
    let q : is_relation (relation_of t) ≡ false = ap is_relation (value_no_relation t b) in
    ((((((((((((tt, o 0), o 1), refl), o 3), o 4), q), refl), o 7), o 8), o 9), o 10), o 11)

name_no_opening : (l : Option Word) (t : Word) → is_name l ≡ true → may_follow l (Some t) ≡ true → is_opening t ≡ false
name_no_opening l (Punctuation sign.Opening) n m = let e : not (is_name l) ≡ not true = ap not n in absurd cc
name_no_opening l (Punctuation s) n m = refl
name_no_opening l t n m = refl

-- ---- CHAIN

-- the words of a number begin with one that may follow the string
record Behind (t m : Tree) (r : List Word) : Type 0 where
  word : Word
  rest : List Word
  spelled : words (steps_of m) ++ r ≡ word ∷ rest
  begins : begins_value word ≡ true
  follows : may_follow (last_word (words (steps_of t))) (Some word) ≡ true

first_appended : (a r rest : List Word) (w : Word) → IsSome a → a ++ r ≡ w ∷ rest → first_word a ≡ Some w
first_appended [] r rest w h e = absurd h
first_appended (x ∷ a) r rest w h e = cc

behind_text : (t m : Tree) (r : List Word) → IsPiece (Expression want.Number m) → may_follow (last_word (words (steps_of t))) (first_word (words (steps_of m))) ≡ true → Behind t m r
behind_text t m r i h =
    let b : Begins (words (steps_of m) ++ r) = begins_tree m r i.0 in
    record {
      word = b.word;
      rest = b.rest;
      spelled = b.spelled;
      begins = b.begins;
      follows = subst (λ x. may_follow (last_word (words (steps_of t))) x ≡ true) (first_appended (words (steps_of m)) r b.rest b.word (some_words m) b.spelled) h;
    }

read_text : {e : Bool} {g : Tree → Form} {t m : Tree} {v : Value} {b : Bool} → IsPiece (Expression want.Text t) → IsPiece (Expression want.Number m) → may_follow (last_word (words (steps_of t))) (first_word (words (steps_of m))) ≡ true → Reads e false (g t) (Holds b ∷ number m ∷ []) v → Reads e false (ExprOf want.Text g) (Expression want.Text t ∷ Holds b ∷ number m ∷ []) v
read_text {e = e} {g = g} {t = t} {m = m} {b = b} i j f a = record {
  bound = depth_of t + a.bound;
  by = λ n h r k vs x.
      let ps : List WordPiece = Holds b ∷ number m ∷ [] in
      let begun : Behind t m ([] ++ r) = behind_text t m ([] ++ r) j f in
      let same : words (pieces_steps ps) ++ r ≡ begun.word ∷ begun.rest = words_parts (steps_of m) [] r ∙ begun.spelled in
      ap (λ ws. run n ws (Go (ExprOf want.Text g) ∷ k) vs) (words_parts (steps_of t) (pieces_steps ps) r)
      ∙ run_expr n want.Text g _ k vs
      ∙ whole n t i.0 (complete t n i.0 (omega (arith, h))).leads want.Text _ (Await g ∷ k) vs i.1 (subst (λ y. Follows 12 y) (sym same) (value_follows _ begun.word begun.rest begun.begins begun.follows)) (λ y. subst (First is_opening) (sym same) (name_no_opening _ begun.word (bare_name t y) begun.follows))
      ∙ run_await n g _ k t vs
      ∙ a.by n (omega (arith, h)) r k vs x;
}

both_true : (a b : Bool) → a ≡ true → b ≡ true → (a && b) ≡ true
both_true true b h i = i
both_true false b h i = absurd cc

read_if_expr : {e : Bool} {m : Tree} {g : Tree → Form} {f : Form} {v : Value} {b : Bool} (t : Tree) → IsPiece (Expression want.Number m) → may_follow (last_word (words (steps_of t))) (first_word (words (steps_of m))) ≡ true → Reads e false (ExprOf want.Number g) (number m ∷ []) v → Reads e false (ExprIf (chains t) want.Number g f) (Holds b ∷ number m ∷ []) v
read_if_expr {e = e} {m = m} {g = g} {f = f} t j h a = record {
  bound = a.bound;
  by = λ n l r k vs x.
      let begun : Behind t m ([] ++ r) = behind_text t m ([] ++ r) j h in
      let same : words (pieces_steps (number m ∷ [])) ++ r ≡ begun.word ∷ begun.rest = words_parts (steps_of m) [] r ∙ begun.spelled in
      subst (λ y. run n y (Go (ExprIf (chains t) want.Number g f) ∷ k) vs ≡ run n y (Go (ExprOf want.Number g) ∷ k) vs) (sym same) (expr_if n (chains t) want.Number g f begun.word begun.rest k vs (both_true (begins_value begun.word) _ begun.begins begun.follows))
      ∙ a.by n l r k vs x;
}

no_chain : (t : Tree) (r : List Word) → First begins_value r → First (chains t) r
no_chain t [] h = tt
no_chain t (w ∷ r) h = ap (λ b. b && may_follow (last_word (words (steps_of t))) (Some w)) h

pub read_no_expr : {e : Bool} {g : Tree → Form} {f : Form} {v : Value} (t : Tree) → Reads e false f [] v → Reads e false (ExprIf (chains t) want.Number g f) [] v
read_no_expr t a = record { bound = a.bound; by = λ n h r k vs x. expr_if_not n (chains t) want.Number _ _ r k vs (no_chain t r (ending_value _ r x)) ∙ a.by n h r k vs x }

pub chain_number : (t : Tree) (word : Bool) (m : Tree) → ArePieces (pieces_of (Chain t (Some (record { word = word; number = m })))) → Begun (Chain t (Some (record { word = word; number = m })))
chain_number t true m a = begun_as (Key keyword.Chain) refl refl (refl, refl) (read_key (read_expr a.1.0 refl (read_if_key (read_holds (read_expr a.1.1.1.1.0 refl read_made)))))
chain_number t false m a = begun_as (Key keyword.Chain) refl refl (refl, refl) (read_key (read_text a.1.0 a.1.1.1.0 a.1.1.0 (read_not_key refl a.1.1 (read_if_expr t a.1.1.1.0 a.1.1.0 (read_expr a.1.1.1.0 refl read_made)))))

-- Pieces that a form reads, and what may follow them.
use Rattle.std.proofs.Common.{subst, ◌≡◌, ℕ, suc, ◌≤◌, not, Bool, true, false, List, [], ◌∷◌, ◌++◌, None, refl, sym, ap}
use Rattle.basic_tree.specs.declared.tokens.Keyword.{Keyword}
use Rattle.basic_tree.specs.declared.tokens.Keyword.TheVariants as keyword
use Rattle.basic_tree.specs.declared.tokens.Sign.{Sign}
use Rattle.basic_tree.specs.declared.tokens.Sign.TheVariants as sign
use Rattle.basic_tree.specs.declared.expressions.Function.{Function}
use Rattle.basic_tree.specs.declared.expressions.Function.TheVariants as function
use Rattle.basic_tree.specs.SpellingWords.{Word, Key, Punctuation, Number, Plain, Opens, Closes, words}
use Rattle.basic_tree.specs.Trees.{Tree, Literal, FunctionOf, Operation, Comparison}
use Rattle.basic_tree.specs.SpellingExpressions.{steps_of, IsTree}
use Rattle.basic_tree.specs.SpellingPieces.{WordPiece, Fixed, Expression, NameOf, LiteralOf, Holds, pieces_steps, ArePieces}
use Rattle.basic_tree.specs.GrammarTables.{function_keyword}
use Rattle.grammar_machine.specs.GrammarWords.{operator_of, relation_of}
use Rattle.grammar_machine.specs.MachineStack.{Value, Values, Symbol, Go, Form}
use Rattle.grammar_machine.specs.MachineForms.{begins_value, key_begins}
use Rattle.grammar_machine.specs.MachineRun.{run}
use Rattle.grammar_machine.proofs.MachineSteps.{First, is_operator_at, is_relation, is_opening}
use Rattle.grammar_machine.proofs.MachineLeads.{Follows, Parted, words_parts}
use Rattle.grammar_machine.proofs.MachineComplete.{small}
use Rattle.grammar_machine.proofs.FormLeads.{word_ends, Ending, FormLeads}
use Rattle.grammar_machine.proofs.FormWords.{is_word, is_other_word}

-- the nesting levels that are left, and one more if a nesting level ends
abbrev pub raised : Bool → ℕ → ℕ
raised false n = n
raised true n = suc n

-- with enough nesting levels left, the words of these pieces lead from the form to the value; at
-- most one nesting level ends in them
pub record Reads (e ends : Bool) (f : Form) (ps : List WordPiece) (v : Value) : Type 0 where
  pub bound : ℕ
  pub by : (n : ℕ) → bound ≤ n → (r : List Word) (k : List Symbol) (vs : Values) → Ending e r → run n (words (pieces_steps ps) ++ r) (Go f ∷ k) vs ≡ run (raised ends n) r k (v ∷ vs)

pub reads_leads : {e : Bool} {f : Form} {ps : List WordPiece} {v : Value} → Reads e false f ps v → FormLeads e f (pieces_steps ps) v
reads_leads h = record { bound = h.bound; by = h.by }

-- ---- the first word of an expression

-- the words begin with one that a value may begin with
pub record Begins (ws : List Word) : Type 0 where
  pub word : Word
  pub rest : List Word
  pub spelled : ws ≡ word ∷ rest
  pub begins : begins_value word ≡ true

function_begins : (f : Function) → key_begins (function_keyword f) ≡ true
function_begins function.Len = refl
function_begins f = refl

pub begins_tree : (t : Tree) (r : List Word) → IsTree t → Begins (words (steps_of t) ++ r)
begins_tree (Literal n) r i = record { word = Number n; rest = r; spelled = refl; begins = small n i }
begins_tree (FunctionOf f ts) r i = record { word = Key (function_keyword f); rest = _; spelled = refl; begins = function_begins f }
begins_tree (Operation a o b) r i = subst Begins (sym (words_parts (steps_of a) (Plain _ ∷ steps_of b) r)) (begins_tree a _ i.0)
begins_tree (Comparison a o b) r i = subst Begins (sym (words_parts (steps_of a) (Plain _ ∷ steps_of b) r)) (begins_tree a _ i.0)
begins_tree t r i = record { word = _; rest = _; spelled = refl; begins = refl }

-- ---- after an expression

-- no operator, no relation and no opening parenthesis
abbrev pub no_operator_key : Keyword → Bool
no_operator_key keyword.And = false
no_operator_key keyword.Or = false
no_operator_key keyword.Xor = false
no_operator_key keyword.Imp = false
no_operator_key keyword.Eqv = false
no_operator_key other = true

abbrev pub no_operator_sign : Sign → Bool
no_operator_sign sign.Comma = true
no_operator_sign sign.Semicolon = true
no_operator_sign sign.Colon = true
no_operator_sign sign.Hash = true
no_operator_sign sign.Closing = true
no_operator_sign other = false

abbrev pub stops : Word → Bool
stops (Key k) = no_operator_key k
stops (Punctuation s) = no_operator_sign s
stops other = true

abbrev pub Stopped : List Word → Type 0
Stopped [] = Unit {0}
Stopped (t ∷ ts) = stops t ≡ true

no_operator_stops : (t : Word) → stops t ≡ true → operator_of t ≡ None
no_operator_stops (Key keyword.And) h = absurd cc
no_operator_stops (Key keyword.Or) h = absurd cc
no_operator_stops (Key keyword.Xor) h = absurd cc
no_operator_stops (Key keyword.Imp) h = absurd cc
no_operator_stops (Key keyword.Eqv) h = absurd cc
no_operator_stops (Key k) h = refl
no_operator_stops (Punctuation sign.Comma) h = refl
no_operator_stops (Punctuation sign.Semicolon) h = refl
no_operator_stops (Punctuation sign.Colon) h = refl
no_operator_stops (Punctuation sign.Hash) h = refl
no_operator_stops (Punctuation sign.Closing) h = refl
no_operator_stops (Punctuation s) h = absurd cc
no_operator_stops t h = refl

no_relation_stops : (t : Word) → stops t ≡ true → relation_of t ≡ None
no_relation_stops (Punctuation sign.Comma) h = refl
no_relation_stops (Punctuation sign.Semicolon) h = refl
no_relation_stops (Punctuation sign.Colon) h = refl
no_relation_stops (Punctuation sign.Hash) h = refl
no_relation_stops (Punctuation sign.Closing) h = refl
no_relation_stops (Punctuation s) h = absurd cc
no_relation_stops t h = refl

no_opening_stops : (t : Word) → stops t ≡ true → is_opening t ≡ false
no_opening_stops (Punctuation sign.Opening) h = absurd cc
no_opening_stops (Punctuation s) h = refl
no_opening_stops t h = refl

pub stopped_follows : (r : List Word) → Stopped r → Follows 12 r
stopped_follows [] h = ((((((((((((tt, tt), tt), tt), tt), tt), tt), tt), tt), tt), tt), tt), tt)
stopped_follows (t ∷ r) h =
    let o : (l : ℕ) → is_operator_at l (operator_of t) ≡ false = λ l. ap (λ x. is_operator_at l x) (no_operator_stops t h) in
    let q : is_relation (relation_of t) ≡ false = ap is_relation (no_relation_stops t h) in
    ((((((((((((tt, o 0), o 1), refl), o 3), o 4), q), refl), o 7), o 8), o 9), o 10), o 11)

pub stopped_parted : (t : Tree) (r : List Word) → Stopped r → Parted t r
stopped_parted t [] h = λ e. tt
stopped_parted t (x ∷ r) h = λ e. no_opening_stops x h

-- ---- what ends a statement

ending_stops : (e : Bool) (t : Word) → word_ends e t ≡ true → stops t ≡ true
ending_stops e (Key keyword.And) h = absurd cc
ending_stops e (Key keyword.Or) h = absurd cc
ending_stops e (Key keyword.Xor) h = absurd cc
ending_stops e (Key keyword.Imp) h = absurd cc
ending_stops e (Key keyword.Eqv) h = absurd cc
ending_stops e (Key k) h = refl
ending_stops e (Punctuation sign.Colon) h = refl
ending_stops e (Punctuation s) h = absurd cc
ending_stops e t h = absurd cc

-- what may follow a statement without an ELSE may also follow one that allows ELSE
ending_more : (e : Bool) (t : Word) → word_ends e t ≡ true → word_ends true t ≡ true
ending_more true t h = h
ending_more false (Key keyword.Else) h = refl
ending_more false (Key k) h = h
ending_more false (Punctuation sign.Colon) h = refl
ending_more false (Punctuation s) h = absurd cc
ending_more false t h = h

pub ending_stopped : (e : Bool) (r : List Word) → Ending e r → Stopped r
ending_stopped e [] h = tt
ending_stopped e (t ∷ r) h = ending_stops e t h

-- ---- what the next piece begins with

-- an expression may come before these pieces
abbrev pub stopping : List WordPiece → Bool
stopping [] = true
stopping (Fixed (Plain w) ∷ ps) = stops w
stopping (Fixed (Opens w) ∷ ps) = stops w
stopping (Fixed Closes ∷ ps) = stopping ps
stopping (Expression w t ∷ ps) = false
stopping (NameOf w name ∷ ps) = false
stopping (LiteralOf holds n ∷ ps) = false
stopping (Holds holds ∷ ps) = stopping ps

pub stopping_stopped : (e : Bool) (ps : List WordPiece) (r : List Word) → stopping ps ≡ true → Ending e r → Stopped (words (pieces_steps ps) ++ r)
stopping_stopped e [] r h x = ending_stopped e r x
stopping_stopped e (Fixed (Plain w) ∷ ps) r h x = h
stopping_stopped e (Fixed (Opens w) ∷ ps) r h x = h
stopping_stopped e (Fixed Closes ∷ ps) r h x = stopping_stopped e ps r h x
stopping_stopped e (Expression w t ∷ ps) r h x = absurd cc
stopping_stopped e (NameOf w name ∷ ps) r h x = absurd cc
stopping_stopped e (LiteralOf holds n ∷ ps) r h x = absurd cc
stopping_stopped e (Holds holds ∷ ps) r h x = stopping_stopped e ps r h x

-- none of these pieces begins with that key or sign
abbrev pub absent : Word → List WordPiece → Bool
absent t [] = not (word_ends true t)
absent t (Fixed (Plain w) ∷ ps) = not (is_word t w)
absent t (Fixed (Opens w) ∷ ps) = not (is_word t w)
absent t (Fixed Closes ∷ ps) = absent t ps
absent t (Expression w x ∷ ps) = not (begins_value t)
absent t (NameOf w name ∷ ps) = true
absent t (LiteralOf holds n ∷ ps) = true
absent t (Holds holds ∷ ps) = absent t ps

not_true : (b : Bool) → not b ≡ true → b ≡ false
not_true false h = refl
not_true true h = absurd cc

pub absent_first : (e : Bool) (t : Word) (ps : List WordPiece) (r : List Word) → absent t ps ≡ true → ArePieces ps → Ending e r → First (is_word t) (words (pieces_steps ps) ++ r)
absent_first e t [] [] h a x = tt
absent_first e t [] (w ∷ r) h a x = is_other_word (word_ends true) t w (not_true (word_ends true t) h) (ending_more e w x)
absent_first e t (Fixed (Plain w) ∷ ps) r h a x = not_true (is_word t w) h
absent_first e t (Fixed (Opens w) ∷ ps) r h a x = not_true (is_word t w) h
absent_first e t (Fixed Closes ∷ ps) r h a x = absent_first e t ps r h a.1 x
absent_first e t (Expression w y ∷ ps) r h a x =
    let b : Begins (words (steps_of y ++ pieces_steps ps) ++ r) = subst Begins (sym (words_parts (steps_of y) (pieces_steps ps) r)) (begins_tree y (words (pieces_steps ps) ++ r) a.0.0) in
    subst (First (is_word t)) (sym b.spelled) (is_other_word begins_value t b.word (not_true (begins_value t) h) b.begins)
absent_first e (Key k) (NameOf w name ∷ ps) r h a x = refl
absent_first e t (NameOf w name ∷ ps) r h a x = refl
absent_first e (Key k) (LiteralOf holds n ∷ ps) r h a x = refl
absent_first e t (LiteralOf holds n ∷ ps) r h a x = refl
absent_first e t (Holds holds ∷ ps) r h a x = absent_first e t ps r h a.1 x

-- Single steps of the machine around forms: statements of a line, clauses, modifiers and
-- separators.
use Rattle.std.proofs.Common.{◌≡◌, ℕ, suc, Bool, true, false, cond, List, [], ◌∷◌, ◌++◌, Option, Some, None, Err, refl, ap, ◌∙◌, append_assoc}
use Rattle.basic_tree.specs.declared.tokens.Keyword.{Keyword}
use Rattle.basic_tree.specs.declared.tokens.Keyword.TheVariants as keyword
use Rattle.basic_tree.specs.declared.tokens.Sign.TheVariants as sign
use Rattle.basic_tree.specs.SpellingWords.{Word, Key, Punctuation, Named, FnNamed, Number}
use Rattle.basic_tree.specs.Trees.{ClauseTree, LineClause, StatementClause, StatementTree}
use Rattle.grammar_machine.specs.MachineStack.{Values, Stated, Parsed, Modify, Symbol, Go, AwaitClause, Modifiers, OneStatement, MoreStatements, Close, Do, Form, TakeKey, TargetOf, FnNameIn, ClauseIn, LineNumber, within, with_statement}
use Rattle.grammar_machine.specs.MachineStarts.{takes}
use Rattle.grammar_machine.specs.MachineSentences.{Class, Choice, Head, Simple, Sentence, key_sentence, sentence_of, key_modifier, modifier_of}
use Rattle.grammar_machine.specs.MachineMoves.{MachineMove, Shifts, Skips, Closes, Refuses, then_also, form_move_with, form_move, no_clause, behind_clause, clause_sentence, clause_move, behind_class, modified}
use Rattle.grammar_machine.specs.MachineRun.{Turn, moved, turn, turned, run, Wrong}
use Rattle.grammar_machine.proofs.MachineSteps.{run_close}

-- ---- what a statement's form does at its word: it takes the word or rejects it

abbrev pub is_firm : Form → Bool
is_firm (TakeKey opens k f) = true
is_firm (TargetOf w g) = true
is_firm (FnNameIn g) = true
is_firm other = false

abbrev pub decides : MachineMove → Bool
decides (Shifts opens vs ks) = true
decides Refuses = true
decides other = false

cond_decides : (b opens : Bool) (vs : Values) (ks : List Symbol) → decides (cond b (Shifts opens vs ks) Refuses) ≡ true
cond_decides true opens vs ks = refl
cond_decides false opens vs ks = refl

abbrev pub Clauses : Type 0
Clauses = (ClauseTree → Form) → Values → Option Word → MachineMove

pub firm_decides : (c : Clauses) (f : Form) (vs : Values) (t : Word) → is_firm f ≡ true → decides (form_move_with c f vs (Some t)) ≡ true
firm_decides c (TakeKey opens k f) vs (Key l) e = cond_decides _ opens vs (Go f ∷ [])
firm_decides c (TakeKey opens k f) vs t e = refl
firm_decides c (TargetOf w g) vs (Named name) e = cond_decides (takes w name.text) false vs _
firm_decides c (TargetOf w g) vs t e = refl
firm_decides c (FnNameIn g) vs (FnNamed name) e = refl
firm_decides c (FnNameIn g) vs t e = refl
firm_decides c f vs t e = absurd cc

-- no clause is possible there, so it does not matter what clauses do
pub firm_same : (c d : Clauses) (f : Form) (vs : Values) (o : Option Word) → is_firm f ≡ true → form_move_with c f vs o ≡ form_move_with d f vs o
firm_same c d (TakeKey opens k f) vs o e = refl
firm_same c d (TargetOf w g) vs o e = refl
firm_same c d (FnNameIn g) vs o e = refl
firm_same c d f vs o e = absurd cc

-- what is expected after what was taken is expected below it on the stack
then_moved : (m : MachineMove) (more k : List Symbol) (n : ℕ) (f g : ℕ → Values → Turn) → decides m ≡ true → moved (then_also more m) n k f ≡ moved m n (more ++ k) g
then_moved (Shifts opens vs ks) more k n f g e = rw append_assoc refl
then_moved (Skips vs) more k n f g e = absurd cc
then_moved (Closes vs) more k n f g e = absurd cc
then_moved Refuses more k n f g e = refl

abbrev pub firm_sentence : Option Sentence → Bool
firm_sentence None = true
firm_sentence (Some b) = is_firm b.form

key_firm : (k : Keyword) → firm_sentence (key_sentence k) ≡ true
key_firm keyword.If = refl
key_firm k = refl

pub sentence_firm : (t : Word) → firm_sentence (sentence_of t) ≡ true
sentence_firm (Key k) = key_firm k
sentence_firm t = refl

pub known_firm : (t : Word) (b : Sentence) → sentence_of t ≡ Some b → is_firm b.form ≡ true
known_firm t b e = rw e at (sentence_firm t)

abbrev pub firm_option : Option Form → Bool
firm_option None = true
firm_option (Some f) = is_firm f

key_modifier_firm : (k : Keyword) → firm_option (key_modifier k) ≡ true
key_modifier_firm keyword.If = refl
key_modifier_firm k = refl

modifier_firm : (t : Word) → firm_option (modifier_of t) ≡ true
modifier_firm (Key k) = key_modifier_firm k
modifier_firm t = refl

pub known_modifier_firm : (t : Word) (f : Form) → modifier_of t ≡ Some f → is_firm f ≡ true
known_modifier_firm t f e = rw e at (modifier_firm t)

-- ---- statements of a line

run_turned : (t : Word) (ts : List Word) (x y : Turn) → x ≡ y → turned x (t ∷ ts) (λ m vs' k'. run m ts k' vs') ≡ turned y (t ∷ ts) (λ m vs' k'. run m ts k' vs')
run_turned t ts x y e = ap (λ (z : Turn). turned z (t ∷ ts) (λ m vs' k'. run m ts k' vs')) e

pub run_statement : (n : ℕ) (t : Word) (ws : List Word) (b : Sentence) (k : List Symbol) (vs : Values) → sentence_of t ≡ Some b → run n (t ∷ ws) (OneStatement ∷ k) vs ≡ run n (t ∷ ws) (Go b.form ∷ (behind_class b.class ++ k)) vs
unfolding run
run_statement n t ws b k vs e =
    rw e
    (run_turned t ws _ _ (then_moved (form_move b.form vs (Some t)) (behind_class b.class) k n (λ m vs'. turn k m vs' (Some t)) (λ m vs'. turn (behind_class b.class ++ k) m vs' (Some t)) (firm_decides clause_move b.form vs t (known_firm t b e))))

-- the first word, if any, begins no statement
abbrev pub NoSentence : List Word → Type 0
NoSentence [] = Unit {0}
NoSentence (t ∷ ts) = sentence_of t ≡ None

pub run_no_statement : (n : ℕ) (ws : List Word) (k : List Symbol) (vs : Values) → NoSentence ws → run n ws (OneStatement ∷ k) vs ≡ run n ws k (with_statement None vs)
unfolding run
run_no_statement n [] k vs h = refl
run_no_statement n (t ∷ ws) k vs h = rw h refl

pub run_more_statements : (n : ℕ) (ws : List Word) (k : List Symbol) (vs : Values) → run n (Punctuation sign.Colon ∷ ws) (MoreStatements ∷ k) vs ≡ run n ws (OneStatement ∷ MoreStatements ∷ k) vs
unfolding run
run_more_statements n ws k vs = refl

abbrev pub is_separator : Word → Bool
is_separator (Punctuation sign.Colon) = true
is_separator other = false

abbrev pub NoSeparator : List Word → Type 0
NoSeparator [] = Unit {0}
NoSeparator (t ∷ ts) = is_separator t ≡ false

pub run_no_more_statements : (n : ℕ) (ws : List Word) (k : List Symbol) (ss : List (Option StatementTree)) (vs : Values) → NoSeparator ws → run n ws (MoreStatements ∷ k) (Parsed ss ∷ vs) ≡ run n ws k (Parsed ss ∷ vs)
unfolding run
run_no_more_statements n [] k ss vs h = refl
run_no_more_statements n (Punctuation sign.Colon ∷ ws) k ss vs h = absurd cc
run_no_more_statements n (Punctuation s ∷ ws) k ss vs h = refl
run_no_more_statements n (t ∷ ws) k ss vs h = refl

-- ---- clauses

-- what follows a statement that is a clause
abbrev pub behind_clause_class : Class → List Symbol
behind_clause_class Simple = Modifiers ∷ []
behind_clause_class other = []

abbrev pub is_head_class : Class → Bool
is_head_class Head = true
is_head_class other = false

-- whether a word can be a line number
abbrev pub is_line_number : Word → Bool
is_line_number (Number n) = within LineNumber n
is_line_number other = false

clause_at : (g : ClauseTree → Form) (vs : Values) (t : Word) (b : Option Sentence) → sentence_of t ≡ b → is_line_number t ≡ false → clause_move g vs (Some t) ≡ clause_sentence g vs t b
clause_at g vs (Number n) None e h = rw h refl
clause_at g vs (Number n) (Some b) e h = absurd cc
clause_at g vs t b e h = ap (λ x. clause_sentence g vs t x) e

no_line_number : (t : Word) (b : Sentence) → sentence_of t ≡ Some b → is_line_number t ≡ false
no_line_number (Number m) b e = absurd cc
no_line_number t b e = refl

clause_class : (c : Class) (g : ClauseTree → Form) (m : MachineMove) (k : List Symbol) (n : ℕ) (f h : ℕ → Values → Turn) → is_head_class c ≡ false → decides m ≡ true → moved (behind_clause g c m) n k f ≡ moved m n (behind_clause_class c ++ Close ∷ AwaitClause g ∷ k) h
clause_class Choice g m k n f h e d = then_moved m (Close ∷ AwaitClause g ∷ []) k n f h d
clause_class Head g m k n f h e d = absurd cc
clause_class Simple g m k n f h e d = then_moved m (Modifiers ∷ Close ∷ AwaitClause g ∷ []) k n f h d

pub run_clause : (n : ℕ) (t : Word) (ws : List Word) (b : Sentence) (g : ClauseTree → Form) (k : List Symbol) (vs : Values) → sentence_of t ≡ Some b → is_head_class b.class ≡ false → run n (t ∷ ws) (Go (ClauseIn g) ∷ k) vs ≡ run n (t ∷ ws) (Go b.form ∷ (behind_clause_class b.class ++ Close ∷ AwaitClause g ∷ k)) vs
unfolding run
run_clause n t ws b g k vs e h =
    run_turned t ws _ _
    (ap (λ x. moved x n k (λ m vs'. turn k m vs' (Some t))) (clause_at g vs t (Some b) e (no_line_number t b e))
    ∙ ap (λ x. moved (behind_clause g b.class x) n k (λ m vs'. turn k m vs' (Some t))) (firm_same no_clause clause_move b.form vs (Some t) (known_firm t b e))
    ∙ clause_class b.class g (form_move b.form vs (Some t)) k n (λ m vs'. turn k m vs' (Some t)) (λ m vs'. turn (behind_clause_class b.class ++ Close ∷ AwaitClause g ∷ k) m vs' (Some t)) h (firm_decides clause_move b.form vs t (known_firm t b e)))

pub run_head_clause : (n : ℕ) (t : Word) (ws : List Word) (f : Form) (g : ClauseTree → Form) (k : List Symbol) (vs : Values) → sentence_of t ≡ Some (record { class = Head; form = f }) → run n (t ∷ ws) (Go (ClauseIn g) ∷ k) vs ≡ Err (Wrong (t ∷ ws))
unfolding run
run_head_clause n t ws f g k vs e =
    run_turned t ws _ _ (ap (λ x. moved x n k (λ m vs'. turn k m vs' (Some t))) (clause_at g vs t (Some (record { class = Head; form = f })) e (no_line_number t (record { class = Head; form = f }) e)))

pub run_no_clause : (n : ℕ) (t : Word) (ws : List Word) (g : ClauseTree → Form) (k : List Symbol) (vs : Values) → sentence_of t ≡ None → is_line_number t ≡ false → run n (t ∷ ws) (Go (ClauseIn g) ∷ k) vs ≡ Err (Wrong (t ∷ ws))
unfolding run
run_no_clause n t ws g k vs e h =
    run_turned t ws _ _ (ap (λ x. moved x n k (λ m vs'. turn k m vs' (Some t))) (clause_at g vs t None e h))

pub run_clause_missing : (n : ℕ) (g : ClauseTree → Form) (k : List Symbol) (vs : Values) → run n [] (Go (ClauseIn g) ∷ k) vs ≡ Err (Wrong [])
unfolding run
run_clause_missing n g k vs = refl

-- a line number ends its clause's nesting level
pub run_line_clause : (n c : ℕ) (ws : List Word) (g : ClauseTree → Form) (k : List Symbol) (vs : Values) → within LineNumber c ≡ true → run n (Number c ∷ ws) (Go (ClauseIn g) ∷ k) vs ≡ run (suc n) ws (Go (g (LineClause c)) ∷ k) vs
unfolding run
run_line_clause n c ws g k vs e = rw e (run_close n ws (Go (g (LineClause c)) ∷ k) vs)

pub run_await_clause : (n : ℕ) (ws : List Word) (g : ClauseTree → Form) (s : StatementTree) (k : List Symbol) (vs : Values) → run n ws (AwaitClause g ∷ k) (Stated s ∷ vs) ≡ run n ws (Go (g (StatementClause s)) ∷ k) vs
unfolding run
run_await_clause n [] g s k vs = refl
run_await_clause n (t ∷ ws) g s k vs = refl

-- ---- modifiers

pub run_modifier : (n : ℕ) (t : Word) (ws : List Word) (f : Form) (k : List Symbol) (vs : Values) → modifier_of t ≡ Some f → run n (t ∷ ws) (Modifiers ∷ k) vs ≡ run n (t ∷ ws) (Go f ∷ Do Modify ∷ Modifiers ∷ Close ∷ k) vs
unfolding run
run_modifier n t ws f k vs e =
    run_turned t ws _ _
    (ap (λ x. moved (modified vs t x) n k (λ m vs'. turn k m vs' (Some t))) e
    ∙ then_moved (form_move f vs (Some t)) (Do Modify ∷ Modifiers ∷ Close ∷ []) k n (λ m vs'. turn k m vs' (Some t)) (λ m vs'. turn (Do Modify ∷ Modifiers ∷ Close ∷ k) m vs' (Some t)) (firm_decides clause_move f vs t (known_modifier_firm t f e)))

abbrev pub NoModifier : List Word → Type 0
NoModifier [] = Unit {0}
NoModifier (t ∷ ts) = modifier_of t ≡ None

pub run_no_modifier : (n : ℕ) (ws : List Word) (k : List Symbol) (s : StatementTree) (vs : Values) → NoModifier ws → run n ws (Modifiers ∷ k) (Stated s ∷ vs) ≡ run n ws k (Stated s ∷ vs)
unfolding run
run_no_modifier n [] k s vs h = refl
run_no_modifier n (t ∷ ws) k s vs h = rw h refl

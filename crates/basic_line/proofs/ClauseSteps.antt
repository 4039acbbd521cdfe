-- IF, its clauses and ELSE, as the machine reads them.
use Rattle.std.proofs.Common.{◌≡◌, ℕ, suc, Bool, true, false, cond, ◌+◌, ◌-◌, ◌<◌, ◌≤◌, List, [], ◌∷◌, ◌++◌, length, take, drop, Option, Some, None, Result, Ok, Err, MatchOption, refl, ap, sym, ◌∙◌, subst, arith}
use Rattle.std.proofs.lemmas.List.{drop-drop, take-append-drop}
use Rattle.basic_expr.specs.declared.failures.Failure.{Failure}
use Rattle.basic_expr.specs.declared.failures.Failure.TheVariants as failure
use Rattle.basic_expr.specs.ParsedSymbols.{First, WordStands}
use Rattle.basic_tree.specs.declared.statements.Statement.{Statement}
use Rattle.basic_tree.specs.StatementViews.{statement_of}
use Rattle.basic_tree.specs.declared.tokens.Keyword.{Keyword}
use Rattle.basic_tree.specs.declared.tokens.Keyword.TheVariants as keyword
use Rattle.basic_tree.specs.declared.kinds.Want.TheVariants as want
use Rattle.basic_tree.specs.SpellingWords.{Word, Key, Number}
use Rattle.basic_tree.specs.SpellingStatements.{is_if, wants_else, else_wants_else, clause_wants_else}
use Rattle.basic_tree.specs.Trees.{Tree, ClauseTree, LineClause, StatementClause, ElseTree, NoElse, Else, StatementTree, IfThen, IfGoto}
use Rattle.grammar_machine.specs.MachineStack.{Value, Values, Stated, Symbol, Go, Form, IfKey, TakeKey, ExprOf, LiteralIn, ClauseIn, AwaitClause, Modifiers, Close, Do, AddStatement, OneStatement, LineNumber, within}
use Rattle.grammar_machine.specs.MachineForms.{says, else_form}
use Rattle.grammar_machine.specs.MachineSentences as sentences
use Rattle.grammar_machine.specs.MachineSentences.{Sentence, key_sentence, sentence_of, if_form}
use Rattle.grammar_machine.specs.MachineMoves.{behind_class}
use Rattle.grammar_machine.specs.MachineRun.{Halt, Wrong, TooDeep, run}
use Rattle.grammar_machine.proofs.MachineSteps.{run_close}
use Rattle.grammar_machine.proofs.MachineStops.{finished}
use Rattle.grammar_machine.proofs.FormSteps.{run_made, if_key_opens, literal_taken}
use Rattle.grammar_machine.proofs.FormWords.{key_is_same}
use Rattle.grammar_machine.proofs.FormLeads.{Says, OfClass}
use Rattle.grammar_machine.proofs.SoundSentences.{sentence_sound}
use Rattle.grammar_machine.proofs.LineSteps as steps
use Rattle.statement_parts.proofs.Steps.{key_stands_not}
use Rattle.statement_parts.specs.ParsedForms.{Leads, Makes, Halts, SkipsKey, Behind}
use Rattle.basic_stmt.specs.Plain.{MakesPlain, HaltsPlain, is_choice}
use Rattle.statement_parts.specs.declared.read.Read.{Read}
use Rattle.statement_modifiers.specs.ModifierForms.{Modifies, ModifiesAll, StopsModifying}
use Rattle.basic_line.specs.declared.choices.Stated.{Stated as ReadStatement}
use Rattle.basic_line.specs.Structure.{class_in, IsLineNumber, LeadsOut, NoLineNumber, OpensKey, SentenceAt, StatesClause, StatesIf, StatesLine, StatesSimple, StatesThen, StopsAt, StopsClause, class_as, goto_form, is_line_number, line_in, then_form}
use Rattle.basic_line.specs.declared.sentences.Class.{Class}
use Rattle.basic_line.specs.declared.sentences.Class.TheVariants as class

same_halt : {x y : Halt} → Some x ≡ Some y → x ≡ y
same_halt e = cc

-- ---- keywords that open a nesting level

too_deep : (key : Keyword) (f h : Form) (ws : List Word) (k : List Symbol) (vs : Values) → run 0 (Key key ∷ ws) (Go (IfKey true key f h) ∷ k) vs ≡ Err (TooDeep (Key key ∷ ws))
unfolding run
too_deep key f h ws k vs = rw (key_is_same key) refl

pub key_opens : (ws : List Word) (from : ℕ) (key : Keyword) → WordStands ws (Key key) from → OpensKey ws from key
key_opens ws from key at = (
  at.0,
  λ n f h some k vs.
      let e : n ≡ suc (n - 1) = omega arith in
      ap (λ (x : ℕ). run x (drop from ws) (Go (IfKey true key f h) ∷ k) vs) e ∙ rw at.1 (if_key_opens (n - 1) key f h (drop (from + 1) ws) k vs),
  λ f h halt e k vs.
      rw at.1 (too_deep key f h (drop (from + 1) ws) k vs) ∙ ap (λ (x : List Word). Err (TooDeep x)) (sym at.1) ∙ ap (λ (x : Halt). Err x) (same_halt e),
)

pub ruleset openings = (key_opens, key_stands_not)

-- ---- line numbers

literal_missing : (n : ℕ) (g : ℕ → Form) (ws : List Word) (k : List Symbol) (vs : Values) → First is_line_number ws → run n ws (Go (LiteralIn LineNumber g) ∷ k) vs ≡ Err (Wrong ws)
unfolding run
literal_missing n g [] k vs h = refl
literal_missing n g (Number c ∷ ws) k vs h = rw h refl
literal_missing n g (t ∷ ws) k vs h = refl

no_line_number : (ws : List Word) (from : ℕ) (x : List Word) → drop from ws ≡ x → First is_line_number x → NoLineNumber ws from
no_line_number ws from x e h = (
  subst (λ (y : List Word). First is_line_number y) (sym e) h,
  λ n g halt same k vs.
      literal_missing n g (drop from ws) k vs (subst (λ (y : List Word). First is_line_number y) (sym e) h) ∙ ap (λ (y : Halt). Err y) (same_halt same),
)

pub number_missing : (ws : List Word) (from : ℕ) → drop from ws ≡ [] → NoLineNumber ws from
number_missing ws from e = no_line_number ws from [] e tt

is_number : (ws : List Word) (from c : ℕ) → from < length ws → drop from ws ≡ Number c ∷ drop (from + 1) ws → within LineNumber c ≡ true → IsLineNumber ws from c
is_number ws from c inside e h = (
  inside,
  λ n g k vs. rw e (literal_taken n LineNumber g c (drop (from + 1) ws) k vs h),
  λ n g some k vs.
      let same : suc (n - 1) ≡ n = omega arith in
      rw e (steps.run_line_clause (n - 1) c (drop (from + 1) ws) g k vs h) ∙ ap (λ (x : ℕ). run x (drop (from + 1) ws) (Go (g (LineClause c)) ∷ k) vs) same,
)

by_test : (ws : List Word) (from c : ℕ) (b : Bool) (o : Option ℕ) → from < length ws → drop from ws ≡ Number c ∷ drop (from + 1) ws → within LineNumber c ≡ b → o ≡ cond b (Some c) None → MatchOption o (NoLineNumber ws from) (λ line. IsLineNumber ws from line)
by_test ws from c true (Some d) inside e h same =
    let one : c ≡ d = cc in
    subst (λ x. IsLineNumber ws from x) one (is_number ws from c inside e h)
by_test ws from c true None inside e h same = absurd cc
by_test ws from c false (Some d) inside e h same = absurd cc
by_test ws from c false None inside e h same = no_line_number ws from (Number c ∷ drop (from + 1) ws) e h

pub number_there : (ws : List Word) (from : ℕ) (t : Word) (o : Option ℕ) → from < length ws → drop from ws ≡ t ∷ drop (from + 1) ws → o ≡ line_in t → MatchOption o (NoLineNumber ws from) (λ line. IsLineNumber ws from line)
number_there ws from (Number c) o inside e h = by_test ws from c (within LineNumber c) o inside e refl h
number_there ws from t (Some d) inside e h = absurd cc
number_there ws from t None inside e h = no_line_number ws from (t ∷ drop (from + 1) ws) e refl

pub ruleset numbers = (number_missing, number_there)

-- ---- statements with their modifiers

line_begins : (n : ℕ) (ws : List Word) (from : ℕ) (c : Class) (at : SentenceAt ws from c) (k : List Symbol) (vs : Values) → run n (drop from ws) (OneStatement ∷ k) vs ≡ run n (drop from ws) (Go at.sentence.form ∷ (behind_class (class_as c) ++ k)) vs
line_begins n ws from c at k vs =
    rw at.first (steps.run_statement n at.word at.rest at.sentence k vs at.known)
    ∙ ap (λ (x : sentences.Class). run n (drop from ws) (Go at.sentence.form ∷ (behind_class x ++ k)) vs) at.class

clause_begins : (n : ℕ) (ws : List Word) (from : ℕ) (c : Class) (at : SentenceAt ws from c) (g : ClauseTree → Form) (k : List Symbol) (vs : Values) → steps.is_head_class (class_as c) ≡ false → run n (drop from ws) (Go (ClauseIn g) ∷ k) vs ≡ run n (drop from ws) (Go at.sentence.form ∷ (steps.behind_clause_class (class_as c) ++ Close ∷ AwaitClause g ∷ k)) vs
clause_begins n ws from c at g k vs h =
    rw at.first (steps.run_clause n at.word at.rest at.sentence g k vs at.known (subst (λ (x : sentences.Class). steps.is_head_class x ≡ false) (sym at.class) h))
    ∙ ap (λ (x : sentences.Class). run n (drop from ws) (Go at.sentence.form ∷ (steps.behind_clause_class x ++ Close ∷ AwaitClause g ∷ k)) vs) at.class

no_choice : (ws : List Word) (from : ℕ) (c : Class) (at : SentenceAt ws from c) → is_choice (class_as c) ≡ false → is_choice at.sentence.class ≡ false
no_choice ws from c at h = subst (λ (x : sentences.Class). is_choice x ≡ false) (sym at.class) h

plain_form : (n : ℕ) (ws : List Word) (from end : ℕ) (c : Class) (s : StatementTree) (at : SentenceAt ws from c) → is_choice (class_as c) ≡ false → MakesPlain n ws from end s → Makes n ws from end at.sentence.form (Stated s)
plain_form n ws from end c s at h plain = plain at.word at.rest at.sentence at.first at.known (no_choice ws from c at h)

plain_halts : (n : ℕ) (ws : List Word) (from : ℕ) (c : Class) (e : Failure) (at : SentenceAt ws from c) → is_choice (class_as c) ≡ false → HaltsPlain n ws from e → Halts n ws from at.sentence.form e
plain_halts n ws from c e at h plain = plain at.word at.rest at.sentence at.first at.known (no_choice ws from c at h)

simple_line : (n : ℕ) (ws : List Word) (from mid end : ℕ) (s t : StatementTree) → SentenceAt ws from class.Simple → MakesPlain n ws from mid s → Modifies n ws mid end s t → StatesLine n ws from end t
simple_line n ws from mid end s t at plain more =
    λ k vs. line_begins n ws from class.Simple at k vs ∙ plain_form n ws from mid class.Simple s at refl plain (Modifiers ∷ Do AddStatement ∷ k) vs ∙ more (Do AddStatement ∷ k) vs

simple_clause : (n : ℕ) (ws : List Word) (from mid end : ℕ) (s t : StatementTree) → SentenceAt ws from class.Simple → MakesPlain n ws from mid s → Modifies n ws mid end s t → StatesClause n ws from end t
simple_clause n ws from mid end s t at plain more =
    λ g k vs. clause_begins n ws from class.Simple at g k vs refl ∙ plain_form n ws from mid class.Simple s at refl plain (Modifiers ∷ Close ∷ AwaitClause g ∷ k) vs ∙ more (Close ∷ AwaitClause g ∷ k) vs

pub simple_line_stops : (n : ℕ) (ws : List Word) (from : ℕ) (e : Failure) → SentenceAt ws from class.Simple → HaltsPlain n ws from e → StopsAt n ws from OneStatement e
simple_line_stops n ws from e at plain =
    λ halt same k vs. line_begins n ws from class.Simple at k vs ∙ plain_halts n ws from class.Simple e at refl plain halt same (Modifiers ∷ Do AddStatement ∷ k) vs

pub simple_clause_stops : (n : ℕ) (ws : List Word) (from : ℕ) (e : Failure) → SentenceAt ws from class.Simple → HaltsPlain n ws from e → StopsClause n ws from e
simple_clause_stops n ws from e at plain =
    λ g halt same k vs. clause_begins n ws from class.Simple at g k vs refl ∙ plain_halts n ws from class.Simple e at refl plain halt same (Modifiers ∷ Close ∷ AwaitClause g ∷ k) vs

modified_line_stops : (n : ℕ) (ws : List Word) (from mid : ℕ) (s : StatementTree) (e : Failure) → SentenceAt ws from class.Simple → MakesPlain n ws from mid s → StopsModifying n ws mid s e → StopsAt n ws from OneStatement e
modified_line_stops n ws from mid s e at plain more =
    λ halt same k vs. line_begins n ws from class.Simple at k vs ∙ plain_form n ws from mid class.Simple s at refl plain (Modifiers ∷ Do AddStatement ∷ k) vs ∙ more halt same (Do AddStatement ∷ k) vs

modified_clause_stops : (n : ℕ) (ws : List Word) (from mid : ℕ) (s : StatementTree) (e : Failure) → SentenceAt ws from class.Simple → MakesPlain n ws from mid s → StopsModifying n ws mid s e → StopsClause n ws from e
modified_clause_stops n ws from mid s e at plain more =
    λ g halt same k vs. clause_begins n ws from class.Simple at g k vs refl ∙ plain_form n ws from mid class.Simple s at refl plain (Modifiers ∷ Close ∷ AwaitClause g ∷ k) vs ∙ more halt same (Close ∷ AwaitClause g ∷ k) vs

-- a simple statement is not an IF
run_end : (n : ℕ) (ws : List Word) (vs : Values) → run n ws [] vs ≡ Ok (vs, ws)
unfolding run
run_end n [] vs = refl
run_end n (t ∷ ts) vs = refl

not_open : (s : StatementTree) → is_if s ≡ false → wants_else s ≡ false
not_open (IfThen c l o) h = absurd cc
not_open (IfGoto c l o) h = absurd cc
not_open s h = refl

split_at : (ws : List Word) (from mid : ℕ) → from ≤ mid → take (mid - from) (drop from ws) ++ drop mid ws ≡ drop from ws
split_at ws from mid h =
    let same : from + (mid - from) ≡ mid = omega arith in
    ap (λ (x : List Word). take (mid - from) (drop from ws) ++ x) (sym (drop-drop (mid - from) from ws ∙ ap (λ (i : ℕ). drop i ws) same)) ∙ take-append-drop (mid - from) (drop from ws)

simple_closed : (n : ℕ) (ws : List Word) (from mid : ℕ) (s : StatementTree) → SentenceAt ws from class.Simple → Behind ws from mid → MakesPlain n ws from mid s → wants_else s ≡ false
simple_closed n ws from mid s at behind plain =
    let p : List Word = take (mid - from) (drop from ws) in
    let f = finished p (drop mid ws) n (Go at.sentence.form ∷ []) [] (Stated s ∷ [])
    (ap (λ (x : List Word). run n x (Go at.sentence.form ∷ []) []) (split_at ws from mid (omega (arith, behind.0)))
    ∙ plain_form n ws from mid class.Simple s at refl plain [] []
    ∙ run_end n (drop mid ws) (Stated s ∷ [])) in
    let g = f.spells in
    let same : g.1 ≡ Stated s = value g.1 g.5.1 in
    let said : Says at.sentence.class g.0 (Stated s) = subst (λ (v : Value). Says at.sentence.class g.0 v) same (sentence_sound at.word at.sentence at.known g.0 g.1 g.4) in
    let kind : OfClass sentences.Simple s = subst (λ (c : sentences.Class). OfClass c s) at.class said.3 in
    not_open s kind.0 where
      value : (v : Value) → v ∷ [] ≡ Stated s ∷ [] → v ≡ Stated s
      value v e = cc

-- a simple statement with the modifiers after it
pub simple_modified : (n : ℕ) (ws : List Word) (from mid : ℕ) (s : StatementTree) (r : Result (Read Statement) Failure) → SentenceAt ws from class.Simple → Behind ws from mid → MakesPlain n ws from mid s → ModifiesAll n ws mid s r → StatesSimple n ws from r
simple_modified n ws from mid s (Ok x) at behind plain more = (
  (omega (arith, behind.0, more.0.0), more.0.1),
  simple_line n ws from mid x.end s (statement_of x.value) at plain more.1,
  simple_clause n ws from mid x.end s (statement_of x.value) at plain more.1,
  more.2 (simple_closed n ws from mid s at behind plain),
)
simple_modified n ws from mid s (Err e) at behind plain more = (more.0, modified_line_stops n ws from mid s e at plain more.1, modified_clause_stops n ws from mid s e at plain more.1)

-- ---- IF

abbrev pub Taken : List Word → ℕ → ℕ → Keyword → Type 0
Taken ws from end key = (m : ℕ) (f : Form) → Leads m m ws from end (TakeKey false key f) f

abbrev pub Conditional : ℕ → List Word → ℕ → ℕ → Tree → Type 0
Conditional n ws from end c = (g : Tree → Form) → Leads n n ws from end (ExprOf want.Number g) (g c)

behind_if : Tree → Form
behind_if c = IfKey true keyword.Then (then_form c) (goto_form c)

to_condition : (n : ℕ) (ws : List Word) (from a b : ℕ) (c : Tree) → Taken ws from a keyword.If → Conditional n ws a b c → Leads n n ws from b if_form (behind_if c)
unfolding behind_if
to_condition n ws from a b c h i k vs = h n (ExprOf want.Number (λ x. behind_if x)) k vs ∙ i (λ x. behind_if x) k vs

if_then_gives : (n : ℕ) (ws : List Word) (from a b end : ℕ) (c : Tree) (v : Value) → 0 < n → Taken ws from a keyword.If → Conditional n ws a b c → OpensKey ws b keyword.Then → LeadsOut n ws (b + 1) end (then_form c) v → Makes n ws from end if_form v
unfolding behind_if
if_then_gives n ws from a b end c v some h i o t = λ k vs. to_condition n ws from a b c h i k vs ∙ o.1 n (then_form c) (goto_form c) some k vs ∙ t k vs

if_goto_gives : (n : ℕ) (ws : List Word) (from a b end : ℕ) (c : Tree) (v : Value) → Taken ws from a keyword.If → Conditional n ws a b c → SkipsKey ws b keyword.Then → Makes n ws b end (goto_form c) v → Makes n ws from end if_form v
unfolding behind_if
if_goto_gives n ws from a b end c v h i o t = λ k vs. to_condition n ws from a b c h i k vs ∙ o n true (then_form c) (goto_form c) k vs ∙ t k vs

pub if_missing : (n : ℕ) (ws : List Word) (from : ℕ) (e : Failure) → ((m : ℕ) (f : Form) → Halts m ws from (TakeKey false keyword.If f) e) → Halts n ws from if_form e
unfolding behind_if
if_missing n ws from e h = λ halt same k vs. h n (ExprOf want.Number (λ x. behind_if x)) halt same k vs

pub if_condition_stops : (n : ℕ) (ws : List Word) (from a : ℕ) (e : Failure) → Taken ws from a keyword.If → ((g : Tree → Form) → Halts n ws a (ExprOf want.Number g) e) → Halts n ws from if_form e
unfolding behind_if
if_condition_stops n ws from a e h i = λ halt same k vs. h n (ExprOf want.Number (λ x. behind_if x)) k vs ∙ i (λ x. behind_if x) halt same k vs

pub if_too_deep : (n : ℕ) (ws : List Word) (from a b : ℕ) (c : Tree) → n ≡ 0 → Taken ws from a keyword.If → Conditional n ws a b c → OpensKey ws b keyword.Then → Halts n ws from if_form (failure.TooDeep b)
unfolding behind_if
if_too_deep n ws from a b c zero h i o = λ halt same k vs. to_condition n ws from a b c h i k vs ∙ ap (λ (x : ℕ). run x (drop b ws) (Go (behind_if c) ∷ k) vs) zero ∙ o.2 (then_form c) (goto_form c) halt same k vs

if_then_stops : (n : ℕ) (ws : List Word) (from a b : ℕ) (c : Tree) (e : Failure) → 0 < n → Taken ws from a keyword.If → Conditional n ws a b c → OpensKey ws b keyword.Then → Halts (n - 1) ws (b + 1) (then_form c) e → Halts n ws from if_form e
unfolding behind_if
if_then_stops n ws from a b c e some h i o t = λ halt same k vs. to_condition n ws from a b c h i k vs ∙ o.1 n (then_form c) (goto_form c) some k vs ∙ t halt same k vs

if_goto_stops : (n : ℕ) (ws : List Word) (from a b : ℕ) (c : Tree) (e : Failure) → Taken ws from a keyword.If → Conditional n ws a b c → SkipsKey ws b keyword.Then → Halts n ws b (goto_form c) e → Halts n ws from if_form e
unfolding behind_if
if_goto_stops n ws from a b c e h i o t = λ halt same k vs. to_condition n ws from a b c h i k vs ∙ o n true (then_form c) (goto_form c) k vs ∙ t halt same k vs

-- what follows the condition is what follows the IF
pub if_then_states : (n : ℕ) (ws : List Word) (from a b : ℕ) (c : Tree) (r : Result ReadStatement Failure) → 0 < n → from ≤ b → Taken ws from a keyword.If → Conditional n ws a b c → OpensKey ws b keyword.Then → StatesThen n ws (b + 1) c r → StatesIf n ws from if_form r
if_then_states n ws from a b c (Ok x) some le h i o t = ((omega (arith, t.0.0), t.0.1), if_then_gives n ws from a b x.end c (Stated (statement_of x.statement)) some h i o t.1, t.2)
if_then_states n ws from a b c (Err e) some le h i o t = (t.0, if_then_stops n ws from a b c e some h i o t.1)

pub if_goto_states : (n : ℕ) (ws : List Word) (from a b : ℕ) (c : Tree) (r : Result ReadStatement Failure) → from ≤ b → Taken ws from a keyword.If → Conditional n ws a b c → SkipsKey ws b keyword.Then → StatesIf n ws b (goto_form c) r → StatesIf n ws from if_form r
if_goto_states n ws from a b c (Ok x) le h i o t = ((omega (arith, t.0.0), t.0.1), if_goto_gives n ws from a b x.end c (Stated (statement_of x.statement)) h i o t.1, t.2)
if_goto_states n ws from a b c (Err e) le h i o t = (t.0, if_goto_stops n ws from a b c e h i o t.1)

-- ---- after THEN and GOTO

abbrev pub Clausal : ℕ → List Word → ℕ → ℕ → ClauseTree → Type 0
Clausal n ws from end c = (g : ClauseTree → Form) → Leads (n - 1) n ws from end (ClauseIn g) (g c)

abbrev pub Alternative : ℕ → List Word → ℕ → ℕ → Bool → ElseTree → Type 0
Alternative n ws from end b o = (g : ElseTree → Form) → Leads n n ws from end (else_form b g) (g o)

pub then_gives : (n : ℕ) (ws : List Word) (from a end : ℕ) (c : Tree) (l : ClauseTree) (b : Bool) (o : ElseTree) (s : StatementTree) → Clausal n ws from a l → b ≡ clause_wants_else l → Alternative n ws a end b o → s ≡ IfThen c l o → LeadsOut n ws from end (then_form c) (Stated s)
then_gives n ws from a end c l b o s h e i same =
    λ k vs.
    h (λ clause. else_form (clause_wants_else clause) (λ otherwise. says (IfThen c clause otherwise))) k vs
    ∙ ap (λ (x : Bool). run n (drop a ws) (Go (else_form x (λ otherwise. says (IfThen c l otherwise))) ∷ k) vs) (sym e)
    ∙ i (λ otherwise. says (IfThen c l otherwise)) k vs
    ∙ run_made n (Stated (IfThen c l o)) (drop end ws) k vs
    ∙ ap (λ (x : StatementTree). run n (drop end ws) k (Stated x ∷ vs)) (sym same)

pub then_clause_stops : (n : ℕ) (ws : List Word) (from : ℕ) (c : Tree) (e : Failure) → StopsClause (n - 1) ws from e → Halts (n - 1) ws from (then_form c) e
then_clause_stops n ws from c e h = h (λ clause. else_form (clause_wants_else clause) (λ otherwise. says (IfThen c clause otherwise)))

pub then_else_stops : (n : ℕ) (ws : List Word) (from a : ℕ) (c : Tree) (l : ClauseTree) (b : Bool) (e : Failure) → Clausal n ws from a l → b ≡ clause_wants_else l → ((g : ElseTree → Form) → Halts n ws a (else_form b g) e) → Halts (n - 1) ws from (then_form c) e
then_else_stops n ws from a c l b e h same i =
    λ halt there k vs.
    h (λ clause. else_form (clause_wants_else clause) (λ otherwise. says (IfThen c clause otherwise))) k vs
    ∙ ap (λ (x : Bool). run n (drop a ws) (Go (else_form x (λ otherwise. says (IfThen c l otherwise))) ∷ k) vs) (sym same)
    ∙ i (λ otherwise. says (IfThen c l otherwise)) halt there k vs

behind_line : Tree → ℕ → Form
behind_line c n = else_form false (λ otherwise. says (IfGoto c n otherwise))

pub goto_gives : (n : ℕ) (ws : List Word) (from a end : ℕ) (c : Tree) (l : ℕ) (o : ElseTree) (s : StatementTree) → Taken ws from a keyword.Goto → IsLineNumber ws a l → Alternative n ws (a + 1) end false o → s ≡ IfGoto c l o → Makes n ws from end (goto_form c) (Stated s)
unfolding behind_line
goto_gives n ws from a end c l o s h i j same =
    λ k vs.
    h n (LiteralIn LineNumber (λ x. behind_line c x)) k vs
    ∙ i.1 n (λ x. behind_line c x) k vs
    ∙ j (λ otherwise. says (IfGoto c l otherwise)) k vs
    ∙ run_made n (Stated (IfGoto c l o)) (drop end ws) k vs
    ∙ ap (λ (x : StatementTree). run n (drop end ws) k (Stated x ∷ vs)) (sym same)

pub goto_missing : (n : ℕ) (ws : List Word) (from : ℕ) (c : Tree) (e : Failure) → ((m : ℕ) (f : Form) → Halts m ws from (TakeKey false keyword.Goto f) e) → Halts n ws from (goto_form c) e
unfolding behind_line
goto_missing n ws from c e h = λ halt same k vs. h n (LiteralIn LineNumber (λ x. behind_line c x)) halt same k vs

pub goto_line_missing : (n : ℕ) (ws : List Word) (from a : ℕ) (c : Tree) → Taken ws from a keyword.Goto → NoLineNumber ws a → Halts n ws from (goto_form c) (failure.Wrong a)
unfolding behind_line
goto_line_missing n ws from a c h i = λ halt same k vs. h n (LiteralIn LineNumber (λ x. behind_line c x)) k vs ∙ i.1 n (λ x. behind_line c x) halt same k vs

pub goto_else_stops : (n : ℕ) (ws : List Word) (from a : ℕ) (c : Tree) (l : ℕ) (e : Failure) → Taken ws from a keyword.Goto → IsLineNumber ws a l → ((g : ElseTree → Form) → Halts n ws (a + 1) (else_form false g) e) → Halts n ws from (goto_form c) e
unfolding behind_line
goto_else_stops n ws from a c l e h i j =
    λ halt same k vs.
    h n (LiteralIn LineNumber (λ x. behind_line c x)) k vs
    ∙ i.1 n (λ x. behind_line c x) k vs
    ∙ j (λ otherwise. says (IfGoto c l otherwise)) halt same k vs

pub open_then : (c : Tree) (l : ClauseTree) (o : ElseTree) (s : StatementTree) (b : Bool) → s ≡ IfThen c l o → b ≡ else_wants_else o → b ≡ wants_else s
open_then c l o s b e h = h ∙ sym (ap wants_else e)

pub open_goto : (c : Tree) (l : ℕ) (o : ElseTree) (s : StatementTree) (b : Bool) → s ≡ IfGoto c l o → b ≡ else_wants_else o → b ≡ wants_else s
open_goto c l o s b e h = h ∙ sym (ap wants_else e)

-- ---- ELSE

pub else_taken : (n : ℕ) (ws : List Word) (from : ℕ) (b : Bool) → b ≡ true → Alternative n ws from from b NoElse
else_taken n ws from true h g k vs = refl
else_taken n ws from false h g k vs = absurd cc

pub else_skipped : (n : ℕ) (ws : List Word) (from : ℕ) (b : Bool) → SkipsKey ws from keyword.Else → Alternative n ws from from b NoElse
else_skipped n ws from true h g k vs = refl
else_skipped n ws from false h g k vs = h n true (ClauseIn (λ clause. g (Else clause))) (g NoElse) k vs

pub else_gives : (n : ℕ) (ws : List Word) (from end : ℕ) (b : Bool) (l : ClauseTree) → b ≡ false → 0 < n → OpensKey ws from keyword.Else → Clausal n ws (from + 1) end l → Alternative n ws from end b (Else l)
else_gives n ws from end true l e some h i g k vs = absurd cc
else_gives n ws from end false l e some h i g k vs = h.1 n (ClauseIn (λ clause. g (Else clause))) (g NoElse) some k vs ∙ i (λ clause. g (Else clause)) k vs

pub else_too_deep : (n : ℕ) (ws : List Word) (from : ℕ) (b : Bool) → n ≡ 0 → b ≡ false → OpensKey ws from keyword.Else → (g : ElseTree → Form) → Halts n ws from (else_form b g) (failure.TooDeep from)
else_too_deep n ws from true zero e h g = absurd cc
else_too_deep n ws from false zero e h g = λ halt same k vs. ap (λ (x : ℕ). run x (drop from ws) (Go (else_form false g) ∷ k) vs) zero ∙ h.2 (ClauseIn (λ clause. g (Else clause))) (g NoElse) halt same k vs

pub else_stops : (n : ℕ) (ws : List Word) (from : ℕ) (b : Bool) (f : Failure) → b ≡ false → 0 < n → OpensKey ws from keyword.Else → StopsClause (n - 1) ws (from + 1) f → (g : ElseTree → Form) → Halts n ws from (else_form b g) f
else_stops n ws from true f e some h i g = absurd cc
else_stops n ws from false f e some h i g = λ halt same k vs. h.1 n (ClauseIn (λ clause. g (Else clause))) (g NoElse) some k vs ∙ i (λ clause. g (Else clause)) halt same k vs

-- ---- clauses

is_if_form : (ws : List Word) (from : ℕ) (at : SentenceAt ws from class.Choice) → at.sentence.form ≡ if_form
is_if_form ws from at = form at.word at.sentence at.known at.class where
  form_in : Option Sentence → Form
  form_in None = if_form
  form_in (Some b) = b.form

  key_choice : (k : Keyword) → class_in (key_sentence k) ≡ Some sentences.Choice → k ≡ keyword.If
  key_choice keyword.If e = refl
  key_choice k e = absurd cc

  form : (t : Word) (b : Sentence) → sentence_of t ≡ Some b → b.class ≡ sentences.Choice → b.form ≡ if_form
  form (Key k) b e h =
      let same : k ≡ keyword.If = key_choice k (ap class_in e ∙ ap (λ (x : sentences.Class). Some x) h) in
      ap form_in (sym e) ∙ ap (λ (x : Keyword). form_in (key_sentence x)) same
  form t b e h =
      let c : class_in (sentence_of t) ≡ Some sentences.Choice = ap class_in e ∙ ap (λ (x : sentences.Class). Some x) h in
      absurd cc

from_choice : (n : ℕ) (ws : List Word) (from end : ℕ) (s : StatementTree) (at : SentenceAt ws from class.Choice) → Makes n ws from end if_form (Stated s) → Makes n ws from end at.sentence.form (Stated s)
from_choice n ws from end s at h = subst (λ (f : Form). Makes n ws from end f (Stated s)) (sym (is_if_form ws from at)) h

from_choice_halts : (n : ℕ) (ws : List Word) (from : ℕ) (e : Failure) (at : SentenceAt ws from class.Choice) → Halts n ws from if_form e → Halts n ws from at.sentence.form e
from_choice_halts n ws from e at h = subst (λ (f : Form). Halts n ws from f e) (sym (is_if_form ws from at)) h

closes_clause : (n : ℕ) (ws : List Word) (from end : ℕ) (s : StatementTree) (c : ClauseTree) → 0 < n → StatesClause (n - 1) ws from end s → c ≡ StatementClause s → Clausal n ws from end c
closes_clause n ws from end s c some h e g k vs =
    let same : suc (n - 1) ≡ n = omega arith in
    h g k vs
    ∙ run_close (n - 1) (drop end ws) (AwaitClause g ∷ k) (Stated s ∷ vs)
    ∙ ap (λ (x : ℕ). run x (drop end ws) (AwaitClause g ∷ k) (Stated s ∷ vs)) same
    ∙ steps.run_await_clause n (drop end ws) g s k vs
    ∙ ap (λ (x : ClauseTree). run n (drop end ws) (Go (g x) ∷ k) vs) (sym e)

pub choice_clause : (n : ℕ) (ws : List Word) (from end : ℕ) (s : StatementTree) (c : ClauseTree) → 0 < n → SentenceAt ws from class.Choice → Makes (n - 1) ws from end if_form (Stated s) → c ≡ StatementClause s → Clausal n ws from end c
choice_clause n ws from end s c some at h e = closes_clause n ws from end s c some (λ g k vs. clause_begins (n - 1) ws from class.Choice at g k vs refl ∙ from_choice (n - 1) ws from end s at h (Close ∷ AwaitClause g ∷ k) vs) e

pub choice_clause_stops : (n : ℕ) (ws : List Word) (from : ℕ) (e : Failure) → SentenceAt ws from class.Choice → Halts n ws from if_form e → StopsClause n ws from e
choice_clause_stops n ws from e at h = λ g halt same k vs. clause_begins n ws from class.Choice at g k vs refl ∙ from_choice_halts n ws from e at h halt same (Close ∷ AwaitClause g ∷ k) vs

pub stated_clause : (n : ℕ) (ws : List Word) (from end : ℕ) (s : StatementTree) (c : ClauseTree) → 0 < n → StatesClause (n - 1) ws from end s → c ≡ StatementClause s → Clausal n ws from end c
stated_clause n ws from end s c some h e = closes_clause n ws from end s c some h e

pub head_clause_stops : (n : ℕ) (ws : List Word) (from : ℕ) → SentenceAt ws from class.Head → StopsClause n ws from (failure.Wrong from)
head_clause_stops n ws from at = λ g halt same k vs.
    rw at.first (steps.run_head_clause n at.word at.rest at.sentence.form g k vs (at.known ∙ ap (λ (c : sentences.Class). Some (record { class = c; form = at.sentence.form })) at.class))
    ∙ ap (λ (x : List Word). Err (Wrong x)) (sym at.first)
    ∙ ap (λ (x : Halt). Err x) (same_halt same)

pub open_clause : (s : StatementTree) (c : ClauseTree) (b : Bool) → c ≡ StatementClause s → b ≡ wants_else s → b ≡ clause_wants_else c
open_clause s c b e h = h ∙ sym (ap clause_wants_else e)

pub closed_clause : (s : StatementTree) (c : ClauseTree) → c ≡ StatementClause s → wants_else s ≡ false → false ≡ clause_wants_else c
closed_clause s c e h = sym h ∙ sym (ap clause_wants_else e)

-- an IF that is a statement of the line
pub choice_line : (n : ℕ) (ws : List Word) (from end : ℕ) (s : StatementTree) → SentenceAt ws from class.Choice → Makes n ws from end if_form (Stated s) → StatesLine n ws from end s
choice_line n ws from end s at h k vs = line_begins n ws from class.Choice at k vs ∙ from_choice n ws from end s at h (Do AddStatement ∷ k) vs

pub choice_line_stops : (n : ℕ) (ws : List Word) (from : ℕ) (e : Failure) → SentenceAt ws from class.Choice → Halts n ws from if_form e → StopsAt n ws from OneStatement e
choice_line_stops n ws from e at h = λ halt same k vs. line_begins n ws from class.Choice at k vs ∙ from_choice_halts n ws from e at h halt same (Do AddStatement ∷ k) vs

-- a statement that is allowed in no clause and takes no modifier
pub head_line : (n : ℕ) (ws : List Word) (from end : ℕ) (s : StatementTree) → SentenceAt ws from class.Head → MakesPlain n ws from end s → StatesLine n ws from end s
head_line n ws from end s at h k vs = line_begins n ws from class.Head at k vs ∙ plain_form n ws from end class.Head s at refl h (Do AddStatement ∷ k) vs

pub head_line_stops : (n : ℕ) (ws : List Word) (from : ℕ) (e : Failure) → SentenceAt ws from class.Head → HaltsPlain n ws from e → StopsAt n ws from OneStatement e
head_line_stops n ws from e at h = λ halt same k vs. line_begins n ws from class.Head at k vs ∙ plain_halts n ws from class.Head e at refl h halt same (Do AddStatement ∷ k) vs

pub ruleset choices = (if_missing, if_condition_stops, if_too_deep, then_gives, then_clause_stops, then_else_stops, goto_gives, goto_missing, goto_line_missing, goto_else_stops, open_then, open_goto, else_taken, else_skipped, else_gives, else_too_deep, else_stops, choice_clause, choice_clause_stops, stated_clause, head_clause_stops, open_clause, closed_clause)

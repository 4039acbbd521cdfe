-- The statements of a line, one after another, and what the grammar says of them.
use Rattle.std.proofs.Common.{rules, ◌≡◌, ℕ, ◌+◌, ◌<◌, ◌≤◌, List, [], ◌∷◌, ◌++◌, length, drop, map, Option, Some, None, option_map, Result, Ok, Err, refl, ap, sym, ◌∙◌, subst, arith}
use Rattle.std.proofs.lemmas.List.{drop_all, map-append}
use Rattle.basic_expr.specs.declared.failures.Failure.{Failure}
use Rattle.basic_expr.specs.declared.failures.Failure.TheVariants as failure
use Rattle.basic_expr.specs.Failures.{trouble_of}
use Rattle.basic_expr.specs.ParsedSymbols.{First, WordStands, is_sign}
use Rattle.basic_tree.specs.declared.statements.Statement.{Statement}
use Rattle.basic_tree.specs.declared.programs.Line.{Line}
use Rattle.basic_tree.specs.declared.tokens.Cause.TheVariants as cause
use Rattle.basic_tree.specs.declared.tokens.Refusal.{Refusal}
use Rattle.basic_values.specs.declared.failures.Trouble.{Trouble}
use Rattle.basic_line.specs.Parsing.{Parses}
use Rattle.basic_tree.specs.declared.tokens.Sign.TheVariants as sign
use Rattle.basic_tree.specs.Tokens.{Lexeme}
use Rattle.basic_tree.specs.SpellingWords.{Word, Punctuation, words_of, most_levels}
use Rattle.basic_tree.specs.SpellingStatements.{statements_of, line_statements}
use Rattle.basic_tree.specs.Trees.{StatementTree, LineTree}
use Rattle.basic_tree.specs.StatementViews.{statement_of, line_of}
use Rattle.grammar_machine.specs.MachineStack.{Values, Stated, Parsed, AddStatement, OneStatement, MoreStatements}
use Rattle.grammar_machine.specs.MachineSentences.{if_form}
use Rattle.basic_tree.specs.GrammarPlaces.{IsReadLine, RefusesLine}
use Rattle.grammar_machine.specs.MachineJudge.{line_symbols, line_values}
use Rattle.grammar_machine.specs.MachineRun.{Wrong, TooDeep, run}
use Rattle.grammar_machine.proofs.MachineSteps.{run_do}
use Rattle.grammar_machine.proofs.LineSteps as steps
use Rattle.grammar_machine.proofs.LinePlaces.{line_read, line_wrong, line_stops, line_deep}
use Rattle.grammar_machine.proofs.LineReads.{made_line, reads_lines}
use Rattle.statement_parts.specs.ParsedForms.{Behind, Makes, Halts, IsPlaced}
use Rattle.statement_parts.specs.declared.read.Read.{Read}
use Rattle.basic_stmt.specs.Plain.{MakesPlain, HaltsPlain, StatesPlain}
use Rattle.basic_line.specs.Structure.{IsPlace, LineEnds, LineSoFar, LineStops, Nothing, SentenceAt, StatesLine, StatesOne, StatesPlace, StatesSimple, StopsAt, in_list}
use Rattle.basic_line.specs.declared.sentences.Class.{Class}
use Rattle.basic_line.specs.declared.sentences.Class.TheVariants as class
use Rattle.basic_line.proofs.ClauseSteps.{choice_line, choice_line_stops, head_line, head_line_stops}

-- ---- one statement

pub choice_stated : (n : ℕ) (ws : List Word) (from end : ℕ) (c : Class) (s : StatementTree) → c ≡ class.Choice → SentenceAt ws from c → Makes n ws from end if_form (Stated s) → StatesLine n ws from end s
choice_stated n ws from end c s e at h = choice_line n ws from end s (subst (λ x. SentenceAt ws from x) e at) h

pub choice_refused : (n : ℕ) (ws : List Word) (from : ℕ) (c : Class) (f : Failure) → c ≡ class.Choice → SentenceAt ws from c → Halts n ws from if_form f → StopsAt n ws from OneStatement f
choice_refused n ws from c f e at h = choice_line_stops n ws from f (subst (λ x. SentenceAt ws from x) e at) h

head_stated : (n : ℕ) (ws : List Word) (from end : ℕ) (c : Class) (s : StatementTree) → c ≡ class.Head → SentenceAt ws from c → MakesPlain n ws from end s → StatesLine n ws from end s
head_stated n ws from end c s e at h = head_line n ws from end s (subst (λ x. SentenceAt ws from x) e at) h

head_refused : (n : ℕ) (ws : List Word) (from : ℕ) (c : Class) (f : Failure) → c ≡ class.Head → SentenceAt ws from c → HaltsPlain n ws from f → StopsAt n ws from OneStatement f
head_refused n ws from c f e at h = head_line_stops n ws from f (subst (λ x. SentenceAt ws from x) e at) h

pub plain_stated : (ws : List Word) (from : ℕ) (c : Class) (r : Result (Read Statement) Failure) → c ≡ class.Head → SentenceAt ws from c → StatesPlain most_levels ws from r → StatesOne ws from r
plain_stated ws from c (Ok x) e at h = (h.0, head_stated most_levels ws from x.end c (statement_of x.value) e at h.1)
plain_stated ws from c (Err f) e at h = (h.0, head_refused most_levels ws from c f e at h.1)

pub simple_stated : (ws : List Word) (from : ℕ) (r : Result (Read Statement) Failure) → StatesSimple most_levels ws from r → StatesOne ws from r
simple_stated ws from (Ok x) h = (h.0, h.1)
simple_stated ws from (Err f) h = (h.0, h.1)

pub ruleset statements = (choice_stated, choice_refused)

pub no_place : (ws : List Word) (from : ℕ) (items : List Statement) → from ≤ length ws → Nothing ws from → StatesPlace ws from items items (Ok from)
no_place ws from items inside h = ((omega arith, inside), (None, λ k ss vs. h.0 most_levels k ss vs, search rules))

pub one_place : (ws : List Word) (from end : ℕ) (s : Statement) (before after : List Statement) → Behind ws from end → StatesLine most_levels ws from end (statement_of s) → after ≡ before ++ s ∷ [] → StatesPlace ws from before after (Ok end)
one_place ws from end s before after behind h e = (
  (omega (arith, behind.0), behind.1),
  (Some s, λ k ss vs. h k (Parsed ss ∷ vs) ∙ run_do most_levels AddStatement (drop end ws) k (Stated (statement_of s) ∷ Parsed ss ∷ vs), e),
)

pub ruleset places = (no_place, one_place)

-- ---- all statements

stated_more : (o : Option Statement) → map statement_of (in_list o) ≡ statements_of (option_map statement_of o ∷ [])
stated_more None = refl
stated_more (Some s) = refl

statements_append : (a b : List (Option StatementTree)) → statements_of (a ++ b) ≡ statements_of a ++ statements_of b
statements_append [] b = refl
statements_append (None ∷ a) b = statements_append a b
statements_append (Some s ∷ a) b = ap (λ x. s ∷ x) (statements_append a b)

begun : (ws : List Word) (end : ℕ) (o : Option Statement) (before items : List Statement) → IsPlace most_levels ws 0 end o → end ≤ length ws → before ≡ [] → items ≡ before ++ in_list o → LineSoFar ws end items
begun ws end o before items h inside none e = record {
  first = option_map statement_of o;
  others = [];
  runs = h (MoreStatements ∷ []) [] [];
  stated = ap (λ x. map statement_of x) (e ∙ ap (λ x. x ++ in_list o) none) ∙ stated_more o;
  within = inside;
}

pub line_begun : (ws : List Word) (end : ℕ) (before items : List Statement) → before ≡ [] → StatesPlace ws 0 before items (Ok end) → LineSoFar ws end items
line_begun ws end before items none h = begun ws end h.1.0 before items h.1.1 h.0.1 none h.1.2

more_of : (ws : List Word) (place end : ℕ) (o : Option Statement) (items more : List Statement) → LineSoFar ws place items → WordStands ws (Punctuation sign.Colon) place → IsPlace most_levels ws (place + 1) end o → end ≤ length ws → more ≡ items ++ in_list o → LineSoFar ws end more
more_of ws place end o items more h at next inside e = record {
  first = h.first;
  others = h.others ++ option_map statement_of o ∷ [];
  runs = h.runs
      ∙ ap (λ (x : List Word). run most_levels x (MoreStatements ∷ []) (Parsed (h.first ∷ h.others) ∷ [])) at.1
      ∙ steps.run_more_statements most_levels (drop (place + 1) ws) [] (Parsed (h.first ∷ h.others) ∷ [])
      ∙ next (MoreStatements ∷ []) (h.first ∷ h.others) [];
  stated = ap (λ x. map statement_of x) e ∙ map-append statement_of items (in_list o) ∙ ap (λ x. x ++ map statement_of (in_list o)) h.stated ∙ ap (λ x. statements_of (h.first ∷ h.others) ++ x) (stated_more o) ∙ sym (statements_append (h.first ∷ h.others) (option_map statement_of o ∷ []));
  within = inside;
}

pub line_more : (ws : List Word) (place end : ℕ) (items more : List Statement) → LineSoFar ws place items → WordStands ws (Punctuation sign.Colon) place → StatesPlace ws (place + 1) items more (Ok end) → LineSoFar ws end more
line_more ws place end items more h at next = more_of ws place end next.1.0 items more h at next.1.1 next.0.1 next.1.2

no_separator : (x : List Word) → First (is_sign sign.Colon) x → steps.NoSeparator x
no_separator [] h = tt
no_separator (Punctuation sign.Colon ∷ ts) h = absurd cc
no_separator (Punctuation s ∷ ts) h = refl
no_separator (t ∷ ts) h = refl

run_end : (n : ℕ) (ws : List Word) (vs : Values) → run n ws [] vs ≡ Ok (vs, ws)
unfolding run
run_end n [] vs = refl
run_end n (t ∷ ts) vs = refl

pub line_ended : (ws : List Word) (place : ℕ) (items : List Statement) → LineSoFar ws place items → First (is_sign sign.Colon) (drop place ws) → LineEnds ws place items
line_ended ws place items h missing = record {
  first = h.first;
  others = h.others;
  runs = h.runs ∙ steps.run_no_more_statements most_levels (drop place ws) [] (h.first ∷ h.others) [] (no_separator (drop place ws) missing) ∙ run_end most_levels (drop place ws) (Parsed (h.first ∷ h.others) ∷ []);
  stated = h.stated;
  within = h.within;
}

pub line_stops_first : (ws : List Word) (e : Failure) → StopsAt most_levels ws 0 OneStatement e → LineStops ws e
line_stops_first ws e h = λ halt same. h halt same (MoreStatements ∷ []) line_values

pub line_stops_later : (ws : List Word) (place : ℕ) (items : List Statement) (e : Failure) → LineSoFar ws place items → WordStands ws (Punctuation sign.Colon) place → StopsAt most_levels ws (place + 1) OneStatement e → LineStops ws e
line_stops_later ws place items e h at stops = λ halt same.
    h.runs
    ∙ ap (λ (x : List Word). run most_levels x (MoreStatements ∷ []) (Parsed (h.first ∷ h.others) ∷ [])) at.1
    ∙ steps.run_more_statements most_levels (drop (place + 1) ws) [] (Parsed (h.first ∷ h.others) ∷ [])
    ∙ stops halt same (MoreStatements ∷ []) (Parsed (h.first ∷ h.others) ∷ [])

pub ruleset so_far = (line_begun, line_more, line_ended, line_stops_first, line_stops_later)

-- ---- the line

pub parsed_line : (ws : List Word) (place : ℕ) (line : Line) (items : List Statement) → line.statements.items ≡ items → place ≡ length ws → LineEnds ws place items → (l : LineTree) × IsReadLine ws l × (line_of line ≡ line_statements l)
parsed_line ws place line items same at h =
    let l : LineTree = record { first = h.first; others = h.others } in
    let nothing : drop place ws ≡ [] = drop_all place ws (omega (arith, at)) in
    let ends : run most_levels ws line_symbols line_values ≡ Ok (made_line l, []) = h.runs ∙ ap (λ (x : List Word). Ok (made_line l, x)) nothing in
    (l, line_read line_symbols line_values made_line reads_lines ws l ends, ap (λ x. map statement_of x) same ∙ h.stated)

pub line_left : (ws : List Word) (place : ℕ) (items : List Statement) → (place ≡ length ws → ⊥) → LineEnds ws place items → RefusesLine ws place cause.Syntax
line_left ws place items apart h =
    let u : Values = Parsed (h.first ∷ h.others) ∷ [] in
    let inside : place < length ws = omega (arith, h.within, apart) in
    line_stops line_symbols line_values made_line reads_lines ws place u inside h.runs

pub line_is_wrong : (ws : List Word) (place : ℕ) → place ≤ length ws → LineStops ws (failure.Wrong place) → RefusesLine ws place cause.Syntax
line_is_wrong ws place inside h = line_wrong line_symbols line_values made_line reads_lines ws place inside (h (Wrong (drop place ws)) refl)

pub line_is_deep : (ws : List Word) (place : ℕ) → place < length ws → LineStops ws (failure.TooDeep place) → RefusesLine ws place cause.TooDeep
line_is_deep ws place inside h = line_deep line_symbols line_values made_line reads_lines ws place inside (h (TooDeep (drop place ws)) refl)

-- ---- what is returned

pub read_answer : (tokens : List Lexeme) (ws : List Word) (place : ℕ) (items : List Statement) (line : Line) → ws ≡ words_of tokens → place ≡ length ws → LineEnds ws place items → line.statements.items ≡ items → Parses tokens (Ok line)
read_answer tokens ws place items line same at h e =
    subst (λ (x : List Word). (l : LineTree) × IsReadLine x l × (line_of line ≡ line_statements l)) same (parsed_line ws place line items e at h)

pub left_answer : (tokens : List Lexeme) (ws : List Word) (r : Trouble Refusal) (place : ℕ) (items : List Statement) → ws ≡ words_of tokens → (place ≡ length ws → ⊥) → LineEnds ws place items → r ≡ trouble_of (failure.Wrong place) → Parses tokens (Err r)
left_answer tokens ws r place items same apart h e =
    subst (λ (x : Trouble Refusal). Parses tokens (Err x)) (sym e) (subst (λ (x : List Word). RefusesLine x place cause.Syntax) same (line_left ws place items apart h))

failed_answer : (ws : List Word) (f : Failure) → IsPlaced ws f → LineStops ws f → (tokens : List Lexeme) → ws ≡ words_of tokens → Parses tokens (Err (trouble_of f))
failed_answer ws failure.NoMemory inside h tokens same = tt
failed_answer ws (failure.Wrong place) inside h tokens same = subst (λ (x : List Word). RefusesLine x place cause.Syntax) same (line_is_wrong ws place inside h)
failed_answer ws (failure.TooDeep place) inside h tokens same = subst (λ (x : List Word). RefusesLine x place cause.TooDeep) same (line_is_deep ws place inside h)

pub failure_answer : (tokens : List Lexeme) (ws : List Word) (r : Trouble Refusal) (f : Failure) → ws ≡ words_of tokens → IsPlaced ws f → LineStops ws f → r ≡ trouble_of f → Parses tokens (Err r)
failure_answer tokens ws r f same inside h e = subst (λ (x : Trouble Refusal). Parses tokens (Err x)) (sym e) (failed_answer ws f inside h tokens same)

pub ruleset lines = (parsed_line, line_left, line_is_wrong, line_is_deep)

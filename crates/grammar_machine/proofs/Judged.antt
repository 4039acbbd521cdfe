-- Each line is judged by where the machine stops; after all words, none is nested too deep.
use Rattle.std.proofs.Common.{◌≡◌, ℕ, suc, ◌+◌, ◌<◌, ◌≤◌, Bool, true, false, List, [], ◌∷◌, length, drop, Option, Some, None, Ok, Err, refl, sym, ap, subst, ◌∙◌, arith, inl, inr, length-drop}
use Rattle.std.specs.Prelude.{◌⊎◌}
use Rattle.std.proofs.lemmas.List.{append-nil, drop_all, drop-drop}
use Rattle.basic_tree.specs.SpellingWords.{Word, words_of, most_levels}
use Rattle.basic_tree.specs.declared.kinds.Want.{Want}
use Rattle.basic_tree.specs.declared.tokens.Cause.{Cause}
use Rattle.basic_tree.specs.declared.tokens.Cause.TheVariants as cause
use Rattle.basic_tree.specs.Trees.{Tree, ClauseTree, StatementClause}
use Rattle.basic_tree.specs.SpellingExpressions.{is_text}
use Rattle.basic_tree.specs.Tokens.{Lexeme, Reading, tokens_of}
use Rattle.grammar_machine.specs.MachineStack.{Values, parsed, top, stated, below, Form, IfKey, IfSign, ExprIf, LiteralIf, QuotedIf, MoreItems, MoreOf, ClauseIn, Symbol, Level, loosest, MoreRelations, Go, Await, AwaitClause}
use Rattle.grammar_machine.specs.MachineMoves.{MachineMove, Shifts, Skips, Refuses, no_relation, clause_move, form_move_with, move}
use Rattle.grammar_machine.specs.MachineMoves.{Closes as Ends}
use Rattle.grammar_machine.specs.MachineRun.{Turn, Next, Ended, Stuck, Deep, moved, turn, Wrong, TooDeep, MachineOutcome, turned, run}
use Rattle.basic_tree.specs.LineVerdicts.{SpelledBy, RefusedBy, Verdict, HasTree, RefusedFor, IsJudged, Judges, LinesAreJudged}
use Rattle.basic_tree.specs.GrammarPlaces.{between, IsRead, RefusesExpr, ExpressionsAreRead, IsReadLine, RefusesLine}
use Rattle.basic_tree.specs.declared.tokens.Refusal.{Refusal}
use Rattle.grammar_machine.specs.MachineJudge.{line_in, line_symbols, line_values, outcome_verdict, verdict_of, reading_verdict, judge_of}
use Rattle.grammar_machine.proofs.MachinePasses.{left}
use Rattle.grammar_machine.proofs.MachineStops.{finished}
use Rattle.grammar_machine.proofs.BetweenLemmas.{cut_between}
use Rattle.grammar_machine.proofs.ExpressionPlaces.{is_tree, expression_read, expression_wrong, expression_deep}
use Rattle.grammar_machine.proofs.LinePlaces.{line_read, line_wrong, line_stops, line_deep}
use Rattle.grammar_machine.proofs.LineReads.{made_line, reads_lines, left_end}

-- ---- at the end nothing is taken

abbrev NoWord : MachineMove → Type 0
NoWord (Shifts opens vs more) = ⊥
NoWord other = Unit {0}

form_ends : (clause : (ClauseTree → Form) → Values → Option Word → MachineMove) → ((g : ClauseTree → Form) (vs : Values) → NoWord (clause g vs None)) → (f : Form) (vs : Values) → NoWord (form_move_with clause f vs None)
form_ends c h (IfKey opens k f other) vs = form_ends c h other vs
form_ends c h (IfSign opens s f other) vs = form_ends c h other vs
form_ends c h (ExprIf test w g other) vs = form_ends c h other vs
form_ends c h (LiteralIf limit g other) vs = form_ends c h other vs
form_ends c h (QuotedIf g other) vs = form_ends c h other vs
form_ends c h (MoreItems items g) vs = form_ends c h (g items) vs
form_ends c h (MoreOf s items g) vs = form_ends c h (g items) vs
form_ends c h (ClauseIn g) vs = h g vs
form_ends c h f vs = tt

go_ends : (f : Form) (vs : Values) → NoWord (form_move_with clause_move f vs None)
go_ends f vs = form_ends clause_move (λ g ws. tt) f vs

relation_ends : (a b : Bool) (vs : Values) → NoWord (no_relation a b vs)
relation_ends true true vs = tt
relation_ends true false vs = tt
relation_ends false b vs = tt

move_ends : (s : Symbol) (vs : Values) → NoWord (move s vs None)
move_ends (MoreRelations b) vs = relation_ends b (is_text (top vs)) vs
move_ends (Go f) vs = go_ends f vs
move_ends (Await g) vs = go_ends (g (top vs)) (below vs)
move_ends (AwaitClause g) vs = go_ends (g (StatementClause (stated vs))) (below vs)
move_ends s vs = tt

abbrev NotDeep : Turn → Type 0
NotDeep Deep = ⊥
NotDeep other = Unit {0}

moved_ends : (m : MachineMove) (n : ℕ) (k : List Symbol) (f : ℕ → Values → Turn) → NoWord m → ((i : ℕ) (vs : Values) → NotDeep (f i vs)) → NotDeep (moved m n k f)
moved_ends (Shifts opens vs more) n k f e h = absurd e
moved_ends (Skips vs) n k f e h = h n vs
moved_ends (Ends vs) n k f e h = h (suc n) vs
moved_ends Refuses n k f e h = tt

turn_ends : (k : List Symbol) (n : ℕ) (vs : Values) → NotDeep (turn k n vs None)
turn_ends [] n vs = tt
turn_ends (s ∷ k) n vs = moved_ends (move s vs None) n k (λ m vs'. turn k m vs' None) (move_ends s vs) (λ i vs'. turn_ends k i vs')

-- after all words, none is nested too deep
pub never_deep_at_end : (ws : List Word) (n : ℕ) (k : List Symbol) (vs : Values) → run n ws k vs ≡ Err (TooDeep []) → ⊥
unfolding run
never_deep_at_end [] n k vs e = go (turn k n vs None) (turn_ends k n vs) e where
  go : (x : Turn) → NotDeep x → turned x [] (λ m vs' k'. Err (Wrong [])) ≡ Err (TooDeep []) → ⊥
  go (Next m a b) d e = absurd cc
  go (Ended u) d e = absurd cc
  go Stuck d e = absurd cc
  go Deep d e = d
never_deep_at_end (t ∷ ws) n k vs e = go (turn k n vs (Some t)) (λ m vs' k'. never_deep_at_end ws m k' vs') e where
  go : (x : Turn) → ((m : ℕ) (vs' : Values) (k' : List Symbol) → run m ws k' vs' ≡ Err (TooDeep []) → ⊥) → turned x (t ∷ ws) (λ m vs' k'. run m ws k' vs') ≡ Err (TooDeep []) → ⊥
  go (Next m a b) h e = h m a b e
  go (Ended u) h e = absurd cc
  go Stuck h e = absurd cc
  go Deep h e = absurd cc

-- ---- verdicts

deep_within : (ws : List Word) (k n : ℕ) (s : List Symbol) (vs : Values) → k ≤ length ws → run n ws s vs ≡ Err (TooDeep (drop k ws)) → k < length ws
deep_within ws k n s vs le h = go (drop k ws) refl where
  nothing : length ws ≤ k → ⊥
  nothing over = never_deep_at_end ws n s vs (h ∙ ap (λ (x : List Word). Err (TooDeep x)) (drop_all k ws over))

  go : (x : List Word) → drop k ws ≡ x → k < length ws
  go x e = below_or k (length ws) le nothing where
    below_or : (a b : ℕ) → a ≤ b → (b ≤ a → ⊥) → a < b
    below_or a b x y = omega (arith, y)

-- what the grammar says of words
abbrev WordsJudged : List Word → Verdict → Type 0
WordsJudged ws (HasTree l) = IsReadLine ws l
WordsJudged ws (RefusedFor why) = (k : ℕ) × RefusesLine ws k why

judged_by : (ws : List Word) (o : MachineOutcome) → run most_levels ws line_symbols line_values ≡ o → WordsJudged ws (outcome_verdict o)
judged_by ws (Ok (u, [])) h =
    let f = finished ws [] most_levels line_symbols line_values u (ap (λ (x : List Word). run most_levels x line_symbols line_values) (append-nil ws) ∙ h) in
    let l = reads_lines.spells f.steps u f.spells in
    subst (λ (v : Values). IsReadLine ws (line_in (parsed v))) l.3 (line_read line_symbols line_values made_line reads_lines ws l.0 (h ∙ ap (λ (x : Values). Ok (x, [])) (sym l.3)))
judged_by ws (Ok (u, t ∷ ts)) h =
    let e = left_end ws most_levels line_symbols line_values in
    let same : drop e.0 ws ≡ t ∷ ts = sym e.2 ∙ ap left h in
    (e.0, line_stops line_symbols line_values made_line reads_lines ws e.0 u (inside ws e.0 t ts e.1 same) (h ∙ ap (λ (x : List Word). Ok (u, x)) (sym same))) where
      inside : (ws : List Word) (k : ℕ) (t : Word) (ts : List Word) → k ≤ length ws → drop k ws ≡ t ∷ ts → k < length ws
      inside ws k t ts le same = below_or k (length ws) le (λ over. let none : t ∷ ts ≡ [] = sym same ∙ drop_all k ws over in absurd cc) where
        below_or : (a b : ℕ) → a ≤ b → (b ≤ a → ⊥) → a < b
        below_or a b x y = omega (arith, y)
judged_by ws (Err (Wrong r)) h =
    let e = left_end ws most_levels line_symbols line_values in
    let same : drop e.0 ws ≡ r = sym e.2 ∙ ap left h in
    (e.0, line_wrong line_symbols line_values made_line reads_lines ws e.0 e.1 (h ∙ ap (λ (x : List Word). Err (Wrong x)) (sym same)))
judged_by ws (Err (TooDeep r)) h =
    let e = left_end ws most_levels line_symbols line_values in
    let same : drop e.0 ws ≡ r = sym e.2 ∙ ap left h in
    let there = h ∙ ap (λ (x : List Word). Err (TooDeep x)) (sym same) in
    (e.0, line_deep line_symbols line_values made_line reads_lines ws e.0 (deep_within ws e.0 most_levels line_symbols line_values e.1 there) there)

verdict_judged : (ws : List Word) → WordsJudged ws (verdict_of ws)
unfolding verdict_of
verdict_judged ws = judged_by ws (run most_levels ws line_symbols line_values) refl

tokens_judged : (line : List ℕ) (tokens : List Lexeme) (v : Verdict) → tokens_of line ≡ Ok tokens → WordsJudged (words_of tokens) v → IsJudged line v
tokens_judged line tokens (HasTree l) e h = subst (λ (r : Reading). SpelledBy r l) (sym e) h
tokens_judged line tokens (RefusedFor why) e h =
    let refusal : Refusal = record { place = h.0; cause = why } in
    (refusal, subst (λ (r : Reading). RefusedBy r refusal) (sym e) h.1, refl)

reading_judged : (line : List ℕ) (r : Reading) → tokens_of line ≡ r → IsJudged line (reading_verdict r)
reading_judged line (Ok tokens) e = tokens_judged line tokens (verdict_of (words_of tokens)) e (verdict_judged (words_of tokens))
reading_judged line (Err refusal) e = (refusal, subst (λ (r : Reading). RefusedBy r refusal) (sym e) refl, refl)

-- the machine is a judge that follows the grammar
pub judge_of_judges : Judges judge_of
judge_of_judges line = reading_judged line (tokens_of line) refl

pub lines_judged : LinesAreJudged
lines_judged = (judge_of, judge_of_judges)

-- ---- expressions

-- what the grammar says of the words from a place on
abbrev ReadOrRefused : Want → List Word → ℕ → Type 0
ReadOrRefused w ws from = ((t : Tree) × (k : ℕ) × IsRead w ws from t k) ⊎ ((k : ℕ) × (why : Cause) × RefusesExpr w ws from k why)

module _ (w : Want) (ws : List Word) (from : ℕ) (inside : from ≤ length ws) where
  -- the place, at or after that one, where the machine stops
  place_left : (k : ℕ) × (from ≤ k) × (k ≤ length ws) × (left (run most_levels (drop from ws) (Level loosest w ∷ []) []) ≡ drop k ws)
  place_left =
      let e = left_end (drop from ws) most_levels (Level loosest w ∷ []) [] in
      (from + e.0, omega arith, omega (arith, e.1, length-drop from ws, inside), e.2 ∙ drop-drop e.0 from ws)

  read_or_refused : (o : MachineOutcome) → run most_levels (drop from ws) (Level loosest w ∷ []) [] ≡ o → ReadOrRefused w ws from
  read_or_refused (Ok (u, r)) h =
      let e = place_left in
      let same : r ≡ drop e.0 ws = sym (ap left h) ∙ e.3 in
      let there = h ∙ ap (λ (x : List Word). Ok (u, x)) same in
      let f = finished (between ws from e.0) (drop e.0 ws) most_levels (Level loosest w ∷ []) [] u (ap (λ (x : List Word). run most_levels x (Level loosest w ∷ []) []) (cut_between ws from e.0 e.1) ∙ there) in
      let t = is_tree w f.steps u f.spells in
      inl (t.0, e.0, expression_read w ws from e.0 t.0 e.1 e.2 (there ∙ ap (λ (x : Values). Ok (x, drop e.0 ws)) (sym t.3)))
  read_or_refused (Err (Wrong r)) h =
      let e = place_left in
      let same : r ≡ drop e.0 ws = sym (ap left h) ∙ e.3 in
      inr (e.0, cause.Syntax, expression_wrong w ws from e.0 e.1 e.2 (h ∙ ap (λ (x : List Word). Err (Wrong x)) same))
  read_or_refused (Err (TooDeep r)) h =
      let e = place_left in
      let same : r ≡ drop e.0 ws = sym (ap left h) ∙ e.3 in
      let there = h ∙ ap (λ (x : List Word). Err (TooDeep x)) same in
      inr (e.0, cause.TooDeep, expression_deep w ws from e.0 e.1 (below_end e.0 e.2 (λ over. never_deep_at_end (drop from ws) most_levels (Level loosest w ∷ []) [] (there ∙ ap (λ (x : List Word). Err (TooDeep x)) (drop_all e.0 ws over)))) there) where
        below_end : (k : ℕ) → k ≤ length ws → (length ws ≤ k → ⊥) → k < length ws
        below_end k x y = omega (arith, y)

pub expressions_read : ExpressionsAreRead
expressions_read w ws from inside = read_or_refused w ws from inside (run most_levels (drop from ws) (Level loosest w ∷ []) []) refl

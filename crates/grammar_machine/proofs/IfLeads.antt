-- The words of an IF lead the machine to it: its condition, its clauses, and the IF to which an
-- ELSE belongs.
use Rattle.std.proofs.Common.{◌≡◌, max, ℕ, zero, suc, ◌≤◌, Bool, true, false, not, ◌&&◌, List, [], ◌∷◌, ◌++◌, refl, sym, ap, ◌∙◌, arith}
use Rattle.basic_tree.specs.declared.tokens.Keyword.TheVariants as keyword
use Rattle.basic_tree.specs.declared.tokens.Sign.TheVariants as sign
use Rattle.basic_tree.specs.declared.kinds.Want.{Want}
use Rattle.basic_tree.specs.declared.kinds.Want.TheVariants as want
use Rattle.basic_tree.specs.SpellingWords.{Word, Key, Punctuation, Number, Plain, Opens, words}
use Rattle.basic_tree.specs.Trees.{Tree, ClauseTree, LineClause, StatementClause, ElseTree, NoElse, Else, StatementTree, IfThen, IfGoto}
use Rattle.basic_tree.specs.SpellingExpressions.{steps_of, Fits, IsTree}
use Rattle.basic_tree.specs.SpellingStatements.{is_head, else_wants_else, clause_wants_else, has_else, closings, pieces_of, clause_pieces, else_pieces}
use Rattle.basic_tree.specs.SpellingPieces.{Holds, pieces_steps, ArePieces, closing}
use Rattle.grammar_machine.specs.MachineStack.{Values, Stated, Symbol, Go, Await, AwaitClause, Close, Form, ExprOf, IfKey, ClauseIn, LiteralIn, TakeKey, LineNumber, within}
use Rattle.grammar_machine.specs.MachineForms.{else_form, says}
use Rattle.grammar_machine.specs.MachineSentences.{Choice, if_form}
use Rattle.grammar_machine.specs.MachineRun.{run}
use Rattle.grammar_machine.proofs.MachineSteps.{run_close}
use Rattle.grammar_machine.proofs.MachineLeads.{Follows, Parted, words_parts}
use Rattle.grammar_machine.proofs.MachineComplete.{depth_of, whole}
use Rattle.grammar_machine.proofs.MachineForms.{complete}
use Rattle.grammar_machine.proofs.FormSteps.{run_made, run_await, run_expr, key_taken, if_key_opens, if_key_not, literal_taken}
use Rattle.grammar_machine.proofs.LineSteps.{behind_clause_class, run_clause, run_line_clause, run_await_clause}
use Rattle.grammar_machine.proofs.LineLeads.{Finished, finished_widened, closings_words, pieces_words, parts_before, parts_behind, Starts, starts_other}

-- ---- an expression of a form

pub expression_leads : (n : ℕ) (w : Want) (t : Tree) → IsTree t → depth_of t ≤ n → Fits w t → (r : List Word) → Follows 12 r → Parted t r → (g : Tree → Form) (k : List Symbol) (vs : Values) → run n (words (steps_of t) ++ r) (Go (ExprOf w g) ∷ k) vs ≡ run n r (Go (g t) ∷ k) vs
expression_leads n w t i d f r s p g k vs =
    run_expr n w g (words (steps_of t) ++ r) k vs
    ∙ whole n t i (complete t n i d).leads w r (Await g ∷ k) vs f s p
    ∙ run_await n g r k t vs

then_follows : (r : List Word) → Follows 12 (Key keyword.Then ∷ r)
then_follows r = ((((((((((((tt, refl), refl), refl), refl), refl), refl), refl), refl), refl), refl), refl), refl)

goto_follows : (r : List Word) → Follows 12 (Key keyword.Goto ∷ r)
goto_follows r = ((((((((((((tt, refl), refl), refl), refl), refl), refl), refl), refl), refl), refl), refl), refl)

-- ---- clauses

pub record ClauseLeads (c : ClauseTree) : Type 0 where
  pub bound : ℕ
  pub by : (n : ℕ) → bound ≤ n → (r : List Word) (g : ClauseTree → Form) (k : List Symbol) (vs : Values) → Finished (not (clause_wants_else c)) r → run n (words (pieces_steps (clause_pieces c)) ++ r) (Go (ClauseIn g) ∷ k) vs ≡ run (suc n) r (Go (g c) ∷ k) vs

line_clause : (c : ℕ) → within LineNumber c ≡ true → ClauseLeads (LineClause c)
line_clause c h = record { bound = 0; by = λ n le r g k vs x. run_line_clause n c r g k vs h }

no_head : (b : Bool) → not b ≡ true → b ≡ false
no_head true e = absurd cc
no_head false e = refl

statement_clause : (s : StatementTree) → is_head s ≡ false → Starts s → ClauseLeads (StatementClause s)
statement_clause s i b = record {
  bound = b.bound;
  by = λ n le r g k vs x.
      let e : words (pieces_steps (clause_pieces (StatementClause s))) ++ r ≡ words (pieces_steps (pieces_of s)) ++ r =
      pieces_words (pieces_of s) (closings s) r ∙ ap (λ y. words (pieces_steps (pieces_of s)) ++ (y ++ r)) (closings_words s) in
      ap (λ ws. run n ws (Go (ClauseIn g) ∷ k) vs) e
      ∙ ap (λ ws. run n (ws ++ r) (Go (ClauseIn g) ∷ k) vs) b.spelled
      ∙ run_clause n b.word (b.rest ++ r) b.sentence g k vs b.known (b.class ∙ i)
      ∙ ap (λ ws. run n (ws ++ r) (Go b.sentence.form ∷ (behind_clause_class b.sentence.class ++ Close ∷ AwaitClause g ∷ k)) vs) (sym b.spelled)
      ∙ b.by n le r (Close ∷ AwaitClause g ∷ k) vs x
      ∙ run_close n r (AwaitClause g ∷ k) (Stated s ∷ vs)
      ∙ run_await_clause (suc n) r g s k vs;
}

-- ---- an ELSE, or none

-- true: the clause before it takes an ELSE itself
pub record ElseLeads (o : ElseTree) : Type 0 where
  pub bound : ℕ
  pub by : (b : Bool) → (has_else o ≡ true → b ≡ false) → (n : ℕ) → bound ≤ n → (r : List Word) (g : ElseTree → Form) (k : List Symbol) (vs : Values) → Finished (not (else_wants_else o)) r → run n (words (pieces_steps (else_pieces o)) ++ r) (Go (else_form b g) ∷ k) vs ≡ run n r (Go (g o) ∷ k) vs

pub no_else : (n : ℕ) (r : List Word) (f h : Form) (k : List Symbol) (vs : Values) → Finished false r → run n r (Go (IfKey true keyword.Else f h) ∷ k) vs ≡ run n r (Go h ∷ k) vs
unfolding run
no_else n [] f h k vs e = refl
no_else n (Punctuation sign.Colon ∷ r) f h k vs e = refl
no_else n (Key keyword.Else ∷ r) f h k vs e = absurd cc
no_else n (Key x ∷ r) f h k vs e = absurd cc
no_else n (t ∷ r) f h k vs e = absurd cc

nothing_else : ElseLeads NoElse
nothing_else = record { bound = 0; by = go } where
  go : (b : Bool) → (false ≡ true → b ≡ false) → (n : ℕ) → 0 ≤ n → (r : List Word) (g : ElseTree → Form) (k : List Symbol) (vs : Values) → Finished false r → run n r (Go (else_form b g) ∷ k) vs ≡ run n r (Go (g NoElse) ∷ k) vs
  go true h n le r g k vs x = refl
  go false h n le r g k vs x = no_else n r (ClauseIn (λ clause. g (Else clause))) (g NoElse) k vs x

some_else : (c : ClauseTree) → ClauseLeads c → ElseLeads (Else c)
some_else c d = record { bound = suc d.bound; by = go } where
  go : (b : Bool) → (true ≡ true → b ≡ false) → (n : ℕ) → suc d.bound ≤ n → (r : List Word) (g : ElseTree → Form) (k : List Symbol) (vs : Values) → Finished (not (clause_wants_else c)) r → run n (words (pieces_steps (else_pieces (Else c))) ++ r) (Go (else_form b g) ∷ k) vs ≡ run n r (Go (g (Else c)) ∷ k) vs
  go true h n le r g k vs x = absurd (cc (h refl))
  go false h zero le r g k vs x = absurd (omega (arith, le))
  go false h (suc n) le r g k vs x =
      if_key_opens n keyword.Else (ClauseIn (λ clause. g (Else clause))) (g NoElse) (words (pieces_steps (clause_pieces c ++ closing ∷ [])) ++ r) k vs
      ∙ ap (λ ws. run n ws (Go (ClauseIn (λ clause. g (Else clause))) ∷ k) vs) (pieces_words (clause_pieces c) (closing ∷ []) r)
      ∙ d.by n (omega (arith, le)) r (λ clause. g (Else clause)) k vs x

-- what follows the clause before an ELSE
clause_end : (o : ElseTree) (w : Bool) (r : List Word) → not (has_else o && w) ≡ true → Finished (not (else_wants_else o)) r → Finished (not w) (words (pieces_steps (else_pieces o)) ++ r)
clause_end NoElse w r h x = finished_widened (not w) r x
clause_end (Else c) true r h x = absurd cc
clause_end (Else c) false r h x = refl

else_free : (a b : Bool) → not (a && b) ≡ true → a ≡ true → b ≡ false
else_free true true h e = absurd cc
else_free true false h e = refl
else_free false b h e = absurd cc

-- ---- IF

then_words : (t : Tree) (c : ClauseTree) (o : ElseTree) (r : List Word) → words (pieces_steps (pieces_of (IfThen t c o))) ++ r ≡ Key keyword.If ∷ (words (steps_of t) ++ Key keyword.Then ∷ (words (pieces_steps (clause_pieces c)) ++ (words (pieces_steps (else_pieces o)) ++ r)))
then_words t c o r =
    let after = closing ∷ Holds (not (has_else o && clause_wants_else c)) ∷ else_pieces o in
    ap (λ x. Key keyword.If ∷ x)
    (words_parts (steps_of t) (Opens (Key keyword.Then) ∷ pieces_steps (clause_pieces c ++ after)) r
    ∙ ap (λ x. words (steps_of t) ++ Key keyword.Then ∷ x) (pieces_words (clause_pieces c) after r))

-- what is expected after the condition
abbrev behind_condition : Tree → Form
behind_condition condition =
    IfKey true keyword.Then (ClauseIn (λ clause. else_form (clause_wants_else clause) (λ otherwise. says (IfThen condition clause otherwise))))
    (TakeKey false keyword.Goto (LiteralIn LineNumber (λ n. else_form false (λ otherwise. says (IfGoto condition n otherwise)))))

if_then : (t : Tree) (c : ClauseTree) (o : ElseTree) → ArePieces (pieces_of (IfThen t c o)) → not (has_else o && clause_wants_else c) ≡ true → ClauseLeads c → ElseLeads o → Starts (IfThen t c o)
if_then t c o h y d q = record {
  word = Key keyword.If;
  rest = _;
  sentence = record { class = Choice; form = if_form };
  known = refl;
  spelled = refl;
  class = refl;
  bound = suc (max (depth_of t) (max d.bound q.bound));
  by = go;
} where
  go : (n : ℕ) → suc (max (depth_of t) (max d.bound q.bound)) ≤ n → (r : List Word) (k : List Symbol) (vs : Values) → Finished (not (else_wants_else o)) r → run n (words (pieces_steps (pieces_of (IfThen t c o))) ++ r) (Go if_form ∷ k) vs ≡ run n r k (Stated (IfThen t c o) ∷ vs)
  go zero le r k vs x = absurd (omega (arith, le))
  go (suc n) le r k vs x =
      let behind = words (pieces_steps (else_pieces o)) ++ r in
      let clause = words (pieces_steps (clause_pieces c)) ++ behind in
      ap (λ ws. run (suc n) ws (Go if_form ∷ k) vs) (then_words t c o r)
      ∙ key_taken (suc n) keyword.If (ExprOf want.Number behind_condition) (words (steps_of t) ++ Key keyword.Then ∷ clause) k vs
      ∙ expression_leads (suc n) want.Number t h.1.0.0 (omega (arith, le)) h.1.0.1 (Key keyword.Then ∷ clause) (then_follows clause) (λ e. refl) behind_condition k vs
      ∙ if_key_opens n keyword.Then _ _ clause k vs
      ∙ d.by n (omega (arith, le)) behind _ k vs (clause_end o (clause_wants_else c) r y x)
      ∙ q.by (clause_wants_else c) (else_free (has_else o) (clause_wants_else c) y) (suc n) (omega (arith, le)) r (λ otherwise. says (IfThen t c otherwise)) k vs x
      ∙ run_made (suc n) (Stated (IfThen t c o)) r k vs

goto_words : (t : Tree) (l : ℕ) (o : ElseTree) (r : List Word) → words (pieces_steps (pieces_of (IfGoto t l o))) ++ r ≡ Key keyword.If ∷ (words (steps_of t) ++ Key keyword.Goto ∷ Number l ∷ (words (pieces_steps (else_pieces o)) ++ r))
goto_words t l o r = ap (λ x. Key keyword.If ∷ x) (words_parts (steps_of t) (Plain (Key keyword.Goto) ∷ Plain (Number l) ∷ pieces_steps (else_pieces o)) r)

if_goto : (t : Tree) (l : ℕ) (o : ElseTree) → ArePieces (pieces_of (IfGoto t l o)) → ElseLeads o → Starts (IfGoto t l o)
if_goto t l o h q = record {
  word = Key keyword.If;
  rest = _;
  sentence = record { class = Choice; form = if_form };
  known = refl;
  spelled = refl;
  class = refl;
  bound = max (depth_of t) q.bound;
  by = go;
} where
  go : (n : ℕ) → max (depth_of t) q.bound ≤ n → (r : List Word) (k : List Symbol) (vs : Values) → Finished (not (else_wants_else o)) r → run n (words (pieces_steps (pieces_of (IfGoto t l o))) ++ r) (Go if_form ∷ k) vs ≡ run n r k (Stated (IfGoto t l o) ∷ vs)
  go n le r k vs x =
      let behind = words (pieces_steps (else_pieces o)) ++ r in
      ap (λ ws. run n ws (Go if_form ∷ k) vs) (goto_words t l o r)
      ∙ key_taken n keyword.If (ExprOf want.Number behind_condition) (words (steps_of t) ++ Key keyword.Goto ∷ Number l ∷ behind) k vs
      ∙ expression_leads n want.Number t h.1.0.0 (omega (arith, le)) h.1.0.1 (Key keyword.Goto ∷ Number l ∷ behind) (goto_follows (Number l ∷ behind)) (λ e. refl) behind_condition k vs
      ∙ if_key_not n true keyword.Then _ _ (Key keyword.Goto ∷ Number l ∷ behind) k vs refl
      ∙ key_taken n keyword.Goto _ (Number l ∷ behind) k vs
      ∙ literal_taken n LineNumber _ l behind k vs h.1.1.1.0
      ∙ q.by false (λ e. refl) n (omega (arith, le)) r (λ otherwise. says (IfGoto t l otherwise)) k vs x
      ∙ run_made n (Stated (IfGoto t l o)) r k vs

-- ---- every statement and clause

mutual
  pub starts : (s : StatementTree) → ArePieces (pieces_of s) → Starts s
  starts (IfThen t c o) h =
      let behind = closing ∷ Holds (not (has_else o && clause_wants_else c)) ∷ else_pieces o in
      let b = parts_behind (clause_pieces c) behind h.1.1.1 in
      if_then t c o h b.1.0 (clause_leads c (parts_before (clause_pieces c) behind h.1.1.1)) (else_leads o b.1.1)
  starts (IfGoto t l o) h = if_goto t l o h (else_leads o h.1.1.1.1)
  starts s h = starts_other s refl h

  pub clause_leads : (c : ClauseTree) → ArePieces (clause_pieces c) → ClauseLeads c
  clause_leads (LineClause c) h = line_clause c h.0
  clause_leads (StatementClause s) h = statement_clause s (no_head (is_head s) h.0) (starts s (parts_before (pieces_of s) (closings s) h.1))

  pub else_leads : (o : ElseTree) → ArePieces (else_pieces o) → ElseLeads o
  else_leads NoElse h = nothing_else
  else_leads (Else c) h = some_else c (clause_leads c (parts_before (clause_pieces c) (closing ∷ []) h.1))

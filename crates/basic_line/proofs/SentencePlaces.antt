-- Which statement begins at a place, and what the machine does there.
use Rattle.std.proofs.Common.{◌≡◌, ℕ, false, List, [], ◌∷◌, drop, Option, Some, None, MatchOption, Err, refl, ap, sym, ◌∙◌, subst}
use Rattle.basic_expr.specs.ParsedSymbols.{First}
use Rattle.basic_tree.specs.SpellingWords.{Word, Number}
use Rattle.basic_tree.specs.Trees.{ClauseTree}
use Rattle.grammar_machine.specs.MachineStack.{Values, Parsed, Symbol, Go, Form, ClauseIn}
use Rattle.grammar_machine.specs.MachineSentences.{Sentence, sentence_of}
use Rattle.grammar_machine.specs.MachineRun.{Halt, Wrong, run}
use Rattle.grammar_machine.proofs.LineSteps as steps
use Rattle.basic_line.specs.Structure.{Nothing, SentenceAt, class_as, class_in, classes, is_line_number}
use Rattle.basic_line.specs.declared.sentences.Class.{Class}

same_halt : {x y : Halt} → Some x ≡ Some y → x ≡ y
same_halt e = cc

-- ---- nothing begins

nothing_first : (ws : List Word) (from : ℕ) (x : List Word) → drop from ws ≡ x → steps.NoSentence x → Nothing ws from
nothing_first ws from x e h = (
  λ n k ss vs. rw e (steps.run_no_statement n x k (Parsed ss ∷ vs) h),
  λ missing n g halt same k vs. rw e (stops x h (subst (λ (y : List Word). First is_line_number y) e missing) n g k vs) ∙ ap (λ (y : List Word). Err (Wrong y)) (sym e) ∙ ap (λ (y : Halt). Err y) (same_halt same),
) where
  no_number : (t : Word) → is_line_number t ≡ false → steps.is_line_number t ≡ false
  no_number (Number c) h = h
  no_number t h = refl

  stops : (x : List Word) → steps.NoSentence x → First is_line_number x → (n : ℕ) (g : ClauseTree → Form) (k : List Symbol) (vs : Values) → run n x (Go (ClauseIn g) ∷ k) vs ≡ Err (Wrong x)
  stops [] h other n g k vs = steps.run_clause_missing n g k vs
  stops (t ∷ ts) h other n g k vs = steps.run_no_clause n t ts g k vs h (no_number t other)

pub nothing_at_end : (ws : List Word) (from : ℕ) → drop from ws ≡ [] → Nothing ws from
nothing_at_end ws from e = nothing_first ws from [] e tt

pub sentence_there : (ws : List Word) (from : ℕ) (t : Word) (r : List Word) (o : Option Class) → drop from ws ≡ t ∷ r → classes o ≡ class_in (sentence_of t) → MatchOption o (Nothing ws from) (λ c. SentenceAt ws from c)
sentence_there ws from t r None e h = nothing_first ws from (t ∷ r) e (none (sentence_of t) h) where
  none : (b : Option Sentence) → None ≡ class_in b → b ≡ None
  none None h = refl
  none (Some b) h = absurd cc
sentence_there ws from t r (Some c) e h = some (sentence_of t) refl h where
  some : (b : Option Sentence) → sentence_of t ≡ b → Some (class_as c) ≡ class_in b → SentenceAt ws from c
  some None k h = absurd cc
  some (Some b) k h = record { word = t; rest = r; sentence = b; first = e; known = k; class = same h } where
    same : Some (class_as c) ≡ Some b.class → b.class ≡ class_as c
    same h = cc

pub ruleset sentences_at = (nothing_at_end, sentence_there)

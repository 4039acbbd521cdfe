-- Every expression is read by the machine: one case for each production of the grammar.
use Rattle.std.proofs.Common.{◌≡◌, ℕ, zero, suc, ◌≤◌, true, false, List, [], ◌∷◌, ◌++◌, Ok, refl, sym, ap, ◌∙◌, append_assoc, arith}
use Rattle.std.proofs.lemmas.List.{append-nil}
use Rattle.basic_tree.specs.declared.names.Name.{Name}
use Rattle.basic_tree.specs.declared.tokens.Sign.TheVariants as sign
use Rattle.basic_tree.specs.declared.expressions.Function.{Function}
use Rattle.basic_tree.specs.declared.kinds.Want.{Want}
use Rattle.basic_tree.specs.declared.kinds.Want.TheVariants as want
use Rattle.basic_tree.specs.SpellingWords.{Word, Punctuation, Closes, words}
use Rattle.basic_tree.specs.Trees.{Tree, Literal, Quoted, Variable, Element, FunctionOf, Call, Parenthesized, Negative, Positive, Not, Operation, Comparison, Trees, NoTrees, AndTrees}
use Rattle.basic_tree.specs.SpellingExpressions.{steps_of, more_steps, mark, Fits, level_of, AreSubscripts, Fill, IsTree, AreTrees, IsExpr}
use Rattle.basic_tree.specs.GrammarTables.{arguments_of, gives_text}
use Rattle.grammar_machine.specs.MachineStack.{Term, Several, Collect, MakeParenthesized, MakeElement, MakeCall, MakeNegative, MakePositive, MakeNot, Level, Exponent, Expect, Close, Do, MoreArguments, loosest}
use Rattle.grammar_machine.specs.MachineRun.{run}
use Rattle.grammar_machine.proofs.MachineSteps.{run_do, run_close, no_subscripts, no_arguments}
use Rattle.grammar_machine.proofs.MachineLeads.{TreeLeads, at_level, words_parts}
use Rattle.grammar_machine.proofs.MachineComplete.{depth_of, opened, list_depth, whole, closing_follows, AllLead, one_of_list, closing_taken, arguments_lead, subscripts_lead, more_arguments_lead, takes_kind, small, known_function}
use Rattle.grammar_machine.proofs.MachineTrees.{Complete, atom_complete, prefixed_words, operation_leads, comparison_leads}

-- ---- atoms

literal_leads : (n c : ℕ) → c ≤ 32767 → TreeLeads n 0 (Literal c)
unfolding run
literal_leads n c h = record { by = λ w r k vs fits s p. rw (takes_kind w false (Literal c) refl fits, small c h) refl }

quoted_leads : (n : ℕ) (text : List ℕ) → TreeLeads n 0 (Quoted text)
unfolding run
quoted_leads n text = record { by = λ w r k vs fits s p. rw (takes_kind w true (Quoted text) refl fits) refl }

variable_leads : (n : ℕ) (name : Name) → TreeLeads n 0 (Variable name)
unfolding run
variable_leads n name = record { by = λ w r k vs fits s p. rw (takes_kind w name.text (Variable name) refl fits) (no_subscripts n r name k vs (p refl)) }

element_leads : (n : ℕ) (name : Name) (a : Tree) (more : Trees) → IsTree a → AreTrees more → TreeLeads n (level_of a) a → AllLead n more → AreSubscripts (AndTrees a more) → TreeLeads (suc n) 0 (Element name (AndTrees a more))
unfolding run
element_leads n name a more i is x xs h = record { by = λ w r k vs fits s p. rw (takes_kind w name.text (Element name (AndTrees a more)) refl fits) (subscripts_lead a more n i is x xs h (Do (MakeElement name) ∷ k) vs r ∙ run_do (suc n) (MakeElement name) r k (Several (AndTrees a more) ∷ vs)) }

function_leads : (n : ℕ) (f : Function) (ts : Trees) → AreTrees ts → opened ts ≤ n → ((m : ℕ) → list_depth ts ≤ m → AllLead m ts) → Fill (arguments_of f) ts → TreeLeads n 0 (FunctionOf f ts)
unfolding run
function_leads n f ts i d x h = record { by = λ w r k vs fits s p. rw (known_function f, takes_kind w (gives_text f) (FunctionOf f ts) refl fits, append_assoc) (arguments_lead ts n i d x (arguments_of f) h f r k vs) }

bare_call_leads : (n : ℕ) (name : Name) → TreeLeads n 0 (Call name NoTrees)
unfolding run
bare_call_leads n name = record { by = λ w r k vs fits s p. rw (takes_kind w name.text (Call name NoTrees) refl fits) (no_arguments n r name k vs (p refl)) }

call_leads : (n : ℕ) (name : Name) (a : Tree) (more : Trees) → IsTree a → AreTrees more → TreeLeads n (level_of a) a → AllLead n more → TreeLeads (suc n) 0 (Call name (AndTrees a more))
unfolding run
call_leads n name a more i is x xs = record {
  by = λ w r k vs fits s p.
      rw (takes_kind w name.text (Call name (AndTrees a more)) refl fits)
      (one_of_list n a more i x want.Either r (Do Collect ∷ MoreArguments ∷ Expect sign.Closing ∷ Close ∷ Do (MakeCall name) ∷ k) (Several NoTrees ∷ vs) tt
      ∙ run_do n Collect (words (more_steps more) ++ r) (MoreArguments ∷ Expect sign.Closing ∷ Close ∷ Do (MakeCall name) ∷ k) (Term a ∷ Several NoTrees ∷ vs)
      ∙ more_arguments_lead more n is xs (AndTrees a NoTrees) (Do (MakeCall name) ∷ k) vs r
      ∙ run_do (suc n) (MakeCall name) r k (Several (AndTrees a more) ∷ vs));
}

inside_fits : (w : Want) (a : Tree) → Fits w (Parenthesized a) → Fits w a
inside_fits want.Number a f = f
inside_fits want.Text a f = f
inside_fits want.Either a f = f

parenthesized_leads : (n : ℕ) (a : Tree) → IsTree a → Complete n a → TreeLeads (suc n) 0 (Parenthesized a)
unfolding run
parenthesized_leads n a i c = record {
  by = λ w r k vs fits s p.
      ap (λ ws. run n ws (Level loosest w ∷ Expect sign.Closing ∷ Close ∷ Do MakeParenthesized ∷ k) vs) (words_parts (steps_of a) (mark sign.Closing ∷ Closes ∷ []) r)
      ∙ whole n a i c.leads w (Punctuation sign.Closing ∷ r) (Expect sign.Closing ∷ Close ∷ Do MakeParenthesized ∷ k) vs (inside_fits w a fits) (closing_follows r) (λ e. refl)
      ∙ closing_taken n r (Do MakeParenthesized ∷ k) (Term a ∷ vs)
      ∙ run_do (suc n) MakeParenthesized r k (Term a ∷ vs);
}

-- ---- signs and NOT

negative_complete : (n : ℕ) (a : Tree) → IsTree (Negative a) → Complete n a → Complete (suc n) (Negative a)
unfolding run
negative_complete n a i c = record {
  leads = record {
    by = λ w r k vs fits s p.
        rw (takes_kind w false (Negative a) refl fits)
        (prefixed_words a r n (Level 2 want.Number ∷ Close ∷ Do MakeNegative ∷ k) vs
        ∙ (at_level (level_of a) 2 n a i.1 i.0 (omega arith) c.leads).by want.Number r (Close ∷ Do MakeNegative ∷ k) vs i.2 s p
        ∙ run_close n r (Do MakeNegative ∷ k) (Term a ∷ vs)
        ∙ run_do (suc n) MakeNegative r k (Term a ∷ vs));
  };
  exponent = λ x f r k vs p.
      prefixed_words a r n (Exponent ∷ Close ∷ Do MakeNegative ∷ k) vs
      ∙ c.exponent x i.2 r (Close ∷ Do MakeNegative ∷ k) vs p
      ∙ run_close n r (Do MakeNegative ∷ k) (Term a ∷ vs)
      ∙ run_do (suc n) MakeNegative r k (Term a ∷ vs);
}

positive_complete : (n : ℕ) (a : Tree) → IsTree (Positive a) → Complete n a → Complete (suc n) (Positive a)
unfolding run
positive_complete n a i c = record {
  leads = record {
    by = λ w r k vs fits s p.
        rw (takes_kind w false (Positive a) refl fits)
        (prefixed_words a r n (Level 2 want.Number ∷ Close ∷ Do MakePositive ∷ k) vs
        ∙ (at_level (level_of a) 2 n a i.1 i.0 (omega arith) c.leads).by want.Number r (Close ∷ Do MakePositive ∷ k) vs i.2 s p
        ∙ run_close n r (Do MakePositive ∷ k) (Term a ∷ vs)
        ∙ run_do (suc n) MakePositive r k (Term a ∷ vs));
  };
  exponent = λ x f r k vs p.
      prefixed_words a r n (Exponent ∷ Close ∷ Do MakePositive ∷ k) vs
      ∙ c.exponent x i.2 r (Close ∷ Do MakePositive ∷ k) vs p
      ∙ run_close n r (Do MakePositive ∷ k) (Term a ∷ vs)
      ∙ run_do (suc n) MakePositive r k (Term a ∷ vs);
}

not_complete : (n : ℕ) (a : Tree) → IsTree (Not a) → Complete n a → Complete (suc n) (Not a)
unfolding run
not_complete n a i c = record {
  leads = record {
    by = λ w r k vs fits s p.
        rw (takes_kind w false (Not a) refl fits)
        (prefixed_words a r n (Level 6 want.Number ∷ Close ∷ Do MakeNot ∷ k) vs
        ∙ (at_level (level_of a) 6 n a i.1 i.0 (omega arith) c.leads).by want.Number r (Close ∷ Do MakeNot ∷ k) vs i.2 s p
        ∙ run_close n r (Do MakeNot ∷ k) (Term a ∷ vs)
        ∙ run_do (suc n) MakeNot r k (Term a ∷ vs));
  };
  exponent = λ x f r k vs p. absurd cc;
}

-- ---- every form

mutual
  pub complete : (t : Tree) (n : ℕ) → IsTree t → depth_of t ≤ n → Complete n t
  complete (Literal c) n i d = atom_complete n (Literal c) i refl (literal_leads n c i)
  complete (Quoted text) n i d = atom_complete n (Quoted text) i refl (quoted_leads n text)
  complete (Variable name) n i d = atom_complete n (Variable name) i refl (variable_leads n name)
  complete (Element name NoTrees) n i d = absurd i.1
  complete (Element name (AndTrees a more)) zero i d = absurd (omega (arith, d))
  complete (Element name (AndTrees a more)) (suc n) i d = atom_complete (suc n) (Element name (AndTrees a more)) i refl (element_leads n name a more i.0.0 i.0.1 (complete a n i.0.0 (omega (arith, d))).leads (all_lead more n i.0.1 (omega (arith, d))) i.1)
  complete (FunctionOf f ts) n i d = atom_complete n (FunctionOf f ts) i refl (function_leads n f ts i.0 d (λ m e. all_lead ts m i.0 e) i.1)
  complete (Call name NoTrees) n i d = atom_complete n (Call name NoTrees) i refl (bare_call_leads n name)
  complete (Call name (AndTrees a more)) zero i d = absurd (omega (arith, d))
  complete (Call name (AndTrees a more)) (suc n) i d = atom_complete (suc n) (Call name (AndTrees a more)) i refl (call_leads n name a more i.0 i.1 (complete a n i.0 (omega (arith, d))).leads (all_lead more n i.1 (omega (arith, d))))
  complete (Parenthesized a) zero i d = absurd (omega (arith, d))
  complete (Parenthesized a) (suc n) i d = atom_complete (suc n) (Parenthesized a) i refl (parenthesized_leads n a i (complete a n i (omega (arith, d))))
  complete (Negative a) zero i d = absurd (omega (arith, d))
  complete (Negative a) (suc n) i d = negative_complete n a i (complete a n i.0 (omega (arith, d)))
  complete (Positive a) zero i d = absurd (omega (arith, d))
  complete (Positive a) (suc n) i d = positive_complete n a i (complete a n i.0 (omega (arith, d)))
  complete (Not a) zero i d = absurd (omega (arith, d))
  complete (Not a) (suc n) i d = not_complete n a i (complete a n i.0 (omega (arith, d)))
  complete (Operation a o b) n i d = record { leads = operation_leads n o a b i (complete a n i.0 (omega (arith, d))) (complete b n i.1 (omega (arith, d))); exponent = λ x f r k vs p. absurd cc }
  complete (Comparison a q b) n i d = record { leads = comparison_leads n q a b i (complete a n i.0 (omega (arith, d))) (complete b n i.1 (omega (arith, d))); exponent = λ x f r k vs p. absurd cc }

  pub all_lead : (ts : Trees) (n : ℕ) → AreTrees ts → list_depth ts ≤ n → AllLead n ts
  all_lead NoTrees n i d = tt
  all_lead (AndTrees a more) n i d = ((complete a n i.0 (omega (arith, d))).leads, all_lead more n i.1 (omega (arith, d)))

-- what an expression spells is taken whole, and gives its tree
pub taken_whole : (n : ℕ) (w : Want) (ws : List Word) (t : Tree) → IsExpr w ws t → depth_of t ≤ n → run n ws (Level loosest w ∷ []) [] ≡ Ok (Term t ∷ [], [])
unfolding run
taken_whole n w ws t h d =
    let e : ws ≡ words (steps_of t) ++ [] = h.spelling ∙ sym (append-nil (words (steps_of t))) in
    rw e (whole n t h.tree (complete t n h.tree d).leads w [] [] [] h.kind ((((((((((((tt, tt), tt), tt), tt), tt), tt), tt), tt), tt), tt), tt), tt) (λ x. tt))

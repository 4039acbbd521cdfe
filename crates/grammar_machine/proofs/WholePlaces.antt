-- Where the machine stops, for each stack that spells exactly the wholes of one kind and takes each
-- of them.
use Rattle.std.proofs.Common.{subst, ◌≡◌, ℕ, suc, ◌+◌, ◌<◌, ◌≤◌, List, ◌∷◌, ◌++◌, length, take, drop, get_or, Some, Err, refl, sym, ap, ◌∙◌, append_assoc, arith}
use Rattle.std.proofs.lemmas.List.{take-append-drop, take_more, length-take-le}
use Rattle.basic_tree.specs.SpellingWords.{Word, Number, LevelStep, Opens, words, most_levels}
use Rattle.basic_tree.specs.GrammarPlaces.{Whole, Begins, IsFlatTo, BeginsFlat, IsLimit, IsDeep}
use Rattle.grammar_machine.specs.MachineStack.{Values, Symbol}
use Rattle.grammar_machine.specs.MachineRun.{TooDeep, MachineOutcome, run}
use Rattle.grammar_machine.proofs.MachineSpelled.{Spelled}
use Rattle.grammar_machine.proofs.MachineLeads.{words_append}
use Rattle.grammar_machine.proofs.MachinePasses.{left}
use Rattle.grammar_machine.proofs.MachineStops.{Nests, passed, deepest, TakesWhole, none_goes_on}
use Rattle.grammar_machine.proofs.BetweenLemmas.{behind_place}

-- a whole, with any steps
abbrev pub AnyWhole : Whole → List Word → Type 0
AnyWhole whole ws = (g : List LevelStep) × whole ws g

-- what is expected spells only wholes, and the machine takes each whole if enough nesting levels
-- are left
pub record ReadsWhole (whole : Whole) (s : List Symbol) (vs : Values) : Type 0 where
  pub spells : (x : List LevelStep) (u : Values) → Spelled s vs x u → whole (words x) x
  pub takes : TakesWhole (AnyWhole whole) s vs
  pub nests : Nests s vs

module _ (whole : Whole) (s : List Symbol) (vs : Values) (reads : ReadsWhole whole s vs) where
  pub at_place : (ws : List Word) (k n : ℕ) (o : MachineOutcome) → run n ws s vs ≡ o → run n (take k ws ++ drop k ws) s vs ≡ o
  at_place ws k n o h = ap (λ (x : List Word). run n x s vs) (take-append-drop k ws) ∙ h

  -- none of the words that were passed is nested too deep
  pub flat_there : (ws : List Word) (k : ℕ) (o : MachineOutcome) → k ≤ length ws → run most_levels ws s vs ≡ o → left o ≡ drop k ws → BeginsFlat whole ws k
  flat_there ws k o inside h e =
      let f = passed (take k ws) (drop k ws) s vs reads.nests (ap left (at_place ws k most_levels o h) ∙ e) in
      let split : words (f.steps ++ f.rest) ≡ take k ws ++ words f.rest = words_append f.steps f.rest ∙ ap (λ x. x ++ words f.rest) f.spelled in (
        words f.rest,
        f.steps ++ f.rest,
        subst (λ (x : List Word). whole x (f.steps ++ f.rest)) split (reads.spells (f.steps ++ f.rest) f.made f.spells),
        subst (λ (n : ℕ). IsFlatTo n (f.steps ++ f.rest)) (length-take-le k ws inside) f.flat,
      )

  more_words : (ws : List Word) (k : ℕ) (q : List Word) → k < length ws → take (k + 1) ws ++ q ≡ take k ws ++ get_or ws k (Number 0) ∷ q
  more_words ws k q lt = rw (take_more ws k (Number 0) lt, append_assoc) refl

  goes_no_further : (ws : List Word) (k : ℕ) (o : MachineOutcome) → k < length ws → run most_levels ws s vs ≡ o → left o ≡ drop k ws → (o ≡ Err (TooDeep (drop k ws)) → ⊥) → Begins whole (take (k + 1) ws) → ⊥
  goes_no_further ws k o lt h e not_deep b =
      let c = get_or ws k (Number 0) in
      let r = drop (suc k) ws in
      let next : drop k ws ≡ c ∷ r = behind_place ws k lt in
      let there : run most_levels (take k ws ++ c ∷ r) s vs ≡ o = ap (λ (x : List Word). run most_levels (take k ws ++ x) s vs) (sym next) ∙ at_place ws k most_levels o h in
      none_goes_on (AnyWhole whole) s vs reads.takes (take k ws) c r (ap left there ∙ e ∙ next) (λ d. not_deep (sym there ∙ d ∙ ap (λ (x : List Word). Err (TooDeep x)) (sym next))) b.0 (b.1, subst (λ (x : List Word). whole x b.1) (more_words ws k b.0 lt) b.2)

  -- the place where it stops is the limit, unless a word is too deep
  pub limit_there : (ws : List Word) (k : ℕ) (o : MachineOutcome) → k ≤ length ws → run most_levels ws s vs ≡ o → left o ≡ drop k ws → (o ≡ Err (TooDeep (drop k ws)) → ⊥) → IsLimit whole ws k
  limit_there ws k o inside h e not_deep =
      let f = flat_there ws k o inside h e in
      record { within = inside; begins = (f.0, f.1, f.2); no_more = λ lt b. goes_no_further ws k o lt h e not_deep b }

  pub deep_there : (ws : List Word) (k : ℕ) → k < length ws → run most_levels ws s vs ≡ Err (TooDeep (drop k ws)) → IsDeep whole ws k
  deep_there ws k lt h =
      let c = get_or ws k (Number 0) in
      let r = drop (suc k) ws in
      let next : drop k ws ≡ c ∷ r = behind_place ws k lt in
      let here : run most_levels (take k ws ++ c ∷ r) s vs ≡ Err (TooDeep (c ∷ r)) = subst (λ (x : List Word). run most_levels (take k ws ++ x) s vs ≡ Err (TooDeep x)) next (at_place ws k most_levels (Err (TooDeep (drop k ws))) h) in
      let f = deepest (take k ws) c r s vs reads.nests here in
      let steps : List LevelStep = f.steps ++ Opens c ∷ f.rest in
      let split : words steps ≡ take (k + 1) ws ++ words f.rest = words_append f.steps (Opens c ∷ f.rest) ∙ ap (λ x. x ++ c ∷ words f.rest) f.spelled ∙ sym (more_words ws k (words f.rest) lt) in
      record {
        within = lt;
        opens = (words f.rest, steps, subst (λ (x : List Word). whole x steps) split (reads.spells steps f.made f.spells), f.deep ∙ ap (λ (n : ℕ). Some n) (length-take-le k ws (omega (arith, lt))));
      }

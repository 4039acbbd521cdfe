-- Where the machine stops at a line, for each stack that spells exactly lines and takes each of
-- them.
use Rattle.std.proofs.Common.{subst, ◌≡◌, ℕ, ◌+◌, ◌<◌, ◌≤◌, List, [], length, take, drop, None, Ok, Err, refl, sym, ap, ◌∙◌, arith}
use Rattle.std.proofs.lemmas.List.{append-nil, take-append-drop, drop_all}
use Rattle.basic_tree.specs.declared.tokens.Cause.TheVariants as cause
use Rattle.basic_tree.specs.SpellingWords.{Word, LevelStep, words, most_levels, too_deep}
use Rattle.basic_tree.specs.Trees.{LineTree}
use Rattle.basic_tree.specs.SpellingStatements.{line_steps, IsLine}
use Rattle.basic_tree.specs.GrammarPlaces.{LineWhole, IsLimit, IsReadLine, RefusesLine, OneLine}
use Rattle.grammar_machine.specs.MachineStack.{Values, Symbol}
use Rattle.grammar_machine.specs.MachineRun.{Wrong, TooDeep, run}
use Rattle.grammar_machine.proofs.MachineSpelled.{Spelled}
use Rattle.grammar_machine.proofs.MachineLevels.{Above}
use Rattle.grammar_machine.proofs.MachinePlaces.{values}
use Rattle.grammar_machine.proofs.MachineStops.{Nests, finished, finished_flat, TakesWhole, none_at_end}
use Rattle.grammar_machine.proofs.WholePlaces.{AnyWhole, ReadsWhole, at_place, flat_there, limit_there, deep_there}

-- what is expected spells only lines, and the machine takes each line if enough nesting levels are
-- left
pub record ReadsLines (s : List Symbol) (vs : Values) (made : LineTree → Values) : Type 0 where
  pub spells : (x : List LevelStep) (u : Values) → Spelled s vs x u → (l : LineTree) × (x ≡ line_steps l) × IsLine (words x) l × (made l ≡ u)
  pub takes : (ws : List Word) (l : LineTree) → IsLine ws l → (d : ℕ) × ((n : ℕ) → d ≤ n → run n ws s vs ≡ Ok (made l, []))
  pub nests : (ws : List Word) (l : LineTree) → IsLine ws l → Above 0 (line_steps l)
  pub apart : (l m : LineTree) → made l ≡ made m → l ≡ m

module _ (s : List Symbol) (vs : Values) (made : LineTree → Values) (reads : ReadsLines s vs made) where
  lines_taken : TakesWhole (AnyWhole LineWhole) s vs
  lines_taken ws x =
      let t = reads.takes ws x.1.0 x.1.1 in
      (t.0, made x.1.0, t.1 (most_levels + t.0) (omega arith))

  lines_nest : Nests s vs
  lines_nest x u h = let i = reads.spells x u h in subst (λ (y : List LevelStep). Above 0 y) (sym i.1) (reads.nests (words x) i.0 i.2)

  reads_whole : ReadsWhole LineWhole s vs
  reads_whole = record {
    spells = λ x u h. let i = reads.spells x u h in (i.0, i.2, i.1);
    takes = lines_taken;
    nests = lines_nest;
  }

  -- no words are two lines
  pub lines_are_one : OneLine
  lines_are_one ws l m a b =
      let x = reads.takes ws l a in
      let y = reads.takes ws m b in
      reads.apart l m (ap values (sym (x.1 (x.0 + y.0) (omega arith)) ∙ y.1 (x.0 + y.0) (omega arith)))

  -- ---- a line

  -- the words that were passed are those of the line, however many nesting levels are left
  pub last_taken_line : (ws : List Word) (n k : ℕ) (l : LineTree) → run n ws s vs ≡ Ok (made l, drop k ws) → take k ws ≡ words (line_steps l)
  last_taken_line ws n k l h =
      let f = finished (take k ws) (drop k ws) n s vs (made l) (at_place LineWhole s vs reads_whole ws k n (Ok (made l, drop k ws)) h) in
      let i = reads.spells f.steps (made l) f.spells in
      let same : i.0 ≡ l = reads.apart i.0 l i.3 in
      sym f.spelled ∙ ap (λ x. words x) i.1 ∙ ap (λ x. words (line_steps x)) same

  pub line_read : (ws : List Word) (l : LineTree) → run most_levels ws s vs ≡ Ok (made l, []) → IsReadLine ws l
  line_read ws l h =
      let f = finished_flat ws [] s vs (made l) lines_nest (ap (λ (x : List Word). run most_levels x s vs) (append-nil ws) ∙ h) in
      let i = reads.spells f.0.steps (made l) f.0.spells in
      let same : i.0 ≡ l = reads.apart i.0 l i.3 in
      record {
        line = subst (λ (x : LineTree). IsLine ws x) same (subst (λ (x : List Word). IsLine x i.0) f.0.spelled i.2);
        flat = subst (λ (x : LineTree). too_deep (line_steps x) ≡ None) same (subst (λ (x : List LevelStep). too_deep x ≡ None) i.1 f.1);
      }

  -- ---- a word that is rejected

  -- no line continues with it, so the words are none
  none_beyond : (ws : List Word) (k : ℕ) → IsLimit LineWhole ws k → k < length ws → (g : List LevelStep) → LineWhole ws g → ⊥
  none_beyond ws k a lt g x = a.no_more lt (drop (k + 1) ws, g, subst (λ (y : List Word). LineWhole y g) (sym (take-append-drop (k + 1) ws)) x)

  pub line_wrong : (ws : List Word) (k : ℕ) → k ≤ length ws → run most_levels ws s vs ≡ Err (Wrong (drop k ws)) → RefusesLine ws k cause.Syntax
  line_wrong ws k inside h =
      let limit = limit_there LineWhole s vs reads_whole ws k (Err (Wrong (drop k ws))) inside h refl (λ e. cc) in
      record {
        limit = limit;
        flat = flat_there LineWhole s vs reads_whole ws k (Err (Wrong (drop k ws))) inside h refl;
        none = λ g x. neither inside (λ lt. none_beyond ws k limit lt g x) (λ at_end.
            let nothing : drop k ws ≡ [] = drop_all k ws (omega (arith, at_end)) in
            none_at_end (AnyWhole LineWhole) s vs lines_taken ws (h ∙ ap (λ (x : List Word). Err (Wrong x)) nothing) (g, x));
      } where
        neither : {n : ℕ} → k ≤ n → (k < n → ⊥) → (k ≡ n → ⊥) → ⊥
        neither x y z = omega (arith, x, y, z)

  -- a line that ends before a word
  pub line_stops : (ws : List Word) (k : ℕ) (u : Values) → k < length ws → run most_levels ws s vs ≡ Ok (u, drop k ws) → RefusesLine ws k cause.Syntax
  line_stops ws k u lt h =
      let limit = limit_there LineWhole s vs reads_whole ws k (Ok (u, drop k ws)) (omega (arith, lt)) h refl (λ e. cc) in
      record {
        limit = limit;
        flat = flat_there LineWhole s vs reads_whole ws k (Ok (u, drop k ws)) (omega (arith, lt)) h refl;
        none = none_beyond ws k limit lt;
      }

  -- ---- a word that is nested too deep

  pub line_deep : (ws : List Word) (k : ℕ) → k < length ws → run most_levels ws s vs ≡ Err (TooDeep (drop k ws)) → RefusesLine ws k cause.TooDeep
  line_deep ws k lt h = deep_there LineWhole s vs reads_whole ws k lt h

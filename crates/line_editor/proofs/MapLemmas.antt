-- Lines and their trees under one more number, and without some.
use Rattle.std.proofs.Common.{◌≡◌, ℕ, List, [], ◌∷◌, Bool, true, false, cond, Some, None, refl, sym, ap, ◌∙◌, subst}
use Rattle.std.specs.Prelude.{filter}
use Rattle.std.specs.BTreeMap.{insert_entry, is_at}
use Rattle.std.proofs.lemmas.Cmp.{ranked}
use Rattle.std.specs.Cmp.{nat_cmp_total, tied_itself}
use Rattle.std.specs.List.{AllByRecursion}
use Rattle.std.specs.Map.{lookup, remove_entry}
use Rattle.std.specs.Ordering.{is_eq, nat_cmp}
use Rattle.std.specs.declared.cmp.Ordering.{Ordering}
use Rattle.std.specs.declared.cmp.Ordering.TheVariants.{Less, Equal, Greater}
use Rattle.basic_tree.specs.declared.programs.Line.{Line}
use Rattle.basic_tree.specs.ProgramLines.{Lines}
use Rattle.line_editor.specs.Lines.{IsProgramLine, IsTreeOf, AreTrees}

-- ONE MORE

module _ (R : ℕ → ℕ → Ordering) (number : ℕ) (rest : List ℕ) where
  trees_inserted_by : (tree : Line) (l : ℕ × List ℕ) (ls : Lines) (t : ℕ × Line) (ts : List (ℕ × Line)) (o : Ordering) → R number l.0 ≡ o → IsTreeOf rest tree → AreTrees (l ∷ ls) (t ∷ ts)
      → AreTrees (insert_entry R ls number rest) (insert_entry R ts number tree)
      → AreTrees (insert_entry R (l ∷ ls) number rest) (insert_entry R (t ∷ ts) number tree)
  trees_inserted_by tree l ls t ts Less is new old more = let is' : R number t.0 ≡ Less = ap (R number) old.0 ∙ is in rw (is, is') (refl, new, old)
  trees_inserted_by tree l ls t ts Equal is new old more = let is' : R number t.0 ≡ Equal = ap (R number) old.0 ∙ is in rw (is, is') (old.0, new, old.2)
  trees_inserted_by tree l ls t ts Greater is new old more = let is' : R number t.0 ≡ Greater = ap (R number) old.0 ∙ is in rw (is, is') (old.0, old.1, more)

  trees_inserted_of : (tree : Line) (ls : Lines) (ts : List (ℕ × Line)) → IsTreeOf rest tree → AreTrees ls ts → AreTrees (insert_entry R ls number rest) (insert_entry R ts number tree)
  trees_inserted_of tree [] [] new old = (refl, new, tt)
  trees_inserted_of tree (l ∷ ls) (t ∷ ts) new old = trees_inserted_by tree l ls t ts (R number l.0) refl new old (trees_inserted_of tree ls ts new old.2)
  trees_inserted_of tree [] (t ∷ ts) new old = absurd old
  trees_inserted_of tree (l ∷ ls) [] new old = absurd old

  each_inserted_by : (P : ℕ × List ℕ → Type 0) (l : ℕ × List ℕ) (ls : Lines) (o : Ordering) → R number l.0 ≡ o → (R number l.0 ≡ Equal → number ≡ l.0) → P (number, rest) → AllByRecursion P (l ∷ ls)
      → AllByRecursion P (insert_entry R ls number rest) → AllByRecursion P (insert_entry R (l ∷ ls) number rest)
  each_inserted_by P l ls Less is same new old more = rw is (new, old)
  each_inserted_by P l ls Equal is same new old more = rw is (subst (λ (k : ℕ). P (k, rest)) (same is) new, old.1)
  each_inserted_by P l ls Greater is same new old more = rw is (old.0, more)

  each_inserted_of : (P : ℕ × List ℕ → Type 0) (ls : Lines) → ((k : ℕ) → R number k ≡ Equal → number ≡ k) → P (number, rest) → AllByRecursion P ls → AllByRecursion P (insert_entry R ls number rest)
  each_inserted_of P [] same new old = (new, tt)
  each_inserted_of P (l ∷ ls) same new old = each_inserted_by P l ls (R number l.0) refl (same l.0) new old (each_inserted_of P ls same new old.1)

  -- a line that was not there is removed again
  remove_inserted_by : (l : ℕ × List ℕ) (ls : Lines) (o : Ordering) → R number l.0 ≡ o → R number number ≡ Equal → lookup (is_at (R number)) (l ∷ ls) ≡ None
      → (lookup (is_at (R number)) ls ≡ None → remove_entry (is_at (R number)) (insert_entry R ls number rest) ≡ ls)
      → remove_entry (is_at (R number)) (insert_entry R (l ∷ ls) number rest) ≡ l ∷ ls
  remove_inserted_by l ls Less is itself absent more = rw (is, itself) refl
  remove_inserted_by l ls Equal is itself absent more =
      let here : cond (is_eq (R number l.0)) (Some l.1) (lookup (is_at (R number)) ls) ≡ None = absent in
      let there : Some l.1 ≡ None = rw is at here in
      absurd (cc)
  remove_inserted_by l ls Greater is itself absent more =
      let here : cond (is_eq (R number l.0)) (Some l.1) (lookup (is_at (R number)) ls) ≡ None = absent in
      let later : lookup (is_at (R number)) ls ≡ None = rw is at here in
      rw (is, is) (ap (λ (lines : Lines). l ∷ lines) (more later))

  remove_inserted_of : (ls : Lines) → R number number ≡ Equal → lookup (is_at (R number)) ls ≡ None → remove_entry (is_at (R number)) (insert_entry R ls number rest) ≡ ls
  remove_inserted_of [] itself absent = rw itself refl
  remove_inserted_of (l ∷ ls) itself absent = remove_inserted_by l ls (R number l.0) refl itself absent (remove_inserted_of ls itself)

pub trees_inserted : (number : ℕ) (rest : List ℕ) (tree : Line) (ls : Lines) (ts : List (ℕ × Line)) → IsTreeOf rest tree → AreTrees ls ts → AreTrees (insert_entry nat_cmp ls number rest) (insert_entry nat_cmp ts number tree)
trees_inserted number rest tree ls ts new old = trees_inserted_of nat_cmp number rest tree ls ts new old

pub each_inserted : (number : ℕ) (rest : List ℕ) (ls : Lines) → IsProgramLine (number, rest) → AllByRecursion IsProgramLine ls → AllByRecursion IsProgramLine (insert_entry nat_cmp ls number rest)
each_inserted number rest ls new old = each_inserted_of nat_cmp number rest IsProgramLine ls (λ k is. ranked number k Equal (sym is)) new old

pub remove_inserted : (number : ℕ) (rest : List ℕ) (ls : Lines) → lookup (is_at (nat_cmp number)) ls ≡ None → remove_entry (is_at (nat_cmp number)) (insert_entry nat_cmp ls number rest) ≡ ls
remove_inserted number rest ls absent = remove_inserted_of nat_cmp number rest ls (tied_itself nat_cmp_total number) absent

-- FEWER

module _ (test : ℕ → Bool) where
  trees_removed_by : (l : ℕ × List ℕ) (ls : Lines) (t : ℕ × Line) (ts : List (ℕ × Line)) (b : Bool) → test l.0 ≡ b → AreTrees (l ∷ ls) (t ∷ ts) → AreTrees (remove_entry test ls) (remove_entry test ts) → AreTrees (remove_entry test (l ∷ ls)) (remove_entry test (t ∷ ts))
  trees_removed_by l ls t ts true is old less = let is' : test t.0 ≡ true = ap test old.0 ∙ is in rw (is, is') old.2
  trees_removed_by l ls t ts false is old less = let is' : test t.0 ≡ false = ap test old.0 ∙ is in rw (is, is') (old.0, old.1, less)

  pub trees_removed : (ls : Lines) (ts : List (ℕ × Line)) → AreTrees ls ts → AreTrees (remove_entry test ls) (remove_entry test ts)
  trees_removed [] [] old = tt
  trees_removed (l ∷ ls) (t ∷ ts) old = trees_removed_by l ls t ts (test l.0) refl old (trees_removed ls ts old.2)
  trees_removed [] (t ∷ ts) old = absurd old
  trees_removed (l ∷ ls) [] old = absurd old

  each_removed_by : (P : ℕ × List ℕ → Type 0) (l : ℕ × List ℕ) (ls : Lines) (b : Bool) → test l.0 ≡ b → AllByRecursion P (l ∷ ls) → AllByRecursion P (remove_entry test ls) → AllByRecursion P (remove_entry test (l ∷ ls))
  each_removed_by P l ls true is old less = rw is old.1
  each_removed_by P l ls false is old less = rw is (old.0, less)

  pub each_removed : (P : ℕ × List ℕ → Type 0) (ls : Lines) → AllByRecursion P ls → AllByRecursion P (remove_entry test ls)
  each_removed P [] old = old
  each_removed P (l ∷ ls) old = each_removed_by P l ls (test l.0) refl old (each_removed P ls old.1)

  trees_filtered_by : (l : ℕ × List ℕ) (ls : Lines) (t : ℕ × Line) (ts : List (ℕ × Line)) (b : Bool) → test l.0 ≡ b → AreTrees (l ∷ ls) (t ∷ ts) → AreTrees (filter (λ e. test e.0) ls) (filter (λ e. test e.0) ts) → AreTrees (filter (λ e. test e.0) (l ∷ ls)) (filter (λ e. test e.0) (t ∷ ts))
  trees_filtered_by l ls t ts true is old less = let is' : test t.0 ≡ true = ap test old.0 ∙ is in rw (is, is') (old.0, old.1, less)
  trees_filtered_by l ls t ts false is old less = let is' : test t.0 ≡ false = ap test old.0 ∙ is in rw (is, is') less

  pub trees_filtered : (ls : Lines) (ts : List (ℕ × Line)) → AreTrees ls ts → AreTrees (filter (λ e. test e.0) ls) (filter (λ e. test e.0) ts)
  trees_filtered [] [] old = tt
  trees_filtered (l ∷ ls) (t ∷ ts) old = trees_filtered_by l ls t ts (test l.0) refl old (trees_filtered ls ts old.2)
  trees_filtered [] (t ∷ ts) old = absurd old
  trees_filtered (l ∷ ls) [] old = absurd old

  absent_by : (l : ℕ × List ℕ) (ls : Lines) (t : ℕ × Line) (ts : List (ℕ × Line)) (b : Bool) → test l.0 ≡ b → t.0 ≡ l.0 → lookup test (t ∷ ts) ≡ None → (lookup test ts ≡ None → lookup test ls ≡ None) → lookup test (l ∷ ls) ≡ None
  absent_by l ls t ts true is same absent more =
      let is' : test t.0 ≡ true = ap test same ∙ is in
      let here : cond (test t.0) (Some t.1) (lookup test ts) ≡ None = absent in
      let there : Some t.1 ≡ None = rw is' at here in
      absurd (cc)
  absent_by l ls t ts false is same absent more =
      let is' : test t.0 ≡ false = ap test same ∙ is in
      let here : cond (test t.0) (Some t.1) (lookup test ts) ≡ None = absent in
      let later : lookup test ts ≡ None = rw is' at here in
      rw is (more later)

  -- a number that has no tree has no line
  pub absent : (ls : Lines) (ts : List (ℕ × Line)) → AreTrees ls ts → lookup test ts ≡ None → lookup test ls ≡ None
  absent [] [] old none = refl
  absent (l ∷ ls) (t ∷ ts) old none = absent_by l ls t ts (test l.0) refl old.0 none (absent ls ts old.2)
  absent [] (t ∷ ts) old none = absurd old
  absent (l ∷ ls) [] old none = absurd old

each_filtered_by : (P : ℕ × List ℕ → Type 0) (p : ℕ × List ℕ → Bool) (l : ℕ × List ℕ) (ls : Lines) (b : Bool) → p l ≡ b → AllByRecursion P (l ∷ ls) → AllByRecursion P (filter p ls) → AllByRecursion P (filter p (l ∷ ls))
each_filtered_by P p l ls true is old less = rw is (old.0, less)
each_filtered_by P p l ls false is old less = rw is less

pub each_filtered : (P : ℕ × List ℕ → Type 0) (p : ℕ × List ℕ → Bool) (ls : Lines) → AllByRecursion P ls → AllByRecursion P (filter p ls)
each_filtered P p [] old = old
each_filtered P p (l ∷ ls) old = each_filtered_by P p l ls (p l) refl old (each_filtered P p ls old.1)

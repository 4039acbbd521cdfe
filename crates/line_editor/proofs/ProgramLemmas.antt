-- The text of a program is still one after a line is stored, and after lines are deleted.
use Rattle.std.proofs.Common.{◌≡◌, ℕ, suc, ◌+◌, ◌≤◌, inl, inr, List, [], ◌∷◌, length, Option, Some, None, refl, sym, ap, subst, ◌∙◌, arith}
use Rattle.std.specs.Prelude.{filter, not, IsSome, if◌then◌else◌, is_some}
use Rattle.std.specs.BTreeMap.{BTreeMap, insert_entry, is_at}
use Rattle.std.specs.List.{AllByRecursion}
use Rattle.std.specs.Map.{lookup, remove_entry}
use Rattle.std.specs.Ordering.{nat_cmp}
use Rattle.std.proofs.lemmas.Bool.{false≢true}
use Rattle.std.proofs.lemmas.List.Sums.{length-filter, count_by-le-length}
use Rattle.basic_tree.specs.declared.programs.Line.{Line}
use Rattle.basic_values.specs.declared.limits.TheConstants.{MOST_LINES}
use Rattle.basic_tree.specs.ProgramLines.{Lines, line, stored, removed, is_within, without}
use Rattle.line_editor.specs.Lines.{IsProgramLine, IsProgram, IsTreeOf, AreTrees}
use Rattle.line_editor.specs.Edits.{HasRoom}
use Rattle.line_editor.specs.Marks.{IsOrderly}
use Rattle.line_editor.specs.Seen.{AreWhole}
use Rattle.line_editor.proofs.MapLemmas.{trees_inserted, each_inserted, remove_inserted, trees_removed, trees_filtered, each_filtered, absent}
use Rattle.line_editor.proofs.PlaceLemmas.{without_one, orderly_without}

-- there are as many trees as lines
as_many : (ls : Lines) (ts : List (ℕ × Line)) → AreTrees ls ts → length ls ≡ length ts
as_many [] [] beside = refl
as_many (l ∷ ls) (t ∷ ts) beside = ap suc (as_many ls ts beside.2)
as_many [] (t ∷ ts) beside = absurd beside
as_many (l ∷ ls) [] beside = absurd beside

-- space for a line that has no tree, or has one
room_kept : (number : ℕ) (lines : Lines) (trees : List (ℕ × Line)) (o : Option Line) (new : ℕ) → AreTrees lines trees → o ≡ lookup (is_at (nat_cmp number)) trees → HasRoom number lines → length lines ≤ MOST_LINES → new ≡ length lines + (if is_some o then 0 else 1) → new ≤ MOST_LINES
room_kept number lines trees (Some tree) new beside same room most is = omega arith
room_kept number lines trees None new beside same (inl there) most is =
    let none : line number lines ≡ None = absent (is_at (nat_cmp number)) lines trees beside (sym same) in
    absurd (false≢true (subst (λ (o : Option (List ℕ)). IsSome o) none there))
room_kept number lines trees None new beside same (inr few) most is = omega arith

-- one more line
pub whole_stored : (lines lines' : Lines) (trees trees' : BTreeMap ℕ Line) (number : ℕ) (rest : List ℕ) (tree : Line) (o : Option Line)
    → AreWhole lines trees → IsProgramLine (number, rest) → IsTreeOf rest tree → HasRoom number lines → lines' ≡ stored number rest lines → IsOrderly lines'
    → trees'.entries ≡ insert_entry nat_cmp trees.entries number tree → o ≡ lookup (is_at (nat_cmp number)) trees.entries → length trees'.entries ≡ length trees.entries + (if is_some o then 0 else 1) → AreWhole lines' trees'
whole_stored lines lines' trees trees' number rest tree o whole new of room made orderly made' old count =
    let beside : AreTrees lines' trees'.entries = subst (λ (ls : Lines). AreTrees ls trees'.entries) (sym made) (subst (λ (ts : List (ℕ × Line)). AreTrees (stored number rest lines) ts) (sym made') (trees_inserted number rest tree lines trees.entries of whole.beside)) in
    let counted : length lines' ≡ length lines + (if is_some o then 0 else 1) = as_many lines' trees'.entries beside ∙ count ∙ ap (λ (k : ℕ). k + (if is_some o then 0 else 1)) (sym (as_many lines trees.entries whole.beside)) in
    record {
      program = record {
        ordered = orderly;
        each = subst (λ (ls : Lines). AllByRecursion IsProgramLine ls) (sym made) (each_inserted number rest lines new whole.program.each);
        few = room_kept number lines trees.entries o (length lines') whole.beside old room whole.program.few counted;
      };
      beside = beside;
    }

program_without : (lines lines' : Lines) (from to : ℕ) → IsProgram lines → lines' ≡ without from to lines → IsProgram lines'
program_without lines lines' from to program made = record {
  ordered = subst (λ (ls : Lines). IsOrderly ls) (sym made) (orderly_without from to lines program.ordered);
  each = subst (λ (ls : Lines). AllByRecursion IsProgramLine ls) (sym made) (each_filtered IsProgramLine (λ line. not (is_within from to line.0)) lines program.each);
  few =
      let p = λ (line : ℕ × List ℕ). not (is_within from to line.0) in
      let most = program.few in
      let h : length lines' ≤ MOST_LINES = omega (arith, ap length made, length-filter p lines, count_by-le-length p lines) in
      h;
}

-- one line less
pub whole_removed : (lines : Lines) (trees : BTreeMap ℕ Line) (lines' : Lines) (trees' : BTreeMap ℕ Line) (number : ℕ)
    → AreWhole lines trees → lines' ≡ without number number lines → trees'.entries ≡ remove_entry (is_at (nat_cmp number)) trees.entries → AreWhole lines' trees'
whole_removed lines trees lines' trees' number whole made made' = record {
  program = program_without lines lines' number number whole.program made;
  beside = subst (λ (ls : Lines). AreTrees ls trees'.entries) (sym (made ∙ without_one number lines whole.program.ordered)) (subst (λ (ts : List (ℕ × Line)). AreTrees (removed number lines) ts) (sym made') (trees_removed (is_at (nat_cmp number)) lines trees.entries whole.beside));
}

-- without the lines of a range
pub whole_without : (lines : Lines) (trees : BTreeMap ℕ Line) (lines' : Lines) (trees' : BTreeMap ℕ Line) (from to : ℕ)
    → AreWhole lines trees → lines' ≡ without from to lines → trees'.entries ≡ filter (λ line. not (is_within from to line.0)) trees.entries → AreWhole lines' trees'
whole_without lines trees lines' trees' from to whole made made' = record {
  program = program_without lines lines' from to whole.program made;
  beside = subst (λ (ls : Lines). AreTrees ls trees'.entries) (sym made) (subst (λ (ts : List (ℕ × Line)). AreTrees (without from to lines) ts) (sym made') (trees_filtered (λ number. not (is_within from to number)) lines trees.entries whole.beside));
}

-- a line that was not there is stored and deleted again
pub taken_back : (number : ℕ) (rest : List ℕ) (lines lines' lines'' : Lines) → line number lines ≡ None → lines' ≡ stored number rest lines → IsOrderly lines' → lines'' ≡ without number number lines' → lines'' ≡ lines
taken_back number rest lines lines' lines'' none made orderly made' =
    made' ∙ without_one number lines' orderly ∙ ap (removed number) made ∙ remove_inserted number rest lines none

-- the same lines and trees
pub whole_same : (lines : Lines) (trees : BTreeMap ℕ Line) (lines' : Lines) (trees' : BTreeMap ℕ Line) → AreWhole lines trees → lines' ≡ lines → trees'.entries ≡ trees.entries → AreWhole lines' trees'
whole_same lines trees lines' trees' whole made made' = record {
  program = subst (λ (ls : Lines). IsProgram ls) (sym made) whole.program;
  beside = subst (λ (ls : Lines). AreTrees ls trees'.entries) (sym made) (subst (λ (ts : List (ℕ × Line)). AreTrees lines ts) (sym made') whole.beside);
}

-- Loops that do one thing after another, and rows that are written in such a loop.
use Rattle.std.proofs.Common.{◌≡◌, ℕ, ◌+◌, ◌<◌, ◌≤◌, List, [], ◌∷◌, length, get_or, drop, refl, sym, ap, ◌∙◌, arith}
use Rattle.std.specs.Prelude.{Option, Some, None, ℤ, Err}
use Rattle.std.specs.List.{range_with_len}
use Rattle.std.proofs.lemmas.List.{drop_more, drop_all}
use Rattle.std.proofs.lemmas.List.FromFn.{length-range_with_len, get_or-range_with_len}
use Rattle.basic_values.specs.Numbers.{printed}
use Rattle.basic_values.specs.declared.failures.Trouble.{Trouble}
use Rattle.basic_values.specs.declared.failures.Trouble.TheVariants as trouble
use Rattle.basic_tree.specs.declared.names.Name.{Name}
use Rattle.basic_tree.specs.declared.parts.Separator.{Separator}
use Rattle.basic_tree.specs.declared.parts.Separator.TheVariants.{Comma, Semicolon}
use Rattle.basic_matrix.specs.MatrixActs.{row_numbers}
use Rattle.job_model.specs.Act.{Gives, ◌then◌}
use Rattle.program_model.specs.Job.{Job}
use Rattle.program_model.specs.MatrixStatements.{one_by_one, behind_number, numbers_written, row_ended, row_written, rows_written}
use Rattle.program_model.specs.Printing.{written}
use Rattle.polish_code.specs.Walk.{Spot, Walked}
use Rattle.basic_eval.specs.Acting.{Acts}
use Rattle.basic_eval.specs.declared.exits.Exit.{Exit}

module _ {A : Type 0} (act : A → Job Spot → Walked (Unit {0})) (all : List A) (k : ℕ) (d : A) (j next : Job Spot) (whole : Walked (Unit {0})) (h : k < length all) (left : one_by_one act (drop k all) j ≡ whole) where
  unfolded : (act (get_or all k d) j then λ _ j. one_by_one act (drop (k + 1) all) j) ≡ whole
  unfolded = sym (ap (λ (l : List A). one_by_one act l j) (drop_more all k d h)) ∙ left

  -- one was done, and the others are left
  pub each_further : act (get_or all k d) j ≡ Gives tt next → one_by_one act (drop (k + 1) all) next ≡ whole
  each_further done = sym (ap (λ (m : Walked (Unit {0})). m then λ _ j. one_by_one act (drop (k + 1) all) j) done) ∙ unfolded

  -- one breaks off, and so does the whole
  pub each_breaks : (why : Trouble Exit) → Acts {A = Unit {0}} (act (get_or all k d) j) next (Err why) → Acts {A = Unit {0}} whole next (Err why)
  each_breaks (trouble.Refused why) broken = sym unfolded ∙ ap (λ (m : Walked (Unit {0})). m then λ _ j. one_by_one act (drop (k + 1) all) j) broken
  each_breaks trouble.NoMemory none = tt

-- nothing is left
pub each_done : {A : Type 0} (act : A → Job Spot → Walked (Unit {0})) (all : List A) (k : ℕ) (j : Job Spot) (whole : Walked (Unit {0})) → length all ≤ k → one_by_one act (drop k all) j ≡ whole → whole ≡ Gives tt j
each_done act all k j whole h left = sym left ∙ ap (λ l. one_by_one act l j) (drop_all k all h)

-- rows and columns go from 1 on
pub within : (n before : ℕ) → before < n → before < length (range_with_len 1 n)
within n before h = omega (arith, h, length-range_with_len 1 n)

pub past : (n before : ℕ) → n ≤ before → length (range_with_len 1 n) ≤ before
past n before h = omega (arith, h, length-range_with_len 1 n)

pub place_is : (n before : ℕ) → before < n → get_or (range_with_len 1 n) before 0 ≡ before + 1
place_is n before h = get_or-range_with_len 1 n before 0 h ∙ (let r : 1 + before ≡ before + 1 = omega arith in r)

-- ROWS THAT ARE WRITTEN

behind_keeps : (s : Option Separator) (others : List ℤ) (j : Job Spot) → (behind_number s others j).memory ≡ j.memory
behind_keeps None others j = refl
behind_keeps (Some s) [] j = refl
behind_keeps (Some Comma) (n ∷ others) j = refl
behind_keeps (Some Semicolon) (n ∷ others) j = refl

numbers_keep : (s : Option Separator) (ns : List ℤ) (j : Job Spot) → (numbers_written s ns j).memory ≡ j.memory
numbers_keep s [] j = refl
numbers_keep s (n ∷ others) j = numbers_keep s others (behind_number s others (written (printed n) j)) ∙ behind_keeps s others (written (printed n) j)

ended_keeps : (s : Option Separator) (j : Job Spot) → (row_ended s j).memory ≡ j.memory
ended_keeps None j = refl
ended_keeps (Some s) j = refl

pub row_keeps : (s : Option Separator) (ns : List ℤ) (j : Job Spot) → (row_written s ns j).memory ≡ j.memory
row_keeps s ns j = ended_keeps s (numbers_written s ns j) ∙ numbers_keep s ns j

-- one row was written, and the others are left
pub rows_further : (s : Option Separator) (x : Name) (n before : ℕ) (j next whole : Job Spot) → before < n → next ≡ row_written s (row_numbers j.memory x (before + 1)) j
    → rows_written s x (drop before (range_with_len 1 n)) j ≡ whole → rows_written s x (drop (before + 1) (range_with_len 1 n)) next ≡ whole
rows_further s x n before j next whole h wrote left =
    let rest : List ℕ = drop (before + 1) (range_with_len 1 n) in
    ap (rows_written s x rest) wrote
    ∙ sym (ap (λ (row : ℕ). rows_written s x (row ∷ rest) j) (place_is n before h))
    ∙ sym (ap (λ (rows : List ℕ). rows_written s x rows j) (drop_more (range_with_len 1 n) before 0 (within n before h)))
    ∙ left

-- two answers for the same tree are the same
pub given_alike : (j k : Job Spot) → ◌≡◌ {A = Walked (Unit {0})} (Gives (tt {0}) j) (Gives (tt {0}) k) → k ≡ j
given_alike j k e = cc

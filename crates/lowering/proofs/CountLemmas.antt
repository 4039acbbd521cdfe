-- A sink that counts has counted as many as the sizes say.
use Rattle.std.proofs.Common.{◌≡◌, ℕ, suc, List, [], ◌∷◌, length, refl, ap, ◌∙◌}
use Rattle.basic_tree.specs.Trees.{Tree, ClauseTree, StatementTree}
use Rattle.program_model.specs.Program.{Program}
use Rattle.polish_code.specs.declared.items.Item.{Item}
use Rattle.polish_code.specs.Code.{expr_size, body_size, clause_size, places_of}
use Rattle.polish_code.proofs.Folds.{folded, Folds, expr_folds, body_folds, clause_folds}
use Rattle.lowering.specs.Emission.{one_more, with_expression, with_body, with_clause}

count_folded : (is : List Item) → folded one_more is 0 ≡ length is
count_folded [] = refl
count_folded (i ∷ is) = ap (λ n. suc n) (count_folded is)

counted : (f : ℕ → ℕ) (n : ℕ) → Folds one_more f n → f 0 ≡ n
counted f n h = h.stands 0 ∙ count_folded h.front ∙ h.sized

pub expression_counted : (program : Program) (e : Tree) → with_expression one_more program e 0 ≡ expr_size e
expression_counted program e = counted (with_expression one_more program e) (expr_size e) (expr_folds one_more program (places_of program) e)

pub body_counted : (program : Program) (m i : ℕ) (s : StatementTree) → with_body one_more program m i s 0 ≡ body_size s
body_counted program m i s = counted (with_body one_more program m i s) (body_size s) (body_folds one_more program (places_of program) s m i)

pub clause_counted : (program : Program) (m i : ℕ) (c : ClauseTree) → with_clause one_more program m i c 0 ≡ clause_size c
clause_counted program m i c = counted (with_clause one_more program m i c) (clause_size c) (clause_folds one_more program (places_of program) c m i)

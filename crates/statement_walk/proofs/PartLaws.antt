-- The parts of the walk are those of the definitions: its statements, its expressions, and as many
-- FORs.
use Rattle.std.proofs.Common.{◌≡◌, ℕ, ◌+◌, List, [], ◌∷◌, ◌++◌, map, refl, sym, ap, ◌∙◌, arith, append_assoc}
use Rattle.std.specs.Prelude.{Bool, true, false, ◌&&◌, Option, Some, None}
use Rattle.std.specs.List.{flat_map, list_all}
use Rattle.std.proofs.lemmas.Grind.{flat_map-append}
use Rattle.basic_tree.specs.Trees.{Tree, ModifierTree, If, Unless, While, Until, ForModifier, ClauseTree, LineClause, StatementClause, ElseTree, NoElse, Else, StatementTree, IfThen, IfGoto, Modified, Goto}
use Rattle.program_model.specs.Program.{loops_in, loops_in_clause, loops_in_else}
use Rattle.program_model.specs.Parts.{given, modifier_expressions, simple_in, simple_in_clause, simple_in_else, expressions_in, expressions_in_clause, expressions_in_else}
use Rattle.statement_walk.specs.Walk.{StatementPart, Simple, Expression, Loop, own_expressions, modifier_parts, parts_in, parts_in_clause, parts_in_else, simple_by, expression_by, loops_by, loops_among, visited}

-- LISTS OF EXPRESSIONS

no_statements : (es : List Tree) → flat_map simple_by (map Expression es) ≡ []
no_statements [] = refl
no_statements (e ∷ es) = no_statements es

all_expressions : (es : List Tree) → flat_map expression_by (map Expression es) ≡ es
all_expressions [] = refl
all_expressions (e ∷ es) = ap (λ l. e ∷ l) (all_expressions es)

no_loops : (es : List Tree) → loops_among (map Expression es) ≡ 0
no_loops [] = refl
no_loops (e ∷ es) = omega (arith, no_loops es)

loops_both : (ps qs : List StatementPart) → loops_among (ps ++ qs) ≡ loops_among ps + loops_among qs
loops_both [] qs = omega arith
loops_both (p ∷ ps) qs = omega (arith, loops_both ps qs)

-- STATEMENTS

modifier_simple : (modifier : ModifierTree) → flat_map simple_by (modifier_parts modifier) ≡ []
modifier_simple (If e) = refl
modifier_simple (Unless e) = refl
modifier_simple (While e) = refl
modifier_simple (Until e) = refl
modifier_simple (ForModifier variable from to step) = no_statements (from ∷ to ∷ given step)

append_none : {A : Type 0} (xs : List A) → xs ++ [] ≡ xs
append_none [] = refl
append_none (x ∷ xs) = ap (λ l. x ∷ l) (append_none xs)

mutual
  pub simple_parts : (s : StatementTree) → flat_map simple_by (parts_in s) ≡ simple_in s
  simple_parts (IfThen e clause otherwise) =
      flat_map-append simple_by (parts_in_clause clause) (parts_in_else otherwise)
      ∙ ap (λ l. l ++ flat_map simple_by (parts_in_else otherwise)) (simple_parts_clause clause)
      ∙ ap (λ l. simple_in_clause clause ++ l) (simple_parts_else otherwise)
  simple_parts (IfGoto e n otherwise) = ap (λ l. Goto false n ∷ l) (simple_parts_else otherwise)
  simple_parts (Modified s modifier) =
      flat_map-append simple_by (parts_in s) (modifier_parts modifier)
      ∙ ap (λ l. flat_map simple_by (parts_in s) ++ l) (modifier_simple modifier)
      ∙ append_none (flat_map simple_by (parts_in s))
      ∙ simple_parts s
  simple_parts s = ap (λ l. s ∷ l) (no_statements (own_expressions s))

  pub simple_parts_clause : (clause : ClauseTree) → flat_map simple_by (parts_in_clause clause) ≡ simple_in_clause clause
  simple_parts_clause (LineClause n) = refl
  simple_parts_clause (StatementClause s) = simple_parts s

  simple_parts_else : (otherwise : ElseTree) → flat_map simple_by (parts_in_else otherwise) ≡ simple_in_else otherwise
  simple_parts_else NoElse = refl
  simple_parts_else (Else clause) = simple_parts_clause clause

-- EXPRESSIONS

modifier_parts_are : (modifier : ModifierTree) → flat_map expression_by (modifier_parts modifier) ≡ modifier_expressions modifier
modifier_parts_are (If e) = refl
modifier_parts_are (Unless e) = refl
modifier_parts_are (While e) = refl
modifier_parts_are (Until e) = refl
modifier_parts_are (ForModifier variable from to step) = all_expressions (from ∷ to ∷ given step)

mutual
  pub expression_parts : (s : StatementTree) → flat_map expression_by (parts_in s) ≡ expressions_in s
  expression_parts (IfThen e clause otherwise) =
      ap (λ l. e ∷ l)
      (flat_map-append expression_by (parts_in_clause clause) (parts_in_else otherwise)
      ∙ ap (λ l. l ++ flat_map expression_by (parts_in_else otherwise)) (expression_parts_clause clause)
      ∙ ap (λ l. expressions_in_clause clause ++ l) (expression_parts_else otherwise))
  expression_parts (IfGoto e n otherwise) = ap (λ l. e ∷ l) (expression_parts_else otherwise)
  expression_parts (Modified s modifier) =
      flat_map-append expression_by (parts_in s) (modifier_parts modifier)
      ∙ ap (λ l. l ++ flat_map expression_by (modifier_parts modifier)) (expression_parts s)
      ∙ ap (λ l. expressions_in s ++ l) (modifier_parts_are modifier)
  expression_parts s = all_expressions (own_expressions s)

  expression_parts_clause : (clause : ClauseTree) → flat_map expression_by (parts_in_clause clause) ≡ expressions_in_clause clause
  expression_parts_clause (LineClause n) = refl
  expression_parts_clause (StatementClause s) = expression_parts s

  expression_parts_else : (otherwise : ElseTree) → flat_map expression_by (parts_in_else otherwise) ≡ expressions_in_else otherwise
  expression_parts_else NoElse = refl
  expression_parts_else (Else clause) = expression_parts_clause clause

-- FORS

loops_modified : (s : StatementTree) (modifier : ModifierTree) → loops_in s + loops_among (modifier_parts modifier) ≡ loops_in (Modified s modifier)
loops_modified s (If e) = omega arith
loops_modified s (Unless e) = omega arith
loops_modified s (While e) = omega arith
loops_modified s (Until e) = omega arith
loops_modified s (ForModifier variable from to step) = omega (arith, no_loops (from ∷ to ∷ given step))

mutual
  pub loop_parts : (s : StatementTree) → loops_among (parts_in s) ≡ loops_in s
  loop_parts (IfThen e clause otherwise) =
      omega (arith, loops_both (parts_in_clause clause) (parts_in_else otherwise), loop_parts_clause clause, loop_parts_else otherwise)
  loop_parts (IfGoto e n otherwise) = omega (arith, loop_parts_else otherwise)
  loop_parts (Modified s modifier) =
      omega (arith, loops_both (parts_in s) (modifier_parts modifier), loop_parts s, loops_modified s modifier)
  loop_parts s = omega (arith, no_loops (own_expressions s))

  pub loop_parts_clause : (clause : ClauseTree) → loops_among (parts_in_clause clause) ≡ loops_in_clause clause
  loop_parts_clause (LineClause n) = refl
  loop_parts_clause (StatementClause s) = loop_parts s

  loop_parts_else : (otherwise : ElseTree) → loops_among (parts_in_else otherwise) ≡ loops_in_else otherwise
  loop_parts_else NoElse = refl
  loop_parts_else (Else clause) = loop_parts_clause clause

-- VISITORS THAT COLLECT, COUNT OR TEST

pub collected : {A : Type 0} (f : StatementPart → List A) (xs : List A) (parts : List StatementPart)
    → visited (λ xs part. xs ++ f part) xs parts ≡ xs ++ flat_map f parts
collected f xs [] = sym (append_none xs)
collected f xs (part ∷ parts) = collected f (xs ++ f part) parts ∙ append_assoc xs (f part) (flat_map f parts)

pub summed : (n : ℕ) (parts : List StatementPart) → visited (λ n part. n + loops_by part) n parts ≡ n + loops_among parts
summed n [] = omega arith
summed n (part ∷ parts) = omega (arith, summed (n + loops_by part) parts)

and_assoc : (a b c : Bool) → ((a && b) && c) ≡ (a && (b && c))
and_assoc true b c = refl
and_assoc false b c = refl

and_true : (a : Bool) → (a && true) ≡ a
and_true true = refl
and_true false = refl

pub judged : (f : StatementPart → Bool) (taken : Bool) (parts : List StatementPart) → visited (λ taken part. taken && f part) taken parts ≡ (taken && list_all f parts)
judged f taken [] = sym (and_true taken)
judged f taken (part ∷ parts) = judged f (taken && f part) parts ∙ and_assoc taken (f part) (list_all f parts)

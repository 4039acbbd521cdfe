-- What is collected part by part is what is defined for the whole statement.
use Rattle.std.proofs.Common.{◌≡◌, Bool, true, false, ◌||◌, List, [], ◌∷◌, ◌++◌, refl, sym, ap, ◌∙◌}
use Rattle.std.specs.List.{flat_map, list_any}
use Rattle.basic_tree.specs.Trees.{Tree, StatementTree}
use Rattle.program_model.specs.MatrixStatements.{matrices_by}
use Rattle.program_model.specs.Parts.{calls_in, calls_made_in, simple_in, lines_named_by, lines_named_in}
use Rattle.program_model.specs.Soundness.{handles_errors, is_for_programs, results_by}
use Rattle.statement_walk.specs.Walk.{StatementPart, Simple, Expression, Loop, simple_by, expression_by, parts_in, visited}
use Rattle.statement_walk.proofs.PartLaws.{simple_parts, expression_parts, collected}
use Rattle.program_soundness.specs.declared.parts.Sorts.{Sorts}
use Rattle.program_soundness.specs.Parts.{calls_by, lines_by, results_of, matrices_at, is_handler, is_of_programs}

-- COLLECTED

-- of each statement alone
by_statements : {A : Type 0} (f : StatementTree → List A) (g : StatementPart → List A) → ((s : StatementTree) → g (Simple s) ≡ f s) → ((e : Tree) → g (Expression e) ≡ []) → g Loop ≡ []
    → (parts : List StatementPart) → flat_map g parts ≡ flat_map f (flat_map simple_by parts)
by_statements f g s e l [] = refl
by_statements f g s e l (Simple x ∷ parts) = ap (λ xs. xs ++ flat_map g parts) (s x) ∙ ap (λ ys. f x ++ ys) (by_statements f g s e l parts)
by_statements f g s e l (Expression x ∷ parts) = ap (λ xs. xs ++ flat_map g parts) (e x) ∙ by_statements f g s e l parts
by_statements f g s e l (Loop ∷ parts) = ap (λ xs. xs ++ flat_map g parts) l ∙ by_statements f g s e l parts

by_expressions : (parts : List StatementPart) → flat_map calls_by parts ≡ flat_map calls_in (flat_map expression_by parts)
by_expressions [] = refl
by_expressions (Simple s ∷ parts) = by_expressions parts
by_expressions (Expression e ∷ parts) = ap (λ ys. calls_in e ++ ys) (by_expressions parts)
by_expressions (Loop ∷ parts) = by_expressions parts

pub calls_are : (s : StatementTree) → visited (λ calls part. calls ++ calls_by part) [] (parts_in s) ≡ calls_made_in s
calls_are s = collected calls_by [] (parts_in s) ∙ by_expressions (parts_in s) ∙ ap (λ es. flat_map calls_in es) (expression_parts s)

pub lines_are : (s : StatementTree) → visited (λ lines part. lines ++ lines_by part) [] (parts_in s) ≡ lines_named_in s
lines_are s =
    collected lines_by [] (parts_in s)
    ∙ by_statements lines_named_by lines_by (λ s. refl) (λ e. refl) refl (parts_in s)
    ∙ ap (λ ss. flat_map lines_named_by ss) (simple_parts s)

pub results_are : (s : StatementTree) → visited (λ names part. names ++ results_of part) [] (parts_in s) ≡ flat_map results_by (simple_in s)
results_are s =
    collected results_of [] (parts_in s)
    ∙ by_statements results_by results_of (λ s. refl) (λ e. refl) refl (parts_in s)
    ∙ ap (λ ss. flat_map results_by ss) (simple_parts s)

pub matrices_are : (s : StatementTree) → visited (λ names part. names ++ matrices_at part) [] (parts_in s) ≡ flat_map matrices_by (simple_in s)
matrices_are s =
    collected matrices_at [] (parts_in s)
    ∙ by_statements matrices_by matrices_at (λ s. refl) (λ e. refl) refl (parts_in s)
    ∙ ap (λ ss. flat_map matrices_by ss) (simple_parts s)

-- KINDS

abbrev sorting : Sorts → StatementPart → Sorts
sorting sorts part = record {
  handles = sorts.handles || is_handler part;
  for_programs = sorts.for_programs || is_of_programs part;
}

or_assoc : (a b c : Bool) → ((a || b) || c) ≡ (a || (b || c))
or_assoc true b c = refl
or_assoc false b c = refl

or_false : (a : Bool) → (a || false) ≡ a
or_false true = refl
or_false false = refl

any_statement : (f : StatementTree → Bool) (g : StatementPart → Bool) → ((s : StatementTree) → g (Simple s) ≡ f s) → ((e : Tree) → g (Expression e) ≡ false) → g Loop ≡ false
    → (parts : List StatementPart) → list_any g parts ≡ list_any f (flat_map simple_by parts)
any_statement f g s e l [] = refl
any_statement f g s e l (Simple x ∷ parts) = ap (λ b. b || list_any g parts) (s x) ∙ ap (λ b. f x || b) (any_statement f g s e l parts)
any_statement f g s e l (Expression x ∷ parts) = ap (λ b. b || list_any g parts) (e x) ∙ any_statement f g s e l parts
any_statement f g s e l (Loop ∷ parts) = ap (λ b. b || list_any g parts) l ∙ any_statement f g s e l parts

handles_after : (sorts : Sorts) (parts : List StatementPart) → (visited sorting sorts parts).handles ≡ (sorts.handles || list_any is_handler parts)
handles_after sorts [] = sym (or_false sorts.handles)
handles_after sorts (part ∷ parts) = handles_after (sorting sorts part) parts ∙ or_assoc sorts.handles (is_handler part) (list_any is_handler parts)

programs_after : (sorts : Sorts) (parts : List StatementPart) → (visited sorting sorts parts).for_programs ≡ (sorts.for_programs || list_any is_of_programs parts)
programs_after sorts [] = sym (or_false sorts.for_programs)
programs_after sorts (part ∷ parts) = programs_after (sorting sorts part) parts ∙ or_assoc sorts.for_programs (is_of_programs part) (list_any is_of_programs parts)

pub handles_are : (sorts : Sorts) (s : StatementTree) → sorts ≡ visited sorting (record { handles = false; for_programs = false }) (parts_in s) → sorts.handles ≡ list_any handles_errors (simple_in s)
handles_are sorts s e =
    ap (λ (x : Sorts). x.handles) e ∙ handles_after (record { handles = false; for_programs = false }) (parts_in s)
    ∙ any_statement handles_errors is_handler (λ s. refl) (λ e. refl) refl (parts_in s)
    ∙ ap (λ ss. list_any handles_errors ss) (simple_parts s)

pub programs_are : (sorts : Sorts) (s : StatementTree) → sorts ≡ visited sorting (record { handles = false; for_programs = false }) (parts_in s) → sorts.for_programs ≡ list_any is_for_programs (simple_in s)
programs_are sorts s e =
    ap (λ (x : Sorts). x.for_programs) e ∙ programs_after (record { handles = false; for_programs = false }) (parts_in s)
    ∙ any_statement is_for_programs is_of_programs (λ s. refl) (λ e. refl) refl (parts_in s)
    ∙ ap (λ ss. list_any is_for_programs ss) (simple_parts s)

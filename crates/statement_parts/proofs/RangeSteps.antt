-- The range of a loop, by its parts.
use Rattle.std.proofs.Common.{ℕ, List, ◌∙◌, Option}
use Rattle.basic_expr.specs.declared.failures.Failure.{Failure}
use Rattle.basic_tree.specs.declared.names.Name.{Name}
use Rattle.basic_tree.specs.declared.kinds.Want.TheVariants as want
use Rattle.basic_tree.specs.SpellingWords.{Word}
use Rattle.basic_tree.specs.Trees.{Tree}
use Rattle.grammar_machine.specs.MachineStack.{Form, ExprOf}
use Rattle.grammar_machine.specs.MachineForms.{range_form}
use Rattle.statement_parts.specs.Forms.{limits_form, loop_form}
use Rattle.statement_parts.specs.ParsedForms.{Halts, Leads}

module _ (n : ℕ) (ws : List Word) (from : ℕ) where
  -- it stops in the variable
  pub variable_halts : (f : Failure)
      → ((m : ℕ) (g : Name → Form) → Halts m ws from (loop_form g) f)
      → (g : Name → Tree → Tree → Option Tree → Form) → Halts n ws from (range_form g) f
  variable_halts f stops g = stops n (λ v. ExprOf want.Number (λ start. limits_form (g v start)))

  -- it stops in the start
  pub start_halts : (a : ℕ) (v : Name) (f : Failure)
      → ((m : ℕ) (g : Name → Form) → Leads m m ws from a (loop_form g) (g v))
      → ((g : Tree → Form) → Halts n ws a (ExprOf want.Number g) f)
      → (g : Name → Tree → Tree → Option Tree → Form) → Halts n ws from (range_form g) f
  start_halts a v f named stops g halt is k vs =
      named n (λ v. ExprOf want.Number (λ start. limits_form (g v start))) k vs
      ∙ stops (λ start. limits_form (g v start)) halt is k vs

  -- it stops in the limits
  pub limits_halt : (a b : ℕ) (v : Name) (start : Tree) (f : Failure)
      → ((m : ℕ) (g : Name → Form) → Leads m m ws from a (loop_form g) (g v))
      → ((g : Tree → Form) → Leads n n ws a b (ExprOf want.Number g) (g start))
      → ((g : Tree → Option Tree → Form) → Halts n ws b (limits_form g) f)
      → (g : Name → Tree → Tree → Option Tree → Form) → Halts n ws from (range_form g) f
  limits_halt a b v start f named started stops g halt is k vs =
      named n (λ v. ExprOf want.Number (λ start. limits_form (g v start))) k vs
      ∙ started (λ start. limits_form (g v start)) k vs
      ∙ stops (g v start) halt is k vs

  -- it is whole
  pub range_whole : (a b end : ℕ) (v : Name) (start limit : Tree) (step : Option Tree)
      → ((m : ℕ) (g : Name → Form) → Leads m m ws from a (loop_form g) (g v))
      → ((g : Tree → Form) → Leads n n ws a b (ExprOf want.Number g) (g start))
      → ((g : Tree → Option Tree → Form) → Leads n n ws b end (limits_form g) (g limit step))
      → (g : Name → Tree → Tree → Option Tree → Form) → Leads n n ws from end (range_form g) (g v start limit step)
  range_whole a b end v start limit step named started limited g k vs =
      named n (λ v. ExprOf want.Number (λ start. limits_form (g v start))) k vs
      ∙ started (λ start. limits_form (g v start)) k vs
      ∙ limited (g v start) k vs

-- Assignments, by their parts.
use Rattle.std.proofs.Common.{◌≡◌, ℕ, List, [], ◌∷◌, drop, ap, sym, ◌∙◌}
use Rattle.basic_expr.specs.declared.failures.Failure.{Failure}
use Rattle.basic_tree.specs.declared.kinds.Want.{Want}
use Rattle.basic_tree.specs.declared.kinds.Want.TheVariants as want
use Rattle.basic_tree.specs.SpellingExpressions.{is_text, want_of}
use Rattle.basic_tree.specs.SpellingWords.{Word}
use Rattle.basic_tree.specs.Trees.{Tree}
use Rattle.grammar_machine.specs.MachineStack.{Form, Go, Item, TargetItem, TargetOf, Targets, MoreOf}
use Rattle.grammar_machine.specs.MachineForms.{targets_in}
use Rattle.grammar_machine.specs.MachineRun.{run}
use Rattle.statement_lists.specs.ListForms.{assigned_form, value_form}
use Rattle.statement_parts.specs.ParsedForms.{Halts, Leads}

-- what is expected after all targets
abbrev behind_targets : Want → (List Tree → Tree → Form) → List Item → Form
behind_targets w g items = value_form w (g (targets_in items))

-- and after the first
abbrev behind_first : (List Tree → Tree → Form) → Want → Tree → Form
behind_first g w t = MoreOf (Targets w) (TargetItem t ∷ []) (behind_targets w g)

module _ (n : ℕ) (ws : List Word) (from : ℕ) where
  -- it stops in the first target
  pub first_halts : (f : Failure)
      → ((g : Tree → Form) → Halts n ws from (TargetOf want.Either g) f)
      → (g : List Tree → Tree → Form) → Halts n ws from (assigned_form g) f
  first_halts f stops g = stops (λ t. behind_first g (want_of (is_text t)) t)

  module _ (a : ℕ) (t : Tree) (w : Want) (same : w ≡ want_of (is_text t)) (named : (g : Tree → Form) → Leads n n ws from a (TargetOf want.Either g) (g t)) where
    first_leads : (g : List Tree → Tree → Form) → Leads n n ws from a (assigned_form g) (behind_first g w t)
    first_leads g k vs =
        named (λ t. behind_first g (want_of (is_text t)) t) k vs
        ∙ ap (λ (w : Want). run n (drop a ws) (Go (behind_first g w t) ∷ k) vs) (sym same)

    -- it stops in another target
    pub others_halt : (f : Failure)
        → ((g : List Item → Form) → Halts n ws a (MoreOf (Targets w) (TargetItem t ∷ []) g) f)
        → (g : List Tree → Tree → Form) → Halts n ws from (assigned_form g) f
    others_halt f stops g halt is k vs = first_leads g k vs ∙ stops (behind_targets w g) halt is k vs

    module _ (b : ℕ) (items : List Item) (listed : (g : List Item → Form) → Leads n n ws a b (MoreOf (Targets w) (TargetItem t ∷ []) g) (g items)) where
      -- it stops in the value
      pub value_halts : (f : Failure)
          → ((g : Tree → Form) → Halts n ws b (value_form w g) f)
          → (g : List Tree → Tree → Form) → Halts n ws from (assigned_form g) f
      value_halts f stops g halt is k vs =
          first_leads g k vs
          ∙ listed (behind_targets w g) k vs
          ∙ stops (g (targets_in items)) halt is k vs

      -- it is whole
      pub assignment_whole : (end : ℕ) (ts : List Tree) (value : Tree)
          → targets_in items ≡ ts
          → ((g : Tree → Form) → Leads n n ws b end (value_form w g) (g value))
          → (g : List Tree → Tree → Form) → Leads n n ws from end (assigned_form g) (g ts value)
      assignment_whole end ts value are valued g k vs =
          first_leads g k vs
          ∙ listed (behind_targets w g) k vs
          ∙ valued (g (targets_in items)) k vs
          ∙ ap (λ (ts : List Tree). run n (drop end ws) (Go (g ts value) ∷ k) vs) are

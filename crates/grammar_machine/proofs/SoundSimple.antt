-- Ranges and the items of DATA: what their forms read is what they spell.
use Rattle.std.proofs.Common.{◌≡◌, ℕ, inl, inr, List, [], ◌∷◌, Option, Some, None, refl}
use Rattle.basic_tree.specs.declared.names.Name.{Name}
use Rattle.basic_tree.specs.SpellingWords.{LevelStep, Plain}
use Rattle.basic_tree.specs.SpellingWords.{Item as ItemOf}
use Rattle.basic_tree.specs.Trees.{Tree}
use Rattle.basic_tree.specs.SpellingPieces.{each, Fixed}
use Rattle.basic_tree.specs.SpellingParts.{range}
use Rattle.grammar_machine.specs.MachineStack.{Value, Made}
use Rattle.grammar_machine.specs.MachineForms.{range_form}
use Rattle.grammar_machine.proofs.MachineReads.{Reads, data_steps}
use Rattle.grammar_machine.proofs.SoundPieces.{Spells, ended, fixed, expression, name_of}

-- ---- statements that set or count

pub range_read : (made : Name → Tree → Tree → Option Tree → Value) (p : List LevelStep) (u : Value) → Reads (range_form (λ v start limit step. Made (made v start limit step))) p u → (v : Name) × (start : Tree) × (limit : Tree) × (step : Option Tree) × Spells (range v start limit step) p × (made v start limit step ≡ u)
range_read made p u h =
    let start = h.4.2 in
    let limit = start.5.2 in
    elim limit.5 [
      | inl x ↦
          let step = x.2 in
          (h.0, start.0, limit.0, Some step.0, name_of h.2 h.3 (fixed h.4.1 (expression start.2 start.3 start.4 (fixed start.5.1 (expression limit.2 limit.3 limit.4 (fixed x.1 (expression step.2 step.3 step.4 (ended step.5.0))))))), step.5.1)
      | inr x ↦ (h.0, start.0, limit.0, None, name_of h.2 h.3 (fixed h.4.1 (expression start.2 start.3 start.4 (fixed start.5.1 (expression limit.2 limit.3 limit.4 (ended x.0))))), x.1)
    ]

-- ---- READ and DATA

pub data_spelled : (more : List (List ℕ)) → Spells (each (λ i. Fixed (Plain (ItemOf i)) ∷ []) more) (data_steps more)
data_spelled [] = ended refl
data_spelled (item ∷ more) = fixed refl (data_spelled more)

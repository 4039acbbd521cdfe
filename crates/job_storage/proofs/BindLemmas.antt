-- Variables are bound one after another.
use Rattle.std.proofs.Common.{◌≡◌, ℕ, List, [], ◌∷◌, refl, ap, ◌∙◌}
use Rattle.basic_tree.specs.declared.names.Name.{Name}
use Rattle.job_model.specs.Act.{Gives}
use Rattle.program_model.specs.FileActs.{binds}
use Rattle.program_model.specs.Storage.{Storage}
use Rattle.record_fields.specs.declared.parts.Part.{Part}

-- if no part is left, nothing is bound
pub no_part_left : (c : ℕ) (xs : List Name) (parts : List Part) (s : Storage) → parts ≡ [] → binds c xs parts s ≡ Gives tt s
no_part_left c xs parts s is = ap (λ (l : List Part). binds c xs l s) is ∙ over xs
  where
    over : (xs : List Name) → binds c xs [] s ≡ Gives tt s
    over [] = refl
    over (x ∷ xs) = refl

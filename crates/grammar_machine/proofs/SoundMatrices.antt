-- What MAT stores: what its form reads is what it spells.
use Rattle.std.proofs.Common.{◌≡◌, inl, inr, List, refl}
use Rattle.basic_tree.specs.declared.names.Name.{Name}
use Rattle.basic_tree.specs.SpellingWords.{LevelStep}
use Rattle.basic_tree.specs.Trees.{MatrixTree, Zero, One, Identity, Copy, Sum, Difference, Product, Scaled, Transposed, MatLet}
use Rattle.basic_tree.specs.SpellingParts.{matrix}
use Rattle.grammar_machine.specs.MachineStack.{Value, Stated}
use Rattle.grammar_machine.specs.MachineForms.{says, matrix_form}
use Rattle.grammar_machine.proofs.MachineReads.{Reads}
use Rattle.grammar_machine.proofs.SoundPieces.{Spells, ended, fixed, expression, name_of}

-- what MAT stores
abbrev MatrixRead : Name → List LevelStep → Value → Type 0
MatrixRead n p v = (m : MatrixTree) × Spells (matrix m) p × (Stated (MatLet n m) ≡ v)

pub matrix_read : (n : Name) (p : List LevelStep) (v : Value) → Reads (matrix_form (λ m. says (MatLet n m))) p v → MatrixRead n p v
matrix_read n p v (inl x) = (Zero, fixed x.1 (ended x.2.0), x.2.1)
matrix_read n p v (inr (inl x)) = (One, fixed x.1 (ended x.2.0), x.2.1)
matrix_read n p v (inr (inr (inl x))) = (Identity, fixed x.1 (ended x.2.0), x.2.1)
matrix_read n p v (inr (inr (inr (inl x)))) =
    let b = x.2.2 in
    let closed = b.4 in
    (Transposed b.0, fixed x.1 (fixed x.2.1 (name_of b.2 b.3 (fixed closed.1 (fixed refl (ended closed.2.0))))), closed.2.1)
matrix_read n p v (inr (inr (inr (inr (inl x))))) =
    let t = x.2 in
    let closed = t.5 in
    let star = closed.2 in
    let b = star.2 in
    (Scaled t.0 b.0, fixed x.1 (expression t.2 t.3 t.4 (fixed closed.1 (fixed refl (fixed star.1 (name_of b.2 b.3 (ended b.4.0)))))), b.4.1)
matrix_read n p v (inr (inr (inr (inr (inr x))))) =
    elim x.4 [
      | inl y ↦ let c = y.2 in (Sum x.0 c.0, name_of x.2 x.3 (fixed y.1 (name_of c.2 c.3 (ended c.4.0))), c.4.1)
      | inr y ↦
          elim y [
            | inl z ↦ let c = z.2 in (Difference x.0 c.0, name_of x.2 x.3 (fixed z.1 (name_of c.2 c.3 (ended c.4.0))), c.4.1)
            | inr z ↦
                elim z [
                  | inl w ↦ let c = w.2 in (Product x.0 c.0, name_of x.2 x.3 (fixed w.1 (name_of c.2 c.3 (ended c.4.0))), c.4.1)
                  | inr w ↦ (Copy x.0, name_of x.2 x.3 (ended w.0), w.1)
                ]
          ]
    ]

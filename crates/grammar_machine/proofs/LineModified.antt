-- Every statement is one without modifiers, and then its modifiers in order.
use Rattle.std.proofs.Common.{◌≡◌, false, List, [], ◌∷◌, ◌++◌, refl, ap, ◌∙◌, append_assoc}
use Rattle.std.proofs.lemmas.List.{append-nil}
use Rattle.basic_tree.specs.SpellingWords.{LevelStep, Closes}
use Rattle.basic_tree.specs.Trees.{ModifierTree, StatementTree, Modified}
use Rattle.basic_tree.specs.SpellingStatements.{is_if, is_head, closings, pieces_of, statement_pieces}
use Rattle.basic_tree.specs.SpellingPieces.{pieces_steps, ArePieces}
use Rattle.basic_tree.specs.SpellingParts.{modifier}
use Rattle.grammar_machine.proofs.PieceLists.{steps_append}
use Rattle.grammar_machine.proofs.MachineReads.{modifiers_steps, AreModifiers, modified_by}
use Rattle.grammar_machine.proofs.LineLeads.{parts_before, parts_behind, neither}

-- no modifiers follow an IF, or a statement that takes none
abbrev pub MayHave : StatementTree → List ModifierTree → Type 0
MayHave s [] = Unit {0}
MayHave s (m ∷ ms) = (is_if s ≡ false) × (is_head s ≡ false)

-- with these modifiers after it, the statement is this one; closed: the steps with all ends of
-- nesting levels
pub record Unmodified (s : StatementTree) (closed : List LevelStep) : Type 0 where
  pub base : StatementTree
  pub modifiers : List ModifierTree
  pub bare : closings base ≡ []
  pub same : modified_by base modifiers ≡ s
  pub pieces : ArePieces (pieces_of base)
  pub each : AreModifiers modifiers
  pub may_have : MayHave base modifiers
  pub steps : closed ≡ pieces_steps (pieces_of base) ++ modifiers_steps modifiers

regroup : (p a b : List LevelStep) (x : LevelStep) (c : List LevelStep) → (p ++ a) ++ (b ++ x ∷ c) ≡ p ++ ((a ++ (b ++ x ∷ [])) ++ c)
regroup p a b x c = simp append_assoc

unmodified_with : (s : StatementTree) (ms : List ModifierTree) → ArePieces (pieces_of s) → AreModifiers ms → MayHave s ms → Unmodified (modified_by s ms) (pieces_steps (pieces_of s) ++ (modifiers_steps ms ++ pieces_steps (closings s)))
unmodified_with (Modified s m) ms h a y =
    let x = unmodified_with s (m ∷ ms) (parts_before (pieces_of s) (modifier m) h.1) (parts_behind (pieces_of s) (modifier m) h.1, a) (neither (is_if s) (is_head s) h.0) in
    record {
      base = x.base;
      modifiers = x.modifiers;
      bare = x.bare;
      same = x.same;
      pieces = x.pieces;
      each = x.each;
      may_have = x.may_have;
      steps =
          ap (λ q. q ++ (modifiers_steps ms ++ Closes ∷ pieces_steps (closings s))) (steps_append (pieces_of s) (modifier m))
          ∙ regroup (pieces_steps (pieces_of s)) (pieces_steps (modifier m)) (modifiers_steps ms) Closes (pieces_steps (closings s))
          ∙ x.steps;
    }
unmodified_with s ms h a y = record { base = s; modifiers = ms; bare = refl; same = refl; pieces = h; each = a; may_have = y; steps = ap (λ q. pieces_steps (pieces_of s) ++ q) (append-nil (modifiers_steps ms)) }

pub unmodified_lem : (s : StatementTree) → ArePieces (pieces_of s) → Unmodified s (pieces_steps (statement_pieces s))
unmodified_lem s h =
    let x = unmodified_with s [] h tt tt in
    record {
      base = x.base;
      modifiers = x.modifiers;
      bare = x.bare;
      same = x.same;
      pieces = x.pieces;
      each = x.each;
      may_have = x.may_have;
      steps = steps_append (pieces_of s) (closings s) ∙ x.steps;
    }

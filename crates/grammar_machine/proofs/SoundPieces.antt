-- Steps that pieces spell, put together piece by piece from the beginning.
use Rattle.std.proofs.Common.{◌≡◌, ℕ, Bool, true, List, [], ◌∷◌, ◌++◌, sym, ap, ◌∙◌, subst, append_assoc}
use Rattle.std.proofs.lemmas.List.{append-nil}
use Rattle.basic_tree.specs.declared.names.Name.{Name}
use Rattle.basic_tree.specs.declared.kinds.Want.{Want}
use Rattle.basic_tree.specs.SpellingWords.{Named, Number, LevelStep, Plain}
use Rattle.basic_tree.specs.Trees.{Tree, Variable, StatementTree, ModifierTree}
use Rattle.basic_tree.specs.SpellingExpressions.{steps_of, Fits, IsTree}
use Rattle.basic_tree.specs.SpellingPieces.{WordPiece, Fixed, Expression, NameOf, LiteralOf, Holds, pieces_steps, ArePieces}
use Rattle.basic_tree.specs.SpellingParts.{modifier}
use Rattle.basic_tree.specs.SpellingStatements.{closings, pieces_of}
use Rattle.grammar_machine.specs.MachineStack.{Value, Stated, Modifying, Form}
use Rattle.grammar_machine.specs.MachineSentences.{Class}
use Rattle.grammar_machine.proofs.PieceLists.{steps_append, pieces_append}
use Rattle.grammar_machine.proofs.MachineReads.{Reads}
use Rattle.grammar_machine.proofs.FormLeads.{OfClass, Says, Modifies}

-- the pieces are admissible, and spell the steps
pub record Spells (pieces : List WordPiece) (p : List LevelStep) : Type 0 where
  pub wanted : ArePieces pieces
  pub spelled : p ≡ pieces_steps pieces

-- ---- single pieces

pub ended : {p : List LevelStep} → p ≡ [] → Spells [] p
ended e = record { wanted = tt; spelled = e }

pub fixed : {step : LevelStep} {pieces : List WordPiece} {p q : List LevelStep} → p ≡ step ∷ q → Spells pieces q → Spells (Fixed step ∷ pieces) p
fixed {step = step} e s = record { wanted = (tt, s.wanted); spelled = e ∙ ap (λ q. step ∷ q) s.spelled }

pub expression : {w : Want} {t : Tree} {pieces : List WordPiece} {p q : List LevelStep} → p ≡ steps_of t ++ q → IsTree t → Fits w t → Spells pieces q → Spells (Expression w t ∷ pieces) p
expression {t = t} e i f s = record { wanted = ((i, f), s.wanted); spelled = e ∙ ap (λ q. steps_of t ++ q) s.spelled }

pub name_of : {w : Want} {n : Name} {pieces : List WordPiece} {p q : List LevelStep} → p ≡ Plain (Named n) ∷ q → Fits w (Variable n) → Spells pieces q → Spells (NameOf w n ∷ pieces) p
name_of {n = n} e f s = record { wanted = (f, s.wanted); spelled = e ∙ ap (λ q. Plain (Named n) ∷ q) s.spelled }

pub literal : {b : Bool} {n : ℕ} {pieces : List WordPiece} {p q : List LevelStep} → p ≡ Plain (Number n) ∷ q → b ≡ true → Spells pieces q → Spells (LiteralOf b n ∷ pieces) p
literal {n = n} e f s = record { wanted = (f, s.wanted); spelled = e ∙ ap (λ q. Plain (Number n) ∷ q) s.spelled }

pub holds : {b : Bool} {pieces : List WordPiece} {p : List LevelStep} → b ≡ true → Spells pieces p → Spells (Holds b ∷ pieces) p
holds e s = record { wanted = (e, s.wanted); spelled = s.spelled }

-- ---- lists of pieces

pub joined : (a : List WordPiece) {b : List WordPiece} {p q : List LevelStep} → p ≡ pieces_steps a ++ q → ArePieces a → Spells b q → Spells (a ++ b) p
joined a {b = b} e h s = record { wanted = pieces_append a b h s.wanted; spelled = e ∙ ap (λ q. pieces_steps a ++ q) s.spelled ∙ sym (steps_append a b) }

-- the steps are given by an equation
pub as_steps : {a : List WordPiece} {p q : List LevelStep} → p ≡ q → Spells a q → Spells a p
as_steps e s = record { wanted = s.wanted; spelled = e ∙ s.spelled }

-- steps with nothing after them
pub only : {a : List WordPiece} {p q : List LevelStep} (s : List LevelStep) → p ≡ s ++ q → q ≡ [] → Spells a s → Spells a p
only s e n h = as_steps (e ∙ ap (λ q. s ++ q) n ∙ append-nil s) h

-- steps with others after them
pub listed : {a b : List WordPiece} {p q : List LevelStep} (s : List LevelStep) → p ≡ s ++ q → Spells a s → Spells b q → Spells (a ++ b) p
listed {a = a} {q = q} s e h k = joined a (e ∙ ap (λ s. s ++ q) h.spelled) h.wanted k

-- the same pieces, grouped differently
pub regrouped : (a b c : List WordPiece) {p : List LevelStep} → Spells (a ++ (b ++ c)) p → Spells ((a ++ b) ++ c) p
regrouped a b c {p = p} h = subst (λ l. Spells l p) (sym (append_assoc a b c)) h

-- the pieces are admissible, and the steps begin with theirs
pub record Starts (pieces : List WordPiece) (p q : List LevelStep) : Type 0 where
  pub wanted : ArePieces pieces
  pub spelled : p ≡ pieces_steps pieces ++ q

pub one_behind : (a b : List WordPiece) (p q r : List LevelStep) → Starts a p q → Starts b q r → Starts (a ++ b) p r
one_behind a b p q r h k = record {
  wanted = pieces_append a b h.wanted k.wanted;
  spelled = h.spelled ∙ ap (λ q. pieces_steps a ++ q) k.spelled ∙ sym (append_assoc (pieces_steps a) (pieces_steps b) r) ∙ ap (λ s. s ++ r) (sym (steps_append a b));
}

-- ---- statements and modifiers

pub said : (c : Class) (s : StatementTree) (p : List LevelStep) (v : Value) → Stated s ≡ v → Spells (pieces_of s) p → closings s ≡ [] → OfClass c s → Says c p v
said c s p v e h none class = subst (λ x. Says c p x) e (h.wanted, h.spelled, none, class)

pub modifying_said : (m : ModifierTree) (p : List LevelStep) (v : Value) → Modifying m ≡ v → Spells (modifier m) p → Modifies p v
modifying_said m p v e h = subst (λ x. Modifies p x) e (h.wanted, h.spelled)

-- what the form reads is a statement of the class
abbrev pub Sound : Class → Form → Type 0
Sound c f = (p : List LevelStep) (v : Value) → Reads f p v → Says c p v

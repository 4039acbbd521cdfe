-- What it means that the words of a form lead the machine to its value.
use Rattle.std.proofs.Common.{◌≡◌, ℕ, ◌≤◌, Bool, true, false, List, [], ◌∷◌, ◌++◌}
use Rattle.basic_tree.specs.declared.tokens.Keyword.{Keyword}
use Rattle.basic_tree.specs.declared.tokens.Keyword.TheVariants as keyword
use Rattle.basic_tree.specs.declared.tokens.Sign.TheVariants as sign
use Rattle.basic_tree.specs.SpellingWords.{Word, Key, Punctuation, LevelStep, words}
use Rattle.basic_tree.specs.Trees.{StatementTree}
use Rattle.basic_tree.specs.SpellingStatements.{is_if, is_head, closings, pieces_of}
use Rattle.basic_tree.specs.SpellingPieces.{pieces_steps, ArePieces}
use Rattle.basic_tree.specs.SpellingParts.{modifier}
use Rattle.grammar_machine.specs.MachineStack.{Value, Values, Stated, Modifying, Symbol, Go, Form}
use Rattle.grammar_machine.specs.MachineSentences.{Class, Choice, Head, Simple}
use Rattle.grammar_machine.specs.MachineRun.{run}

-- What may follow a statement or a clause: a separator, a modifier, or an ELSE if one is allowed.
abbrev pub key_ends : Bool → Keyword → Bool
key_ends e keyword.Else = e
key_ends e keyword.If = true
key_ends e keyword.Unless = true
key_ends e keyword.While = true
key_ends e keyword.Until = true
key_ends e keyword.For = true
key_ends e other = false

abbrev pub word_ends : Bool → Word → Bool
word_ends e (Punctuation sign.Colon) = true
word_ends e (Key k) = key_ends e k
word_ends e other = false

abbrev pub Ending : Bool → List Word → Type 0
Ending e [] = Unit {0}
Ending e (t ∷ ts) = word_ends e t ≡ true

-- with enough nesting levels left, the words of these steps lead from the form to the value
pub record FormLeads (e : Bool) (f : Form) (p : List LevelStep) (v : Value) : Type 0 where
  pub bound : ℕ
  pub by : (n : ℕ) → bound ≤ n → (r : List Word) (k : List Symbol) (vs : Values) → Ending e r → run n (words p ++ r) (Go f ∷ k) vs ≡ run n r k (v ∷ vs)

-- a statement of a class
abbrev pub OfClass : Class → StatementTree → Type 0
OfClass Choice s = is_if s ≡ true
OfClass Head s = (is_if s ≡ false) × (is_head s ≡ true)
OfClass Simple s = (is_if s ≡ false) × (is_head s ≡ false)

-- the steps are those of a statement without modifiers
abbrev pub Says : Class → List LevelStep → Value → Type 0
Says c p (Stated s) = ArePieces (pieces_of s) × (p ≡ pieces_steps (pieces_of s)) × (closings s ≡ []) × OfClass c s
Says c p other = ⊥

-- the steps are those of a modifier
abbrev pub Modifies : List LevelStep → Value → Type 0
Modifies p (Modifying m) = ArePieces (modifier m) × (p ≡ pieces_steps (modifier m))
Modifies p other = ⊥

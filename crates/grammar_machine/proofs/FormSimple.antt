-- How a statement begins: with a known word, from whose form its words lead the machine to it. Also
-- ranges and modifiers.
use Rattle.std.proofs.Common.{◌≡◌, ℕ, suc, ◌≤◌, Bool, true, false, List, [], ◌∷◌, ◌++◌, Option, Some, None, refl, ap, ◌∙◌}
use Rattle.basic_tree.specs.declared.names.Name.{Name}
use Rattle.basic_tree.specs.declared.tokens.Keyword.{Keyword}
use Rattle.basic_tree.specs.declared.tokens.Keyword.TheVariants as keyword
use Rattle.basic_tree.specs.SpellingWords.{Word, Key, words}
use Rattle.basic_tree.specs.Trees.{Tree, ModifierTree, If, Unless, While, Until, ForModifier, StatementTree}
use Rattle.basic_tree.specs.SpellingPieces.{WordPiece, pieces_steps, ArePieces, opening}
use Rattle.basic_tree.specs.SpellingParts.{modifier, range}
use Rattle.basic_tree.specs.SpellingStatements.{pieces_of}
use Rattle.grammar_machine.specs.MachineStack.{Value, Values, Stated, Modifying, Symbol, Go, Form, Made, TakeKey}
use Rattle.grammar_machine.specs.MachineForms.{range_form}
use Rattle.grammar_machine.specs.MachineSentences.{Sentence, sentence_of, modifier_of}
use Rattle.grammar_machine.specs.MachineRun.{run}
use Rattle.grammar_machine.proofs.FormLeads.{Ending, OfClass, FormLeads}
use Rattle.grammar_machine.proofs.FormSteps.{key_opened}
use Rattle.grammar_machine.proofs.FormReads.{Reads, reads_leads}
use Rattle.grammar_machine.proofs.FormParts.{read_made, read_key, read_sign, read_if_key, read_not_key, read_expr, read_name}

-- a statement begins with a known word, and its words lead from that word's form to it
pub record Begun (s : StatementTree) : Type 0 where
  pub word : Word
  pub rest : List Word
  pub sentence : Sentence
  pub known : sentence_of word ≡ Some sentence
  pub spelled : words (pieces_steps (pieces_of s)) ≡ word ∷ rest
  pub class : OfClass sentence.class s
  pub leads : FormLeads true sentence.form (pieces_steps (pieces_of s)) (Stated s)

pub begun_as : {s : StatementTree} (w : Word) {rest : List Word} {sentence : Sentence} → sentence_of w ≡ Some sentence → words (pieces_steps (pieces_of s)) ≡ w ∷ rest → OfClass sentence.class s → Reads true false sentence.form (pieces_of s) (Stated s) → Begun s
begun_as w k e c h = record { word = w; rest = _; sentence = _; known = k; spelled = e; class = c; leads = reads_leads h }

-- ---- counting, and modifiers

pub read_range : {e d : Bool} {x : Value} (g : Name → Tree → Tree → Option Tree → Form) (v : Name) (start limit : Tree) (step : Option Tree) → ArePieces (range v start limit step) → Reads e d (g v start limit step) [] x → Reads e d (range_form g) (range v start limit step) x
read_range g v start limit None a h = read_name a.0 (read_sign (read_expr a.1.1.0 refl (read_key (read_expr a.1.1.1.1.0 refl (read_not_key refl tt h)))))
read_range g v start limit (Some step) a h = read_name a.0 (read_sign (read_expr a.1.1.0 refl (read_key (read_expr a.1.1.1.1.0 refl (read_if_key (read_expr a.1.1.1.1.1.1.0 refl h))))))

-- a modifier begins with a known word; its nesting level opens with that word, and does not end in
-- the modifier
pub record ModifierBegun (m : ModifierTree) : Type 0 where
  pub word : Word
  pub rest : List Word
  pub form : Form
  pub known : modifier_of word ≡ Some form
  pub spelled : words (pieces_steps (modifier m)) ≡ word ∷ rest
  pub bound : ℕ
  pub by : (n : ℕ) → bound ≤ n → (r : List Word) (k : List Symbol) (vs : Values) → Ending true r → run (suc n) (words (pieces_steps (modifier m)) ++ r) (Go form ∷ k) vs ≡ run n r k (Modifying m ∷ vs)

modifier_as : (m : ModifierTree) (c : Keyword) (f : Form) (ps : List WordPiece) → modifier m ≡ opening c ∷ ps → modifier_of (Key c) ≡ Some (TakeKey true c f) → Reads true false f ps (Modifying m) → ModifierBegun m
modifier_as m c f ps e k h = record {
  word = Key c;
  rest = words (pieces_steps ps);
  form = TakeKey true c f;
  known = k;
  spelled = ap (λ x. words (pieces_steps x)) e;
  bound = h.bound;
  by = λ n b r ks vs x. ap (λ y. run (suc n) (words (pieces_steps y) ++ r) (Go (TakeKey true c f) ∷ ks) vs) e ∙ key_opened n c f _ ks vs ∙ h.by n b r ks vs x;
}

pub modifier_leads : (m : ModifierTree) → ArePieces (modifier m) → ModifierBegun m
modifier_leads (If t) a = modifier_as (If t) keyword.If _ _ refl refl (read_expr a.1.0 refl read_made)
modifier_leads (Unless t) a = modifier_as (Unless t) keyword.Unless _ _ refl refl (read_expr a.1.0 refl read_made)
modifier_leads (While t) a = modifier_as (While t) keyword.While _ _ refl refl (read_expr a.1.0 refl read_made)
modifier_leads (Until t) a = modifier_as (Until t) keyword.Until _ _ refl refl (read_expr a.1.0 refl read_made)
modifier_leads (ForModifier v start limit step) a = modifier_as (ForModifier v start limit step) keyword.For _ _ refl refl (read_range (λ x s l t. Made (Modifying (ForModifier x s l t))) v start limit step a.1 read_made)

-- The words of a statement with its modifiers lead the machine from the form of its first word to
-- the statement.
use Rattle.std.proofs.Common.{subst, ◌≡◌, ◌+◌, ◌-◌, max, ℕ, suc, ◌≤◌, Bool, true, false, not, ◌||◌, List, [], ◌∷◌, ◌++◌, Option, Some, None, refl, sym, ap, ◌∙◌, arith}
use Rattle.basic_tree.specs.declared.tokens.Keyword.{Keyword}
use Rattle.basic_tree.specs.declared.tokens.Keyword.TheVariants as keyword
use Rattle.basic_tree.specs.declared.tokens.Sign.TheVariants as sign
use Rattle.basic_tree.specs.SpellingWords.{Word, Key, Punctuation, words}
use Rattle.basic_tree.specs.Trees.{ModifierTree, StatementTree, Modified}
use Rattle.basic_tree.specs.SpellingStatements.{is_if, is_head, wants_else, closings, pieces_of}
use Rattle.basic_tree.specs.SpellingPieces.{WordPiece, pieces_steps, ArePieces}
use Rattle.basic_tree.specs.SpellingParts.{modifier}
use Rattle.grammar_machine.specs.MachineStack.{Value, Stated, Modifying, Modify, Symbol, Go, Do, Close, Modifiers, Form}
use Rattle.grammar_machine.specs.MachineSentences.{Class, Choice, Head, Simple, Sentence, sentence_of, key_modifier, modifier_of}
use Rattle.grammar_machine.specs.MachineRun.{run}
use Rattle.grammar_machine.proofs.PieceLists.{steps_append, pieces_split}
use Rattle.grammar_machine.proofs.FormLeads.{key_ends, word_ends, Ending, OfClass}
use Rattle.grammar_machine.proofs.MachineSteps.{run_do, run_close}
use Rattle.grammar_machine.proofs.MachineLeads.{words_append, words_parts}
use Rattle.grammar_machine.proofs.FormSimple.{ModifierBegun, modifier_leads}
use Rattle.grammar_machine.proofs.FormBegins.{simple_leads}
use Rattle.grammar_machine.proofs.LineSteps.{behind_clause_class, is_head_class, NoModifier, run_modifier, run_no_modifier}

-- ---- what may follow a whole statement: a separator, or an ELSE if one is allowed

abbrev pub key_finishes : Bool → Keyword → Bool
key_finishes e keyword.Else = e
key_finishes e other = false

abbrev pub word_finishes : Bool → Word → Bool
word_finishes e (Punctuation sign.Colon) = true
word_finishes e (Key k) = key_finishes e k
word_finishes e other = false

abbrev pub Finished : Bool → List Word → Type 0
Finished e [] = Unit {0}
Finished e (t ∷ ts) = word_finishes e t ≡ true

key_finished : (e : Bool) (k : Keyword) → key_finishes e k ≡ true → key_ends true k ≡ true
key_finished e keyword.Else h = refl
key_finished e k h = absurd cc

pub finished_ends : (e : Bool) (r : List Word) → Finished e r → Ending true r
finished_ends e [] h = tt
finished_ends e (Punctuation sign.Colon ∷ r) h = refl
finished_ends e (Key k ∷ r) h = key_finished e k h
finished_ends e (t ∷ r) h = absurd cc

key_widened : (e : Bool) (k : Keyword) → key_finishes false k ≡ true → key_finishes e k ≡ true
key_widened e keyword.Else h = absurd cc
key_widened e k h = absurd cc

pub finished_widened : (e : Bool) (r : List Word) → Finished false r → Finished e r
finished_widened e [] h = tt
finished_widened e (Punctuation sign.Colon ∷ r) h = refl
finished_widened e (Key k ∷ r) h = key_widened e k h
finished_widened e (t ∷ r) h = absurd cc

key_no_modifier : (e : Bool) (k : Keyword) → key_finishes e k ≡ true → key_modifier k ≡ None
key_no_modifier e keyword.Else h = refl
key_no_modifier e k h = absurd cc

pub finished_no_modifier : (e : Bool) (r : List Word) → Finished e r → NoModifier r
finished_no_modifier e [] h = tt
finished_no_modifier e (Punctuation sign.Colon ∷ r) h = refl
finished_no_modifier e (Key k ∷ r) h = key_no_modifier e k h
finished_no_modifier e (t ∷ r) h = absurd cc

abbrev ends_option : Option Form → Bool → Type 0
ends_option None b = b ≡ b
ends_option (Some f) b = b ≡ true

key_modifier_ends : (k : Keyword) → ends_option (key_modifier k) (key_ends true k)
key_modifier_ends keyword.If = refl
key_modifier_ends k = refl

modifier_word_ends : (t : Word) → ends_option (modifier_of t) (word_ends true t)
modifier_word_ends (Key k) = key_modifier_ends k
modifier_word_ends t = refl

-- a modifier may follow a statement
pub modifier_ends : (t : Word) (ts : List Word) (f : Form) → modifier_of t ≡ Some f → Ending true (t ∷ ts)
modifier_ends t ts f e = rw e at (modifier_word_ends t)

-- ---- the nesting levels that modifiers open

-- the nesting levels left before the statement, if this many are left after its last modifier
abbrev pub levels_before : StatementTree → ℕ → ℕ
levels_before (Modified s m) n = levels_before s (suc n)
levels_before other n = n

abbrev pub modifier_count : StatementTree → ℕ
modifier_count (Modified s m) = suc (modifier_count s)
modifier_count other = 0

-- the ends of those nesting levels
abbrev pub closes : StatementTree → List Symbol → List Symbol
closes (Modified s m) k = Close ∷ closes s k
closes other k = k

levels_count : (s : StatementTree) (n : ℕ) → levels_before s n ≡ n + modifier_count s
levels_count (Modified s m) n = levels_count s (suc n) ∙ omega arith
levels_count s n = omega arith

run_closes : (s : StatementTree) (n : ℕ) (r : List Word) (k : List Symbol) (vs : List Value) → run n r (closes s k) vs ≡ run (levels_before s n) r k vs
run_closes (Modified s m) n r k vs = run_close n r (closes s k) vs ∙ run_closes s (suc n) r k vs
run_closes s n r k vs = refl

-- the ends of nesting levels have no words
pub closings_words : (s : StatementTree) → words (pieces_steps (closings s)) ≡ []
closings_words (Modified s m) = closings_words s
closings_words s = refl

pub pieces_words : (a b : List WordPiece) (r : List Word) → words (pieces_steps (a ++ b)) ++ r ≡ words (pieces_steps a) ++ (words (pieces_steps b) ++ r)
pieces_words a b r = ap (λ x. words x ++ r) (steps_append a b) ∙ words_parts (pieces_steps a) (pieces_steps b) r

pub parts_before : (a b : List WordPiece) → ArePieces (a ++ b) → ArePieces a
parts_before a b h = (pieces_split a b h).0

pub parts_behind : (a b : List WordPiece) → ArePieces (a ++ b) → ArePieces b
parts_behind a b h = (pieces_split a b h).1

-- ---- a statement with modifiers

one_modifier : (m : ModifierTree) (d : ModifierBegun m) (s : StatementTree) (n : ℕ) → d.bound ≤ n → (r : List Word) (k : List Symbol) (vs : List Value) → Ending true r → run (suc n) (words (pieces_steps (modifier m)) ++ r) (Modifiers ∷ k) (Stated s ∷ vs) ≡ run n r (Modifiers ∷ Close ∷ k) (Stated (Modified s m) ∷ vs)
one_modifier m d s n le r k vs e =
    ap (λ ws. run (suc n) (ws ++ r) (Modifiers ∷ k) (Stated s ∷ vs)) d.spelled
    ∙ run_modifier (suc n) d.word (d.rest ++ r) d.form k (Stated s ∷ vs) d.known
    ∙ ap (λ ws. run (suc n) (ws ++ r) (Go d.form ∷ Do Modify ∷ Modifiers ∷ Close ∷ k) (Stated s ∷ vs)) (sym d.spelled)
    ∙ d.by n le r (Do Modify ∷ Modifiers ∷ Close ∷ k) (Stated s ∷ vs) e
    ∙ run_do n Modify r (Modifiers ∷ Close ∷ k) (Modifying m ∷ Stated s ∷ vs)

modifier_behind : (m : ModifierTree) (d : ModifierBegun m) (r : List Word) → Ending true (words (pieces_steps (modifier m)) ++ r)
modifier_behind m d r = subst (λ x. Ending true (x ++ r)) (sym d.spelled) (modifier_ends d.word (d.rest ++ r) d.form d.known)

-- a statement that may have modifiers, up to where the nesting levels of its modifiers end
pub record BegunModified (s : StatementTree) : Type 0 where
  pub word : Word
  pub rest : List Word
  pub sentence : Sentence
  pub known : sentence_of word ≡ Some sentence
  pub spelled : words (pieces_steps (pieces_of s)) ≡ word ∷ rest
  pub class : sentence.class ≡ Simple
  pub bound : ℕ
  pub by : (n : ℕ) → bound ≤ n → (r : List Word) (k : List Symbol) (vs : List Value) → Ending true r → run (levels_before s n) (words (pieces_steps (pieces_of s)) ++ r) (Go sentence.form ∷ Modifiers ∷ k) vs ≡ run n r (Modifiers ∷ closes s k) (Stated s ∷ vs)

class_simple : (c : Class) (s : StatementTree) → OfClass c s → is_if s ≡ false → is_head s ≡ false → c ≡ Simple
class_simple Choice s h i e = absurd cc
class_simple Head s h i e = absurd (cc (h.1))
class_simple Simple s h i e = refl

unmodified : (s : StatementTree) → is_if s ≡ false → is_head s ≡ false → closings s ≡ [] → ((n : ℕ) → levels_before s n ≡ n) → ((k : List Symbol) → closes s k ≡ k) → ArePieces (pieces_of s) → BegunModified s
unmodified s i e c l d h =
    let b = simple_leads s i c h in
    record {
      word = b.word;
      rest = b.rest;
      sentence = b.sentence;
      known = b.known;
      spelled = b.spelled;
      class = class_simple b.sentence.class s b.class i e;
      bound = b.leads.bound;
      by = λ n le r k vs x.
          ap (λ m. run m (words (pieces_steps (pieces_of s)) ++ r) (Go b.sentence.form ∷ Modifiers ∷ k) vs) (l n)
          ∙ b.leads.by n le r (Modifiers ∷ k) vs x
          ∙ ap (λ q. run n r (Modifiers ∷ q) (Stated s ∷ vs)) (sym (d k));
    }

one_more : (s : StatementTree) (m : ModifierTree) → BegunModified s → ModifierBegun m → BegunModified (Modified s m)
one_more s m b d = record {
  word = b.word;
  rest = b.rest ++ words (pieces_steps (modifier m));
  sentence = b.sentence;
  known = b.known;
  spelled =
      ap (λ x. words x) (steps_append (pieces_of s) (modifier m))
      ∙ words_append (pieces_steps (pieces_of s)) (pieces_steps (modifier m))
      ∙ ap (λ x. x ++ words (pieces_steps (modifier m))) b.spelled;
  class = b.class;
  bound = max b.bound d.bound;
  by = λ n le r k vs x.
      ap (λ ws. run (levels_before s (suc n)) ws (Go b.sentence.form ∷ Modifiers ∷ k) vs) (pieces_words (pieces_of s) (modifier m) r)
      ∙ b.by (suc n) (omega (arith, le)) (words (pieces_steps (modifier m)) ++ r) k vs (modifier_behind m d r)
      ∙ one_modifier m d s n (omega (arith, le)) r (closes s k) vs x;
}

pub neither : (a b : Bool) → not (a || b) ≡ true → (a ≡ false) × (b ≡ false)
neither true b h = absurd cc
neither false true h = absurd cc
neither false false h = (refl, refl)

pub begun_modified : (s : StatementTree) → is_if s ≡ false → is_head s ≡ false → ArePieces (pieces_of s) → BegunModified s
begun_modified (Modified s m) i e h =
    let x = neither (is_if s) (is_head s) h.0 in
    one_more s m (begun_modified s x.0 x.1 (parts_before (pieces_of s) (modifier m) h.1)) (modifier_leads m (parts_behind (pieces_of s) (modifier m) h.1))
begun_modified s i e h = unmodified s i e refl (λ n. refl) (λ k. refl) h

-- ---- every statement

-- a statement, up to where it ends
pub record Starts (s : StatementTree) : Type 0 where
  pub word : Word
  pub rest : List Word
  pub sentence : Sentence
  pub known : sentence_of word ≡ Some sentence
  pub spelled : words (pieces_steps (pieces_of s)) ≡ word ∷ rest
  pub class : is_head_class sentence.class ≡ is_head s
  pub bound : ℕ
  pub by : (n : ℕ) → bound ≤ n → (r : List Word) (k : List Symbol) (vs : List Value) → Finished (not (wants_else s)) r → run n (words (pieces_steps (pieces_of s)) ++ r) (Go sentence.form ∷ (behind_clause_class sentence.class ++ k)) vs ≡ run n r k (Stated s ∷ vs)

starts_modified : (s : StatementTree) → is_head s ≡ false → BegunModified s → Starts s
starts_modified s i b = record {
  word = b.word;
  rest = b.rest;
  sentence = b.sentence;
  known = b.known;
  spelled = b.spelled;
  class = ap (λ c. is_head_class c) b.class ∙ sym i;
  bound = b.bound + modifier_count s;
  by = λ n le r k vs x.
      let m : ℕ = n - modifier_count s in
      let same : levels_before s m ≡ n = levels_count s m ∙ omega (arith, le) in
      ap (λ c. run n (words (pieces_steps (pieces_of s)) ++ r) (Go b.sentence.form ∷ (behind_clause_class c ++ k)) vs) b.class
      ∙ subst (λ (y : ℕ). run y (words (pieces_steps (pieces_of s)) ++ r) (Go b.sentence.form ∷ Modifiers ∷ k) vs ≡ run y r k (Stated s ∷ vs)) same
      (b.by m (omega (arith, le)) r k vs (finished_ends (not (wants_else s)) r x)
      ∙ run_no_modifier m r (closes s k) s vs (finished_no_modifier (not (wants_else s)) r x)
      ∙ run_closes s m r k (Stated s ∷ vs));
}

class_head : (c : Class) (s : StatementTree) → OfClass c s → is_if s ≡ false → is_head s ≡ true → c ≡ Head
class_head Choice s h i e = absurd cc
class_head Head s h i e = refl
class_head Simple s h i e = absurd (cc (h.1))

starts_head : (s : StatementTree) → is_if s ≡ false → is_head s ≡ true → closings s ≡ [] → ArePieces (pieces_of s) → Starts s
starts_head s i e c h =
    let b = simple_leads s i c h in
    let x = class_head b.sentence.class s b.class i e in
    record {
      word = b.word;
      rest = b.rest;
      sentence = b.sentence;
      known = b.known;
      spelled = b.spelled;
      class = ap (λ y. is_head_class y) x ∙ sym e;
      bound = b.leads.bound;
      by = λ n le r k vs f.
          ap (λ y. run n (words (pieces_steps (pieces_of s)) ++ r) (Go b.sentence.form ∷ (behind_clause_class y ++ k)) vs) x
          ∙ b.leads.by n le r k vs (finished_ends (not (wants_else s)) r f);
    }

head_closings : (s : StatementTree) → is_head s ≡ true → closings s ≡ []
head_closings (Modified s m) e = absurd cc
head_closings s e = refl

-- every statement except IF
pub starts_other : (s : StatementTree) → is_if s ≡ false → ArePieces (pieces_of s) → Starts s
starts_other s i h = go (is_head s) refl where
  go : (b : Bool) → is_head s ≡ b → Starts s
  go true e = starts_head s i e (head_closings s e) h
  go false e = starts_modified s e (begun_modified s i e h)

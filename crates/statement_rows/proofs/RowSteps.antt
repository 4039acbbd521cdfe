-- From the pieces of a table entry to the statement of its word.
use Rattle.std.proofs.Common.{◌≡◌, ℕ, zero, suc, slice_index_or, ◌+◌, ◌≤◌, ◌<◌, List, [], ◌∷◌, length, drop, Option, Some, None, Result, Ok, Err, refl, sym, ap, subst, ◌∙◌, arith}
use Rattle.basic_expr.specs.declared.failures.Failure.{Failure}
use Rattle.basic_tree.specs.declared.tokens.Keyword.{Keyword}
use Rattle.basic_tree.specs.declared.tokens.Keyword.TheVariants as keyword
use Rattle.basic_tree.specs.declared.statements.Statement.{Statement}
use Rattle.basic_tree.specs.SpellingWords.{Word}
use Rattle.grammar_machine.specs.MachineSentences as sentences
use Rattle.grammar_machine.specs.MachineSentences.{Sentence, key_sentence}
use Rattle.grammar_machine.proofs.FormSteps.{run_made}
use Rattle.grammar_machine.specs.MachineStack.{Form, Go}
use Rattle.grammar_machine.specs.MachineRun.{run}
use Rattle.statement_parts.specs.declared.read.Read.{Read}
use Rattle.statement_parts.specs.ParsedForms.{Halts, Leads, States}
use Rattle.statement_parts.specs.Sentences.{StatesAs}
use Rattle.statement_parts.proofs.Parts.{no_memory_halts}
use Rattle.statement_rows.specs.declared.piece.Piece.{Piece}
use Rattle.statement_rows.specs.Slots.{PartTree, SlotTrees, nothing_read, added}
use Rattle.statement_rows.specs.Pieces.{PieceAdded, Rowed, piece_form, row_form}
use Rattle.statement_rows.specs.Rows.{row_of, statement_form}

-- ---- the pieces of a table entry, one after another

pub piece_next : (row : List Piece) (i : ℕ) (d : Piece) → i < length row → drop i row ≡ slice_index_or row i d ∷ drop (i + 1) row
piece_next [] i d h = absurd (omega (arith, h))
piece_next (p ∷ ps) zero d h = refl
piece_next (p ∷ ps) (suc i) d h = let e : suc i + 1 ≡ suc (i + 1) = omega arith in rw e (piece_next ps i d (omega (arith, h)))

pub row_begins : (n : ℕ) (ws : List Word) (from : ℕ) (row : List Piece) → from ≤ length ws → Rowed n ws from row nothing_read 0 from
row_begins n ws from row h = record { runs = λ g k vs. refl; after = omega arith; within = h }

pub piece_added : (n : ℕ) (ws : List Word) (from end : ℕ) (p : Piece) (old new : SlotTrees) (v : Option PartTree)
    → ((g : Option PartTree → Form) → Leads n n ws from end (piece_form p g) (g v))
    → new ≡ added old v
    → (g : SlotTrees → Form) → Leads n n ws from end (piece_form p (λ o. g (added old o))) (g new)
piece_added n ws from end p old new v h same g k vs =
    h (λ o. g (added old o)) k vs ∙ ap (λ (x : SlotTrees). run n (drop end ws) (Go (g x) ∷ k) vs) (sym same)

pub row_grows : (n : ℕ) (ws : List Word) (from : ℕ) (row : List Piece) (old new : SlotTrees) (count at end : ℕ) (p : Piece)
    → Rowed n ws from row old count at
    → drop count row ≡ p ∷ drop (count + 1) row
    → PieceAdded n ws at p old new (Ok end)
    → Rowed n ws from row new (count + 1) end
row_grows n ws from row old new count at end p r next h = record {
  runs = λ g k vs.
      r.runs g k vs
      ∙ ap (λ (x : List Piece). run n (drop at ws) (Go (row_form x old g) ∷ k) vs) next
      ∙ h.1 (λ o. row_form (drop (count + 1) row) o g) k vs;
  after = omega (arith, r.after, h.0.0);
  within = h.0.1;
}

pub row_halts : (n : ℕ) (ws : List Word) (from : ℕ) (row : List Piece) (read : SlotTrees) (count at : ℕ) (p : Piece) (e : Failure)
    → Rowed n ws from row read count at
    → drop count row ≡ p ∷ drop (count + 1) row
    → ((g : Option PartTree → Form) → Halts n ws at (piece_form p g) e)
    → (g : SlotTrees → Form) → Halts n ws from (row_form row nothing_read g) e
row_halts n ws from row read count at p e r next h g = λ halt is k vs.
    r.runs g k vs
    ∙ ap (λ (x : List Piece). run n (drop at ws) (Go (row_form x read g) ∷ k) vs) next
    ∙ h (λ o. row_form (drop (count + 1) row) (added read o) g) halt is k vs

pub row_ends : (n : ℕ) (ws : List Word) (from : ℕ) (row : List Piece) (read : SlotTrees) (count end : ℕ)
    → Rowed n ws from row read count end
    → drop count row ≡ []
    → (g : SlotTrees → Form) → Leads n n ws from end (row_form row nothing_read g) (g read)
row_ends n ws from row read count end r next g k vs =
    r.runs g k vs ∙ ap (λ (x : List Piece). run n (drop end ws) (Go (row_form x read g) ∷ k) vs) next

pub ruleset reading = (row_begins, row_grows, row_halts, row_ends, no_memory_halts)

pub ruleset adding = (piece_added, no_memory_halts)

-- ---- the statement of a table entry is that of its first word

pub ruleset making = (run_made)

-- the class of a sentence, and that of a word's
abbrev class_in : Option Sentence → sentences.Class
class_in None = sentences.Simple
class_in (Some b) = b.class

abbrev class_of : Keyword → sentences.Class
class_of k = class_in (key_sentence k)

-- if a word has a table entry, the grammar's sentence of the word is that entry
abbrev IsSentence : Keyword → Option (List Piece) → Type 0
IsSentence k None = k ≡ k
IsSentence k (Some row) = key_sentence k ≡ Some (record { class = class_of k; form = statement_form k row })

-- the last clause is checked for every word except FOR
sentence_is : (k : Keyword) → IsSentence k (row_of k)
sentence_is keyword.For = refl
sentence_is k = refl

-- a statement of a form is a sentence of that form, whatever its class
states_in : (n : ℕ) (ws : List Word) (from : ℕ) (c : sentences.Class) (f : Form) (r : Result (Read Statement) Failure) → States n ws from f r → StatesAs n ws from (Some (record { class = c; form = f })) r
states_in n ws from sentences.Choice f (Ok x) s = (s.0, tt)
states_in n ws from sentences.Choice f (Err e) s = (s.0, tt)
states_in n ws from sentences.Head f (Ok x) s = s
states_in n ws from sentences.Head f (Err e) s = s
states_in n ws from sentences.Simple f (Ok x) s = s
states_in n ws from sentences.Simple f (Err e) s = s

pub row_states : (n : ℕ) (ws : List Word) (from : ℕ) (k : Keyword) (row : List Piece) (r : Result (Read Statement) Failure) → row_of k ≡ Some row → States n ws from (statement_form k row) r → StatesAs n ws from (key_sentence k) r
row_states n ws from k row r is s =
    let same : key_sentence k ≡ Some (record { class = class_of k; form = statement_form k row }) = subst (λ x. IsSentence k x) is (sentence_is k) in
    subst (λ x. StatesAs n ws from x r) (sym same) (states_in n ws from (class_of k) (statement_form k row) r s)

pub ruleset rows = (row_states)

-- The options of GET, PUT and OPEN, and the number of CHAIN: what their forms read is what they
-- spell.
use Rattle.std.proofs.Common.{◌≡◌, Bool, true, false, inl, inr, List, ◌∷◌, ◌++◌, Option, Some, None}
use Rattle.basic_tree.specs.declared.tokens.Keyword.{Keyword}
use Rattle.basic_tree.specs.declared.tokens.Keyword.TheVariants as keyword
use Rattle.basic_tree.specs.declared.tokens.Sign.TheVariants as sign
use Rattle.basic_tree.specs.declared.parts.OpenFor.{OpenFor}
use Rattle.basic_tree.specs.SpellingWords.{Word, LevelStep, words}
use Rattle.basic_tree.specs.Trees.{Tree, StatementTree, Open}
use Rattle.basic_tree.specs.SpellingExpressions.{steps_of}
use Rattle.basic_tree.specs.SpellingPieces.{perhaps, WordPiece, key, number, sign_piece}
use Rattle.basic_tree.specs.SpellingParts.{last_word, may_follow, option_of}
use Rattle.grammar_machine.specs.MachineStack.{Value, Stated}
use Rattle.grammar_machine.specs.MachineForms.{chains, begins_value, says, number_option, cluster_form, options_form, file_form}
use Rattle.basic_tree.proofs.GapLemmas.{second_of}
use Rattle.grammar_machine.proofs.MachineReads.{Reads, passes_first}
use Rattle.grammar_machine.proofs.SoundPieces.{Spells, ended, fixed, expression}

-- ---- GET, PUT, UNLOCK, FIELD and CLOSE

pub option_read : (k : Keyword) (s : Option Tree → StatementTree) (p : List LevelStep) (v : Value) → Reads (number_option k (λ o. says (s o))) p v → (o : Option Tree) × Spells (option_of k o) p × (Stated (s o) ≡ v)
option_read k s p v (inl x) = let a = x.2.2 in (Some a.0, fixed x.1 (fixed x.2.1 (expression a.2 a.3 a.4 (ended a.5.0))), a.5.1)
option_read k s p v (inr x) = (None, ended x.0, x.1)

-- ---- OPEN

cluster_read : (s : Option Tree → Option Tree → StatementTree) (p : List LevelStep) (v : Value) → Reads (cluster_form (λ c m. says (s c m))) p v → (c : Option Tree) × (m : Option Tree) × Spells (option_of keyword.ClusterSize c ++ option_of keyword.Mode m) p × (Stated (s c m) ≡ v)
cluster_read s p v (inl x) =
    elim x.2 [
      | inl y ↦
          let c = y.2 in
          let m = option_read keyword.Mode (λ m. s (Some c.0) m) c.1 v c.5 in
          (Some c.0, m.0, fixed x.1 (fixed y.1 (expression c.2 c.3 c.4 m.1)), m.2)
      | inr y ↦ let m = y.2 in (None, Some m.0, fixed x.1 (fixed y.1 (expression m.2 m.3 m.4 (ended m.5.0))), m.5.1)
    ]
cluster_read s p v (inr x) = (None, None, ended x.0, x.1)

options_read : (s : Option Tree → Option Tree → Option Tree → StatementTree) (p : List LevelStep) (v : Value) → Reads (options_form (λ r c m. says (s r c m))) p v → (r : Option Tree) × (c : Option Tree) × (m : Option Tree) × Spells (option_of keyword.RecordSize r ++ option_of keyword.ClusterSize c ++ option_of keyword.Mode m) p × (Stated (s r c m) ≡ v)
options_read s p v (inl x) =
    elim x.2 [
      | inl y ↦
          let r = y.2 in
          let o = cluster_read (λ c m. s (Some r.0) c m) r.1 v r.5 in
          (Some r.0, o.0, o.1, fixed x.1 (fixed y.1 (expression r.2 r.3 r.4 o.2)), o.3)
      | inr z ↦
          elim z [
            | inl y ↦
                let c = y.2 in
                let m = option_read keyword.Mode (λ m. s None (Some c.0) m) c.1 v c.5 in
                (None, Some c.0, m.0, fixed x.1 (fixed y.1 (expression c.2 c.3 c.4 m.1)), m.2)
            | inr y ↦ let m = y.2 in (None, None, Some m.0, fixed x.1 (fixed y.1 (expression m.2 m.3 m.4 (ended m.5.0))), m.5.1)
          ]
    ]
options_read s p v (inr x) = (None, None, None, ended x.0, x.1)

-- `AS FILE`, an optional `#`, the channel and the options
abbrev file_pieces : Bool → Tree → Option Tree → Option Tree → Option Tree → List WordPiece
file_pieces hash c r s m =
    key keyword.As ∷ key keyword.File
    ∷ (perhaps hash (sign_piece sign.Hash) ++ number c
    ∷ (option_of keyword.RecordSize r ++ option_of keyword.ClusterSize s ++ option_of keyword.Mode m))

pub record FileRead (file : Tree) (purpose : OpenFor) (p : List LevelStep) (v : Value) : Type 0 where
  pub hash : Bool
  pub channel : Tree
  pub record_size : Option Tree
  pub cluster_size : Option Tree
  pub mode : Option Tree
  pub spells : Spells (file_pieces hash channel record_size cluster_size mode) p
  pub is : Stated (Open file purpose hash channel record_size cluster_size mode) ≡ v

pub file_read : (file : Tree) (purpose : OpenFor) (p : List LevelStep) (v : Value) → Reads (file_form file purpose) p v → FileRead file purpose p v
file_read file purpose p v h =
    elim h.2.2 [
      | inl x ↦
          let c = x.2 in
          let o = options_read (λ r s m. Open file purpose true c.0 r s m) c.1 v c.5 in
          record { hash = true; channel = c.0; record_size = o.0; cluster_size = o.1; mode = o.2; spells = fixed h.1 (fixed h.2.1 (fixed x.1 (expression c.2 c.3 c.4 o.3))); is = o.4 }
      | inr c ↦
          let o = options_read (λ r s m. Open file purpose false c.0 r s m) c.1 v c.5 in
          record { hash = false; channel = c.0; record_size = o.0; cluster_size = o.1; mode = o.2; spells = fixed h.1 (fixed h.2.1 (expression c.2 c.3 c.4 o.3)); is = o.4 }
    ]

-- ---- CHAIN

pub passing_follows : (t : Tree) (w : Option Word) → passes_first (chains t) w ≡ true → may_follow (last_word (words (steps_of t))) w ≡ true
passing_follows t None h = absurd cc
passing_follows t (Some w) h = second_of (begins_value w) (may_follow (last_word (words (steps_of t))) (Some w)) h

-- The parts of LET, DEF and OPEN: their words lead the machine from their form to their tree.
use Rattle.std.proofs.Common.{◌≡◌, ℕ, suc, ◌≤◌, Bool, true, false, List, [], ◌∷◌, ◌++◌, length, Option, Some, None, refl, ap, arith}
use Rattle.std.specs.Prelude.{nat_lt}
use Rattle.basic_tree.specs.declared.names.Name.{Name}
use Rattle.basic_tree.specs.declared.tokens.Keyword.TheVariants as keyword
use Rattle.basic_tree.specs.declared.tokens.Sign.TheVariants as sign
use Rattle.basic_tree.specs.declared.kinds.Want.{Want}
use Rattle.basic_tree.specs.declared.kinds.Want.TheVariants as want
use Rattle.basic_tree.specs.declared.parts.OpenFor.{OpenFor}
use Rattle.basic_tree.specs.SpellingWords.{Punctuation}
use Rattle.basic_tree.specs.Trees.{Tree, Def, Let, Open}
use Rattle.basic_tree.specs.SpellingExpressions.{is_text, want_of}
use Rattle.basic_tree.specs.SpellingPieces.{optional, perhaps, WordPiece, Expression, Holds, ArePieces, key, sign_piece, number, target, after_commas, many}
use Rattle.basic_tree.specs.SpellingParts.{value, option_of}
use Rattle.grammar_machine.specs.MachineStack.{Value, Stated, TargetItem, Targets, Parameters, Form, TakeSign, ExprOf}
use Rattle.grammar_machine.specs.MachineForms.{says, targets_in, targets_form, value_form, opens, options_form, file_form}
use Rattle.grammar_machine.proofs.FormReads.{Reads, stopping, absent}
use Rattle.grammar_machine.proofs.FormParts.{read_made, read_key, read_sign, read_if_key, read_if_sign, read_not_key, read_not_sign, read_expr, read_target}
use Rattle.grammar_machine.proofs.PieceLists.{pieces_split}
use Rattle.grammar_machine.proofs.FormLists.{HasRoom, fits_behind, read_more, targets_back, one_target}
use Rattle.grammar_machine.proofs.FormStatements.{made_of}

-- ---- LET

-- the words of an expression do not depend on the kind that is expected
other_want : {e d b : Bool} {f : Form} {w u : Want} {t : Tree} {ps : List WordPiece} {v : Value} → Reads e d f (Holds b ∷ Expression w t ∷ ps) v → Reads e d f (Holds b ∷ Expression u t ∷ ps) v
other_want a = record { bound = a.bound; by = a.by }

pub read_targets : {e : Bool} (word : Bool) (t : Tree) (ts : List Tree) (v : Tree) → ArePieces (many (λ x. target (want_of (is_text t)) x) (t ∷ ts) ++ value (is_text t) v) → Reads e false (targets_form word) (many (λ x. target (want_of (is_text t)) x) (t ∷ ts) ++ value (is_text t) v) (Stated (Let word (t ∷ ts) v))
read_targets word t ts v a =
    let w : Want = want_of (is_text t) in
    let parts : ArePieces (after_commas (λ x. target w x) ts) × ArePieces (value (is_text t) v) = pieces_split (after_commas (λ x. target w x) ts) (value (is_text t) v) a.1.1 in
    other_want (read_target {w = want.Either} a.0 (a.1.0.0, tt) (fits_behind (λ x. target w x) (λ ps. absent (Punctuation sign.Opening) ps) (λ ps. refl) ts (value (is_text t) v) refl) a.1.1
    (read_more (Targets w) (λ x. target w x) TargetItem (λ ps. absent (Punctuation sign.Opening) ps) (suc (length ts)) (one_target w) (λ ps. refl) (λ items b. refl) ts (TargetItem t ∷ []) (λ items. TakeSign false sign.Equal (ExprOf w (λ x. says (Let word (targets_in items) x)))) (value (is_text t) v) (omega arith) parts.0 parts.1 refl refl
    (read_sign (read_expr parts.1.1.0 refl (made_of (λ x. Let word x v) _ _ (ap (λ x. t ∷ x) (targets_back ts)))))))

-- ---- DEF

pub room_of : HasRoom Parameters 5
room_of items h = grind (arith, h)

pub at_most : (n : ℕ) → nat_lt n 6 ≡ true → n ≤ 5
at_most n h = grind (arith, h)

pub read_definition : {e : Bool} (f : Name) (ps : List Name) (v : Option Tree) → ArePieces (optional (λ t. value f.text t) v) → Reads e false (value_form f ps) (optional (λ t. value f.text t) v) (Stated (Def f ps v))
read_definition f ps None a = read_not_sign refl tt read_made
read_definition f ps (Some v) a = read_if_sign (read_expr a.1.0 refl read_made)

pub no_parameters : (f : Name) (v : Option Tree) → absent (Punctuation sign.Opening) (optional (λ t. value f.text t) v) ≡ true
no_parameters f None = refl
no_parameters f (Some v) = refl

-- ---- OPEN

-- the options of OPEN in their order
abbrev options : Option Tree → Option Tree → Option Tree → List WordPiece
options r c m = option_of keyword.RecordSize r ++ option_of keyword.ClusterSize c ++ option_of keyword.Mode m

options_stop : (r c m : Option Tree) → stopping (options r c m) ≡ true
options_stop (Some r) c m = refl
options_stop None (Some c) m = refl
options_stop None None (Some m) = refl
options_stop None None None = refl

read_options : {e : Bool} (t : Tree) (p : OpenFor) (hash : Bool) (n : Tree) (r c m : Option Tree) → ArePieces (options r c m) → Reads e false (options_form (λ x y z. opens t p hash n x y z)) (options r c m) (Stated (Open t p hash n r c m))
read_options t p hash n None None None a = read_not_sign refl tt read_made
read_options t p hash n None None (Some m) a = read_if_sign (read_not_key refl a.1 (read_not_key refl a.1 (read_key (read_expr a.1.1.0 refl read_made))))
read_options t p hash n None (Some c) None a = read_if_sign (read_not_key refl a.1 (read_if_key (read_expr a.1.1.0 refl (read_not_sign refl tt read_made))))
read_options t p hash n None (Some c) (Some m) a = read_if_sign (read_not_key refl a.1 (read_if_key (read_expr a.1.1.0 refl (read_if_sign (read_key (read_expr a.1.1.1.1.1.0 refl read_made))))))
read_options t p hash n (Some r) None None a = read_if_sign (read_if_key (read_expr a.1.1.0 refl (read_not_sign refl tt read_made)))
read_options t p hash n (Some r) None (Some m) a = read_if_sign (read_if_key (read_expr a.1.1.0 refl (read_if_sign (read_not_key refl a.1.1.1.1 (read_key (read_expr a.1.1.1.1.1.0 refl read_made))))))
read_options t p hash n (Some r) (Some c) None a = read_if_sign (read_if_key (read_expr a.1.1.0 refl (read_if_sign (read_if_key (read_expr a.1.1.1.1.1.0 refl (read_not_sign refl tt read_made))))))
read_options t p hash n (Some r) (Some c) (Some m) a = read_if_sign (read_if_key (read_expr a.1.1.0 refl (read_if_sign (read_if_key (read_expr a.1.1.1.1.1.0 refl (read_if_sign (read_key (read_expr a.1.1.1.1.1.1.1.1.0 refl read_made))))))))

-- `AS FILE`, an optional `#`, the channel and the options
abbrev file_pieces : Bool → Tree → Option Tree → Option Tree → Option Tree → List WordPiece
file_pieces hash n r c m = perhaps hash (sign_piece sign.Hash) ++ number n ∷ options r c m

pub read_file : {e : Bool} (t : Tree) (p : OpenFor) (hash : Bool) (n : Tree) (r c m : Option Tree) → ArePieces (file_pieces hash n r c m) → Reads e false (file_form t p) (key keyword.As ∷ key keyword.File ∷ file_pieces hash n r c m) (Stated (Open t p hash n r c m))
read_file t p true n r c m a = read_key (read_key (read_if_sign (read_expr a.1.0 (options_stop r c m) (read_options t p true n r c m a.1.1))))
read_file t p false n r c m a = read_key (read_key (read_not_sign refl a (read_expr a.0 (options_stop r c m) (read_options t p false n r c m a.1))))

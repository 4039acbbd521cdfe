-- The parts of DATA, PRINT and INPUT: their words lead the machine from their form to their tree.
use Rattle.std.proofs.Common.{subst, ◌≡◌, not, ℕ, Bool, true, false, List, [], ◌∷◌, ◌++◌, Option, Some, None, refl, sym, append_assoc}
use Rattle.std.proofs.lemmas.List.{append-nil}
use Rattle.basic_tree.specs.declared.tokens.Keyword.TheVariants as keyword
use Rattle.basic_tree.specs.declared.tokens.Sign.TheVariants as sign
use Rattle.basic_tree.specs.declared.kinds.Want.TheVariants as want
use Rattle.basic_tree.specs.declared.parts.Separator.{Separator}
use Rattle.basic_tree.specs.declared.parts.Separator.TheVariants as separator
use Rattle.basic_tree.specs.SpellingWords.{Word, Key, Punctuation, Plain}
use Rattle.basic_tree.specs.SpellingWords.{Item as ItemOf}
use Rattle.basic_tree.specs.Trees.{Tree, PrintedTree, Tab, PrintItemTree, PrintChannelTree, PromptTree, StatementTree, Data, Print, Input}
use Rattle.basic_tree.specs.Trees.{Value as ValueOf}
use Rattle.basic_tree.specs.SpellingPieces.{optional, each, WordPiece, Fixed, ArePieces, target, many}
use Rattle.basic_tree.specs.SpellingParts.{printed, print_item}
use Rattle.basic_tree.specs.SpellingStatements.{pieces_of}
use Rattle.grammar_machine.specs.MachineStack.{Value, Stated, TargetItem, Targets, MoreItems, MorePrinted}
use Rattle.grammar_machine.specs.MachineForms.{begins_value, says, targets_in}
use Rattle.grammar_machine.specs.MachineSentences.{input_targets}
use Rattle.grammar_machine.proofs.FormLeads.{word_ends}
use Rattle.grammar_machine.proofs.FormWords.{is_word}
use Rattle.grammar_machine.proofs.FormReads.{Reads, absent}
use Rattle.grammar_machine.proofs.FormParts.{read_made, read_holds, read_key, read_sign, read_if_sign, read_not_key, read_not_sign, read_opening, read_closing, read_expr, read_quoted, read_item_added, read_no_items, read_tab, read_value, read_nothing}
use Rattle.grammar_machine.proofs.PieceLists.{pieces_split}
use Rattle.grammar_machine.proofs.FormLists.{read_last_list, targets_back, one_target}
use Rattle.grammar_machine.proofs.FormSimple.{Begun, begun_as}

-- what is true of the elements of a list is true of the list
pub made_of : {A : Type 0} {e : Bool} (s : A → StatementTree) (a b : A) → a ≡ b → Reads e false (says (s a)) [] (Stated (s b))
made_of {e = e} s a b h = subst (λ x. Reads e false (says (s a)) [] (Stated (s x))) h read_made

-- ---- DATA

pub read_items : {e : Bool} (more items : List (List ℕ)) → Reads e false (MoreItems items (λ x. says (Data x))) (each (λ i. Fixed (Plain (ItemOf i)) ∷ []) more) (Stated (Data (items ++ more)))
read_items [] items = read_no_items (made_of Data _ _ (sym (append-nil items)))
read_items {e = e} (i ∷ more) items = read_item_added (subst (λ x. Reads e false (MoreItems (items ++ i ∷ []) (λ y. says (Data y))) (each (λ j. Fixed (Plain (ItemOf j)) ∷ []) more) (Stated (Data x))) (append_assoc items (i ∷ []) more) (read_items more (items ++ i ∷ [])))

-- ---- PRINT

read_print_item : {e : Bool} {v : Value} (c : Option PrintChannelTree) (items : List PrintItemTree) (p : PrintedTree) (s : Separator) (ps : List WordPiece) → ArePieces (print_item (record { printed = p; separator = s })) → ArePieces ps → Reads e false (MorePrinted c (items ++ record { printed = p; separator = s } ∷ [])) ps v → Reads e false (MorePrinted c items) (print_item (record { printed = p; separator = s }) ++ ps) v
read_print_item c items (ValueOf t) separator.Comma ps a q h = read_value a.0 (read_expr a.0 refl (read_if_sign h))
read_print_item c items (ValueOf t) separator.Semicolon ps a q h = read_value a.0 (read_expr a.0 refl (read_not_sign refl (tt, q) (read_if_sign h)))
read_print_item c items (Tab t) separator.Comma ps a q h = read_tab (read_opening (read_expr a.1.1.0 refl (read_closing (read_if_sign h))))
read_print_item c items (Tab t) separator.Semicolon ps a q h = read_tab (read_opening (read_expr a.1.1.0 refl (read_closing (read_not_sign refl (tt, q) (read_if_sign h)))))

read_last_printed : {e : Bool} (c : Option PrintChannelTree) (items : List PrintItemTree) (last : Option PrintedTree) → ArePieces (optional printed last) → Reads e false (MorePrinted c items) (optional printed last) (Stated (Print c items last))
read_last_printed c items None a = read_nothing
read_last_printed c items (Some (ValueOf t)) a = read_value a.0 (read_expr a.0 refl (read_not_sign refl tt (read_not_sign refl tt read_made)))
read_last_printed c items (Some (Tab t)) a = read_tab (read_opening (read_expr a.1.1.0 refl (read_closing (read_not_sign refl tt (read_not_sign refl tt read_made)))))

pub read_printed : {e : Bool} (c : Option PrintChannelTree) (list items : List PrintItemTree) (last : Option PrintedTree) → ArePieces (each print_item list ++ optional printed last) → Reads e false (MorePrinted c items) (each print_item list ++ optional printed last) (Stated (Print c (items ++ list) last))
read_printed {e = e} c [] items last a = subst (λ x. Reads e false (MorePrinted c items) (optional printed last) (Stated (Print c x last))) (sym (append-nil items)) (read_last_printed c items last a)
read_printed {e = e} c (i ∷ more) items last a =
    let same : (print_item i ++ each print_item more) ++ optional printed last ≡ print_item i ++ (each print_item more ++ optional printed last) = append_assoc (print_item i) (each print_item more) (optional printed last) in
    let parts : ArePieces (print_item i) × ArePieces (each print_item more ++ optional printed last) = pieces_split (print_item i) (each print_item more ++ optional printed last) (subst ArePieces same a) in
    subst (λ x. Reads e false (MorePrinted c items) x (Stated (Print c (items ++ i ∷ more) last))) (sym same)
    (read_print_item c items i.printed i.separator (each print_item more ++ optional printed last) parts.0 parts.1
    (subst (λ x. Reads e false (MorePrinted c (items ++ i ∷ [])) (each print_item more ++ optional printed last) (Stated (Print c x last))) (append_assoc items (i ∷ []) more)
    (read_printed c more (items ++ i ∷ []) last parts.1)))

-- a word with which no item begins, and which follows no statement, does not come first
pub no_item_with : (w : Word) → not (word_ends true w) ≡ true → not (begins_value w) ≡ true → not (is_word w (Key keyword.Tab)) ≡ true → (list : List PrintItemTree) (last : Option PrintedTree) → absent w (each print_item list ++ optional printed last) ≡ true
no_item_with w e v b [] None = e
no_item_with w e v b [] (Some (ValueOf t)) = v
no_item_with w e v b [] (Some (Tab t)) = b
no_item_with w e v b (i ∷ more) last = go i.printed i.separator where
  go : (p : PrintedTree) (s : Separator) → absent w ((print_item (record { printed = p; separator = s }) ++ each print_item more) ++ optional printed last) ≡ true
  go (ValueOf t) s = v
  go (Tab t) s = b

pub print_channelled : (c : PrintChannelTree) (comma : Bool) → c.comma ≡ comma → (list : List PrintItemTree) (last : Option PrintedTree) → ArePieces (pieces_of (Print (Some (record { number = c.number; comma = comma })) list last)) → Begun (Print (Some (record { number = c.number; comma = comma })) list last)
print_channelled c true e list last a = begun_as (Key keyword.Print) refl refl (refl, refl) (read_key (read_holds (read_if_sign (read_expr a.1.1.1.0 refl (read_if_sign (read_not_key (no_item_with (Key keyword.Using) refl refl refl list last) a.1.1.1.1.1 (read_printed (Some (record { number = c.number; comma = true })) list [] last a.1.1.1.1.1)))))))
print_channelled c false e [] None a = begun_as (Key keyword.Print) refl refl (refl, refl) (read_key (read_holds (read_if_sign (read_expr a.1.1.1.0 refl (read_not_sign refl tt read_made)))))
print_channelled c false e [] (Some p) a = absurd cc
print_channelled c false e (i ∷ list) last a = absurd cc

-- ---- INPUT

pub read_input : {e : Bool} (c : Option Tree) (p : Option PromptTree) (ts : List Tree) → ArePieces (many (λ t. target want.Either t) ts) → Reads e false (input_targets c p) (many (λ t. target want.Either t) ts) (Stated (Input c p ts))
read_input c p ts a = read_last_list (Targets want.Either) (λ t. target want.Either t) TargetItem (λ ps. absent (Punctuation sign.Opening) ps) (one_target want.Either) (λ ps. refl) (λ x. refl) ts (λ items. says (Input c p (targets_in items))) a refl (made_of (λ x. Input c p x) _ _ (targets_back ts))

pub input_prompted : (x : List ℕ) (s : Separator) (ts : List Tree) → ArePieces (pieces_of (Input None (Some (record { text = x; separator = s })) ts)) → Begun (Input None (Some (record { text = x; separator = s })) ts)
input_prompted x separator.Comma ts a = begun_as (Key keyword.Input) refl refl (refl, refl) (read_key (read_holds (read_not_key refl a.1.1 (read_not_sign refl a.1.1 (read_quoted (read_not_sign refl a.1.1.1 (read_sign (read_input None (Some (record { text = x; separator = separator.Comma })) ts a.1.1.1.1))))))))
input_prompted x separator.Semicolon ts a = begun_as (Key keyword.Input) refl refl (refl, refl) (read_key (read_holds (read_not_key refl a.1.1 (read_not_sign refl a.1.1 (read_quoted (read_if_sign (read_input None (Some (record { text = x; separator = separator.Semicolon })) ts a.1.1.1.1)))))))

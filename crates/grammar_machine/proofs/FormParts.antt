-- How each form reads the pieces before it, and what follows them.
use Rattle.std.proofs.Common.{◌≡◌, ◌+◌, ℕ, zero, suc, ◌≤◌, Bool, true, false, List, [], ◌∷◌, ◌++◌, Option, None, refl, sym, subst, ap, ◌∙◌, arith}
use Rattle.basic_tree.specs.declared.names.Name.{Name}
use Rattle.basic_tree.specs.declared.tokens.Keyword.{Keyword}
use Rattle.basic_tree.specs.declared.tokens.Keyword.TheVariants as keyword
use Rattle.basic_tree.specs.declared.tokens.Sign.{Sign}
use Rattle.basic_tree.specs.declared.tokens.Sign.TheVariants as sign
use Rattle.basic_tree.specs.declared.kinds.Want.{Want}
use Rattle.basic_tree.specs.declared.kinds.Want.TheVariants as want
use Rattle.basic_tree.specs.SpellingWords.{Word, Key, Punctuation, FnNamed, Number, Quotation, Plain, Opens, words}
use Rattle.basic_tree.specs.SpellingWords.{Item as ItemOf}
use Rattle.basic_tree.specs.Trees.{Tree, Variable, Element, PrintItemTree, PrintChannelTree, UsingItemTree, PrintUsing, Print}
use Rattle.basic_tree.specs.Trees.{Value as ValueOf}
use Rattle.basic_tree.specs.SpellingExpressions.{steps_of}
use Rattle.basic_tree.specs.SpellingPieces.{is_target, WordPiece, Fixed, Expression, NameOf, LiteralOf, Holds, pieces_steps, IsPiece, ArePieces, key, sign_piece, closing}
use Rattle.grammar_machine.specs.MachineStack.{Value, Values, Term, Stated, Symbol, Go, Await, Item, Sequence, Limit, within, Form, Made, TakeKey, TakeSign, TakeClosing, IfKey, IfSign, ExprOf, TargetOf, NameIn, FnNameIn, LiteralIn, LiteralIf, QuotedIf, ItemIn, MoreItems, MoreOf, MorePrinted, MoreUsing}
use Rattle.grammar_machine.specs.MachineForms.{begins_value, key_begins, item_form, has_room, printed_form, using_value_form}
use Rattle.grammar_machine.specs.MachineMoves.{tab_form}
use Rattle.grammar_machine.specs.MachineRun.{run}
use Rattle.grammar_machine.proofs.MachineSteps.{First, is_opening}
use Rattle.grammar_machine.proofs.MachineLeads.{Parted, words_parts}
use Rattle.grammar_machine.proofs.MachineComplete.{depth_of, whole, takes_kind}
use Rattle.grammar_machine.proofs.MachineForms.{complete}
use Rattle.grammar_machine.proofs.FormLeads.{word_ends, Ending}
use Rattle.grammar_machine.proofs.FormWords.{is_word, is_other_word, is_number, is_quotation, is_item}
use Rattle.grammar_machine.proofs.FormSteps.{run_made, run_await, run_expr, key_taken, sign_taken, sign_opened, closing_sign_taken, if_key, if_key_not, if_sign, if_sign_opens, if_sign_not, target_tightest, name_taken, fn_name_taken, literal_taken, literal_if, literal_if_not, quoted_if, quoted_if_not, item_taken, item_added, no_more_items, one_more, no_more, tab_printed, value_printed, nothing_printed, value_used, nothing_used}
use Rattle.grammar_machine.proofs.FormReads.{Reads, Begins, begins_tree, stopped_follows, stopped_parted, stopping, stopping_stopped, absent, absent_first}

pub read_made : {e : Bool} {v : Value} → Reads e false (Made v) [] v
read_made = record { bound = 0; by = λ n h r k vs x. run_made n _ r k vs }

pub read_holds : {e d b : Bool} {f : Form} {ps : List WordPiece} {v : Value} → Reads e d f ps v → Reads e d f (Holds b ∷ ps) v
read_holds a = record { bound = a.bound; by = a.by }

-- ---- keys and signs

pub read_key : {e d : Bool} {c : Keyword} {f : Form} {ps : List WordPiece} {v : Value} → Reads e d f ps v → Reads e d (TakeKey false c f) (key c ∷ ps) v
read_key a = record { bound = a.bound; by = λ n h r k vs x. key_taken n _ _ _ k vs ∙ a.by n h r k vs x }

pub read_sign : {e d : Bool} {s : Sign} {f : Form} {ps : List WordPiece} {v : Value} → Reads e d f ps v → Reads e d (TakeSign false s f) (sign_piece s ∷ ps) v
read_sign a = record { bound = a.bound; by = λ n h r k vs x. sign_taken n _ _ _ k vs ∙ a.by n h r k vs x }

pub read_if_key : {e d : Bool} {c : Keyword} {f g : Form} {ps : List WordPiece} {v : Value} → Reads e d f ps v → Reads e d (IfKey false c f g) (key c ∷ ps) v
read_if_key a = record { bound = a.bound; by = λ n h r k vs x. if_key n _ _ _ _ k vs ∙ a.by n h r k vs x }

pub read_if_sign : {e d : Bool} {s : Sign} {f g : Form} {ps : List WordPiece} {v : Value} → Reads e d f ps v → Reads e d (IfSign false s f g) (sign_piece s ∷ ps) v
read_if_sign a = record { bound = a.bound; by = λ n h r k vs x. if_sign n _ _ _ _ k vs ∙ a.by n h r k vs x }

pub read_not_key : {e d : Bool} {o : Bool} {c : Keyword} {f g : Form} {ps : List WordPiece} {v : Value} → absent (Key c) ps ≡ true → ArePieces ps → Reads e d g ps v → Reads e d (IfKey o c f g) ps v
read_not_key {c = c} {ps = ps} b i a = record { bound = a.bound; by = λ n h r k vs x. if_key_not n _ _ _ _ _ k vs (absent_first _ (Key c) ps r b i x) ∙ a.by n h r k vs x }

pub read_not_sign : {e d : Bool} {o : Bool} {s : Sign} {f g : Form} {ps : List WordPiece} {v : Value} → absent (Punctuation s) ps ≡ true → ArePieces ps → Reads e d g ps v → Reads e d (IfSign o s f g) ps v
read_not_sign {s = s} {ps = ps} b i a = record { bound = a.bound; by = λ n h r k vs x. if_sign_not n _ _ _ _ _ k vs (absent_first _ (Punctuation s) ps r b i x) ∙ a.by n h r k vs x }

-- a parenthesis opens a nesting level, which ends after it
opened_by : {e : Bool} {f : Form} {ps : List WordPiece} {v : Value} (a : Reads e true f ps v) (s : Sign) (n : ℕ) → suc a.bound ≤ n → (r : List Word) (k : List Symbol) (vs : Values) → Ending e r → run n (Punctuation s ∷ (words (pieces_steps ps) ++ r)) (Go (TakeSign true s f) ∷ k) vs ≡ run n r k (v ∷ vs)
opened_by a s zero h r k vs x = absurd (omega (arith, h))
opened_by a s (suc n) h r k vs x = sign_opened n s _ _ k vs ∙ a.by n (omega (arith, h)) r k vs x

pub read_opening : {e : Bool} {s : Sign} {f : Form} {ps : List WordPiece} {v : Value} → Reads e true f ps v → Reads e false (TakeSign true s f) (Fixed (Opens (Punctuation s)) ∷ ps) v
read_opening a = record { bound = suc a.bound; by = opened_by a _ }

if_opened_by : {e : Bool} {f : Form} {ps : List WordPiece} {v : Value} (a : Reads e true f ps v) (g : Form) (s : Sign) (n : ℕ) → suc a.bound ≤ n → (r : List Word) (k : List Symbol) (vs : Values) → Ending e r → run n (Punctuation s ∷ (words (pieces_steps ps) ++ r)) (Go (IfSign true s f g) ∷ k) vs ≡ run n r k (v ∷ vs)
if_opened_by a g s zero h r k vs x = absurd (omega (arith, h))
if_opened_by a g s (suc n) h r k vs x = if_sign_opens n s _ _ _ k vs ∙ a.by n (omega (arith, h)) r k vs x

pub read_if_opening : {e : Bool} {s : Sign} {f g : Form} {ps : List WordPiece} {v : Value} → Reads e true f ps v → Reads e false (IfSign true s f g) (Fixed (Opens (Punctuation s)) ∷ ps) v
read_if_opening a = record { bound = suc a.bound; by = if_opened_by a _ _ }

pub read_closing : {e : Bool} {f : Form} {ps : List WordPiece} {v : Value} → Reads e false f ps v → Reads e true (TakeClosing f) (sign_piece sign.Closing ∷ closing ∷ ps) v
read_closing a = record { bound = a.bound; by = λ n h r k vs x. closing_sign_taken n _ _ k vs ∙ a.by (suc n) (omega (arith, h)) r k vs x }

-- ---- expressions and targets

pub read_expr : {e d : Bool} {w : Want} {g : Tree → Form} {t : Tree} {ps : List WordPiece} {v : Value} → IsPiece (Expression w t) → stopping ps ≡ true → Reads e d (g t) ps v → Reads e d (ExprOf w g) (Expression w t ∷ ps) v
read_expr {e = e} {w = w} {g = g} {t = t} {ps = ps} i s a = record {
  bound = depth_of t + a.bound;
  by = λ n h r k vs x.
      ap (λ ws. run n ws (Go (ExprOf w g) ∷ k) vs) (words_parts (steps_of t) (pieces_steps ps) r)
      ∙ run_expr n w g _ k vs
      ∙ whole n t i.0 (complete t n i.0 (omega (arith, h))).leads w _ (Await g ∷ k) vs i.1 (stopped_follows _ (stopping_stopped e ps r s x)) (stopped_parted t _ (stopping_stopped e ps r s x))
      ∙ run_await n g _ k t vs
      ∙ a.by n (omega (arith, h)) r k vs x;
}

no_opening : (r : List Word) → First (is_word (Punctuation sign.Opening)) r → First is_opening r
no_opening [] h = tt
no_opening (Punctuation sign.Opening ∷ r) h = absurd cc
no_opening (Punctuation s ∷ r) h = refl
no_opening (t ∷ r) h = refl

-- a target as an expression of the highest precedence
target_by : (n : ℕ) (w : Want) (g : Tree → Form) (t : Tree) (r : List Word) (k : List Symbol) (vs : Values) → is_target t ≡ true → IsPiece (Expression w t) → depth_of t ≤ n → Parted t r → run n (words (steps_of t) ++ r) (Go (TargetOf w g) ∷ k) vs ≡ run n r (Await g ∷ k) (Term t ∷ vs)
target_by n w g (Variable name) r k vs h i d p = target_tightest n w g name r k vs (takes_kind w name.text (Variable name) refl i.1) ∙ (complete (Variable name) n i.0 d).leads.by w r (Await g ∷ k) vs i.1 tt p
target_by n w g (Element name ts) r k vs h i d p = target_tightest n w g name _ k vs (takes_kind w name.text (Element name ts) refl i.1) ∙ (complete (Element name ts) n i.0 d).leads.by w r (Await g ∷ k) vs i.1 tt p
target_by n w g t r k vs h i d p = absurd cc

pub read_target : {e d : Bool} {w : Want} {g : Tree → Form} {t : Tree} {ps : List WordPiece} {v : Value} → is_target t ≡ true → IsPiece (Expression w t) → absent (Punctuation sign.Opening) ps ≡ true → ArePieces ps → Reads e d (g t) ps v → Reads e d (TargetOf w g) (Holds (is_target t) ∷ Expression w t ∷ ps) v
read_target {e = e} {w = w} {g = g} {t = t} {ps = ps} q i s j a = record {
  bound = depth_of t + a.bound;
  by = λ n h r k vs x.
      ap (λ ws. run n ws (Go (TargetOf w g) ∷ k) vs) (words_parts (steps_of t) (pieces_steps ps) r)
      ∙ target_by n w g t _ k vs q i (omega (arith, h)) (λ y. no_opening _ (absent_first e (Punctuation sign.Opening) ps r s j x))
      ∙ run_await n g _ k t vs
      ∙ a.by n (omega (arith, h)) r k vs x;
}

-- ---- names and literals

pub read_name : {e d : Bool} {w : Want} {g : Name → Form} {name : Name} {ps : List WordPiece} {v : Value} → IsPiece (NameOf w name) → Reads e d (g name) ps v → Reads e d (NameIn w g) (NameOf w name ∷ ps) v
read_name {w = w} {g = g} {name = name} i a = record { bound = a.bound; by = λ n h r k vs x. name_taken n w g name _ k vs (takes_kind w name.text (Variable name) refl i) ∙ a.by n h r k vs x }

pub read_fn_name : {e d : Bool} {g : Name → Form} {name : Name} {ps : List WordPiece} {v : Value} → Reads e d (g name) ps v → Reads e d (FnNameIn g) (Fixed (Plain (FnNamed name)) ∷ ps) v
read_fn_name a = record { bound = a.bound; by = λ n h r k vs x. fn_name_taken n _ _ _ k vs ∙ a.by n h r k vs x }

pub read_literal : {e d : Bool} {l : Limit} {g : ℕ → Form} {c : ℕ} {b : Bool} {ps : List WordPiece} {v : Value} → within l c ≡ true → Reads e d (g c) ps v → Reads e d (LiteralIn l g) (LiteralOf b c ∷ ps) v
read_literal i a = record { bound = a.bound; by = λ n h r k vs x. literal_taken n _ _ _ _ k vs i ∙ a.by n h r k vs x }

pub read_if_literal : {e d : Bool} {l : Limit} {g : ℕ → Form} {f : Form} {c : ℕ} {b : Bool} {ps : List WordPiece} {v : Value} → within l c ≡ true → Reads e d (g c) ps v → Reads e d (LiteralIf l g f) (LiteralOf b c ∷ ps) v
read_if_literal i a = record { bound = a.bound; by = λ n h r k vs x. literal_if n _ _ _ _ _ k vs i ∙ a.by n h r k vs x }

-- no number can come after a statement, an item of DATA or a value
ending_number : (e : Bool) (r : List Word) → Ending e r → First is_number r
ending_number e [] h = tt
ending_number e (Number c ∷ r) h = absurd cc
ending_number e (t ∷ r) h = refl

ending_item : (e : Bool) (r : List Word) → Ending e r → First is_item r
ending_item e [] h = tt
ending_item e (ItemOf item ∷ r) h = absurd cc
ending_item e (t ∷ r) h = refl

ending_key_value : (e : Bool) (k : Keyword) → word_ends e (Key k) ≡ true → key_begins k ≡ false
ending_key_value e keyword.Else h = refl
ending_key_value e keyword.If h = refl
ending_key_value e keyword.Unless h = refl
ending_key_value e keyword.While h = refl
ending_key_value e keyword.Until h = refl
ending_key_value e keyword.For h = refl
ending_key_value e k h = absurd cc

pub ending_value : (e : Bool) (r : List Word) → Ending e r → First begins_value r
ending_value e [] h = tt
ending_value e (Key k ∷ r) h = ending_key_value e k h
ending_value e (Punctuation sign.Colon ∷ r) h = refl
ending_value e (Punctuation s ∷ r) h = absurd cc
ending_value e (t ∷ r) h = absurd cc

pub read_no_literal : {e d : Bool} {l : Limit} {g : ℕ → Form} {f : Form} {v : Value} → Reads e d f [] v → Reads e d (LiteralIf l g f) [] v
read_no_literal a = record { bound = a.bound; by = λ n h r k vs x. literal_if_not n _ _ _ r k vs (ending_number _ r x) ∙ a.by n h r k vs x }

pub read_quoted : {e d : Bool} {g : List ℕ → Form} {f : Form} {text : List ℕ} {ps : List WordPiece} {v : Value} → Reads e d (g text) ps v → Reads e d (QuotedIf g f) (Fixed (Plain (Quotation text)) ∷ ps) v
read_quoted a = record { bound = a.bound; by = λ n h r k vs x. quoted_if n _ _ _ _ k vs ∙ a.by n h r k vs x }

target_unquoted : (t : Tree) (r : List Word) → is_target t ≡ true → First is_quotation (words (steps_of t) ++ r)
target_unquoted (Variable name) r h = refl
target_unquoted (Element name ts) r h = refl
target_unquoted t r h = absurd cc

pub read_unquoted : {e d : Bool} {g : List ℕ → Form} {f : Form} {w : Want} {t : Tree} {ps : List WordPiece} {v : Value} → is_target t ≡ true → Reads e d f (Holds (is_target t) ∷ Expression w t ∷ ps) v → Reads e d (QuotedIf g f) (Holds (is_target t) ∷ Expression w t ∷ ps) v
read_unquoted {t = t} {ps = ps} q a = record { bound = a.bound; by = λ n h r k vs x. quoted_if_not n _ _ _ k vs (subst (First is_quotation) (sym (words_parts (steps_of t) (pieces_steps ps) r)) (target_unquoted t _ q)) ∙ a.by n h r k vs x }

-- ---- lists

pub read_item : {e d : Bool} {g : List ℕ → Form} {item : List ℕ} {ps : List WordPiece} {v : Value} → Reads e d (g item) ps v → Reads e d (ItemIn g) (Fixed (Plain (ItemOf item)) ∷ ps) v
read_item a = record { bound = a.bound; by = λ n h r k vs x. item_taken n _ _ _ k vs ∙ a.by n h r k vs x }

pub read_item_added : {e d : Bool} {items : List (List ℕ)} {g : List (List ℕ) → Form} {item : List ℕ} {ps : List WordPiece} {v : Value} → Reads e d (MoreItems (items ++ item ∷ []) g) ps v → Reads e d (MoreItems items g) (Fixed (Plain (ItemOf item)) ∷ ps) v
read_item_added a = record { bound = a.bound; by = λ n h r k vs x. item_added n _ _ _ _ k vs ∙ a.by n h r k vs x }

pub read_no_items : {e d : Bool} {items : List (List ℕ)} {g : List (List ℕ) → Form} {v : Value} → Reads e d (g items) [] v → Reads e d (MoreItems items g) [] v
read_no_items a = record { bound = a.bound; by = λ n h r k vs x. no_more_items n _ _ r k vs (ending_item _ r x) ∙ a.by n h r k vs x }

pub read_one_more : {e d : Bool} {s : Sequence} {items : List Item} {g : List Item → Form} {ps : List WordPiece} {v : Value} → has_room s items ≡ true → Reads e d (item_form s (λ item. MoreOf s (items ++ item ∷ []) g)) ps v → Reads e d (MoreOf s items g) (sign_piece sign.Comma ∷ ps) v
read_one_more i a = record { bound = a.bound; by = λ n h r k vs x. one_more n _ _ _ _ k vs i ∙ a.by n h r k vs x }

pub read_no_more : {e d : Bool} {s : Sequence} {items : List Item} {g : List Item → Form} {ps : List WordPiece} {v : Value} → absent (Punctuation sign.Comma) ps ≡ true → ArePieces ps → Reads e d (g items) ps v → Reads e d (MoreOf s items g) ps v
read_no_more {ps = ps} b i a = record { bound = a.bound; by = λ n h r k vs x. no_more n _ _ _ _ k vs (absent_first _ (Punctuation sign.Comma) ps r b i x) ∙ a.by n h r k vs x }

pub read_tab : {e d : Bool} {c : Option PrintChannelTree} {items : List PrintItemTree} {ps : List WordPiece} {v : Value} → Reads e d (tab_form c items) ps v → Reads e d (MorePrinted c items) (key keyword.Tab ∷ ps) v
read_tab a = record { bound = a.bound; by = λ n h r k vs x. tab_printed n _ _ _ k vs ∙ a.by n h r k vs x }

-- what begins with a value is read by PRINT as one
printed_value : (n : ℕ) (c : Option PrintChannelTree) (items : List PrintItemTree) (ws : List Word) (k : List Symbol) (vs : Values) → Begins ws → run n ws (Go (MorePrinted c items) ∷ k) vs ≡ run n ws (Go (ExprOf want.Either (λ x. printed_form c items (ValueOf x))) ∷ k) vs
printed_value n c items ws k vs b =
    subst (λ y. run n y (Go (MorePrinted c items) ∷ k) vs ≡ run n y (Go (ExprOf want.Either (λ x. printed_form c items (ValueOf x))) ∷ k) vs) (sym b.spelled)
    (value_printed n c items b.word b.rest k vs b.begins (is_other_word begins_value (Key keyword.Tab) b.word refl b.begins))

pub begins_pieces : (w : Want) (t : Tree) (ps : List WordPiece) (r : List Word) → IsPiece (Expression w t) → Begins (words (pieces_steps (Expression w t ∷ ps)) ++ r)
begins_pieces w t ps r i = subst Begins (sym (words_parts (steps_of t) (pieces_steps ps) r)) (begins_tree t (words (pieces_steps ps) ++ r) i.0)

pub read_value : {e d : Bool} {c : Option PrintChannelTree} {items : List PrintItemTree} {t : Tree} {ps : List WordPiece} {v : Value} → IsPiece (Expression want.Either t) → Reads e d (ExprOf want.Either (λ x. printed_form c items (ValueOf x))) (Expression want.Either t ∷ ps) v → Reads e d (MorePrinted c items) (Expression want.Either t ∷ ps) v
read_value {t = t} {ps = ps} i a = record { bound = a.bound; by = λ n h r k vs x. printed_value n _ _ _ k vs (begins_pieces want.Either t ps r i) ∙ a.by n h r k vs x }

pub read_nothing : {e : Bool} {c : Option PrintChannelTree} {items : List PrintItemTree} → Reads e false (MorePrinted c items) [] (Stated (Print c items None))
read_nothing = record { bound = 0; by = λ n h r k vs x. nothing_printed n _ _ r k vs (ending_value _ r x) (absent_first _ (Key keyword.Tab) [] r refl tt x) }

used_value : (n : ℕ) (c : Option Tree) (format : Tree) (values : List UsingItemTree) (ws : List Word) (k : List Symbol) (vs : Values) → Begins ws → run n ws (Go (MoreUsing c format values) ∷ k) vs ≡ run n ws (Go (ExprOf want.Either (λ x. using_value_form c format values x)) ∷ k) vs
used_value n c format values ws k vs b =
    subst (λ y. run n y (Go (MoreUsing c format values) ∷ k) vs ≡ run n y (Go (ExprOf want.Either (λ x. using_value_form c format values x)) ∷ k) vs) (sym b.spelled)
    (value_used n c format values b.word b.rest k vs b.begins)

pub read_used : {e d : Bool} {c : Option Tree} {format : Tree} {values : List UsingItemTree} {t : Tree} {ps : List WordPiece} {v : Value} → IsPiece (Expression want.Either t) → Reads e d (ExprOf want.Either (λ x. using_value_form c format values x)) (Expression want.Either t ∷ ps) v → Reads e d (MoreUsing c format values) (Expression want.Either t ∷ ps) v
read_used {t = t} {ps = ps} i a = record { bound = a.bound; by = λ n h r k vs x. used_value n _ _ _ _ k vs (begins_pieces want.Either t ps r i) ∙ a.by n h r k vs x }

pub read_none_used : {e : Bool} {c : Option Tree} {format : Tree} {values : List UsingItemTree} → Reads e false (MoreUsing c format values) [] (Stated (PrintUsing c format values None))
read_none_used = record { bound = 0; by = λ n h r k vs x. nothing_used n _ _ _ r k vs (ending_value _ r x) }

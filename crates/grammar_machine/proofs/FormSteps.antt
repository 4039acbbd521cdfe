-- Single steps of the machine at the forms of statements, as equations.
use Rattle.std.proofs.Common.{◌≡◌, ℕ, suc, Bool, true, false, List, [], ◌∷◌, ◌++◌, Option, Some, None, refl, ap, append_assoc}
use Rattle.basic_tree.specs.declared.names.Name.{Name}
use Rattle.basic_tree.specs.declared.tokens.Keyword.{Keyword}
use Rattle.basic_tree.specs.declared.tokens.Keyword.TheVariants as keyword
use Rattle.basic_tree.specs.declared.tokens.Sign.{Sign}
use Rattle.basic_tree.specs.declared.tokens.Sign.TheVariants as sign
use Rattle.basic_tree.specs.declared.kinds.Want.{Want}
use Rattle.basic_tree.specs.declared.kinds.Want.TheVariants as want
use Rattle.basic_tree.specs.SpellingWords.{Word, Key, Punctuation, Named, FnNamed, Number, Quotation}
use Rattle.basic_tree.specs.SpellingWords.{Item as ItemOf}
use Rattle.basic_tree.specs.Trees.{Tree, PrintItemTree, PrintChannelTree, UsingItemTree, PrintUsing, Value as ValueOf, Print}
use Rattle.grammar_machine.specs.MachineStack.{Value, Values, Term, Stated, Symbol, Level, Subscripts, Go, Await, Item, Sequence, Limit, within, Form, Made, TakeKey, TakeSign, TakeClosing, IfKey, IfSign, ExprOf, ExprIf, TargetOf, NameIn, FnNameIn, LiteralIn, LiteralIf, QuotedIf, ItemIn, MoreItems, MoreOf, MorePrinted, MoreUsing, loosest}
use Rattle.grammar_machine.specs.MachineForms.{begins_value, item_form, has_room, printed_form, using_value_form}
use Rattle.grammar_machine.specs.MachineStarts.{Start, takes, start}
use Rattle.grammar_machine.specs.MachineMoves.{tab_form, begun, then_also}
use Rattle.grammar_machine.specs.MachineRun.{Turn, moved, turn, turned, run}
use Rattle.grammar_machine.proofs.MachineSteps.{First}
use Rattle.grammar_machine.proofs.FormWords.{key_is_same, sign_is_same, is_word, is_number, is_quotation, is_item}

-- ---- what needs no word

pub run_made : (n : ℕ) (v : Value) (ws : List Word) (k : List Symbol) (vs : Values) → run n ws (Go (Made v) ∷ k) vs ≡ run n ws k (v ∷ vs)
unfolding run
run_made n v [] k vs = refl
run_made n v (t ∷ ts) k vs = refl

pub run_await : (n : ℕ) (g : Tree → Form) (ws : List Word) (k : List Symbol) (t : Tree) (vs : Values) → run n ws (Await g ∷ k) (Term t ∷ vs) ≡ run n ws (Go (g t) ∷ k) vs
unfolding run
run_await n g [] k t vs = refl
run_await n g (w ∷ ws) k t vs = refl

moved_also : (s : Option Start) (n : ℕ) (more k : List Symbol) (f g : ℕ → Values → Turn) → moved (then_also more (begun s)) n k f ≡ moved (begun s) n (more ++ k) g
moved_also None n more k f g = refl
moved_also (Some s) n more k f g = rw append_assoc refl

pub run_expr : (n : ℕ) (w : Want) (g : Tree → Form) (ws : List Word) (k : List Symbol) (vs : Values) → run n ws (Go (ExprOf w g) ∷ k) vs ≡ run n ws (Level loosest w ∷ Await g ∷ k) vs
unfolding run
run_expr n w g [] k vs = refl
run_expr n w g (t ∷ ts) k vs = ap (λ (z : Turn). turned z (t ∷ ts) (λ m vs' k'. run m ts k' vs')) (moved_also (start loosest w vs t) n (Await g ∷ []) k (λ m vs'. turn k m vs' (Some t)) (λ m vs'. turn (Await g ∷ k) m vs' (Some t)))

-- ---- keys and signs

pub key_taken : (n : ℕ) (k : Keyword) (f : Form) (ws : List Word) (ks : List Symbol) (vs : Values) → run n (Key k ∷ ws) (Go (TakeKey false k f) ∷ ks) vs ≡ run n ws (Go f ∷ ks) vs
unfolding run
key_taken n k f ws ks vs = rw (key_is_same k) refl

pub key_opened : (n : ℕ) (k : Keyword) (f : Form) (ws : List Word) (ks : List Symbol) (vs : Values) → run (suc n) (Key k ∷ ws) (Go (TakeKey true k f) ∷ ks) vs ≡ run n ws (Go f ∷ ks) vs
unfolding run
key_opened n k f ws ks vs = rw (key_is_same k) refl

pub sign_taken : (n : ℕ) (s : Sign) (f : Form) (ws : List Word) (ks : List Symbol) (vs : Values) → run n (Punctuation s ∷ ws) (Go (TakeSign false s f) ∷ ks) vs ≡ run n ws (Go f ∷ ks) vs
unfolding run
sign_taken n s f ws ks vs = rw (sign_is_same s) refl

pub sign_opened : (n : ℕ) (s : Sign) (f : Form) (ws : List Word) (ks : List Symbol) (vs : Values) → run (suc n) (Punctuation s ∷ ws) (Go (TakeSign true s f) ∷ ks) vs ≡ run n ws (Go f ∷ ks) vs
unfolding run
sign_opened n s f ws ks vs = rw (sign_is_same s) refl

pub closing_sign_taken : (n : ℕ) (f : Form) (ws : List Word) (ks : List Symbol) (vs : Values) → run n (Punctuation sign.Closing ∷ ws) (Go (TakeClosing f) ∷ ks) vs ≡ run (suc n) ws (Go f ∷ ks) vs
unfolding run
closing_sign_taken n f [] ks vs = refl
closing_sign_taken n f (t ∷ ts) ks vs = refl

pub if_key : (n : ℕ) (k : Keyword) (f h : Form) (ws : List Word) (ks : List Symbol) (vs : Values) → run n (Key k ∷ ws) (Go (IfKey false k f h) ∷ ks) vs ≡ run n ws (Go f ∷ ks) vs
unfolding run
if_key n k f h ws ks vs = rw (key_is_same k) refl

pub if_key_opens : (n : ℕ) (k : Keyword) (f h : Form) (ws : List Word) (ks : List Symbol) (vs : Values) → run (suc n) (Key k ∷ ws) (Go (IfKey true k f h) ∷ ks) vs ≡ run n ws (Go f ∷ ks) vs
unfolding run
if_key_opens n k f h ws ks vs = rw (key_is_same k) refl

pub if_key_not : (n : ℕ) (o : Bool) (k : Keyword) (f h : Form) (ws : List Word) (ks : List Symbol) (vs : Values) → First (is_word (Key k)) ws → run n ws (Go (IfKey o k f h) ∷ ks) vs ≡ run n ws (Go h ∷ ks) vs
unfolding run
if_key_not n o k f h [] ks vs e = refl
if_key_not n o k f h (Key l ∷ ws) ks vs e = rw e refl
if_key_not n o k f h (t ∷ ws) ks vs e = refl

pub if_sign : (n : ℕ) (s : Sign) (f h : Form) (ws : List Word) (ks : List Symbol) (vs : Values) → run n (Punctuation s ∷ ws) (Go (IfSign false s f h) ∷ ks) vs ≡ run n ws (Go f ∷ ks) vs
unfolding run
if_sign n s f h ws ks vs = rw (sign_is_same s) refl

pub if_sign_opens : (n : ℕ) (s : Sign) (f h : Form) (ws : List Word) (ks : List Symbol) (vs : Values) → run (suc n) (Punctuation s ∷ ws) (Go (IfSign true s f h) ∷ ks) vs ≡ run n ws (Go f ∷ ks) vs
unfolding run
if_sign_opens n s f h ws ks vs = rw (sign_is_same s) refl

pub if_sign_not : (n : ℕ) (o : Bool) (s : Sign) (f h : Form) (ws : List Word) (ks : List Symbol) (vs : Values) → First (is_word (Punctuation s)) ws → run n ws (Go (IfSign o s f h) ∷ ks) vs ≡ run n ws (Go h ∷ ks) vs
unfolding run
if_sign_not n o s f h [] ks vs e = refl
if_sign_not n o s f h (Punctuation t ∷ ws) ks vs e = rw e refl
if_sign_not n o s f h (t ∷ ws) ks vs e = refl

-- ---- expressions and targets

pub expr_if : (n : ℕ) (test : Word → Bool) (w : Want) (g : Tree → Form) (h : Form) (t : Word) (ws : List Word) (k : List Symbol) (vs : Values) → test t ≡ true → run n (t ∷ ws) (Go (ExprIf test w g h) ∷ k) vs ≡ run n (t ∷ ws) (Go (ExprOf w g) ∷ k) vs
unfolding run
expr_if n test w g h t ws k vs e = rw e refl

pub expr_if_not : (n : ℕ) (test : Word → Bool) (w : Want) (g : Tree → Form) (h : Form) (ws : List Word) (k : List Symbol) (vs : Values) → First test ws → run n ws (Go (ExprIf test w g h) ∷ k) vs ≡ run n ws (Go h ∷ k) vs
unfolding run
expr_if_not n test w g h [] k vs e = refl
expr_if_not n test w g h (t ∷ ws) k vs e = rw e refl

pub target_taken : (n : ℕ) (w : Want) (g : Tree → Form) (name : Name) (ws : List Word) (k : List Symbol) (vs : Values) → takes w name.text ≡ true → run n (Named name ∷ ws) (Go (TargetOf w g) ∷ k) vs ≡ run n ws (Subscripts name ∷ Await g ∷ k) vs
unfolding run
target_taken n w g name ws k vs e = rw e refl

-- a target is taken as an expression of the highest precedence
pub target_tightest : (n : ℕ) (w : Want) (g : Tree → Form) (name : Name) (ws : List Word) (k : List Symbol) (vs : Values) → takes w name.text ≡ true → run n (Named name ∷ ws) (Go (TargetOf w g) ∷ k) vs ≡ run n (Named name ∷ ws) (Level 0 w ∷ Await g ∷ k) vs
unfolding run
target_tightest n w g name ws k vs e = rw e refl

-- ---- names and literals

pub name_taken : (n : ℕ) (w : Want) (g : Name → Form) (name : Name) (ws : List Word) (k : List Symbol) (vs : Values) → takes w name.text ≡ true → run n (Named name ∷ ws) (Go (NameIn w g) ∷ k) vs ≡ run n ws (Go (g name) ∷ k) vs
unfolding run
name_taken n w g name ws k vs e = rw e refl

pub fn_name_taken : (n : ℕ) (g : Name → Form) (name : Name) (ws : List Word) (k : List Symbol) (vs : Values) → run n (FnNamed name ∷ ws) (Go (FnNameIn g) ∷ k) vs ≡ run n ws (Go (g name) ∷ k) vs
unfolding run
fn_name_taken n g name ws k vs = refl

pub literal_taken : (n : ℕ) (limit : Limit) (g : ℕ → Form) (c : ℕ) (ws : List Word) (k : List Symbol) (vs : Values) → within limit c ≡ true → run n (Number c ∷ ws) (Go (LiteralIn limit g) ∷ k) vs ≡ run n ws (Go (g c) ∷ k) vs
unfolding run
literal_taken n limit g c ws k vs e = rw e refl

pub literal_if : (n : ℕ) (limit : Limit) (g : ℕ → Form) (h : Form) (c : ℕ) (ws : List Word) (k : List Symbol) (vs : Values) → within limit c ≡ true → run n (Number c ∷ ws) (Go (LiteralIf limit g h) ∷ k) vs ≡ run n ws (Go (g c) ∷ k) vs
unfolding run
literal_if n limit g h c ws k vs e = rw e refl

pub literal_if_not : (n : ℕ) (limit : Limit) (g : ℕ → Form) (h : Form) (ws : List Word) (k : List Symbol) (vs : Values) → First is_number ws → run n ws (Go (LiteralIf limit g h) ∷ k) vs ≡ run n ws (Go h ∷ k) vs
unfolding run
literal_if_not n limit g h [] k vs e = refl
literal_if_not n limit g h (Number c ∷ ws) k vs e = absurd cc
literal_if_not n limit g h (t ∷ ws) k vs e = refl

pub quoted_if : (n : ℕ) (g : List ℕ → Form) (h : Form) (text : List ℕ) (ws : List Word) (k : List Symbol) (vs : Values) → run n (Quotation text ∷ ws) (Go (QuotedIf g h) ∷ k) vs ≡ run n ws (Go (g text) ∷ k) vs
unfolding run
quoted_if n g h text ws k vs = refl

pub quoted_if_not : (n : ℕ) (g : List ℕ → Form) (h : Form) (ws : List Word) (k : List Symbol) (vs : Values) → First is_quotation ws → run n ws (Go (QuotedIf g h) ∷ k) vs ≡ run n ws (Go h ∷ k) vs
unfolding run
quoted_if_not n g h [] k vs e = refl
quoted_if_not n g h (Quotation text ∷ ws) k vs e = absurd cc
quoted_if_not n g h (t ∷ ws) k vs e = refl

-- ---- lists

pub item_taken : (n : ℕ) (g : List ℕ → Form) (item : List ℕ) (ws : List Word) (k : List Symbol) (vs : Values) → run n (ItemOf item ∷ ws) (Go (ItemIn g) ∷ k) vs ≡ run n ws (Go (g item) ∷ k) vs
unfolding run
item_taken n g item ws k vs = refl

pub item_added : (n : ℕ) (items : List (List ℕ)) (g : List (List ℕ) → Form) (item : List ℕ) (ws : List Word) (k : List Symbol) (vs : Values) → run n (ItemOf item ∷ ws) (Go (MoreItems items g) ∷ k) vs ≡ run n ws (Go (MoreItems (items ++ item ∷ []) g) ∷ k) vs
unfolding run
item_added n items g item ws k vs = refl

pub no_more_items : (n : ℕ) (items : List (List ℕ)) (g : List (List ℕ) → Form) (ws : List Word) (k : List Symbol) (vs : Values) → First is_item ws → run n ws (Go (MoreItems items g) ∷ k) vs ≡ run n ws (Go (g items) ∷ k) vs
unfolding run
no_more_items n items g [] k vs e = refl
no_more_items n items g (ItemOf item ∷ ws) k vs e = absurd cc
no_more_items n items g (t ∷ ws) k vs e = refl

pub one_more : (n : ℕ) (s : Sequence) (items : List Item) (g : List Item → Form) (ws : List Word) (k : List Symbol) (vs : Values) → has_room s items ≡ true → run n (Punctuation sign.Comma ∷ ws) (Go (MoreOf s items g) ∷ k) vs ≡ run n ws (Go (item_form s (λ item. MoreOf s (items ++ item ∷ []) g)) ∷ k) vs
unfolding run
one_more n s items g ws k vs e = rw e refl

pub no_more : (n : ℕ) (s : Sequence) (items : List Item) (g : List Item → Form) (ws : List Word) (k : List Symbol) (vs : Values) → First (is_word (Punctuation sign.Comma)) ws → run n ws (Go (MoreOf s items g) ∷ k) vs ≡ run n ws (Go (g items) ∷ k) vs
unfolding run
no_more n s items g [] k vs e = refl
no_more n s items g (Punctuation sign.Comma ∷ ws) k vs e = absurd cc
no_more n s items g (Punctuation t ∷ ws) k vs e = refl
no_more n s items g (t ∷ ws) k vs e = refl

pub tab_printed : (n : ℕ) (c : Option PrintChannelTree) (items : List PrintItemTree) (ws : List Word) (k : List Symbol) (vs : Values) → run n (Key keyword.Tab ∷ ws) (Go (MorePrinted c items) ∷ k) vs ≡ run n ws (Go (tab_form c items) ∷ k) vs
unfolding run
tab_printed n c items ws k vs = refl

pub value_printed : (n : ℕ) (c : Option PrintChannelTree) (items : List PrintItemTree) (t : Word) (ws : List Word) (k : List Symbol) (vs : Values) → begins_value t ≡ true → is_word (Key keyword.Tab) t ≡ false → run n (t ∷ ws) (Go (MorePrinted c items) ∷ k) vs ≡ run n (t ∷ ws) (Go (ExprOf want.Either (λ x. printed_form c items (ValueOf x))) ∷ k) vs
unfolding run
value_printed n c items (Key l) ws k vs e h = rw (h, e) refl
value_printed n c items (Number m) ws k vs e h = rw e refl
value_printed n c items (Punctuation s) ws k vs e h = rw e refl
value_printed n c items (ItemOf item) ws k vs e h = absurd cc
value_printed n c items t ws k vs e h = refl

pub nothing_printed : (n : ℕ) (c : Option PrintChannelTree) (items : List PrintItemTree) (ws : List Word) (k : List Symbol) (vs : Values) → First begins_value ws → First (is_word (Key keyword.Tab)) ws → run n ws (Go (MorePrinted c items) ∷ k) vs ≡ run n ws k (Stated (Print c items None) ∷ vs)
unfolding run
nothing_printed n c items [] k vs e h = refl
nothing_printed n c items (Key l ∷ ws) k vs e h = rw (h, e) refl
nothing_printed n c items (Number m ∷ ws) k vs e h = rw e refl
nothing_printed n c items (Punctuation s ∷ ws) k vs e h = rw e refl
nothing_printed n c items (ItemOf item ∷ ws) k vs e h = refl
nothing_printed n c items (t ∷ ws) k vs e h = absurd cc

pub value_used : (n : ℕ) (c : Option Tree) (format : Tree) (values : List UsingItemTree) (t : Word) (ws : List Word) (k : List Symbol) (vs : Values) → begins_value t ≡ true → run n (t ∷ ws) (Go (MoreUsing c format values) ∷ k) vs ≡ run n (t ∷ ws) (Go (ExprOf want.Either (λ x. using_value_form c format values x)) ∷ k) vs
unfolding run
value_used n c format values t ws k vs e = rw e refl

pub nothing_used : (n : ℕ) (c : Option Tree) (format : Tree) (values : List UsingItemTree) (ws : List Word) (k : List Symbol) (vs : Values) → First begins_value ws → run n ws (Go (MoreUsing c format values) ∷ k) vs ≡ run n ws k (Stated (PrintUsing c format values None) ∷ vs)
unfolding run
nothing_used n c format values [] k vs e = refl
nothing_used n c format values (t ∷ ws) k vs e = rw e refl

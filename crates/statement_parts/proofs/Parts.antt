-- Steps of the machine at names, literals, quoted strings and items.
use Rattle.std.proofs.Common.{◌≡◌, ℕ, zero, suc, true, false, ◌+◌, ◌-◌, ◌<◌, ◌≤◌, List, [], ◌∷◌, ◌++◌, length, drop, Option, Some, None, Err, refl, ap, sym, ◌∙◌, subst, arith}
use Rattle.basic_expr.specs.declared.failures.Failure.TheVariants as failure
use Rattle.basic_expr.specs.ParsedSymbols.{First, WordStands, is_sign}
use Rattle.basic_tree.specs.declared.kinds.Want.{Want}
use Rattle.basic_tree.specs.declared.names.Name.{Name}
use Rattle.basic_tree.specs.declared.tokens.Sign.TheVariants as sign
use Rattle.basic_tree.specs.SpellingWords.{Word, Punctuation, Named, FnNamed, Number, Quotation}
use Rattle.basic_tree.specs.SpellingWords.{Item as ItemOf}
use Rattle.grammar_machine.specs.MachineStarts.{takes}
use Rattle.grammar_machine.specs.MachineStack.{Values, Symbol, Go, Form, TakeSign, TakeClosing, IfSign, NameIn, FnNameIn, LiteralIn, LiteralIf, QuotedIf, ItemIn, MoreItems, Limit, within}
use Rattle.grammar_machine.specs.MachineRun.{Halt, Wrong, TooDeep, run}
use Rattle.grammar_machine.proofs.FormSteps.{name_taken, fn_name_taken, literal_taken, literal_if, item_taken, item_added, quoted_if, sign_opened, closing_sign_taken, if_sign_opens}
use Rattle.statement_parts.specs.ParsedForms.{Leads, Halts, named, fn_named, number, is_variable_name, is_fn_name, is_number, is_quotation, is_item, NameAt, FnNameAt, NumberAt, IfLiteral, IfQuoted, ItemAt, IfOpens, OpensThere}

pub some_halt : {x y : Halt} → Some x ≡ Some y → x ≡ y
some_halt e = cc

-- if memory ran out, nothing is claimed of the machine
pub no_memory_halts : (n : ℕ) (ws : List Word) (from : ℕ) (f : Form) → Halts n ws from f failure.NoMemory
no_memory_halts n ws from f = λ halt e. absurd cc

-- a word that is rejected
wrong_halts : (n : ℕ) (ws : List Word) (from : ℕ) (f : Form) → ((k : List Symbol) (vs : Values) → run n (drop from ws) (Go f ∷ k) vs ≡ Err (Wrong (drop from ws))) → Halts n ws from f (failure.Wrong from)
wrong_halts n ws from f h = λ halt e k vs. h k vs ∙ ap (λ (x : Halt). Err x) (some_halt e)

-- ---- what is at a place

pub name_there : (ws : List Word) (from : ℕ) (t : Word) (o : Option Name) → from < length ws → drop from ws ≡ t ∷ drop (from + 1) ws → o ≡ named t → NameAt ws from o
name_there ws from t o lt e is = subst (λ x. NameAt ws from x) (sym is) (go t e) where
  go : (t : Word) → drop from ws ≡ t ∷ drop (from + 1) ws → NameAt ws from (named t)
  go (Named name) e = (lt, e)
  go t e = rw e refl

pub fn_name_there : (ws : List Word) (from : ℕ) (t : Word) (o : Option Name) → from < length ws → drop from ws ≡ t ∷ drop (from + 1) ws → o ≡ fn_named t → FnNameAt ws from o
fn_name_there ws from t o lt e is = subst (λ x. FnNameAt ws from x) (sym is) (go t e) where
  go : (t : Word) → drop from ws ≡ t ∷ drop (from + 1) ws → FnNameAt ws from (fn_named t)
  go (FnNamed name) e = (lt, e)
  go t e = rw e refl

pub number_there : (ws : List Word) (from : ℕ) (t : Word) (o : Option ℕ) → from < length ws → drop from ws ≡ t ∷ drop (from + 1) ws → o ≡ number t → NumberAt ws from o
number_there ws from t o lt e is = subst (λ x. NumberAt ws from x) (sym is) (go t e) where
  go : (t : Word) → drop from ws ≡ t ∷ drop (from + 1) ws → NumberAt ws from (number t)
  go (Number n) e = (lt, e)
  go t e = rw e refl

pub no_name_at_end : (ws : List Word) (from : ℕ) → drop from ws ≡ [] → NameAt ws from None
no_name_at_end ws from e = rw e tt

pub no_fn_name_at_end : (ws : List Word) (from : ℕ) → drop from ws ≡ [] → FnNameAt ws from None
no_fn_name_at_end ws from e = rw e tt

pub no_number_at_end : (ws : List Word) (from : ℕ) → drop from ws ≡ [] → NumberAt ws from None
no_number_at_end ws from e = rw e tt

pub ruleset places = (name_there, fn_name_there, number_there, no_name_at_end, no_fn_name_at_end, no_number_at_end)

-- ---- names

pub name_stands : (ws : List Word) (from : ℕ) (name : Name) (w : Want) → WordStands ws (Named name) from → takes w name.text ≡ true → (n : ℕ) (g : Name → Form) → Leads n n ws from (from + 1) (NameIn w g) (g name)
name_stands ws from name w h fits n g = λ k vs. rw h.1 (name_taken n w g name (drop (from + 1) ws) k vs fits)

pub name_unfit : (ws : List Word) (from : ℕ) (name : Name) (w : Want) → WordStands ws (Named name) from → takes w name.text ≡ false → (n : ℕ) (g : Name → Form) → Halts n ws from (NameIn w g) (failure.Wrong from)
unfolding run
name_unfit ws from name w h unfit n g = wrong_halts n ws from (NameIn w g) (λ k vs. rw h.1 (rw unfit refl))

pub name_missing : (ws : List Word) (from : ℕ) (w : Want) → NameAt ws from None → (n : ℕ) (g : Name → Form) → Halts n ws from (NameIn w g) (failure.Wrong from)
unfolding run
name_missing ws from w h n g = wrong_halts n ws from (NameIn w g) (λ k vs. go (drop from ws) k vs h) where
  go : (ws : List Word) (k : List Symbol) (vs : Values) → First is_variable_name ws → run n ws (Go (NameIn w g) ∷ k) vs ≡ Err (Wrong ws)
  go [] k vs h = refl
  go (Named name ∷ ws) k vs h = absurd cc
  go (t ∷ ws) k vs h = refl

pub fn_name_stands : (ws : List Word) (from : ℕ) (name : Name) → FnNameAt ws from (Some name) → (n : ℕ) (g : Name → Form) → Leads n n ws from (from + 1) (FnNameIn g) (g name)
fn_name_stands ws from name h n g = λ k vs. rw h.1 (fn_name_taken n g name (drop (from + 1) ws) k vs)

pub fn_name_missing : (ws : List Word) (from : ℕ) → FnNameAt ws from None → (n : ℕ) (g : Name → Form) → Halts n ws from (FnNameIn g) (failure.Wrong from)
unfolding run
fn_name_missing ws from h n g = wrong_halts n ws from (FnNameIn g) (λ k vs. go (drop from ws) k vs h) where
  go : (ws : List Word) (k : List Symbol) (vs : Values) → First is_fn_name ws → run n ws (Go (FnNameIn g) ∷ k) vs ≡ Err (Wrong ws)
  go [] k vs h = refl
  go (FnNamed name ∷ ws) k vs h = absurd cc
  go (t ∷ ws) k vs h = refl

pub ruleset names = (name_stands, name_unfit, name_missing, fn_name_stands, fn_name_missing)

-- ---- literals

pub literal_stands : (ws : List Word) (from : ℕ) (c : ℕ) (limit : Limit) → WordStands ws (Number c) from → within limit c ≡ true → (n : ℕ) (g : ℕ → Form) → Leads n n ws from (from + 1) (LiteralIn limit g) (g c)
literal_stands ws from c limit h fits n g = λ k vs. rw h.1 (literal_taken n limit g c (drop (from + 1) ws) k vs fits)

pub literal_unfit : (ws : List Word) (from : ℕ) (c : ℕ) (limit : Limit) → WordStands ws (Number c) from → within limit c ≡ false → (n : ℕ) (g : ℕ → Form) → Halts n ws from (LiteralIn limit g) (failure.Wrong from)
unfolding run
literal_unfit ws from c limit h unfit n g = wrong_halts n ws from (LiteralIn limit g) (λ k vs. rw h.1 (rw unfit refl))

pub literal_missing : (ws : List Word) (from : ℕ) (limit : Limit) → NumberAt ws from None → (n : ℕ) (g : ℕ → Form) → Halts n ws from (LiteralIn limit g) (failure.Wrong from)
unfolding run
literal_missing ws from limit h n g = wrong_halts n ws from (LiteralIn limit g) (λ k vs. go (drop from ws) k vs h) where
  go : (ws : List Word) (k : List Symbol) (vs : Values) → First is_number ws → run n ws (Go (LiteralIn limit g) ∷ k) vs ≡ Err (Wrong ws)
  go [] k vs h = refl
  go (Number c ∷ ws) k vs h = absurd cc
  go (t ∷ ws) k vs h = refl

pub if_literal_stands : (ws : List Word) (from : ℕ) (c : ℕ) (limit : Limit) → WordStands ws (Number c) from → within limit c ≡ true → IfLiteral limit ws from (Some c)
if_literal_stands ws from c limit h fits = (h.0, λ n g f k vs. rw h.1 (literal_if n limit g f c (drop (from + 1) ws) k vs fits))

pub if_literal_unfit : (ws : List Word) (from : ℕ) (c : ℕ) (limit : Limit) → WordStands ws (Number c) from → within limit c ≡ false → IfLiteral limit ws from None
unfolding run
if_literal_unfit ws from c limit h unfit = λ n g f k vs. rw h.1 (rw unfit refl)

pub if_literal_missing : (ws : List Word) (from : ℕ) (limit : Limit) → NumberAt ws from None → IfLiteral limit ws from None
unfolding run
if_literal_missing ws from limit h = λ n g f k vs. go n g f (drop from ws) k vs h where
  go : (n : ℕ) (g : ℕ → Form) (f : Form) (ws : List Word) (k : List Symbol) (vs : Values) → First is_number ws → run n ws (Go (LiteralIf limit g f) ∷ k) vs ≡ run n ws (Go f ∷ k) vs
  go n g f [] k vs h = refl
  go n g f (Number c ∷ ws) k vs h = absurd cc
  go n g f (t ∷ ws) k vs h = refl

pub ruleset literals = (literal_stands, literal_unfit, literal_missing, if_literal_stands, if_literal_unfit, if_literal_missing)

-- ---- quoted strings

pub if_quoted_stands : (ws : List Word) (from : ℕ) (text : List ℕ) → from < length ws → drop from ws ≡ Quotation text ∷ drop (from + 1) ws → IfQuoted ws from (Some text)
if_quoted_stands ws from text lt e = (lt, λ n g f k vs. rw e (quoted_if n g f text (drop (from + 1) ws) k vs))

pub if_quoted_other : (ws : List Word) (from : ℕ) (t : Word) → drop from ws ≡ t ∷ drop (from + 1) ws → is_quotation t ≡ false → IfQuoted ws from None
unfolding run
if_quoted_other ws from t e other = λ n g f k vs. rw e (go n g f t (drop (from + 1) ws) k vs other) where
  go : (n : ℕ) (g : List ℕ → Form) (f : Form) (t : Word) (ws : List Word) (k : List Symbol) (vs : Values) → is_quotation t ≡ false → run n (t ∷ ws) (Go (QuotedIf g f) ∷ k) vs ≡ run n (t ∷ ws) (Go f ∷ k) vs
  go n g f (Quotation text) ws k vs h = absurd cc
  go n g f t ws k vs h = refl

pub if_quoted_end : (ws : List Word) (from : ℕ) → drop from ws ≡ [] → IfQuoted ws from None
unfolding run
if_quoted_end ws from e = λ n g f k vs. rw e refl

pub ruleset quotations = (if_quoted_stands, if_quoted_other, if_quoted_end, no_memory_halts)

-- ---- items of DATA

pub item_stands : (ws : List Word) (from : ℕ) (item : List ℕ) → ItemAt ws from (Some item) → (n : ℕ) (g : List ℕ → Form) → Leads n n ws from (from + 1) (ItemIn g) (g item)
item_stands ws from item h n g = λ k vs. rw h.1 (item_taken n g item (drop (from + 1) ws) k vs)

pub item_missing : (ws : List Word) (from : ℕ) → ItemAt ws from None → (n : ℕ) (g : List ℕ → Form) → Halts n ws from (ItemIn g) (failure.Wrong from)
unfolding run
item_missing ws from h n g = wrong_halts n ws from (ItemIn g) (λ k vs. go (drop from ws) k vs h) where
  go : (ws : List Word) (k : List Symbol) (vs : Values) → First is_item ws → run n ws (Go (ItemIn g) ∷ k) vs ≡ Err (Wrong ws)
  go [] k vs h = refl
  go (ItemOf item ∷ ws) k vs h = absurd cc
  go (t ∷ ws) k vs h = refl

pub item_there : (ws : List Word) (from : ℕ) (text : List ℕ) → from < length ws → drop from ws ≡ ItemOf text ∷ drop (from + 1) ws → ItemAt ws from (Some text)
item_there ws from text lt e = (lt, e)

pub item_elsewhere : (ws : List Word) (from : ℕ) (t : Word) → drop from ws ≡ t ∷ drop (from + 1) ws → is_item t ≡ false → ItemAt ws from None
item_elsewhere ws from t e other = rw e other

pub item_at_end : (ws : List Word) (from : ℕ) → drop from ws ≡ [] → ItemAt ws from None
item_at_end ws from e = rw e tt

pub one_more_item : (ws : List Word) (from : ℕ) (item : List ℕ) → ItemAt ws from (Some item) → (n : ℕ) (items : List (List ℕ)) (g : List (List ℕ) → Form) → Leads n n ws from (from + 1) (MoreItems items g) (MoreItems (items ++ item ∷ []) g)
one_more_item ws from item h n items g = λ k vs. rw h.1 (item_added n items g item (drop (from + 1) ws) k vs)

pub no_more_items : (ws : List Word) (from : ℕ) → ItemAt ws from None → (n : ℕ) (items : List (List ℕ)) (g : List (List ℕ) → Form) → Leads n n ws from from (MoreItems items g) (g items)
unfolding run
no_more_items ws from h n items g = λ k vs. go (drop from ws) k vs h where
  go : (ws : List Word) (k : List Symbol) (vs : Values) → First is_item ws → run n ws (Go (MoreItems items g) ∷ k) vs ≡ run n ws (Go (g items) ∷ k) vs
  go [] k vs h = refl
  go (ItemOf item ∷ ws) k vs h = absurd cc
  go (t ∷ ws) k vs h = refl

pub ruleset items = (item_stands, item_missing, item_there, item_elsewhere, item_at_end, one_more_item, no_more_items, no_memory_halts)

-- ---- parentheses

predecessor : (n : ℕ) → suc n - 1 ≡ n
predecessor n = omega arith

pub opens_level : (ws : List Word) (from n : ℕ) → 0 < n → WordStands ws (Punctuation sign.Opening) from → (f : Form) → Leads n (n - 1) ws from (from + 1) (TakeSign true sign.Opening f) f
opens_level ws from zero lt h f = absurd (omega (arith, lt))
opens_level ws from (suc n) lt h f = λ k vs. rw (h.1, predecessor n) (sign_opened n sign.Opening f (drop (from + 1) ws) k vs)

pub opens_too_deep : (ws : List Word) (from n : ℕ) → n ≤ 0 → WordStands ws (Punctuation sign.Opening) from → (f : Form) → Halts n ws from (TakeSign true sign.Opening f) (failure.TooDeep from)
unfolding run
opens_too_deep ws from (suc n) le h f = absurd (omega (arith, le))
opens_too_deep ws from zero le h f = λ halt e k vs. rw h.1 (ap (λ (x : Halt). Err x) (ap (λ (x : List Word). TooDeep x) (sym h.1) ∙ some_halt e))

pub opens_not : (ws : List Word) (from : ℕ) → First (is_sign sign.Opening) (drop from ws) → (n : ℕ) (f : Form) → Halts n ws from (TakeSign true sign.Opening f) (failure.Wrong from)
unfolding run
opens_not ws from h n f = wrong_halts n ws from (TakeSign true sign.Opening f) (λ k vs. go (drop from ws) k vs h) where
  go : (ws : List Word) (k : List Symbol) (vs : Values) → First (is_sign sign.Opening) ws → run n ws (Go (TakeSign true sign.Opening f) ∷ k) vs ≡ Err (Wrong ws)
  go [] k vs h = refl
  go (Punctuation s ∷ ws) k vs h = rw h refl
  go (t ∷ ws) k vs h = refl

pub closes_level : (ws : List Word) (from n : ℕ) → 0 < n → WordStands ws (Punctuation sign.Closing) from → (f : Form) → Leads (n - 1) n ws from (from + 1) (TakeClosing f) f
closes_level ws from zero lt h f = absurd (omega (arith, lt))
closes_level ws from (suc n) lt h f = λ k vs. rw (h.1, predecessor n) (closing_sign_taken n f (drop (from + 1) ws) k vs)

pub closes_not : (ws : List Word) (from : ℕ) → First (is_sign sign.Closing) (drop from ws) → (n : ℕ) (f : Form) → Halts n ws from (TakeClosing f) (failure.Wrong from)
unfolding run
closes_not ws from h n f = wrong_halts n ws from (TakeClosing f) (λ k vs. go (drop from ws) k vs h) where
  go : (ws : List Word) (k : List Symbol) (vs : Values) → First (is_sign sign.Closing) ws → run n ws (Go (TakeClosing f) ∷ k) vs ≡ Err (Wrong ws)
  go [] k vs h = refl
  go (Punctuation s ∷ ws) k vs h = rw h refl
  go (t ∷ ws) k vs h = refl

pub if_opens : (ws : List Word) (from n : ℕ) → 0 < n → WordStands ws (Punctuation sign.Opening) from → (f g : Form) → Leads n (n - 1) ws from (from + 1) (IfSign true sign.Opening f g) f
if_opens ws from zero lt h f g = absurd (omega (arith, lt))
if_opens ws from (suc n) lt h f g = λ k vs. rw (h.1, predecessor n) (if_sign_opens n sign.Opening f g (drop (from + 1) ws) k vs)

pub if_opens_too_deep : (ws : List Word) (from n : ℕ) → n ≤ 0 → WordStands ws (Punctuation sign.Opening) from → (f g : Form) → Halts n ws from (IfSign true sign.Opening f g) (failure.TooDeep from)
unfolding run
if_opens_too_deep ws from (suc n) le h f g = absurd (omega (arith, le))
if_opens_too_deep ws from zero le h f g = λ halt e k vs. rw h.1 (ap (λ (x : Halt). Err x) (ap (λ (x : List Word). TooDeep x) (sym h.1) ∙ some_halt e))

pub if_opens_not : (ws : List Word) (from : ℕ) → First (is_sign sign.Opening) (drop from ws) → (n : ℕ) → IfOpens n ws from false
unfolding run
if_opens_not ws from h n = λ f g k vs. go (drop from ws) f g k vs h where
  go : (ws : List Word) (f g : Form) (k : List Symbol) (vs : Values) → First (is_sign sign.Opening) ws → run n ws (Go (IfSign true sign.Opening f g) ∷ k) vs ≡ run n ws (Go g ∷ k) vs
  go [] f g k vs h = refl
  go (Punctuation s ∷ ws) f g k vs h = rw h refl
  go (t ∷ ws) f g k vs h = refl

pub opening_awaits : (ws : List Word) (from : ℕ) → WordStands ws (Punctuation sign.Opening) from → OpensThere ws from
unfolding run
opening_awaits ws from h = λ n f g k vs. rw h.1 (awaits n f g (drop (from + 1) ws) k vs) where
  awaits : (n : ℕ) (f g : Form) (ws : List Word) (k : List Symbol) (vs : Values) → run n (Punctuation sign.Opening ∷ ws) (Go (IfSign true sign.Opening f g) ∷ k) vs ≡ run n (Punctuation sign.Opening ∷ ws) (Go (TakeSign true sign.Opening f) ∷ k) vs
  awaits n f g ws k vs = refl

pub ruleset awaited = (opening_awaits)

pub ruleset openings = (opens_level, opens_too_deep, opens_not)

pub ruleset closings = (closes_level, closes_not)

pub ruleset choices = (if_opens, if_opens_too_deep, if_opens_not)

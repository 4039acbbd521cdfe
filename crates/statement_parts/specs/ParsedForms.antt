-- What the functions of the parser return, in terms of forms of the machine, whatever is expected
-- after them.
use Rattle.std.specs.Prelude.{◌≡◌, ℕ, Bool, true, false, ◌+◌, ◌-◌, ◌<◌, ◌≤◌, List, [], ◌∷◌, ◌++◌, length, drop, Option, Some, None, Result, Ok, Err}
use Rattle.basic_expr.specs.declared.failures.Failure.{Failure}
use Rattle.basic_expr.specs.declared.failures.Failure.TheVariants as failure
use Rattle.basic_tree.specs.declared.tokens.Keyword.{Keyword}
use Rattle.basic_tree.specs.declared.tokens.Sign.{Sign}
use Rattle.basic_tree.specs.declared.tokens.Sign.TheVariants as sign
use Rattle.basic_tree.specs.declared.names.Name.{Name}
use Rattle.basic_tree.specs.SpellingWords.{Word, Named, FnNamed, Number, Quotation}
use Rattle.basic_tree.specs.SpellingWords.{Item as ItemOf}
use Rattle.basic_expr.specs.ParsedSymbols.{First, WordStands}
use Rattle.basic_tree.specs.declared.statements.Statement.{Statement}
use Rattle.basic_tree.specs.StatementViews.{statement_of}
use Rattle.grammar_machine.specs.MachineStack.{Value, Values, Stated, Symbol, Go, Form, IfKey, IfSign, TakeKey, TakeSign, TakeClosing, LiteralIf, QuotedIf, ItemIn, MoreItems, Item, Sequence, MoreOf}
use Rattle.grammar_machine.specs.MachineForms.{has_room, item_form}
use Rattle.grammar_machine.specs.MachineStack.{Limit, LineNumber, Bound, Size}
use Rattle.grammar_machine.specs.MachineRun.{Halt, Wrong, TooDeep, run}
use Rattle.statement_parts.specs.declared.read.Read.{Read}
use Rattle.statement_parts.specs.declared.literals.Literal.{Literal}
use Rattle.statement_parts.specs.declared.literals.Literal.TheVariants as literal

-- where the machine stops at a failure; nothing is claimed if memory ran out
abbrev pub halt_at : List Word → Failure → Option Halt
halt_at ws failure.NoMemory = None
halt_at ws (failure.Wrong place) = Some (Wrong (drop place ws))
halt_at ws (failure.TooDeep place) = Some (TooDeep (drop place ws))

-- the place of a failure is one of the words, or their end
abbrev pub IsPlaced : List Word → Failure → Type 0
IsPlaced ws failure.NoMemory = Unit {0}
IsPlaced ws (failure.Wrong place) = place ≤ length ws
IsPlaced ws (failure.TooDeep place) = place < length ws

-- an end after a place
abbrev pub Behind : List Word → ℕ → ℕ → Type 0
Behind ws from end = (from < end) × (end ≤ length ws)

-- an end at a place or after it
abbrev pub From : List Word → ℕ → ℕ → Type 0
From ws from end = (from ≤ end) × (end ≤ length ws)

-- the words up to the end lead from one form to another, and from this many nesting levels to that
-- many
abbrev pub Leads : ℕ → ℕ → List Word → ℕ → ℕ → Form → Form → Type 0
Leads n m ws from end f g = (k : List Symbol) (vs : Values) → run n (drop from ws) (Go f ∷ k) vs ≡ run m (drop end ws) (Go g ∷ k) vs

-- the words up to the end make a value of a form
abbrev pub Makes : ℕ → List Word → ℕ → ℕ → Form → Value → Type 0
Makes n ws from end f v = (k : List Symbol) (vs : Values) → run n (drop from ws) (Go f ∷ k) vs ≡ run n (drop end ws) k (v ∷ vs)

-- at the form the machine stops at the failure
abbrev pub Halts : ℕ → List Word → ℕ → Form → Failure → Type 0
Halts n ws from f e = (halt : Halt) → halt_at ws e ≡ Some halt → (k : List Symbol) (vs : Values) → run n (drop from ws) (Go f ∷ k) vs ≡ Err halt

-- the word is there, and both the form that takes it and the one that asks for it continue after it
abbrev pub TakesKeyword : List Word → ℕ → Keyword → Type 0
TakesKeyword ws from key = (from < length ws) × ((n : ℕ) (f h : Form) → Leads n n ws from (from + 1) (IfKey false key f h) f) × ((n : ℕ) (f : Form) → Leads n n ws from (from + 1) (TakeKey false key f) f)

abbrev pub SkipsKey : List Word → ℕ → Keyword → Type 0
SkipsKey ws from key = (n : ℕ) (opens : Bool) (f h : Form) → Leads n n ws from from (IfKey opens key f h) h

abbrev pub TakesSign : List Word → ℕ → Sign → Type 0
TakesSign ws from s = (from < length ws) × ((n : ℕ) (f h : Form) → Leads n n ws from (from + 1) (IfSign false s f h) f) × ((n : ℕ) (f : Form) → Leads n n ws from (from + 1) (TakeSign false s f) f)

abbrev pub SkipsSign : List Word → ℕ → Sign → Type 0
SkipsSign ws from s = (n : ℕ) (opens : Bool) (f h : Form) → Leads n n ws from from (IfSign opens s f h) h

-- what a literal may be
abbrev pub limit_of : Literal → Limit
limit_of literal.LineNumber = LineNumber
limit_of literal.Bound = Bound
limit_of literal.Size = Size

-- ---- what a word is

abbrev pub named : Word → Option Name
named (Named name) = Some name
named other = None

abbrev pub fn_named : Word → Option Name
fn_named (FnNamed name) = Some name
fn_named other = None

abbrev pub number : Word → Option ℕ
number (Number n) = Some n
number other = None

abbrev pub is_variable_name : Word → Bool
is_variable_name (Named name) = true
is_variable_name other = false

abbrev pub is_fn_name : Word → Bool
is_fn_name (FnNamed name) = true
is_fn_name other = false

abbrev pub is_number : Word → Bool
is_number (Number n) = true
is_number other = false

abbrev pub is_quotation : Word → Bool
is_quotation (Quotation text) = true
is_quotation other = false

abbrev pub is_item : Word → Bool
is_item (ItemOf item) = true
is_item other = false

-- the name at a place, or none
abbrev pub NameAt : List Word → ℕ → Option Name → Type 0
NameAt ws from (Some name) = WordStands ws (Named name) from
NameAt ws from None = First is_variable_name (drop from ws)

abbrev pub FnNameAt : List Word → ℕ → Option Name → Type 0
FnNameAt ws from (Some name) = WordStands ws (FnNamed name) from
FnNameAt ws from None = First is_fn_name (drop from ws)

-- the number at a place, or none
abbrev pub NumberAt : List Word → ℕ → Option ℕ → Type 0
NumberAt ws from (Some n) = WordStands ws (Number n) from
NumberAt ws from None = First is_number (drop from ws)

-- an allowed literal at a place, or none
abbrev pub IfLiteral : Limit → List Word → ℕ → Option ℕ → Type 0
IfLiteral limit ws from (Some c) = (from < length ws) × ((n : ℕ) (g : ℕ → Form) (h : Form) → Leads n n ws from (from + 1) (LiteralIf limit g h) (g c))
IfLiteral limit ws from None = (n : ℕ) (g : ℕ → Form) (h : Form) → Leads n n ws from from (LiteralIf limit g h) h

-- a quoted string at a place, or none
abbrev pub IfQuoted : List Word → ℕ → Option (List ℕ) → Type 0
IfQuoted ws from (Some text) = (from < length ws) × ((n : ℕ) (g : List ℕ → Form) (h : Form) → Leads n n ws from (from + 1) (QuotedIf g h) (g text))
IfQuoted ws from None = (n : ℕ) (g : List ℕ → Form) (h : Form) → Leads n n ws from from (QuotedIf g h) h

-- an item of DATA at a place, or none
abbrev pub ItemAt : List Word → ℕ → Option (List ℕ) → Type 0
ItemAt ws from (Some item) = WordStands ws (ItemOf item) from
ItemAt ws from None = First is_item (drop from ws)

-- an opening parenthesis, which opens a nesting level, or none
abbrev pub IfOpens : ℕ → List Word → ℕ → Bool → Type 0
IfOpens n ws from true = (0 < n) × (from < length ws) × ((f h : Form) → Leads n (n - 1) ws from (from + 1) (IfSign true sign.Opening f h) f)
IfOpens n ws from false = (f h : Form) → Leads n n ws from from (IfSign true sign.Opening f h) h

-- an opening parenthesis: the form that asks for it does the same as the one that takes it
abbrev pub OpensThere : List Word → ℕ → Type 0
OpensThere ws from = (n : ℕ) (f h : Form) → Leads n n ws from from (IfSign true sign.Opening f h) (TakeSign true sign.Opening f)

-- ---- lists

-- after a comma there is one more element of a list, if the list can take it
abbrev pub AddsOne : List Word → ℕ → Bool → Type 0
AddsOne ws from room = (from < length ws) × ((n : ℕ) (s : Sequence) (items : List Item) (g : List Item → Form) → has_room s items ≡ room → Leads n n ws from (from + 1) (MoreOf s items g) (item_form s (λ item. MoreOf s (items ++ item ∷ []) g)))

-- the list ends
abbrev pub AddsNone : List Word → ℕ → Bool → Type 0
AddsNone ws from room = (n : ℕ) (s : Sequence) (items : List Item) (g : List Item → Form) → has_room s items ≡ room → Leads n n ws from from (MoreOf s items g) (g items)

-- after the first element of a list these were read, and more may follow
pub record Lists (n : ℕ) (ws : List Word) (s : Sequence) (from : ℕ) (first : Item) (items : List Item) (end : ℕ) : Type 0 where
  pub runs : (g : List Item → Form) → Leads n n ws from end (MoreOf s (first ∷ []) g) (MoreOf s items g)
  pub after : from ≤ end
  pub within : end ≤ length ws

-- these items of DATA were read, and more may follow
pub record Itemized (ws : List Word) (from : ℕ) (items : List (List ℕ)) (end : ℕ) : Type 0 where
  pub runs : (n : ℕ) (g : List (List ℕ) → Form) → Leads n n ws from end (ItemIn (λ item. MoreItems (item ∷ []) g)) (MoreItems items g)
  pub after : from < end
  pub within : end ≤ length ws

-- ---- statements, and parts with any form after them: what was read, or where the machine stops

-- a statement of this form
abbrev pub States : ℕ → List Word → ℕ → Form → Result (Read Statement) Failure → Type 0
States n ws from f (Ok x) = Behind ws from x.end × Makes n ws from x.end f (Stated (statement_of x.value))
States n ws from f (Err e) = IsPlaced ws e × Halts n ws from f e

-- the rest of a statement, which may be empty
abbrev pub StatesFrom : ℕ → List Word → ℕ → Form → Result (Read Statement) Failure → Type 0
StatesFrom n ws from f (Ok x) = From ws from x.end × Makes n ws from x.end f (Stated (statement_of x.value))
StatesFrom n ws from f (Err e) = IsPlaced ws e × Halts n ws from f e

-- a part, and then what is made of its value
abbrev pub Parts : {A G : Type 0} → ℕ → List Word → ℕ → (G → Form) → (A → G → Form) → Result (Read A) Failure → Type 0
Parts n ws from part behind (Ok x) = Behind ws from x.end × ((g : _) → Leads n n ws from x.end (part g) (behind x.value g))
Parts n ws from part behind (Err e) = IsPlaced ws e × ((g : _) → Halts n ws from (part g) e)

-- a part that may be empty
abbrev pub PartsFrom : {A G : Type 0} → ℕ → List Word → ℕ → (G → Form) → (A → G → Form) → Result (Read A) Failure → Type 0
PartsFrom n ws from part behind (Ok x) = From ws from x.end × ((g : _) → Leads n n ws from x.end (part g) (behind x.value g))
PartsFrom n ws from part behind (Err e) = IsPlaced ws e × ((g : _) → Halts n ws from (part g) e)

-- a part that opens no nesting level, with any number of nesting levels left
abbrev pub FlatParts : {A G : Type 0} → List Word → ℕ → (G → Form) → (A → G → Form) → Result (Read A) Failure → Type 0
FlatParts ws from part behind (Ok x) = Behind ws from x.end × ((n : ℕ) (g : _) → Leads n n ws from x.end (part g) (behind x.value g))
FlatParts ws from part behind (Err e) = IsPlaced ws e × ((n : ℕ) (g : _) → Halts n ws from (part g) e)

-- the same, if it may be empty
abbrev pub FlatPartsFrom : {A G : Type 0} → List Word → ℕ → (G → Form) → (A → G → Form) → Result (Read A) Failure → Type 0
FlatPartsFrom ws from part behind (Ok x) = From ws from x.end × ((n : ℕ) (g : _) → Leads n n ws from x.end (part g) (behind x.value g))
FlatPartsFrom ws from part behind (Err e) = IsPlaced ws e × ((n : ℕ) (g : _) → Halts n ws from (part g) e)

-- ---- words and signs that are expected

-- a word or a sign that opens no nesting level
abbrev pub TakesWord : List Word → ℕ → (Form → Form) → Result ℕ Failure → Type 0
TakesWord ws from part (Ok end) = Behind ws from end × ((n : ℕ) (f : Form) → Leads n n ws from end (part f) f)
TakesWord ws from part (Err e) = IsPlaced ws e × ((n : ℕ) (f : Form) → Halts n ws from (part f) e)

-- an opening parenthesis, which opens a nesting level
abbrev pub TakesOpening : ℕ → List Word → ℕ → Result ℕ Failure → Type 0
TakesOpening n ws from (Ok end) = Behind ws from end × (0 < n) × ((f : Form) → Leads n (n - 1) ws from end (TakeSign true sign.Opening f) f)
TakesOpening n ws from (Err e) = IsPlaced ws e × ((f : Form) → Halts n ws from (TakeSign true sign.Opening f) e)

-- the same, if it is optional
abbrev pub MayOpen : ℕ → List Word → ℕ → Result Bool Failure → Type 0
MayOpen n ws from (Ok stands) = IfOpens n ws from stands
MayOpen n ws from (Err e) = IsPlaced ws e × ((f h : Form) → Halts n ws from (IfSign true sign.Opening f h) e)

-- the closing parenthesis of a nesting level
abbrev pub TakesClosing : ℕ → List Word → ℕ → Result ℕ Failure → Type 0
TakesClosing n ws from (Ok end) = Behind ws from end × ((f : Form) → Leads (n - 1) n ws from end (TakeClosing f) f)
TakesClosing n ws from (Err e) = IsPlaced ws e × ((m : ℕ) (f : Form) → Halts m ws from (TakeClosing f) e)

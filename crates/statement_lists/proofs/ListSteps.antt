-- Lists with commas.
use Rattle.std.proofs.Common.{◌≡◌, ℕ, Bool, true, false, ◌+◌, List, [], ◌∷◌, ◌++◌, drop, map, refl, ap, ◌∙◌}
use Rattle.basic_expr.specs.declared.failures.Failure.{Failure}
use Rattle.basic_expr.specs.ParsedSymbols.{First, WordStands, is_sign}
use Rattle.basic_tree.specs.declared.tokens.Sign.TheVariants as sign
use Rattle.basic_tree.specs.declared.names.Name.{Name}
use Rattle.basic_tree.specs.declared.parts.Shape.{Shape}
use Rattle.basic_tree.specs.declared.parts.FileShape.{FileShape}
use Rattle.basic_tree.specs.declared.parts.Target.{Target}
use Rattle.basic_tree.specs.declared.parts.CloseChannel.{CloseChannel}
use Rattle.basic_tree.specs.declared.parts.FieldPart.{FieldPart}
use Rattle.basic_tree.specs.TreeViews.{target_of, close_channel_of, field_part_of}
use Rattle.statement_lists.specs.Items.{target_item, channel_item, part_item}
use Rattle.basic_tree.specs.SpellingWords.{Word, Punctuation}
use Rattle.grammar_machine.specs.MachineStack.{Values, Symbol, Go, Form, Item, ShapeItem, FileItem, NameItem, LineItem, Sequence, MoreOf}
use Rattle.grammar_machine.specs.MachineForms.{has_room, item_form, targets_in, shapes_in, files_in, names_in, lines_in, channels_in, parts_in}
use Rattle.grammar_machine.specs.MachineRun.{run}
use Rattle.grammar_machine.proofs.FormSteps.{one_more, run_made}
use Rattle.statement_parts.specs.ParsedForms.{Halts, AddsOne, AddsNone, Lists}

-- ---- one more

pub adds_one : (ws : List Word) (from : ℕ) → WordStands ws (Punctuation sign.Comma) from → AddsOne ws from true
adds_one ws from h = (h.0, λ n s items g room k vs. rw h.1 (one_more n s items g (drop (from + 1) ws) k vs room))

pub adds_none : (ws : List Word) (from : ℕ) → First (is_sign sign.Comma) (drop from ws) → (room : Bool) → AddsNone ws from room
unfolding run
adds_none ws from h room = λ n s items g e k vs. go (drop from ws) n s items g k vs h where
  go : (ws : List Word) (n : ℕ) (s : Sequence) (items : List Item) (g : List Item → Form) (k : List Symbol) (vs : Values) → First (is_sign sign.Comma) ws → run n ws (Go (MoreOf s items g) ∷ k) vs ≡ run n ws (Go (g items) ∷ k) vs
  go [] n s items g k vs h = refl
  go (Punctuation sign.Comma ∷ ws) n s items g k vs h = absurd cc
  go (Punctuation x ∷ ws) n s items g k vs h = refl
  go (t ∷ ws) n s items g k vs h = refl

-- if the list is full, a comma does not belong to it
pub no_room : (ws : List Word) (from : ℕ) → AddsNone ws from false
unfolding run
no_room ws from = λ n s items g e k vs. go (drop from ws) n s items g k vs e where
  go : (ws : List Word) (n : ℕ) (s : Sequence) (items : List Item) (g : List Item → Form) (k : List Symbol) (vs : Values) → has_room s items ≡ false → run n ws (Go (MoreOf s items g) ∷ k) vs ≡ run n ws (Go (g items) ∷ k) vs
  go [] n s items g k vs h = refl
  go (Punctuation sign.Comma ∷ ws) n s items g k vs h = rw h refl
  go (Punctuation x ∷ ws) n s items g k vs h = refl
  go (t ∷ ws) n s items g k vs h = refl

pub ruleset commas = (adds_one, adds_none, no_room)

-- ---- loops

pub list_halts : (n : ℕ) (ws : List Word) (s : Sequence) (from end : ℕ) (first : Item) (items : List Item) (room : Bool) (e : Failure)
    → Lists n ws s from first items end
    → AddsOne ws end room
    → has_room s items ≡ room
    → ((g : Item → Form) → Halts n ws (end + 1) (item_form s g) e)
    → (g : List Item → Form)
    → Halts n ws from (MoreOf s (first ∷ []) g) e
list_halts n ws s from end first items room e l a fits h g = λ halt is k vs. l.runs g k vs ∙ a.1 n s items g fits k vs ∙ h (λ i. MoreOf s (items ++ i ∷ []) g) halt is k vs

pub ruleset loops = (list_halts)

-- ---- what the elements of a list are

pub targets_same : (ts : List Target) → targets_in (map target_item ts) ≡ map target_of ts
targets_same [] = refl
targets_same (t ∷ ts) = ap (λ x. target_of t ∷ x) (targets_same ts)

pub shapes_same : (ts : List Shape) → shapes_in (map (λ (s : Shape). ShapeItem s) ts) ≡ ts
shapes_same [] = refl
shapes_same (t ∷ ts) = ap (λ x. t ∷ x) (shapes_same ts)

pub files_same : (ts : List FileShape) → files_in (map (λ (s : FileShape). FileItem s) ts) ≡ ts
files_same [] = refl
files_same (t ∷ ts) = ap (λ x. t ∷ x) (files_same ts)

pub names_same : (ts : List Name) → names_in (map (λ (n : Name). NameItem n) ts) ≡ ts
names_same [] = refl
names_same (t ∷ ts) = ap (λ x. t ∷ x) (names_same ts)

pub lines_same : (ts : List ℕ) → lines_in (map (λ (n : ℕ). LineItem n) ts) ≡ ts
lines_same [] = refl
lines_same (t ∷ ts) = ap (λ x. t ∷ x) (lines_same ts)

pub channels_same : (ts : List CloseChannel) → channels_in (map channel_item ts) ≡ map close_channel_of ts
channels_same [] = refl
channels_same (t ∷ ts) = ap (λ x. close_channel_of t ∷ x) (channels_same ts)

pub parts_same : (ts : List FieldPart) → parts_in (map part_item ts) ≡ map field_part_of ts
parts_same [] = refl
parts_same (t ∷ ts) = ap (λ x. field_part_of t ∷ x) (parts_same ts)

pub ruleset listed = (run_made, targets_same, shapes_same, files_same, names_same, lines_same, channels_same, parts_same)

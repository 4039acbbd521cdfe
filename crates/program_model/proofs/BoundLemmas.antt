-- A program means the same for all bounds that the units do not reach.
use Rattle.std.proofs.Common.{ℕ, zero, suc, ◌<◌, ◌≤◌, List, [], ◌∷◌, Option, Some, None, length, arith}
use Rattle.std.specs.Prelude.{nat_lt, Bool, true, false, map, ◌++◌, ℤ, is_some}
use Rattle.basic_values.specs.declared.failures.Halt.TheVariants.{TooDeep}
use Rattle.basic_tree.specs.declared.names.Name.{Name}
use Rattle.basic_tree.specs.Trees.{Tree, Literal, Quoted, Variable, Element, FunctionOf, Call, Parenthesized, Negative, Positive, Not, Operation, Comparison, Trees, NoTrees, AndTrees, PrintedTree, Value as ValueOf, Tab, PrintItemTree, ModifierTree, If, Unless, While, Until, ForModifier, StatementTree, IfThen, IfGoto, Modified, For, Def, Let, Result as ResultOf, Print, PrintUsing, Input, InputLine, Read, OnGoto, OnGosub, Chain, Field, Lset, Rset, UsingItemTree, Sleep, Open, Close, Get, Put, Unlock, Kill, Rename, MatLet, CloseChannelTree}
use Rattle.job_model.specs.Act.{Act, Gives, Breaks, Asks, Types, Takes, ◌then◌, Faulted, Halted}
use Rattle.program_model.specs.Program.{Program, Position, Way, whole, statement_at, inner_at, line_start, parameters_of, def_of, items_of}
use Rattle.record_fields.specs.declared.writing.Side.{Side}
use Rattle.record_fields.specs.declared.writing.Side.TheVariants.{Left, Right}
use Rattle.job_model.specs.Texts.{line_end}
use Rattle.program_model.specs.Job.{Value, number, text, Job, Deed, text_made, or_fault}
use Rattle.program_model.specs.FileArrays.{file_array}
use Rattle.program_model.specs.Justified.{justifies, justifies_by}
use Rattle.program_model.specs.Variables.{stored}
use Rattle.program_model.specs.Expressions.{Around, value_of, values_of}
use Rattle.program_model.specs.Targets.{stored_to, stored_to_all, wants_text}
use Rattle.program_model.specs.Items.{items_in_line, item_value}
use Rattle.program_model.specs.Control.{Onward, At, Behind, Leave, at_line, home_of, runs_at}
use Rattle.program_model.specs.Loops.{step_of, begins_loop, again, behind}
use Rattle.program_model.specs.DataItems.{item_taken, read_all}
use Rattle.program_model.specs.Printing.{value_bytes}
use Rattle.program_model.specs.PrintingOnChannels.{writes_on, tab_on, output_tested, print_one_on, separated_on, print_items_on, print_end_on, print_all_on, printed_to, or_terminal, used_values, writes_used, print_using_on}
use Rattle.program_model.specs.Input.{line_asked, prompt_text, enough, items_stored, line_on, input_on, input_line_on}
use Rattle.program_model.specs.Calls.{entered, arguments_stored, leaving, called, most_calls}
use Rattle.program_model.specs.Traps.{trapped}
use Rattle.program_model.specs.declared.file_acts.FileAct.{FileAct}
use Rattle.program_model.specs.declared.file_acts.FileAct.TheVariants as file
use Rattle.program_model.specs.Storage.{stores_by}
use Rattle.program_model.specs.FileActs.{act_by}
use Rattle.program_model.specs.FileStatements.{or_zero, in_order, acts_by, kind_for, close_each}
use Rattle.program_model.specs.Chaining.{line_operand}
use Rattle.program_model.specs.Parts.{matrix_expressions}
use Rattle.program_model.specs.Statements.{modified, file_act, does}
use Rattle.program_model.specs.Running.{Coming, Begin, Value_of, Out, reached_behind, reached, begun, one_line, out_or_at, body_at_def, calls_of, handler, ends_closed, runs, dimension_program, begins_with, runs_open, runs_cleared, raises_open, raises}
use Rattle.program_model.specs.Bounds.{Alike, gives, breaks, asks, types, spent, takes, BoundsAreEnough, BoundsAreEnoughFrom}

module _ {L S A : Type 0} where
  -- a tree is alike to itself
  pub same : (n : ℕ) (m : Act L S A) → Alike n m m
  same n (Gives a s) = gives
  same n (Breaks b s) = breaks
  same n (Asks r k) = asks (λ x. same n (k x))
  same n (Types k) = types (λ key. same n (k key))
  same zero (Takes s m) = spent
  same (suc n) (Takes s m) = takes (same n m)

  pub and_then : {B : Type 0} (n : ℕ) (m m' : Act L S A) (f f' : A → S → Act L S B) → Alike n m m' → ((k : ℕ) (a : A) (s : S) → k ≤ n → Alike k (f a s) (f' a s)) → Alike n (m then f) (m' then f')
  and_then n m m' f f' (gives {n = i} {a = a} {s = s}) h = h n a s (omega arith)
  and_then n m m' f f' breaks h = breaks
  and_then n m m' f f' (asks {n = i} {r = r} {k = k} {k' = k'} e) h = asks (λ x. and_then n (k x) (k' x) f f' (e x) h)
  and_then n m m' f f' (types {n = i} {k = k} {k' = k'} e) h = types (λ key. and_then n (k key) (k' key) f f' (e key) h)
  and_then n m m' f f' spent h = spent
  and_then n m m' f f' (takes {n = i} {s = s} {m = k} {m' = k'} e) h = takes (and_then i k k' f f' e (λ l a s le. h l a s (omega (arith, le))))

  -- the same, if more comes after it
  and_more : {B C : Type 0} (n : ℕ) (m m' : Act L S A) (f f' : A → S → Act L S B) (g g' : B → S → Act L S C) → Alike n m m' → ((k : ℕ) (a : A) (s : S) → k ≤ n → Alike k (f a s then g) (f' a s then g')) → Alike n ((m then f) then g) ((m' then f') then g')
  and_more n m m' f f' g g' (gives {n = i} {a = a} {s = s}) h = h n a s (omega arith)
  and_more n m m' f f' g g' breaks h = breaks
  and_more n m m' f f' g g' (asks {n = i} {r = r} {k = k} {k' = k'} e) h = asks (λ x. and_more n (k x) (k' x) f f' g g' (e x) h)
  and_more n m m' f f' g g' (types {n = i} {k = k} {k' = k'} e) h = types (λ key. and_more n (k key) (k' key) f f' g g' (e key) h)
  and_more n m m' f f' g g' spent h = spent
  and_more n m m' f f' g g' (takes {n = i} {s = s} {m = k} {m' = k'} e) h = takes (and_more i k k' f f' g g' e (λ l a s le. h l a s (omega (arith, le))))

module _ {R A : Type 0} where
  trapped_alike : (n : ℕ) (go : ℕ → A) (m m' : Deed R A) → Alike n m m' → Alike n (trapped go m) (trapped go m')
  trapped_alike n go m m' gives = gives
  trapped_alike n go m m' (breaks {n = i} {b = b} {s = s}) = same n (trapped go (Breaks b s))
  trapped_alike n go m m' (asks {n = i} {r = r} {k = k} {k' = k'} e) = asks (λ x. trapped_alike n go (k x) (k' x) (e x))
  trapped_alike n go m m' (types {n = i} {k = k} {k' = k'} e) = types (λ key. trapped_alike n go (k key) (k' key) (e key))
  trapped_alike n go m m' spent = spent
  trapped_alike n go m m' (takes {n = i} {s = s} {m = k} {m' = k'} e) = takes (trapped_alike i go k k' e)

  leaving_alike : (n line : ℕ) (m m' : Deed R A) → Alike n m m' → Alike n (leaving line m) (leaving line m')
  leaving_alike n line m m' gives = gives
  leaving_alike n line m m' breaks = breaks
  leaving_alike n line m m' (asks {n = i} {r = r} {k = k} {k' = k'} e) = asks (λ x. leaving_alike n line (k x) (k' x) (e x))
  leaving_alike n line m m' (types {n = i} {k = k} {k' = k'} e) = types (λ key. leaving_alike n line (k key) (k' key) (e key))
  leaving_alike n line m m' spent = spent
  leaving_alike n line m m' (takes {n = i} {s = s} {m = k} {m' = k'} e) = takes (leaving_alike i line k k' e)

  pub ends_closed_alike : (n : ℕ) (m m' : Deed R A) → Alike n m m' → Alike n (ends_closed m) (ends_closed m')
  ends_closed_alike n m m' gives = gives
  ends_closed_alike n m m' (breaks {n = i} {b = b} {s = s}) = same n (ends_closed (Breaks b s))
  ends_closed_alike n m m' (asks {n = i} {r = r} {k = k} {k' = k'} e) = asks (λ x. ends_closed_alike n (k x) (k' x) (e x))
  ends_closed_alike n m m' (types {n = i} {k = k} {k' = k'} e) = types (λ key. ends_closed_alike n (k key) (k' key) (e key))
  ends_closed_alike n m m' spent = spent
  ends_closed_alike n m m' (takes {n = i} {s = s} {m = k} {m' = k'} e) = takes (ends_closed_alike i k k' e)

  -- a call takes a unit, so its body has one less
  called_alike : (n : ℕ) (f : Name) (xs : List Name) (body body' : Job R → Deed R A) (vs : List Value) (j : Job R) → ((k : ℕ) (j : Job R) → k < n → Alike k (body j) (body' j)) → Alike n (called f xs body vs j) (called f xs body' vs j)
  called_alike zero f xs body body' vs j h = spent
  called_alike (suc n) f xs body body' vs j h = takes (go (nat_lt (length j.frames) most_calls))
    where
      inside : (k : ℕ) (j : Job R) → k ≤ n → Alike k (leaving j.line (arguments_stored xs vs j then λ _ j. body j)) (leaving j.line (arguments_stored xs vs j then λ _ j. body' j))
      inside k j le = leaving_alike k j.line _ _ (and_then k _ _ _ _ (same k (arguments_stored xs vs j)) (λ l _ j less. h l j (omega (arith, le, less))))

      go : (b : Bool) → Alike n (elim b [ true ↦ entered f xs j then λ _ j. leaving j.line (arguments_stored xs vs j then λ _ j. body j) | false ↦ Breaks (Halted TooDeep) j ]) (elim b [ true ↦ entered f xs j then λ _ j. leaving j.line (arguments_stored xs vs j then λ _ j. body' j) | false ↦ Breaks (Halted TooDeep) j ])
      go true = and_then n _ _ _ _ (same n (entered f xs j)) (λ k _ j le. inside k j le)
      go false = breaks

-- calls that are alike as far as n units go
module _ (program : Program) (n : ℕ) (call call' : Name → List Value → Job Position → Deed Position Value) (calls : (k : ℕ) → k ≤ n → (f : Name) (vs : List Value) (j : Job Position) → Alike k (call f vs j) (call' f vs j)) where
  abbrev c : Around Position
  c = record { calls = call; array = file_array program }

  abbrev c' : Around Position
  c' = record { calls = call'; array = file_array program }

  mutual
    value_alike : (k : ℕ) → k ≤ n → (e : Tree) (j : Job Position) → Alike k (value_of c e j) (value_of c' e j)
    value_alike k le (Literal v) j = gives
    value_alike k le (Quoted t) j = gives
    value_alike k le (Variable x) j = gives
    value_alike k le (Element x es) j = and_then k _ _ _ _ (values_alike k le es j) (λ l vs j less. same l _)
    value_alike k le (FunctionOf f es) j = and_then k _ _ _ _ (values_alike k le es j) (λ l vs j less. same l _)
    value_alike k le (Call f es) j = and_then k _ _ _ _ (values_alike k le es j) (λ l vs j less. calls l (omega (arith, le, less)) f vs j)
    value_alike k le (Parenthesized e) j = value_alike k le e j
    value_alike k le (Negative e) j = and_then k _ _ _ _ (value_alike k le e j) (λ l v j less. gives)
    value_alike k le (Positive e) j = value_alike k le e j
    value_alike k le (Not e) j = and_then k _ _ _ _ (value_alike k le e j) (λ l v j less. gives)
    value_alike k le (Operation a o b) j = and_then k _ _ _ _ (value_alike k le a j) (λ l v j less. and_then l _ _ _ _ (value_alike l (omega (arith, le, less)) b j) (λ i w j _. same i _))
    value_alike k le (Comparison a r b) j = and_then k _ _ _ _ (value_alike k le a j) (λ l v j less. and_then l _ _ _ _ (value_alike l (omega (arith, le, less)) b j) (λ i w j _. gives))

    values_alike : (k : ℕ) → k ≤ n → (es : Trees) (j : Job Position) → Alike k (values_of c es j) (values_of c' es j)
    values_alike k le NoTrees j = gives
    values_alike k le (AndTrees e es) j = and_then k _ _ _ _ (value_alike k le e j) (λ l v j less. and_then l _ _ _ _ (values_alike l (omega (arith, le, less)) es j) (λ i vs j _. gives))

  target_alike : (k : ℕ) → k ≤ n → (t : Tree) (v : Value) (j : Job Position) → Alike k (stored_to c t v j) (stored_to c' t v j)
  target_alike k le (Element x es) v j = and_then k _ _ _ _ (values_alike k le es j) (λ l vs j less. same l _)
  target_alike k le (Variable x) v j = same k _
  target_alike k le _ v j = gives

  targets_alike : (k : ℕ) → k ≤ n → (ts : List Tree) (v : Value) (j : Job Position) → Alike k (stored_to_all c ts v j) (stored_to_all c' ts v j)
  targets_alike k le [] v j = gives
  targets_alike k le (t ∷ ts) v j = and_then k _ _ _ _ (target_alike k le t v j) (λ l _ j less. targets_alike l (omega (arith, le, less)) ts v j)

  read_alike : (k : ℕ) → k ≤ n → (items : List (List ℕ)) (ts : List Tree) (j : Job Position) → Alike k (read_all c items ts j) (read_all c' items ts j)
  read_alike k le items [] j = gives
  read_alike k le items (t ∷ ts) j = and_then k _ _ _ _ (same k (item_taken _ j)) (λ l one j less. and_then l _ _ _ _ (same l (or_fault (item_value (wants_text t) one) j)) (λ i v j less2. and_then i _ _ _ _ (target_alike i (omega (arith, le, less, less2)) t v j) (λ o _ j less3. read_alike o (omega (arith, le, less, less2, less3)) items ts j)))

  items_alike : (k : ℕ) → k ≤ n → (ts : List Tree) (items : List (List ℕ)) (j : Job Position) → Alike k (items_stored c ts items j) (items_stored c' ts items j)
  items_alike k le [] items j = gives
  items_alike k le (t ∷ ts) [] j = breaks
  items_alike k le (t ∷ ts) (one ∷ items) j = and_then k _ _ _ _ (same k (or_fault (item_value (wants_text t) one) j)) (λ i v j less2. and_then i _ _ _ _ (target_alike i (omega (arith, le, less2)) t v j) (λ o _ j less3. items_alike o (omega (arith, le, less2, less3)) ts items j))

  loop_alike : (k : ℕ) → k ≤ n → (x : Name) (place : ℕ) (a b : Tree) (step : Option Tree) (j : Job Position) → Alike k (begins_loop c x place a b step j) (begins_loop c' x place a b step j)
  loop_alike k le x place a b step j = and_then k _ _ _ _ (value_alike k le a j) (λ l u j less. and_then l _ _ _ _ (value_alike l (omega (arith, le, less)) b j) (λ i v j less2. and_then i _ _ _ _ (stepped i (omega (arith, le, less, less2)) step j) (λ o w j _. same o _)))
    where
      stepped : (k : ℕ) → k ≤ n → (step : Option Tree) (j : Job Position) → Alike k (step_of c step j) (step_of c' step j)
      stepped k le None j = gives
      stepped k le (Some e) j = value_alike k le e j

  acts_alike : (k : ℕ) → k ≤ n → (act : FileAct) (es : List Tree) (j : Job Position) → Alike k (acts_by c act es j) (acts_by c' act es j)
  acts_alike k le act es j = and_then k _ _ _ _ (values_alike k le (in_order es) j) (λ l vs j less. same l (stores_by (act_by act vs) j))

  closes_alike : (k : ℕ) → k ≤ n → (cs : List CloseChannelTree) (j : Job Position) → Alike k (close_each c cs j) (close_each c' cs j)
  closes_alike k le [] j = gives
  closes_alike k le (e ∷ cs) j = and_then k _ _ _ _ (acts_alike k le file.Close (e.number ∷ []) j) (λ l _ j less. closes_alike l (omega (arith, le, less)) cs j)

  file_alike : (k : ℕ) → k ≤ n → (q : Position) (act : FileAct) (es : List Tree) (j : Job Position) → Alike k (file_act c q act es j) (file_act c' q act es j)
  file_alike k le q act es j = and_then k _ _ _ _ (acts_alike k le act es j) (λ l _ j less. gives)

  justifies_alike : (k : ℕ) → k ≤ n → (side : Side) (x : Name) (e : Tree) (j : Job Position) → Alike k (justifies_by c side x e j) (justifies_by c' side x e j)
  justifies_alike k le side x e j = and_then k _ _ _ _ (value_alike k le e j) (λ l v j less. same l (justifies side x v j))

  -- PRINT
  printed_on_alike : (k : ℕ) → k ≤ n → (channel : ℤ) (p : PrintedTree) (j : Job Position) → Alike k (print_one_on c channel p j) (print_one_on c' channel p j)
  printed_on_alike k le channel (ValueOf e) j = and_then k _ _ _ _ (value_alike k le e j) (λ l v j less. same l (writes_on channel (value_bytes v) j))
  printed_on_alike k le channel (Tab e) j = and_then k _ _ _ _ (value_alike k le e j) (λ l v j less. same l (tab_on channel (number v) j then λ spaces j. writes_on channel spaces j))

  prints_on_alike : (k : ℕ) → k ≤ n → (channel : ℤ) (ones : List PrintItemTree) (j : Job Position) → Alike k (print_items_on c channel ones j) (print_items_on c' channel ones j)
  prints_on_alike k le channel [] j = gives
  prints_on_alike k le channel (one ∷ ones) j = and_then k _ _ _ _ (printed_on_alike k le channel one.printed j) (λ l _ j less. and_then l _ _ _ _ (same l (separated_on channel one.separator j)) (λ i _ j less2. prints_on_alike i (omega (arith, le, less, less2)) channel ones j))

  end_on_alike : (k : ℕ) → k ≤ n → (channel : ℤ) (ones : List PrintItemTree) (last : Option PrintedTree) (j : Job Position) → Alike k (print_end_on c channel ones last j) (print_end_on c' channel ones last j)
  end_on_alike k le channel ones (Some p) j = and_then k _ _ _ _ (printed_on_alike k le channel p j) (λ l _ j less. same l (writes_on channel line_end j))
  end_on_alike k le channel [] None j = same k (writes_on channel line_end j)
  end_on_alike k le channel (one ∷ ones) None j = gives

  print_on_alike : (k : ℕ) → k ≤ n → (channel : Tree) (ones : List PrintItemTree) (last : Option PrintedTree) (j : Job Position) → Alike k (print_all_on c channel ones last j) (print_all_on c' channel ones last j)
  print_on_alike k le channel ones last j = and_then k _ _ _ _ (value_alike k le channel j) (λ l v j less. and_then l _ _ _ _ (same l (output_tested (number v) j)) (λ i _ j less2. and_then i _ _ _ _ (prints_on_alike i (omega (arith, le, less, less2)) (number v) ones j) (λ o _ j less3. end_on_alike o (omega (arith, le, less, less2, less3)) (number v) ones last j)))

  using_alike : (k : ℕ) → k ≤ n → (channel : Option Tree) (format : Tree) (items : List UsingItemTree) (last : Option Tree) (j : Job Position) → Alike k (print_using_on c channel format items last j) (print_using_on c' channel format items last j)
  using_alike k le channel format items last j = and_then k _ _ _ _ (value_alike k le (or_terminal channel) j) (λ l v j less. and_then l _ _ _ _ (same l (output_tested (number v) j)) (λ i _ j less2. and_then i _ _ _ _ (value_alike i (omega (arith, le, less, less2)) format j) (λ o f j less3. and_then o _ _ _ _ (values_alike o (omega (arith, le, less, less2, less3)) (in_order (used_values items last)) j) (λ u vs j _. same u (writes_used (is_some last) (number v) (text f) vs j)))))

  input_on_alike : (k : ℕ) → k ≤ n → (channel : Tree) (ts : List Tree) (j : Job Position) → Alike k (input_on c channel ts j) (input_on c' channel ts j)
  input_on_alike k le channel ts j = and_then k _ _ _ _ (value_alike k le channel j) (λ l v j less. and_then l _ _ _ _ (same l (line_on (number v) j)) (λ i line j less2. and_then i _ _ _ _ (same i (enough (length ts) (items_in_line line) j)) (λ o items j less3. items_alike o (omega (arith, le, less, less2, less3)) ts items j)))

  line_on_alike : (k : ℕ) → k ≤ n → (channel : Tree) (x : Name) (j : Job Position) → Alike k (input_line_on c channel x j) (input_line_on c' channel x j)
  line_on_alike k le channel x j = and_then k _ _ _ _ (value_alike k le channel j) (λ l v j less. same l (line_on (number v) j then λ line j. text_made (line ++ line_end) j then λ v j. stored x v j))

  again_alike : (k : ℕ) → k ≤ n → (place : ℕ) (s : StatementTree) (j : Job Position) → Alike k (again c place s j) (again c' place s j)
  again_alike k le place (Modified s (While e)) j = and_then k _ _ _ _ (value_alike k le e j) (λ l v j less. gives)
  again_alike k le place (Modified s (Until e)) j = and_then k _ _ _ _ (value_alike k le e j) (λ l v j less. gives)
  again_alike k le place (Modified s (ForModifier x a b step)) j = same k _
  again_alike k le place _ j = gives

  behind_alike : (k : ℕ) → k ≤ n → (m : ℕ) (s : StatementTree) (way : Way) (j : Job Position) → Alike k (behind c program m s way j) (behind c' program m s way j)
  behind_alike k le m s [] j = gives
  behind_alike k le m s (step ∷ outer) j = and_then k _ _ _ _ (again_alike k le _ (inner_at s outer) j) (λ l more j less. on l more j (omega (arith, le, less)) (λ j. behind_alike l (omega (arith, le, less)) m s outer j))
    where
      on : (l : ℕ) (more : Bool) (j : Job Position) → l ≤ n → ((j : Job Position) → Alike l (behind c program m s outer j) (behind c' program m s outer j)) → Alike l (elim more [ true ↦ Gives (record { statement = m; way = step ∷ outer }) j | false ↦ behind c program m s outer j ]) (elim more [ true ↦ Gives (record { statement = m; way = step ∷ outer }) j | false ↦ behind c' program m s outer j ])
      on l true j le ih = gives
      on l false j le ih = ih j

  modified_alike : (k : ℕ) → k ≤ n → (q : Position) (d : ModifierTree) (j : Job Position) → Alike k (modified c program q d j) (modified c' program q d j)
  modified_alike k le q (If e) j = and_then k _ _ _ _ (value_alike k le e j) (λ l v j less. gives)
  modified_alike k le q (Unless e) j = and_then k _ _ _ _ (value_alike k le e j) (λ l v j less. gives)
  modified_alike k le q (While e) j = and_then k _ _ _ _ (value_alike k le e j) (λ l v j less. gives)
  modified_alike k le q (Until e) j = and_then k _ _ _ _ (value_alike k le e j) (λ l v j less. gives)
  modified_alike k le q (ForModifier x a b step) j = and_then k _ _ _ _ (loop_alike k le x _ a b step j) (λ l v j less. gives)

  does_alike : (k : ℕ) → k ≤ n → (q : Position) (s : StatementTree) (j : Job Position) → Alike k (does c program q s j) (does c' program q s j)
  does_alike k le q (IfThen e t o) j = and_then k _ _ _ _ (value_alike k le e j) (λ l v j less. gives)
  does_alike k le q (IfGoto e t o) j = and_then k _ _ _ _ (value_alike k le e j) (λ l v j less. gives)
  does_alike k le q (Modified s d) j = modified_alike k le q d j
  does_alike k le q (For x a b step) j = and_then k _ _ _ _ (loop_alike k le x _ a b step j) (λ l v j less. gives)
  does_alike k le q (Let word ts e) j = and_then k _ _ _ _ (value_alike k le e j) (λ l v j less. and_then l _ _ _ _ (targets_alike l (omega (arith, le, less)) ts v j) (λ i _ j _. gives))
  does_alike k le q (ResultOf f e) j = and_then k _ _ _ _ (value_alike k le e j) (λ l v j less. gives)
  does_alike k le q (Print channel items last) j = and_then k _ _ _ _ (print_on_alike k le (printed_to channel) items last j) (λ l _ j less. gives)
  does_alike k le q (Input None p ts) j = and_then k _ _ _ _ (and_then k _ _ _ _ (same k (line_asked (prompt_text p) j)) (λ l line j less. and_then l _ _ _ _ (same l (enough (length ts) (items_in_line line) j)) (λ i items j less2. items_alike i (omega (arith, le, less, less2)) ts items j))) (λ l _ j less. gives)
  does_alike k le q (PrintUsing channel format items last) j = and_then k _ _ _ _ (using_alike k le channel format items last j) (λ l _ j less. gives)
  does_alike k le q (Input (Some channel) p ts) j = and_then k _ _ _ _ (input_on_alike k le channel ts j) (λ l _ j less. gives)
  does_alike k le q (InputLine (Some channel) x) j = and_then k _ _ _ _ (line_on_alike k le channel x j) (λ l _ j less. gives)
  does_alike k le q (Field channel parts) j = file_alike k le q (file.Field (map (λ part. part.name) parts)) (channel ∷ map (λ part. part.width) parts) j
  does_alike k le q (Lset x e) j = and_then k _ _ _ _ (justifies_alike k le Left x e j) (λ l _ j less. gives)
  does_alike k le q (Rset x e) j = and_then k _ _ _ _ (justifies_alike k le Right x e j) (λ l _ j less. gives)
  does_alike k le q (Read ts) j = and_then k _ _ _ _ (read_alike k le (items_of program) ts j) (λ l _ j less. gives)
  does_alike k le q (OnGoto e ns) j = and_then k _ _ _ _ (value_alike k le e j) (λ l v j less. same l _)
  does_alike k le q (OnGosub e ns) j = and_then k _ _ _ _ (value_alike k le e j) (λ l v j less. same l _)
  does_alike k le q (Chain e line) j = and_then k _ _ _ _ (value_alike k le e j) (λ l name j less. and_then l _ _ _ _ (value_alike l (omega (arith, le, less)) (line_operand line) j) (λ i n j _. breaks))
  does_alike k le q (Close cs) j = and_then k _ _ _ _ (closes_alike k le cs j) (λ l _ j less. gives)
  does_alike k le q (Sleep e) j = file_alike k le q file.Sleep (e ∷ []) j
  does_alike k le q (Open e purpose hash channel size cluster mode) j = file_alike k le q (file.Open (kind_for purpose)) (e ∷ channel ∷ or_zero size ∷ or_zero cluster ∷ or_zero mode ∷ []) j
  does_alike k le q (Get e b) j = file_alike k le q file.Get (e ∷ or_zero b ∷ []) j
  does_alike k le q (Put e b) j = file_alike k le q file.Put (e ∷ or_zero b ∷ []) j
  does_alike k le q (Unlock e) j = file_alike k le q file.Unlock (e ∷ []) j
  does_alike k le q (Kill e) j = file_alike k le q file.Kill (e ∷ []) j
  does_alike k le q (Rename old new) j = file_alike k le q file.Rename (old ∷ new ∷ []) j
  does_alike k le q (MatLet target value) j = and_then k _ _ _ _ (and_then k _ _ _ _ (values_alike k le (in_order (matrix_expressions value)) j) (λ l vs j less. same l _)) (λ l _ j less. gives)
  does_alike k le q _ j = same k _

  reached_alike : (k : ℕ) → k ≤ n → (o : Onward) (j : Job Position) → Alike k (reached c program o j) (reached c' program o j)
  reached_alike k le (At q) j = gives
  reached_alike k le Leave j = gives
  reached_alike k le (Behind q) j = on (statement_at program q.statement)
    where
      on : (o : Option StatementTree) → Alike k (reached_behind c program q o j) (reached_behind c' program q o j)
      on None = gives
      on (Some s) = and_then k _ _ _ _ (behind_alike k le q.statement s q.way j) (λ l q j less. gives)

  one_line_alike : (k : ℕ) → k ≤ n → (m : ℕ) (o : Option StatementTree) (j : Job Position) → Alike k (one_line c program m o j) (one_line c' program m o j)
  one_line_alike k le m None j = gives
  one_line_alike k le m (Some (Def f xs None)) j = gives
  one_line_alike k le m (Some (Def f xs (Some e))) j = and_then k _ _ _ _ (value_alike k le e (runs_at (home_of program m) j)) (λ l v j less. gives)
  one_line_alike k le m (Some _) j = gives

  -- a statement takes a unit: what comes after it has one less
  begun_alike : (k : ℕ) → k ≤ n → (q : Position) (o : Option StatementTree) (j : Job Position) (f f' : Coming → Job Position → Deed Position Coming) → ((l : ℕ) (coming : Coming) (j : Job Position) → l < k → Alike l (f coming j) (f' coming j)) → Alike k (trapped (handler program) (begun c program q o j) then f) (trapped (handler program) (begun c' program q o j) then f')
  begun_alike k le q None j f f' h = same k _
  begun_alike zero le q (Some s) j f f' h = spent
  begun_alike (suc k) le q (Some s) j f f' h =
      takes (and_then k _ _ f f' (trapped_alike k (handler program) _ _ (and_then k _ _ _ _ (does_alike k (omega (arith, le)) q (inner_at s q.way) (runs_at (home_of program q.statement) j)) (λ l o j less. reached_alike l (omega (arith, le, less)) o j))) (λ l coming j less. h l coming j (omega (arith, less))))

-- out of a body it stays out, whatever the bound
out_alike : (program : Program) (i i' n : ℕ) (j : Job Position) → Alike n (runs program i Out j) (runs program i' Out j)
out_alike program zero zero n j = gives
out_alike program zero (suc i') n j = out_alike program zero i' n j
out_alike program (suc i) i' n j = out_alike program i i' n j

calls_alike : (program : Program) (i i' n : ℕ) → ((l : ℕ) (coming : Coming) (j : Job Position) → l < n → Alike l (runs program i coming j) (runs program i' coming j)) → (k : ℕ) → k ≤ n → (f : Name) (vs : List Value) (j : Job Position) → Alike k ((calls_of program (runs program i)).calls f vs j) ((calls_of program (runs program i')).calls f vs j)
calls_alike program i i' n h k le f vs j = called_alike k f (parameters_of program f) _ _ vs j (λ l j less. h l (body_at_def program (def_of program f)) j (omega (arith, le, less)))

-- the value of a function of one line takes no unit, but a handler after it does
value_turn : (program : Program) (i i' n m : ℕ) (j : Job Position) → ((l : ℕ) (coming : Coming) (j : Job Position) → l < n → Alike l (runs program i coming j) (runs program i' coming j)) → Alike n (runs program (suc i) (Value_of m) j) (runs program (suc i') (Value_of m) j)
value_turn program i i' n m j h =
    and_more n _ _ (out_or_at around program) (out_or_at around' program) (λ coming j. runs program i coming j) (λ coming j. runs program i' coming j) (trapped_alike n Some _ _ (one_line_alike program n (around.calls) (around'.calls) calls n (omega arith) m (statement_at program m) j)) behind
  where
    around : Around Position
    around = calls_of program (runs program i)

    around' : Around Position
    around' = calls_of program (runs program i')

    calls : (k : ℕ) → k ≤ n → (f : Name) (vs : List Value) (j : Job Position) → Alike k (around.calls f vs j) (around'.calls f vs j)
    calls = calls_alike program i i' n h

    behind : (k : ℕ) (o : Option ℕ) (j : Job Position) → k ≤ n → Alike k (out_or_at around program o j then λ coming j. runs program i coming j) (out_or_at around' program o j then λ coming j. runs program i' coming j)
    behind k None j le = out_alike program i i' k j
    behind k (Some line) j le = begun_alike program n (around.calls) (around'.calls) calls k le (whole (line_start line program)) (statement_at program (line_start line program)) j _ _ (λ l coming j less. h l coming j (omega (arith, le, less)))

pub bounds_enough : BoundsAreEnough
bounds_enough program zero more n coming j lt lt' = absurd (omega (arith, lt))
bounds_enough program (suc i) zero n coming j lt lt' = absurd (omega (arith, lt'))
bounds_enough program (suc i) (suc i') n Out j lt lt' = out_alike program i i' n j
bounds_enough program (suc i) (suc i') n (Begin q) j lt lt' =
    begun_alike program n _ _ (calls_alike program i i' n (λ l coming j less. bounds_enough program i i' l coming j (omega (arith, lt, less)) (omega (arith, lt', less)))) n (omega arith) q (statement_at program q.statement) j _ _ (λ l coming j less. bounds_enough program i i' l coming j (omega (arith, lt, less)) (omega (arith, lt', less)))
bounds_enough program (suc i) (suc i') n (Value_of m) j lt lt' = value_turn program i i' n m j (λ l coming j less. bounds_enough program i i' l coming j (omega (arith, lt, less)) (omega (arith, lt', less)))

pub bounds_enough_from : BoundsAreEnoughFrom
bounds_enough_from program i i' n o j lt lt' =
    and_then n _ _ _ _ (trapped_alike n (handler program) _ _ (reached_alike program n _ _ (calls_alike program i i' n (λ l coming j less. bounds_enough program i i' l coming j (omega (arith, lt, less)) (omega (arith, lt', less)))) n (omega arith) o j)) (λ k coming j le. bounds_enough program i i' k coming j (omega (arith, lt, le)) (omega (arith, lt', le)))

-- a program that begins, and one that continues with an error
pub cleared_enough : (program : Program) (i i' n : ℕ) (line : Option ℕ) (j : Job Position) → n < i → n < i' → Alike n (runs_cleared program i line j) (runs_cleared program i' line j)
cleared_enough program i i' n line j lt lt' =
    ends_closed_alike n (runs_open program i line j) (runs_open program i' line j)
    (and_then n (dimension_program program j) (dimension_program program j) _ _ (same n _) (λ k a j le. bounds_enough_from program i i' k (At (whole (begins_with program line))) j (omega (arith, le, lt)) (omega (arith, le, lt'))))

pub raises_enough : (program : Program) (i i' n fault : ℕ) (j : Job Position) → n < i → n < i' → Alike n (raises program i fault j) (raises program i' fault j)
raises_enough program i i' n fault j lt lt' =
    ends_closed_alike n (raises_open program i fault j) (raises_open program i' fault j)
    (and_then n _ _ _ _ (same n (trapped (at_line program) (Breaks (Faulted fault) j))) (λ k o j le. bounds_enough_from program i i' k o j (omega (arith, le, lt)) (omega (arith, le, lt'))))

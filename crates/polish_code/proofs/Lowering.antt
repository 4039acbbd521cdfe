-- A tree of the program as one of the code: the laws of this mapping, and that each interaction
-- tree is the same in both.
use Rattle.std.proofs.Common.{◌≡◌, ℕ, zero, suc, ◌-◌, List, [], ◌∷◌, ◌++◌, length, drop, Option, Some, None, Ok, Err, refl, sym, ap, ◌∙◌}
use Rattle.std.specs.Prelude.{Bool, true, false, if◌then◌else◌, map, nat_lt, nat_le, Result, ℤ, bytes_eq, ◌+ℤ◌, codes}
use Rattle.std.proofs.lemmas.List.{length-map}
use Rattle.basic_values.specs.declared.failures.Halt.TheVariants.{TooDeep}
use Rattle.basic_strings.specs.Bytes.{byte_of}
use Rattle.basic_strings.specs.Pairs.{pair_of}
use Rattle.basic_tree.specs.declared.names.Name.{Name}
use Rattle.basic_tree.specs.declared.expressions.Operator.{Operator}
use Rattle.basic_tree.specs.declared.expressions.Operator.TheVariants as operator
use Rattle.basic_tree.specs.declared.expressions.Function.{Function}
use Rattle.basic_tree.specs.declared.expressions.Function.TheVariants as function
use Rattle.error_trap.specs.declared.trap.Trap.{Trap}
use Rattle.error_trap.specs.Trapping.{raised, led as led_to, way_out}
use Rattle.job_memory.specs.Memory.{Memory, variable, store, store_at}
use Rattle.job_memory.specs.Calls.{enter}
use Rattle.job_model.specs.Act.{Act, Gives, Breaks, Asks, Types, Takes, ◌then◌, Break, Faulted, Halted, Gone, Left, break_over, over, no_way}
use Rattle.program_model.specs.declared.homes.Home.{Home}
use Rattle.program_model.specs.Program.{Program, Position}
use Rattle.program_model.specs.declared.values.Value.{Value}
use Rattle.program_model.specs.declared.values.Value.TheVariants.{Number, Text}
use Rattle.program_model.specs.declared.values.Frame.{Frame}
use Rattle.program_model.specs.Job.{number, text, Job, Leaving, Ended, Deed, text_made, or_fault}
use Rattle.program_model.specs.Expressions.{Around}
use Rattle.virtual_arrays.specs.declared.places.VirtualShape.{VirtualShape}
use Rattle.program_model.specs.Operators.{gives_number, sum_of, operated}
use Rattle.program_model.specs.Functions.{applied, number_at, text_at, text_of_sys}
use Rattle.program_model.specs.OnChannels.{is_terminal, column_on}
use Rattle.program_model.specs.SysActs.{sys_act}
use Rattle.program_model.specs.Elements.{read_act, write_act, element_read, element_stored}
use Rattle.program_model.specs.Justified.{justified_in, justifies}
use Rattle.program_model.specs.Printing.{written}
use Rattle.program_model.specs.PrintingOnChannels.{output_tested, tab_on, zone_on, text_act, writes_on, used_bytes, writes_used}
use Rattle.record_fields.specs.declared.writing.Side.{Side}
use Rattle.record_fields.specs.Writing.{justified}
use Rattle.job_memory.specs.declared.contents.Content.{Content}
use Rattle.job_memory.specs.declared.contents.Content.TheVariants as content
use Rattle.program_model.specs.Variables.{held, second, element, remembered, content_of, stored, stored_at}
use Rattle.program_model.specs.Storage.{Storage, StorageAct, in_storage, stores_by}
use Rattle.program_model.specs.Control.{base_of, home_after, runs_at}
use Rattle.program_model.specs.Loops.{is_past, opened, turned, next_turn, limit_and_step}
use Rattle.program_model.specs.DataItems.{item_taken}
use Rattle.program_model.specs.Input.{line_taken, line_asked, enough, line_act, line_on}
use Rattle.program_model.specs.Calls.{most_calls, blank, entered, arguments_stored, result_of, departed, outside, leaving, called}
use Rattle.program_model.specs.Traps.{handled, caught, trapped}
use Rattle.polish_code.specs.Code.{low_home, statement_place}
use Rattle.polish_code.specs.Walk.{Spot, Walked}
use Rattle.polish_code.specs.Lowered.{spot_of, lowered, low_leaving, lowers}

-- what calls do, and the names of arrays in files
abbrev pub Calling : Type 0
Calling = Name → List Value → Job Position → Deed Position Value

abbrev pub calling : (Name → Option VirtualShape) → Calling → Around Position
calling arrays call = record { calls = call; array = arrays }

module _ (program : Program) where
  abbrev pub low : Job Position → Job Spot
  low = lowered program

  -- what is done if nothing follows it
  abbrev pub keeps : {A : Type 0} → A → Job Position → Walked A
  keeps a j = Gives a (low j)

  pub lowers_then : {A B C : Type 0} (m : Deed Position A) (f : A → Job Position → Deed Position B) (g : B → Job Position → Walked C) → lowers program (m then f) g ≡ lowers program m (λ a j. lowers program (f a j) g)
  lowers_then (Gives a j) f g = refl
  lowers_then (Breaks b j) f g = refl
  lowers_then (Asks r k) f g = ap (Asks r) (λ i x. lowers_then (k x) f g i)
  lowers_then (Types k) f g = ap Types (λ i key. lowers_then (k key) f g i)
  lowers_then (Takes j m) f g = ap (Takes (low j)) (lowers_then m f g)

  pub then_lowers : {A B C : Type 0} (m : Deed Position A) (f : A → Job Position → Walked B) (g : B → Job Spot → Walked C) → (lowers program m f) then g ≡ lowers program m (λ a j. f a j then g)
  then_lowers (Gives a j) f g = refl
  then_lowers (Breaks b j) f g = refl
  then_lowers (Asks r k) f g = ap (Asks r) (λ i x. then_lowers (k x) f g i)
  then_lowers (Types k) f g = ap Types (λ i key. then_lowers (k key) f g i)
  then_lowers (Takes j m) f g = ap (Takes (low j)) (then_lowers m f g)

  -- trees with equal continuations are equal
  pub alike : {A B : Type 0} (m : Deed Position A) {f g : A → Job Position → Walked B} → ((a : A) (j : Job Position) → f a j ≡ g a j) → lowers program m f ≡ lowers program m g
  alike m e = ap (lowers program m) (λ i a j. e a j i)

  -- an interaction tree that is the same in code
  abbrev pub Same : {A : Type 0} → Walked A → Deed Position A → Type 0
  Same m' m = m' ≡ lowers program m keeps

  -- and then what follows
  pub follow : {A B C : Type 0} (m' : Walked A) (m : Deed Position A) (f' : A → Job Spot → Walked C) (f : A → Job Position → Deed Position B) (g : B → Job Position → Walked C) → Same m' m → ((a : A) (j : Job Position) → f' a (low j) ≡ lowers program (f a j) g) → m' then f' ≡ lowers program (m then f) g
  follow m' m f' f g same next = ap (λ n. n then f') same ∙ then_lowers m keeps f' ∙ alike m next ∙ sym (lowers_then m f g)

  -- INTERACTION TREES

  if_same : {A : Type 0} (b : Bool) (m' n' : Walked A) (m n : Deed Position A) → Same m' m → Same n' n → Same (if b then m' else n') (if b then m else n)
  if_same true m' n' m n s t = s
  if_same false m' n' m n s t = t

  pub fault_same : {A : Type 0} (r : Result A ℕ) (j : Job Position) → Same (or_fault r (low j)) (or_fault r j)
  fault_same (Ok a) j = refl
  fault_same (Err n) j = refl

  pub text_same : (bytes : List ℕ) (j : Job Position) → Same (text_made bytes (low j)) (text_made bytes j)
  text_same bytes j = if_same (nat_le (length bytes) 32767) _ _ _ _ refl refl

  number_or_fault : (r : Result ℤ ℕ) (j : Job Position) → Same (or_fault r (low j) then gives_number) (or_fault r j then gives_number)
  number_or_fault (Ok n) j = refl
  number_or_fault (Err n) j = refl

  sum_same : (a b : Value) (j : Job Position) → Same (sum_of a b (low j)) (sum_of a b j)
  sum_same (Text a) (Text b) j = text_same (a ++ b) j
  sum_same (Text a) (Number b) j = refl
  sum_same (Number a) (Text b) j = refl
  sum_same (Number a) (Number b) j = refl

  pub operated_same : (o : Operator) (a b : Value) (j : Job Position) → Same (operated o a b (low j)) (operated o a b j)
  operated_same operator.Divided a b j = number_or_fault _ j
  operated_same operator.Plus a b j = sum_same a b j
  operated_same _ a b j = refl

  -- what is done to variables and files
  over_same : {A : Type 0} (j : Job Position) (m : Act ⊥ Storage A) → Same (over no_way (in_storage.with_part (low j)) m) (over no_way (in_storage.with_part j) m)
  over_same j (Gives a s) = refl
  over_same j (Breaks (Faulted n) s) = refl
  over_same j (Breaks (Halted h) s) = refl
  over_same j (Breaks Gone s) = refl
  over_same j (Breaks (Left way) s) = absurd way
  over_same j (Asks r k) = ap (Asks r) (λ i x. over_same j (k x) i)
  over_same j (Types k) = ap Types (λ i key. over_same j (k key) i)
  over_same j (Takes s m) = ap (Takes (low (in_storage.with_part j s))) (over_same j m)

  pub storage_same : {A : Type 0} (act : StorageAct A) (j : Job Position) → Same (stores_by act (low j)) (stores_by act j)
  storage_same act j = over_same j (act (in_storage.part j))

  sys_same : (bytes : List ℕ) (j : Job Position) → Same (text_of_sys bytes (low j)) (text_of_sys bytes j)
  sys_same bytes j = follow _ (stores_by (sys_act bytes) j) _ _ _ (storage_same (sys_act bytes) j) (λ given j. refl)

  pub applied_same : (f : Function) (vs : List Value) (j : Job Position) → Same (applied f vs (low j)) (applied f vs j)
  applied_same function.Left vs j = text_same _ j
  applied_same function.Right vs j = text_same _ j
  applied_same function.Mid vs j = text_same _ j
  applied_same function.Chr vs j = text_same (byte_of (number_at 0 vs) ∷ []) j
  applied_same function.Space vs j = text_same _ j
  applied_same function.StringOf vs j = text_same _ j
  applied_same function.Num1 vs j = text_same _ j
  applied_same function.Num vs j = text_same _ j
  applied_same function.CvtToText vs j = text_same (pair_of (number_at 0 vs)) j
  applied_same function.Xlate vs j = text_same _ j
  applied_same function.Val vs j = number_or_fault _ j
  applied_same function.Pos vs j = number_or_fault (column_on (number_at 0 vs) j) j
  applied_same function.Sys vs j = sys_same (text_at 0 vs) j
  applied_same _ vs j = refl

  pub element_same : (x : Name) (vs : List Value) (j : Job Position) → Same (element x vs (low j)) (element x vs j)
  element_same x vs j = if_same x.text _ _ _ _ (texts _) (numbers _)
    where
      texts : (r : Result (List ℕ) ℕ) → Same (or_fault r (low j) then λ t j. Gives (Text t) j) (or_fault r j then λ t j. Gives (Text t) j)
      texts (Ok t) = refl
      texts (Err n) = refl

      numbers : (r : Result ℤ ℕ) → Same (or_fault r (low j) then λ n j. Gives (Number n) j) (or_fault r j then λ n j. Gives (Number n) j)
      numbers (Ok n) = refl
      numbers (Err n) = refl

  pub remembered_same : (m : Memory) (j : Job Position) → Same (remembered m (low j)) (remembered m j)
  remembered_same m j = if_same _ _ _ _ _ refl refl

  pub stored_same : (x : Name) (v : Value) (j : Job Position) → Same (stored x v (low j)) (stored x v j)
  stored_same x v j = remembered_same (store x (content_of v) j.memory) j

  pub stored_at_same : (x : Name) (vs : List Value) (v : Value) (j : Job Position) → Same (stored_at x vs v (low j)) (stored_at x vs v j)
  stored_at_same x vs v j = go (store_at x (number_at 0 vs) (second vs) (content_of v) j.memory)
    where
      go : (r : Result Memory ℕ) → Same (or_fault r (low j) then remembered) (or_fault r j then remembered)
      go (Ok m) = remembered_same m j
      go (Err n) = refl

  -- ELEMENTS, in memory or in a file

  pub read_same : (array : Option VirtualShape) (x : Name) (vs : List Value) (j : Job Position) → Same (element_read array x vs (low j)) (element_read array x vs j)
  read_same None x vs j = element_same x vs j
  read_same (Some array) x vs j = storage_same (read_act array vs) j

  pub element_stored_same : (array : Option VirtualShape) (x : Name) (vs : List Value) (v : Value) (j : Job Position) → Same (element_stored array x vs v (low j)) (element_stored array x vs v j)
  element_stored_same None x vs v j = stored_at_same x vs v j
  element_stored_same (Some array) x vs v j = storage_same (write_act array vs v) j

  -- LSET AND RSET

  pub justifies_same : (side : Side) (x : Name) (v : Value) (j : Job Position) → Same (justifies side x v (low j)) (justifies side x v j)
  justifies_same side x v j = go (variable x j.memory)
    where
      go : (o : Option Content) → Same (justified_in side x (text v) o (low j)) (justified_in side x (text v) o j)
      go (Some (content.Fielded c part)) = refl
      go (Some (content.Own old)) = stored_same x (Text (justified side (length old) (text v))) j
      go (Some (content.Number n)) = refl
      go None = refl

  -- CHANNELS

  -- what follows a column gives, and asks nothing
  by_column : {A : Type 0} (r : Result ℤ ℕ) (f : ℤ → A) (j : Job Position) → Same (or_fault r (low j) then λ column j. Gives (f column) j) (or_fault r j then λ column j. Gives (f column) j)
  by_column (Ok n) f j = refl
  by_column (Err n) f j = refl

  pub tested_same : (channel : ℤ) (j : Job Position) → Same (output_tested channel (low j)) (output_tested channel j)
  tested_same channel j = by_column (column_on channel j) (λ _. tt) j

  pub tab_same : (channel wanted : ℤ) (j : Job Position) → Same (tab_on channel wanted (low j)) (tab_on channel wanted j)
  tab_same channel wanted j = by_column (column_on channel j) _ j

  pub zone_same : (channel : ℤ) (j : Job Position) → Same (zone_on channel (low j)) (zone_on channel j)
  zone_same channel j = by_column (column_on channel j) _ j

  pub writes_same : (channel : ℤ) (bytes : List ℕ) (j : Job Position) → Same (writes_on channel bytes (low j)) (writes_on channel bytes j)
  writes_same channel bytes j = if_same (is_terminal channel) _ _ _ _ refl (storage_same (text_act channel bytes) j)

  pub used_same : (ends_line : Bool) (channel : ℤ) (format : List ℕ) (vs : List Value) (j : Job Position) → Same (writes_used ends_line channel format vs (low j)) (writes_used ends_line channel format vs j)
  used_same ends_line channel format vs j = go (used_bytes ends_line format vs)
    where
      go : (r : Result (List ℕ) ℕ) → Same (or_fault r (low j) then λ bytes j. writes_on channel bytes j) (or_fault r j then λ bytes j. writes_on channel bytes j)
      go (Ok bytes) = writes_same channel bytes j
      go (Err n) = refl

  pub opened_same : (x : Name) (place : ℕ) (start limit step : ℤ) (j : Job Position) → Same (opened x place start limit step (low j)) (opened x place start limit step j)
  opened_same x place start limit step j = follow _ (stored x (Number start) j) _ _ _ (stored_same x (Number start) j) (λ a j. refl)

  turned_same : (x : Name) (next limit step : ℤ) (j : Job Position) → Same (turned x next limit step (low j)) (turned x next limit step j)
  turned_same x next limit step j = if_same (is_past next limit step) _ _ _ _ refl (follow _ (stored x (Number next) j) _ _ _ (stored_same x (Number next) j) (λ a j. refl))

  pub turn_same : (x : Name) (place : ℕ) (j : Job Position) → Same (next_turn x place (low j)) (next_turn x place j)
  turn_same x place j = turned_same x (number (held x j) +ℤ (limit_and_step place j).1) (limit_and_step place j).0 (limit_and_step place j).1 j

  pub taken_same : (o : Option (List ℕ)) (j : Job Position) → Same (item_taken o (low j)) (item_taken o j)
  taken_same (Some one) j = refl
  taken_same None j = refl

  line_same : (key : Option (List ℕ)) (j : Job Position) → Same (line_taken key (low j)) (line_taken key j)
  line_same None j = refl
  line_same (Some line) j = if_same (bytes_eq line (codes "^Z")) _ _ _ _ refl refl

  pub asked_same : (prompt : List ℕ) (j : Job Position) → Same (line_asked prompt (low j)) (line_asked prompt j)
  asked_same prompt j = ap Types (λ i key. line_same key (written (prompt ++ codes "? ") j) i)

  pub line_on_same : (channel : ℤ) (j : Job Position) → Same (line_on channel (low j)) (line_on channel j)
  line_on_same channel j = if_same (is_terminal channel) _ _ _ _ (asked_same [] j) (storage_same (line_act channel) j)

  pub enough_same : (n : ℕ) (items : List (List ℕ)) (j : Job Position) → Same (enough n items (low j)) (enough n items j)
  enough_same n items j = if_same (nat_lt (length items) n) _ _ _ _ refl refl

  -- what runs at top level
  pub low_after : (frames : List Frame) (new old : Home) → low_home program (home_after frames new old) ≡ home_after frames (low_home program new) (low_home program old)
  low_after [] new old = refl
  low_after (f ∷ fs) new old = refl

  pub runs_same : (home : Home) (j : Job Position) → low (runs_at home j) ≡ runs_at (low_home program home) (low j)
  runs_same home j = ap (λ h. record (low j) { line = home.line; home = h }) (low_after j.frames home j.home)

  -- CALLS

  entered_same : (f : Name) (xs : List Name) (j : Job Position) → Same (entered f xs (low j)) (entered f xs j)
  entered_same f xs j = follow _ (remembered (enter xs j.memory) j) _ _ _ (remembered_same (enter xs j.memory) j) (λ a k. ap (λ n. Gives tt (record (low k) { frames = record { result = blank f.text; base = n } ∷ k.frames })) (length-map k.returns (spot_of program)))

  arguments_same : (xs : List Name) (vs : List Value) (j : Job Position) → Same (arguments_stored xs vs (low j)) (arguments_stored xs vs j)
  arguments_same [] vs j = refl
  arguments_same (x ∷ xs) [] j = refl
  arguments_same (x ∷ xs) (v ∷ vs) j = follow _ (stored x v j) _ _ _ (stored_same x v j) (λ a j. arguments_same xs vs j)

  drop_map : {A B : Type 0} (f : A → B) (n : ℕ) (xs : List A) → drop n (map f xs) ≡ map f (drop n xs)
  drop_map f zero [] = refl
  drop_map f zero (x ∷ xs) = refl
  drop_map f (suc n) [] = refl
  drop_map f (suc n) (x ∷ xs) = drop_map f n xs

  departed_same : (j : Job Position) → departed (low j) ≡ low (departed j)
  departed_same j = ap (λ rs. record (low (departed j)) { returns = rs }) (ap (λ n. drop (n - base_of j.frames) (map (spot_of program) j.returns)) (length-map j.returns (spot_of program)) ∙ drop_map (spot_of program) (length j.returns - base_of j.frames) j.returns)

  outside_same : (home : Home) (b : Break (Leaving Position)) → outside (low_home program home) (break_over (low_leaving program) b) ≡ break_over (low_leaving program) (outside home b)
  outside_same home (Left Ended) = refl
  outside_same home b = refl

  leaving_same : {A B : Type 0} (line : ℕ) (f : A → B) (m : Deed Position A) → leaving line (lowers program m (λ a j. Gives (f a) (low j))) ≡ lowers program (leaving line m) keeps
  leaving_same line f (Gives a j) = ap (λ (k : Job Spot). Gives (result_of j.frames) (record k { line = line })) (departed_same j)
  leaving_same line f (Breaks b j) = ap (λ k. Breaks (outside (low_home program j.home) (break_over (low_leaving program) b)) k) (departed_same j) ∙ ap (λ c. Breaks c (low (departed j))) (outside_same j.home b)
  leaving_same line f (Asks r k) = ap (Asks r) (λ i x. leaving_same line f (k x) i)
  leaving_same line f (Types k) = ap Types (λ i key. leaving_same line f (k key) i)
  leaving_same line f (Takes j m) = ap (λ k. Takes k (leaving line (lowers program m (λ a j. Gives (f a) (low j))))) (departed_same j) ∙ ap (Takes (low (departed j))) (leaving_same line f m)

  pub called_same : {A B : Type 0} (f : Name) (xs : List Name) (vs : List Value) (g : A → B) (body : Job Position → Deed Position A) (body' : Job Spot → Walked B) → ((j : Job Position) → body' (low j) ≡ lowers program (body j) (λ a j. Gives (g a) (low j))) → (j : Job Position) → Same (called f xs body' vs (low j)) (called f xs body vs j)
  called_same f xs vs g body body' h j = ap (Takes (low j)) (go (nat_lt (length j.frames) most_calls))
    where
      inside : (k : Job Position) → leaving k.line (arguments_stored xs vs (low k) then λ _ j. body' j) ≡ lowers program (leaving k.line (arguments_stored xs vs k then λ _ j. body j)) keeps
      inside k = ap (leaving k.line) (follow _ (arguments_stored xs vs k) _ _ _ (arguments_same xs vs k) (λ a j. h j)) ∙ leaving_same k.line g (arguments_stored xs vs k then λ _ j. body j)

      go : (b : Bool) → (elim b [ true ↦ entered f xs (low j) then λ _ j. leaving j.line (arguments_stored xs vs j then λ _ j. body' j) | false ↦ Breaks (Halted TooDeep) (low j) ]) ≡ lowers program (elim b [ true ↦ entered f xs j then λ _ j. leaving j.line (arguments_stored xs vs j then λ _ j. body j) | false ↦ Breaks (Halted TooDeep) j ]) keeps
      go true = follow _ (entered f xs j) _ _ _ (entered_same f xs j) (λ a k. inside k)
      go false = refl

  -- TRAPS

  abbrev pub low_trap : Trap → Trap
  low_trap t = record t { place = statement_place program t.place }

  -- an error is trapped in the same way, with the place of the statement in place of its number
  raised_same : {A B : Type 0} (go : ℕ → A) (to : ℕ → B) (f : A → B) → ((n : ℕ) → to n ≡ f (go n)) → (n line place : ℕ) (t : Trap) (j : Job Position) → handled to n (raised n line (statement_place program place) (low_trap t)) (low j) ≡ lowers program (handled go n (raised n line place t) j) (λ a j. Gives (f a) (low j))
  raised_same go to f h n line place t j = out (way_out t.handler t.active)
    where
      out : (w : Option ℕ) → handled to n (led_to n line (statement_place program place) (low_trap t) w) (low j) ≡ lowers program (handled go n (led_to n line place t w) j) (λ a j. Gives (f a) (low j))
      out None = refl
      out (Some handler) = ap (λ b. Gives b (record (low j) { trap = low_trap (record t { active = true; number = n; line = line; place = place }) })) (h handler)

  caught_same : {A B : Type 0} (go : ℕ → A) (to : ℕ → B) (f : A → B) → ((n : ℕ) → to n ≡ f (go n)) → (b : Break (Leaving Position)) (frames : List Frame) (j : Job Position) → caught to (break_over (low_leaving program) b) frames (low j) ≡ lowers program (caught go b frames j) (λ a j. Gives (f a) (low j))
  caught_same go to f h (Faulted n) [] j = raised_same go to f h n j.line j.home.start j.trap j
  caught_same go to f h (Faulted n) (x ∷ xs) j = refl
  caught_same go to f h (Halted n) frames j = refl
  caught_same go to f h Gone frames j = refl
  caught_same go to f h (Left w) frames j = refl

  pub trapped_same : {A B : Type 0} (go : ℕ → A) (to : ℕ → B) (f : A → B) → ((n : ℕ) → to n ≡ f (go n)) → (m : Deed Position A) → trapped to (lowers program m (λ a j. Gives (f a) (low j))) ≡ lowers program (trapped go m) (λ a j. Gives (f a) (low j))
  trapped_same go to f h (Gives a j) = refl
  trapped_same go to f h (Breaks b j) = caught_same go to f h b j.frames j
  trapped_same go to f h (Asks r k) = ap (Asks r) (λ i x. trapped_same go to f h (k x) i)
  trapped_same go to f h (Types k) = ap Types (λ i key. trapped_same go to f h (k key) i)
  trapped_same go to f h (Takes j m) = ap (Takes (low j)) (trapped_same go to f h m)

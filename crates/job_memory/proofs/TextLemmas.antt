-- A string that is changed in place: from the one variable to all variables, and to the memory.
use Rattle.std.proofs.Common.{◌≡◌, ℕ, ◌+◌, ◌≤◌, List, Bool, true, false, Option, Some, None, sym, ap, ◌∙◌, arith, length-append}
use Rattle.std.proofs.lemmas.Map.Entries.{sum_by-insert_entry, sum_by-set_value}
use Rattle.std.proofs.lemmas.Map.Steps.{set_value_same}
use Rattle.std.specs.Prelude.{◌++◌, length, if◌then◌else◌, Result, Ok, Err, IfOk, IfSome}
use Rattle.std.specs.BTreeMap.{insert_entry}
use Rattle.std.specs.List.Sorted.{IsStrictlySortedBy}
use Rattle.std.specs.Map.{keys_of, lookup, set_value}
use Rattle.basic_values.specs.declared.failures.Halt.{Halt}
use Rattle.basic_values.specs.declared.failures.Halt.TheVariants as halt
use Rattle.basic_values.specs.declared.failures.Trouble.{Trouble}
use Rattle.basic_values.specs.declared.failures.Trouble.TheVariants as trouble
use Rattle.basic_tree.specs.declared.names.Name.{Name}
use Rattle.job_memory.specs.declared.contents.Content.{Content}
use Rattle.job_memory.specs.declared.contents.Content.TheVariants.{Own}
use Rattle.job_memory.specs.declared.contents.TheConstants.{MOST_ROOM}
use Rattle.job_memory.specs.Contents.{size, text_of}
use Rattle.job_memory.specs.Memory.{Memory, variables_size, room_of}
use Rattle.job_memory.specs.Names.{name_cmp, at_name}
use Rattle.job_memory.specs.TextChanges.{ChangesOwn, one_variable, among_variables, in_memory, lengthened}
use Rattle.job_memory.proofs.EntryLemmas.{insert_entry-found}
use Rattle.job_memory.proofs.NameLemmas.{name_total}

module _ (name : Name) (old new : List (Name × Content)) (was is : Content) (sorted : IsStrictlySortedBy name_cmp (keys_of old)) (found : lookup (at_name name) old ≡ Some was) (set : new ≡ set_value (at_name name) old is) where
  -- a variable takes another content: the entries, and the size
  entries_changed : (wanted : Content) → is ≡ wanted → new ≡ insert_entry name_cmp old name wanted
  entries_changed wanted same = set ∙ sym (insert_entry-found name_total name was is old sorted found) ∙ ap (insert_entry name_cmp old name) same

  room_changed : variables_size new + size was ≡ variables_size old + size is
  room_changed = omega (arith, ap variables_size set, sum_by-set_value size (at_name name) old was is found)

  room_wanted : (wanted : Content) → variables_size (insert_entry name_cmp old name wanted) + size was ≡ variables_size old + size wanted
  room_wanted wanted = rw found at (sum_by-insert_entry size name_total old name wanted sorted)

  unchanged : is ≡ was → new ≡ old
  unchanged same = set ∙ ap (set_value (at_name name) old) same ∙ set_value_same (at_name name) old was found

  some_content : {a b : Content} → Some a ≡ Some b → a ≡ b
  some_content same = cc

  pub changed_among : (here most : ℕ) (change : List ℕ → List ℕ) (r : Result Bool (Trouble Halt)) → most + size was ≡ variables_size old + here
      → ChangesOwn one_variable here change (Some was) (Some is) r → ChangesOwn (among_variables name) most change old new r
  changed_among here most change (Ok true) left by =
      rw found (by.0, by.1, by.2, entries_changed (Own (change (text_of was))) (some_content by.3), omega (arith, room_changed, left, by.4))
  changed_among here most change (Ok false) left by = rw found (unchanged (some_content by.0), by.1)
  changed_among here most change (Err (trouble.Refused halt.TooLong)) left by = rw found (unchanged (some_content by.0), by.1, by.2)
  changed_among here most change (Err (trouble.Refused halt.RoomFull)) left by =
      rw found (unchanged (some_content by.0), by.1, by.2, omega (arith, room_wanted (Own (change (text_of was))), left, by.3))
  changed_among here most change (Err (trouble.Refused halt.NoGosub)) left by = absurd by
  changed_among here most change (Err (trouble.Refused halt.TooDeep)) left by = absurd by
  changed_among here most change (Err (trouble.Refused halt.NoError)) left by = absurd by
  changed_among here most change (Err trouble.NoMemory) left by = unchanged (some_content by)

  -- bytes at the end add to the size
  pub grown : (here : ℕ) (more : List ℕ) (r : Result Bool (Trouble Halt)) → ChangesOwn one_variable here (lengthened more) (Some was) (Some is) r
      → IfOk r (λ done. variables_size new ≡ variables_size old + (if done then length more else 0))
  grown here more (Ok true) by =
      omega (arith, room_changed, ap size (some_content by.0), ap size (some_content by.3), length-append (text_of was) more)
  grown here more (Ok false) by = omega (arith, ap variables_size (unchanged (some_content by.0)))
  grown here more (Err why) by = tt

  -- bytes that are cut off give their size back
  pub shrunk : (r : Option ℕ) → IfSome r (λ fewer. size is + fewer ≡ size was) → IfSome r (λ fewer. variables_size new + fewer ≡ variables_size old)
  shrunk (Some fewer) by = omega (arith, room_changed, by)
  shrunk None by = tt

module _ (name : Name) (m : Memory) (variables : List (Name × Content)) where
  with_variables : (others : List (Name × Content)) → variables ≡ others → record m { variables = variables } ≡ record m { variables = others }
  with_variables others same = ap (λ (l : List (Name × Content)). record m { variables = l }) same

  pub changed_memory : (spare : ℕ) (change : List ℕ → List ℕ) (r : Result Bool (Trouble Halt)) → room_of m + spare ≡ MOST_ROOM
      → ChangesOwn (among_variables name) (variables_size m.variables + spare) change m.variables variables r
      → ChangesOwn (in_memory name) MOST_ROOM change m (record m { variables = variables }) r
  changed_memory spare change (Ok true) left by = (by.0, by.1, by.2, with_variables _ by.3, omega (arith, left, by.4))
  changed_memory spare change (Ok false) left by = (with_variables _ by.0, by.1)
  changed_memory spare change (Err (trouble.Refused halt.TooLong)) left by = (with_variables _ by.0, by.1, by.2)
  changed_memory spare change (Err (trouble.Refused halt.RoomFull)) left by = (with_variables _ by.0, by.1, by.2, omega (arith, left, by.3))
  changed_memory spare change (Err (trouble.Refused halt.NoGosub)) left by = absurd by
  changed_memory spare change (Err (trouble.Refused halt.TooDeep)) left by = absurd by
  changed_memory spare change (Err (trouble.Refused halt.NoError)) left by = absurd by
  changed_memory spare change (Err trouble.NoMemory) left by = with_variables _ by

-- Own strings that are changed in place. To the job that is a store of the changed string.
use Rattle.std.specs.Prelude.{◌≡◌, ℕ, ◌<◌, ◌≤◌, Bool, true, false, List, [], ◌++◌, length, take, drop, Option, Some, None, Result, Ok, Err}
use Rattle.std.specs.BTreeMap.{insert_entry}
use Rattle.std.specs.Map.{lookup}
use Rattle.basic_values.specs.declared.failures.Halt.{Halt}
use Rattle.basic_values.specs.declared.failures.Halt.TheVariants as halt
use Rattle.basic_values.specs.declared.failures.Trouble.{Trouble}
use Rattle.basic_values.specs.declared.failures.Trouble.TheVariants.{Refused, NoMemory}
use Rattle.basic_values.specs.declared.texts.TheConstants.{MOST_BYTES}
use Rattle.basic_tree.specs.declared.names.Name.{Name}
use Rattle.job_memory.specs.declared.contents.Content.{Content}
use Rattle.job_memory.specs.declared.contents.Content.TheVariants.{Own}
use Rattle.job_memory.specs.declared.contents.TheConstants.{MOST_ROOM}
use Rattle.job_memory.specs.Contents.{size_in, text_of}
use Rattle.job_memory.specs.Memory.{Memory, variable, store, room_of, variables_size}
use Rattle.job_memory.specs.Names.{name_cmp, at_name}

-- the own string of a variable, or the empty one
abbrev pub own_text_in : Option Content → List ℕ
own_text_in (Some content) = text_of content
own_text_in None = []

-- a variable has a string of its own
abbrev pub IsOwn : Option Content → Type 0
IsOwn held = held ≡ Some (Own (own_text_in held))

-- WHERE A VARIABLE IS KEPT: its content there, the same with another content, and the total size
pub record Keeping (S : Type 0) : Type 0 where
  pub held : S → Option Content
  pub put : Content → S → S
  pub room : S → ℕ

abbrev pub one_variable : Keeping (Option Content)
one_variable = record { held = λ held. held; put = λ content held. Some content; room = size_in }

abbrev pub among_variables : Name → Keeping (List (Name × Content))
among_variables name = record {
  held = λ variables. lookup (at_name name) variables;
  put = λ content variables. insert_entry name_cmp variables name content;
  room = variables_size;
}

abbrev pub in_memory : Name → Keeping Memory
in_memory name = record { held = λ m. variable name m; put = λ content m. store name content m; room = room_of }

-- THE CHANGE of a variable's own string, if the total size may be this at most. The answer says
-- whether the variable has such a string. If not, nothing changes. Nothing changes either if the
-- changed string is too long, if the total size is not allowed, or if memory runs out.
abbrev pub ChangesOwn : {S : Type 0} → Keeping S → ℕ → (List ℕ → List ℕ) → S → S → Result Bool (Trouble Halt) → Type 0
ChangesOwn kept most change old new (Ok true) =
    IsOwn (kept.held old) × (length (own_text_in (kept.held old)) ≤ MOST_BYTES) × (length (change (own_text_in (kept.held old))) ≤ MOST_BYTES)
    × (new ≡ kept.put (Own (change (own_text_in (kept.held old)))) old) × (kept.room new ≤ most)
ChangesOwn kept most change old new (Ok false) = (new ≡ old) × (IsOwn (kept.held old) → ⊥)
ChangesOwn kept most change old new (Err (Refused halt.TooLong)) = (new ≡ old) × IsOwn (kept.held old) × (MOST_BYTES < length (change (own_text_in (kept.held old))))
ChangesOwn kept most change old new (Err (Refused halt.RoomFull)) =
    (new ≡ old) × IsOwn (kept.held old) × (length (change (own_text_in (kept.held old))) ≤ MOST_BYTES)
    × (most < kept.room (kept.put (Own (change (own_text_in (kept.held old)))) old))
ChangesOwn kept most change old new (Err (Refused other)) = ⊥
ChangesOwn kept most change old new (Err NoMemory) = new ≡ old

-- bytes are put at the end
abbrev pub lengthened : List ℕ → List ℕ → List ℕ
lengthened more text = text ++ more

-- this many bytes are left, after the first ones
abbrev pub shortened : ℕ → ℕ → List ℕ → List ℕ
shortened before count text = take count (drop before text)

-- what the calls do in a memory
abbrev pub Appends : Name → List ℕ → Memory → Memory → Result Bool (Trouble Halt) → Type 0
Appends name more old new result = ChangesOwn (in_memory name) MOST_ROOM (lengthened more) old new result

abbrev pub Cuts : Name → ℕ → ℕ → Memory → Memory → Bool → Type 0
Cuts name before count old new done = ChangesOwn (in_memory name) MOST_ROOM (shortened before count) old new (Ok done)

-- What slots contain after a value that they lent was written.
use Rattle.std.specs.Prelude.{◌≡◌, ℕ, List, Option}
use Rattle.std.specs.Borrow.{LendsSo, Fml, RattleType, MutBor}
use Rattle.std.specs.Map.{set_value}
use Rattle.std.specs.Option.{option_map}
use Rattle.basic_tree.specs.declared.names.Name.{Name}
use Rattle.job_memory.specs.contracts.slots.Row as row
use Rattle.job_memory.specs.contracts.slots.Slots as slots
use Rattle.job_memory.specs.Names.{at_name}
use Rattle.job_memory.specs.Slots.{slot_in, SameSlots, HoldsAt, IsOrdered}

module _ (T : RattleType) where
  -- a slot that is not empty gets what was written
  abbrev pub lends_slot : MutBor (List (Option T.Denot)) → ℕ → Option (MutBor T.Denot) → Fml
  lends_slot s slot r = LendsSo (row.the_row T) T s r (λ n w. HoldsAt slot (option_map (λ _. w) (slot_in s.now slot)) s.now n) (λ n. SameSlots s.now n)

  -- so does the entry of a name
  abbrev pub lends_value : MutBor (List (Name × T.Denot)) → Name → Option (MutBor T.Denot) → Fml
  lends_value s name r = LendsSo (slots.the_row T) T s r (λ n w. (n ≡ set_value (at_name name) s.now w) × IsOrdered n) (λ n. n ≡ s.now)

-- The entries of slots: a look-up, a store and a removal by a name's slot are those of a list in
-- the order of names.
use Rattle.std.proofs.Common.{◌≡◌, ◌≢◌, ℕ, zero, suc, ◌+◌, ◌*◌, ◌/◌, ◌%◌, ◌<◌, ◌≤◌, List, [], ◌∷◌, ◌++◌, Bool, true, false, true≢false, cond, Option, Some, None, ⊎_elim, refl, sym, ap, ◌∙◌, arith}
use Rattle.std.proofs.lemmas.Bool.{cases_eq}
use Rattle.std.proofs.lemmas.Grind.{get_or-set_at}
use Rattle.std.proofs.lemmas.List.{get_or-set_same, get_or-set_other, get_or_default, get_or_past}
use Rattle.std.specs.Prelude.{map, length, slice_index_or, slice_set, if◌then◌else◌, ◌==◌}
use Rattle.std.specs.BTreeMap.{insert_entry}
use Rattle.std.specs.Cmp.{tied_itself}
use Rattle.std.specs.List.Sorted.{IsStrictlySortedBy}
use Rattle.std.specs.Map.{keys_of, lookup, set_value, remove_entry}
use Rattle.std.specs.Option.{option_map, option_cmp}
use Rattle.std.specs.Ordering.{is_eq, nat_cmp, bool_cmp, ordering_then}
use Rattle.std.specs.declared.cmp.Ordering.{Ordering}
use Rattle.std.specs.declared.cmp.Ordering.TheVariants.{Less, Equal, Greater}
use Rattle.std.proofs.lemmas.Map.Lookups.{exact_unsigned}
use Rattle.basic_tree.specs.declared.names.Name.{Name}
use Rattle.job_memory.specs.Names.{name_cmp, at_name}
use Rattle.job_memory.specs.Slots.{place_of, slot_of, digit_at, name_of, slot_in, row_in, stored_in, with_slot, with_row, entries_from, entries_of, SameSlots, SameRows, HoldsAt}
use Rattle.job_memory.proofs.NameLemmas.{name_total}
use Rattle.job_memory.proofs.EntryLemmas.{equal_from, insert_entry-found, lookup-insert_entry, lookup-insert_entry-other, sorted-insert_entry, remove_entry-insert_entry, same_entries, set_value-absent}

-- one more empty slot at the end
pub get_or-push_default : {A : Type 0} (xs : List A) (d : A) (k : ℕ) → slice_index_or (xs ++ d ∷ []) k d ≡ slice_index_or xs k d
get_or-push_default [] d zero = refl
get_or-push_default [] d (suc k) = refl
get_or-push_default (x ∷ xs) d zero = refl
get_or-push_default (x ∷ xs) d (suc k) = get_or-push_default xs d k

-- NAMES AND THEIR SLOTS

both_equal : (a b : Ordering) → ordering_then a b ≡ Equal → (a ≡ Equal) × (b ≡ Equal)
both_equal Less b is = absurd (cc)
both_equal Equal b is = (refl, is)
both_equal Greater b is = absurd (cc)

same_digit : (a b : Option ℕ) → option_cmp nat_cmp a b ≡ Equal → a ≡ b
same_digit None None is = refl
same_digit None (Some b) is = absurd (cc)
same_digit (Some a) None is = absurd (cc)
same_digit (Some a) (Some b) is = ap Some (exact_unsigned a b is)

same_kind : (a b : Bool) → bool_cmp a b ≡ Equal → a ≡ b
same_kind true true is = refl
same_kind true false is = absurd (cc)
same_kind false true is = absurd (cc)
same_kind false false is = refl

-- names that compare as equal are the same
pub same_name : (a b : Name) → name_cmp a b ≡ Equal → a ≡ b
same_name a b is =
    let letters = both_equal (nat_cmp a.letter b.letter) (ordering_then (option_cmp nat_cmp a.digit b.digit) (bool_cmp a.text b.text)) is in
    let rest = both_equal (option_cmp nat_cmp a.digit b.digit) (bool_cmp a.text b.text) letters.1 in
    let letter : a.letter ≡ b.letter = exact_unsigned a.letter b.letter letters.0 in
    let digit : a.digit ≡ b.digit = same_digit a.digit b.digit rest.0 in
    let text : a.text ≡ b.text = same_kind a.text b.text rest.1 in
    λ i. record { letter = letter i; digit = digit i; text = text i }

place-digit : (place : ℕ) → place_of (digit_at place) ≡ place
place-digit zero = refl
place-digit (suc digit) = refl

bit : (n : ℕ) → n < 2 → (if n == 1 then 1 else 0) ≡ n
bit zero below = refl
bit (suc zero) below = refl
bit (suc (suc n)) below = absurd (omega arith)

-- each slot is that of its name
slot-name : (letter slot : ℕ) → slot_of (name_of letter slot) ≡ slot
slot-name letter slot =
    let place = place-digit (slot / 2) in
    let text = bit (slot % 2) (omega arith) in
    omega (arith, place, text)

name-digit : (letter digit : ℕ) (text : Bool) → name_of letter (2 * suc digit + (if text then 1 else 0)) ≡ record { letter = letter; digit = Some digit; text = text }
name-digit letter digit true =
    let half : (2 * suc digit + 1) / 2 ≡ suc digit = omega arith in
    let odd : (2 * suc digit + 1) % 2 ≡ 1 = omega arith in
    rw (half, odd) refl
name-digit letter digit false =
    let half : (2 * suc digit + 0) / 2 ≡ suc digit = omega arith in
    let even : (2 * suc digit + 0) % 2 ≡ 0 = omega arith in
    rw (half, even) refl

name-none : (letter : ℕ) (text : Bool) → name_of letter (2 * 0 + (if text then 1 else 0)) ≡ record { letter = letter; digit = None; text = text }
name-none letter true = refl
name-none letter false = refl

name-slot_by : (letter : ℕ) (digit : Option ℕ) (text : Bool) → name_of letter (2 * place_of digit + (if text then 1 else 0)) ≡ record { letter = letter; digit = digit; text = text }
name-slot_by letter None text = name-none letter text
name-slot_by letter (Some digit) text = name-digit letter digit text

-- each name is that of its slot
name-slot : (name : Name) → name_of name.letter (slot_of name) ≡ name
name-slot name = name-slot_by name.letter name.digit name.text

-- the name of a slot is found there
name_here : (q : Name) (letter slot : ℕ) → q.letter ≡ letter → slot_of q ≡ slot → at_name q (name_of letter slot) ≡ true
name_here q letter slot here is =
    ap (λ (l : ℕ). at_name q (name_of l slot)) (sym here) ∙ ap (λ (s : ℕ). at_name q (name_of q.letter s)) (sym is) ∙ ap (λ (n : Name). at_name q n) (name-slot q) ∙ ap is_eq (tied_itself name_total q)

name_apart_by : (q n : Name) (b : Bool) → at_name q n ≡ b → (q ≡ n → ⊥) → b ≡ false
name_apart_by q n true is apart = absurd (apart (same_name q n (equal_from (name_cmp q n) is)))
name_apart_by q n false is apart = refl

-- and nowhere else
name_apart : (q : Name) (letter slot : ℕ) → (q.letter ≡ letter → slot_of q ≡ slot → ⊥) → at_name q (name_of letter slot) ≡ false
name_apart q letter slot apart =
    name_apart_by q (name_of letter slot) (at_name q (name_of letter slot)) refl
    (λ (is : q ≡ name_of letter slot). apart (ap (λ (n : Name). n.letter) is) (ap slot_of is ∙ slot-name letter slot))

-- LOOK-UPS

module _ {T : Type 0} where
  with_slot_here : (q name : Name) (held : Option T) (es : List (Name × T)) → at_name q name ≡ true → lookup (at_name q) es ≡ None → lookup (at_name q) (with_slot name held es) ≡ held
  with_slot_here q name None es here none = none
  with_slot_here q name (Some value) es here none = lookup-insert_entry name_total q name value es ∙ rw here refl

  with_slot_apart : (q name : Name) (held : Option T) (es : List (Name × T)) → at_name q name ≡ false → lookup (at_name q) (with_slot name held es) ≡ lookup (at_name q) es
  with_slot_apart q name None es apart = refl
  with_slot_apart q name (Some value) es apart = lookup-insert_entry-other name_total q name value es apart

  row_apart : (q : Name) (letter slot : ℕ) (row : List (Option T)) (es : List (Name × T)) → ((k : ℕ) → q.letter ≡ letter → slot_of q ≡ slot + k → ⊥) → lookup (at_name q) (with_row letter slot row es) ≡ lookup (at_name q) es
  row_apart q letter slot [] es apart = refl
  row_apart q letter slot (held ∷ row) es apart =
      let here : at_name q (name_of letter slot) ≡ false = name_apart q letter slot (λ l is. apart 0 l (omega arith)) in
      with_slot_apart q (name_of letter slot) held (with_row letter (slot + 1) row es) here ∙ row_apart q letter (slot + 1) row es (λ k l is. apart (suc k) l (omega arith))

  row_here : (q : Name) (letter slot k : ℕ) (row : List (Option T)) (es : List (Name × T)) → q.letter ≡ letter → slot_of q ≡ slot + k → lookup (at_name q) es ≡ None → lookup (at_name q) (with_row letter slot row es) ≡ slot_in row k
  row_here q letter slot k [] es here is none = none
  row_here q letter slot zero (held ∷ row) es here is none =
      let rest : lookup (at_name q) (with_row letter (slot + 1) row es) ≡ None = row_apart q letter (slot + 1) row es (λ j l at. omega arith) ∙ none in
      with_slot_here q (name_of letter slot) held (with_row letter (slot + 1) row es) (name_here q letter slot here (omega arith)) rest
  row_here q letter slot (suc k) (held ∷ row) es here is none =
      let apart : at_name q (name_of letter slot) ≡ false = name_apart q letter slot (λ l at. omega arith) in
      with_slot_apart q (name_of letter slot) held (with_row letter (slot + 1) row es) apart ∙ row_here q letter (slot + 1) k row es here (omega arith) none

  rows_before : (q : Name) (letter : ℕ) (rows : List (List (Option T))) → q.letter < letter → lookup (at_name q) (entries_from letter rows) ≡ None
  rows_before q letter [] before = refl
  rows_before q letter (row ∷ rows) before =
      row_apart q letter 0 row (entries_from (letter + 1) rows) (λ k l at. omega arith) ∙ rows_before q (letter + 1) rows (omega arith)

  rows_here : (q : Name) (letter k : ℕ) (rows : List (List (Option T))) → q.letter ≡ letter + k → lookup (at_name q) (entries_from letter rows) ≡ slot_in (row_in rows k) (slot_of q)
  rows_here q letter k [] is = refl
  rows_here q letter zero (row ∷ rows) is =
      row_here q letter 0 (slot_of q) row (entries_from (letter + 1) rows) (omega arith) (omega arith) (rows_before q (letter + 1) rows (omega arith))
  rows_here q letter (suc k) (row ∷ rows) is =
      row_apart q letter 0 row (entries_from (letter + 1) rows) (λ j l at. omega arith) ∙ rows_here q (letter + 1) k rows (omega arith)

  -- the entry of a name is what is in its slot
  pub lookup-entries_of : (q : Name) (rows : List (List (Option T))) → lookup (at_name q) (entries_of rows) ≡ stored_in rows q
  lookup-entries_of q rows = rows_here q 0 q.letter rows (omega arith)

  -- ORDER

  sorted-with_slot : (name : Name) (held : Option T) (es : List (Name × T)) → IsStrictlySortedBy name_cmp (keys_of es) → IsStrictlySortedBy name_cmp (keys_of (with_slot name held es))
  sorted-with_slot name None es sorted = sorted
  sorted-with_slot name (Some value) es sorted = sorted-insert_entry name_total name value es sorted

  sorted-with_row : (letter slot : ℕ) (row : List (Option T)) (es : List (Name × T)) → IsStrictlySortedBy name_cmp (keys_of es) → IsStrictlySortedBy name_cmp (keys_of (with_row letter slot row es))
  sorted-with_row letter slot [] es sorted = sorted
  sorted-with_row letter slot (held ∷ row) es sorted =
      sorted-with_slot (name_of letter slot) held (with_row letter (slot + 1) row es) (sorted-with_row letter (slot + 1) row es sorted)

  sorted-entries_from : (letter : ℕ) (rows : List (List (Option T))) → IsStrictlySortedBy name_cmp (keys_of (entries_from letter rows))
  unfolding IsStrictlySortedBy
  sorted-entries_from letter [] = tt
  sorted-entries_from letter (row ∷ rows) = sorted-with_row letter 0 row (entries_from (letter + 1) rows) (sorted-entries_from (letter + 1) rows)

  pub sorted-entries_of : (rows : List (List (Option T))) → IsStrictlySortedBy name_cmp (keys_of (entries_of rows))
  sorted-entries_of rows = sorted-entries_from 0 rows

  -- SLOTS THAT CHANGE

  -- if each name has the same content stored, the entries are the same
  pub entries_of-kept : (old new : List (List (Option T))) → ((q : Name) → stored_in new q ≡ stored_in old q) → entries_of new ≡ entries_of old
  entries_of-kept old new same =
      same_entries name_total same_name (entries_of new) (entries_of old) (sorted-entries_of new) (sorted-entries_of old) (λ q. lookup-entries_of q new ∙ same q ∙ sym (lookup-entries_of q old))

  -- a value that is put in the slot of a name is put among the entries
  pub entries_of-stored : (old new : List (List (Option T))) (name : Name) (value : T) → ((q : Name) → stored_in new q ≡ cond (at_name q name) (Some value) (stored_in old q))
      → entries_of new ≡ insert_entry name_cmp (entries_of old) name value
  entries_of-stored old new name value stored =
      same_entries name_total same_name (entries_of new) (insert_entry name_cmp (entries_of old) name value) (sorted-entries_of new) (sorted-insert_entry name_total name value (entries_of old) (sorted-entries_of old))
      (λ q. lookup-entries_of q new ∙ stored q ∙ ap (λ (o : Option T). cond (at_name q name) (Some value) o) (sym (lookup-entries_of q old)) ∙ sym (lookup-insert_entry name_total q name value (entries_of old)))

  -- and takes the place of the one that was there
  pub entries_of-written : (old new : List (List (Option T))) (name : Name) (was value : T) → stored_in old name ≡ Some was → ((q : Name) → stored_in new q ≡ cond (at_name q name) (Some value) (stored_in old q))
      → entries_of new ≡ set_value (at_name name) (entries_of old) value
  entries_of-written old new name was value found stored =
      entries_of-stored old new name value stored ∙ insert_entry-found name_total name was value (entries_of old) (sorted-entries_of old) (lookup-entries_of name old ∙ found)

  -- an entry that is not there is not taken out
  remove_absent_by : (test : Name → Bool) (e : Name × T) (es : List (Name × T)) (b : Bool) → test e.0 ≡ b → lookup test (e ∷ es) ≡ None
      → (lookup test es ≡ None → remove_entry test es ≡ es) → remove_entry test (e ∷ es) ≡ e ∷ es
  remove_absent_by test e es true is absent rest =
      let here : cond (test e.0) (Some e.1) (lookup test es) ≡ None = absent in
      let there : Some e.1 ≡ None = rw is at here in
      absurd (cc)
  remove_absent_by test e es false is absent rest =
      let here : cond (test e.0) (Some e.1) (lookup test es) ≡ None = absent in
      let later : lookup test es ≡ None = rw is at here in
      rw is (ap (λ (l : List (Name × T)). e ∷ l) (rest later))

  remove_absent : (test : Name → Bool) (es : List (Name × T)) → lookup test es ≡ None → remove_entry test es ≡ es
  remove_absent test [] absent = refl
  remove_absent test (e ∷ es) absent = remove_absent_by test e es (test e.0) refl absent (λ a. remove_absent test es a)

  -- what is stored under each name, from this name and the others
  each_by : (old new : List (List (Option T))) (name q : Name) (held : Option T) (b : Bool) → at_name q name ≡ b → stored_in new name ≡ held → (at_name q name ≡ false → stored_in new q ≡ stored_in old q)
      → stored_in new q ≡ cond b held (stored_in old q)
  each_by old new name q held true is here others = ap (stored_in new) (same_name q name (equal_from (name_cmp q name) is)) ∙ here
  each_by old new name q held false is here others = others is

  each : (old new : List (List (Option T))) (name : Name) (held : Option T) → stored_in new name ≡ held → ((q : Name) → at_name q name ≡ false → stored_in new q ≡ stored_in old q)
      → (q : Name) → stored_in new q ≡ cond (at_name q name) held (stored_in old q)
  each old new name held here others q = each_by old new name q held (at_name q name) refl here (others q)

  emptied_by : (old new : List (List (Option T))) (name : Name) (held : Option T) → stored_in old name ≡ held → stored_in new name ≡ None → ((q : Name) → at_name q name ≡ false → stored_in new q ≡ stored_in old q)
      → entries_of new ≡ remove_entry (at_name name) (entries_of old)
  emptied_by old new name None was here others =
      entries_of-kept old new (λ q. each old new name None here others q ∙ sym (each old old name None was (λ p apart. refl) q))
      ∙ sym (remove_absent (at_name name) (entries_of old) (lookup-entries_of name old ∙ was))
  emptied_by old new name (Some value) was here others =
      let put : entries_of old ≡ insert_entry name_cmp (entries_of new) name value =
      entries_of-stored new old name value (each new old name (Some value) was (λ q apart. sym (others q apart))) in
      sym (ap (remove_entry (at_name name)) put ∙ remove_entry-insert_entry name_total name value (entries_of new) (lookup-entries_of name new ∙ here))

  -- nothing is stored under a name without a row
  pub lookup-no_row : (q : Name) (rows : List (List (Option T))) (letter : ℕ) → letter ≡ q.letter → length rows ≤ letter → lookup (at_name q) (entries_of rows) ≡ None
  lookup-no_row q rows letter is past = lookup-entries_of q rows ∙ ap (λ (r : List (Option T)). slot_in r (slot_of q)) (get_or_past rows q.letter [] (omega arith))

  -- the row of a name has what is stored under it
  pub lookup-row : (q : Name) (rows : List (List (Option T))) (row : List (Option T)) (letter slot : ℕ) (found : Option T) → letter ≡ q.letter → slot ≡ slot_of q → letter < length rows → row ≡ slice_index_or rows letter row
      → found ≡ slot_in row slot → found ≡ lookup (at_name q) (entries_of rows)
  lookup-row q rows row letter slot found letter_is slot_is inside read is =
      is ∙ ap (λ (r : List (Option T)). slot_in r slot) (read ∙ get_or_default rows letter row [] inside) ∙ ap (λ (l : ℕ). slot_in (row_in rows l) slot) letter_is
      ∙ ap (slot_in (row_in rows q.letter)) slot_is ∙ sym (lookup-entries_of q rows)

  -- A ROW THAT CHANGES

  module _ (rows : List (List (Option T))) (was row : List (Option T)) (letter : ℕ) (inside : letter < length rows) (read : was ≡ slice_index_or rows letter was) where
    was_is : was ≡ row_in rows letter
    was_is = read ∙ get_or_default rows letter was [] inside

    set_here : (q : Name) → q.letter ≡ letter → stored_in (slice_set rows letter row) q ≡ slot_in row (slot_of q)
    set_here q is = ap (λ (r : List (Option T)). slot_in r (slot_of q)) (get_or-set_at rows letter q.letter row [] is inside)

    set_apart : (q : Name) → q.letter ≢ letter → stored_in (slice_set rows letter row) q ≡ stored_in rows q
    set_apart q apart = ap (λ (r : List (Option T)). slot_in r (slot_of q)) (get_or-set_other rows letter q.letter row [] apart)

    was_stored : (q : Name) → q.letter ≡ letter → slot_in was (slot_of q) ≡ stored_in rows q
    was_stored q is = ap (λ (r : List (Option T)). slot_in r (slot_of q)) was_is ∙ ap (λ (l : ℕ). slot_in (row_in rows l) (slot_of q)) (sym is)

    pub entries_of-same_row : SameSlots was row → entries_of (slice_set rows letter row) ≡ entries_of rows
    entries_of-same_row same =
        entries_of-kept rows (slice_set rows letter row) (λ q.
        ⊎_elim (λ (is : q.letter ≡ letter). set_here q is ∙ same (slot_of q) ∙ was_stored q is) (λ (apart : q.letter ≢ letter). set_apart q apart) (cases_eq q.letter letter))

    module _ (name : Name) (slot : ℕ) (held : Option T) (letter_is : letter ≡ name.letter) (slot_is : slot ≡ slot_of name) (holds : HoldsAt slot held was row) where
      stored_here : stored_in (slice_set rows letter row) name ≡ held
      stored_here = set_here name (sym letter_is) ∙ ap (slot_in row) (sym slot_is) ∙ holds.here

      other_slot : (q : Name) → at_name q name ≡ false → q.letter ≡ letter → slot_of q ≢ slot
      other_slot q apart is at = true≢false (sym (name_here q name.letter (slot_of name) (is ∙ letter_is) (at ∙ slot_is)) ∙ ap (at_name q) (name-slot name) ∙ apart)

      stored_others : (q : Name) → at_name q name ≡ false → stored_in (slice_set rows letter row) q ≡ stored_in rows q
      stored_others q apart =
          ⊎_elim
          (λ (is : q.letter ≡ letter). set_here q is ∙ holds.others (slot_of q) (other_slot q apart is) ∙ was_stored q is)
          (λ (other : q.letter ≢ letter). set_apart q other)
          (cases_eq q.letter letter)

      stored_each : (q : Name) → stored_in (slice_set rows letter row) q ≡ cond (at_name q name) held (stored_in rows q)
      stored_each q = each rows (slice_set rows letter row) name held stored_here stored_others q

  pub entries_of-insert : (rows : List (List (Option T))) (was row : List (Option T)) (letter : ℕ) → letter < length rows → was ≡ slice_index_or rows letter was
      → (name : Name) (slot : ℕ) (value : T) → letter ≡ name.letter → slot ≡ slot_of name → HoldsAt slot (Some value) was row
      → entries_of (slice_set rows letter row) ≡ insert_entry name_cmp (entries_of rows) name value
  entries_of-insert rows was row letter inside read name slot value letter_is slot_is holds =
      entries_of-stored rows (slice_set rows letter row) name value (stored_each rows was row letter inside read name slot (Some value) letter_is slot_is holds)

  pub entries_of-write : (rows : List (List (Option T))) (was row : List (Option T)) (letter : ℕ) → letter < length rows → was ≡ slice_index_or rows letter was
      → (name : Name) (slot : ℕ) (old value : T) → letter ≡ name.letter → slot ≡ slot_of name → slot_in was slot ≡ Some old → HoldsAt slot (Some value) was row
      → entries_of (slice_set rows letter row) ≡ set_value (at_name name) (entries_of rows) value
  entries_of-write rows was row letter inside read name slot old value letter_is slot_is found holds =
      let there : stored_in rows name ≡ Some old = sym (was_stored rows was row letter inside read name (sym letter_is)) ∙ ap (slot_in was) (sym slot_is) ∙ found in
      entries_of-written rows (slice_set rows letter row) name old value there (stored_each rows was row letter inside read name slot (Some value) letter_is slot_is holds)

  -- a filled slot takes the value, and an empty one stays empty
  pub entries_of-rewrite : (rows : List (List (Option T))) (was row : List (Option T)) (letter : ℕ) → letter < length rows → was ≡ slice_index_or rows letter was
      → (name : Name) (slot : ℕ) (held : Option T) (value : T) → letter ≡ name.letter → slot ≡ slot_of name → slot_in was slot ≡ held → HoldsAt slot (option_map (λ _. value) held) was row
      → entries_of (slice_set rows letter row) ≡ set_value (at_name name) (entries_of rows) value
  entries_of-rewrite rows was row letter inside read name slot None value letter_is slot_is found holds =
      let absent : None ≡ lookup (at_name name) (entries_of rows) = lookup-row name rows was letter slot None letter_is slot_is inside read (sym found) in
      let same : SameSlots was row =
      λ k. ⊎_elim (λ (is : k ≡ slot). ap (slot_in row) is ∙ holds.here ∙ sym found ∙ ap (slot_in was) (sym is)) (λ (apart : k ≢ slot). holds.others k apart) (cases_eq k slot) in
      entries_of-same_row rows was row letter inside read same ∙ sym (set_value-absent (at_name name) value (entries_of rows) (sym absent))
  entries_of-rewrite rows was row letter inside read name slot (Some old) value letter_is slot_is found holds =
      entries_of-write rows was row letter inside read name slot old value letter_is slot_is found holds

  pub entries_of-remove : (rows : List (List (Option T))) (was row : List (Option T)) (letter : ℕ) → letter < length rows → was ≡ slice_index_or rows letter was
      → (name : Name) (slot : ℕ) → letter ≡ name.letter → slot ≡ slot_of name → HoldsAt slot None was row
      → entries_of (slice_set rows letter row) ≡ remove_entry (at_name name) (entries_of rows)
  entries_of-remove rows was row letter inside read name slot letter_is slot_is holds =
      emptied_by rows (slice_set rows letter row) name (stored_in rows name) refl
      (stored_here rows was row letter inside read name slot None letter_is slot_is holds) (stored_others rows was row letter inside read name slot None letter_is slot_is holds)

  -- removing a name without a row changes nothing
  pub entries_of-no_row : (rows : List (List (Option T))) (name : Name) (letter : ℕ) → letter ≡ name.letter → length rows ≤ letter → entries_of rows ≡ remove_entry (at_name name) (entries_of rows)
  entries_of-no_row rows name letter is past = sym (remove_absent (at_name name) (entries_of rows) (lookup-no_row name rows letter is past))

  -- a slot that is set
  pub holds-set : (row : List (Option T)) (slot : ℕ) (held : Option T) → slot < length row → HoldsAt slot held row (slice_set row slot held)
  holds-set row slot held inside = record { here = get_or-set_same row slot held None inside; others = λ k apart. get_or-set_other row slot k held None apart }

  -- rows that are the same at each letter
  pub entries_of-same : (old new : List (List (Option T))) → SameRows old new → entries_of new ≡ entries_of old
  entries_of-same old new same = entries_of-kept old new (λ q. ap (λ (r : List (Option T)). slot_in r (slot_of q)) (same q.letter))

-- VALUES THAT ARE CHANGED IN PLACE

abbrev entry_by : {T : Type 0} → (T → T) → Name × T → Name × T
entry_by f entry = (entry.0, f entry.1)

module _ {T : Type 0} (f : T → T) where
  map-insert_entry_by : (name : Name) (value : T) (e : Name × T) (es : List (Name × T)) (o : Ordering) → name_cmp name e.0 ≡ o
      → insert_entry name_cmp (map (entry_by f) es) name (f value) ≡ map (entry_by f) (insert_entry name_cmp es name value)
      → insert_entry name_cmp (map (entry_by f) (e ∷ es)) name (f value) ≡ map (entry_by f) (insert_entry name_cmp (e ∷ es) name value)
  map-insert_entry_by name value e es Less is rest = rw is refl
  map-insert_entry_by name value e es Equal is rest = rw is refl
  map-insert_entry_by name value e es Greater is rest = rw is (ap (λ (l : List (Name × T)). entry_by f e ∷ l) rest)

  map-insert_entry : (name : Name) (value : T) (es : List (Name × T)) → insert_entry name_cmp (map (entry_by f) es) name (f value) ≡ map (entry_by f) (insert_entry name_cmp es name value)
  map-insert_entry name value [] = refl
  map-insert_entry name value (e ∷ es) = map-insert_entry_by name value e es (name_cmp name e.0) refl (map-insert_entry name value es)

  map-with_slot : (name : Name) (held : Option T) (es : List (Name × T)) → with_slot name (option_map f held) (map (entry_by f) es) ≡ map (entry_by f) (with_slot name held es)
  map-with_slot name None es = refl
  map-with_slot name (Some value) es = map-insert_entry name value es

  map-with_row : (letter slot : ℕ) (row : List (Option T)) (es : List (Name × T)) → with_row letter slot (map (option_map f) row) (map (entry_by f) es) ≡ map (entry_by f) (with_row letter slot row es)
  map-with_row letter slot [] es = refl
  map-with_row letter slot (held ∷ row) es =
      ap (with_slot (name_of letter slot) (option_map f held)) (map-with_row letter (slot + 1) row es) ∙ map-with_slot (name_of letter slot) held (with_row letter (slot + 1) row es)

  map-entries_from : (letter : ℕ) (rows : List (List (Option T))) → entries_from letter (map (map (option_map f)) rows) ≡ map (entry_by f) (entries_from letter rows)
  map-entries_from letter [] = refl
  map-entries_from letter (row ∷ rows) =
      ap (with_row letter 0 (map (option_map f) row)) (map-entries_from (letter + 1) rows) ∙ map-with_row letter 0 row (entries_from (letter + 1) rows)

  pub map-entries_of : (rows : List (List (Option T))) → entries_of (map (map (option_map f)) rows) ≡ map (entry_by f) (entries_of rows)
  map-entries_of rows = map-entries_from 0 rows

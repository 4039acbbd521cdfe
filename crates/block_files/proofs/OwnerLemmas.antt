-- The blocks of each owner after a change of a file.
use Rattle.std.proofs.Common.{◌≡◌, ◌≢◌, ℕ, ◌+◌, ◌-◌, ◌*◌, ◌<◌, ◌≤◌, ◌^◌, Bool, true, false, List, [], ◌∷◌, length, set, get_or, Some, None, Result, Ok, Err, refl, sym, ap, ◌∙◌, subst, arith}
use Rattle.std.specs.Prelude.{not, is_ok, OnOk, OnErr}
use Rattle.std.proofs.lemmas.List.{get_or-set_same, get_or-set_other}
use Rattle.monitor_calls.specs.declared.names.Account.{Account}
use Rattle.monitor_calls.specs.declared.files.FileName.{FileName}
use Rattle.monitor_calls.specs.FileNames.{same_account}
use Rattle.monitor_calls.proofs.FileNameLemmas.{Decides-same_account}
use Rattle.monitor_model.specs.Files.{File, size, size_for, blocks_of, blocks_owned, is_file, the_file, size_at, remove, make, remake, rename, renamed, empty_file, put, written}
use Rattle.monitor_model.proofs.FileLemmas.{file_there}
use Rattle.monitor_model.proofs.OwnerLemmas.{own_size, other_size, at_most_size, owned-make, owned-remove, owned-replace}
use Rattle.monitor_model.proofs.PageLemmas.{the_file-name, written_name, size-written}
use Rattle.monitor_model.proofs.Tools.{by_test}
use Rattle.basic_values.specs.declared.failures.Trouble.{Trouble}
use Rattle.monitor_model.specs.Refusals.{refusal, RefusedBy, RefusedByOrNoMemory}
use Rattle.block_files.specs.Disks.{Disk}
use Rattle.block_files.specs.Owners.{slot, count_at, with_count, IsAccount, AreCounted}

-- no owner has more than all files
pub owned_at_most : (files : List File) (owner : Account) → blocks_owned files owner ≤ blocks_of files
owned_at_most [] owner = omega arith
owned_at_most (file ∷ files) owner = omega (arith, at_most_size owner file, owned_at_most files owner)

pub same_self : (owner : Account) → same_account owner owner ≡ true
same_self owner = (Decides-same_account owner owner).1 refl

same_slot : (a b : Account) → IsAccount a → IsAccount b → slot a ≡ slot b → a ≡ b
same_slot a b p q e =
    let project : a.project ≡ b.project = omega (arith, e, p.1, q.1) in
    let programmer : a.programmer ≡ b.programmer = omega (arith, e, p.1, q.1) in
    (λ i. record { project = project i; programmer = programmer i })

slot_below : (owner : Account) → IsAccount owner → slot owner < 2 ^ 16
slot_below owner is = omega (arith, is.0, is.1)

-- THE COUNT OF ONE ACCOUNT CHANGES

module _ (counts : List ℕ) (wide : length counts ≡ 2 ^ 16) (own : Account) (is : IsAccount own) (count : ℕ) where
  count_own : (owner : Account) → owner ≡ own → count_at (with_count counts own count) owner ≡ count
  count_own owner same =
      ap (λ o. count_at (with_count counts own count) o) same
      ∙ get_or-set_same counts (slot own) count 0 (let lt = slot_below own is in omega (arith, lt, wide))

  count_other : (owner : Account) → IsAccount owner → owner ≢ own → count_at (with_count counts own count) owner ≡ count_at counts owner
  count_other owner it ne = get_or-set_other counts (slot own) (slot owner) count 0 (λ same. ne (same_slot owner own it is same))

  -- if only that account's blocks change, by this much
  pub recounted :
      (old new : List File) → AreCounted counts old → blocks_owned new own ≡ count →
      ((owner : Account) → same_account own owner ≡ false → blocks_owned new owner ≡ blocks_owned old owner) →
      AreCounted (with_count counts own count) new
  recounted old new counted now others owner it =
      by_test (same_account own owner)
      (λ same. let one : own ≡ owner = (Decides-same_account own owner).0 same in
      count_own owner (sym one) ∙ sym now ∙ ap (blocks_owned new) one)
      (λ other. count_other owner it (λ one. let yes = (Decides-same_account own owner).1 (sym one) in absurd (let clash : true ≡ false = sym yes ∙ other in cc))
      ∙ counted owner it ∙ sym (others owner other))

-- WHAT WAS DONE

-- if a call is done, its promise holds, and no test refuses it
pub when_ok : {T E P : Type 0} (r : Result T E) → is_ok r ≡ true → OnOk r P → P
when_ok (Ok x) is p = p
when_ok (Err e) is p = absurd (cc)

passed : (b : Bool) (number : ℕ) (tests : List (Bool × ℕ)) → refusal ((not b, number) ∷ tests) ≡ None → b ≡ true
passed true number tests e = refl
passed false number tests e = absurd (cc)

pub there_if_done : {T : Type 0} (r : Result T ℕ) (b : Bool) (number : ℕ) (tests : List (Bool × ℕ)) → is_ok r ≡ true → RefusedBy ((not b, number) ∷ tests) r → b ≡ true
there_if_done (Ok x) b number tests is e = passed b number tests e
there_if_done (Err x) b number tests is e = absurd (cc)

pub there_if_made : {T : Type 0} (r : Result T (Trouble ℕ)) (b : Bool) (number : ℕ) (tests : List (Bool × ℕ)) → is_ok r ≡ true → RefusedByOrNoMemory ((not b, number) ∷ tests) r → b ≡ true
there_if_made (Ok x) b number tests is e = passed b number tests e
there_if_made (Err x) b number tests is e = absurd (cc)

-- an empty file changes no count
pub counted_empty : (counts : List ℕ) (files : List File) → AreCounted counts files → (name : FileName) (code : ℕ) → AreCounted counts (make files (empty_file name code))
counted_empty counts files counted name code owner it =
    let made = owned-make owner files (empty_file name code) in
    let none = at_most_size owner (empty_file name code) in
    let same : blocks_owned files owner ≡ blocks_owned (make files (empty_file name code)) owner = omega (arith, made, none) in
    counted owner it ∙ same

-- the counts stay if nothing is done, and if an empty file is made
pub counted_created : {T E : Type 0} (r : Result T E) (counts : List ℕ) (old new : Disk) (name : FileName) (code : ℕ) → OnOk r (new.files ≡ make old.files (empty_file name code)) → OnErr r (new ≡ old) → AreCounted counts old.files → AreCounted counts new.files
counted_created (Ok x) counts old new name code ok err counted = λ owner it.
    counted_empty counts old.files counted name code owner it ∙ sym (ap (λ fs. blocks_owned fs owner) ok)
counted_created (Err x) counts old new name code ok err counted = subst (λ d. AreCounted counts d.files) (sym err) counted

-- A FILE IS TAKEN OUT, MADE, WRITTEN

pub owned_put : (files : List File) (name : FileName) (block more : ℕ) (page : List ℕ) → is_file files name ≡ true → more ≡ block - size_at files name → blocks_owned (put files name block page) name.owner ≡ blocks_owned files name.owner + more
owned_put files name block more page there enough =
    let file = the_file files name in
    let new = written file block page in
    let self : same_account name.owner name.owner ≡ true = (Decides-same_account name.owner name.owner).1 refl in
    let changed = owned-replace name.owner files name file new (file_there files name there) in
    let before = own_size name.owner file (ap (λ n. same_account n.owner name.owner) (the_file-name files name) ∙ self) in
    let after = own_size name.owner new (ap (λ n. same_account n.owner name.owner) (written_name files name block page) ∙ self) in
    omega (arith, changed, before, after, size-written file block page, enough)

module _ (counts : List ℕ) (wide : length counts ≡ 2 ^ 16) (files : List File) (counted : AreCounted counts files) (name : FileName) (is : IsAccount name.owner) where
  its_owner : (owner : Account) → same_account (the_file files name).name.owner owner ≡ same_account name.owner owner
  its_owner owner = ap (λ n. same_account n.owner owner) (the_file-name files name)

  pub counted_less : is_file files name ≡ true → AreCounted (with_count counts name.owner (count_at counts name.owner - size_at files name)) (remove files name)
  counted_less there =
      let file = the_file files name in
      recounted counts wide name.owner is (count_at counts name.owner - size_at files name) files (remove files name) counted
      (let gone = owned-remove name.owner files name file (file_there files name there) in
      let own = own_size name.owner file (its_owner name.owner ∙ same_self name.owner) in
      let was = counted name.owner is in
      omega (arith, gone, own, was))
      (λ owner other.
      let gone = owned-remove owner files name file (file_there files name there) in
      let none = other_size owner file (its_owner owner ∙ other) in
      omega (arith, gone, none))

  pub counted_put : (block more : ℕ) (page : List ℕ) → is_file files name ≡ true → more ≡ block - size_at files name → AreCounted (with_count counts name.owner (count_at counts name.owner + more)) (put files name block page)
  counted_put block more page there enough =
      let file = the_file files name in
      let new = written file block page in
      recounted counts wide name.owner is (count_at counts name.owner + more) files (put files name block page) counted
      (let grown = owned_put files name block more page there enough in
      let was = counted name.owner is in
      omega (arith, grown, was))
      (λ owner other.
      let changed = owned-replace owner files name file new (file_there files name there) in
      let before = other_size owner file (its_owner owner ∙ other) in
      let after = other_size owner new (ap (λ n. same_account n.owner owner) (written_name files name block page) ∙ other) in
      omega (arith, changed, before, after))

  pub counted_more : (file : File) (blocks : ℕ) → file.name ≡ name → size file ≡ blocks → AreCounted (with_count counts name.owner (count_at counts name.owner + blocks)) (make files file)
  counted_more file blocks named sized =
      recounted counts wide name.owner is (count_at counts name.owner + blocks) files (make files file) counted
      (let made = owned-make name.owner files file in
      let own = own_size name.owner file (ap (λ n. same_account n.owner name.owner) named ∙ same_self name.owner) in
      let was = counted name.owner is in
      omega (arith, made, own, was, sized))
      (λ owner other.
      let made = owned-make owner files file in
      let none = other_size owner file (ap (λ n. same_account n.owner owner) named ∙ other) in
      omega (arith, made, none))

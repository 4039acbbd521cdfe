-- What a write needs of a quota, and what the last page of a record leaves for those before it.
use Rattle.std.proofs.Common.{◌≡◌, ℕ, ◌+◌, ◌-◌, ◌<◌, ◌≤◌, ◌^◌, zero, suc, Bool, true, false, cond, List, [], ◌∷◌, length, slice_get, refl, sym, ap, ◌∙◌, subst, arith, Some, None}
use Rattle.std.specs.Prelude.{Option, Result, Ok, Err, ◌==◌, nat_lt, is_some, unwrap_or, IsOk, OnOk}
use Rattle.std.proofs.lemmas.Bool.{ltb-false, ne_eqb}
use Rattle.std.proofs.lemmas.Option.{slice_get-get_or}
use Rattle.basic_values.specs.declared.failures.Trouble.{Trouble}
use Rattle.basic_values.specs.declared.failures.Trouble.TheVariants.{Refused, NoMemory}
use Rattle.monitor_calls.specs.declared.names.Account.{Account}
use Rattle.monitor_calls.specs.declared.files.FileName.{FileName}
use Rattle.monitor_calls.specs.FileNames.{same_account, same_name}
use Rattle.monitor_calls.proofs.FileNameLemmas.{Decides-same_account, same_name-true}
use Rattle.monitor_model.specs.Files.{File, size, size_for, size_at, file_at, the_file, is_file, is_block, page_of, written, put, put_all, blocks_owned, empty_file}
use Rattle.monitor_model.specs.Refusals.{refusal, RefusedByOrNoMemory}
use Rattle.monitor_model.proofs.FileLemmas.{file_there, file_at-replace_same}
use Rattle.monitor_model.proofs.PageLemmas.{written_name, is_file-put, size-written}
use Rattle.block_files.specs.Calls.{write_refusals}
use Rattle.block_files.specs.Disks.{Disk}
use Rattle.monitor_core.specs.Records.{room_refusals}

-- THE QUOTA

-- a file's blocks are among those of its owner
pub size_owned : (files : List File) (name : FileName) → size_at files name ≤ blocks_owned files name.owner
size_owned [] name = omega arith
size_owned (file ∷ files) name =
    elim (same_name file.name name) as (λ v. same_name file.name name ≡ v → size (unwrap_or (cond v (Some file) (file_at files name)) (empty_file name 0)) ≤ size_for file name.owner + blocks_owned files name.owner) [
      | true ↦ λ is. let own = own_blocks file name (same_name-true file.name name is) in omega (arith, own)
      | false ↦ λ is. let rest = size_owned files name in omega (arith, rest)
    ] refl where
      same_size : (f : File) → size_for f f.name.owner ≡ size f
      same_size f = ap (λ b. cond b (size f) 0) ((Decides-same_account f.name.owner f.name.owner).1 refl)

      own_blocks : (f : File) (n : FileName) → f.name ≡ n → size f ≤ size_for f n.owner
      own_blocks f n e = subst (λ (x : FileName). size f ≤ size_for f x.owner) e (omega (arith, same_size f))

-- if the quota leaves what is needed, the last block has a number of 16 bits
pub last_small : (quota used size last : ℕ) → quota < 2 ^ 16 → size < 2 ^ 16 → size ≤ used → nat_lt (quota - used) (last - size) ≡ false → last < 2 ^ 16
last_small quota used size last few small owned left =
    let le = ltb-false (quota - used) (last - size) left in
    omega (arith, few, small, owned, le)

-- A RECORD'S PAGES

is_file-put_all : (name : FileName) (pages : List (List ℕ)) (files : List File) (first : ℕ) → is_file (put_all files name first pages) name ≡ is_file files name
is_file-put_all name [] files first = refl
is_file-put_all name (page ∷ pages) files first =
    is_file-put (put_all files name (suc first) pages) name first page name ∙ is_file-put_all name pages files (suc first)

reaches : (files : List File) (name : FileName) (block : ℕ) (page : List ℕ) → is_file files name ≡ true → block ≤ size_at (put files name block page) name
reaches files name block page is =
    let old = the_file files name in
    let there : the_file (put files name block page) name ≡ written old block page = ap (λ o. unwrap_or o (empty_file name 0)) (file_at-replace_same files name (written old block page) old (written_name files name block page) (file_there files name is)) in
    let same : size_at (put files name block page) name ≡ size old + (block - size old) = ap size there ∙ size-written old block page in
    omega (arith, same)

block_there : (file : File) (block : ℕ) → 1 ≤ block → block ≤ size file → is_some (page_of file block) ≡ true
block_there file zero some le = absurd (omega (arith, some))
block_there file (suc place) some le = ap is_some (slice_get-get_or file.pages place [] (omega (arith, le)))

-- after the pages that follow a block are written, the file has the block
pub block_before : (files : List File) (name : FileName) (block next : ℕ) (pages : List (List ℕ)) → is_file files name ≡ true → 1 ≤ block → next ≡ block + 1 → 1 ≤ length pages → is_block (put_all files name next pages) name block ≡ true
block_before files name block next [] is some after few = absurd (omega (arith, few))
block_before files name block next (page ∷ pages) is some after few =
    let rest = put_all files name (suc next) pages in
    let far = reaches rest name next page (is_file-put_all name pages files (suc next) ∙ is) in
    block_there (the_file (put rest name next page) name) block some (omega (arith, far, after))

same_row : {T : Type 0} (tests others : List (Bool × ℕ)) (result : Result T (Trouble ℕ)) → refusal tests ≡ refusal others → RefusedByOrNoMemory tests result → RefusedByOrNoMemory others result
same_row tests others (Ok value) same by = sym same ∙ by
same_row tests others (Err (Refused number)) same by = sym same ∙ by
same_row tests others (Err NoMemory) same by = tt

-- the write of a block from 1 of a file that exists can only be refused because no space is left
pub write_row : {T : Type 0} (d : Disk) (name : FileName) (block last : ℕ) (result : Result T (Trouble ℕ)) → is_file d.files name ≡ true → 1 ≤ block → last ≡ block → RefusedByOrNoMemory (write_refusals d name block) result → RefusedByOrNoMemory (room_refusals d name last) result
write_row d name block last result is some same by =
    let not_zero : (block == 0) ≡ false = ne_eqb block 0 (λ none. omega (arith, some, none)) in
    let rows : refusal (write_refusals d name block) ≡ refusal (room_refusals d name block) = rw (is, not_zero) refl in
    subst (λ n. RefusedByOrNoMemory (room_refusals d name n) result) (sym same)
    (same_row (write_refusals d name block) (room_refusals d name block) result rows by)

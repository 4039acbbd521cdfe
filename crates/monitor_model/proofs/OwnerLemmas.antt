-- How many blocks the files of an owner have after each change of the list of files.
use Rattle.std.proofs.Common.{◌≡◌, ◌+◌, ◌≤◌, true, false, cond, List, [], ◌∷◌, sym, ap, subst, arith, Some}
use Rattle.monitor_calls.specs.declared.names.Account.{Account}
use Rattle.monitor_calls.specs.declared.files.FileName.{FileName}
use Rattle.monitor_calls.specs.FileNames.{same_account, same_name}
use Rattle.monitor_model.specs.Files.{File, size, size_for, blocks_owned, file_at, make, remove, replace}

module _ (owner : Account) where
  -- ONE FILE, which is the owner's or another's

  pub own_size : (file : File) → same_account file.name.owner owner ≡ true → size_for file owner ≡ size file
  own_size file own = ap (λ b. cond b (size file) 0) own

  pub other_size : (file : File) → same_account file.name.owner owner ≡ false → size_for file owner ≡ 0
  other_size file other = ap (λ b. cond b (size file) 0) other

  pub at_most_size : (file : File) → size_for file owner ≤ size file
  at_most_size file =
      elim (same_account file.name.owner owner) as (λ v. cond v (size file) 0 ≤ size file) [ true ↦ omega arith | false ↦ omega arith ]

  -- in the place of a file, one of the same owner with no more blocks
  pub fewer_owned : (old new : File) → new.name.owner ≡ old.name.owner → size new ≤ size old → size_for new owner ≤ size_for old owner
  fewer_owned old new same le =
      subst (λ o. cond (same_account o owner) (size new) 0 ≤ size_for old owner) (sym same)
      (elim (same_account old.name.owner owner) as (λ v. cond v (size new) 0 ≤ cond v (size old) 0) [ true ↦ le | false ↦ omega arith ])

  -- ALL FILES

  pub owned-make : (files : List File) (new : File) → blocks_owned (make files new) owner ≡ blocks_owned files owner + size_for new owner
  owned-make [] new = omega arith
  owned-make (first ∷ files) new = omega (arith, owned-make files new)

  pub owned-remove : (files : List File) (name : FileName) (old : File) → file_at files name ≡ Some old → blocks_owned (remove files name) owner + size_for old owner ≡ blocks_owned files owner
  owned-remove [] name old e = absurd (cc)
  owned-remove (first ∷ files) name old e =
      elim (same_name first.name name) as (λ v. cond v (Some first) (file_at files name) ≡ Some old → blocks_owned (cond v files (first ∷ remove files name)) owner + size_for old owner ≡ blocks_owned (first ∷ files) owner) [
        | true ↦ λ e. let here : first ≡ old = cc in subst (λ gone. blocks_owned files owner + size_for gone owner ≡ blocks_owned (first ∷ files) owner) here (omega arith)
        | false ↦ λ e. omega (arith, owned-remove files name old e)
      ] e

  pub owned-replace : (files : List File) (name : FileName) (old new : File) → file_at files name ≡ Some old → blocks_owned (replace files name new) owner + size_for old owner ≡ blocks_owned files owner + size_for new owner
  owned-replace [] name old new e = absurd (cc)
  owned-replace (first ∷ files) name old new e =
      elim (same_name first.name name) as (λ v. cond v (Some first) (file_at files name) ≡ Some old → blocks_owned (cond v (new ∷ files) (first ∷ replace files name new)) owner + size_for old owner ≡ blocks_owned (first ∷ files) owner + size_for new owner) [
        | true ↦ λ e. let here : first ≡ old = cc in subst (λ gone. blocks_owned (new ∷ files) owner + size_for gone owner ≡ blocks_owned (first ∷ files) owner + size_for new owner) here (omega arith)
        | false ↦ λ e. omega (arith, owned-replace files name old new e)
      ] e

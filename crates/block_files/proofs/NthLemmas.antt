-- The names of one owner, one after another.
use Rattle.std.proofs.Common.{◌≡◌, ℕ, ◌+◌, ◌-◌, ◌≤◌, zero, suc, true, false, cond, List, [], ◌∷◌, length, drop, filter, slice_get, Some, None, refl, sym, ap, ◌∙◌, arith}
use Rattle.std.specs.Prelude.{option_map}
use Rattle.std.proofs.lemmas.List.{drop_more, drop_all}
use Rattle.std.proofs.lemmas.Option.{slice_get_within, get_or_from_slice_get}
use Rattle.monitor_calls.specs.declared.names.Account.{Account}
use Rattle.monitor_calls.specs.declared.files.FileName.{FileName}
use Rattle.monitor_calls.specs.Volumes.{same_account}
use Rattle.block_files.specs.declared.bodies.FileBody.{FileBody}
use Rattle.monitor_model.specs.Files.{File, nth_of}
use Rattle.block_files.specs.Rows.{Entry, file_of, files_of, name_or, nth_name}

abbrev owned_by : Account → List File → List File
owned_by owner files = filter (λ (file : File). same_account file.name.owner owner) files

module _ (es : List Entry) (owner : Account) (place : ℕ) where
  rest_at : (name : FileName) (v : FileBody) → Some (name, v) ≡ slice_get es place → drop place es ≡ (name, v) ∷ drop (place + 1) es
  rest_at name v e =
      let at : slice_get es place ≡ Some (name, v) = sym e in
      drop_more es place (name, v) (slice_get_within es place (name, v) at) ∙ ap (λ x. x ∷ drop (place + 1) es) (get_or_from_slice_get es place (name, v) (name, v) at)

  pub nth_here : (name : FileName) (v : FileBody) (left : ℕ) → Some (name, v) ≡ slice_get es place → same_account name.owner owner ≡ true → left ≡ 0 → nth_name (drop place es) owner left ≡ Some name
  nth_here name v left e same is =
      ap (λ xs. nth_name xs owner left) (rest_at name v e) ∙ (λ i. cond (same i) (name_or (is i) name (nth_name (drop (place + 1) es) owner (left - 1))) (nth_name (drop (place + 1) es) owner left))

  pub nth_later : (name : FileName) (v : FileBody) (left now : ℕ) → Some (name, v) ≡ slice_get es place → same_account name.owner owner ≡ true → (left ≡ 0 → ⊥) → now ≡ left - 1 → nth_name (drop place es) owner left ≡ nth_name (drop (place + 1) es) owner now
  nth_later name v zero now e same some is = absurd (some refl)
  nth_later name v (suc k) now e same some is =
      ap (λ xs. nth_name xs owner (suc k)) (rest_at name v e) ∙ ap (λ b. cond b (nth_name (drop (place + 1) es) owner (suc k - 1)) (nth_name (drop (place + 1) es) owner (suc k))) same ∙ ap (nth_name (drop (place + 1) es) owner) (sym is)

  pub nth_other : (name : FileName) (v : FileBody) (left : ℕ) → Some (name, v) ≡ slice_get es place → same_account name.owner owner ≡ false → nth_name (drop place es) owner left ≡ nth_name (drop (place + 1) es) owner left
  nth_other name v left e other =
      ap (λ xs. nth_name xs owner left) (rest_at name v e) ∙ ap (λ b. cond b (name_or left name (nth_name (drop (place + 1) es) owner (left - 1))) (nth_name (drop (place + 1) es) owner left)) other

  pub nth_end : (left : ℕ) → length es ≤ place → nth_name (drop place es) owner left ≡ None
  nth_end left past = ap (λ xs. nth_name xs owner left) (drop_all place es past)

pub nth_shown : (pages : List (List ℕ)) (es : List Entry) (owner : Account) (index : ℕ) → nth_name es owner index ≡ option_map (λ file. file.name) (nth_of (files_of pages es) owner index)
nth_shown pages [] owner index = refl
nth_shown pages (e ∷ es) owner index =
    elim (same_account e.0.owner owner) as (λ b. cond b (name_or index e.0 (nth_name es owner (index - 1))) (nth_name es owner index) ≡ option_map (λ file. file.name) (slice_get (cond b (file_of pages e ∷ owned_by owner (files_of pages es)) (owned_by owner (files_of pages es))) index)) [
      | true ↦ by index (λ k. nth_shown pages es owner k)
      | false ↦ nth_shown pages es owner index
    ] where
      by : (n : ℕ) → ((k : ℕ) → nth_name es owner k ≡ option_map (λ file. file.name) (nth_of (files_of pages es) owner k)) → name_or n e.0 (nth_name es owner (n - 1)) ≡ option_map (λ file. file.name) (slice_get (file_of pages e ∷ owned_by owner (files_of pages es)) n)
      by zero rest = refl
      by (suc k) rest = (let back : suc k - 1 ≡ k = omega arith in ap (nth_name es owner) back) ∙ rest k

-- What is read of a disk.
use Rattle.std.proofs.Common.{◌≡◌, ℕ, zero, suc, List, [], length, get_or, false, Some, None, refl, sym, ap, ◌∙◌}
use Rattle.std.specs.Prelude.{Option, option_map, option_copied, unwrap_or, is_some}
use Rattle.std.specs.Borrow.{Bor}
use Rattle.std.proofs.lemmas.List.{length-map}
use Rattle.std.proofs.lemmas.Option.{slice_get-map}
use Rattle.monitor_calls.specs.declared.files.FileName.{FileName}
use Rattle.block_files.specs.declared.bodies.FileBody.{FileBody}
use Rattle.monitor_model.specs.Files.{file_at, size, is_file, the_file, is_block, page_at, page_of, size_at, empty_file}
use Rattle.block_files.specs.Disks.{place_at}
use Rattle.block_files.specs.Rows.{Entry, file_of, files_of, body_at}
use Rattle.block_files.proofs.RowLemmas.{file_at-file_of}

module _ (pages : List (List ℕ)) (es : List Entry) (name : FileName) where
  pub shown_at : (o : Option FileBody) → o ≡ body_at es name → file_at (files_of pages es) name ≡ option_map (λ (v : FileBody). file_of pages (name, v)) o
  shown_at o e = file_at-file_of pages es name ∙ ap (option_map (λ (v : FileBody). file_of pages (name, v))) (sym e)

  pub is_file-file_of : (o : Option FileBody) → o ≡ body_at es name → is_some o ≡ is_file (files_of pages es) name
  is_file-file_of None e = ap is_some (sym (shown_at None e))
  is_file-file_of (Some v) e = ap is_some (sym (shown_at (Some v) e))

  pub the_file-file_of : (v : FileBody) → Some v ≡ body_at es name → the_file (files_of pages es) name ≡ file_of pages (name, v)
  the_file-file_of v e = ap (λ o. unwrap_or o (empty_file name 0)) (shown_at (Some v) e)

  pub the_file-none : None ≡ body_at es name → the_file (files_of pages es) name ≡ empty_file name 0
  the_file-none e = ap (λ o. unwrap_or o (empty_file name 0)) (shown_at None e)

  pub page_of-file_of : (v : FileBody) (block : ℕ) → page_of (file_of pages (name, v)) block ≡ option_map (λ p. get_or pages p []) (place_at v.places.items block)
  page_of-file_of v zero = refl
  page_of-file_of v (suc k) = slice_get-map (λ p. get_or pages p []) v.places.items k

  pub page_at-file_of : (v : FileBody) (block : ℕ) → Some v ≡ body_at es name → page_at (files_of pages es) name block ≡ option_map (λ p. get_or pages p []) (place_at v.places.items block)
  page_at-file_of v block e = ap (λ f. page_of f block) (the_file-file_of v e) ∙ page_of-file_of v block

  pub page_at-none : (block : ℕ) → None ≡ body_at es name → page_at (files_of pages es) name block ≡ None
  page_at-none zero e = ap (λ f. page_of f zero) (the_file-none e)
  page_at-none (suc k) e = ap (λ f. page_of f (suc k)) (the_file-none e)

  some_map : (o : Option ℕ) → is_some o ≡ is_some (option_map (λ p. get_or pages p []) o)
  some_map None = refl
  some_map (Some p) = refl

  pub is_block-file_of : (v : FileBody) (block : ℕ) → Some v ≡ body_at es name → is_some (place_at v.places.items block) ≡ is_block (files_of pages es) name block
  is_block-file_of v block e = some_map (place_at v.places.items block) ∙ sym (ap is_some (page_at-file_of v block e))

  pub size_at-file_of : (v : FileBody) → Some v ≡ body_at es name → size_at (files_of pages es) name ≡ length v.places.items
  size_at-file_of v e = ap size (the_file-file_of v e) ∙ length-map v.places.items (λ p. get_or pages p [])

  pub size-file_of : (v : FileBody) (n : ℕ) → n ≡ length v.places.items → Some v ≡ body_at es name → Some n ≡ option_map size (file_at (files_of pages es) name)
  size-file_of v n is e = ap Some (is ∙ sym (length-map v.places.items (λ p. get_or pages p []))) ∙ sym (ap (option_map size) (shown_at (Some v) e))

  pub is_body : is_some (body_at es name) ≡ is_file (files_of pages es) name
  is_body = is_file-file_of (body_at es name) refl

  pub no_body : is_file (files_of pages es) name ≡ false → body_at es name ≡ None
  no_body e = by (body_at es name) (is_body ∙ e) where
    by : (o : Option FileBody) → is_some o ≡ false → o ≡ None
    by None h = refl
    by (Some v) h = absurd (cc)

pub is_some-copied : {T : Type 0} (o : Option (Bor T)) → is_some o ≡ is_some (option_copied o)
is_some-copied None = refl
is_some-copied (Some x) = refl

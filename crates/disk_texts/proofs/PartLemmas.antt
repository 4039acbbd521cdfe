-- The text of a volume is its parts, one after the other.
use Rattle.std.proofs.Common.{◌≡◌, ℕ, List, [], ◌∷◌, ◌++◌, length, map, refl, sym, ap, ◌∙◌, append_assoc}
use Rattle.std.specs.Prelude.{codes}
use Rattle.std.specs.List.{flat_map}
use Rattle.std.specs.Fmt.{decimal}
use Rattle.std.proofs.lemmas.List.{append-nil}
use Rattle.std.proofs.lemmas.List.Concat.{flat_map-append}
use Rattle.monitor_calls.specs.declared.volumes.AccountEntry.{AccountEntry}
use Rattle.monitor_calls.specs.declared.files.FileEntry.{FileEntry}
use Rattle.deck_model.specs.declared.versions.Version.TheVariants.{Three}
use Rattle.deck_model.specs.Forms.{extension_text}
use Rattle.deck_model.specs.Spelling.{account_line, extension_of, file_lines, terminal_lines}
use Rattle.deck_model.specs.DiskTexts.{file_with_lines, keyless, text_of_lines, volume_text}
use Rattle.disk_texts.specs.Parts.{file_head, files_text}

text_both : (xs ys : List (List ℕ)) → text_of_lines (xs ++ ys) ≡ text_of_lines xs ++ text_of_lines ys
text_both xs ys = flat_map-append (λ (line : List ℕ). line ++ 10 ∷ []) xs ys

files_joined : (files : List FileEntry) → files_text files ≡ text_of_lines (flat_map file_lines (map file_with_lines files))
files_joined [] = refl
files_joined (f ∷ files) =
    ap (λ (t : List ℕ). text_of_lines (file_lines (file_with_lines f)) ++ t) (files_joined files)
    ∙ sym (text_both (file_lines (file_with_lines f)) (flat_map file_lines (map file_with_lines files)))

-- a text after others, each after those before it
abbrev pub pushed : List ℕ → List (List ℕ) → List ℕ
pushed out [] = out
pushed out (text ∷ texts) = pushed (out ++ text) texts

pub pushed_is : (out : List ℕ) (texts : List (List ℕ)) → pushed out texts ≡ out ++ flat_map (λ (t : List ℕ). t) texts
pushed_is out [] = sym (append-nil out)
pushed_is out (t ∷ texts) = pushed_is (out ++ t) texts ∙ append_assoc out t (flat_map (λ (x : List ℕ). x) texts)

module _ (blocks : ℕ) (accounts : List AccountEntry) (files : List FileEntry) (names : List (List ℕ)) where
  abbrev head : List ℕ
  head = codes "RSTS-DECK 3\nDISK " ++ decimal blocks ++ 10 ∷ []

  abbrev account_lines : List (List ℕ)
  account_lines = map (account_line Three) accounts

  abbrev lines_of_files : List (List ℕ)
  lines_of_files = flat_map file_lines (map file_with_lines files)

  abbrev lines_of_names : List (List ℕ)
  lines_of_names = flat_map terminal_lines (map keyless names)

  -- the text in its parts
  parts_are : volume_text blocks accounts files names ≡ head ++ (text_of_lines account_lines ++ (files_text files ++ (text_of_lines lines_of_names ++ codes "END\n")))
  parts_are =
      ap (λ (t : List ℕ). head ++ t)
      (ap text_of_lines (append_assoc account_lines (lines_of_files ++ lines_of_names) (codes "END" ∷ []))
      ∙ text_both account_lines ((lines_of_files ++ lines_of_names) ++ codes "END" ∷ [])
      ∙ ap (λ (t : List ℕ). text_of_lines account_lines ++ t)
      (ap text_of_lines (append_assoc lines_of_files lines_of_names (codes "END" ∷ []))
      ∙ text_both lines_of_files (lines_of_names ++ codes "END" ∷ [])
      ∙ (λ i. sym (files_joined files) i ++ text_both lines_of_names (codes "END" ∷ []) i)))

  -- what is appended of a volume in order is its text
  pub volume_pushed : (out one two three four five : List ℕ) → one ≡ out ++ head → two ≡ one ++ text_of_lines account_lines → three ≡ two ++ files_text files → four ≡ three ++ text_of_lines lines_of_names → five ≡ four ++ codes "END\n" → five ≡ out ++ volume_text blocks accounts files names
  volume_pushed out one two three four five a b c d e =
      e ∙ ap (λ (t : List ℕ). t ++ codes "END\n") (d ∙ ap (λ (t : List ℕ). t ++ text_of_lines lines_of_names) (c ∙ ap (λ (t : List ℕ). t ++ files_text files) (b ∙ ap (λ (t : List ℕ). t ++ text_of_lines account_lines) a)))
      ∙ append_assoc (((out ++ head) ++ text_of_lines account_lines) ++ files_text files) (text_of_lines lines_of_names) (codes "END\n")
      ∙ append_assoc ((out ++ head) ++ text_of_lines account_lines) (files_text files) (text_of_lines lines_of_names ++ codes "END\n")
      ∙ append_assoc (out ++ head) (text_of_lines account_lines) (files_text files ++ (text_of_lines lines_of_names ++ codes "END\n"))
      ∙ append_assoc out head (text_of_lines account_lines ++ (files_text files ++ (text_of_lines lines_of_names ++ codes "END\n")))
      ∙ ap (λ (t : List ℕ). out ++ t) (sym parts_are)

-- ---- one line in its parts

pub disk_pushed : (out one two three : List ℕ) (blocks : ℕ) → one ≡ out ++ codes "RSTS-DECK 3\nDISK " → two ≡ one ++ decimal blocks → three ≡ two ++ 10 ∷ [] → three ≡ out ++ (codes "RSTS-DECK 3\nDISK " ++ decimal blocks ++ 10 ∷ [])
disk_pushed out one two three blocks a b c =
    c ∙ ap (λ (t : List ℕ). t ++ 10 ∷ []) (b ∙ ap (λ (t : List ℕ). t ++ decimal blocks) a)
    ∙ append_assoc (out ++ codes "RSTS-DECK 3\nDISK ") (decimal blocks) (10 ∷ [])
    ∙ append_assoc out (codes "RSTS-DECK 3\nDISK ") (decimal blocks ++ 10 ∷ [])

abbrev account_parts : AccountEntry → List (List ℕ)
account_parts e =
    codes "ACCOUNT " ∷ (decimal e.account.project ++ codes "," ++ decimal e.account.programmer) ∷ codes " " ∷ e.password ∷ codes " "
    ∷ decimal e.limit ∷ codes " " ∷ decimal e.quota ∷ codes "\n" ∷ []

pub account_pushed : (out : List ℕ) (e : AccountEntry) → pushed out (account_parts e) ≡ out ++ (account_line Three e ++ 10 ∷ [])
account_pushed out e = pushed_is out (account_parts e) ∙ ap (λ (t : List ℕ). out ++ t) (simp append_assoc)

abbrev head_parts : FileEntry → List (List ℕ)
head_parts e =
    codes "FILE [" ∷ (decimal e.name.owner.project ++ codes "," ++ decimal e.name.owner.programmer) ∷ codes "]" ∷ e.name.stem
    ∷ extension_text (extension_of e.name.extension) ∷ codes "<" ∷ decimal e.code ∷ codes "> " ∷ decimal (length e.pages) ∷ codes "\n" ∷ []

pub head_pushed : (out : List ℕ) (e : FileEntry) → pushed out (head_parts e) ≡ out ++ (file_head e ++ 10 ∷ [])
head_pushed out e = pushed_is out (head_parts e) ∙ ap (λ (t : List ℕ). out ++ t) (simp append_assoc)

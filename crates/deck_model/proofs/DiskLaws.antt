-- The round trip: the text of a volume spells the deck of that volume.
use Rattle.std.proofs.Common.{◌≡◌, ℕ, zero, suc, ◌-◌, ◌*◌, ◌<◌, ◌≤◌, Bool, true, false, eqb, List, [], ◌∷◌, ◌++◌, length, get_or, replicate, map, Option, Some, None, refl, sym, ap, subst, ◌∙◌, append_assoc, arith}
use Rattle.std.specs.Prelude.{◌&&◌, nat_le, unwrap_or}
use Rattle.std.specs.List.{AllByRecursion, flat_map, list_all}
use Rattle.std.specs.Char.{is_ascii_digit, is_ascii_alphanumeric}
use Rattle.std.specs.Str.Lines.{strip_carriage_return}
use Rattle.std.specs.Fmt.{decimal}
use Rattle.std.proofs.lemmas.Bool.{leb-true, ne_eqb}
use Rattle.std.proofs.lemmas.Bool.Decides.{nat_tests}
use Rattle.std.proofs.lemmas.List.Folds.{list_all-append}
use Rattle.basic_values.proofs.CutLaws.{and_left, and_right, and_both, Lacks, cut_again}
use Rattle.monitor_calls.specs.declared.volumes.AccountEntry.{AccountEntry}
use Rattle.monitor_calls.specs.declared.files.FileEntry.{FileEntry}
use Rattle.monitor_calls.specs.Names.{is_capital_or_digit}
use Rattle.monitor_calls.specs.Volumes.{is_good_entry, is_good_file, blocks_of}
use Rattle.deck_model.specs.declared.versions.Version.{Version}
use Rattle.deck_model.specs.declared.versions.Version.TheVariants.{One, Two, Three}
use Rattle.deck_model.specs.Lines.{whole_lines, cut_line}
use Rattle.deck_model.specs.Files.{File, pages_of, file_entry, content_of}
use Rattle.deck_model.specs.Deck.{Deck, IsTerminal}
use Rattle.deck_model.specs.Forms.{LineForm, Heading, Disk, Account, File as FileForm, Terminal, Keys, Block, End, quota_text, extension_text, line_of, is_numeral, is_numeral_or_none, is_name, is_file_letter, is_file_word, is_formed}
use Rattle.deck_model.specs.Spelling.{texts_of, account_line, file_texts, FileWithLines, volume_entry, HasLines, HaveLines, file_lines, terminal_lines, group_lines, deck_lines, IsQuota, AreNamesIn}
use Rattle.deck_model.specs.DiskTexts.{lines_of_pages, file_with_lines, keyless, closing_deck, text_of_lines, has_whole_pages, VolumeIsSpelled}
use Rattle.deck_model.proofs.FieldLaws.{numeral_digits, decimal_numeral, text_is, name_of, file_is}
use Rattle.deck_model.proofs.LineLaws.{line_found, line_missed}
use Rattle.deck_model.proofs.NameLaws.{weaker}
use Rattle.deck_model.proofs.PageLaws.{is_line_byte, IsPlain, large_byte, hex_plain, pages_back, pages_written}
use Rattle.deck_model.proofs.VolumeLaws.{volume_parts, all_append}
use Rattle.deck_model.proofs.FileLaws.{files_parts}
use Rattle.deck_model.proofs.RangeLaws.{written, written_file}

-- ---- the lines of a deck have neither LF nor CR

abbrev is_plain : List ℕ → Bool
is_plain line = list_all is_line_byte line

plain_both : (xs ys : List ℕ) → IsPlain xs → IsPlain ys → IsPlain (xs ++ ys)
plain_both xs ys p q = list_all-append is_line_byte xs ys ∙ and_both (is_plain xs) (is_plain ys) p q

letter_large : (n : ℕ) → is_ascii_alphanumeric n ≡ true → 31 < n
letter_large n e = grind (arith, nat_tests)

digit_large : (n : ℕ) → is_ascii_digit n ≡ true → 31 < n
digit_large n e = grind (arith, nat_tests)

capital_large : (n : ℕ) → is_capital_or_digit n ≡ true → 31 < n
capital_large n e = grind (arith, nat_tests)

file_letter_large : (version : Version) (n : ℕ) → is_file_letter version n ≡ true → 31 < n
file_letter_large One n e = capital_large n e
file_letter_large Two n e = capital_large n e
file_letter_large Three n e = letter_large n e

numeral_plain : (text : List ℕ) → is_numeral text ≡ true → IsPlain text
numeral_plain text e = weaker is_ascii_digit is_line_byte (λ n digit. large_byte n (digit_large n digit)) text (numeral_digits text e)

name_plain : (text : List ℕ) → is_name text ≡ true → IsPlain text
name_plain text e = weaker is_capital_or_digit is_line_byte (λ n capital. large_byte n (capital_large n capital)) text e

word_plain : (version : Version) (text : List ℕ) → is_file_word version text ≡ true → IsPlain text
word_plain version text e = weaker (is_file_letter version) is_line_byte (λ n letter. large_byte n (file_letter_large version n letter)) text e

quota_plain : (quota : Option (List ℕ)) → is_numeral_or_none quota ≡ true → IsPlain (quota_text quota)
quota_plain None e = refl
quota_plain (Some text) e = numeral_plain text e

extension_plain : (version : Version) (extension : Option (List ℕ)) → is_file_word version (unwrap_or extension []) ≡ true → IsPlain (extension_text extension)
extension_plain version None e = refl
extension_plain version (Some text) e = word_plain version text e

-- a form that has no keys
abbrev IsNoKeys : LineForm → Type 0
IsNoKeys (Keys keys) = ⊥
IsNoKeys form = Unit {0}

form_plain : (version : Version) (form : LineForm) → is_formed version form ≡ true → IsNoKeys form → IsPlain (line_of form)
form_plain version (Heading One) formed other = refl
form_plain version (Heading Two) formed other = refl
form_plain version (Heading Three) formed other = refl
form_plain version (Disk blocks) formed other = numeral_plain blocks formed
form_plain version (Account t) formed other =
    let p = is_numeral t.project in
    let n = is_numeral t.programmer in
    let w = is_name t.password in
    let l = is_numeral t.limit in
    let c = and_left (p && n && w && l) (is_numeral_or_none t.quota) formed in
    let b = and_left (p && n && w) l c in
    let a = and_left (p && n) w b in
    subst IsPlain (sym (text_is t))
    (plain_both t.project _ (numeral_plain t.project (and_left p n a))
    (plain_both t.programmer _ (numeral_plain t.programmer (and_right p n a))
    (plain_both t.password _ (name_plain t.password (and_right (p && n) w b))
    (plain_both t.limit _ (numeral_plain t.limit (and_right (p && n && w) l c))
    (quota_plain t.quota (and_right (p && n && w && l) (is_numeral_or_none t.quota) formed))))))
form_plain version (FileForm t) formed other =
    let p = is_numeral t.project in
    let n = is_numeral t.programmer in
    let s = is_file_word version t.stem in
    let x = is_file_word version (unwrap_or t.extension []) in
    let c = is_numeral t.code in
    let e5 = and_left (p && n && s && x && c) (is_numeral t.blocks) formed in
    let e4 = and_left (p && n && s && x) c e5 in
    let e3 = and_left (p && n && s) x e4 in
    let e2 = and_left (p && n) s e3 in
    let name : IsPlain (name_of t) = plain_both t.stem (extension_text t.extension) (word_plain version t.stem (and_right (p && n) s e3)) (extension_plain version t.extension (and_right (p && n && s) x e4)) in
    subst IsPlain (sym (file_is t))
    (plain_both t.project _ (numeral_plain t.project (and_left p n e2))
    (plain_both t.programmer _ (numeral_plain t.programmer (and_right p n e2))
    (plain_both (name_of t) _ name
    (plain_both t.code _ (numeral_plain t.code (and_right (p && n && s && x) c e5))
    (numeral_plain t.blocks (and_right (p && n && s && x && c) (is_numeral t.blocks) formed))))))
form_plain version (Terminal name) formed other = name_plain name formed
form_plain version (Block bytes) formed other = hex_plain bytes
form_plain version End formed other = refl
form_plain version (Keys keys) formed other = absurd other

-- ---- such lines are found again in their text

no_feed : (b : ℕ) → is_line_byte b ≡ true → b ≡ 10 → ⊥
no_feed b e same = let bad : is_line_byte 10 ≡ true = subst (λ (n : ℕ). is_line_byte n ≡ true) same e in cc

no_return : (b : ℕ) → is_line_byte b ≡ true → eqb b 13 ≡ false
no_return b e = ne_eqb b 13 (λ same. let bad : is_line_byte 13 ≡ true = subst (λ (n : ℕ). is_line_byte n ≡ true) same e in cc)

plain_lacks : (line : List ℕ) → IsPlain line → Lacks 10 line
plain_lacks [] e = tt
plain_lacks (b ∷ bs) e = (ne_eqb b 10 (no_feed b (and_left (is_line_byte b) (is_plain bs) e)), plain_lacks bs (and_right (is_line_byte b) (is_plain bs) e))

at_plain : (line : List ℕ) (i : ℕ) → IsPlain line → eqb (get_or line i 0) 13 ≡ false
at_plain [] zero e = refl
at_plain [] (suc i) e = refl
at_plain (b ∷ bs) zero e = no_return b (and_left (is_line_byte b) (is_plain bs) e)
at_plain (b ∷ bs) (suc i) e = at_plain bs i (and_right (is_line_byte b) (is_plain bs) e)

plain_kept : (line : List ℕ) → IsPlain line → strip_carriage_return line ≡ line
plain_kept line e = rw (at_plain line (length line - 1) e) refl

lines_found : (lines : List (List ℕ)) → AllByRecursion IsPlain lines → (whole_lines (text_of_lines lines) ≡ lines) × (cut_line (text_of_lines lines) ≡ [])
lines_found [] all = line_missed [] refl
lines_found (l ∷ lines) all =
    let rest : List ℕ = text_of_lines lines in
    let split : (l ++ 10 ∷ []) ++ rest ≡ l ++ 10 ∷ rest = append_assoc l (10 ∷ []) rest in
    let found = line_found (l ++ 10 ∷ rest) (l, rest) (cut_again 10 l rest (plain_lacks l all.0)) in
    let others = lines_found lines all.1 in
    (ap whole_lines split ∙ found.0 ∙ (λ i. plain_kept l all.0 i ∷ others.0 i), ap cut_line split ∙ found.1 ∙ others.1)

-- ---- files

entry_again : (e : FileEntry) → has_whole_pages e ≡ true → volume_entry (file_with_lines e) ≡ e
entry_again e are =
    let w = pages_written e.pages are in
    let pages : pages_of (length e.pages) (content_of (lines_of_pages e.pages) ++ replicate (512 * length e.pages - length (content_of (lines_of_pages e.pages))) 0) ≡ e.pages =
    ap (pages_of (length e.pages)) w.back ∙ pages_back e.pages are in
    λ i. record { name = e.name; code = e.code; pages = pages i }

entry_has : (e : FileEntry) → has_whole_pages e ≡ true → HasLines Three (file_with_lines e)
entry_has e are = let w = pages_written e.pages are in record { may = w.may; content = refl; fits = w.fits }

files_have : (files : List FileEntry) → list_all has_whole_pages files ≡ true → HaveLines Three files (map file_with_lines files)
files_have [] e = record { each = tt; files_are = refl }
files_have (f ∷ files) e =
    let here = and_left (has_whole_pages f) (list_all has_whole_pages files) e in
    let more = files_have files (and_right (has_whole_pages f) (list_all has_whole_pages files) e) in
    record { each = (entry_has f here, more.each); files_are = λ i. entry_again f here i ∷ more.files_are i }

-- ---- the lines

accounts_plain : (blocks : ℕ) (accounts : List AccountEntry) → list_all is_good_entry accounts ≡ true → AllByRecursion IsPlain (map (account_line Three) accounts)
accounts_plain blocks [] e = tt
accounts_plain blocks (a ∷ accounts) e =
    let w = written Three blocks a (and_left (is_good_entry a) (list_all is_good_entry accounts) e) tt in
    (form_plain Three (Account (texts_of Three a)) w.formed tt, accounts_plain blocks accounts (and_right (is_good_entry a) (list_all is_good_entry accounts) e))

files_plain : (accounts : List AccountEntry) (files : List FileEntry) → list_all is_good_entry accounts ≡ true → list_all (is_good_file accounts) files ≡ true → list_all has_whole_pages files ≡ true → blocks_of files ≤ 16384 → AllByRecursion IsPlain (flat_map file_lines (map file_with_lines files))
files_plain accounts [] each good are few = tt
files_plain accounts (f ∷ files) each good are few =
    let file : File = (file_with_lines f).file in
    let here : is_good_file accounts (file_entry file) ≡ true = and_left (is_good_file accounts f) (list_all (is_good_file accounts) files) good in
    let whole = and_left (has_whole_pages f) (list_all has_whole_pages files) are in
    let w = written_file Three accounts file each here tt (omega (arith, few)) in
    all_append IsPlain (file_lines (file_with_lines f)) (flat_map file_lines (map file_with_lines files)) (form_plain Three (FileForm (file_texts file)) w.formed tt, (pages_written f.pages whole).plain)
    (files_plain accounts files each (and_right (is_good_file accounts f) (list_all (is_good_file accounts) files) good) (and_right (has_whole_pages f) (list_all has_whole_pages files) are) (omega (arith, few)))

terminals_plain : (names : List (List ℕ)) → AllByRecursion IsTerminal (map keyless names) → AllByRecursion IsPlain (flat_map terminal_lines (map keyless names))
terminals_plain [] all = tt
terminals_plain (n ∷ names) all =
    (name_plain n (and_right (nat_le 1 (length n) && nat_le (length n) 8) (is_name n) all.0.name), terminals_plain names all.1)

any_quotas : (blocks : ℕ) (accounts : List AccountEntry) → AllByRecursion (λ (e : AccountEntry). IsQuota Three blocks e.quota) accounts
any_quotas blocks [] = tt
any_quotas blocks (a ∷ accounts) = (tt, any_quotas blocks accounts)

any_names : (files : List FileEntry) → AreNamesIn Three files
any_names [] = tt
any_names (f ∷ files) = (tt, any_names files)

pub volume_spelled : VolumeIsSpelled
volume_spelled blocks accounts files names good pages terminals =
    let deck : Deck = closing_deck blocks accounts files names in
    let listed : List FileWithLines = map file_with_lines files in
    let parts = volume_parts blocks accounts files good in
    let own = files_parts blocks accounts files parts.1 in
    let most : blocks ≤ 16384 = leb-true blocks 16384 (and_right (nat_le 1 blocks) (nat_le blocks 16384) parts.0.size) in
    let head : IsPlain (line_of (Disk (decimal blocks))) = form_plain Three (Disk (decimal blocks)) (decimal_numeral blocks (omega (arith, most))) tt in
    let files_are = files_plain accounts files parts.0.each own.each pages (omega (arith, own.fit, most)) in
    let groups : AllByRecursion IsPlain (group_lines Three deck listed) = (
      refl,
      (
        head,
        all_append IsPlain (map (account_line Three) accounts) (flat_map file_lines listed ++ flat_map terminal_lines deck.terminals) (accounts_plain blocks accounts parts.0.each)
            (all_append IsPlain (flat_map file_lines listed) (flat_map terminal_lines deck.terminals) files_are (terminals_plain names terminals.each)),
      ),
    ) in
    let found = lines_found (deck_lines Three deck listed) (all_append IsPlain (group_lines Three deck listed) (line_of End ∷ []) groups (refl, tt)) in
    record {
      version = Three;
      with_lines = listed;
      is_deck = record { volume = good; terminals = terminals };
      quotas = any_quotas blocks accounts;
      names = any_names files;
      have_lines = files_have files pages;
      lines_are = found.0;
      ends = found.1;
    }

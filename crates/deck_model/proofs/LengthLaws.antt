-- The text of a volume is short.
use Rattle.std.proofs.Common.{◌≡◌, ℕ, ◌+◌, ◌*◌, ◌≤◌, true, List, [], ◌∷◌, ◌++◌, length, map, ap, ◌∙◌, arith}
use Rattle.std.specs.Prelude.{◌&&◌, nat_le}
use Rattle.std.specs.List.{AllByRecursion, flat_map, list_all}
use Rattle.std.specs.Fmt.{decimal}
use Rattle.std.proofs.lemmas.Bool.{leb-true}
use Rattle.std.proofs.lemmas.Fmt.{length-decimal-le}
use Rattle.std.proofs.lemmas.List.{length-append, length-map}
use Rattle.std.proofs.lemmas.List.Concat.{flat_map-append}
use Rattle.basic_values.proofs.CutLaws.{and_left, and_right}
use Rattle.monitor_calls.specs.declared.volumes.AccountEntry.{AccountEntry}
use Rattle.monitor_calls.specs.declared.files.FileEntry.{FileEntry}
use Rattle.monitor_calls.specs.Names.{is_short_text, is_capital_or_digit}
use Rattle.monitor_calls.specs.Volumes.{has_account, is_good_entry, is_good_name, is_good_file, blocks_of}
use Rattle.deck_model.specs.declared.versions.Version.TheVariants.{Three}
use Rattle.deck_model.specs.Deck.{Deck, IsTerminal}
use Rattle.deck_model.specs.Forms.{Heading, Disk, File, End, AccountTexts, FileTexts, extension_text, line_of}
use Rattle.deck_model.specs.Files as files
use Rattle.deck_model.specs.Spelling.{texts_of, account_line, extension_of, file_texts, content_line, FileWithLines, file_lines, terminal_lines, group_lines}
use Rattle.deck_model.specs.DiskTexts.{lines_of_pages, file_with_lines, keyless, closing_deck, text_of_lines, has_whole_pages, VolumeIsShort}
use Rattle.deck_model.proofs.FieldLaws.{text_is, name_of, file_is}
use Rattle.deck_model.proofs.PageLaws.{pages_written}
use Rattle.deck_model.proofs.VolumeLaws.{volume_parts, owner_ranges}
use Rattle.deck_model.proofs.FileLaws.{files_parts}
use Rattle.deck_model.proofs.RangeLaws.{ranges_of}

length-lines : (xs ys : List (List ℕ)) → length (text_of_lines (xs ++ ys)) ≡ length (text_of_lines xs) + length (text_of_lines ys)
length-lines xs ys = ap length (flat_map-append (λ (line : List ℕ). line ++ 10 ∷ []) xs ys) ∙ length-append (text_of_lines xs) (text_of_lines ys)

length-line : (line : List ℕ) (lines : List (List ℕ)) → length (text_of_lines (line ∷ lines)) ≡ length line + 1 + length (text_of_lines lines)
length-line line lines = omega (arith, length-append (line ++ 10 ∷ []) (text_of_lines lines), length-append line (10 ∷ []))

few_digits : (n : ℕ) → n ≤ 16384 → length (decimal n) ≤ 5
few_digits n small = length-decimal-le 5 n (omega arith) (omega (arith, small)) (omega (arith, small))

-- ---- accounts

account_short : (e : AccountEntry) → is_good_entry e ≡ true → length (account_line Three e) ≤ 40
account_short e good =
    let r = ranges_of e good in
    let t : AccountTexts = texts_of Three e in
    let project = few_digits e.account.project (omega (arith, leb-true _ _ r.project)) in
    let programmer = few_digits e.account.programmer (omega (arith, leb-true _ _ r.programmer)) in
    let limit = few_digits e.limit (leb-true _ _ r.limit) in
    let quota = few_digits e.quota (leb-true _ _ r.quota) in
    let password : length e.password ≤ 6 = leb-true _ _ (and_right (nat_le 1 (length e.password)) (nat_le (length e.password) 6) (and_left (nat_le 1 (length e.password) && nat_le (length e.password) 6) (list_all is_capital_or_digit e.password) r.password)) in
    let limits : List ℕ = t.limit ++ 32 ∷ decimal e.quota in
    let behind_name : List ℕ = t.password ++ 32 ∷ limits in
    let behind_project : List ℕ = t.programmer ++ 32 ∷ behind_name in
    omega (arith, ap length (text_is t), length-append t.project (44 ∷ behind_project), length-append t.programmer (32 ∷ behind_name), length-append t.password (32 ∷ limits), length-append t.limit (32 ∷ decimal e.quota), project, programmer, password, limit, quota)

accounts_short : (accounts : List AccountEntry) → list_all is_good_entry accounts ≡ true → length (text_of_lines (map (account_line Three) accounts)) ≤ 41 * length accounts
accounts_short [] e = omega arith
accounts_short (a ∷ accounts) e =
    let here = account_short a (and_left (is_good_entry a) (list_all is_good_entry accounts) e) in
    let more = accounts_short accounts (and_right (is_good_entry a) (list_all is_good_entry accounts) e) in
    omega (arith, here, more, length-line (account_line Three a) (map (account_line Three) accounts))

-- ---- files

extension_length : (extension : List ℕ) → length (extension_text (extension_of extension)) ≤ length extension + 1
extension_length [] = omega arith
extension_length (b ∷ bs) = omega arith

short_length : (text : List ℕ) → is_short_text text ≡ true → length text ≤ 6
short_length text e = leb-true _ _ (and_right (nat_le 0 (length text)) (nat_le (length text) 6) (and_left (nat_le 0 (length text) && nat_le (length text) 6) _ e))

file_short : (accounts : List AccountEntry) (f : files.File) → list_all is_good_entry accounts ≡ true → is_good_file accounts (files.file_entry f) ≡ true → f.blocks ≤ 16384 → length (line_of (File (file_texts f))) ≤ 50
file_short accounts f each good few =
    let named = and_left (is_good_name f.name && nat_le f.code 255) (has_account accounts f.name.owner) good in
    let name = and_left (is_good_name f.name) (nat_le f.code 255) named in
    let owner = owner_ranges accounts f.name.owner each (and_right (is_good_name f.name && nat_le f.code 255) (has_account accounts f.name.owner) good) in
    let project = few_digits f.name.owner.project (omega (arith, leb-true _ _ owner.project)) in
    let programmer = few_digits f.name.owner.programmer (omega (arith, leb-true _ _ owner.programmer)) in
    let code = few_digits f.code (omega (arith, leb-true _ _ (and_right (is_good_name f.name) (nat_le f.code 255) named))) in
    let blocks = few_digits f.blocks few in
    let stem = short_length f.name.stem (and_left (is_short_text f.name.stem) (is_short_text f.name.extension) name) in
    let extension = short_length f.name.extension (and_right (is_short_text f.name.stem) (is_short_text f.name.extension) name) in
    let t : FileTexts = file_texts f in
    let behind_code : List ℕ = t.code ++ 62 ∷ 32 ∷ t.blocks in
    let behind_owner : List ℕ = name_of t ++ 60 ∷ behind_code in
    let behind_project : List ℕ = t.programmer ++ 93 ∷ behind_owner in
    omega (arith, ap length (file_is t), length-append t.project (44 ∷ behind_project), length-append t.programmer (93 ∷ behind_owner), length-append (name_of t) (60 ∷ behind_code), length-append t.stem (extension_text t.extension), length-append t.code (62 ∷ 32 ∷ t.blocks), extension_length f.name.extension, project, programmer, stem, extension, code, blocks)

files_short : (accounts : List AccountEntry) (files : List FileEntry) → list_all is_good_entry accounts ≡ true → list_all (is_good_file accounts) files ≡ true → list_all has_whole_pages files ≡ true → blocks_of files ≤ 16384 → length (text_of_lines (flat_map file_lines (map file_with_lines files))) ≤ 51 * length files + 1026 * blocks_of files
files_short accounts [] each good are few = omega arith
files_short accounts (f ∷ files) each good are few =
    let t : FileWithLines = file_with_lines f in
    let whole = and_left (has_whole_pages f) (list_all has_whole_pages files) are in
    let here = file_short accounts t.file each (and_left (is_good_file accounts f) (list_all (is_good_file accounts) files) good) (omega (arith, few)) in
    let more = files_short accounts files each (and_right (is_good_file accounts f) (list_all (is_good_file accounts) files) good) (and_right (has_whole_pages f) (list_all has_whole_pages files) are) (omega (arith, few)) in
    omega (arith, here, more, (pages_written f.pages whole).short, length-lines (file_lines t) (flat_map file_lines (map file_with_lines files)), length-line (line_of (File (file_texts t.file))) (map content_line (lines_of_pages f.pages)))

-- ---- terminals, and all

terminals_short : (names : List (List ℕ)) → AllByRecursion IsTerminal (map keyless names) → length (text_of_lines (flat_map terminal_lines (map keyless names))) ≤ 18 * length names
terminals_short [] all = omega arith
terminals_short (n ∷ names) all =
    let lengths = and_left (nat_le 1 (length n) && nat_le (length n) 8) (list_all is_capital_or_digit n) all.0.name in
    let most : length n ≤ 8 = leb-true _ _ (and_right (nat_le 1 (length n)) (nat_le (length n) 8) lengths) in
    let more = terminals_short names all.1 in
    omega (arith, most, more, length-line (84 ∷ 69 ∷ 82 ∷ 77 ∷ 73 ∷ 78 ∷ 65 ∷ 76 ∷ 32 ∷ n) (flat_map terminal_lines (map keyless names)))

pub volume_short : VolumeIsShort
volume_short blocks accounts files names good pages terminals =
    let deck : Deck = closing_deck blocks accounts files names in
    let listed : List FileWithLines = map file_with_lines files in
    let parts = volume_parts blocks accounts files good in
    let own = files_parts blocks accounts files parts.1 in
    let most : blocks ≤ 16384 = leb-true blocks 16384 (and_right (nat_le 1 blocks) (nat_le blocks 16384) parts.0.size) in
    let first : List (List ℕ) = map (account_line Three) accounts in
    let second : List (List ℕ) = flat_map file_lines listed in
    let third : List (List ℕ) = flat_map terminal_lines deck.terminals in
    let a = accounts_short accounts parts.0.each in
    let f = files_short accounts files parts.0.each own.each pages (omega (arith, own.fit, most)) in
    let t = terminals_short names terminals.each in
    let few : length names ≤ 63 = omega (arith, terminals.few, length-map names keyless) in
    let disk = few_digits blocks most in
    let rest : List (List ℕ) = first ++ (second ++ third) in
    omega (arith, a, f, t, few, disk, parts.0.few, own.few, own.fit, most, length-lines (group_lines Three deck listed) (line_of End ∷ []), length-line (line_of (Heading Three)) (line_of (Disk (decimal blocks)) ∷ rest), length-line (line_of (Disk (decimal blocks))) rest, length-lines first (second ++ third), length-lines second third)

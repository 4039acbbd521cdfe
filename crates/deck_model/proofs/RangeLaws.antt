-- Fields in their ranges: no cause applies to them, and they are read as they were written.
use Rattle.std.proofs.Common.{◌≡◌, ℕ, ◌^◌, ◌<◌, Bool, true, false, cond, List, [], ◌∷◌, length, Option, Some, None, refl, sym, ap, ◌∙◌, arith}
use Rattle.std.specs.Prelude.{◌+◌, ◌≤◌, ◌&&◌, not, nat_le, nat_lt, bytes_eq, unwrap_or}
use Rattle.std.specs.List.{list_all}
use Rattle.std.specs.Fmt.{decimal}
use Rattle.std.specs.Str.Parse.{digits_value}
use Rattle.std.specs.Cmp.Lexicographic.{bytes_decides}
use Rattle.std.proofs.lemmas.Bool.{leb-true, le-leb, leb-false, lt-leb, ltb-false, le-ltb}
use Rattle.std.proofs.lemmas.Fmt.{decimal_is_IsNumeral}
use Rattle.basic_values.specs.Decimals.{is_number_between}
use Rattle.monitor_calls.specs.declared.volumes.AccountEntry.{AccountEntry}
use Rattle.monitor_calls.specs.declared.files.FileName.{FileName}
use Rattle.monitor_calls.specs.Names.{is_password, is_terminal_name}
use Rattle.monitor_calls.specs.Volumes.{has_account, is_between, is_good_entry, is_good_name, is_good_file, has_file, blocks_of}
use Rattle.deck_model.specs.declared.faults.DeckCause.{DeckCause}
use Rattle.deck_model.specs.declared.versions.Version.{Version}
use Rattle.deck_model.specs.declared.versions.Version.TheVariants.{One, Two, Three}
use Rattle.deck_model.specs.Files.{file_entry}
use Rattle.deck_model.specs.Deck as model
use Rattle.deck_model.specs.Deck.{Deck, IsDeck, IsTerminal, IsKeyLine, has_terminal}
use Rattle.deck_model.specs.Forms.{Account, File, AccountTexts, FileTexts, is_numeral_or_none, is_name, is_formed}
use Rattle.deck_model.specs.Spelling.{quota_told, texts_of, extension_of, file_texts, IsQuota, IsNameIn}
use Rattle.deck_model.specs.Fronts.{MayTell, quota_from, entry_of, new_file, new_terminal}
use Rattle.deck_model.specs.Refusals.{is_quota, is_in_range, is_stem, is_extension, most_code, is_file_in_range, passes_quota, first_cause, account_causes, file_causes, terminal_causes}
use Rattle.basic_values.proofs.CutLaws.{and_left, and_right, and_both, same_bytes}
use Rattle.deck_model.proofs.FieldLaws.{decimal_numeral}
use Rattle.deck_model.proofs.VolumeLaws.{GoodVolume, owner_ranges, FitsIn, FitsAmong}
use Rattle.deck_model.proofs.FileLaws.{FitsFile}
use Rattle.deck_model.proofs.NameLaws.{name_good, code_good, name_in, in_line_range}

-- ---- if no cause applies

pub no_cause : (test : Bool) (why : DeckCause) (rest : Option DeckCause) → cond test (Some why) rest ≡ None → (test ≡ false) × (rest ≡ None)
no_cause true why rest e = absurd (cc)
no_cause false why rest e = (refl, e)

pub not_false : (b : Bool) → not b ≡ false → b ≡ true
not_false true e = refl
not_false false e = absurd (cc)

pub record IsNumber (low high : ℕ) (text : List ℕ) : Type 0 where
  pub text_is : text ≡ decimal (digits_value 10 text)
  pub least : nat_le low (digits_value 10 text) ≡ true
  pub most : nat_le (digits_value 10 text) high ≡ true

pub number_parts : (low high : ℕ) (text : List ℕ) → is_number_between low high text ≡ true → IsNumber low high text
number_parts low high text e =
    let v : ℕ = digits_value 10 text in
    let a = and_left (bytes_eq text (decimal v) && nat_le low v) (nat_le v high) e in
    record {
      text_is = (bytes_decides text (decimal v)).0 (and_left (bytes_eq text (decimal v)) (nat_le low v) a);
      least = and_right (bytes_eq text (decimal v)) (nat_le low v) a;
      most = and_right (bytes_eq text (decimal v) && nat_le low v) (nat_le v high) e;
    }

pub value_is : (n : ℕ) → n < 2 ^ 32 → digits_value 10 (decimal n) ≡ n
value_is n small = (decimal_is_IsNumeral n (omega arith)).1

pub number_is : (low high n : ℕ) → n < 2 ^ 32 → nat_le low n ≡ true → nat_le n high ≡ true → is_number_between low high (decimal n) ≡ true
number_is low high n small least most =
    let v : digits_value 10 (decimal n) ≡ n = value_is n small in
    rw (v, same_bytes (decimal n), least, most) refl

-- a quota that a version gives, or else the disk's blocks
pub record IsSoundQuota (version : Version) (blocks : ℕ) (quota : Option (List ℕ)) : Type 0 where
  pub most : nat_le (quota_from blocks quota) 16384 ≡ true
  pub told : quota_told version (quota_from blocks quota) ≡ quota
  pub is : IsQuota version blocks (quota_from blocks quota)

sound_quota : (version : Version) (blocks : ℕ) (quota : Option (List ℕ)) → MayTell version quota → is_quota quota ≡ true → nat_le blocks 16384 ≡ true → IsSoundQuota version blocks quota
sound_quota One blocks None may e size = record { most = size; told = refl; is = refl }
sound_quota Two blocks (Some text) may e size =
    let n = number_parts 0 16384 text e in
    record { most = n.most; told = ap (λ (t : List ℕ). Some t) (sym n.text_is); is = tt }
sound_quota Three blocks (Some text) may e size =
    let n = number_parts 0 16384 text e in
    record { most = n.most; told = ap (λ (t : List ℕ). Some t) (sym n.text_is); is = tt }
sound_quota One blocks (Some text) may e size = absurd may
sound_quota Two blocks None may e size = absurd may
sound_quota Three blocks None may e size = absurd may

pub record IsWrittenQuota (version : Version) (blocks quota : ℕ) : Type 0 where
  pub in_range : is_quota (quota_told version quota) ≡ true
  pub quota_is : quota_from blocks (quota_told version quota) ≡ quota
  pub formed : is_numeral_or_none (quota_told version quota) ≡ true
  pub may : MayTell version (quota_told version quota)

written_quota : (version : Version) (blocks quota : ℕ) → IsQuota version blocks quota → nat_le quota 16384 ≡ true → IsWrittenQuota version blocks quota
written_quota One blocks quota is most = record { in_range = refl; quota_is = sym is; formed = refl; may = tt }
written_quota Two blocks quota is most =
    let small : quota < 2 ^ 32 = omega (arith, leb-true _ _ most) in
    record {
      in_range = number_is 0 16384 quota small (le-leb 0 quota (omega arith)) most;
      quota_is = value_is quota small;
      formed = decimal_numeral quota small;
      may = tt;
    }
written_quota Three blocks quota is most =
    let small : quota < 2 ^ 32 = omega (arith, leb-true _ _ most) in
    record {
      in_range = number_is 0 16384 quota small (le-leb 0 quota (omega arith)) most;
      quota_is = value_is quota small;
      formed = decimal_numeral quota small;
      may = tt;
    }

-- an account on a disk of that many blocks
pub record IsSound (version : Version) (blocks : ℕ) (texts : AccountTexts) : Type 0 where
  pub good : is_good_entry (entry_of blocks texts) ≡ true
  pub texts_are : texts_of version (entry_of blocks texts) ≡ texts
  pub quota : IsQuota version blocks (entry_of blocks texts).quota

sound_texts : (version : Version) (blocks : ℕ) (texts : AccountTexts) → MayTell version texts.quota → is_in_range texts ≡ true → nat_le blocks 16384 ≡ true → IsSound version blocks texts
sound_texts version blocks t may e size =
    let p : Bool = is_number_between 1 254 t.project in
    let n : Bool = is_number_between 0 254 t.programmer in
    let w : Bool = is_password t.password in
    let l : Bool = is_number_between 1 16384 t.limit in
    let c = and_left (p && n && w && l) (is_quota t.quota) e in
    let a = and_left (p && n && w) l c in
    let b = and_left (p && n) w a in
    let project = number_parts 1 254 t.project (and_left p n b) in
    let programmer = number_parts 0 254 t.programmer (and_right p n b) in
    let password : w ≡ true = and_right (p && n) w a in
    let limit = number_parts 1 16384 t.limit (and_right (p && n && w) l c) in
    let quota = sound_quota version blocks t.quota may (and_right (p && n && w && l) (is_quota t.quota) e) size in
    record {
      good = rw (project.least, project.most, programmer.most, password, limit.least, limit.most, quota.most) refl;
      texts_are = λ i. record { project = sym project.text_is i; programmer = sym programmer.text_is i; password = t.password; limit = sym limit.text_is i; quota = quota.told i };
      quota = quota.is;
    }

-- the ranges of a good account
pub record Ranges (e : AccountEntry) : Type 0 where
  pub least : nat_le 1 e.account.project ≡ true
  pub project : nat_le e.account.project 254 ≡ true
  pub programmer : nat_le e.account.programmer 254 ≡ true
  pub password : is_password e.password ≡ true
  pub calls : nat_le 1 e.limit ≡ true
  pub limit : nat_le e.limit 16384 ≡ true
  pub quota : nat_le e.quota 16384 ≡ true

pub ranges_of : (e : AccountEntry) → is_good_entry e ≡ true → Ranges e
ranges_of e good =
    let p : Bool = is_between 1 254 e.account.project in
    let n : Bool = nat_le e.account.programmer 254 in
    let w : Bool = is_password e.password in
    let l : Bool = is_between 1 16384 e.limit in
    let c = and_left (p && n && w && l) (nat_le e.quota 16384) good in
    let a = and_left (p && n && w) l c in
    let b = and_left (p && n) w a in
    let limit = and_right (p && n && w) l c in
    record {
      least = and_left (nat_le 1 e.account.project) (nat_le e.account.project 254) (and_left p n b);
      project = and_right (nat_le 1 e.account.project) (nat_le e.account.project 254) (and_left p n b);
      programmer = and_right p n b;
      password = and_right (p && n) w a;
      calls = and_left (nat_le 1 e.limit) (nat_le e.limit 16384) limit;
      limit = and_right (nat_le 1 e.limit) (nat_le e.limit 16384) limit;
      quota = and_right (p && n && w && l) (nat_le e.quota 16384) good;
    }

pub record Written (version : Version) (blocks : ℕ) (e : AccountEntry) : Type 0 where
  pub in_range : is_in_range (texts_of version e) ≡ true
  pub entry_is : entry_of blocks (texts_of version e) ≡ e
  pub formed : is_formed version (Account (texts_of version e)) ≡ true
  pub may : MayTell version (texts_of version e).quota

capitals : (text : List ℕ) → is_password text ≡ true → is_name text ≡ true
capitals text e = and_right (nat_le 1 (length text) && nat_le (length text) 6) (is_name text) e

pub written : (version : Version) (blocks : ℕ) (e : AccountEntry) → is_good_entry e ≡ true → IsQuota version blocks e.quota → Written version blocks e
written version blocks e good is =
    let r = ranges_of e good in
    let small_p : e.account.project < 2 ^ 32 = omega (arith, leb-true _ _ r.project) in
    let small_n : e.account.programmer < 2 ^ 32 = omega (arith, leb-true _ _ r.programmer) in
    let small_l : e.limit < 2 ^ 32 = omega (arith, leb-true _ _ r.limit) in
    let none : nat_le 0 e.account.programmer ≡ true = le-leb 0 e.account.programmer (omega arith) in
    let q = written_quota version blocks e.quota is r.quota in
    record {
      in_range = rw (number_is 1 254 e.account.project small_p r.least r.project, number_is 0 254 e.account.programmer small_n none r.programmer, r.password, number_is 1 16384 e.limit small_l r.calls r.limit, q.in_range) refl;
      entry_is = λ i. record { account = record { project = value_is e.account.project small_p i; programmer = value_is e.account.programmer small_n i }; password = e.password; limit = value_is e.limit small_l i; quota = q.quota_is i };
      formed = rw (decimal_numeral e.account.project small_p, decimal_numeral e.account.programmer small_n, capitals e.password r.password, decimal_numeral e.limit small_l, q.formed) refl;
      may = q.may;
    }

-- what is known of an account to which no cause applies
pub record TakenAccount (version : Version) (deck : Deck) (texts : AccountTexts) : Type 0 where
  pub fits : FitsIn deck.accounts (entry_of deck.blocks texts)
  pub texts_are : texts_of version (entry_of deck.blocks texts) ≡ texts
  pub quota : IsQuota version deck.blocks (entry_of deck.blocks texts).quota

pub account_fits : (version : Version) (deck : Deck) (texts : AccountTexts) → MayTell version texts.quota → nat_le deck.blocks 16384 ≡ true → first_cause (account_causes deck texts) ≡ None → TakenAccount version deck texts
account_fits version deck texts may size e =
    let a = no_cause (not (is_in_range texts)) _ _ e in
    let b = no_cause (has_account deck.accounts (entry_of deck.blocks texts).account) _ _ a.1 in
    let c = no_cause (nat_le 512 (length deck.accounts)) _ _ b.1 in
    let s = sound_texts version deck.blocks texts may (not_false (is_in_range texts) a.0) size in
    record {
      fits = record { good = s.good; new = b.0; room = leb-false 512 (length deck.accounts) c.0 };
      texts_are = s.texts_are;
      quota = s.quota;
    }

pub account_none : (version : Version) (deck : Deck) (e : AccountEntry) → FitsIn deck.accounts e → Written version deck.blocks e → first_cause (account_causes deck (texts_of version e)) ≡ None
account_none version deck e fits w =
    let new : has_account deck.accounts (entry_of deck.blocks (texts_of version e)).account ≡ false = ap (λ (x : AccountEntry). has_account deck.accounts x.account) w.entry_is ∙ fits.new in
    let room : nat_le 512 (length deck.accounts) ≡ false = lt-leb 512 (length deck.accounts) fits.room in
    rw (w.in_range, new, room) refl

-- ---- the fields of a file

extension_told : (version : Version) (extension : Option (List ℕ)) → is_extension version extension ≡ true → extension_of (unwrap_or extension []) ≡ extension
extension_told version None e = refl
extension_told version (Some []) e = absurd (cc)
extension_told version (Some (b ∷ bs)) e = refl

extension_back : (text : List ℕ) → unwrap_or (extension_of text) [] ≡ text
extension_back [] = refl
extension_back (b ∷ bs) = refl

pub record IsSoundFile (version : Version) (texts : FileTexts) : Type 0 where
  pub named : is_good_name (new_file texts).name ≡ true
  pub code : nat_le (new_file texts).code 255 ≡ true
  pub in_version : IsNameIn version (new_file texts).name (new_file texts).code
  pub texts_are : file_texts (new_file texts) ≡ texts

sound_file : (version : Version) (texts : FileTexts) → is_file_in_range version texts ≡ true → IsSoundFile version texts
sound_file version t e =
    let p : Bool = is_number_between 1 254 t.project in
    let n : Bool = is_number_between 0 254 t.programmer in
    let s : Bool = is_stem version t.stem in
    let x : Bool = is_extension version t.extension in
    let c : Bool = is_number_between 0 (most_code version) t.code in
    let b : Bool = is_number_between 0 16384 t.blocks in
    let e5 = and_left (p && n && s && x && c) b e in
    let e4 = and_left (p && n && s && x) c e5 in
    let e3 = and_left (p && n && s) x e4 in
    let e2 = and_left (p && n) s e3 in
    let project = number_parts 1 254 t.project (and_left p n e2) in
    let programmer = number_parts 0 254 t.programmer (and_right p n e2) in
    let stem : s ≡ true = and_right (p && n) s e3 in
    let short : x ≡ true = and_right (p && n && s) x e4 in
    let code = number_parts 0 (most_code version) t.code (and_right (p && n && s && x) c e5) in
    let blocks = number_parts 0 16384 t.blocks (and_right (p && n && s && x && c) b e) in
    let file : model.File = new_file t in
    record {
      named = name_good version file.name t.extension stem short refl;
      code = code_good version file.code code.most;
      in_version = name_in version file.name file.code t.extension stem short refl code.most;
      texts_are = λ i. record {
        project = sym project.text_is i;
        programmer = sym programmer.text_is i;
        stem = t.stem;
        extension = extension_told version t.extension short i;
        code = sym code.text_is i;
        blocks = sym blocks.text_is i;
      };
    }

abbrev untexted : model.File → model.File
untexted file = record file { content = [] }

pub record WrittenFile (version : Version) (f : model.File) : Type 0 where
  pub in_range : is_file_in_range version (file_texts f) ≡ true
  pub file_is : new_file (file_texts f) ≡ untexted f
  pub formed : is_formed version (File (file_texts f)) ≡ true

pub written_file : (version : Version) (accounts : List AccountEntry) (f : model.File) → list_all is_good_entry accounts ≡ true → is_good_file accounts (file_entry f) ≡ true → IsNameIn version f.name f.code → f.blocks ≤ 16384 → WrittenFile version f
written_file version accounts f each good in_version most =
    let name : FileName = f.name in
    let has : Bool = has_account accounts name.owner in
    let few : Bool = nat_le f.code 255 in
    let a = and_left (is_good_name name && few) has good in
    let named = and_left (is_good_name name) few a in
    let code : few ≡ true = and_right (is_good_name name) few a in
    let r = in_line_range version name f.code named code in_version in
    let owner = owner_ranges accounts name.owner each (and_right (is_good_name name && few) has good) in
    let small_p : name.owner.project < 2 ^ 32 = omega (arith, leb-true _ _ owner.project) in
    let small_n : name.owner.programmer < 2 ^ 32 = omega (arith, leb-true _ _ owner.programmer) in
    let small_c : f.code < 2 ^ 32 = omega (arith, leb-true _ _ code) in
    let small_b : f.blocks < 2 ^ 32 = omega (arith, most) in
    let least_n : nat_le 0 name.owner.programmer ≡ true = le-leb 0 name.owner.programmer (omega arith) in
    let least_c : nat_le 0 f.code ≡ true = le-leb 0 f.code (omega arith) in
    let least_b : nat_le 0 f.blocks ≡ true = le-leb 0 f.blocks (omega arith) in
    record {
      in_range = rw (number_is 1 254 name.owner.project small_p owner.least owner.project, number_is 0 254 name.owner.programmer small_n least_n owner.programmer, r.stem, r.extension, number_is 0 (most_code version) f.code small_c least_c r.code, number_is 0 16384 f.blocks small_b least_b (le-leb _ _ most)) refl;
      file_is = λ i. record {
        name = record {
          owner = record { project = value_is name.owner.project small_p i; programmer = value_is name.owner.programmer small_n i };
          stem = name.stem;
          extension = extension_back name.extension i;
        };
        code = value_is f.code small_c i;
        blocks = value_is f.blocks small_b i;
        content = [];
      };
      formed = rw (decimal_numeral name.owner.project small_p, decimal_numeral name.owner.programmer small_n, r.stem_word, extension_back name.extension, r.extension_word, decimal_numeral f.code small_c, decimal_numeral f.blocks small_b) refl;
    }

-- what is known of a file to which no cause applies
pub record FoundFile (version : Version) (deck : Deck) (texts : FileTexts) : Type 0 where
  pub fits : FitsFile deck.blocks deck.accounts deck.files (new_file texts)
  pub in_version : IsNameIn version (new_file texts).name (new_file texts).code
  pub texts_are : file_texts (new_file texts) ≡ texts

pub file_fits : (version : Version) (deck : Deck) (texts : FileTexts) → first_cause (file_causes version deck texts) ≡ None → FoundFile version deck texts
file_fits version deck texts e =
    let file : model.File = new_file texts in
    let a = no_cause (not (is_file_in_range version texts)) _ _ e in
    let b = no_cause (has_file deck.files file.name) _ _ a.1 in
    let c = no_cause (not (has_account deck.accounts file.name.owner)) _ _ b.1 in
    let d = no_cause (nat_le 512 (length deck.files)) _ _ c.1 in
    let f = no_cause (nat_lt deck.blocks (blocks_of deck.files + file.blocks)) _ _ d.1 in
    let q = no_cause (passes_quota deck.accounts deck.files file) _ _ f.1 in
    let s = sound_file version texts (not_false (is_file_in_range version texts) a.0) in
    let named = and_both (is_good_name file.name) (nat_le file.code 255) s.named s.code in
    record {
      fits = record {
        good = and_both (is_good_name file.name && nat_le file.code 255) (has_account deck.accounts file.name.owner) named (not_false _ c.0);
        new = b.0;
        room = leb-false 512 (length deck.files) d.0;
        fit = ltb-false deck.blocks (blocks_of deck.files + file.blocks) f.0;
        within = q.0;
      };
      in_version = s.in_version;
      texts_are = s.texts_are;
    }

-- what is known of a file that fits in a good deck
pub record TakenFile (version : Version) (deck : Deck) (f : model.File) : Type 0 where
  pub formed : is_formed version (File (file_texts f)) ≡ true
  pub none : first_cause (file_causes version deck (file_texts f)) ≡ None
  pub file_is : new_file (file_texts f) ≡ untexted f

pub file_taken : (version : Version) (deck : Deck) (f : model.File) → GoodVolume deck.blocks deck.accounts → FitsFile deck.blocks deck.accounts deck.files f → IsNameIn version f.name f.code → TakenFile version deck f
file_taken version deck f good fits in_version =
    let size : deck.blocks ≤ 16384 = leb-true _ _ (and_right (nat_le 1 deck.blocks) (nat_le deck.blocks 16384) good.size) in
    let most : f.blocks ≤ 16384 = omega (arith, size, fits.fit) in
    let w = written_file version deck.accounts f good.each fits.good in_version most in
    let g : model.File = new_file (file_texts f) in
    let new : has_file deck.files g.name ≡ false = ap (λ (x : model.File). has_file deck.files x.name) w.file_is ∙ fits.new in
    let owner : has_account deck.accounts g.name.owner ≡ true =
    ap (λ (x : model.File). has_account deck.accounts x.name.owner) w.file_is
    ∙ and_right (is_good_name f.name && nat_le f.code 255) (has_account deck.accounts f.name.owner) fits.good in
    let room : nat_le 512 (length deck.files) ≡ false = lt-leb 512 (length deck.files) fits.room in
    let fit : nat_lt deck.blocks (blocks_of deck.files + g.blocks) ≡ false =
    ap (λ (x : model.File). nat_lt deck.blocks (blocks_of deck.files + x.blocks)) w.file_is ∙ le-ltb deck.blocks (blocks_of deck.files + f.blocks) fits.fit in
    let within : passes_quota deck.accounts deck.files g ≡ false = ap (passes_quota deck.accounts deck.files) w.file_is ∙ fits.within in
    record { formed = w.formed; none = rw (w.in_range, new, owner, room, fit, within) refl; file_is = w.file_is }

-- ---- terminals

pub terminal_fits : (terminals : List model.Terminal) (name : List ℕ) → first_cause (terminal_causes terminals name) ≡ None → FitsAmong terminals (new_terminal name)
terminal_fits terminals name e =
    let a = no_cause (not (is_terminal_name name)) _ _ e in
    let b = no_cause (has_terminal terminals name) _ _ a.1 in
    let c = no_cause (nat_le 63 (length terminals)) _ _ b.1 in
    record { good = record { name = not_false (is_terminal_name name) a.0; keys = tt }; new = b.0; room = leb-false 63 (length terminals) c.0 }

pub terminal_none : (terminals : List model.Terminal) (t : model.Terminal) → FitsAmong terminals t → first_cause (terminal_causes terminals t.name) ≡ None
terminal_none terminals t fits =
    let good : is_terminal_name t.name ≡ true = fits.good.name in
    let new : has_terminal terminals t.name ≡ false = fits.new in
    let room : nat_le 63 (length terminals) ≡ false = lt-leb 63 (length terminals) fits.room in
    rw (good, new, room) refl

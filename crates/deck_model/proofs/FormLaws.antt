-- The form that a line is found to have is one that it has, and a form is found in its line.
use Rattle.std.proofs.Common.{◌≡◌, ℕ, Bool, true, false, cond, List, ◌++◌, Option, Some, None, refl, sym, ap, subst, ◌∙◌, ◌⊎◌, inl, inr, ⊎_elim}
use Rattle.std.specs.Prelude.{◌&&◌, bytes_eq, codes}
use Rattle.std.specs.Cmp.Lexicographic.{bytes_decides}
use Rattle.monitor_calls.specs.Names.{is_capital_or_digit}
use Rattle.deck_model.specs.declared.versions.Version.{Version}
use Rattle.deck_model.specs.declared.versions.Version.TheVariants.{One, Two, Three}
use Rattle.deck_model.specs.Forms.{LineForm, Heading, Disk, Account, File, Terminal, Keys, Block, End, AccountTexts, FileTexts, heading, account_text, file_text, has_block_lines, line_of, is_numeral, is_numeral_or_none, is_name, is_formed}
use Rattle.deck_model.specs.Fronts.{Front, Nothing, Versioned, InAccounts, InFile, InTerminal, Whole, version_at, MayTell, May}
use Rattle.deck_model.specs.Refusals.{HasForm}
use Rattle.deck_model.specs.Hex.{is_hex, hex_bytes}
use Rattle.deck_model.proofs.HexLaws.{hex_take, hex_again}
use Rattle.basic_values.specs.Cuts.{behind}
use Rattle.deck_model.specs.Reading.{or_else, version_in, disk_in, texts_in, account_in, file_texts_in, are_file_texts, file_in, terminal_in, keys_in, block_in, end_in, groups_in, contents_in, session_in, form_at}
use Rattle.basic_values.proofs.CutLaws.{bind_some, guard_some, and_left, and_right, behind_takes}
use Rattle.deck_model.proofs.FieldLaws.{lacks_unlike, numeral_lacks, some_is, texts_take, IsPlain, texts_again, file_texts_take, file_texts_again, plain_texts}

-- ---- what is found

-- the form is well formed, and the line is its line
record Took (version : Version) (line : List ℕ) (form : LineForm) : Type 0 where
  formed : is_formed version form ≡ true
  line_is : line ≡ line_of form

took_has : (front : Front) (line : List ℕ) (made form : LineForm) → May front made → Took (version_at front) line made → made ≡ form → HasForm front line form
took_has front line made form may took same =
    subst (λ (f : LineForm). HasForm front line f) same (record { may = may; is_formed = took.formed; line_is = took.line_is })

-- a line is that of a version, or something is found after that test
heading_take : (version : Version) (line : List ℕ) (rest : Option LineForm) (form : LineForm) → cond (bytes_eq line (heading version)) (Some (Heading version)) rest ≡ Some form → (Took One line (Heading version) × (Heading version ≡ form)) ⊎ (rest ≡ Some form)
heading_take version line rest form e = go (bytes_eq line (heading version)) refl e
  where
    go : (b : Bool) → bytes_eq line (heading version) ≡ b → cond b (Some (Heading version)) rest ≡ Some form → (Took One line (Heading version) × (Heading version ≡ form)) ⊎ (rest ≡ Some form)
    go true same found = inl (record { formed = refl; line_is = (bytes_decides line (heading version)).0 same }, some_is (Heading version) form found)
    go false other found = inr found

version_take : (line : List ℕ) (form : LineForm) → version_in line ≡ Some form → (version : Version) × Took One line (Heading version) × (Heading version ≡ form)
unfolding version_in
version_take line form e =
    let third : Option LineForm = cond (bytes_eq line (heading Three)) (Some (Heading Three)) None in
    let second : Option LineForm = cond (bytes_eq line (heading Two)) (Some (Heading Two)) third in
    ⊎_elim
    (λ one. (One, one.0, one.1))
    (λ rest.
    ⊎_elim
    (λ two. (Two, two.0, two.1))
    (λ more.
    ⊎_elim
    (λ three. (Three, three.0, three.1))
    (λ (none : None ≡ Some form). absurd (cc))
    (heading_take Three line None form more))
    (heading_take Two line third form rest))
    (heading_take One line second form e)

end_take : (version : Version) (line : List ℕ) (form : LineForm) → end_in line ≡ Some form → Took version line End × (End ≡ form)
unfolding end_in
end_take version line form e =
    let g = guard_some (bytes_eq line (codes "END")) End form e in
    (record { formed = refl; line_is = (bytes_decides line (codes "END")).0 g.0 }, g.1)

disk_take : (version : Version) (line : List ℕ) (form : LineForm) → disk_in line ≡ Some form → (blocks : List ℕ) × Took version line (Disk blocks) × (Disk blocks ≡ form)
unfolding disk_in
disk_take version line form e =
    let a = bind_some (behind (codes "DISK ") line) (λ blocks. cond (is_numeral blocks) (Some (Disk blocks)) None) form e in
    let g = guard_some (is_numeral a.0) (Disk a.0) form a.2 in
    (a.0, record { formed = g.0; line_is = behind_takes (codes "DISK ") line a.0 a.1 }, g.1)

abbrev are_texts : AccountTexts → Bool
are_texts t = is_numeral t.project && is_numeral t.programmer && is_name t.password && is_numeral t.limit && is_numeral_or_none t.quota

account_take : (version : Version) (line : List ℕ) (form : LineForm) → account_in version line ≡ Some form → (t : AccountTexts) × MayTell version t.quota × Took version line (Account t) × (Account t ≡ form)
unfolding account_in
account_take version line form e =
    let a = bind_some (texts_in version line) (λ t. cond (are_texts t) (Some (Account t)) None) form e in
    let g = guard_some (are_texts a.0) (Account a.0) form a.2 in
    let t = texts_take version line a.0 a.1 in
    (a.0, t.0, record { formed = g.0; line_is = t.1 }, g.1)

file_take : (version : Version) (line : List ℕ) (form : LineForm) → file_in version line ≡ Some form → (t : FileTexts) × Took version line (File t) × (File t ≡ form)
unfolding file_in
file_take version line form e =
    let a = bind_some (file_texts_in line) (λ t. cond (are_file_texts version t) (Some (File t)) None) form e in
    let g = guard_some (are_file_texts version a.0) (File a.0) form a.2 in
    (a.0, record { formed = g.0; line_is = file_texts_take line a.0 a.1 }, g.1)

terminal_take : (version : Version) (line : List ℕ) (form : LineForm) → terminal_in line ≡ Some form → (name : List ℕ) × Took version line (Terminal name) × (Terminal name ≡ form)
unfolding terminal_in
terminal_take version line form e =
    let a = bind_some (behind (codes "TERMINAL ") line) (λ name. cond (is_name name) (Some (Terminal name)) None) form e in
    let g = guard_some (is_name a.0) (Terminal a.0) form a.2 in
    (a.0, record { formed = g.0; line_is = behind_takes (codes "TERMINAL ") line a.0 a.1 }, g.1)

keys_take : (version : Version) (line : List ℕ) (form : LineForm) → keys_in line ≡ Some form → (keys : List ℕ) × Took version line (Keys keys) × (Keys keys ≡ form)
unfolding keys_in
keys_take version line form e =
    let a = bind_some (behind (codes ">") line) (λ keys. Some (Keys keys)) form e in
    (a.0, record { formed = refl; line_is = behind_takes (codes ">") line a.0 a.1 }, some_is (Keys a.0) form a.2)

block_take : (version : Version) (line : List ℕ) (form : LineForm) → block_in version line ≡ Some form → (bytes : List ℕ) × (has_block_lines version ≡ true) × Took version line (Block bytes) × (Block bytes ≡ form)
unfolding block_in
block_take version line form e =
    let a = bind_some (behind (codes "=") line) (λ signs. cond (has_block_lines version && is_hex signs) (Some (Block (hex_bytes signs))) None) form e in
    let g = guard_some (has_block_lines version && is_hex a.0) (Block (hex_bytes a.0)) form a.2 in
    let h = hex_take a.0 (and_right (has_block_lines version) (is_hex a.0) g.0) in
    (hex_bytes a.0, and_left (has_block_lines version) (is_hex a.0) g.0, record { formed = h.1; line_is = behind_takes (codes "=") line a.0 a.1 ∙ ap (λ (signs : List ℕ). codes "=" ++ signs) (sym h.0) }, g.1)

else_some : {A : Type 0} (a b : Option A) (y : A) → or_else a b ≡ Some y → (a ≡ Some y) ⊎ (b ≡ Some y)
else_some None b y e = inr e
else_some (Some a) b y e = inl e

-- what is found is a form that the line has
pub form_takes : (front : Front) (line : List ℕ) (form : LineForm) → form_at front line ≡ Some form → HasForm front line form
unfolding form_at groups_in contents_in session_in
form_takes Nothing line form e =
    let v = version_take line form e in
    took_has Nothing line (Heading v.0) form tt v.1 v.2
form_takes (Versioned version) line form e =
    let d = disk_take version line form e in
    took_has (Versioned version) line (Disk d.0) form tt d.1 d.2
form_takes (InAccounts version deck) line form e =
    ⊎_elim
    (λ h.
    let a = account_take version line form h in
    took_has (InAccounts version deck) line (Account a.0) form a.1 a.2 a.3)
    (λ h.
    ⊎_elim
    (λ i.
    let f = file_take version line form i in
    took_has (InAccounts version deck) line (File f.0) form tt f.1 f.2)
    (λ i.
    ⊎_elim
    (λ j.
    let t = terminal_take version line form j in
    took_has (InAccounts version deck) line (Terminal t.0) form tt t.1 t.2)
    (λ j.
    let v = end_take version line form j in
    took_has (InAccounts version deck) line End form tt v.0 v.1)
    (else_some (terminal_in line) (end_in line) form i))
    (else_some (file_in version line) (or_else (terminal_in line) (end_in line)) form h))
    (else_some (account_in version line) (or_else (file_in version line) (or_else (terminal_in line) (end_in line))) form e)
form_takes (InFile version deck file) line form e =
    let ended : Option LineForm = or_else (terminal_in line) (end_in line) in
    ⊎_elim
    (λ h.
    let k = keys_take version line form h in
    took_has (InFile version deck file) line (Keys k.0) form tt k.1 k.2)
    (λ g.
    ⊎_elim
    (λ h.
    let b = block_take version line form h in
    took_has (InFile version deck file) line (Block b.0) form b.1 b.2 b.3)
    (λ h.
    ⊎_elim
    (λ i.
    let f = file_take version line form i in
    took_has (InFile version deck file) line (File f.0) form tt f.1 f.2)
    (λ i.
    ⊎_elim
    (λ j.
    let t = terminal_take version line form j in
    took_has (InFile version deck file) line (Terminal t.0) form tt t.1 t.2)
    (λ j.
    let v = end_take version line form j in
    took_has (InFile version deck file) line End form tt v.0 v.1)
    (else_some (terminal_in line) (end_in line) form i))
    (else_some (file_in version line) ended form h))
    (else_some (block_in version line) (or_else (file_in version line) ended) form g))
    (else_some (keys_in line) (or_else (block_in version line) (or_else (file_in version line) ended)) form e)
form_takes (InTerminal version deck terminal) line form e =
    ⊎_elim
    (λ h.
    let k = keys_take version line form h in
    took_has (InTerminal version deck terminal) line (Keys k.0) form tt k.1 k.2)
    (λ h.
    ⊎_elim
    (λ j.
    let t = terminal_take version line form j in
    took_has (InTerminal version deck terminal) line (Terminal t.0) form tt t.1 t.2)
    (λ j.
    let v = end_take version line form j in
    took_has (InTerminal version deck terminal) line End form tt v.0 v.1)
    (else_some (terminal_in line) (end_in line) form h))
    (else_some (keys_in line) (or_else (terminal_in line) (end_in line)) form e)
form_takes (Whole version deck) line form e = absurd (cc)

-- ---- what is there is found

plain_account : (version : Version) (t : AccountTexts) → MayTell version t.quota → are_texts t ≡ true → IsPlain version t
plain_account version t may formed =
    let p = is_numeral t.project in
    let n = is_numeral t.programmer in
    let w = is_name t.password in
    let l = is_numeral t.limit in
    let c = and_left (p && n && w && l) (is_numeral_or_none t.quota) formed in
    let b = and_left (p && n && w) l c in
    let a = and_left (p && n) w b in
    record {
      may = may;
      project = numeral_lacks 44 refl t.project (and_left p n a);
      programmer = numeral_lacks 32 refl t.programmer (and_right p n a);
      password = lacks_unlike is_capital_or_digit 32 refl t.password (and_right (p && n) w b);
      limit = numeral_lacks 32 refl t.limit (and_right (p && n && w) l c);
    }

account_found : (version : Version) (t : AccountTexts) → MayTell version t.quota → are_texts t ≡ true → account_in version (account_text t) ≡ Some (Account t)
unfolding account_in
account_found version t may formed = rw (texts_again version t (plain_account version t may formed), formed) refl

heading_found : (version : Version) → version_in (heading version) ≡ Some (Heading version)
unfolding version_in
heading_found One = refl
heading_found Two = refl
heading_found Three = refl

file_found : (version : Version) (t : FileTexts) → are_file_texts version t ≡ true → file_in version (file_text t) ≡ Some (File t)
unfolding file_in
file_found version t formed = rw (file_texts_again t (plain_texts version t formed), formed) refl

pub form_again : (front : Front) (form : LineForm) → May front form → is_formed (version_at front) form ≡ true → form_at front (line_of form) ≡ Some form
unfolding form_at groups_in contents_in session_in version_in disk_in account_in texts_in file_in file_texts_in terminal_in keys_in block_in end_in
form_again Nothing (Heading version) may formed = heading_found version
form_again (Versioned version) (Disk blocks) may formed = rw formed refl
form_again (InAccounts version deck) (Account texts) may formed = rw (account_found version texts may formed) refl
form_again (InAccounts version deck) (File texts) may formed = rw (file_found version texts formed) refl
form_again (InAccounts version deck) (Terminal name) may formed = rw formed refl
form_again (InAccounts version deck) End may formed = refl
form_again (InFile version deck file) (Keys text) may formed = refl
form_again (InFile version deck file) (Block bytes) may formed =
    let h = hex_again bytes formed in
    rw (may, h.0, h.1) refl
form_again (InFile version deck file) (File texts) may formed = rw (file_found version texts formed) refl
form_again (InFile version deck file) (Terminal name) may formed = rw formed refl
form_again (InFile version deck file) End may formed = refl
form_again (InTerminal version deck terminal) (Keys keys) may formed = refl
form_again (InTerminal version deck terminal) (Terminal name) may formed = rw formed refl
form_again (InTerminal version deck terminal) End may formed = refl
form_again front form may formed = absurd may

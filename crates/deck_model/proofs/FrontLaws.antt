-- A line to which no cause applies leads from one front to the next, and reading finds that.
use Rattle.std.proofs.Common.{◌≡◌, ℕ, ◌^◌, ◌<◌, true, List, [], ◌∷◌, ◌++◌, length, map, Option, Some, None, Ok, Err, refl, sym, ap, subst, ◌∙◌, append_assoc, arith, inl, inr, ⊎_elim}
use Rattle.std.specs.Prelude.{Result, ◌*◌, not, nat_le, nat_lt}
use Rattle.std.specs.List.{flat_map}
use Rattle.std.specs.Fmt.{decimal}
use Rattle.std.specs.Str.Parse.{digits_value}
use Rattle.std.proofs.lemmas.Bool.{leb-true, ltb-false}
use Rattle.std.proofs.lemmas.List.{append-nil, map-append}
use Rattle.std.proofs.lemmas.List.Concat.{flat_map-append}
use Rattle.basic_values.specs.Decimals.{is_number_between}
use Rattle.monitor_calls.specs.declared.volumes.AccountEntry.{AccountEntry}
use Rattle.monitor_calls.specs.declared.files.FileEntry.{FileEntry}
use Rattle.monitor_calls.specs.Volumes.{is_between, are_good_files}
use Rattle.deck_model.specs.declared.faults.DeckCause.{DeckCause}
use Rattle.deck_model.specs.declared.versions.Version.{Version}
use Rattle.deck_model.specs.Files.{file_entry, ContentLine, TextLine, BlockLine, line_bytes, content_of}
use Rattle.deck_model.specs.Deck as model
use Rattle.deck_model.specs.Deck.{Deck, IsDeck, IsTerminal, IsKeyLine, has_terminal}
use Rattle.deck_model.specs.Forms.{LineForm, Heading, Disk, Account, File, Terminal, Keys, Block, End, AccountTexts, FileTexts, line_of, is_formed}
use Rattle.deck_model.specs.Spelling.{texts_of, account_line, file_texts, content_line, FileWithLines, volume_entry, MayHave, HasLines, HaveLines, file_lines, key_line, terminal_lines, group_lines, IsQuota, IsNameIn, AreNamesIn}
use Rattle.deck_model.specs.Fronts.{Front, Nothing, Versioned, InAccounts, InFile, InTerminal, with_account, with_file, with_content, with_terminal, with_keys, bare_deck, version_at, IsDeckIn, BeginsFile, BeginsTerminal, BeginsDeck, May, entry_of, new_file, new_terminal, adds}
use Rattle.deck_model.specs.Refusals.{first_cause, file_causes, content_causes, terminal_causes, causes, shape_cause, HasForm, IsRefused}
use Rattle.deck_model.specs.Reading.{form_at, unless_refused, behind_form, behind_line}
use Rattle.basic_values.proofs.CutLaws.{and_left, and_right, and_both}
use Rattle.deck_model.proofs.FieldLaws.{decimal_numeral}
use Rattle.deck_model.proofs.FormLaws.{form_takes, form_again}
use Rattle.deck_model.proofs.VolumeLaws.{volume_parts, no_files, volume_whole, volume_push, FitsIn, FitsAmong, terminals_push, terminals_last, terminals_front, all_append, all_front, all_back}
use Rattle.deck_model.proofs.FileLaws.{files_parts, files_whole, files_front, files_push, files_last, FitsFile}
use Rattle.deck_model.proofs.RangeLaws.{no_cause, not_false, number_parts, value_is, number_is, account_fits, file_fits, terminal_fits}

-- ---- decks with one more file or terminal

pub deck_file : (deck : Deck) (f : model.File) → IsDeck deck → FitsFile deck.blocks deck.accounts deck.files f → IsDeck (with_file deck f)
deck_file deck f is fits =
    let parts = volume_parts deck.blocks deck.accounts deck.files is.volume in
    let files = files_push deck.blocks deck.accounts deck.files f (files_parts deck.blocks deck.accounts deck.files parts.1) fits in
    record {
      volume = volume_whole deck.blocks deck.accounts (deck.files ++ file_entry f ∷ []) parts.0 (files_whole deck.blocks deck.accounts (deck.files ++ file_entry f ∷ []) files);
      terminals = is.terminals;
    }

-- what is known of a deck with this last file
pub record LastFile (deck : Deck) (f : model.File) : Type 0 where
  pub before : IsDeck deck
  pub fits : FitsFile deck.blocks deck.accounts deck.files f

pub deck_last : (deck : Deck) (f : model.File) → IsDeck (with_file deck f) → LastFile deck f
deck_last deck f is =
    let parts = volume_parts deck.blocks deck.accounts (deck.files ++ file_entry f ∷ []) is.volume in
    let files = files_parts deck.blocks deck.accounts (deck.files ++ file_entry f ∷ []) parts.1 in
    record {
      before = record {
        volume = volume_whole deck.blocks deck.accounts deck.files parts.0 (files_whole deck.blocks deck.accounts deck.files (files_front deck.blocks deck.accounts deck.files (file_entry f ∷ []) files));
        terminals = is.terminals;
      };
      fits = files_last deck.blocks deck.accounts deck.files f files;
    }

pub deck_terminal : (deck : Deck) (t : model.Terminal) → IsDeck deck → FitsAmong deck.terminals t → IsDeck (with_terminal deck t)
deck_terminal deck t is fits = record { volume = is.volume; terminals = terminals_push deck.terminals t is.terminals fits }

-- ---- the lines of a deck

abbrev head_of : Version → Deck → List (List ℕ) → List (List ℕ)
head_of version deck lines = line_of (Heading version) ∷ line_of (Disk (decimal deck.blocks)) ∷ lines

-- of a deck without terminals
group_files : (version : Version) (deck : Deck) (listed : List FileWithLines) → deck.terminals ≡ [] → group_lines version deck listed ≡ head_of version deck (map (account_line version) deck.accounts ++ flat_map file_lines listed)
group_files version deck listed none =
    ap (λ (ts : List model.Terminal). head_of version deck (map (account_line version) deck.accounts ++ (flat_map file_lines listed ++ flat_map terminal_lines ts))) none
    ∙ ap (λ (ls : List (List ℕ)). head_of version deck (map (account_line version) deck.accounts ++ ls)) (append-nil (flat_map file_lines listed))

-- and of one without files
group_bare : (version : Version) (deck : Deck) → deck.terminals ≡ [] → group_lines version deck [] ≡ head_of version deck (map (account_line version) deck.accounts)
group_bare version deck none =
    group_files version deck [] none
    ∙ ap (head_of version deck) (append-nil (map (account_line version) deck.accounts))

pub group_file : (version : Version) (deck : Deck) (listed : List FileWithLines) (t : FileWithLines) → deck.terminals ≡ [] → group_lines version (with_file deck t.file) (listed ++ t ∷ []) ≡ group_lines version deck listed ++ file_lines t
group_file version deck listed t none =
    group_files version (with_file deck t.file) (listed ++ t ∷ []) none
    ∙ ap (λ (ls : List (List ℕ)). head_of version deck (map (account_line version) deck.accounts ++ ls)) (flat_map-append file_lines listed (t ∷ []) ∙ ap (λ (ls : List (List ℕ)). flat_map file_lines listed ++ ls) (append-nil (file_lines t)))
    ∙ ap (head_of version deck) (sym (append_assoc (map (account_line version) deck.accounts) (flat_map file_lines listed) (file_lines t)))
    ∙ ap (λ (ls : List (List ℕ)). ls ++ file_lines t) (sym (group_files version deck listed none))

pub group_more : (version : Version) (deck : Deck) (listed : List FileWithLines) (t : model.Terminal) → group_lines version (with_terminal deck t) listed ≡ group_lines version deck listed ++ terminal_lines t
group_more version deck listed t =
    let accounts : List (List ℕ) = map (account_line version) deck.accounts in
    let files : List (List ℕ) = flat_map file_lines listed in
    let terminals : List (List ℕ) = flat_map terminal_lines deck.terminals in
    let more : flat_map terminal_lines (deck.terminals ++ t ∷ []) ≡ terminals ++ terminal_lines t =
    flat_map-append terminal_lines deck.terminals (t ∷ []) ∙ ap (λ (ls : List (List ℕ)). terminals ++ ls) (append-nil (terminal_lines t)) in
    ap (λ (ls : List (List ℕ)). head_of version deck (accounts ++ (files ++ ls))) more
    ∙ ap (λ (ls : List (List ℕ)). head_of version deck (accounts ++ ls)) (sym (append_assoc files terminals (terminal_lines t)))
    ∙ ap (head_of version deck) (sym (append_assoc accounts (files ++ terminals) (terminal_lines t)))

account_more : (version : Version) (deck : Deck) (texts : AccountTexts) → deck.terminals ≡ [] → texts_of version (entry_of deck.blocks texts) ≡ texts → group_lines version (with_account deck (entry_of deck.blocks texts)) [] ≡ group_lines version deck [] ++ line_of (Account texts) ∷ []
account_more version deck texts none same =
    group_bare version (with_account deck (entry_of deck.blocks texts)) none
    ∙ ap (head_of version deck) (map-append (account_line version) deck.accounts (entry_of deck.blocks texts ∷ []))
    ∙ ap (λ (t : AccountTexts). head_of version deck (map (account_line version) deck.accounts ++ line_of (Account t) ∷ [])) same
    ∙ ap (λ (ls : List (List ℕ)). ls ++ line_of (Account texts) ∷ []) (sym (group_bare version deck none))

abbrev without_lines : FileTexts → FileWithLines
without_lines texts = record { file = new_file texts; lines = [] }

new_lines : (lines : List (List ℕ)) (texts : FileTexts) → file_texts (new_file texts) ≡ texts → lines ++ file_lines (without_lines texts) ≡ lines ++ line_of (File texts) ∷ []
new_lines lines texts same = ap (λ (t : FileTexts). lines ++ line_of (File t) ∷ []) same

-- one more line of a file's content
lines_more : (lines : List (List ℕ)) (head : List ℕ) (listed : List ContentLine) (line : ContentLine) → lines ++ head ∷ map content_line (listed ++ line ∷ []) ≡ (lines ++ head ∷ map content_line listed) ++ content_line line ∷ []
lines_more lines head listed line =
    ap (λ (ls : List (List ℕ)). lines ++ head ∷ ls) (map-append content_line listed (line ∷ []))
    ∙ sym (append_assoc lines (head ∷ map content_line listed) (content_line line ∷ []))

-- one more key line of a terminal
keyed_more : (lines : List (List ℕ)) (head : List ℕ) (keyed : List (List ℕ)) (keys : List ℕ) → lines ++ head ∷ map key_line (keyed ++ keys ∷ []) ≡ (lines ++ head ∷ map key_line keyed) ++ line_of (Keys keys) ∷ []
keyed_more lines head keyed keys =
    ap (λ (ls : List (List ℕ)). lines ++ head ∷ ls) (map-append key_line keyed (keys ∷ []))
    ∙ sym (append_assoc lines (head ∷ map key_line keyed) (line_of (Keys keys) ∷ []))

-- one more file with its lines
pub have_lines_more : (version : Version) (files : List FileEntry) (listed : List FileWithLines) (t : FileWithLines) → HaveLines version files listed → HasLines version t → HaveLines version (files ++ volume_entry t ∷ []) (listed ++ t ∷ [])
have_lines_more version files listed t are is =
    record {
      each = all_append (HasLines version) listed (t ∷ []) are.each (is, tt);
      files_are = map-append volume_entry listed (t ∷ []) ∙ ap (λ (fs : List FileEntry). fs ++ volume_entry t ∷ []) are.files_are;
    }

bare_is : (blocks : List ℕ) → is_number_between 1 16384 blocks ≡ true → IsDeck (bare_deck (digits_value 10 blocks))
bare_is blocks e =
    let n = number_parts 1 16384 blocks e in
    let value : ℕ = digits_value 10 blocks in
    let size : is_between 1 16384 value ≡ true = and_both _ _ n.least n.most in
    record {
      volume = volume_whole value [] [] (record { size = size; few = omega arith; each = refl; apart = refl }) (no_files value []);
      terminals = record { each = tt; apart = refl; few = omega arith };
    }

deck_account : (deck : Deck) (e : AccountEntry) → IsDeck deck → deck.files ≡ [] → FitsIn deck.accounts e → IsDeck (with_account deck e)
deck_account deck e is no_file fits =
    let parts = volume_parts deck.blocks deck.accounts deck.files is.volume in
    let accounts : List AccountEntry = deck.accounts ++ e ∷ [] in
    record {
      volume = volume_whole deck.blocks accounts deck.files (volume_push deck.blocks deck.accounts e parts.0 fits)
          (subst (λ (fs : List FileEntry). are_good_files deck.blocks accounts fs ≡ true) (sym no_file) (no_files deck.blocks accounts));
      terminals = is.terminals;
    }

-- more content leaves a file good
content_more : (deck : Deck) (file : model.File) (bytes : List ℕ) → IsDeck (with_file deck file) → IsDeck (with_file deck (with_content file bytes))
content_more deck file bytes is =
    let last = deck_last deck file is in
    deck_file deck (with_content file bytes) last.before (record { good = last.fits.good; new = last.fits.new; room = last.fits.room; fit = last.fits.fit; within = last.fits.within })

-- one more line gives its bytes
has_lines_more : (version : Version) (file : model.File) (lines : List ContentLine) (line : ContentLine) → HasLines version (record { file = file; lines = lines }) → MayHave version line → first_cause (content_causes (with_content file (line_bytes line))) ≡ None → HasLines version (record { file = with_content file (line_bytes line); lines = lines ++ line ∷ [] })
has_lines_more version file lines line is may e =
    let a = no_cause (nat_lt (512 * file.blocks) (length (file.content ++ line_bytes line))) _ _ e in
    record {
      may = all_append (MayHave version) lines (line ∷ []) is.may (may, tt);
      content = ap (λ (bytes : List ℕ). bytes ++ line_bytes line) is.content
          ∙ sym (flat_map-append line_bytes lines (line ∷ []) ∙ ap (λ (bytes : List ℕ). content_of lines ++ bytes) (append-nil (line_bytes line)));
      fits = ltb-false (512 * file.blocks) (length (file.content ++ line_bytes line)) a.0;
    }

-- another last file with a name that the version can give
same_names : (version : Version) (files : List FileEntry) (f g : FileEntry) → AreNamesIn version (files ++ f ∷ []) → (IsNameIn version f.name f.code → IsNameIn version g.name g.code) → AreNamesIn version (files ++ g ∷ [])
same_names version files f g are same =
    let P : FileEntry → Type 0 = λ file. IsNameIn version file.name file.code in
    all_append P files (g ∷ []) (all_front P files (f ∷ []) are) (same (all_back P files (f ∷ []) are).0, tt)

file_begun : (version : Version) (deck : Deck) (file : model.File) (lines : List (List ℕ)) (line : ContentLine) → BeginsFile version deck file lines → MayHave version line → first_cause (content_causes (with_content file (line_bytes line))) ≡ None → BeginsFile version deck (with_content file (line_bytes line)) (lines ++ content_line line ∷ [])
file_begun version deck file lines line b may e =
    record {
      is = record { is_deck = content_more deck file (line_bytes line) b.is.is_deck; quotas = b.is.quotas; names = same_names version deck.files (file_entry file) (file_entry (with_content file (line_bytes line))) b.is.names (λ named. named) };
      no_terminal = b.no_terminal;
      with_lines = b.with_lines;
      have_lines = b.have_lines;
      last = b.last ++ line ∷ [];
      has_lines = has_lines_more version file b.last line b.has_lines may e;
      lines_are = ap (λ (ls : List (List ℕ)). ls ++ content_line line ∷ []) b.lines_are ∙ sym (lines_more (group_lines version deck b.with_lines) (line_of (File (file_texts file))) b.last line);
    }

keys_more : (version : Version) (deck : Deck) (terminal : model.Terminal) (keys : List ℕ) → IsDeck (with_terminal deck terminal) → first_cause (causes (InTerminal version deck terminal) (Keys keys)) ≡ None → IsDeck (with_terminal deck (with_keys terminal keys))
keys_more version deck terminal keys is e =
    let a = no_cause (nat_lt 255 (length keys)) _ _ e in
    let short : IsKeyLine keys = ltb-false 255 (length keys) a.0 in
    let last = terminals_last deck.terminals terminal is.terminals in
    let good : IsTerminal (with_keys terminal keys) = record { name = last.good.name; keys = all_append IsKeyLine terminal.keys (keys ∷ []) last.good.keys (short, tt) } in
    record {
      volume = is.volume;
      terminals = terminals_push deck.terminals (with_keys terminal keys) (terminals_front deck.terminals (terminal ∷ []) is.terminals) (record { good = good; new = last.new; room = last.room });
    }

no_lines : (version : Version) (texts : FileTexts) → HasLines version (without_lines texts)
no_lines version texts = record { may = tt; content = refl; fits = omega arith }

-- a FILE line after the lines of a deck
file_behind : (version : Version) (deck : Deck) (listed : List FileWithLines) (lines : List (List ℕ)) (texts : FileTexts) → IsDeckIn version deck → deck.terminals ≡ [] → HaveLines version deck.files listed → lines ≡ group_lines version deck listed → first_cause (file_causes version deck texts) ≡ None → BeginsFile version deck (new_file texts) (lines ++ line_of (File texts) ∷ [])
file_behind version deck listed lines texts is none have lines_are e =
    let found = file_fits version deck texts e in
    let P : FileEntry → Type 0 = λ file. IsNameIn version file.name file.code in
    record {
      is = record {
        is_deck = deck_file deck (new_file texts) is.is_deck found.fits;
        quotas = is.quotas;
        names = all_append P deck.files (file_entry (new_file texts) ∷ []) is.names (found.in_version, tt);
      };
      no_terminal = none;
      with_lines = listed;
      have_lines = have;
      last = [];
      has_lines = no_lines version texts;
      lines_are = ap (λ (ls : List (List ℕ)). ls ++ line_of (File texts) ∷ []) lines_are ∙ sym (new_lines (group_lines version deck listed) texts found.texts_are);
    }

terminal_behind : (version : Version) (deck : Deck) (listed : List FileWithLines) (lines : List (List ℕ)) (name : List ℕ) → IsDeckIn version deck → HaveLines version deck.files listed → lines ≡ group_lines version deck listed → first_cause (terminal_causes deck.terminals name) ≡ None → BeginsTerminal version deck (new_terminal name) (lines ++ line_of (Terminal name) ∷ [])
terminal_behind version deck listed lines name is have lines_are e =
    record {
      is = record { is_deck = deck_terminal deck (new_terminal name) is.is_deck (terminal_fits deck.terminals name e); quotas = is.quotas; names = is.names };
      with_lines = listed;
      have_lines = have;
      lines_are = ap (λ (ls : List (List ℕ)). ls ++ line_of (Terminal name) ∷ []) lines_are;
    }

-- the last file joins the others
filed : (version : Version) (deck : Deck) (file : model.File) (lines : List (List ℕ)) → (b : BeginsFile version deck file lines) → HaveLines version (with_file deck file).files (b.with_lines ++ (record { file = file; lines = b.last }) ∷ []) × (lines ≡ group_lines version (with_file deck file) (b.with_lines ++ (record { file = file; lines = b.last }) ∷ []))
filed version deck file lines b =
    let last : FileWithLines = record { file = file; lines = b.last } in
    (have_lines_more version deck.files b.with_lines last b.have_lines b.has_lines, b.lines_are ∙ sym (group_file version deck b.with_lines last b.no_terminal))

pub adds_front : (front : Front) (form : LineForm) (lines : List (List ℕ)) → BeginsDeck front lines → May front form → is_formed (version_at front) form ≡ true → first_cause (causes front form) ≡ None → BeginsDeck (adds front form) (lines ++ line_of form ∷ [])
adds_front Nothing (Heading version) lines is may formed e = ap (λ (ls : List (List ℕ)). ls ++ line_of (Heading version) ∷ []) is
adds_front (Versioned version) (Disk blocks) lines is may formed e =
    let a = no_cause (not (is_number_between 1 16384 blocks)) _ _ e in
    let range = not_false (is_number_between 1 16384 blocks) a.0 in
    record {
      is = record { is_deck = bare_is blocks range; quotas = tt; names = tt };
      no_file = refl;
      no_terminal = refl;
      lines_are = ap (λ (ls : List (List ℕ)). ls ++ line_of (Disk blocks) ∷ []) is
          ∙ ap (λ (text : List ℕ). line_of (Heading version) ∷ line_of (Disk text) ∷ []) (number_parts 1 16384 blocks range).text_is;
    }
adds_front (InAccounts version deck) (Account texts) lines is may formed e =
    let good = volume_parts deck.blocks deck.accounts deck.files is.is.is_deck.volume in
    let size = and_right (nat_le 1 deck.blocks) (nat_le deck.blocks 16384) good.0.size in
    let taken = account_fits version deck texts may size e in
    let entry : AccountEntry = entry_of deck.blocks texts in
    let quotas = all_append (λ (x : AccountEntry). IsQuota version deck.blocks x.quota) deck.accounts (entry ∷ []) is.is.quotas (taken.quota, tt) in
    record {
      is = record { is_deck = deck_account deck entry is.is.is_deck is.no_file taken.fits; quotas = quotas; names = is.is.names };
      no_file = is.no_file;
      no_terminal = is.no_terminal;
      lines_are = ap (λ (ls : List (List ℕ)). ls ++ line_of (Account texts) ∷ []) is.lines_are ∙ sym (account_more version deck texts is.no_terminal taken.texts_are);
    }
adds_front (InAccounts version deck) (File texts) lines is may formed e =
    file_behind version deck [] lines texts is.is is.no_terminal (record { each = tt; files_are = sym is.no_file }) is.lines_are e
adds_front (InAccounts version deck) (Terminal name) lines is may formed e =
    terminal_behind version deck [] lines name is.is (record { each = tt; files_are = sym is.no_file }) is.lines_are e
adds_front (InAccounts version deck) End lines is may formed e =
    record { is = is.is; with_lines = []; have_lines = record { each = tt; files_are = sym is.no_file }; lines_are = ap (λ (ls : List (List ℕ)). ls ++ line_of End ∷ []) is.lines_are }
adds_front (InFile version deck file) (Keys text) lines is may formed e = file_begun version deck file lines (TextLine text) is tt e
adds_front (InFile version deck file) (Block bytes) lines is may formed e =
    let a = no_cause (nat_lt 512 (length bytes)) _ _ e in
    file_begun version deck file lines (BlockLine bytes) is (may, formed, ltb-false 512 (length bytes) a.0) a.1
adds_front (InFile version deck file) (File texts) lines is may formed e =
    let f = filed version deck file lines is in
    file_behind version (with_file deck file) _ lines texts is.is is.no_terminal f.0 f.1 e
adds_front (InFile version deck file) (Terminal name) lines is may formed e =
    let f = filed version deck file lines is in
    terminal_behind version (with_file deck file) _ lines name is.is f.0 f.1 e
adds_front (InFile version deck file) End lines is may formed e =
    let f = filed version deck file lines is in
    record { is = is.is; with_lines = _; have_lines = f.0; lines_are = ap (λ (ls : List (List ℕ)). ls ++ line_of End ∷ []) f.1 }
adds_front (InTerminal version deck terminal) (Keys keys) lines is may formed e =
    record {
      is = record { is_deck = keys_more version deck terminal keys is.is.is_deck e; quotas = is.is.quotas; names = is.is.names };
      with_lines = is.with_lines;
      have_lines = is.have_lines;
      lines_are = ap (λ (ls : List (List ℕ)). ls ++ line_of (Keys keys) ∷ []) is.lines_are ∙ sym (keyed_more (group_lines version deck is.with_lines) (line_of (Terminal terminal.name)) terminal.keys keys);
    }
adds_front (InTerminal version deck terminal) (Terminal name) lines is may formed e =
    terminal_behind version (with_terminal deck terminal) is.with_lines lines name is.is is.have_lines (is.lines_are ∙ sym (group_more version deck is.with_lines terminal)) e
adds_front (InTerminal version deck terminal) End lines is may formed e =
    record { is = is.is; with_lines = is.with_lines; have_lines = is.have_lines; lines_are = ap (λ (ls : List (List ℕ)). ls ++ line_of End ∷ []) (is.lines_are ∙ sym (group_more version deck is.with_lines terminal)) }
adds_front front form lines is may formed e = absurd may

-- ---- what reading makes of one line

pub line_behind : (front : Front) (form : LineForm) → May front form → is_formed (version_at front) form ≡ true → first_cause (causes front form) ≡ None → behind_line front (line_of form) ≡ Ok (adds front form)
unfolding behind_line behind_form
line_behind front form may formed none = rw (form_again front form may formed, none) refl

pub heading_behind : (version : Version) → behind_line Nothing (line_of (Heading version)) ≡ Ok (Versioned version)
heading_behind version = line_behind Nothing (Heading version) tt refl refl

pub disk_behind : (version : Version) (blocks : ℕ) → is_between 1 16384 blocks ≡ true → behind_line (Versioned version) (line_of (Disk (decimal blocks))) ≡ Ok (InAccounts version (bare_deck blocks))
disk_behind version blocks size =
    let least = and_left (nat_le 1 blocks) (nat_le blocks 16384) size in
    let most = and_right (nat_le 1 blocks) (nat_le blocks 16384) size in
    let small : blocks < 2 ^ 32 = omega (arith, leb-true _ _ most) in
    let in_range : is_number_between 1 16384 (decimal blocks) ≡ true = number_is 1 16384 blocks small least most in
    line_behind (Versioned version) (Disk (decimal blocks)) tt (decimal_numeral blocks small) (rw in_range refl)
    ∙ ap (λ (n : ℕ). Ok (InAccounts version (bare_deck n))) (value_is blocks small)

-- an accepted line has a form to which no cause applies
pub record Takes (front : Front) (line : List ℕ) (next : Front) : Type 0 where
  pub form : LineForm
  pub has : HasForm front line form
  pub none : first_cause (causes front form) ≡ None
  pub next_is : adds front form ≡ next

refused : Front → DeckCause → Result Front DeckCause
refused front why = Err why

taken : Front → Result Front DeckCause
taken front = Ok front

same_front : (a b : Front) → taken a ≡ taken b → a ≡ b
unfolding taken
same_front a b e = cc

same_why : (front : Front) (a b : DeckCause) → refused front a ≡ refused front b → a ≡ b
unfolding refused
same_why front a b e = cc

not_taken : (front next : Front) (why : DeckCause) → refused front why ≡ taken next → ⊥
unfolding refused taken
not_taken front next why e = cc

unless_taken : (front next : Front) (o : Option DeckCause) → unless_refused front o ≡ taken next → (o ≡ None) × (front ≡ next)
unfolding refused taken
unless_taken front next None e = (refl, same_front front next e)
unless_taken front next (Some why) e = absurd (not_taken front next why e)

unless_wrong : (front : Front) (why : DeckCause) (o : Option DeckCause) → unless_refused front o ≡ refused front why → o ≡ Some why
unfolding refused taken
unless_wrong front why None e = absurd (not_taken front front why (sym e))
unless_wrong front why (Some other) e = ap (λ (c : DeckCause). Some c) (same_why front other why e)

found_takes : (front : Front) (line : List ℕ) (next : Front) (o : Option LineForm) → form_at front line ≡ o → behind_form front o ≡ taken next → Takes front line next
unfolding behind_form refused taken
found_takes front line next None at e = absurd (not_taken front next (shape_cause front) e)
found_takes front line next (Some form) at e =
    let u = unless_taken (adds front form) next (first_cause (causes front form)) e in
    record { form = form; has = form_takes front line form at; none = u.0; next_is = u.1 }

pub line_takes : (front : Front) (line : List ℕ) (next : Front) → behind_line front line ≡ Ok next → Takes front line next
unfolding behind_line taken
line_takes front line next e = found_takes front line next (form_at front line) refl e

some_form : LineForm → Option LineForm
some_form form = Some form

none_some : (form : LineForm) → None ≡ some_form form → ⊥
unfolding some_form
none_some form e = cc

found_refuses : (front : Front) (line : List ℕ) (why : DeckCause) (o : Option LineForm) → form_at front line ≡ o → behind_form front o ≡ refused front why → IsRefused front line why
unfolding behind_form refused some_form
found_refuses front line why None at e =
    inl (λ form has. none_some form (sym at ∙ ap (form_at front) has.line_is ∙ form_again front form has.may has.is_formed), same_why front why (shape_cause front) (sym e))
found_refuses front line why (Some form) at e =
    inr (form, form_takes front line form at, unless_wrong (adds front form) why (first_cause (causes front form)) e)

pub line_refuses : (front : Front) (line : List ℕ) (why : DeckCause) → behind_line front line ≡ Err why → IsRefused front line why
unfolding behind_line refused
line_refuses front line why e = found_refuses front line why (form_at front line) refl e

no_form : (front : Front) (line : List ℕ) (o : Option LineForm) → form_at front line ≡ o → ((form : LineForm) → HasForm front line form → ⊥) → behind_form front o ≡ Err (shape_cause front)
unfolding behind_form
no_form front line None at none = refl
no_form front line (Some form) at none = absurd (none form (form_takes front line form at))

pub refused_behind : (front : Front) (line : List ℕ) (why : DeckCause) → IsRefused front line why → behind_line front line ≡ Err why
unfolding behind_line behind_form refused
refused_behind front line why is =
    ⊎_elim
    (λ unformed. no_form front line (form_at front line) refl unformed.0 ∙ ap (refused front) (sym unformed.1))
    (λ wrong. ap (λ (l : List ℕ). behind_line front l) wrong.1.line_is ∙ rw (form_again front wrong.0 wrong.1.may wrong.1.is_formed, wrong.2) refl)
    is

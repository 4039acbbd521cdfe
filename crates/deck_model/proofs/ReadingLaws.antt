-- The verdict of reading is right, and every deck and every rejection is found.
use Rattle.std.proofs.Common.{◌≡◌, ℕ, ◌+◌, ◌≤◌, List, [], ◌∷◌, ◌++◌, length, map, None, Ok, Err, refl, sym, ap, subst, ◌∙◌, append_assoc, arith}
use Rattle.std.specs.Prelude.{Result, ◌*◌, ◌&&◌, nat_le, true}
use Rattle.std.specs.List.{flat_map, AllByRecursion}
use Rattle.std.specs.Fmt.{decimal}
use Rattle.std.proofs.lemmas.Bool.{le-ltb}
use Rattle.std.proofs.lemmas.List.{append-nil, length-append}
use Rattle.monitor_calls.specs.declared.volumes.AccountEntry.{AccountEntry}
use Rattle.monitor_calls.specs.declared.files.FileEntry.{FileEntry}
use Rattle.deck_model.specs.declared.faults.DeckCause.{DeckCause}
use Rattle.deck_model.specs.declared.versions.Version.{Version}
use Rattle.deck_model.specs.Files.{file_entry, ContentLine, TextLine, BlockLine, block_of, line_bytes, content_of}
use Rattle.deck_model.specs.Deck as model
use Rattle.deck_model.specs.Deck.{Deck, IsDeck, IsKeyLine, AreTerminals}
use Rattle.deck_model.specs.Lines.{whole_lines, cut_line}
use Rattle.deck_model.specs.Forms.{LineForm, Heading, Disk, Account, File, Terminal, Keys, End, line_of, is_name, is_formed}
use Rattle.deck_model.specs.Spelling.{texts_of, account_line, file_texts, content_form, content_line, FileWithLines, volume_entry, MayHave, HasLines, HaveLines, file_lines, key_line, terminal_lines, group_lines, deck_lines, IsQuota, IsNameIn, AreNamesIn, Spelled}
use Rattle.deck_model.specs.Fronts.{Front, Nothing, Versioned, InAccounts, InFile, InTerminal, Whole, with_file, with_terminal, with_content, version_at, IsDeckIn, BeginsWhole, BeginsDeck, May, new_file, new_terminal, adds}
use Rattle.deck_model.specs.Refusals.{first_cause, file_causes, causes, StopsAt, Refused}
use Rattle.deck_model.specs.Reading.{behind_line, DeckVerdict, Yields, Refuses, at_end, onwards, reading, verdict}
use Rattle.basic_values.proofs.CutLaws.{and_right}
use Rattle.deck_model.proofs.VolumeLaws.{GoodVolume, volume_parts, volume_whole, volume_front, volume_last, FitsAmong, terminals_front, terminals_last, all_front, all_back}
use Rattle.deck_model.proofs.FileLaws.{files_parts, files_whole, files_front}
use Rattle.deck_model.proofs.RangeLaws.{account_none, terminal_none, written, TakenFile, file_taken}
use Rattle.deck_model.proofs.FrontLaws.{adds_front, Takes, line_behind, line_takes, line_refuses, refused_behind, deck_last, heading_behind, disk_behind}

-- ---- what is so is found

-- these lines lead from one front to another
record Leads (from : Front) (lines : List (List ℕ)) (to : Front) : Type 0 where
  reads : (number : ℕ) (more : List (List ℕ)) (cut : List ℕ) → reading from number (lines ++ more) cut ≡ reading to (number + length lines) more cut

leads_none : (from to : Front) → from ≡ to → Leads from [] to
leads_none from to same = record { reads = λ number more cut. (let place : number ≡ number + 0 = omega arith in λ i. reading (same i) (place i) more cut) }

leads_line : (from : Front) (line : List ℕ) (to : Front) → behind_line from line ≡ Ok to → Leads from (line ∷ []) to
unfolding reading
leads_line from line to e = record { reads = λ number more cut. ap (λ (r : Result Front DeckCause). onwards r number (λ next. reading next (number + 1) more cut)) e }

leads_both : (a : Front) (xs : List (List ℕ)) (b : Front) (ys : List (List ℕ)) (c : Front) → Leads a xs b → Leads b ys c → Leads a (xs ++ ys) c
leads_both a xs b ys c first second =
    record {
      reads = λ number more cut.
          let place : number + length xs + length ys ≡ number + length (xs ++ ys) = omega (arith, length-append xs ys) in
          ap (λ (ls : List (List ℕ)). reading a number ls cut) (append_assoc xs ys more)
          ∙ first.reads number (ys ++ more) cut
          ∙ second.reads (number + length xs) more cut
          ∙ ap (λ (n : ℕ). reading c n more cut) place;
    }

leads_form : (from : Front) (form : LineForm) (to : Front) → behind_line from (line_of form) ≡ Ok (adds from form) → adds from form ≡ to → Leads from (line_of form ∷ []) to
leads_form from form to e same = leads_line from (line_of form) to (e ∙ ap (λ (f : Front). Ok f) same)

abbrev with_accounts : ℕ → List AccountEntry → Deck
with_accounts blocks accounts = record { blocks = blocks; accounts = accounts; files = []; terminals = [] }

-- quotas that the version can give
abbrev AreQuotas : Version → ℕ → List AccountEntry → Type 0
AreQuotas version blocks entries = AllByRecursion (λ (entry : AccountEntry). IsQuota version blocks entry.quota) entries

module _ (version : Version) (blocks : ℕ) where
  abbrev behind : List AccountEntry → Front
  behind entries = InAccounts version (with_accounts blocks entries)

  accounts_lead : (done entries : List AccountEntry) → GoodVolume blocks (done ++ entries) → AreQuotas version blocks entries → Leads (behind done) (map (account_line version) entries) (behind (done ++ entries))
  accounts_lead done [] good quotas = leads_none _ _ (ap behind (sym (append-nil done)))
  accounts_lead done (e ∷ entries) good quotas =
      let regroup : (done ++ e ∷ []) ++ entries ≡ done ++ e ∷ entries = append_assoc done (e ∷ []) entries in
      let front : GoodVolume blocks ((done ++ e ∷ []) ++ entries) = subst (GoodVolume blocks) (sym regroup) good in
      let fits = volume_last blocks done e (volume_front blocks (done ++ e ∷ []) entries front) in
      let w = written version blocks e fits.good quotas.0 in
      let form : LineForm = Account (texts_of version e) in
      let one : Leads (behind done) (line_of form ∷ []) (behind (done ++ e ∷ [])) =
      leads_form (behind done) form (behind (done ++ e ∷ [])) (line_behind (behind done) form w.may w.formed (account_none version (with_accounts blocks done) e fits w))
      (ap (λ (x : AccountEntry). behind (done ++ x ∷ [])) w.entry_is) in
      leads_both (behind done) (account_line version e ∷ []) (behind (done ++ e ∷ [])) (map (account_line version) entries) (behind (done ++ e ∷ entries)) one
      (subst (λ (es : List AccountEntry). Leads (behind (done ++ e ∷ [])) (map (account_line version) entries) (behind es)) regroup (accounts_lead (done ++ e ∷ []) entries front quotas.1))

-- ---- the lines of one group

abbrev filled : model.File → List ℕ → model.File
filled file bytes = record file { content = bytes }

-- what is known of a line of content after a file
record TakesLine (version : Version) (deck : Deck) (file : model.File) (line : ContentLine) : Type 0 where
  may : May (InFile version deck file) (content_form line)
  formed : is_formed version (content_form line) ≡ true
  adds_is : adds (InFile version deck file) (content_form line) ≡ InFile version deck (with_content file (line_bytes line))
  none : length (file.content ++ line_bytes line) ≤ 512 * file.blocks → first_cause (causes (InFile version deck file) (content_form line)) ≡ None

takes_line : (version : Version) (deck : Deck) (file : model.File) (line : ContentLine) → MayHave version line → TakesLine version deck file line
takes_line version deck file (TextLine text) may = record { may = tt; formed = refl; adds_is = refl; none = λ fits. rw (le-ltb (512 * file.blocks) (length (file.content ++ line_bytes (TextLine text))) fits) refl }
takes_line version deck file (BlockLine bytes) may = record { may = may.0; formed = may.1; adds_is = refl; none = λ fits. rw (le-ltb 512 (length bytes) may.2, le-ltb (512 * file.blocks) (length (file.content ++ block_of bytes)) fits) refl }

contents_lead : (version : Version) (deck : Deck) (file : model.File) (done : List ℕ) (lines : List ContentLine) → AllByRecursion (MayHave version) lines → length (done ++ content_of lines) ≤ 512 * file.blocks → Leads (InFile version deck (filled file done)) (map content_line lines) (InFile version deck (filled file (done ++ content_of lines)))
contents_lead version deck file done [] may fits = leads_none _ _ (ap (λ (bytes : List ℕ). InFile version deck (filled file bytes)) (sym (append-nil done)))
contents_lead version deck file done (l ∷ lines) may fits =
    let bytes : List ℕ = line_bytes l in
    let regroup : (done ++ bytes) ++ content_of lines ≡ done ++ content_of (l ∷ lines) = append_assoc done bytes (content_of lines) in
    let more : length ((done ++ bytes) ++ content_of lines) ≤ 512 * file.blocks = subst (λ (all : List ℕ). length all ≤ 512 * file.blocks) (sym regroup) fits in
    let short : length (done ++ bytes) ≤ 512 * file.blocks = omega (arith, more, length-append (done ++ bytes) (content_of lines)) in
    let from : Front = InFile version deck (filled file done) in
    let to : Front = InFile version deck (filled file (done ++ bytes)) in
    let takes = takes_line version deck (filled file done) l may.0 in
    let one : Leads from (content_line l ∷ []) to = leads_form from (content_form l) to (line_behind from (content_form l) takes.may takes.formed (takes.none short)) takes.adds_is in
    leads_both from (content_line l ∷ []) to (map content_line lines) (InFile version deck (filled file (done ++ content_of (l ∷ lines)))) one
    (subst (λ (all : List ℕ). Leads to (map content_line lines) (InFile version deck (filled file all))) regroup (contents_lead version deck file (done ++ bytes) lines may.1 more))

abbrev named : List ℕ → List (List ℕ) → model.Terminal
named name keys = record { name = name; keys = keys }

keys_lead : (version : Version) (deck : Deck) (name : List ℕ) (done keys : List (List ℕ)) → AllByRecursion IsKeyLine keys → Leads (InTerminal version deck (named name done)) (map key_line keys) (InTerminal version deck (named name (done ++ keys)))
keys_lead version deck name done [] short = leads_none _ _ (ap (λ (ks : List (List ℕ)). InTerminal version deck (named name ks)) (sym (append-nil done)))
keys_lead version deck name done (k ∷ keys) short =
    let from : Front = InTerminal version deck (named name done) in
    let to : Front = InTerminal version deck (named name (done ++ k ∷ [])) in
    let one : Leads from (line_of (Keys k) ∷ []) to = leads_form from (Keys k) to (line_behind from (Keys k) tt refl (rw (le-ltb 255 (length k) short.0) refl)) refl in
    leads_both from (key_line k ∷ []) to (map key_line keys) (InTerminal version deck (named name (done ++ k ∷ keys))) one
    (subst (λ (ks : List (List ℕ)). Leads to (map key_line keys) (InTerminal version deck (named name ks))) (append_assoc done (k ∷ []) keys) (keys_lead version deck name (done ++ k ∷ []) keys short.1))

-- ---- fronts after whole groups

-- all groups of the deck were read in this version, and the last one may go on
abbrev IsAt : Front → Version × Deck → Type 0
IsAt (InAccounts version deck) whole = (version, deck) ≡ whole
IsAt (InFile version deck file) whole = (version, with_file deck file) ≡ whole
IsAt (InTerminal version deck terminal) whole = (version, with_terminal deck terminal) ≡ whole
IsAt front whole = ⊥

end_taken : (front : Front) (whole : Version × Deck) → IsAt front whole → behind_line front (line_of End) ≡ Ok (Whole whole.0 whole.1)
end_taken (InAccounts version deck) whole at = line_behind (InAccounts version deck) End tt refl refl ∙ ap (λ (d : Version × Deck). Ok (Whole d.0 d.1)) at
end_taken (InFile version deck file) whole at = line_behind (InFile version deck file) End tt refl refl ∙ ap (λ (d : Version × Deck). Ok (Whole d.0 d.1)) at
end_taken (InTerminal version deck terminal) whole at = line_behind (InTerminal version deck terminal) End tt refl refl ∙ ap (λ (d : Version × Deck). Ok (Whole d.0 d.1)) at
end_taken front whole at = absurd at

capitals_formed : (t : model.Terminal) → model.IsTerminal t → is_name t.name ≡ true
capitals_formed t good = and_right (nat_le 1 (length t.name) && nat_le (length t.name) 8) (is_name t.name) good.name

-- the front after a TERMINAL line
abbrev opened : Version × Deck → model.Terminal → Result Front DeckCause
opened whole t = Ok (InTerminal whole.0 whole.1 (new_terminal t.name))

terminal_taken : (front : Front) (whole : Version × Deck) (t : model.Terminal) → IsAt front whole → FitsAmong whole.1.terminals t → behind_line front (line_of (Terminal t.name)) ≡ opened whole t
terminal_taken (InAccounts version deck) whole t at fits =
    let own : FitsAmong deck.terminals t = subst (λ (d : Version × Deck). FitsAmong d.1.terminals t) (sym at) fits in
    line_behind (InAccounts version deck) (Terminal t.name) tt (capitals_formed t fits.good) (terminal_none deck.terminals t own) ∙ ap (λ (d : Version × Deck). opened d t) at
terminal_taken (InFile version deck file) whole t at fits =
    let own : FitsAmong deck.terminals t = subst (λ (d : Version × Deck). FitsAmong d.1.terminals t) (sym at) fits in
    line_behind (InFile version deck file) (Terminal t.name) tt (capitals_formed t fits.good) (terminal_none deck.terminals t own) ∙ ap (λ (d : Version × Deck). opened d t) at
terminal_taken (InTerminal version deck terminal) whole t at fits =
    let own : FitsAmong (deck.terminals ++ terminal ∷ []) t = subst (λ (d : Version × Deck). FitsAmong d.1.terminals t) (sym at) fits in
    line_behind (InTerminal version deck terminal) (Terminal t.name) tt (capitals_formed t fits.good) (terminal_none (deck.terminals ++ terminal ∷ []) t own) ∙ ap (λ (d : Version × Deck). opened d t) at
terminal_taken front whole t at fits = absurd at

-- the front after a FILE line, without content
abbrev filed : Version × Deck → model.File → Result Front DeckCause
filed whole f = Ok (InFile whole.0 whole.1 (filled f []))

-- a list with one more is not empty
one_more : {A : Type 0} (xs : List A) (x : A) → (xs ++ x ∷ []) ≡ [] → ⊥
one_more [] x e = absurd (cc)
one_more (y ∷ xs) x e = absurd (cc)

file_opens : (front : Front) (whole : Version × Deck) (f : model.File) → May front (File (file_texts f)) → is_formed (version_at front) (File (file_texts f)) ≡ true → adds front (File (file_texts f)) ≡ InFile whole.0 whole.1 (new_file (file_texts f)) → causes front (File (file_texts f)) ≡ file_causes whole.0 whole.1 (file_texts f) → TakenFile whole.0 whole.1 f → behind_line front (line_of (File (file_texts f))) ≡ filed whole f
file_opens front whole f may formed next why taken =
    line_behind front (File (file_texts f)) may formed (ap first_cause why ∙ taken.none)
    ∙ ap (λ (n : Front). Ok n) (next ∙ ap (InFile whole.0 whole.1) taken.file_is)

file_line_taken : (front : Front) (whole : Version × Deck) (f : model.File) → IsAt front whole → whole.1.terminals ≡ [] → TakenFile whole.0 whole.1 f → behind_line front (line_of (File (file_texts f))) ≡ filed whole f
file_line_taken (InAccounts version deck) whole f at none taken =
    let own : TakenFile version deck f = subst (λ (d : Version × Deck). TakenFile d.0 d.1 f) (sym at) taken in
    file_opens (InAccounts version deck) (version, deck) f tt own.formed refl refl own ∙ ap (λ (d : Version × Deck). filed d f) at
file_line_taken (InFile version deck file) whole f at none taken =
    let own : TakenFile version (with_file deck file) f = subst (λ (d : Version × Deck). TakenFile d.0 d.1 f) (sym at) taken in
    file_opens (InFile version deck file) (version, with_file deck file) f tt own.formed refl refl own ∙ ap (λ (d : Version × Deck). filed d f) at
file_line_taken (InTerminal version deck terminal) whole f at none taken =
    absurd (one_more deck.terminals terminal (ap (λ (d : Version × Deck). d.1.terminals) at ∙ none))
file_line_taken front whole f at none taken = absurd at

module _ (version : Version) where
  file_leads : (from : Front) (deck : Deck) (t : FileWithLines) → behind_line from (line_of (File (file_texts t.file))) ≡ filed (version, deck) t.file → HasLines version t → Leads from (file_lines t) (InFile version deck t.file)
  file_leads from deck t e is =
      let fits : length ([] ++ content_of t.lines) ≤ 512 * t.file.blocks = subst (λ (bytes : List ℕ). length bytes ≤ 512 * t.file.blocks) is.content is.fits in
      let all : Leads (InFile version deck (filled t.file [])) (map content_line t.lines) (InFile version deck t.file) =
      subst (λ (bytes : List ℕ). Leads (InFile version deck (filled t.file [])) (map content_line t.lines) (InFile version deck (filled t.file bytes))) (sym is.content) (contents_lead version deck t.file [] t.lines is.may fits) in
      leads_both from (line_of (File (file_texts t.file)) ∷ []) (InFile version deck (filled t.file [])) (map content_line t.lines) (InFile version deck t.file) (leads_line from (line_of (File (file_texts t.file))) (InFile version deck (filled t.file [])) e) all

  terminal_leads : (from : Front) (deck : Deck) (t : model.Terminal) → behind_line from (line_of (Terminal t.name)) ≡ opened (version, deck) t → AllByRecursion IsKeyLine t.keys → Leads from (terminal_lines t) (InTerminal version deck t)
  terminal_leads from deck t e short =
      leads_both from (line_of (Terminal t.name) ∷ []) (InTerminal version deck (new_terminal t.name)) (map key_line t.keys) (InTerminal version deck t) (leads_line from (line_of (Terminal t.name)) (InTerminal version deck (new_terminal t.name)) e) (keys_lead version deck t.name [] t.keys short)

  -- ---- the lines of all groups

  -- these lines lead to a front at which all groups of the deck were read
  record Reaches (lines : List (List ℕ)) (deck : Deck) : Type 0 where
    front : Front
    at : IsAt front (version, deck)
    leads : Leads Nothing lines front

  reach_file : (lines : List (List ℕ)) (deck : Deck) (t : FileWithLines) → Reaches lines deck → deck.terminals ≡ [] → IsDeck (with_file deck t.file) → IsNameIn version t.file.name t.file.code → HasLines version t → Reaches (lines ++ file_lines t) (with_file deck t.file)
  reach_file lines deck t reached none good named is =
      let last = deck_last deck t.file good in
      let volume = volume_parts deck.blocks deck.accounts deck.files last.before.volume in
      let taken = file_taken version deck t.file volume.0 last.fits named in
      record {
        front = InFile version deck t.file;
        at = refl;
        leads = leads_both Nothing lines reached.front (file_lines t) (InFile version deck t.file) reached.leads
            (file_leads reached.front deck t (file_line_taken reached.front (version, deck) t.file reached.at none taken) is);
      }

  abbrev with_files : Deck → List FileEntry → Deck
  with_files deck files = record deck { files = files }

  -- the first files are good if all are
  deck_front : (deck : Deck) (fs gs : List FileEntry) → IsDeck (with_files deck (fs ++ gs)) → IsDeck (with_files deck fs)
  deck_front deck fs gs good =
      let parts = volume_parts deck.blocks deck.accounts (fs ++ gs) good.volume in
      let files = files_front deck.blocks deck.accounts fs gs (files_parts deck.blocks deck.accounts (fs ++ gs) parts.1) in
      record {
        volume = volume_whole deck.blocks deck.accounts fs parts.0 (files_whole deck.blocks deck.accounts fs files);
        terminals = good.terminals;
      }

  reach_files : (lines : List (List ℕ)) (deck : Deck) (ts : List FileWithLines) → Reaches lines deck → deck.terminals ≡ [] → AllByRecursion (HasLines version) ts → AreNamesIn version (map volume_entry ts) → IsDeck (with_files deck (deck.files ++ map volume_entry ts)) → Reaches (lines ++ flat_map file_lines ts) (with_files deck (deck.files ++ map volume_entry ts))
  reach_files lines deck [] reached none are named good =
      let at : deck.files ≡ deck.files ++ [] = sym (append-nil deck.files) in
      let no_more : lines ≡ lines ++ [] = sym (append-nil lines) in
      subst (λ (x : List (List ℕ) × List FileEntry). Reaches x.0 (with_files deck x.1)) (λ i. (no_more i, at i)) reached
  reach_files lines deck (t ∷ ts) reached none are named good =
      let e : FileEntry = volume_entry t in
      let es : List FileEntry = map volume_entry ts in
      let regroup : (deck.files ++ e ∷ []) ++ es ≡ deck.files ++ e ∷ es = append_assoc deck.files (e ∷ []) es in
      let again : (lines ++ file_lines t) ++ flat_map file_lines ts ≡ lines ++ (file_lines t ++ flat_map file_lines ts) = append_assoc lines (file_lines t) (flat_map file_lines ts) in
      let all : IsDeck (with_files deck ((deck.files ++ e ∷ []) ++ es)) = subst (λ (x : List FileEntry). IsDeck (with_files deck x)) (sym regroup) good in
      let one = reach_file lines deck t reached none (deck_front deck (deck.files ++ e ∷ []) es all) named.0 are.0 in
      subst (λ (x : List (List ℕ) × List FileEntry). Reaches x.0 (with_files deck x.1)) (λ i. (again i, regroup i)) (reach_files (lines ++ file_lines t) (with_file deck t.file) ts one none are.1 named.1 all)

  reach_terminal : (lines : List (List ℕ)) (deck : Deck) (t : model.Terminal) → Reaches lines deck → AreTerminals (deck.terminals ++ t ∷ []) → Reaches (lines ++ terminal_lines t) (with_terminal deck t)
  reach_terminal lines deck t reached good =
      let fits = terminals_last deck.terminals t good in
      record {
        front = InTerminal version deck t;
        at = refl;
        leads = leads_both Nothing lines reached.front (terminal_lines t) (InTerminal version deck t) reached.leads
            (terminal_leads reached.front deck t (terminal_taken reached.front (version, deck) t reached.at fits) fits.good.keys);
      }

  abbrev with_terminals : Deck → List model.Terminal → Deck
  with_terminals deck terminals = record deck { terminals = terminals }

  reach_terminals : (lines : List (List ℕ)) (deck : Deck) (ts : List model.Terminal) → Reaches lines deck → AreTerminals (deck.terminals ++ ts) → Reaches (lines ++ flat_map terminal_lines ts) (with_terminals deck (deck.terminals ++ ts))
  reach_terminals lines deck [] reached good =
      let at : deck.terminals ≡ deck.terminals ++ [] = sym (append-nil deck.terminals) in
      let no_more : lines ≡ lines ++ [] = sym (append-nil lines) in
      subst (λ (x : List (List ℕ) × List model.Terminal). Reaches x.0 (with_terminals deck x.1)) (λ i. (no_more i, at i)) reached
  reach_terminals lines deck (t ∷ ts) reached good =
      let regroup : (deck.terminals ++ t ∷ []) ++ ts ≡ deck.terminals ++ t ∷ ts = append_assoc deck.terminals (t ∷ []) ts in
      let again : (lines ++ terminal_lines t) ++ flat_map terminal_lines ts ≡ lines ++ (terminal_lines t ++ flat_map terminal_lines ts) = append_assoc lines (terminal_lines t) (flat_map terminal_lines ts) in
      let all : AreTerminals ((deck.terminals ++ t ∷ []) ++ ts) = subst AreTerminals (sym regroup) good in
      let one = reach_terminal lines deck t reached (terminals_front (deck.terminals ++ t ∷ []) ts all) in
      subst (λ (x : List (List ℕ) × List model.Terminal). Reaches x.0 (with_terminals deck x.1)) (λ i. (again i, regroup i)) (reach_terminals (lines ++ terminal_lines t) (with_terminal deck t) ts one all)

  abbrev head : ℕ → List (List ℕ)
  head blocks = line_of (Heading version) ∷ line_of (Disk (decimal blocks)) ∷ []

  head_leads : (blocks : ℕ) (accounts : List AccountEntry) → GoodVolume blocks accounts → Leads Nothing (head blocks) (InAccounts version (with_accounts blocks []))
  head_leads blocks accounts good =
      leads_both Nothing (line_of (Heading version) ∷ []) (Versioned version) (line_of (Disk (decimal blocks)) ∷ []) (InAccounts version (with_accounts blocks []))
      (leads_line Nothing (line_of (Heading version)) (Versioned version) (heading_behind version))
      (leads_line (Versioned version) (line_of (Disk (decimal blocks))) (InAccounts version (with_accounts blocks [])) (disk_behind version blocks good.size))

  groups_reach : (deck : Deck) (listed : List FileWithLines) → IsDeckIn version deck → HaveLines version deck.files listed → Reaches (group_lines version deck listed) deck
  groups_reach deck listed is are =
      let good = is.is_deck in
      let volume = volume_parts deck.blocks deck.accounts deck.files good.volume in
      let accounts : List (List ℕ) = map (account_line version) deck.accounts in
      let files : List (List ℕ) = flat_map file_lines listed in
      let terminals : List (List ℕ) = flat_map terminal_lines deck.terminals in
      let base : Deck = with_accounts deck.blocks deck.accounts in
      let start : Reaches (head deck.blocks ++ accounts) base =
      record {
        front = InAccounts version base;
        at = refl;
        leads = leads_both Nothing (head deck.blocks) (InAccounts version (with_accounts deck.blocks [])) accounts (InAccounts version base) (head_leads deck.blocks deck.accounts volume.0) (accounts_lead version deck.blocks [] deck.accounts volume.0 is.quotas);
      } in
      let no_terminals : IsDeck (with_files base (map volume_entry listed)) = subst (λ (fs : List FileEntry). IsDeck (with_files base fs)) (sym are.files_are) (record { volume = good.volume; terminals = terminals_front [] deck.terminals good.terminals }) in
      let filed_ : Reaches ((head deck.blocks ++ accounts) ++ files) (with_files base deck.files) = subst (λ (fs : List FileEntry). Reaches ((head deck.blocks ++ accounts) ++ files) (with_files base fs)) are.files_are (reach_files (head deck.blocks ++ accounts) base listed start refl are.each (subst (AreNamesIn version) (sym are.files_are) is.names) no_terminals) in
      let all = reach_terminals ((head deck.blocks ++ accounts) ++ files) (with_files base deck.files) deck.terminals filed_ good.terminals in
      subst (λ (lines : List (List ℕ)). Reaches lines deck) (append_assoc (head deck.blocks ++ accounts) files terminals ∙ append_assoc (head deck.blocks) accounts (files ++ terminals)) all

  -- without files and terminals the front is that of the accounts
  at_accounts : (front : Front) (deck : Deck) → IsAt front (version, deck) → deck.files ≡ [] → deck.terminals ≡ [] → front ≡ InAccounts version deck
  at_accounts (InAccounts other own) deck at no_file none = ap (λ (d : Version × Deck). InAccounts d.0 d.1) at
  at_accounts (InFile other own file) deck at no_file none = absurd (one_more own.files (file_entry file) (ap (λ (d : Version × Deck). d.1.files) at ∙ no_file))
  at_accounts (InTerminal other own terminal) deck at no_file none = absurd (one_more own.terminals terminal (ap (λ (d : Version × Deck). d.1.terminals) at ∙ none))
  at_accounts front deck at no_file none = absurd at

-- the lines of a front lead to it
front_leads : (front : Front) (lines : List (List ℕ)) → BeginsDeck front lines → Leads Nothing lines front
front_leads Nothing lines is = subst (λ (ls : List (List ℕ)). Leads Nothing ls Nothing) (sym is) (leads_none _ _ refl)
front_leads (Versioned version) lines is = subst (λ (ls : List (List ℕ)). Leads Nothing ls (Versioned version)) (sym is) (leads_line Nothing (line_of (Heading version)) (Versioned version) (heading_behind version))
front_leads (InAccounts version deck) lines is =
    let reached = groups_reach version deck [] is.is (record { each = tt; files_are = sym is.no_file }) in
    subst (λ (ls : List (List ℕ)). Leads Nothing ls (InAccounts version deck)) (sym is.lines_are)
    (subst (λ (f : Front). Leads Nothing (group_lines version deck []) f) (at_accounts version reached.front deck reached.at is.no_file is.no_terminal) reached.leads)
front_leads (InFile version deck file) lines is =
    let t : FileWithLines = record { file = file; lines = is.last } in
    let last = deck_last deck file is.is.is_deck in
    let volume = volume_parts deck.blocks deck.accounts deck.files last.before.volume in
    let P : FileEntry → Type 0 = λ f. IsNameIn version f.name f.code in
    let named = (all_back P deck.files (file_entry file ∷ []) is.is.names).0 in
    let taken = file_taken version deck file volume.0 last.fits named in
    let before : IsDeckIn version deck = record { is_deck = last.before; quotas = is.is.quotas; names = all_front P deck.files (file_entry file ∷ []) is.is.names } in
    let reached = groups_reach version deck is.with_lines before is.have_lines in
    subst (λ (ls : List (List ℕ)). Leads Nothing ls (InFile version deck file)) (sym is.lines_are)
    (leads_both Nothing (group_lines version deck is.with_lines) reached.front (file_lines t) (InFile version deck file) reached.leads
    (file_leads version reached.front deck t (file_line_taken reached.front (version, deck) file reached.at is.no_terminal taken) is.has_lines))
front_leads (InTerminal version deck terminal) lines is =
    let fits = terminals_last deck.terminals terminal is.is.is_deck.terminals in
    let good : IsDeck deck = record { volume = is.is.is_deck.volume; terminals = terminals_front deck.terminals (terminal ∷ []) is.is.is_deck.terminals } in
    let reached = groups_reach version deck is.with_lines (record { is_deck = good; quotas = is.is.quotas; names = is.is.names }) is.have_lines in
    subst (λ (ls : List (List ℕ)). Leads Nothing ls (InTerminal version deck terminal)) (sym is.lines_are)
    (leads_both Nothing (group_lines version deck is.with_lines) reached.front (terminal_lines terminal) (InTerminal version deck terminal) reached.leads
    (terminal_leads version reached.front deck terminal (terminal_taken reached.front (version, deck) terminal reached.at fits) fits.good.keys))
front_leads (Whole version deck) lines is =
    let reached = groups_reach version deck is.with_lines is.is is.have_lines in
    subst (λ (ls : List (List ℕ)). Leads Nothing ls (Whole version deck)) (sym is.lines_are)
    (leads_both Nothing (group_lines version deck is.with_lines) reached.front (line_of End ∷ []) (Whole version deck) reached.leads
    (leads_line reached.front (line_of End) (Whole version deck) (end_taken reached.front (version, deck) reached.at)))

-- the verdict on bytes whose first lines lead to a front
verdict_behind : (bytes : List ℕ) (front : Front) (lines rest : List (List ℕ)) → BeginsDeck front lines → whole_lines bytes ≡ lines ++ rest → verdict bytes ≡ reading front (length lines + 1) rest (cut_line bytes)
unfolding verdict
verdict_behind bytes front lines rest is e =
    let place : 1 + length lines ≡ length lines + 1 = omega arith in
    ap (λ (ls : List (List ℕ)). reading Nothing 1 ls (cut_line bytes)) e
    ∙ (front_leads front lines is).reads 1 rest (cut_line bytes)
    ∙ ap (λ (n : ℕ). reading front n rest (cut_line bytes)) place

pub spelled_told : (bytes : List ℕ) (deck : Deck) → Spelled bytes deck → verdict bytes ≡ Yields deck
unfolding reading
spelled_told bytes deck s =
    let lines = deck_lines s.version deck s.with_lines in
    verdict_behind bytes (Whole s.version deck) lines [] (record { is = record { is_deck = s.is_deck; quotas = s.quotas; names = s.names }; with_lines = s.with_lines; have_lines = s.have_lines; lines_are = refl }) (s.lines_are ∙ sym (append-nil lines))
    ∙ ap (λ (cut : List ℕ). at_end (Whole s.version deck) (length lines + 1) cut) s.ends

stops_told : (front : Front) (number : ℕ) (rest : List (List ℕ)) (cut : List ℕ) (why : DeckCause) → StopsAt front rest cut why → reading front number rest cut ≡ Refuses number why
unfolding reading
stops_told (Whole version deck) number [] [] why stops = absurd (omega (arith, stops.0))
stops_told (Whole version deck) number [] (b ∷ cut) why stops = ap (Refuses number) (sym stops.1)
stops_told Nothing number [] cut why stops = ap (Refuses number) (sym stops)
stops_told (Versioned version) number [] cut why stops = ap (Refuses number) (sym stops)
stops_told (InAccounts version deck) number [] cut why stops = ap (Refuses number) (sym stops)
stops_told (InFile version deck file) number [] cut why stops = ap (Refuses number) (sym stops)
stops_told (InTerminal version deck terminal) number [] cut why stops = ap (Refuses number) (sym stops)
stops_told front number (line ∷ lines) cut why stops =
    ap (λ (r : Result Front DeckCause). onwards r number (λ next. reading next (number + 1) lines cut)) (refused_behind front line why stops)

pub refused_told : (bytes : List ℕ) (line : ℕ) (why : DeckCause) → Refused bytes line why → verdict bytes ≡ Refuses line why
refused_told bytes line why r =
    verdict_behind bytes r.front r.begun r.rest r.begins r.lines_are
    ∙ stops_told r.front (length r.begun + 1) r.rest (cut_line bytes) why r.stops
    ∙ ap (λ (n : ℕ). Refuses n why) (sym r.line_is)

-- ---- what is found is so

record Stopped (all : List (List ℕ)) (cut : List ℕ) (line : ℕ) (why : DeckCause) : Type 0 where
  front : Front
  begun : List (List ℕ)
  rest : List (List ℕ)
  begins : BeginsDeck front begun
  lines_are : all ≡ begun ++ rest
  line_is : line ≡ length begun + 1
  stops : StopsAt front rest cut why

abbrev IsSo : List (List ℕ) → List ℕ → DeckVerdict → Type 0
IsSo all cut (Yields deck) = (version : Version) × BeginsWhole version deck all × (cut ≡ [])
IsSo all cut (Refuses line why) = Stopped all cut line why

module _ (all : List (List ℕ)) where
  end_so : (front : Front) (begun : List (List ℕ)) (number : ℕ) (cut : List ℕ) → BeginsDeck front begun → number ≡ length begun + 1 → all ≡ begun ++ [] → IsSo all cut (at_end front number cut)
  end_so (Whole version deck) begun number [] is place lines = (version, record { is = is.is; with_lines = is.with_lines; have_lines = is.have_lines; lines_are = lines ∙ append-nil begun ∙ is.lines_are }, refl)
  end_so (Whole version deck) begun number (b ∷ cut) is place lines = record { front = Whole version deck; begun = begun; rest = []; begins = is; lines_are = lines; line_is = place; stops = (omega arith, refl) }
  end_so Nothing begun number cut is place lines = record { front = Nothing; begun = begun; rest = []; begins = is; lines_are = lines; line_is = place; stops = refl }
  end_so (Versioned version) begun number cut is place lines = record { front = Versioned version; begun = begun; rest = []; begins = is; lines_are = lines; line_is = place; stops = refl }
  end_so (InAccounts version deck) begun number cut is place lines = record { front = InAccounts version deck; begun = begun; rest = []; begins = is; lines_are = lines; line_is = place; stops = refl }
  end_so (InFile version deck file) begun number cut is place lines = record { front = InFile version deck file; begun = begun; rest = []; begins = is; lines_are = lines; line_is = place; stops = refl }
  end_so (InTerminal version deck terminal) begun number cut is place lines = record { front = InTerminal version deck terminal; begun = begun; rest = []; begins = is; lines_are = lines; line_is = place; stops = refl }

  -- one more accepted line leads to the next front
  next_begins : (front next : Front) (begun : List (List ℕ)) (line : List ℕ) → BeginsDeck front begun → Takes front line next → BeginsDeck next (begun ++ line ∷ [])
  next_begins front next begun line is takes =
      let f = adds_front front takes.form begun is takes.has.may takes.has.is_formed takes.none in
      subst (λ (n : Front). BeginsDeck n (begun ++ line ∷ [])) takes.next_is
      (subst (λ (l : List ℕ). BeginsDeck (adds front takes.form) (begun ++ l ∷ [])) (sym takes.has.line_is) f)

  reading_so : (front : Front) (begun : List (List ℕ)) (number : ℕ) (lines : List (List ℕ)) (cut : List ℕ) → BeginsDeck front begun → number ≡ length begun + 1 → all ≡ begun ++ lines → IsSo all cut (reading front number lines cut)
  unfolding reading
  reading_so front begun number [] cut is place so = end_so front begun number cut is place so
  reading_so front begun number (line ∷ lines) cut is place so = go (behind_line front line) refl (λ next e. reading_so next (begun ++ line ∷ []) (number + 1) lines cut (next_begins front next begun line is (line_takes front line next e)) (omega (arith, place, length-append begun (line ∷ []))) (so ∙ sym (append_assoc begun (line ∷ []) lines)))
    where
      go : (r : Result Front DeckCause) → behind_line front line ≡ r → ((next : Front) → behind_line front line ≡ Ok next → IsSo all cut (reading next (number + 1) lines cut)) → IsSo all cut (onwards r number (λ next. reading next (number + 1) lines cut))
      go (Ok next) e onward = onward next e
      go (Err why) e onward = record { front = front; begun = begun; rest = line ∷ lines; begins = is; lines_are = so; line_is = place; stops = line_refuses front line why e }

verdict_so : (bytes : List ℕ) (v : DeckVerdict) → verdict bytes ≡ v → IsSo (whole_lines bytes) (cut_line bytes) v
unfolding verdict
verdict_so bytes v e = subst (IsSo (whole_lines bytes) (cut_line bytes)) e (reading_so (whole_lines bytes) Nothing [] 1 (whole_lines bytes) (cut_line bytes) refl (omega arith) refl)

pub told_spelled : (bytes : List ℕ) (deck : Deck) → verdict bytes ≡ Yields deck → Spelled bytes deck
told_spelled bytes deck e =
    let so = verdict_so bytes (Yields deck) e in
    record { version = so.0; with_lines = so.1.with_lines; is_deck = so.1.is.is_deck; quotas = so.1.is.quotas; names = so.1.is.names; have_lines = so.1.have_lines; lines_are = so.1.lines_are; ends = so.2 }

pub told_refused : (bytes : List ℕ) (line : ℕ) (why : DeckCause) → verdict bytes ≡ Refuses line why → Refused bytes line why
told_refused bytes line why e =
    let so = verdict_so bytes (Refuses line why) e in
    record { front = so.front; begun = so.begun; rest = so.rest; begins = so.begins; lines_are = so.lines_are; line_is = so.line_is; stops = so.stops }

-- The result of parsing words: the command rejects them, or has found what they say.
use Rattle.std.proofs.Common.{◌≡◌, ◌∙◌, Bool, true, false, ◌||◌, List, [], ◌∷◌, ◌++◌, Option, Some, None, inl, inr, refl, sym, ap, ap₂, subst, append_assoc}
use Rattle.std.specs.Prelude.{◌⊎◌, fold, codes, bytes_eq, IsUtf8, is_some, option_and_then, option_map, if◌then◌else◌}
use Rattle.std.specs.List.{AllByRecursion}
use Rattle.std.specs.Option.{option_map_or}
use Rattle.std.specs.Prelude.{Result, Ok, Err, IfOk, String, map, string_bytes}
use Rattle.std.proofs.lemmas.Str.{IsUtf8-string_bytes}
use Rattle.clap.specs.Words.{Row, Text, Kinds, HasKind, built, fault_of, first_of, is_simple, is_simple_and_free, kind_of, one_of, matches_of}
use Rattle.clap.specs.declared.error.Error.{Error}
use Rattle.clap.specs.Facts.{explicit_source}
use Rattle.clap.specs.Kinds.{or_else}
use Rattle.clap.specs.Simple.{App, entered, filled, with_index}
use Rattle.clap.specs.Takes.{is_given}
use Rattle.clap.specs.Walk.{Walk, has_row, walked, finished, settled, with_default}
use Rattle.clap.specs.Faults.{walk_fault, entered_fault, settle_fault, default_fault, defaults_fault, given_default_fault, check_fault}
use Rattle.clap.specs.declared.error.kind.ErrorKind.{ErrorKind}
use Rattle.clap.specs.declared.error.kind.ErrorKind.TheVariants as kind
use Rattle.clap.proofs.OnLiterals.{clap_on_literals}
use Rattle.program_words.specs.declared.command.Said as code
use Rattle.program_words.specs.declared.words.Wanted.{Wanted}
use Rattle.program_words.specs.CommandLine.{command_app, action_rule, count_rule, history_rule, printer_rule, said_option}
use Rattle.program_words.specs.Words.{Said, Sorted, sorted, said, said_in, said_with, wanted_from}
use Rattle.program_words.proofs.Uses.{shape, Mark, History, Printer, Use, Flag, mark_rule, mark_id, mark_word, rows_for, Place, First, Second, Full, place_at, is_full, plainly_at, plain_at, has_mark, wanted_at, AreValid, FoundWords, found_at}
use Rattle.program_words.proofs.Walks.{IsPlain, held_at, walk_at, step, fault_at, plainly, settle_passes, trailing_step, trailing_passes, trailing_full, plain_step, plain_passes, plain_full, end_step, end_passes, flag_step, flag_passes, flag_again}
use Rattle.program_words.proofs.Flags.{either, Sort, AnEnd, AWord, AMark, Stray, sort}
use Rattle.program_words.proofs.Rows.{truth_text, rows_at, flag_at, words_at, is_true, wanted_in, read, read_at}

-- WHAT IS SAID after these uses

abbrev sorted_from : Bool → List Text → Sorted
sorted_from true words = record { flags = []; plain = words }
sorted_from false words = sorted words

abbrev said_behind : List Use → Sorted → Option Said
said_behind uses rest = said_in (wanted_at uses) rest.flags (plain_at uses ++ rest.plain)

abbrev pub said_at : List Use → Option Said
said_at uses = said_behind uses (record { flags = []; plain = [] })

-- the walk over the words from here on ends so, or fails
pub record Ends (trailing : Bool) (uses : List Use) (words : List Text) : Type 0 where
  pub ended : Bool
  pub last : List Use
  pub valid : AreValid last
  pub passes : walk_fault shape [] (walk_at trailing uses) words ≡ []
  pub walk_is : fold (walked shape.rules []) (walk_at trailing uses) words ≡ walk_at ended last
  pub says : said_behind uses (sorted_from trailing words) ≡ said_at last

pub record Fails (trailing : Bool) (uses : List Use) (words : List Text) : Type 0 where
  pub refused : ErrorKind
  pub fault : walk_fault shape [] (walk_at trailing uses) words ≡ refused ∷ []
  pub says : said_behind uses (sorted_from trailing words) ≡ None

abbrev Goes : Bool → List Use → List Text → Type 0
Goes trailing uses words = Ends trailing uses words ⊎ Fails trailing uses words

module _ (trailing t : Bool) (uses s : List Use) (word : Text) (words : List Text) (passes : fault_at trailing uses word ≡ []) (steps : step trailing uses word ≡ walk_at t s)
    (says : said_behind uses (sorted_from trailing (word ∷ words)) ≡ said_behind s (sorted_from t words)) where
  fault_more : walk_fault shape [] (walk_at trailing uses) (word ∷ words) ≡ walk_fault shape [] (walk_at t s) words
  unfolding Rattle.clap.specs.Faults.walk_fault
  fault_more = ap (λ k. or_else k (walk_fault shape [] (step trailing uses word) words)) passes ∙ ap (λ w. walk_fault shape [] w words) steps

  walk_more : fold (walked shape.rules []) (walk_at trailing uses) (word ∷ words) ≡ fold (walked shape.rules []) (walk_at t s) words
  walk_more = ap (λ w. fold (walked shape.rules []) w words) steps

  more : Goes t s words → Goes trailing uses (word ∷ words)
  more (inl e) = inl (record { ended = e.ended; last = e.last; valid = e.valid; passes = fault_more ∙ e.passes; walk_is = walk_more ∙ e.walk_is; says = says ∙ e.says })
  more (inr f) = inr (record { refused = f.refused; fault = fault_more ∙ f.fault; says = says ∙ f.says })

stops : (trailing : Bool) (uses : List Use) (word : Text) (words : List Text) (k : ErrorKind) → fault_at trailing uses word ≡ k ∷ [] → said_behind uses (sorted_from trailing (word ∷ words)) ≡ None → Goes trailing uses (word ∷ words)
unfolding Rattle.clap.specs.Faults.walk_fault
stops trailing uses word words k fault says = inr (record { refused = k; fault = ap (λ l. or_else l (walk_fault shape [] (step trailing uses word) words)) fault; says = says })

-- WHAT IS SAID with one word more

-- a third plain word
three_none : (wanted : Option Wanted) (a b c : Text) (rest : List Text) → option_and_then (said_with (a ∷ b ∷ c ∷ rest)) wanted ≡ None
three_none None a b c rest = refl
three_none (Some wanted) a b c rest = refl

full_by : (place : Place) (words : List Text) (rows : List Row) (wanted : Option Wanted) (word : Text) (rest : List Text) → FoundWords place words rows → is_full place ≡ true → option_and_then (said_with (words ++ word ∷ rest)) wanted ≡ None
full_by First words rows wanted word rest found e = absurd (cc)
full_by Second words rows wanted word rest found e = absurd (cc)
full_by Full words rows wanted word rest found e = ap (λ words. option_and_then (said_with (words ++ word ∷ rest)) wanted) found.2 ∙ three_none wanted found.0 found.1 word rest

full_none : (uses : List Use) (word : Text) (rest : Sorted) → AreValid uses → is_full (place_at uses) ≡ true → said_in (wanted_at uses) rest.flags (plain_at uses ++ word ∷ rest.plain) ≡ None
full_none uses word rest v e = full_by (place_at uses) (plain_at uses) (rows_for uses) (wanted_from (wanted_at uses) rest.flags) word rest.plain (found_at uses v) e

more_by : (place : Place) (uses : List Use) (word : Text) (rest : Sorted) → is_full place ≡ false → said_in (wanted_at uses) rest.flags (plain_at uses ++ word ∷ rest.plain) ≡ said_behind (plainly_at place word uses) rest
more_by First uses word rest e = ap (said_in (wanted_at uses) rest.flags) (sym (append_assoc (plain_at uses) (word ∷ []) rest.plain))
more_by Second uses word rest e = ap (said_in (wanted_at uses) rest.flags) (sym (append_assoc (plain_at uses) (word ∷ []) rest.plain))
more_by Full uses word rest e = absurd (cc)

plain_more : (uses : List Use) (word : Text) (rest : Sorted) → is_full (place_at uses) ≡ false → said_in (wanted_at uses) rest.flags (plain_at uses ++ word ∷ rest.plain) ≡ said_behind (plainly uses word) rest
plain_more uses word rest e = more_by (place_at uses) uses word rest e

-- a flag, for the first time and again
flag_more : (mark : Mark) (uses : List Use) (flags plain : List Text) → has_mark mark uses ≡ false → said_in (wanted_at uses) (mark_word mark ∷ flags) plain ≡ said_in (wanted_at (Flag mark ∷ uses)) flags plain
flag_more History uses flags plain e = rw e refl
flag_more Printer uses flags plain e = rw e refl

second_none : (mark : Mark) (uses : List Use) (flags plain : List Text) → has_mark mark uses ≡ true → said_in (wanted_at uses) (mark_word mark ∷ flags) plain ≡ None
second_none History uses flags plain e = rw e refl
second_none Printer uses flags plain e = rw e refl

stray_none : (wanted : Wanted) (word : Text) (flags plain : List Text) → bytes_eq word (codes "--history") ≡ false → bytes_eq word (codes "--printer") ≡ false → said_in wanted (word ∷ flags) plain ≡ None
stray_none wanted word flags plain e f = rw (e, f) refl

nothing_more : (trailing : Bool) (uses : List Use) → said_behind uses (sorted_from trailing []) ≡ said_at uses
nothing_more true uses = refl
nothing_more false uses = refl

-- ALL WORDS

plainly_valid : (place : Place) (uses : List Use) (word : Text) → place_at uses ≡ place → AreValid uses → AreValid (plainly_at place word uses)
plainly_valid First uses word e v = (e, v)
plainly_valid Second uses word e v = (e, v)
plainly_valid Full uses word e v = v

-- from the end of flags on
trailing_goes : (uses : List Use) (words : List Text) → AreValid uses → Goes true uses words
unfolding Rattle.clap.specs.Faults.walk_fault
trailing_goes uses [] v = inl (record { ended = true; last = uses; valid = v; passes = refl; walk_is = refl; says = nothing_more true uses })
trailing_goes uses (word ∷ words) v = go (either (is_full (place_at uses))) (trailing_goes (plainly uses word) words (plainly_valid (place_at uses) uses word refl v))
  where
    go : ((is_full (place_at uses) ≡ true) ⊎ (is_full (place_at uses) ≡ false)) → Goes true (plainly uses word) words → Goes true uses (word ∷ words)
    go (inl full) rest = stops true uses word words kind.UnknownArgument (trailing_full uses word full) (full_none uses word (record { flags = []; plain = words }) v full)
    go (inr room) rest = more true true uses (plainly uses word) word words (trailing_passes uses word v room) (trailing_step uses word v room) (plain_more uses word (record { flags = []; plain = words }) room) rest

pub goes : (uses : List Use) (words : List Text) → AreValid uses → AllByRecursion IsUtf8 words → Goes false uses words
unfolding Rattle.clap.specs.Faults.walk_fault
goes uses [] v u = inl (record { ended = false; last = uses; valid = v; passes = refl; walk_is = refl; says = nothing_more false uses })
goes uses (word ∷ words) v u = goes_on (sort word u.0) (λ later valid. goes later words valid u.1)
  where
    says_of : List Text → List Text → Option Said
    says_of flags plain = said_in (wanted_at uses) flags (plain_at uses ++ plain)

    Later : Type 0
    Later = (later : List Use) → AreValid later → Goes false later words

    plainly_goes : IsPlain word → said_behind uses (sorted (word ∷ words)) ≡ says_of (sorted words).flags (word ∷ (sorted words).plain) → ((is_full (place_at uses) ≡ true) ⊎ (is_full (place_at uses) ≡ false)) → Later → Goes false uses (word ∷ words)
    plainly_goes p sorts (inl full) later = stops false uses word words kind.UnknownArgument (plain_full uses word p full) (sorts ∙ full_none uses word (sorted words) v full)
    plainly_goes p sorts (inr room) later =
        more false false uses (plainly uses word) word words (plain_passes uses word p v room) (plain_step uses word p v room) (sorts ∙ plain_more uses word (sorted words) room) (later (plainly uses word) (plainly_valid (place_at uses) uses word refl v))

    sorts_mark : (mark : Mark) → said_behind uses (sorted (mark_word mark ∷ words)) ≡ says_of (mark_word mark ∷ (sorted words).flags) (sorted words).plain
    sorts_mark History = refl
    sorts_mark Printer = refl

    flagged_goes : (mark : Mark) → ((has_mark mark uses ≡ true) ⊎ (has_mark mark uses ≡ false)) → Later → Goes false uses (mark_word mark ∷ words)
    flagged_goes mark (inl again) later =
        stops false uses (mark_word mark) words kind.ArgumentConflict (flag_again mark uses v again) (sorts_mark mark ∙ second_none mark uses (sorted words).flags (plain_at uses ++ (sorted words).plain) again)
    flagged_goes mark (inr once) later =
        more false false uses (Flag mark ∷ uses) (mark_word mark) words (flag_passes mark uses v once) (flag_step mark uses v once) (sorts_mark mark ∙ flag_more mark uses (sorted words).flags (plain_at uses ++ (sorted words).plain) once) (later (Flag mark ∷ uses) (once, v))

    goes_on : Sort word → Later → Goes false uses (word ∷ words)
    goes_on (AnEnd e) later = subst (λ w. Goes false uses (w ∷ words)) (sym e) (more false true uses uses (codes "--") words (end_passes uses) (end_step uses) refl (trailing_goes uses words v))
    goes_on (AWord w) later = plainly_goes w.plain (rw (w.plain.ends_none, w.no_flag) refl) (either (is_full (place_at uses))) later
    goes_on (AMark mark e) later = subst (λ w. Goes false uses (w ∷ words)) (sym e) (flagged_goes mark (either (has_mark mark uses)) later)
    goes_on (Stray s) later =
        let sorts : said_behind uses (sorted (word ∷ words)) ≡ says_of (word ∷ (sorted words).flags) (sorted words).plain = rw (s.ends_none, s.flag) refl in
        stops false uses word words s.refused (s.fault uses) (sorts ∙ stray_none (wanted_at uses) word (sorted words).flags (plain_at uses ++ (sorted words).plain) s.no_history s.no_printer)

-- THE END OF THE WALK

abbrev app : App
app = built command_app

abbrev closing : Walk → Kinds
closing w = or_else (entered_fault app w.stopped) (or_else (settle_fault shape.rules false w.held) (or_else (defaults_fault (settled shape.rules w.held).rows shape.rules) (check_fault shape (finished shape.rules w.held) (is_some (entered app w.stopped)))))

fault_parts : (words : List Text) → fault_of command_app words ≡ or_else (walk_fault shape [] (walk_at false []) words) (closing (fold (walked shape.rules []) (walk_at false []) words))
fault_parts words = refl

-- from the result for the pending word, and from the table entries after it and at the end
abbrev closing_by : Kinds → List Row → List Row → Kinds
closing_by settling rows last = or_else settling (or_else (defaults_fault rows shape.rules) (check_fault shape last false))

action_passes : (rows : List Row) → default_fault rows (with_index 1 (filled action_rule)) ≡ []
action_passes rows = elim (has_row (codes "action") rows) as (λ has. (if has || true then [] else given_default_fault (with_index 1 (filled action_rule)) []) ≡ []) [ true ↦ refl | false ↦ refl ]

count_passes : (rows : List Row) → default_fault rows (with_index 2 (filled count_rule)) ≡ []
count_passes rows = elim (has_row (codes "count") rows) as (λ has. (if has || true then [] else given_default_fault (with_index 2 (filled count_rule)) []) ≡ []) [ true ↦ refl | false ↦ refl ]

flag_default_passes : (mark : Mark) (rows : List Row) → default_fault rows (filled (mark_rule mark)) ≡ []
unfolding clap_on_literals
flag_default_passes History rows = elim (has_row (codes "history") rows) as (λ has. (if has || false then [] else given_default_fault (filled history_rule) (codes "false" ∷ [])) ≡ []) [ true ↦ refl | false ↦ refl ]
flag_default_passes Printer rows = elim (has_row (codes "printer") rows) as (λ has. (if has || false then [] else given_default_fault (filled printer_rule) (codes "false" ∷ [])) ≡ []) [ true ↦ refl | false ↦ refl ]

default_passes : (rows : List Row) → defaults_fault rows shape.rules ≡ []
unfolding Rattle.clap.specs.Faults.defaults_fault
default_passes rows =
    let one = with_default rows (with_index 1 (filled action_rule)) in
    let two = with_default one (with_index 2 (filled count_rule)) in
    let three = with_default two (filled history_rule) in
    ap (λ k. or_else k (defaults_fault one (with_index 2 (filled count_rule) ∷ filled history_rule ∷ filled printer_rule ∷ []))) (action_passes rows)
    ∙ ap (λ k. or_else k (defaults_fault two (filled history_rule ∷ filled printer_rule ∷ []))) (count_passes one)
    ∙ ap (λ k. or_else k (defaults_fault three (filled printer_rule ∷ []))) (flag_default_passes History two)
    ∙ ap (λ k. or_else k []) (flag_default_passes Printer three)

abbrev is_begun : Place → Bool
is_begun First = false
is_begun place = true

abbrev missing_unless : Bool → Kinds
missing_unless true = []
missing_unless false = kind.MissingRequiredArgument ∷ []

given_by : (place : Place) (words : List Text) (rows : List Row) → FoundWords place words rows → is_given (codes "action") rows ≡ is_begun place
given_by First words rows found = ap (λ row. option_map_or (λ (r : Row). explicit_source r.source) row false) found.1
given_by Second words rows found = ap (λ row. option_map_or (λ (r : Row). explicit_source r.source) row false) found.2
given_by Full words rows found = ap (λ row. option_map_or (λ (r : Row). explicit_source r.source) row false) found.3

checked : (rows : List Row) (given : Bool) → is_given (codes "action") rows ≡ given → check_fault shape rows false ≡ missing_unless given
checked rows true e = rw e refl
checked rows false e = rw e refl

closing_is : (trailing : Bool) (uses : List Use) → AreValid uses → closing (walk_at trailing uses) ≡ missing_unless (is_begun (place_at uses))
closing_is trailing uses v =
    ap (λ settling. closing_by settling (settled shape.rules (held_at uses)).rows (rows_at uses)) (settle_passes uses v)
    ∙ ap (λ faults. or_else faults (check_fault shape (rows_at uses) false)) (default_passes (settled shape.rules (held_at uses)).rows)
    ∙ checked (rows_at uses) (is_begun (place_at uses)) (given_by (place_at uses) (plain_at uses) (rows_at uses) (words_at uses v))

none_by : (place : Place) (words : List Text) (rows : List Row) (wanted : Wanted) → FoundWords place words rows → is_begun place ≡ false → said_with (words ++ []) wanted ≡ None
none_by First words rows wanted found e = ap (λ words. said_with (words ++ []) wanted) found.0
none_by Second words rows wanted found e = absurd (cc)
none_by Full words rows wanted found e = absurd (cc)

-- the words are rejected, and say nothing, or are taken, and say what was found
pub record Refused (words : List Text) : Type 0 where
  pub refused : ErrorKind
  pub fault : fault_of command_app words ≡ refused ∷ []
  pub says : said words ≡ None

pub record Taken (words : List Text) : Type 0 where
  pub uses : List Use
  pub valid : AreValid uses
  pub fault : fault_of command_app words ≡ []
  pub rows : matches_of command_app words ≡ rows_at uses
  pub says : said words ≡ said_at uses

pub parsed : (words : List Text) → AllByRecursion IsUtf8 words → Refused words ⊎ Taken words
parsed words u = go (goes [] words tt u)
  where
    end : (e : Ends false [] words) → ((is_begun (place_at e.last) ≡ true) ⊎ (is_begun (place_at e.last) ≡ false)) → Refused words ⊎ Taken words
    end e (inl begun) = inr (record {
      uses = e.last;
      valid = e.valid;
      fault = fault_parts words ∙ ap₂ or_else e.passes (ap closing e.walk_is ∙ closing_is e.ended e.last e.valid ∙ ap missing_unless begun);
      rows = ap (λ (w : Walk). finished shape.rules w.held) e.walk_is;
      says = e.says;
    })
    end e (inr none) = inl (record {
      refused = kind.MissingRequiredArgument;
      fault = fault_parts words ∙ ap₂ or_else e.passes (ap closing e.walk_is ∙ closing_is e.ended e.last e.valid ∙ ap missing_unless none);
      says = e.says ∙ none_by (place_at e.last) (plain_at e.last) (rows_at e.last) (wanted_at e.last) (words_at e.last e.valid) none;
    })

    go : Goes false [] words → Refused words ⊎ Taken words
    go (inl e) = end e (either (is_begun (place_at e.last)))
    go (inr f) = inl (record {
      refused = f.refused;
      fault = fault_parts words ∙ ap (λ k. or_else k (closing (fold (walked shape.rules []) (walk_at false []) words))) f.fault;
      says = f.says;
    })

-- FOR THE CALL

module _ {Z : Type 0} where
  pub all_utf8 : (words : List (String Z)) → AllByRecursion IsUtf8 (map string_bytes words)
  all_utf8 [] = tt
  all_utf8 (word ∷ words) = (IsUtf8-string_bytes word, all_utf8 words)

pub simple : is_simple command_app ≡ true
unfolding clap_on_literals
simple = refl

pub simple_and_free : is_simple_and_free command_app ≡ true
unfolding clap_on_literals
simple_and_free = refl

-- the command rejects the words
pub refused_says : (words : List Text) (e : Error) → AllByRecursion IsUtf8 words → HasKind (fault_of command_app words) e → (kind_of e ≡ kind.OutOfMemory → ⊥) → None ≡ said words
refused_says words e u has other = go (parsed words u)
  where
    none_left : HasKind [] e → ⊥
    none_left (inl memory) = other memory
    none_left (inr among) = among

    go : Refused words ⊎ Taken words → None ≡ said words
    go (inl refused) = sym refused.says
    go (inr taken) = absurd (none_left (subst (λ kinds. HasKind kinds e) taken.fault has))

no_fault : (words : List Text) → AllByRecursion IsUtf8 words → fault_of command_app words ≡ [] → Taken words
no_fault words u none = go (parsed words u)
  where
    go : Refused words ⊎ Taken words → Taken words
    go (inl refused) = let bad : [] ≡ refused.refused ∷ [] = sym none ∙ refused.fault in absurd (cc)
    go (inr taken) = taken

pub taken_says : (words : List Text) (rows : List Row) → AllByRecursion IsUtf8 words → fault_of command_app words ≡ [] → rows ≡ matches_of command_app words → read rows ≡ said words
taken_says words rows u none is =
    let taken = no_fault words u none in
    ap read (is ∙ taken.rows) ∙ read_at taken.uses taken.valid ∙ sym taken.says

pub flag_is : (mark : Mark) (words : List Text) (rows : List Row) (flag : Bool) → AllByRecursion IsUtf8 words → fault_of command_app words ≡ [] → rows ≡ matches_of command_app words
    → (one_of (mark_id mark) rows ≡ Some (codes "true") → flag ≡ true) → (one_of (mark_id mark) rows ≡ Some (codes "false") → flag ≡ false) → is_true (one_of (mark_id mark) rows) ≡ flag
flag_is mark words rows flag u none is set unset = go (has_mark mark taken.uses) (ap (one_of (mark_id mark)) (is ∙ taken.rows) ∙ flag_at mark taken.uses taken.valid)
  where
    taken : Taken words
    taken = no_fault words u none

    go : (has : Bool) → one_of (mark_id mark) rows ≡ Some (truth_text has) → is_true (one_of (mark_id mark) rows) ≡ flag
    go true e = ap is_true e ∙ sym (set e)
    go false e = ap is_true e ∙ sym (unset e)

pub read_is : (rows : List Row) (action : Text) (count : Option Text) (wanted : Wanted) → first_of (codes "action") rows ≡ Some action → first_of (codes "count") rows ≡ count → is_true (one_of (codes "history") rows) ≡ wanted.history → is_true (one_of (codes "printer") rows) ≡ wanted.printer
    → read rows ≡ Some (record { action = action; count = count; wanted = wanted })
read_is rows action count wanted a b c d =
    λ i. option_map (λ action. record { action = action; count = b i; wanted = record { history = c i; printer = d i } }) (a i)

pub read_none : (rows : List Row) → first_of (codes "action") rows ≡ None → read rows ≡ None
read_none rows e = ap (option_map (λ action. record { action = action; count = first_of (codes "count") rows; wanted = wanted_in rows })) e

pub refused_then : {E : Type 0} (words : List Text) (k : ErrorKind) (r : Result (Option code.Said) E) → IfOk r (λ told. told ≡ None) → IfOk r (λ told. k ≡ kind.OutOfMemory → ⊥) → ((k ≡ kind.OutOfMemory → ⊥) → None ≡ said words) → IfOk r (λ told. said_option told ≡ said words)
refused_then words k (Ok told) none other says = ap said_option none ∙ says other
refused_then words k (Err e) none other says = tt

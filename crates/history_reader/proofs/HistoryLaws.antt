-- Histories and the lines of a text.
use Rattle.std.proofs.Common.{◌≡◌, ℕ, zero, suc, ◌+◌, ◌-◌, ◌<◌, ◌≤◌, ◌^◌, Bool, true, false, List, [], ◌∷◌, ◌++◌, length, map, replicate, Some, Err, refl, sym, ap, subst, ◌∙◌, append_assoc, arith, ◌⊎◌, inl, inr, ltb}
use Rattle.std.specs.Prelude.{◌||◌, bytes_eq, codes}
use Rattle.std.specs.Cmp.Lexicographic.{bytes_decides}
use Rattle.std.specs.List.{AllByRecursion}
use Rattle.std.proofs.lemmas.Bool.{ltb-true, ltb-false}
use Rattle.std.proofs.lemmas.List.{append-nil, length-append, length-replicate}
use Rattle.monitor_calls.specs.declared.calls.Entry.{Entry}
use Rattle.monitor_calls.specs.declared.calls.Request.TheVariants.{Logout}
use Rattle.monitor_calls.specs.declared.calls.Reply.TheVariants.{Done}
use Rattle.monitor_calls.specs.Proper.{IsProperEntry, Proper}
use Rattle.deck_model.specs.Histories.{entry_line, entry_lines, count_text, history_text, IsHistoryText}
use Rattle.basic_values.proofs.CutLaws.{Lacks}
use Rattle.history_reader.specs.Counts.{is_star, Counts, Allows}
use Rattle.history_reader.specs.EndedLines.{ended_lines, with_feeds, first_ended}
use Rattle.history_reader.specs.HistoryReading.{TellsHistory, BeginsHistory, WrongAt, ReadsHistory}
use Rattle.history_reader.specs.declared.failures.LineError.{LineError}
use Rattle.history_reader.specs.declared.failures.LineError.TheVariants.{Wrong, Memory}
use Rattle.history_reader.specs.LineErrors.{trouble_at_line}
use Rattle.history_reader.specs.ReadingLaw.{HistoryIsOne, WrongPlaceIsOne}
use Rattle.history_reader.specs.LineForms.{entry_read}
use Rattle.history_reader.specs.SoFar.{heading_text, NoHeading, NoEntry, SoFar, TakesEntry}
use Rattle.deck_model.proofs.CountTexts.{count_one}
use Rattle.history_reader.proofs.CountLaws.{counts_lack, no_star, met_if, if_met, one_allowed}
use Rattle.history_reader.proofs.EndedLaws.{one_line, first_line, ended_front, front_is, next_is, fewer_first}
use Rattle.history_reader.proofs.FormLaws.{line_of, line_lacks, line_feed, entry_again}

-- ---- entries at the start of a text

-- an entry's line is its words and a LF, whatever comes after it
pub line_then : (e : Entry) (more : List ℕ) → entry_line e ++ more ≡ line_of e ++ 10 ∷ more
line_then e more = ap (λ (t : List ℕ). t ++ more) (line_feed e) ∙ append_assoc (line_of e) (10 ∷ []) more

some_byte : (xs ys : List ℕ) (b : ℕ) → [] ≡ xs ++ b ∷ ys → ⊥
some_byte [] ys b e = cc
some_byte (x ∷ xs) ys b e = cc

pub no_line : (e : Entry) (more : List ℕ) → [] ≡ entry_line e ++ more → ⊥
no_line e more none = some_byte (line_of e) more 10 (none ∙ line_then e more)

lines_both : (xs ys : List Entry) → entry_lines (xs ++ ys) ≡ entry_lines xs ++ entry_lines ys
lines_both [] ys = refl
lines_both (e ∷ xs) ys =
    ap (λ (t : List ℕ). entry_line e ++ t) (lines_both xs ys) ∙ sym (append_assoc (entry_line e) (entry_lines xs) (entry_lines ys))

pub proper_both : (xs ys : List Entry) → Proper xs → Proper ys → Proper (xs ++ ys)
proper_both [] ys l r = r
proper_both (e ∷ xs) ys l r = (l.0, proper_both xs ys l.1 r)

-- what is left of the entries of a text after as many as these
record Left (es hs : List Entry) (rest : List ℕ) : Type 0 where
  entries : List Entry
  proper : Proper entries
  count : length hs ≡ length es + length entries
  lines : entry_lines entries ≡ rest

left_of : (es hs : List Entry) (rest : List ℕ) → Proper es → Proper hs → entry_lines hs ≡ entry_lines es ++ rest → Left es hs rest
left_of [] hs rest pe ph same = record { entries = hs; proper = ph; count = omega arith; lines = same }
left_of (e ∷ es) [] rest pe ph same = absurd (no_line e (entry_lines es ++ rest) (same ∙ append_assoc (entry_line e) (entry_lines es) rest))
left_of (e ∷ es) (h ∷ hs) rest pe ph same =
    let both = sym (line_then h (entry_lines hs)) ∙ same ∙ append_assoc (entry_line e) (entry_lines es) rest ∙ line_then e (entry_lines es ++ rest) in
    let parts = one_line (line_of h) (line_of e) (entry_lines hs) (entry_lines es ++ rest) (line_lacks h ph.0) (line_lacks e pe.0) both in
    let left = left_of es hs rest pe.1 ph.1 parts.1 in
    record { entries = left.entries; proper = left.proper; count = omega (arith, left.count); lines = left.lines }

same_line : (a b : Entry) → IsProperEntry a → IsProperEntry b → line_of a ≡ line_of b → a ≡ b
same_line a b pa pb same =
    let both : Some a ≡ Some b = sym (entry_again a pa) ∙ ap entry_read same ∙ entry_again b pb in
    cc

same_entries : (xs ys : List Entry) → Proper xs → Proper ys → entry_lines xs ≡ entry_lines ys → xs ≡ ys
same_entries [] [] pa pb same = refl
same_entries [] (b ∷ ys) pa pb same = absurd (no_line b (entry_lines ys) same)
same_entries (a ∷ xs) [] pa pb same = absurd (no_line a (entry_lines xs) (sym same))
same_entries (a ∷ xs) (b ∷ ys) pa pb same =
    let parts = one_line (line_of a) (line_of b) (entry_lines xs) (entry_lines ys) (line_lacks a pa.0) (line_lacks b pb.0) (sym (line_then a (entry_lines xs)) ∙ same ∙ line_then b (entry_lines ys)) in
    let first : a ≡ b = same_line a b pa.0 pb.0 parts.0 in
    let others : xs ≡ ys = same_entries xs ys pa.1 pb.1 parts.1 in
    λ i. first i ∷ others i

-- ---- the heading

pub heading_lacks : (count : List ℕ) → Lacks 10 count → Lacks 10 (heading_text count)
heading_lacks count lacks = (refl, (refl, (refl, (refl, (refl, (refl, (refl, (refl, lacks))))))))

pub same_count : (a b : List ℕ) → heading_text a ≡ heading_text b → a ≡ b
same_count a b e = cc

pub history_shape : (h : List Entry) → history_text h ≡ heading_text (count_text (length h)) ++ 10 ∷ entry_lines h
history_shape h = append_assoc (heading_text (count_text (length h))) (10 ∷ []) (entry_lines h)

-- the text of a history is a first line with its count, and its entries
record Shaped (text : List ℕ) (h : List Entry) : Type 0 where
  count : List ℕ
  counts : Counts count (length h)
  text_is : text ≡ heading_text count ++ 10 ∷ entry_lines h

shaped : (text : List ℕ) (h : List Entry) → IsHistoryText text h → Shaped text h
shaped text h (inl e) = record { count = count_text (length h); counts = inl refl; text_is = e ∙ history_shape h }
shaped text h (inr e) = record { count = codes "*"; counts = inr refl; text_is = e }

shaped_again : (text count : List ℕ) (h : List Entry) → Counts count (length h) → text ≡ heading_text count ++ 10 ∷ entry_lines h → IsHistoryText text h
shaped_again text count h (inl shown) e = inl (e ∙ ap (λ (c : List ℕ). heading_text c ++ 10 ∷ entry_lines h) shown ∙ sym (history_shape h))
shaped_again text count h (inr star) e = inr (e ∙ ap (λ (c : List ℕ). heading_text c ++ 10 ∷ entry_lines h) star)

-- a history's text after the heading of a count
headed : (h : List Entry) (text count rest : List ℕ) → Lacks 10 count → IsHistoryText text h → text ≡ heading_text count ++ 10 ∷ rest → Counts count (length h) × (entry_lines h ≡ rest)
headed h text count rest lacks is same =
    let s = shaped text h is in
    let parts = one_line (heading_text s.count) (heading_text count) (entry_lines h) rest (heading_lacks s.count (counts_lack s.count (length h) s.counts)) (heading_lacks count lacks) (sym s.text_is ∙ same) in
    (subst (λ (c : List ℕ). Counts c (length h)) (same_count s.count count parts.0) s.counts, parts.1)

pub history_is_one : HistoryIsOne
history_is_one text a b ta tb =
    let s = shaped text b tb.is_text in
    let same = headed a text s.count (entry_lines b) (counts_lack s.count (length b) s.counts) ta.is_text s.text_is in
    same_entries a b ta.proper tb.proper same.1

-- ---- the place at which a text goes wrong

later : (text : List ℕ) (m n : ℕ) → m < n → WrongAt text m → WrongAt text n → ⊥
later text m n less wm wn =
    let fewer = fewer_first (suc m) n (ended_lines text) (omega arith) in
    let begins = wn.begins in
    wm.longest (omega (arith, wn.few)) (record {
      history = begins.history;
      proper = begins.proper;
      whole = begins.whole;
      is_text = begins.is_text;
      more = fewer.0 ++ begins.more;
      text_is = begins.text_is ∙ ap (λ (t : List ℕ). t ++ begins.more) fewer.1 ∙ append_assoc (first_ended (suc m) text) fewer.0 begins.more;
    })

pub wrong_place_is_one : WrongPlaceIsOne
wrong_place_is_one text m n wm wn = go (ltb m n) (ltb n m) refl refl
  where
    go : (a b : Bool) → ltb m n ≡ a → ltb n m ≡ b → m ≡ n
    go true b ea eb = absurd (later text m n (ltb-true m n ea) wm wn)
    go false true ea eb = absurd (later text n m (ltb-true n m eb) wn wm)
    go false false ea eb = let l = ltb-false m n ea in let r = ltb-false n m eb in omega arith

-- the text does not begin with a heading
pub wrong_heading : (text : List ℕ) → NoHeading text → WrongAt text 0
wrong_heading text bad = record {
  none = λ h told. let s = shaped text h told.is_text in bad s.count (length h) (entry_lines h) s.counts s.text_is;
  few = omega arith;
  begins = record { history = []; proper = tt; whole = history_text []; is_text = inl refl; more = history_text []; text_is = refl };
  longest = λ some begins. first (ended_lines text) refl some begins;
}
  where
    first : (lines : List (List ℕ)) → ended_lines text ≡ lines → 0 < length (ended_lines text) → BeginsHistory (first_ended 1 text) → ⊥
    first [] e some begins = let none : length (ended_lines text) ≡ 0 = ap length e in omega arith
    first (line ∷ lines) e some begins =
        let f = first_line text line lines e in
        let front : first_ended 1 text ≡ line ++ 10 ∷ [] = next_is text [] (ended_lines text) refl line lines e in
        let same : begins.whole ≡ line ++ 10 ∷ begins.more = begins.text_is ∙ ap (λ (t : List ℕ). t ++ begins.more) front ∙ append_assoc line (10 ∷ []) begins.more in
        let s = shaped begins.whole begins.history begins.is_text in
        let parts = one_line (heading_text s.count) line (entry_lines begins.history) begins.more (heading_lacks s.count (counts_lack s.count (length begins.history) s.counts)) f.2 (sym s.text_is ∙ same) in
        bad s.count (length begins.history) f.0 s.counts (f.1 ∙ ap (λ (t : List ℕ). t ++ 10 ∷ f.0) (sym parts.0))

-- ---- after some entries

abbrev so_far_lines : List ℕ → List Entry → List (List ℕ)
so_far_lines count entries = heading_text count ∷ map line_of entries

lines_lack : (entries : List Entry) → Proper entries → AllByRecursion (Lacks 10) (map line_of entries)
lines_lack [] proper = tt
lines_lack (e ∷ entries) proper = (line_lacks e proper.0, lines_lack entries proper.1)

with_feeds-lines : (entries : List Entry) → with_feeds (map line_of entries) ≡ entry_lines entries
with_feeds-lines [] = refl
with_feeds-lines (e ∷ entries) = λ i. sym (line_feed e) i ++ with_feeds-lines entries i

length-lines : (entries : List Entry) → length (map line_of entries) ≡ length entries
length-lines [] = refl
length-lines (e ∷ entries) = omega (arith, length-lines entries)

filler : Entry
filler = record { job = 0; request = Logout; reply = Done }

fillers_proper : (n : ℕ) → Proper (replicate n filler)
unfolding filler
fillers_proper zero = tt
fillers_proper (suc n) = ((omega arith, (tt, tt)), fillers_proper n)

module _ (text count : List ℕ) (entries : List Entry) (rest : List ℕ) (so_far : SoFar text count entries rest) where
  count_lacks : Lacks 10 count
  count_lacks = counts_lack count so_far.allows.0 so_far.allows.2

  front_text : with_feeds (so_far_lines count entries) ≡ (heading_text count ++ 10 ∷ []) ++ entry_lines entries
  front_text = ap (λ (t : List ℕ). (heading_text count ++ 10 ∷ []) ++ t) (with_feeds-lines entries)

  whole_text : text ≡ with_feeds (so_far_lines count entries) ++ rest
  whole_text =
      so_far.text_is ∙ sym (append_assoc (heading_text count) (10 ∷ []) (entry_lines entries ++ rest)) ∙ sym (append_assoc (heading_text count ++ 10 ∷ []) (entry_lines entries) rest)
      ∙ ap (λ (t : List ℕ). t ++ rest) (sym front_text)

  ended : ended_lines text ≡ so_far_lines count entries ++ ended_lines rest
  ended = ap ended_lines whole_text ∙ ended_front (so_far_lines count entries) rest (heading_lacks count count_lacks, lines_lack entries so_far.proper)

  -- a history that goes on after the entries
  left_behind : (h : List Entry) (whole more : List ℕ) → Proper h → IsHistoryText whole h → whole ≡ with_feeds (so_far_lines count entries) ++ more → Counts count (length h) × Left entries h more
  left_behind h whole more proper is same =
      let regroup : with_feeds (so_far_lines count entries) ++ more ≡ heading_text count ++ 10 ∷ (entry_lines entries ++ more) =
      ap (λ (t : List ℕ). t ++ more) front_text ∙ append_assoc (heading_text count ++ 10 ∷ []) (entry_lines entries) more ∙ append_assoc (heading_text count) (10 ∷ []) (entry_lines entries ++ more) in
      let parts = headed h whole count (entry_lines entries ++ more) count_lacks is (same ∙ regroup) in
      (parts.0, left_of entries h more so_far.proper proper parts.1)

  abbrev Stuck : Type 0
  Stuck = (count ≡ count_text (length entries)) ⊎ NoEntry rest

  -- no entry comes next, although a history goes on
  blocked : Stuck → (h : List Entry) (more : List ℕ) (e : Entry) (others : List Entry) → Counts count (length h) → length h ≡ length entries + suc (length others) → IsProperEntry e → rest ≡ entry_line e ++ more → ⊥
  blocked (inl full) h more e others (inl shown) counted proper same =
      let one : length h ≡ length entries = count_one (length h) (length entries) (sym shown ∙ full) in
      omega arith
  blocked (inl full) h more e others (inr star) counted proper same = no_star (length entries) (sym full ∙ star)
  blocked (inr none) h more e others counts counted proper same = none e more proper same

  no_history : Stuck → (rest ≡ [] → Counts count (length entries) → ⊥) → (h : List Entry) → TellsHistory text h → ⊥
  no_history stuck unended h told =
      let behind = left_behind h text rest told.proper told.is_text whole_text in
      go behind.1.entries behind.1.proper behind.1.count behind.1.lines behind.0
    where
      go : (left : List Entry) → Proper left → length h ≡ length entries + length left → entry_lines left ≡ rest → Counts count (length h) → ⊥
      go [] proper counted lines shown =
          let all : length h ≡ length entries = omega arith in
          unended (sym lines) (subst (Counts count) all shown)
      go (e ∷ others) proper counted lines shown = blocked stuck h (entry_lines others) e others shown counted proper.0 (sym lines)

  no_longer : Stuck → suc (length entries) < length (ended_lines text) → BeginsHistory (first_ended (suc (suc (length entries))) text) → ⊥
  no_longer stuck some begins = go (ended_lines rest) refl
    where
      counted : length (ended_lines text) ≡ suc (length entries) + length (ended_lines rest)
      counted = ap length ended ∙ omega (arith, length-append (so_far_lines count entries) (ended_lines rest), length-lines entries)

      next : (line : List ℕ) (lines : List (List ℕ)) → ended_lines rest ≡ line ∷ lines → (left : List Entry) → Proper left → length begins.history ≡ length entries + length left → entry_lines left ≡ line ++ 10 ∷ begins.more → Counts count (length begins.history) → ⊥
      next line lines e [] proper counted same shown = some_byte line begins.more 10 same
      next line lines e (first ∷ others) proper counted same shown =
          let f = first_line rest line lines e in
          let parts = one_line (line_of first) line (entry_lines others) begins.more (line_lacks first proper.0) f.2 (sym (line_then first (entry_lines others)) ∙ same) in
          blocked stuck begins.history f.0 first others shown counted proper.0 (f.1 ∙ ap (λ (t : List ℕ). t ++ 10 ∷ f.0) (sym parts.0) ∙ sym (line_then first f.0))

      go : (lines : List (List ℕ)) → ended_lines rest ≡ lines → ⊥
      go [] e = let none : length (ended_lines rest) ≡ 0 = ap length e in omega (arith, counted)
      go (line ∷ lines) e =
          let many : length (so_far_lines count entries) ≡ suc (length entries) = omega (arith, length-lines entries) in
          let front : first_ended (suc (suc (length entries))) text ≡ with_feeds (so_far_lines count entries) ++ (line ++ 10 ∷ []) =
          ap (λ (n : ℕ). first_ended (suc n) text) (sym many) ∙ next_is text (so_far_lines count entries) (ended_lines rest) ended line lines e in
          let same : begins.whole ≡ with_feeds (so_far_lines count entries) ++ (line ++ 10 ∷ begins.more) =
          begins.text_is ∙ ap (λ (t : List ℕ). t ++ begins.more) front ∙ append_assoc (with_feeds (so_far_lines count entries)) (line ++ 10 ∷ []) begins.more
          ∙ ap (λ (t : List ℕ). with_feeds (so_far_lines count entries) ++ t) (append_assoc line (10 ∷ []) begins.more) in
          let behind = left_behind begins.history begins.whole (line ++ 10 ∷ begins.more) begins.proper begins.is_text same in
          next line lines e behind.1.entries behind.1.proper behind.1.count behind.1.lines behind.0

  goes_on : BeginsHistory (first_ended (suc (length entries)) text)
  goes_on =
      let m : ℕ = so_far.allows.0 in
      let most : length entries ≤ m = so_far.allows.1 in
      let whole : List Entry = entries ++ replicate (m - length entries) filler in
      let many : length (so_far_lines count entries) ≡ suc (length entries) = omega (arith, length-lines entries) in
      let all : length whole ≡ m = omega (arith, length-append entries (replicate (m - length entries) filler), length-replicate (m - length entries) filler) in
      let fill : List ℕ = entry_lines (replicate (m - length entries) filler) in
      let front : first_ended (suc (length entries)) text ≡ (heading_text count ++ 10 ∷ []) ++ entry_lines entries =
      ap (λ (n : ℕ). first_ended n text) (sym many) ∙ front_is text (so_far_lines count entries) (ended_lines rest) ended ∙ front_text in
      record {
        history = whole;
        proper = proper_both entries (replicate (m - length entries) filler) so_far.proper (fillers_proper (m - length entries));
        whole = heading_text count ++ 10 ∷ entry_lines whole;
        is_text = shaped_again (heading_text count ++ 10 ∷ entry_lines whole) count whole (subst (Counts count) (sym all) so_far.allows.2) refl;
        more = fill;
        text_is = ap (λ (t : List ℕ). heading_text count ++ 10 ∷ t) (lines_both entries (replicate (m - length entries) filler))
            ∙ sym (append_assoc (heading_text count) (10 ∷ []) (entry_lines entries ++ fill)) ∙ sym (append_assoc (heading_text count ++ 10 ∷ []) (entry_lines entries) fill)
            ∙ ap (λ (t : List ℕ). t ++ fill) (sym front);
      }

  pub wrong_here : (count ≡ count_text (length entries)) ⊎ NoEntry rest → (rest ≡ [] → Counts count (length entries) → ⊥) → WrongAt text (suc (length entries))
  wrong_here stuck unended = record {
    none = no_history stuck unended;
    few = omega (arith, ap length ended, length-append (so_far_lines count entries) (ended_lines rest), length-lines entries);
    begins = goes_on;
    longest = no_longer stuck;
  }

  pub whole_here : rest ≡ [] → Counts count (length entries) → TellsHistory text entries
  whole_here none counts = record {
    proper = so_far.proper;
    is_text = shaped_again text count entries counts (so_far.text_is ∙ ap (λ (t : List ℕ). heading_text count ++ 10 ∷ (entry_lines entries ++ t)) none ∙ ap (λ (t : List ℕ). heading_text count ++ 10 ∷ t) (append-nil (entry_lines entries)));
  }

  pub one_more : (e : Entry) (after : List ℕ) → (count ≡ count_text (length entries) → ⊥) → IsProperEntry e → rest ≡ entry_line e ++ after → SoFar text count (entries ++ e ∷ []) after
  one_more e after unmet proper same = record {
    allows = let one : suc (length entries) ≡ length (entries ++ e ∷ []) = omega (arith, length-append entries (e ∷ [])) in subst (Allows count) one (one_allowed count (length entries) unmet so_far.allows);
    proper = proper_both entries (e ∷ []) so_far.proper (proper, tt);
    text_is = so_far.text_is ∙ ap (λ (t : List ℕ). heading_text count ++ 10 ∷ t)
        (ap (λ (t : List ℕ). entry_lines entries ++ t) same ∙ sym (append_assoc (entry_lines entries) (entry_line e) after)
        ∙ ap (λ (t : List ℕ). (entry_lines entries ++ t) ++ after) (sym (append-nil (entry_line e))) ∙ ap (λ (t : List ℕ). t ++ after) (sym (lines_both entries (e ∷ []))));
  }

-- ---- the place at which reading stops

no_bytes : (text : List ℕ) → length text ≡ 0 → text ≡ []
no_bytes [] e = refl
no_bytes (b ∷ text) e = absurd (omega (arith, e))

module _ (text count : List ℕ) (entries : List Entry) (rest : List ℕ) (so_far : SoFar text count entries rest) (n : ℕ) (counted : n ≡ length entries) where
  told_so : bytes_eq count (count_text n) ≡ true → count ≡ count_text (length entries)
  told_so e = (bytes_decides count (count_text n)).0 e ∙ ap count_text counted

  pub still_open : bytes_eq count (count_text n) ≡ false → count ≡ count_text (length entries) → ⊥
  still_open other shown =
      let both : false ≡ true = sym other ∙ (bytes_decides count (count_text n)).1 (shown ∙ ap count_text (sym counted)) in
      cc

  unmet : (is_star count || bytes_eq count (count_text n)) ≡ false → Counts count (length entries) → ⊥
  unmet other counts =
      let both : false ≡ true = sym other ∙ if_met count n (subst (Counts count) (sym counted) counts) in
      cc

  wrong_next : (count ≡ count_text (length entries)) ⊎ NoEntry rest → (rest ≡ [] → Counts count (length entries) → ⊥) → WrongAt text (n + 1)
  wrong_next stuck unended =
      let next : suc (length entries) ≡ n + 1 = omega arith in
      subst (λ (k : ℕ). WrongAt text k) next (wrong_here text count entries rest so_far stuck unended)

  -- as many entries as are counted, and more bytes
  pub wrong_behind : bytes_eq count (count_text n) ≡ true → 0 < length rest → WrongAt text (n + 1)
  wrong_behind full some = wrong_next (inl (told_so full)) (λ none shown. let l : length rest ≡ 0 = ap length none in omega arith)

  -- no entry comes next
  pub fails_here : {X : Type 0} (view : X → Entry × List ℕ) (error : LineError) → 0 < length rest → TakesEntry view rest (Err error) → ReadsHistory text (Err (trouble_at_line error (n + 1)))
  fails_here view Wrong some none = wrong_next (inr none) (λ ended counts. let l : length rest ≡ 0 = ap length ended in omega (arith, some))
  fails_here view Memory some none = tt

  -- fewer entries than are counted, and no more bytes
  pub ends_here : (is_star count || bytes_eq count (count_text n)) ≡ false → length rest ≡ 0 → WrongAt text (n + 1)
  ends_here other ended =
      wrong_next (inr (λ e more good same. no_line e more (sym (no_bytes rest ended) ∙ same))) (λ none counts. unmet other counts)

  pub whole_text_here : (is_star count || bytes_eq count (count_text n)) ≡ true → length rest ≡ 0 → TellsHistory text entries
  whole_text_here full ended = whole_here text count entries rest so_far (no_bytes rest ended) (subst (Counts count) counted (met_if count n full))

-- what comes after an entry is shorter
pub line_shortens : (e : Entry) (rest after : List ℕ) → rest ≡ entry_line e ++ after → length after < length rest
line_shortens e rest after same =
    omega (arith, ap length (same ∙ line_then e after), length-append (line_of e) (10 ∷ after))

-- The first line of a text is a heading or an entry's, or it is found to be none.
use Rattle.std.proofs.Common.{◌≡◌, ℕ, true, false, List, [], ◌∷◌, ◌++◌, Option, Some, None, Ok, Err, refl, sym, ap, subst, ◌∙◌}
use Rattle.std.specs.Prelude.{◌||◌, codes, Result, IfOk}
use Rattle.std.proofs.lemmas.List.{append-nil}
use Rattle.basic_values.specs.Cuts.{◌>>=◌, behind, cut}
use Rattle.basic_values.proofs.CutLaws.{bind_some, cut_takes, cut_again, behind_takes, behind_again}
use Rattle.monitor_calls.specs.declared.calls.Entry.{Entry}
use Rattle.monitor_calls.specs.Proper.{IsProperEntry}
use Rattle.deck_model.specs.Histories.{entry_line, count_text, history_text}
use Rattle.history_reader.specs.Counts.{is_count, is_star, Counts}
use Rattle.history_reader.specs.declared.failures.LineError.{LineError}
use Rattle.history_reader.specs.declared.failures.LineError.TheVariants.{Wrong, Memory}
use Rattle.history_reader.specs.LineFields.{ReadsAs}
use Rattle.history_reader.specs.LineForms.{entry_read, taken_read}
use Rattle.history_reader.specs.SoFar.{heading_text, SoFar, NoHeading, NoEntry, TakesEntry}
use Rattle.history_reader.proofs.CountLaws.{number_lacks, counts_lack, allowed_if, if_counts}
use Rattle.history_reader.proofs.FormLaws.{line_of, line_lacks, entry_again}
use Rattle.history_reader.proofs.HistoryLaws.{line_then, heading_lacks, history_shape, same_count}

none_some : {A : Type 0} (o : Option A) (x : A) → o ≡ None → o ≡ Some x → ⊥
none_some None x none some = cc
none_some (Some y) x none some = cc

-- ---- headings

heading_cut : (count : List ℕ) (n : ℕ) (text rest : List ℕ) → Counts count n → text ≡ heading_text count ++ 10 ∷ rest → cut 10 text ≡ Some (heading_text count, rest)
heading_cut count n text rest counts same =
    ap (cut 10) same ∙ cut_again 10 (heading_text count) rest (heading_lacks count (counts_lack count n counts))

pub no_line_no_heading : (text : List ℕ) → cut 10 text ≡ None → NoHeading text
no_line_no_heading text none count n rest counts same =
    none_some (cut 10 text) (heading_text count, rest) none (heading_cut count n text rest counts same)

first_is : (text line after count : List ℕ) (n : ℕ) (rest : List ℕ) → cut 10 text ≡ Some (line, after) → Counts count n → text ≡ heading_text count ++ 10 ∷ rest → line ≡ heading_text count
first_is text line after count n rest found counts same =
    let both : Some (line, after) ≡ Some (heading_text count, rest) = sym found ∙ heading_cut count n text rest counts same in
    let parts : (line, after) ≡ (heading_text count, rest) = cc in
    ap (λ (p : List ℕ × List ℕ). p.0) parts

pub other_word : (text line after : List ℕ) → cut 10 text ≡ Some (line, after) → behind (codes "HISTORY ") line ≡ None → NoHeading text
other_word text line after found none count n rest counts same =
    none_some (behind (codes "HISTORY ") line) count none (ap (behind (codes "HISTORY ")) (first_is text line after count n rest found counts same) ∙ behind_again (codes "HISTORY ") count)

pub no_count : (text line after count : List ℕ) → cut 10 text ≡ Some (line, after) → behind (codes "HISTORY ") line ≡ Some count → (is_star count || is_count count) ≡ false → NoHeading text
no_count text line after count found word bad other n rest counts same =
    let one : count ≡ other = same_count count other (sym (behind_takes (codes "HISTORY ") line count word) ∙ first_is text line after other n rest found counts same) in
    let both : false ≡ true = sym bad ∙ if_counts count n (subst (λ (c : List ℕ). Counts c n) (sym one) counts) in
    cc

pub found_heading : (text line after count : List ℕ) → cut 10 text ≡ Some (line, after) → behind (codes "HISTORY ") line ≡ Some count → (is_star count || is_count count) ≡ true → SoFar text count [] after
found_heading text line after count found word good = record {
  allows = allowed_if count good;
  proper = tt;
  text_is = cut_takes 10 text (line, after) found ∙ ap (λ (l : List ℕ). l ++ 10 ∷ after) (behind_takes (codes "HISTORY ") line count word);
}

-- ---- entries

pub one_written : (e : Entry) (out : List ℕ) → out ≡ history_text (e ∷ []) → cut 10 out ≡ Some (heading_text (count_text 1), entry_line e)
one_written e out written =
    ap (cut 10) (written ∙ history_shape (e ∷ [])) ∙ cut_again 10 (heading_text (count_text 1)) (entry_line e ++ []) (heading_lacks (count_text 1) (number_lacks 1))
    ∙ ap (λ (t : List ℕ). Some (heading_text (count_text 1), t)) (append-nil (entry_line e))

entry_cut : (e : Entry) (text more : List ℕ) → IsProperEntry e → text ≡ entry_line e ++ more → cut 10 text ≡ Some (line_of e, more)
entry_cut e text more proper same = ap (cut 10) (same ∙ line_then e more) ∙ cut_again 10 (line_of e) more (line_lacks e proper)

pub no_line_no_entry : (text : List ℕ) → cut 10 text ≡ None → NoEntry text
no_line_no_entry text none e more proper same =
    none_some (cut 10 text) (line_of e, more) none (entry_cut e text more proper same)

read_entry : (e : Entry) (text line after more : List ℕ) → cut 10 text ≡ Some (line, after) → IsProperEntry e → text ≡ entry_line e ++ more → entry_read line ≡ Some e
read_entry e text line after more found proper same =
    let both : Some (line, after) ≡ Some (line_of e, more) = sym found ∙ entry_cut e text more proper same in
    let parts : (line, after) ≡ (line_of e, more) = cc in
    ap entry_read (ap (λ (p : List ℕ × List ℕ). p.0) parts) ∙ entry_again e proper

taken_again : (e : Entry) (text line after more : List ℕ) → cut 10 text ≡ Some (line, after) → IsProperEntry e → text ≡ entry_line e ++ more → taken_read line text ≡ Some (e, more)
unfolding taken_read
taken_again e text line after more found proper same =
    rw (read_entry e text line after more found proper same)
    (ap (λ (t : List ℕ). behind (entry_line e) t >>= (λ rest. Some (e, rest))) same ∙ rw (behind_again (entry_line e) more) refl)

-- what is taken of a first line
taken_is : (text line : List ℕ) (x : Entry × List ℕ) → taken_read line text ≡ Some x → text ≡ entry_line x.0 ++ x.1
unfolding taken_read
taken_is text line x e =
    let a = bind_some (entry_read line) (λ entry. behind (entry_line entry) text >>= (λ rest. Some (entry, rest))) x e in
    let b = bind_some (behind (entry_line a.0) text) (λ rest. Some (a.0, rest)) x a.2 in
    let same : (a.0, b.0) ≡ x = some_is (a.0, b.0) x b.2 in
    behind_takes (entry_line a.0) text b.0 b.1 ∙ ap (λ (y : Entry × List ℕ). entry_line y.0 ++ y.1) same
  where
    some_is : {A : Type 0} (a b : A) → Some a ≡ Some b → a ≡ b
    some_is a b e = cc

pub takes_entry : {X : Type 0} (view : X → Entry × List ℕ) (text line after : List ℕ) (r : Result X LineError) → cut 10 text ≡ Some (line, after) → ReadsAs view r (taken_read line text) → IfOk r (λ x. IsProperEntry (view x).0) → TakesEntry view text r
takes_entry view text line after (Ok x) found read proper = (proper, taken_is text line (view x) read)
takes_entry view text line after (Err Wrong) found read proper = λ e more good same. none_some (taken_read line text) (e, more) read (taken_again e text line after more found good same)
takes_entry view text line after (Err Memory) found read proper = tt

-- the line after the heading of what is written of one entry
pub line_written : (e : Entry) (before out front line : List ℕ) → before ≡ [] → out ≡ before ++ history_text (e ∷ []) → cut 10 out ≡ Some (front, line) → line ≡ entry_line e
line_written e before out front line none written found =
    let both : Some (front, line) ≡ Some (heading_text (count_text 1), entry_line e) = sym found ∙ one_written e out (written ∙ ap (λ (t : List ℕ). t ++ history_text (e ∷ [])) none) in
    let parts : (front, line) ≡ (heading_text (count_text 1), entry_line e) = cc in
    ap (λ (p : List ℕ × List ℕ). p.1) parts

pub line_is_written : (e : Entry) (before out : List ℕ) → before ≡ [] → out ≡ before ++ history_text (e ∷ []) → cut 10 out ≡ None → ⊥
line_is_written e before out none written missed =
    none_some (cut 10 out) (heading_text (count_text 1), entry_line e) missed (one_written e out (written ∙ ap (λ (t : List ℕ). t ++ history_text (e ∷ [])) none))

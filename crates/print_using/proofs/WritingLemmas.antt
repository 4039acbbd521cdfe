-- What the code writes is what the parts write.
use Rattle.std.proofs.Common.{◌≡◌, ◌⊎◌, inl, inr, ℕ, suc, ◌<◌, ◌+◌, Bool, true, false, cond, eqb, List, [], ◌∷◌, ◌++◌, length, get_or, take, drop, Option, Some, None, Result, Ok, Err, refl, sym, ap, subst, ◌∙◌, arith, append_assoc, drop-cons}
use Rattle.std.specs.Prelude.{is_some}
use Rattle.std.proofs.lemmas.Bool.{ne_eqb}
use Rattle.std.proofs.lemmas.List.{append-nil}
use Rattle.basic_values.specs.declared.errors.TheConstants.{DATA_FORMAT_ERROR}
use Rattle.print_using.specs.declared.fields.Field.{Field}
use Rattle.print_using.specs.Fields.{field_spelling, field_bytes}
use Rattle.print_using.specs.Formats.{FormatPart, OfByte, OfField}
use Rattle.print_using.specs.FormatFronts.{front_field, bytes_before_field, before_field, from_field, format_parts}
use Rattle.print_using.specs.Using.{OneWritten, behind_byte, by_next_field, has_field, bytes_in_front, with_front, and_behind, left_behind, using_from}
use Rattle.print_using.specs.Values.{PrintedValue}
use Rattle.print_using.specs.Adding.{one_of, behind_bytes, ReachesField}
use Rattle.print_using.proofs.FormatLaws.{byte_first, field_first}

-- ---- the bytes before a field

pub none_before : (text : List ℕ) → is_some (front_field text) ≡ true → bytes_before_field text ≡ 0
none_before [] e = refl
none_before (byte ∷ rest) e = ap (λ b. cond b 0 (1 + bytes_before_field rest)) e

one_before : (byte : ℕ) (rest : List ℕ) → is_some (front_field (byte ∷ rest)) ≡ false → bytes_before_field (byte ∷ rest) ≡ suc (bytes_before_field rest)
one_before byte rest e = ap (λ b. cond b 0 (1 + bytes_before_field rest)) e ∙ omega arith

pub next_before : (text : List ℕ) (place : ℕ) → place < length text → is_some (front_field (drop place text)) ≡ false → bytes_before_field (drop place text) ≡ suc (bytes_before_field (drop (suc place) text))
next_before text place within e =
    let first : drop place text ≡ get_or text place 0 ∷ drop (suc place) text = drop-cons text place 0 within in
    ap bytes_before_field first
    ∙ one_before (get_or text place 0) (drop (suc place) text) (ap (λ t. is_some (front_field t)) (sym first) ∙ e)

-- ---- over the bytes before the field

is_none : {A : Type 0} (o : Option A) → is_some o ≡ false → o ≡ None
is_none None e = refl
is_none (Some x) e = absurd cc

pub some_of : {A : Type 0} (o : Option A) → is_some o ≡ true → (x : A) × (o ≡ Some x)
some_of None e = absurd cc
some_of (Some x) e = (x, refl)

abbrev IsHere : (List ℕ → Type 0) → Type 0
IsHere P = (text : List ℕ) → is_some (front_field text) ≡ true → P text

abbrev Passes : (List ℕ → Type 0) → Type 0
Passes P = (byte : ℕ) (rest : List ℕ) → is_some (front_field (byte ∷ rest)) ≡ false → P rest → P (byte ∷ rest)

over_front : (P : List ℕ → Type 0) → IsHere P → Passes P → (byte : ℕ) (rest : List ℕ) (found : Bool) → is_some (front_field (byte ∷ rest)) ≡ found → P rest → P (byte ∷ rest)
over_front P here passes byte rest true e again = here (byte ∷ rest) e
over_front P here passes byte rest false e again = passes byte rest e again

-- A fact is true of every string, if it is true of the empty string and of each one that begins
-- with a field, and stays true with one more byte before it.
over_bytes : (P : List ℕ → Type 0) → P [] → IsHere P → Passes P → (text : List ℕ) → P text
over_bytes P empty here passes [] = empty
over_bytes P empty here passes (byte ∷ rest) =
    over_front P here passes byte rest (is_some (front_field (byte ∷ rest))) refl (over_bytes P empty here passes rest)

from_here : (text : List ℕ) → is_some (front_field text) ≡ true → from_field text ≡ text
from_here text e = ap (λ n. drop n text) (none_before text e)

before_here : (text : List ℕ) → is_some (front_field text) ≡ true → before_field text ≡ []
before_here text e = ap (λ n. take n text) (none_before text e)

from_more : (byte : ℕ) (rest : List ℕ) → is_some (front_field (byte ∷ rest)) ≡ false → from_field (byte ∷ rest) ≡ from_field rest
from_more byte rest e = ap (λ n. drop n (byte ∷ rest)) (one_before byte rest e)

before_more : (byte : ℕ) (rest : List ℕ) → is_some (front_field (byte ∷ rest)) ≡ false → before_field (byte ∷ rest) ≡ byte ∷ before_field rest
before_more byte rest e = ap (λ n. take n (byte ∷ rest)) (one_before byte rest e)

parts_more : (byte : ℕ) (rest : List ℕ) → is_some (front_field (byte ∷ rest)) ≡ false → format_parts (byte ∷ rest) ≡ OfByte byte ∷ format_parts rest
parts_more byte rest e = byte_first byte rest (is_none (front_field (byte ∷ rest)) e)

parts_here : (text : List ℕ) → is_some (front_field text) ≡ true → (field : Field) × (behind : List FormatPart) × (format_parts text ≡ OfField field ∷ behind)
parts_here text e =
    let found = some_of (front_field text) e in
    (found.0, format_parts (drop (length (field_spelling found.0)) text), field_first text found.0 found.1)

-- ---- the format from the field on

abbrev IsReady : List ℕ → Type 0
IsReady text = (from_field text ≡ []) ⊎ (is_some (front_field (from_field text)) ≡ true)

ready_as : (from text : List ℕ) → from_field text ≡ from → (from ≡ []) ⊎ (is_some (front_field from) ≡ true) → IsReady text
ready_as from text e ready = subst (λ (t : List ℕ). (t ≡ []) ⊎ (is_some (front_field t) ≡ true)) (sym e) ready

is_ready : (text : List ℕ) → IsReady text
is_ready =
    over_bytes IsReady (inl refl)
    (λ text e. ready_as text text (from_here text e) (inr e))
    (λ byte rest e again. ready_as (from_field rest) (byte ∷ rest) (from_more byte rest e) again)

has_field_from : (text : List ℕ) → has_field (format_parts text) ≡ has_field (format_parts (from_field text))
has_field_from =
    over_bytes (λ text. has_field (format_parts text) ≡ has_field (format_parts (from_field text))) refl
    (λ text e. ap (λ t. has_field (format_parts t)) (sym (from_here text e)))
    (λ byte rest e again. ap has_field (parts_more byte rest e) ∙ again ∙ ap (λ t. has_field (format_parts t)) (sym (from_more byte rest e)))

has_field_here : (text : List ℕ) → is_some (front_field text) ≡ true → has_field (format_parts text) ≡ true
has_field_here text e =
    let first = parts_here text e in
    ap has_field first.2

-- ---- the bytes before the field are written

in_front_by : (text : List ℕ) → is_some (front_field text) ≡ true → bytes_in_front (format_parts text) ≡ before_field text
in_front_by text e =
    let first = parts_here text e in
    ap bytes_in_front first.2 ∙ sym (before_here text e)

pub in_front_are : (text : List ℕ) → bytes_in_front (format_parts text) ≡ before_field text
in_front_are =
    over_bytes (λ text. bytes_in_front (format_parts text) ≡ before_field text) refl in_front_by
    (λ byte rest e again. ap bytes_in_front (parts_more byte rest e) ∙ ap (λ t. byte ∷ t) again ∙ sym (before_more byte rest e))

behind_none : (one : OneWritten) → one ≡ behind_bytes [] one
behind_none (Ok one) = refl
behind_none (Err fault) = refl

behind_one : (byte : ℕ) (bytes : List ℕ) (one : OneWritten) → behind_byte byte (behind_bytes bytes one) ≡ behind_bytes (byte ∷ bytes) one
behind_one byte bytes (Ok one) = refl
behind_one byte bytes (Err fault) = refl

behind_both : (a b : List ℕ) (one : OneWritten) → behind_bytes a (behind_bytes b one) ≡ behind_bytes (a ++ b) one
behind_both a b (Ok one) = ap (λ t. Ok (t, one.1)) (sym (append_assoc a b one.0))
behind_both a b (Err fault) = refl

-- whatever parts follow those of the string
abbrev IsBehind : List ℕ → Type 0
IsBehind text = (parts : List FormatPart) (value : PrintedValue) →
    by_next_field (format_parts text ++ parts) value
    ≡ behind_bytes (before_field text) (by_next_field (format_parts (from_field text) ++ parts) value)

behind_here : (text : List ℕ) → is_some (front_field text) ≡ true → IsBehind text
behind_here text e parts value =
    let before : [] ≡ before_field text = sym (before_here text e) in
    let from : text ≡ from_field text = sym (from_here text e) in
    behind_none (by_next_field (format_parts text ++ parts) value)
    ∙ (λ i. behind_bytes (before i) (by_next_field (format_parts (from i) ++ parts) value))

behind_more : (byte : ℕ) (rest : List ℕ) → is_some (front_field (byte ∷ rest)) ≡ false → IsBehind rest → IsBehind (byte ∷ rest)
behind_more byte rest e again parts value =
    let before : byte ∷ before_field rest ≡ before_field (byte ∷ rest) = sym (before_more byte rest e) in
    let from : from_field rest ≡ from_field (byte ∷ rest) = sym (from_more byte rest e) in
    ap (λ ps. by_next_field (ps ++ parts) value) (parts_more byte rest e)
    ∙ ap (behind_byte byte) (again parts value)
    ∙ behind_one byte (before_field rest) (by_next_field (format_parts (from_field rest) ++ parts) value)
    ∙ (λ i. behind_bytes (before i) (by_next_field (format_parts (from i) ++ parts) value))

is_behind : (text : List ℕ) → IsBehind text
is_behind = over_bytes IsBehind (λ parts value. behind_none (by_next_field parts value)) behind_here behind_more

is_behind_alone : (text : List ℕ) (value : PrintedValue) → by_next_field (format_parts text) value ≡ behind_bytes (before_field text) (by_next_field (format_parts (from_field text)) value)
is_behind_alone text value =
    ap (λ ps. by_next_field ps value) (sym (append-nil (format_parts text)))
    ∙ is_behind text [] value
    ∙ ap (λ ps. behind_bytes (before_field text) (by_next_field ps value)) (append-nil (format_parts (from_field text)))

-- ---- whether a string is empty

false_true : false ≡ true → ⊥
false_true e = absurd cc

pub empty_is : (text : List ℕ) → eqb (length text) 0 ≡ true → text ≡ []
empty_is [] e = refl
empty_is (x ∷ xs) e = absurd (false_true (sym (ne_eqb (suc (length xs)) 0 (λ z. omega arith)) ∙ e))

pub not_empty : (text : List ℕ) → eqb (length text) 0 ≡ false → text ≡ [] → ⊥
not_empty text e none = false_true (sym e ∙ ap (λ (t : List ℕ). eqb (length t) 0) none)

-- ---- one value, to its field

abbrev after : Bool → List ℕ → List ℕ → List FormatPart
after there format left = cond there (format_parts left) (format_parts left ++ format_parts format)

-- a field is left
left_has_field : (left : List ℕ) → IsReady left → (from_field left ≡ [] → ⊥) → has_field (format_parts left) ≡ true
left_has_field left (inl none) some = absurd (some none)
left_has_field left (inr field) some = has_field_from left ∙ has_field_here (from_field left) field

reaches_here : (format left old : List ℕ) → (from_field left ≡ [] → ⊥) → ReachesField format left (from_field left) old (old ++ before_field left)
reaches_here format left old some = record {
  more = before_field left;
  grew = refl;
  same = λ value.
      ap (λ there. by_next_field (after there format left) value) (left_has_field left (is_ready left) some)
      ∙ is_behind_alone left value;
  ready = is_ready left;
}

-- none is left, so the format begins again
no_field_left : (left : List ℕ) → from_field left ≡ [] → has_field (format_parts left) ≡ false
no_field_left left none = has_field_from left ∙ ap (λ t. has_field (format_parts t)) none

again_by : (format left : List ℕ) (value : PrintedValue) → from_field left ≡ [] → by_next_field (format_parts left ++ format_parts format) value ≡ behind_bytes (before_field left) (by_next_field (format_parts format) value)
again_by format left value none =
    is_behind left (format_parts format) value
    ∙ ap (λ t. behind_bytes (before_field left) (by_next_field (format_parts t ++ format_parts format) value)) none

reaches_first : (format left old : List ℕ) → from_field left ≡ [] → ReachesField format left (from_field format) old (old ++ before_field left ++ before_field format)
reaches_first format left old none = record {
  more = before_field left ++ before_field format;
  grew = append_assoc old (before_field left) (before_field format);
  same = λ value.
      ap (λ there. by_next_field (after there format left) value) (no_field_left left none)
      ∙ again_by format left value none
      ∙ ap (behind_bytes (before_field left)) (is_behind_alone format value)
      ∙ behind_both (before_field left) (before_field format) (by_next_field (format_parts (from_field format)) value);
  ready = is_ready format;
}

reaches_as : (format left from rest old grown new : List ℕ) → rest ≡ from → new ≡ grown → ReachesField format left from old grown → ReachesField format left rest old new
reaches_as format left from rest old grown new is grew reached =
    subst (λ (t : List ℕ). ReachesField format left t old new) (sym is)
    (subst (λ (t : List ℕ). ReachesField format left from old t) (sym grew) reached)

pub reaches_left : (format left rest old new : List ℕ) → rest ≡ from_field left → new ≡ old ++ before_field left → eqb (length rest) 0 ≡ false → ReachesField format left rest old new
reaches_left format left rest old new is grew some =
    reaches_as format left (from_field left) rest old (old ++ before_field left) new is grew
    (reaches_here format left old (λ none. not_empty rest some (is ∙ none)))

pub reaches_again : (format left rest old new : List ℕ) → eqb (length (from_field left)) 0 ≡ true → rest ≡ from_field format → new ≡ old ++ before_field left ++ before_field format → ReachesField format left rest old new
reaches_again format left rest old new none is grew =
    reaches_as format left (from_field format) rest old (old ++ before_field left ++ before_field format) new is grew
    (reaches_first format left old (empty_is (from_field left) none))

-- ---- one value, in its field

pub writes_by_field : (field : Field) (rest : List ℕ) (value : PrintedValue) → front_field rest ≡ Some field → by_next_field (format_parts rest) value ≡ left_behind (format_parts (drop (length (field_spelling field)) rest)) (field_bytes field value)
writes_by_field field rest value e = ap (λ ps. by_next_field ps value) (field_first rest field e)

none_is_empty : (rest : List ℕ) → (rest ≡ []) ⊎ (is_some (front_field rest) ≡ true) → front_field rest ≡ None → rest ≡ []
none_is_empty rest (inl none) e = none
none_is_empty rest (inr field) e = absurd (false_true (sym (ap is_some e) ∙ field))

pub no_field_refused : (format left rest old new : List ℕ) (value : PrintedValue) → ReachesField format left rest old new → front_field rest ≡ None → one_of format left value ≡ Err DATA_FORMAT_ERROR
no_field_refused format left rest old new value reached e =
    reached.same value
    ∙ ap (λ t. behind_bytes reached.more (by_next_field (format_parts t) value)) (none_is_empty rest reached.ready e)

pub field_refused : (format left rest old new : List ℕ) (value : PrintedValue) (field : Field) (fault : ℕ) → ReachesField format left rest old new → front_field rest ≡ Some field → field_bytes field value ≡ Err fault → one_of format left value ≡ Err fault
field_refused format left rest old new value field fault reached e refused =
    reached.same value
    ∙ ap (behind_bytes reached.more) (writes_by_field field rest value e ∙ ap (left_behind (format_parts (drop (length (field_spelling field)) rest))) refused)

abbrev pub TakesOne : OneWritten → List ℕ → List ℕ → List ℕ → Type 0
TakesOne one rest old new = (more : List ℕ) × (one ≡ Ok (more, format_parts rest)) × (new ≡ old ++ more)

pub field_taken : (format left rest old new end : List ℕ) (value : PrintedValue) (field : Field) (bytes : List ℕ) → ReachesField format left rest old new → front_field rest ≡ Some field → field_bytes field value ≡ Ok bytes → end ≡ new ++ bytes → TakesOne (one_of format left value) (drop (length (field_spelling field)) rest) old end
field_taken format left rest old new end value field bytes reached e taken grew =
    let behind : List ℕ = drop (length (field_spelling field)) rest in (
      reached.more ++ bytes,
      reached.same value ∙ ap (behind_bytes reached.more) (writes_by_field field rest value e ∙ ap (left_behind (format_parts behind)) taken),
      grew ∙ ap (λ t. t ++ bytes) reached.grew ∙ append_assoc old reached.more bytes,
    )

-- ---- all values

pub front_none : (written : Result (List ℕ) ℕ) → written ≡ with_front [] written
front_none (Ok bytes) = refl
front_none (Err fault) = refl

pub front_both : (a b : List ℕ) (written : Result (List ℕ) ℕ) → with_front a (with_front b written) ≡ with_front (a ++ b) written
front_both a b (Ok bytes) = ap (λ t. Ok t) (sym (append_assoc a b bytes))
front_both a b (Err fault) = refl

-- after the last value
pub all_written : (format left : List ℕ) (values : List PrintedValue) (written : Result (List ℕ) ℕ) (more old grown new : List ℕ) → values ≡ [] → written ≡ with_front more (using_from (format_parts format) (format_parts left) values) → grown ≡ old ++ more → new ≡ grown ++ before_field left → (all : List ℕ) × (written ≡ Ok all) × (new ≡ old ++ all)
all_written format left values written more old grown new none so_far grew last = (
  more ++ before_field left,
  so_far
      ∙ ap (λ vs. with_front more (using_from (format_parts format) (format_parts left) vs)) none
      ∙ ap (λ bytes. Ok (more ++ bytes)) (in_front_are left),
  last ∙ ap (λ t. t ++ before_field left) grew ∙ append_assoc old more (before_field left),
)

-- before the first value
pub none_yet : (format : List ℕ) (values : List PrintedValue) (written : Result (List ℕ) ℕ) (old : List ℕ) → written ≡ using_from (format_parts format) (format_parts format) values
    → (more : List ℕ) × (written ≡ with_front more (using_from (format_parts format) (format_parts format) values)) × (old ≡ old ++ more)
none_yet format values written old is = ([], is ∙ front_none (using_from (format_parts format) (format_parts format) values), sym (append-nil old))

-- after one more value
pub one_more : (format left rest : List ℕ) (value : PrintedValue) (here values : List PrintedValue) (written : Result (List ℕ) ℕ) (more own old grown new : List ℕ) → here ≡ value ∷ values
    → written ≡ with_front more (using_from (format_parts format) (format_parts left) here) → grown ≡ old ++ more → one_of format left value ≡ Ok (own, format_parts rest) → new ≡ grown ++ own
    → (all : List ℕ) × (written ≡ with_front all (using_from (format_parts format) (format_parts rest) values)) × (new ≡ old ++ all)
one_more format left rest value here values written more own old grown new front so_far grew one last = (
  more ++ own,
  so_far
      ∙ ap (λ vs. with_front more (using_from (format_parts format) (format_parts left) vs)) front
      ∙ ap (λ o. with_front more (and_behind o (λ behind. using_from (format_parts format) behind values))) one
      ∙ front_both more own (using_from (format_parts format) (format_parts rest) values),
  last ∙ ap (λ t. t ++ own) grew ∙ append_assoc old more own,
)

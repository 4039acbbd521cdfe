-- The kind of each word.
use Rattle.std.proofs.Common.{◌≡◌, ◌∙◌, ◌+◌, ℕ, suc, Bool, true, false, ◌==◌, List, [], ◌∷◌, ◌++◌, take, Some, None, inl, inr, refl, sym, ap, subst, true≢false, arith}
use Rattle.std.specs.Prelude.{◌⊎◌, codes, bytes_eq, IsUtf8, chars, encode_utf8_all}
use Rattle.std.specs.List.{list_any, before_first, position_or_len}
use Rattle.std.specs.Cmp.Lexicographic.{same_text}
use Rattle.std.proofs.lemmas.Bool.{eqb-true}
use Rattle.std.proofs.lemmas.Str.{IsUtf8-past_char, encode_ascii, encodes-chars}
use Rattle.clap.specs.Words.{Text, Kinds}
use Rattle.std.specs.Option.{option_map_or}
use Rattle.clap.specs.Kinds.{or_else}
use Rattle.clap.specs.Walk.{Held, idle, word_met}
use Rattle.clap.specs.Faults.{word_fault, flag_word_fault, bundle_fault, step_fault}
use Rattle.clap.specs.Lexer.{long_of, short_of, has_byte, name_and_value}
use Rattle.clap.specs.declared.error.kind.ErrorKind.{ErrorKind}
use Rattle.clap.specs.declared.error.kind.ErrorKind.TheVariants as kind
use Rattle.program_words.specs.Words.{is_flag}
use Rattle.program_words.proofs.Uses.{shape, Mark, History, Printer, Use, place_at, position_of, mark_word}
use Rattle.program_words.proofs.Walks.{held_at, no_skip, fault_at, IsPlain}

pub either : (b : Bool) → (b ≡ true) ⊎ (b ≡ false)
either true = inl refl
either false = inr refl

-- a word that is no flag
pub record IsWord (word : Text) : Type 0 where
  pub plain : IsPlain word
  pub no_flag : is_flag word ≡ false

-- a flag that the command does not have
pub record IsStray (word : Text) : Type 0 where
  pub ends_none : bytes_eq word (codes "--") ≡ false
  pub flag : is_flag word ≡ true
  pub no_history : bytes_eq word (codes "--history") ≡ false
  pub no_printer : bytes_eq word (codes "--printer") ≡ false
  pub refused : ErrorKind
  pub fault : (uses : List Use) → fault_at false uses word ≡ refused ∷ []

pub data Sort (word : Text) : Type 0 where
  AnEnd : word ≡ codes "--" → Sort word
  AWord : IsWord word → Sort word
  AMark : (mark : Mark) → word ≡ mark_word mark → Sort word
  Stray : IsStray word → Sort word

-- after a minus comes a character, if anything comes
some_char : (y : ℕ) (bytes : Text) → IsUtf8 (45 ∷ y ∷ bytes) → (c : ℕ) × (cs : List ℕ) × (chars (y ∷ bytes) ≡ c ∷ cs)
some_char y bytes u =
    let later = IsUtf8-past_char (45 ∷ y ∷ bytes) (y ∷ bytes) 45 u (ap (λ front. front ++ (y ∷ bytes)) (sym (encode_ascii 45 (omega arith)))) in
    go (chars (y ∷ bytes)) refl (encodes-chars (y ∷ bytes) later)
  where
    go : (cs : List ℕ) → chars (y ∷ bytes) ≡ cs → encode_utf8_all (chars (y ∷ bytes)) ≡ y ∷ bytes → (c : ℕ) × (rest : List ℕ) × (chars (y ∷ bytes) ≡ c ∷ rest)
    go [] is e = let bad : [] ≡ y ∷ bytes = sym (ap encode_utf8_all is) ∙ e in absurd (cc)
    go (c ∷ cs) is e = (c, cs, is)

-- one minus, and no second one after it
module _ (y : ℕ) (bytes : Text) (e : (y == 45) ≡ false) where
  ends_none : bytes_eq (45 ∷ y ∷ bytes) (codes "--") ≡ false
  ends_none = rw e refl

  no_long : long_of (45 ∷ y ∷ bytes) ≡ None
  no_long = rw e refl

  is_short : short_of (45 ∷ y ∷ bytes) ≡ Some (y ∷ bytes)
  is_short = rw e refl

  bundled : (h : Held) → word_fault shape [] false idle (45 ∷ y ∷ bytes) h ≡ bundle_fault shape.rules false (y ∷ bytes) h
  bundled h =
      let one : word_fault shape [] false idle (45 ∷ y ∷ bytes) h ≡ flag_word_fault shape.rules false None (45 ∷ y ∷ bytes) h = rw (ends_none, no_long) refl in
      one ∙ ap (λ flags. option_map_or (λ f. bundle_fault shape.rules false f h) flags []) is_short

  first_unknown : (h : Held) (c : ℕ) (cs : List ℕ) → h.skip ≡ 0 → chars (y ∷ bytes) ≡ c ∷ cs → bundle_fault shape.rules false (y ∷ bytes) h ≡ kind.UnknownArgument ∷ []
  unfolding Rattle.clap.specs.Faults.flags_fault
  first_unknown h c cs none is = rw (none, is) refl

  behind : List Use → Kinds
  behind uses =
      let met = word_met shape.rules [] false idle (position_of (place_at uses)) (45 ∷ y ∷ bytes) (held_at uses) in
      step_fault shape (position_of (place_at uses)) met.0 met.1

  unknown : (uses : List Use) (c : ℕ) (cs : List ℕ) → chars (y ∷ bytes) ≡ c ∷ cs → fault_at false uses (45 ∷ y ∷ bytes) ≡ kind.UnknownArgument ∷ []
  unfolding behind
  unknown uses c cs is = ap (λ k. or_else k (behind uses)) (bundled (held_at uses) ∙ first_unknown (held_at uses) c cs (no_skip uses) is)

  short_sort : IsUtf8 (45 ∷ y ∷ bytes) → Sort (45 ∷ y ∷ bytes)
  short_sort u =
      let first = some_char y bytes u in
      Stray (record {
        ends_none = ends_none;
        flag = refl;
        no_history = rw e refl;
        no_printer = rw e refl;
        refused = kind.UnknownArgument;
        fault = λ uses. unknown uses first.0 first.1 first.2;
      })

whole_name : (text : Text) → list_any (λ x. x == 61) text ≡ false → before_first (λ x. x == 61) text ≡ text
whole_name [] e = refl
whole_name (x ∷ text) e = go (either (x == 61)) (whole_name text)
  where
    go : (((x == 61) ≡ true) ⊎ ((x == 61) ≡ false)) → (list_any (λ y. y == 61) text ≡ false → before_first (λ y. y == 61) text ≡ text) → before_first (λ y. y == 61) (x ∷ text) ≡ x ∷ text
    go (inl here) rest = absurd (true≢false (sym (rw here refl) ∙ e))
    go (inr there) rest =
        let n = position_or_len (λ y. y == 61) text in
        let more : 1 + n ≡ suc n = omega arith in
        rw there (ap (λ k. take k (x ∷ text)) more ∙ ap (λ t. x ∷ t) (rest (rw there at e)))

text_is : (xs ys : Text) → bytes_eq xs ys ≡ true → xs ≡ ys
text_is xs ys e = same_text xs ys (sym e)

-- a name with two minus signs: of a flag, with a value or without, or of none
module _ (z : ℕ) (zs : Text) where
  name : Text
  name = (name_and_value (z ∷ zs)).0

  whole : Text
  whole = 45 ∷ 45 ∷ z ∷ zs

  bare_is : (text : Text) → bytes_eq text name ≡ true → has_byte 61 (z ∷ zs) ≡ false → text ≡ z ∷ zs
  unfolding name
  bare_is text named bare = text_is text name named ∙ whole_name (z ∷ zs) bare

  unnamed : bytes_eq (codes "history") name ≡ false → bytes_eq (codes "printer") name ≡ false → bytes_eq whole (codes "--history") ≡ false → bytes_eq whole (codes "--printer") ≡ false → Sort whole
  unfolding name whole
  unnamed a b c d = Stray (record { ends_none = refl; flag = refl; no_history = c; no_printer = d; refused = kind.UnknownArgument; fault = λ uses. rw (a, b) refl })

  valued_history : bytes_eq (codes "history") name ≡ true → has_byte 61 (z ∷ zs) ≡ true → bytes_eq whole (codes "--history") ≡ false → bytes_eq whole (codes "--printer") ≡ false → Sort whole
  unfolding name whole
  valued_history a v c d = Stray (record { ends_none = refl; flag = refl; no_history = c; no_printer = d; refused = kind.TooManyValues; fault = λ uses. rw (a, v) refl })

  valued_printer : bytes_eq (codes "history") name ≡ false → bytes_eq (codes "printer") name ≡ true → has_byte 61 (z ∷ zs) ≡ true → bytes_eq whole (codes "--history") ≡ false → bytes_eq whole (codes "--printer") ≡ false → Sort whole
  unfolding name whole
  valued_printer a b v c d = Stray (record { ends_none = refl; flag = refl; no_history = c; no_printer = d; refused = kind.TooManyValues; fault = λ uses. rw (a, b, v) refl })

  Known : Bool → Type 0
  Known b = (b ≡ true) ⊎ (b ≡ false)

  no_flag : Known (bytes_eq (codes "history") name) → Known (bytes_eq (codes "printer") name) → Known (has_byte 61 (z ∷ zs)) → bytes_eq whole (codes "--history") ≡ false → bytes_eq whole (codes "--printer") ≡ false → Sort whole
  unfolding Known whole
  no_flag (inl a) printer (inl v) c d = valued_history a v c d
  no_flag (inl a) printer (inr bare) c d = AMark History (ap (λ t. 45 ∷ 45 ∷ t) (sym (bare_is (codes "history") a bare)))
  no_flag (inr a) (inl b) (inl v) c d = valued_printer a b v c d
  no_flag (inr a) (inl b) (inr bare) c d = AMark Printer (ap (λ t. 45 ∷ 45 ∷ t) (sym (bare_is (codes "printer") b bare)))
  no_flag (inr a) (inr b) valued c d = unnamed a b c d

  named_sort : Known (bytes_eq whole (codes "--history")) → Known (bytes_eq whole (codes "--printer")) → Sort whole
  unfolding Known
  named_sort (inl e) printer = AMark History (text_is whole (codes "--history") e)
  named_sort (inr c) (inl e) = AMark Printer (text_is whole (codes "--printer") e)
  named_sort (inr c) (inr d) = no_flag (either (bytes_eq (codes "history") name)) (either (bytes_eq (codes "printer") name)) (either (has_byte 61 (z ∷ zs))) c d

  long_sort : Sort (45 ∷ 45 ∷ z ∷ zs)
  unfolding Known whole
  long_sort = named_sort (either (bytes_eq whole (codes "--history"))) (either (bytes_eq whole (codes "--printer")))

dash_sort : (y : ℕ) (bytes : Text) → IsUtf8 (45 ∷ y ∷ bytes) → Sort (45 ∷ y ∷ bytes)
dash_sort y bytes u = go (either (y == 45))
  where
    double : (rest : Text) → Sort (45 ∷ 45 ∷ rest)
    double [] = AnEnd refl
    double (z ∷ zs) = long_sort z zs

    go : (((y == 45) ≡ true) ⊎ ((y == 45) ≡ false)) → Sort (45 ∷ y ∷ bytes)
    go (inl e) = subst (λ z. Sort (45 ∷ z ∷ bytes)) (sym (eqb-true y 45 e)) (double bytes)
    go (inr e) = short_sort y bytes e u

pub sort : (word : Text) → IsUtf8 word → Sort word
sort [] u = AWord (record { plain = record { ends_none = refl; no_long = refl; no_short = refl }; no_flag = refl })
sort (x ∷ []) u = go (either (x == 45))
  where
    go : (((x == 45) ≡ true) ⊎ ((x == 45) ≡ false)) → Sort (x ∷ [])
    go (inl e) = AWord (record { plain = record { ends_none = rw e refl; no_long = rw e refl; no_short = rw e refl }; no_flag = refl })
    go (inr e) = AWord (record { plain = record { ends_none = rw e refl; no_long = rw e refl; no_short = rw e refl }; no_flag = refl })
sort (x ∷ y ∷ bytes) u = go (either (x == 45))
  where
    go : (((x == 45) ≡ true) ⊎ ((x == 45) ≡ false)) → Sort (x ∷ y ∷ bytes)
    go (inl e) =
        let dash : x ≡ 45 = eqb-true x 45 e in
        subst (λ z. Sort (z ∷ y ∷ bytes)) (sym dash) (dash_sort y bytes (subst (λ z. IsUtf8 (z ∷ y ∷ bytes)) dash u))
    go (inr e) = AWord (record { plain = record { ends_none = rw e refl; no_long = rw e refl; no_short = rw e refl }; no_flag = e })

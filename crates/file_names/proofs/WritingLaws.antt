-- What is written in a text is read from it.
use Rattle.std.proofs.Common.{◌≡◌, ℕ, ◌≤◌, Bool, true, false, cond, eqb, List, [], ◌∷◌, ◌++◌, length, take, drop, Option, Some, None, refl, sym, ap, subst, ◌∙◌, arith}
use Rattle.std.specs.Prelude.{◌&&◌, unwrap_or, nat_le, bytes_eq, codes}
use Rattle.std.specs.List.{list_all}
use Rattle.std.specs.Fmt.{decimal}
use Rattle.std.specs.Int.{IsInRange}
use Rattle.std.specs.Cmp.Lexicographic.{bytes_decides}
use Rattle.std.proofs.lemmas.Bool.{false_from_ne_true}
use Rattle.std.proofs.lemmas.List.{append-nil, append_assoc}
use Rattle.monitor_calls.specs.declared.names.Account.{Account}
use Rattle.monitor_calls.specs.Names.{is_capital_or_digit, is_password, is_text_of}
use Rattle.basic_values.specs.Cuts.{behind, cut}
use Rattle.basic_values.proofs.CutLaws.{and_left, and_right, behind_again, cut_again, cut_nowhere, number_again, decimal_lacks, kind_lacks, lacks_both, Lacks}
use Rattle.file_names.specs.Names.{OwnerPlace, Untold, Library, Bracketed, Written, device_text, place_text, extension_written, code_written, written_text, IsPlace, IsExtension, IsCode, IsWritten, owner_of, spec_of}
use Rattle.file_names.specs.SpecFronts.{without_device, bracketed_in, owner_behind, owner_in, closed_code, code_in, stem_in, extension_in, spec_in}
use Rattle.file_names.proofs.ReadingLaws.{brackets, five}

-- a text of a kind and a size has that kind
pub kind_of : (kind : ℕ → Bool) (least most : ℕ) (text : List ℕ) → is_text_of kind least most text ≡ true → list_all kind text ≡ true
kind_of kind least most text e = and_right (nat_le least (length text) && nat_le (length text) most) (list_all kind text) e

-- a byte that is no capital letter or digit does not occur
stem_lacks : (byte : ℕ) → is_capital_or_digit byte ≡ false → (stem : List ℕ) → is_password stem ≡ true → Lacks byte stem
stem_lacks byte other stem good = kind_lacks is_capital_or_digit byte other stem (kind_of is_capital_or_digit 1 6 stem good)

extension_lacks : (byte : ℕ) → is_capital_or_digit byte ≡ false → eqb 46 byte ≡ false → (x : Option (List ℕ)) → IsExtension x → Lacks byte (extension_written x)
extension_lacks byte other point None good = tt
extension_lacks byte other point (Some text) good =
    (point, kind_lacks is_capital_or_digit byte other text (kind_of is_capital_or_digit 0 3 text good))

code_lacks : (byte : ℕ) → (IsInRange 48 57 byte → ⊥) → eqb 60 byte ≡ false → eqb 62 byte ≡ false → (c : Option ℕ) → IsCode c → Lacks byte (code_written c)
code_lacks byte other left right None good = tt
code_lacks byte other left right (Some code) good =
    (left, lacks_both byte (decimal code) (62 ∷ []) (decimal_lacks byte code other (omega arith)) (right, tt))

place_lacks_colon : (p : OwnerPlace) → IsPlace p → Lacks 58 (place_text p)
place_lacks_colon Untold good = tt
place_lacks_colon Library good = (refl, tt)
place_lacks_colon (Bracketed a) good = (
  refl,
  lacks_both 58 (decimal a.project ++ 44 ∷ [] ++ decimal a.programmer) (93 ∷ [])
      (lacks_both 58 (decimal a.project ++ 44 ∷ []) (decimal a.programmer)
      (lacks_both 58 (decimal a.project) (44 ∷ []) (decimal_lacks 58 a.project (λ r. omega arith) (omega arith)) (refl, tt))
      (decimal_lacks 58 a.programmer (λ r. omega arith) (omega arith))) (refl, tt),
)

-- the device
third_lacks : (text : List ℕ) → Lacks 58 text → take 3 text ≡ codes "SY:" → ⊥
third_lacks [] lacks e = absurd cc
third_lacks (a ∷ []) lacks e = absurd cc
third_lacks (a ∷ b ∷ []) lacks e = absurd cc
third_lacks (a ∷ b ∷ c ∷ text) lacks e =
    let colon : c ≡ 58 = cc in
    let bad : false ≡ true = sym lacks.1.1.0 ∙ ap (λ x. eqb x 58) colon in
    absurd cc

pub no_device : (text : List ℕ) → Lacks 58 text → behind (codes "SY:") text ≡ None
no_device text lacks =
    let no : bytes_eq (take 3 text) (codes "SY:") ≡ false = false_from_ne_true (bytes_eq (take 3 text) (codes "SY:")) (λ e. third_lacks text lacks ((bytes_decides (take 3 text) (codes "SY:")).0 e)) in
    ap (λ b. cond b (Some (drop 3 text)) None) no

device_again : (device : Bool) (rest : List ℕ) → Lacks 58 rest → without_device (device_text device ++ rest) ≡ rest
device_again false rest lacks = ap (λ o. unwrap_or o rest) (no_device rest lacks)
device_again true rest lacks = ap (λ o. unwrap_or o (codes "SY:" ++ rest)) (behind_again (codes "SY:") rest)

-- the owner
behind_other : (byte b : ℕ) (text : List ℕ) → eqb b byte ≡ false → behind (byte ∷ []) (b ∷ text) ≡ None
behind_other byte b text other = rw other refl

abbrev HasHead : List ℕ → Type 0
HasHead text = (b : ℕ) × (rest : List ℕ) × (text ≡ b ∷ rest) × (is_capital_or_digit b ≡ true)

head_differs : (byte b : ℕ) → is_capital_or_digit byte ≡ false → is_capital_or_digit b ≡ true → eqb b byte ≡ false
head_differs byte b other good = (kind_lacks is_capital_or_digit byte other (b ∷ []) (rw good refl)).0

bracket_again : (a : Account) → IsPlace (Bracketed a) → (rest : List ℕ) → bracketed_in ((decimal a.project ++ 44 ∷ decimal a.programmer) ++ 93 ∷ rest) ≡ Some (a, rest)
unfolding bracketed_in
bracket_again a good rest =
    let p = decimal_lacks 93 a.project (λ r. omega arith) (omega arith) in
    let n = decimal_lacks 93 a.programmer (λ r. omega arith) (omega arith) in
    let first : cut 93 ((decimal a.project ++ 44 ∷ decimal a.programmer) ++ 93 ∷ rest) ≡ Some (decimal a.project ++ 44 ∷ decimal a.programmer, rest) = cut_again 93 (decimal a.project ++ 44 ∷ decimal a.programmer) rest (lacks_both 93 (decimal a.project) (44 ∷ decimal a.programmer) p (refl, n)) in
    let second : cut 44 (decimal a.project ++ 44 ∷ decimal a.programmer) ≡ Some (decimal a.project, decimal a.programmer) = cut_again 44 (decimal a.project) (decimal a.programmer) (decimal_lacks 44 a.project (λ r. omega arith) (omega arith)) in
    rw (first, second, number_again 1 254 a.project good.0 good.1 (omega arith), number_again 0 254 a.programmer (omega arith) good.2 (omega arith)) refl

owner_again : (own : Account) (p : OwnerPlace) → IsPlace p → (rest : List ℕ) → HasHead rest → owner_in own (place_text p ++ rest) ≡ Some (owner_of own p, rest)
owner_again own Untold good rest head =
    let dollar : behind (codes "$") (head.0 ∷ head.1) ≡ None = behind_other 36 head.0 head.1 (head_differs 36 head.0 refl head.3) in
    let bracket : behind (codes "[") (head.0 ∷ head.1) ≡ None = behind_other 91 head.0 head.1 (head_differs 91 head.0 refl head.3) in
    subst (λ (t : List ℕ). owner_in own t ≡ Some (own, t)) (sym head.2)
    (λ i. owner_behind own (head.0 ∷ head.1) (dollar i) (bracket i))
owner_again own Library good rest head = refl
owner_again own (Bracketed a) good rest head =
    ap (owner_in own) (brackets (decimal a.project) (decimal a.programmer) rest) ∙ bracket_again a good rest

-- the code
closed_again : (code : ℕ) → code ≤ 63 → closed_code (decimal code ++ 62 ∷ []) ≡ Some code
unfolding closed_code
closed_again code most =
    rw (cut_again 62 (decimal code) [] (decimal_lacks 62 code (λ r. omega arith) (omega arith)), number_again 0 63 code (omega arith) most (omega arith)) refl

code_again : (front : List ℕ) (c : Option ℕ) → Lacks 60 front → IsCode c → code_in (front ++ code_written c) ≡ Some (front, c)
code_again front None lacks good = rw (append-nil front, cut_nowhere 60 front lacks) refl
code_again front (Some code) lacks good =
    rw (cut_again 60 front (decimal code ++ 62 ∷ []) lacks, closed_again code good) refl

-- the extension
extension_again : (default stem : List ℕ) (x : Option (List ℕ)) → Lacks 46 stem → IsExtension x → extension_in default (stem ++ extension_written x) ≡ Some (unwrap_or x default)
extension_again default stem None lacks good = rw (append-nil stem, cut_nowhere 46 stem lacks) refl
extension_again default stem (Some text) lacks good = rw (cut_again 46 stem text lacks, good) refl

stem_again : (stem : List ℕ) (x : Option (List ℕ)) → Lacks 46 stem → stem_in (stem ++ extension_written x) ≡ stem
stem_again stem None lacks = rw (append-nil stem, cut_nowhere 46 stem lacks) refl
stem_again stem (Some text) lacks = rw (cut_again 46 stem text lacks) refl

stem_head : (stem more : List ℕ) → is_password stem ≡ true → HasHead (stem ++ more)
stem_head [] more good = absurd cc
stem_head (b ∷ stem) more good =
    (b, stem ++ more, refl, and_left (is_capital_or_digit b) (list_all is_capital_or_digit stem) (kind_of is_capital_or_digit 1 6 (b ∷ stem) good))

-- the whole
pub spec_again : (own : Account) (default : List ℕ) (w : Written) → IsWritten w → spec_in own default (written_text w) ≡ Some (spec_of own default w)
unfolding spec_in
spec_again own default w good =
    let front : List ℕ = w.stem ++ extension_written w.extension in
    let rest : List ℕ = front ++ code_written w.code in
    let no_colon : Lacks 58 (place_text w.place ++ rest) =
    lacks_both 58 (place_text w.place) rest (place_lacks_colon w.place good.place)
    (lacks_both 58 front (code_written w.code)
    (lacks_both 58 w.stem (extension_written w.extension) (stem_lacks 58 refl w.stem good.stem) (extension_lacks 58 refl refl w.extension good.extension))
    (code_lacks 58 (λ r. omega arith) refl refl w.code good.code)) in
    let no_angle : Lacks 60 front = lacks_both 60 w.stem (extension_written w.extension) (stem_lacks 60 refl w.stem good.stem) (extension_lacks 60 refl refl w.extension good.extension) in
    let no_point : Lacks 46 w.stem = stem_lacks 46 refl w.stem good.stem in
    let head : HasHead rest = subst HasHead (sym (append_assoc w.stem (extension_written w.extension) (code_written w.code))) (stem_head w.stem (extension_written w.extension ++ code_written w.code) good.stem) in
    ap (spec_in own default) (five (device_text w.device) (place_text w.place) w.stem (extension_written w.extension) (code_written w.code))
    ∙ rw (device_again w.device (place_text w.place ++ rest) no_colon, owner_again own w.place good.place rest head, code_again front w.code no_angle good.code, extension_again default w.stem w.extension no_point good.extension, stem_again w.stem w.extension no_point, good.stem) refl

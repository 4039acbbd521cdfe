-- What is read of a text is written there.
use Rattle.std.proofs.Common.{◌≡◌, ℕ, ◌≤◌, Bool, true, false, cond, eqb, List, [], ◌∷◌, ◌++◌, length, Option, Some, None, refl, sym, ap, subst, ◌∙◌, arith}
use Rattle.std.specs.Prelude.{◌&&◌, unwrap_or, nat_le, bytes_eq, codes}
use Rattle.std.specs.Fmt.{decimal}
use Rattle.std.specs.Str.Parse.{digits_value}
use Rattle.std.proofs.lemmas.Bool.{eqb-true, leb-true}
use Rattle.std.proofs.lemmas.List.{nil_from_length, append-nil, append_assoc}
use Rattle.basic_values.specs.Decimals.{number_between}
use Rattle.monitor_calls.specs.declared.names.Account.{Account}
use Rattle.monitor_calls.specs.Names.{is_password}
use Rattle.basic_values.specs.Cuts.{◌>>=◌, behind, cut}
use Rattle.basic_values.proofs.CutLaws.{bind_some, guard_some, behind_takes, cut_takes, and_left, and_right, number_takes, number_at_most}
use Rattle.file_names.specs.declared.spec.Spec.{Spec}
use Rattle.file_names.specs.Names.{OwnerPlace, Untold, Library, Bracketed, Written, device_text, place_text, extension_written, code_written, written_text, IsPlace, IsExtension, is_extension, IsCode, IsWritten, library, owner_of, spec_of}
use Rattle.file_names.specs.SpecFronts.{without_device, bracketed_in, owner_behind, owner_in, closed_code, code_behind, code_in, stem_before, stem_in, extension_behind, extension_in, spec_in}

some_is : {A : Type 0} (x y : A) → Some x ≡ Some y → x ≡ y
some_is x y e = cc

-- the device
device_cases : (text : List ℕ) (o : Option (List ℕ)) → behind (codes "SY:") text ≡ o → (device : Bool) × (device_text device ++ unwrap_or o text ≡ text)
device_cases text None e = (false, refl)
device_cases text (Some rest) e = (true, sym (behind_takes (codes "SY:") text rest e))

device_takes : (text : List ℕ) → (device : Bool) × (device_text device ++ without_device text ≡ text)
device_takes text = device_cases text (behind (codes "SY:") text) refl

-- the owner
abbrev TakesOwner : Account → List ℕ → Account × List ℕ → Type 0
TakesOwner own text r = (p : OwnerPlace) × IsPlace p × (owner_of own p ≡ r.0) × (place_text p ++ r.1 ≡ text)

number_at_least : (low high : ℕ) (text : List ℕ) (n : ℕ) → number_between low high text ≡ Some n → low ≤ n
number_at_least low high text n e =
    let v : ℕ = digits_value 10 text in
    let g = guard_some (bytes_eq text (decimal v) && nat_le low v && nat_le v high) v n e in
    let least : low ≤ v = leb-true low v (and_right (bytes_eq text (decimal v)) (nat_le low v) (and_left (bytes_eq text (decimal v) && nat_le low v) (nat_le v high) g.0)) in
    omega (arith, g.1)

pub brackets : (x y rest : List ℕ) → codes "[" ++ x ++ codes "," ++ y ++ codes "]" ++ rest ≡ codes "[" ++ ((x ++ 44 ∷ y) ++ 93 ∷ rest)
brackets x y rest =
    ap (λ t. 91 ∷ t) (append_assoc (x ++ 44 ∷ [] ++ y) (93 ∷ []) rest ∙ ap (λ t. t ++ 93 ∷ rest) (append_assoc x (44 ∷ []) y))

pub five : (d p s e c : List ℕ) → d ++ p ++ s ++ e ++ c ≡ d ++ (p ++ (s ++ e ++ c))
five d p s e c =
    ap (λ t. t ++ c) (append_assoc (d ++ p) s e) ∙ append_assoc (d ++ p) (s ++ e) c ∙ append_assoc d p (s ++ e ++ c)

bracket_takes : (own : Account) (inside text : List ℕ) (r : Account × List ℕ) → text ≡ codes "[" ++ inside → bracketed_in inside ≡ Some r → TakesOwner own text r
unfolding bracketed_in
bracket_takes own inside text r at e =
    let a = bind_some (cut 93 inside) (λ parts. cut 44 parts.0 >>= λ numbers. number_between 1 254 numbers.0 >>= λ project. number_between 0 254 numbers.1 >>= λ programmer. Some ((record { project = project; programmer = programmer }, parts.1))) r e in
    let b = bind_some (cut 44 a.0.0) (λ numbers. number_between 1 254 numbers.0 >>= λ project. number_between 0 254 numbers.1 >>= λ programmer. Some ((record { project = project; programmer = programmer }, a.0.1))) r a.2 in
    let c = bind_some (number_between 1 254 b.0.0) (λ project. number_between 0 254 b.0.1 >>= λ programmer. Some ((record { project = project; programmer = programmer }, a.0.1))) r b.2 in
    let d = bind_some (number_between 0 254 b.0.1) (λ programmer. Some ((record { project = c.0; programmer = programmer }, a.0.1))) r c.2 in
    let account : Account = record { project = c.0; programmer = d.0 } in
    let numbers : a.0.0 ≡ decimal c.0 ++ 44 ∷ decimal d.0 = cut_takes 44 a.0.0 b.0 b.1 ∙ (λ i. number_takes 1 254 b.0.0 c.0 c.1 i ++ 44 ∷ number_takes 0 254 b.0.1 d.0 d.1 i) in
    let whole : inside ≡ (decimal c.0 ++ 44 ∷ decimal d.0) ++ 93 ∷ a.0.1 = cut_takes 93 inside a.0 a.1 ∙ ap (λ t. t ++ 93 ∷ a.0.1) numbers in
    let is : (account, a.0.1) ≡ r = some_is (account, a.0.1) r d.2 in
    subst (λ (x : Account × List ℕ). TakesOwner own text x) is
    (Bracketed account, (number_at_least 1 254 b.0.0 c.0 c.1, number_at_most 1 254 b.0.0 c.0 c.1, number_at_most 0 254 b.0.1 d.0 d.1), refl, brackets (decimal c.0) (decimal d.0) a.0.1 ∙ ap (λ t. codes "[" ++ t) (sym whole) ∙ sym at)

owner_cases : (own : Account) (text : List ℕ) (r : Account × List ℕ) (d b : Option (List ℕ)) → behind (codes "$") text ≡ d → behind (codes "[") text ≡ b → owner_behind own text d b ≡ Some r → TakesOwner own text r
owner_cases own text r (Some rest) b ed eb e =
    subst (λ (x : Account × List ℕ). TakesOwner own text x) (some_is (library, rest) r e) (Library, tt, refl, sym (behind_takes (codes "$") text rest ed))
owner_cases own text r None (Some inside) ed eb e = bracket_takes own inside text r (behind_takes (codes "[") text inside eb) e
owner_cases own text r None None ed eb e =
    subst (λ (x : Account × List ℕ). TakesOwner own text x) (some_is (own, text) r e) (Untold, tt, refl, refl)

owner_takes : (own : Account) (text : List ℕ) (r : Account × List ℕ) → owner_in own text ≡ Some r → TakesOwner own text r
owner_takes own text r e = owner_cases own text r (behind (codes "$") text) (behind (codes "[") text) refl refl e

-- the code
closed_takes : (text : List ℕ) (code : ℕ) → closed_code text ≡ Some code → (code ≤ 63) × (text ≡ decimal code ++ codes ">")
unfolding closed_code
closed_takes text code e =
    let a = bind_some (cut 62 text) (λ parts. number_between 0 63 parts.0 >>= λ code. cond (eqb (length parts.1) 0) (Some code) None) code e in
    let b = bind_some (number_between 0 63 a.0.0) (λ code. cond (eqb (length a.0.1) 0) (Some code) None) code a.2 in
    let g = guard_some (eqb (length a.0.1) 0) b.0 code b.2 in
    let nothing : a.0.1 ≡ [] = nil_from_length a.0.1 (eqb-true (length a.0.1) 0 g.0) in
    let most : b.0 ≤ 63 = number_at_most 0 63 a.0.0 b.0 b.1 in
    subst (λ n. (n ≤ 63) × (text ≡ decimal n ++ codes ">")) g.1
    (most, cut_takes 62 text a.0 a.1 ∙ (λ i. number_takes 0 63 a.0.0 b.0 b.1 i ++ 62 ∷ nothing i))

abbrev TakesCode : List ℕ → List ℕ × Option ℕ → Type 0
TakesCode text r = IsCode r.1 × (r.0 ++ code_written r.1 ≡ text)

code_cases : (text : List ℕ) (r : List ℕ × Option ℕ) (o : Option (List ℕ × List ℕ)) → cut 60 text ≡ o → code_behind text o ≡ Some r → TakesCode text r
code_cases text r None eo e =
    subst (λ (x : List ℕ × Option ℕ). TakesCode text x) (some_is (text, None) r e) (tt, append-nil text)
code_cases text r (Some parts) eo e =
    let a = bind_some (closed_code parts.1) (λ code. Some (parts.0, Some code)) r e in
    let c = closed_takes parts.1 a.0 a.1 in
    subst (λ (x : List ℕ × Option ℕ). TakesCode text x) (some_is (parts.0, Some a.0) r a.2)
    (c.0, sym (cut_takes 60 text parts eo ∙ ap (λ t. parts.0 ++ 60 ∷ t) c.1))

code_takes : (text : List ℕ) (r : List ℕ × Option ℕ) → code_in text ≡ Some r → TakesCode text r
code_takes text r e = code_cases text r (cut 60 text) refl e

-- the extension
abbrev TakesExtension : List ℕ → List ℕ → List ℕ → List ℕ → Type 0
TakesExtension default text stem r = (x : Option (List ℕ)) × IsExtension x × (unwrap_or x default ≡ r) × (stem ++ extension_written x ≡ text)

extension_cases : (default text r : List ℕ) (o : Option (List ℕ × List ℕ)) → cut 46 text ≡ o → extension_behind default o ≡ Some r → TakesExtension default text (stem_before text o) r
extension_cases default text r None eo e = (None, tt, some_is default r e, append-nil text)
extension_cases default text r (Some parts) eo e =
    let g = guard_some (is_extension parts.1) parts.1 r e in
    (Some parts.1, g.0, g.1, sym (cut_takes 46 text parts eo))

extension_takes : (default text r : List ℕ) → extension_in default text ≡ Some r → TakesExtension default text (stem_in text) r
extension_takes default text r e = extension_cases default text r (cut 46 text) refl e

-- the whole
pub record Takes (own : Account) (default text : List ℕ) (spec : Spec) : Type 0 where
  pub written : Written
  pub proper : IsWritten written
  pub says : written_text written ≡ text
  pub means : spec_of own default written ≡ spec

pub spec_takes : (own : Account) (default text : List ℕ) (spec : Spec) → spec_in own default text ≡ Some spec → Takes own default text spec
unfolding spec_in
spec_takes own default text spec e =
    let o = bind_some (owner_in own (without_device text)) (λ owned. code_in owned.1 >>= λ coded. extension_in default coded.0 >>= λ extension. cond (is_password (stem_in coded.0)) (Some (record { name = record { owner = owned.0; stem = stem_in coded.0; extension = extension }; code = coded.1 })) None) spec e in
    let c = bind_some (code_in o.0.1) (λ coded. extension_in default coded.0 >>= λ extension. cond (is_password (stem_in coded.0)) (Some (record { name = record { owner = o.0.0; stem = stem_in coded.0; extension = extension }; code = coded.1 })) None) spec o.2 in
    let x = bind_some (extension_in default c.0.0) (λ extension. cond (is_password (stem_in c.0.0)) (Some (record { name = record { owner = o.0.0; stem = stem_in c.0.0; extension = extension }; code = c.0.1 })) None) spec c.2 in
    let made : Spec = record { name = record { owner = o.0.0; stem = stem_in c.0.0; extension = x.0 }; code = c.0.1 } in
    let g = guard_some (is_password (stem_in c.0.0)) made spec x.2 in
    let d = device_takes text in
    let p = owner_takes own (without_device text) o.0 o.1 in
    let k = code_takes o.0.1 c.0 c.1 in
    let n = extension_takes default c.0.0 x.0 x.1 in
    let w : Written = record { device = d.0; place = p.0; stem = stem_in c.0.0; extension = n.0; code = c.0.1 } in
    record {
      written = w;
      proper = record { place = p.1; stem = g.0; extension = n.1; code = k.0 };
      says = five (device_text d.0) (place_text p.0) (stem_in c.0.0) (extension_written n.0) (code_written c.0.1)
          ∙ ap (λ t. device_text d.0 ++ (place_text p.0 ++ (t ++ code_written c.0.1))) n.3
          ∙ ap (λ t. device_text d.0 ++ (place_text p.0 ++ t)) k.1 ∙ ap (λ t. device_text d.0 ++ t) p.3 ∙ d.1;
      means = (λ i. record { name = record { owner = p.2 i; stem = stem_in c.0.0; extension = n.2 i }; code = c.0.1 }) ∙ g.1;
    }

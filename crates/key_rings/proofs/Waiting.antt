-- Keys that are typed one after another, and keys that move into a ring.
use Rattle.std.proofs.Common.{◌≡◌, ℕ, zero, suc, ◌+◌, ◌<◌, List, [], ◌∷◌, ◌++◌, refl, sym, ap, subst, ◌∙◌, append_assoc, arith}
use Rattle.std.specs.Prelude.{Bool, true, false, IsTrue, ◌↔◌, Some, None}
use Rattle.key_rings.specs.Rings.{Key, NotOver, is_over, ends_once, key_weight, weight}
use Rattle.key_rings.proofs.Keys.{IsNot}

-- the keys before another are not over
pub before_key : (keys : List Key) (key : Key) (more : List Key) → ends_once (keys ++ key ∷ more) ≡ true → NotOver keys
before_key [] key more is = tt
before_key (Some line ∷ keys) key more is = before_key keys key more is
before_key (None ∷ []) key more is = absurd (subst IsNot is tt)
before_key (None ∷ other ∷ keys) key more is = absurd (subst IsNot is tt)

-- one key more, unless they are over
pub once_more : (keys : List Key) (key : Key) → is_over keys ≡ false → ends_once (keys ++ key ∷ []) ≡ true
once_more [] (Some line) is = refl
once_more [] None is = refl
once_more (Some line ∷ keys) key is = once_more keys key is
once_more (None ∷ keys) key is = absurd (subst IsNot (sym is) tt)

pub line_more : (keys : List Key) (line : List ℕ) → is_over keys ≡ false → is_over (keys ++ Some line ∷ []) ≡ false
line_more [] line is = refl
line_more (Some other ∷ keys) line is = line_more keys line is
line_more (None ∷ keys) line is = is

pub end_more : (keys : List Key) → is_over (keys ++ None ∷ []) ≡ true
end_more [] = refl
end_more (Some other ∷ keys) = end_more keys
end_more (None ∷ keys) = refl

weight_on : (keys : List Key) (key : Key) → weight (keys ++ key ∷ []) ≡ weight keys + key_weight key
weight_on [] key = omega (arith)
weight_on (first ∷ keys) key = let h : weight (keys ++ key ∷ []) ≡ weight keys + key_weight key = weight_on keys key in omega (arith, h)

-- the fields of keys that wait, after one key more
pub more_once : (sent waiting waiting' : List Key) (key : Key) → waiting' ≡ waiting ++ key ∷ [] → is_over (sent ++ waiting) ≡ false → ends_once (sent ++ waiting') ≡ true
more_once sent waiting waiting' key is open_so = ap (λ (l : List Key). ends_once (sent ++ l)) is ∙ ap ends_once (sym (append_assoc sent waiting (key ∷ []))) ∙ once_more (sent ++ waiting) key open_so

pub more_line : (sent waiting waiting' : List Key) (line : List ℕ) → waiting' ≡ waiting ++ Some line ∷ [] → is_over (sent ++ waiting) ≡ false → is_over (sent ++ waiting') ≡ false
more_line sent waiting waiting' line is open_so = ap (λ (l : List Key). is_over (sent ++ l)) is ∙ ap is_over (sym (append_assoc sent waiting (Some line ∷ []))) ∙ line_more (sent ++ waiting) line open_so

pub more_end : (sent waiting waiting' : List Key) → waiting' ≡ waiting ++ None ∷ [] → is_over (sent ++ waiting') ≡ true
more_end sent waiting waiting' is = ap (λ (l : List Key). is_over (sent ++ l)) is ∙ ap is_over (sym (append_assoc sent waiting (None ∷ []))) ∙ end_more (sent ++ waiting)

pub more_weight : (waiting waiting' : List Key) (key : Key) → waiting' ≡ waiting ++ key ∷ [] → weight waiting' ≡ weight waiting + key_weight key
more_weight waiting waiting' key is = ap weight is ∙ weight_on waiting key

pub more_typed : (sent waiting waiting' : List Key) (key : Key) → waiting' ≡ waiting ++ key ∷ [] → sent ++ waiting' ≡ (sent ++ waiting) ++ key ∷ []
more_typed sent waiting waiting' key is = ap (λ (l : List Key). sent ++ l) is ∙ sym (append_assoc sent waiting (key ∷ []))

-- the first of the keys that wait goes into the ring
pub moved_typed : (sent sent' waiting waiting' : List Key) (key : Key) → waiting ≡ key ∷ waiting' → sent' ≡ sent ++ key ∷ [] → sent' ++ waiting' ≡ sent ++ waiting
moved_typed sent sent' waiting waiting' key is into = ap (λ (l : List Key). l ++ waiting') into ∙ append_assoc sent (key ∷ []) waiting' ∙ ap (λ (l : List Key). sent ++ l) (sym is)

pub pushes : (sent' sent waiting waiting' all : List Key) (key : Key) → sent' ≡ sent → waiting ≡ key ∷ waiting' → sent ++ waiting ≡ all → ends_once all ≡ true → NotOver sent'
pushes sent' sent waiting waiting' all key same is typed once =
    before_key sent' key waiting' (ap (λ (l : List Key). ends_once (l ++ key ∷ waiting')) same ∙ ap (λ (l : List Key). ends_once (sent ++ l)) (sym is) ∙ ap ends_once typed ∙ once)

pub free_slot : (free : ℕ) (full : Bool) → full ≡ false → (IsTrue full ↔ (free ≡ 0)) → 0 < free
free_slot zero full is means = absurd (subst IsNot (sym is ∙ means.1 refl) tt)
free_slot (suc free) full is means = omega (arith)

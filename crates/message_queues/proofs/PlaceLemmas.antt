-- The place of a receiver, and what the receivers are when the queue there changes.
use Rattle.std.proofs.Common.{◌≡◌, ℕ, ◌+◌, ◌<◌, zero, suc, Bool, true, false, cond, List, [], ◌∷◌, length, filter, get_or, set, slice_get, drop, position, Some, None, refl, sym, ap, ◌∙◌, subst, arith}
use Rattle.std.specs.Prelude.{Option, not, is_some, unwrap_or, ◌==◌}
use Rattle.std.specs.List.{find, position_from}
use Rattle.std.proofs.lemmas.Bool.{ne_eqb}
use Rattle.std.proofs.lemmas.Iterator.Adapters.{position_from-zero}
use Rattle.monitor_model.specs.declared.entries.Letter.{Letter}
use Rattle.monitor_model.specs.Queues.{Receiver, is_of, receiver_of, letters_of, no_receiver, drop_receiver, change_first, without_oldest, receive}
use Rattle.message_queues.specs.declared.queues.Queue.{Queue}
use Rattle.message_queues.specs.Kept.{shown, shown_all}

-- the first queue of a kind is at the place, or none is of the kind
abbrev pub IsFirst : (Receiver → Bool) → List Queue → ℕ → Type 0
IsFirst kind [] place = ⊥
IsFirst kind (queue ∷ queues) zero = kind (shown queue) ≡ true
IsFirst kind (queue ∷ queues) (suc place) = (kind (shown queue) ≡ false) × IsFirst kind queues place

abbrev pub IsNowhere : (Receiver → Bool) → List Queue → Type 0
IsNowhere kind [] = Unit {0}
IsNowhere kind (queue ∷ queues) = (kind (shown queue) ≡ false) × IsNowhere kind queues

abbrev pub IsPlaceOf : (Receiver → Bool) → List Queue → Option ℕ → Type 0
IsPlaceOf kind queues None = IsNowhere kind queues
IsPlaceOf kind queues (Some place) = IsFirst kind queues place

module _ (kind : Receiver → Bool) where
  abbrev test : Queue → Bool
  test queue = kind (shown queue)

  -- the place that a search from n on gives
  abbrev IsBack : ℕ → List Queue → Option ℕ → Type 0
  IsBack n qs None = IsNowhere kind qs
  IsBack n qs (Some k) = (i : ℕ) × ((k ≡ n + i) × IsFirst kind qs i)

  back : (n : ℕ) (qs : List Queue) (o : Option ℕ) → o ≡ position_from test n qs → IsBack n qs o
  back n [] None e = tt
  back n [] (Some k) e = absurd (cc)
  back n (q ∷ qs) o e =
      elim (test q) as (λ v. test q ≡ v → o ≡ cond v (Some n) (position_from test (n + 1) qs) → IsBack n (q ∷ qs) o) [
        | true ↦ λ is e. here o is e
        | false ↦ λ is e. there o is (back (n + 1) qs o e)
      ] refl e where
        here : (o : Option ℕ) → test q ≡ true → o ≡ Some n → IsBack n (q ∷ qs) o
        here None is e = absurd (cc)
        here (Some k) is e = let same : k ≡ n = cc in (zero, (omega (arith, same), is))

        there : (o : Option ℕ) → test q ≡ false → IsBack (n + 1) qs o → IsBack n (q ∷ qs) o
        there None is h = (is, h)
        there (Some k) is h = (suc h.0, (omega (arith, h.1.0), (is, h.1.1)))

  pub is_place : (qs : List Queue) (o : Option ℕ) → o ≡ position test qs → IsPlaceOf kind qs o
  is_place qs None e = back 0 qs None (e ∙ position_from-zero test qs)
  is_place qs (Some k) e =
      let b = back 0 qs (Some k) (e ∙ position_from-zero test qs) in
      let same : b.0 ≡ k = omega (arith, b.1.0) in
      subst (IsFirst kind qs) same b.1.1

  pub first_within : (qs : List Queue) (i : ℕ) → IsFirst kind qs i → i < length qs
  first_within [] i f = absurd f
  first_within (q ∷ qs) zero f = omega arith
  first_within (q ∷ qs) (suc i) f = let r = first_within qs i f.1 in omega (arith, r)

  pub find-first : (qs : List Queue) (i : ℕ) (d : Queue) → IsFirst kind qs i → find kind (shown_all qs) ≡ Some (shown (get_or qs i d))
  find-first [] i d f = absurd f
  find-first (q ∷ qs) zero d f = ap (λ v. cond v (Some (shown q)) (find kind (shown_all qs))) f
  find-first (q ∷ qs) (suc i) d f = ap (λ v. cond v (Some (shown q)) (find kind (shown_all qs))) f.0 ∙ find-first qs i d f.1

  pub find-nowhere : (qs : List Queue) → IsNowhere kind qs → find kind (shown_all qs) ≡ None
  find-nowhere [] f = refl
  find-nowhere (q ∷ qs) f = ap (λ v. cond v (Some (shown q)) (find kind (shown_all qs))) f.0 ∙ find-nowhere qs f.1

  pub is_some-place : (qs : List Queue) (o : Option ℕ) → IsPlaceOf kind qs o → is_some o ≡ is_some (find kind (shown_all qs))
  is_some-place qs None f = sym (ap is_some (find-nowhere qs f))
  is_some-place [] (Some i) f = absurd f
  is_some-place (q ∷ qs) (Some i) f = sym (ap is_some (find-first (q ∷ qs) i q f))

  module _ (change : Receiver → Receiver) where
    pub change-first : (qs : List Queue) (i : ℕ) (d w : Queue) → IsFirst kind qs i → shown w ≡ change (shown (get_or qs i d)) → shown_all (set qs i w) ≡ change_first kind change (shown_all qs)
    change-first [] i d w f e = absurd f
    change-first (q ∷ qs) zero d w f e =
        ap (λ r. r ∷ shown_all qs) e ∙ sym (ap (λ v. cond v (change (shown q) ∷ shown_all qs) (shown q ∷ change_first kind change (shown_all qs))) f)
    change-first (q ∷ qs) (suc i) d w f e =
        ap (λ rs. shown q ∷ rs) (change-first qs i d w f.1 e) ∙ sym (ap (λ v. cond v (change (shown q) ∷ shown_all qs) (shown q ∷ change_first kind change (shown_all qs))) f.0)

    pub change-nowhere : (rs : List Receiver) → find kind rs ≡ None → change_first kind change rs ≡ rs
    change-nowhere [] e = refl
    change-nowhere (r ∷ rs) e =
        elim (kind r) as (λ v. cond v (Some r) (find kind rs) ≡ None → cond v (change r ∷ rs) (r ∷ change_first kind change rs) ≡ r ∷ rs) [
          | true ↦ λ e. absurd (cc)
          | false ↦ λ e. ap (λ rs. r ∷ rs) (change-nowhere rs e)
        ] e

    -- a change of the first that leaves it
    pub change-same : (rs : List Receiver) (r : Receiver) → find kind rs ≡ Some r → change r ≡ r → change_first kind change rs ≡ rs
    change-same [] r e same = absurd (cc)
    change-same (s ∷ rs) r e same =
        elim (kind s) as (λ v. cond v (Some s) (find kind rs) ≡ Some r → cond v (change s ∷ rs) (s ∷ change_first kind change rs) ≡ s ∷ rs) [
          | true ↦ λ e. let one : s ≡ r = cc in ap (λ x. x ∷ rs) (ap change one ∙ same ∙ sym one)
          | false ↦ λ e. ap (λ rs. s ∷ rs) (change-same rs r e same)
        ] e

pub filter-shown : (qs : List Queue) (job : ℕ) → shown_all (filter (λ (q : Queue). not (q.job == job)) qs) ≡ drop_receiver (shown_all qs) job
filter-shown [] job = refl
filter-shown (q ∷ qs) job =
    elim (not (q.job == job)) as (λ v. shown_all (cond v (q ∷ filter (λ (x : Queue). not (x.job == job)) qs) (filter (λ (x : Queue). not (x.job == job)) qs)) ≡ cond v (shown q ∷ drop_receiver (shown_all qs) job) (drop_receiver (shown_all qs) job)) [
      | true ↦ ap (λ rs. shown q ∷ rs) (filter-shown qs job)
      | false ↦ filter-shown qs job
    ]

-- no letter is taken if none waits
no_letter : (letters : List Letter) → slice_get letters 0 ≡ None → drop 1 letters ≡ letters
no_letter [] e = refl
no_letter (l ∷ ls) e = absurd (cc)

pub receive-none : (rs : List Receiver) (job : ℕ) → slice_get (letters_of rs job) 0 ≡ None → receive rs job ≡ rs
receive-none rs job e = by (receiver_of rs job) refl where
  by : (o : Option Receiver) → receiver_of rs job ≡ o → receive rs job ≡ rs
  by None none = change-nowhere (is_of job) without_oldest rs none
  by (Some r) some =
      let empty : drop 1 r.letters ≡ r.letters = no_letter r.letters (ap (λ o. slice_get (unwrap_or o no_receiver).letters 0) (sym some) ∙ e) in
      change-same (is_of job) without_oldest rs r some (λ i. record { name = r.name; job = r.job; most = r.most; letters = empty i })

pub is_empty : (letters : List Letter) → (length letters == 0) ≡ not (is_some (slice_get letters 0))
is_empty [] = refl
is_empty (l ∷ ls) = ne_eqb _ _ (λ e. omega (arith, e))

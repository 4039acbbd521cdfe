-- Laws of what is typed and of the key lines in a list of events.
use Rattle.std.proofs.Common.{◌≡◌, ℕ, zero, suc, ◌≤◌, List, [], ◌∷◌, ◌++◌, length, refl, sym, ap, subst, ◌∙◌, length-append, arith}
use Rattle.std.specs.Prelude.{Option, Some, None}
use Rattle.monitor_calls.specs.declared.events.Event.{Event}
use Rattle.monitor_calls.specs.declared.events.Event.TheVariants.{Asked, Typed}
use Rattle.monitor_calls.specs.Pairs.{Pair, pairs_of}
use Rattle.monitor_calls.specs.Typing.{Typing, Line, Over, Open, IsOpen, goes_on, TypedOn, lines_in, keys_in, first_keys, AreTyped}

abbrev Key : Type 0
Key = Option (List ℕ)

-- CONSECUTIVE EVENTS

pub keys_on : (events more : List Event) → keys_in (events ++ more) ≡ keys_in events ++ keys_in more
keys_on [] more = refl
keys_on (Asked r x ∷ events) more = keys_on events more
keys_on (Typed key ∷ events) more = ap (λ (l : List Key). key ∷ l) (keys_on events more)

pub pairs_on : (events more : List Event) → pairs_of (events ++ more) ≡ pairs_of events ++ pairs_of more
pairs_on [] more = refl
pairs_on (Asked r x ∷ events) more = ap (λ (l : List Pair). (r, x) ∷ l) (pairs_on events more)
pairs_on (Typed key ∷ events) more = pairs_on events more

-- THE NEXT KEY LINE

-- the first key that is typed, and what is left
abbrev pub NextKey : Typing → Key → Typing → Type 0
NextKey (Line line keys) key left = (key ≡ Some line) × (left ≡ keys)
NextKey Over key left = (key ≡ None) × (left ≡ Over)
NextKey Open key left = ⊥

abbrev first_or : Key → List Key → Key
first_or key [] = key
first_or key (first ∷ keys) = first

abbrev but_first : List Key → List Key
but_first [] = []
but_first (first ∷ keys) = keys

pub next_typed : (keys : Typing) (key : Key) (events : List Event) → AreTyped keys (Typed key ∷ events) → (left : Typing) × NextKey keys key left × AreTyped left events
next_typed (Line line keys) key events are = (keys, (ap (first_or key) are, refl), ap but_first are)
next_typed Over key events are = (Over, (ap (first_or key) are, refl), ap but_first are)
next_typed Open key events are = absurd (let h : suc (length (keys_in events)) ≡ 0 = ap length are in omega (arith, h))

-- MORE IS TYPED

-- what is typed later does not change the first keys
first_grow : (n : ℕ) (keys more : Typing) → length (first_keys n keys) ≡ n → first_keys n (goes_on keys more) ≡ first_keys n keys
first_grow zero keys more all = refl
first_grow (suc n) (Line line keys) more all = ap (λ (l : List Key). Some line ∷ l) (first_grow n keys more (omega (arith, all)))
first_grow (suc n) Over more all = refl
first_grow (suc n) Open more all = absurd (omega (arith, all))

pub typed_grows : (keys more : Typing) (events : List Event) → AreTyped keys events → AreTyped (goes_on keys more) events
typed_grows keys more events are = are ∙ sym (first_grow (length (keys_in events)) keys more (sym (ap length are)))

first_over : (n : ℕ) → first_keys (suc n) Over ≡ first_keys n Over ++ None ∷ []
first_over zero = refl
first_over (suc n) = ap (λ (l : List Key). None ∷ l) (first_over n)

-- one more key is typed, after all the others were taken
first_on : (n : ℕ) (keys keys' : Typing) (key : Key) → length (first_keys n keys) ≡ n → lines_in keys ≤ n → TypedOn keys key keys' → first_keys (suc n) keys' ≡ first_keys n keys ++ key ∷ []
first_on n keys keys' (Some line) all taken on = ap (first_keys (suc n)) on.1 ∙ go n keys all taken on.0
  where
    go : (n : ℕ) (keys : Typing) → length (first_keys n keys) ≡ n → lines_in keys ≤ n → IsOpen keys → first_keys (suc n) (goes_on keys (Line line Open)) ≡ first_keys n keys ++ Some line ∷ []
    go zero (Line other keys) all taken is = absurd (omega (arith, taken))
    go (suc n) (Line other keys) all taken is = ap (λ (l : List Key). Some other ∷ l) (go n keys (omega (arith, all)) (omega (arith, taken)) is)
    go n Over all taken is = absurd is
    go zero Open all taken is = refl
    go (suc n) Open all taken is = absurd (omega (arith, all))
first_on n keys keys' None all taken on = ap (first_keys (suc n)) on ∙ go n keys all taken
  where
    go : (n : ℕ) (keys : Typing) → length (first_keys n keys) ≡ n → lines_in keys ≤ n → first_keys (suc n) (goes_on keys Over) ≡ first_keys n keys ++ None ∷ []
    go zero (Line other keys) all taken = absurd (omega (arith, taken))
    go (suc n) (Line other keys) all taken = ap (λ (l : List Key). Some other ∷ l) (go n keys (omega (arith, all)) (omega (arith, taken)))
    go n Over all taken = first_over n
    go zero Open all taken = refl
    go (suc n) Open all taken = absurd (omega (arith, all))

pub lines_on : (keys : Typing) → lines_in (goes_on keys Over) ≤ lines_in keys
lines_on (Line line keys) = let h = lines_on keys in omega (arith, h)
lines_on Over = omega arith
lines_on Open = omega arith

lines_one : (line : List ℕ) (keys : Typing) → lines_in (goes_on keys (Line line Open)) ≤ suc (lines_in keys)
lines_one line (Line other keys) = let h = lines_one line keys in omega (arith, h)
lines_one line Over = omega arith
lines_one line Open = omega arith

pub typed_lines : (keys keys' : Typing) (key : Key) → TypedOn keys key keys' → lines_in keys' ≤ suc (lines_in keys)
typed_lines keys keys' (Some line) on = subst (λ (k : Typing). lines_in k ≤ suc (lines_in keys)) (sym on.1) (lines_one line keys)
typed_lines keys keys' None on = subst (λ (k : Typing). lines_in k ≤ suc (lines_in keys)) (sym on) (let h = lines_on keys in omega (arith, h))

pub typed_more : (keys keys' : Typing) (key : Key) (events : List Event) → AreTyped keys events → lines_in keys ≤ length (keys_in events) → TypedOn keys key keys' → AreTyped keys' (events ++ Typed key ∷ [])
typed_more keys keys' key events are taken on =
    let n = length (keys_in events) in
    let more : keys_in (events ++ Typed key ∷ []) ≡ keys_in events ++ key ∷ [] = keys_on events (Typed key ∷ []) in
    let count : length (keys_in (events ++ Typed key ∷ [])) ≡ suc n = ap length more ∙ omega (arith, length-append (keys_in events) (key ∷ [])) in
    more ∙ ap (λ (l : List Key). l ++ key ∷ []) are ∙ sym (first_on n keys keys' key (sym (ap length are)) taken on) ∙ ap (λ (m : ℕ). first_keys m keys') (sym count)

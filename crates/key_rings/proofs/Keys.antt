-- What comes out of a ring, as what is typed.
use Rattle.std.proofs.Common.{◌≡◌, ℕ, List, [], ◌∷◌, ◌++◌, refl, sym, ap, subst, ◌∙◌}
use Rattle.std.specs.Prelude.{Bool, true, false, not, is_some, Some, None}
use Rattle.monitor_calls.specs.Typing.{Line, Over, Open, IsOpen, goes_on, TypedOn}
use Rattle.key_rings.specs.Rings.{Key, NotOver, typed_by, is_over}

open_by : (keys : List Key) → NotOver keys → IsOpen (typed_by keys)
open_by [] h = tt
open_by (Some line ∷ keys) h = open_by keys h
open_by (None ∷ keys) h = absurd h

line_by : (keys : List Key) (line : List ℕ) → NotOver keys → typed_by (keys ++ Some line ∷ []) ≡ goes_on (typed_by keys) (Line line Open)
line_by [] line h = refl
line_by (Some other ∷ keys) line h = ap (Line other) (line_by keys line h)
line_by (None ∷ keys) line h = absurd h

none_by : (keys : List Key) → typed_by (keys ++ None ∷ []) ≡ goes_on (typed_by keys) Over
none_by [] = refl
none_by (Some line ∷ keys) = ap (Line line) (none_by keys)
none_by (None ∷ keys) = refl

pub came_out : (keys keys' : List Key) (key : Key) → keys' ≡ keys ++ key ∷ [] → NotOver keys → TypedOn (typed_by keys) key (typed_by keys')
came_out keys keys' (Some line) is h = (open_by keys h, ap typed_by is ∙ line_by keys line h)
came_out keys keys' None is h = ap typed_by is ∙ none_by keys

abbrev pub IsNot : Bool → Type 0
IsNot true = ⊥
IsNot false = Unit {0}

pub none_again : (keys : List Key) → is_over keys ≡ true → TypedOn (typed_by keys) None (typed_by keys)
none_again [] is = absurd (subst IsNot is tt)
none_again (Some line ∷ keys) is = ap (Line line) (none_again keys is)
none_again (None ∷ keys) is = refl

pub over_out : (keys keys' : List Key) (key : Key) → keys' ≡ keys ++ key ∷ [] → key ≡ None → is_over keys' ≡ true
over_out keys keys' key is none = ap is_over (is ∙ ap (λ (k : Key). keys ++ k ∷ []) none) ∙ go keys
  where
    go : (keys : List Key) → is_over (keys ++ None ∷ []) ≡ true
    go [] = refl
    go (Some line ∷ keys) = go keys
    go (None ∷ keys) = refl

pub is_end : (key : Key) (none : Bool) → is_some key ≡ not none → none ≡ true → key ≡ None
is_end None none is over = refl
is_end (Some line) none is over = absurd (subst IsNot (sym (is ∙ ap not over)) tt)

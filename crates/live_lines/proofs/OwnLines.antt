-- Each terminal gets its own lines.
use Rattle.std.proofs.Common.{◌≡◌, ℕ, zero, suc, ◌<◌, List, [], ◌∷◌, ◌++◌, length, refl, sym, ap, ◌∙◌, append_assoc, append-nil, arith, eq-eqb}
use Rattle.std.proofs.lemmas.Bool.{eqb-true}
use Rattle.std.specs.Prelude.{Bool, true, false, if◌then◌else◌, ◌==◌}
use Rattle.live_lines.specs.LiveLines.{keys_for}
use Rattle.live_lines.specs.Dealing.{Key, dealt, all_dealt, keys_at, OwnLines}

here_dealt : (place : ℕ) (key : Key) (terminals : List (List Key)) → place < length terminals → keys_at place (dealt place key terminals) ≡ keys_at place terminals ++ key ∷ []
here_dealt place key [] lt = absurd (omega (arith, lt))
here_dealt zero key (keys ∷ rest) lt = refl
here_dealt (suc place) key (keys ∷ rest) lt = here_dealt place key rest (omega (arith, lt))

there_dealt : (place other : ℕ) (key : Key) (terminals : List (List Key)) → (other ≡ place → ⊥) → keys_at place (dealt other key terminals) ≡ keys_at place terminals
there_dealt place other key [] nay = refl
there_dealt zero zero key (keys ∷ rest) nay = absurd (nay refl)
there_dealt zero (suc other) key (keys ∷ rest) nay = refl
there_dealt (suc place) zero key (keys ∷ rest) nay = refl
there_dealt (suc place) (suc other) key (keys ∷ rest) nay = there_dealt place other key rest (λ h. nay (ap suc h))

same_count : (place : ℕ) (key : Key) (terminals : List (List Key)) → length (dealt place key terminals) ≡ length terminals
same_count place key [] = refl
same_count zero key (keys ∷ rest) = refl
same_count (suc place) key (keys ∷ rest) = ap suc (same_count place key rest)

pub own_lines : OwnLines
own_lines place [] terminals lt = sym (append-nil (keys_at place terminals))
own_lines place (one ∷ more) terminals lt = go (own_lines place more (dealt one.0 one.1 terminals) (omega (arith, lt, same_count one.0 one.1 terminals))) (one.0 == place) refl
  where
    go : keys_at place (all_dealt more (dealt one.0 one.1 terminals)) ≡ keys_at place (dealt one.0 one.1 terminals) ++ keys_for place more
        → (b : Bool) → (one.0 == place) ≡ b → keys_at place (all_dealt more (dealt one.0 one.1 terminals)) ≡ keys_at place terminals ++ (if b then one.1 ∷ keys_for place more else keys_for place more)
    go rest true is =
        let same : one.0 ≡ place = eqb-true one.0 place is in
        rest ∙ ap (λ (l : List Key). l ++ keys_for place more) (ap (λ (n : ℕ). keys_at place (dealt n one.1 terminals)) same ∙ here_dealt place one.1 terminals lt)
        ∙ append_assoc (keys_at place terminals) (one.1 ∷ []) (keys_for place more)
    go rest false is =
        let apart : one.0 ≡ place → ⊥ = λ e. let h : (one.0 == place) ≡ true = eq-eqb one.0 place e in absurd cc in
        rest ∙ ap (λ (l : List Key). l ++ keys_for place more) (there_dealt place one.0 one.1 terminals apart)

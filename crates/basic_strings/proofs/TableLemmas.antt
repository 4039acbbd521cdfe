-- One more byte of a string that is looked up in a table.
use Rattle.std.proofs.Common.{◌≡◌, ℕ, ◌+◌, ◌<◌, List, [], ◌∷◌, ◌++◌, length, take, get_or, sym, ap, ◌∙◌}
use Rattle.std.specs.Prelude.{◌==◌, if◌then◌else◌, slice_index}
use Rattle.std.proofs.lemmas.Bool.{eq-eqb, ne_eqb}
use Rattle.std.proofs.lemmas.List.{append-nil, flat_map_more, take_more}
use Rattle.basic_strings.specs.Translations.{looked_up, translated}

module _ (table text : List ℕ) (i found : ℕ) (within : i < length text) (is : found ≡ slice_index table (get_or text i 0)) where
  more : translated table (take (i + 1) text) ≡ translated table (take i text) ++ looked_up table (get_or text i 0)
  more = ap (translated table) (take_more text i 0 within) ∙ sym (flat_map_more (looked_up table) [] (take i text) (get_or text i 0))

  pub translated_found : (found ≡ 0 → ⊥) → translated table (take (i + 1) text) ≡ translated table (take i text) ++ found ∷ []
  translated_found other =
      let byte = get_or text i 0 in
      more
      ∙ ap (λ b. translated table (take i text) ++ (if b then [] else slice_index table byte ∷ [])) (ne_eqb (slice_index table byte) 0 (λ e. other (is ∙ e)))
      ∙ ap (λ x. translated table (take i text) ++ x ∷ []) (sym is)

  pub translated_missed : found ≡ 0 → translated table (take (i + 1) text) ≡ translated table (take i text)
  translated_missed none =
      let byte = get_or text i 0 in
      more
      ∙ ap (λ b. translated table (take i text) ++ (if b then [] else slice_index table byte ∷ [])) (eq-eqb (slice_index table byte) 0 (sym is ∙ none))
      ∙ append-nil (translated table (take i text))

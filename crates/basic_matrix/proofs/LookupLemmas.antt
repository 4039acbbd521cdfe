-- What a look-up finds after an array was renumbered.
use Rattle.std.proofs.Common.{◌≡◌, List, [], ◌∷◌, Bool, true, false, cond, Option, Some, refl, sym, ap, ◌∙◌}
use Rattle.std.specs.Cmp.{alike_right}
use Rattle.std.specs.Map.{lookup, set_value}
use Rattle.std.specs.Ordering.{is_eq}
use Rattle.std.specs.declared.cmp.Ordering.{Ordering}
use Rattle.std.specs.declared.cmp.Ordering.TheVariants.{Less, Equal, Greater}
use Rattle.basic_tree.specs.declared.names.Name.{Name}
use Rattle.job_memory.specs.Names.{name_cmp, at_name}
use Rattle.job_memory.proofs.NameLemmas.{name_total}

-- a test that finds a value finds the one that is set
module _ {K X : Type 0} (test : K → Bool) (w : X) where
  found_by : (v : X) (e : K × X) (es : List (K × X)) (b : Bool) → test e.0 ≡ b → lookup test (e ∷ es) ≡ Some v
      → (lookup test es ≡ Some v → lookup test (set_value test es w) ≡ Some w) → lookup test (set_value test (e ∷ es) w) ≡ Some w
  found_by v e es true is found rest = rw (is, is) refl
  found_by v e es false is found rest =
      let here : cond (test e.0) (Some e.1) (lookup test es) ≡ Some v = found in
      let later : lookup test es ≡ Some v = rw is at here in
      rw (is, is) (rest later)

  pub lookup-set_value-same : (v : X) (es : List (K × X)) → lookup test es ≡ Some v → lookup test (set_value test es w) ≡ Some w
  lookup-set_value-same v [] found = absurd (cc)
  lookup-set_value-same v (e ∷ es) found = found_by v e es (test e.0) refl found (lookup-set_value-same v es)

-- another name finds what it found
module _ {X : Type 0} (name other : Name) (apart : at_name other name ≡ false) (w : X) where
  equal_from : (o : Ordering) → is_eq o ≡ true → o ≡ Equal
  equal_from Less is = absurd (cc)
  equal_from Equal is = refl
  equal_from Greater is = absurd (cc)

  other_by : (e : Name × X) (es : List (Name × X)) (b : Bool) → at_name name e.0 ≡ b
      → lookup (at_name other) (set_value (at_name name) es w) ≡ lookup (at_name other) es
      → lookup (at_name other) (set_value (at_name name) (e ∷ es) w) ≡ lookup (at_name other) (e ∷ es)
  other_by e es true is rest =
      let alike : at_name other e.0 ≡ false = ap is_eq (sym (alike_right name_total name e.0 other (equal_from (name_cmp name e.0) is))) ∙ apart in
      rw (is, alike) refl
  other_by e es false is rest = rw is (ap (λ (o : Option X). cond (at_name other e.0) (Some e.1) o) rest)

  pub lookup-set_value-other : (es : List (Name × X)) → lookup (at_name other) (set_value (at_name name) es w) ≡ lookup (at_name other) es
  lookup-set_value-other [] = refl
  lookup-set_value-other (e ∷ es) = other_by e es (at_name name e.0) refl (lookup-set_value-other es)

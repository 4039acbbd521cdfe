-- Steps of the machine at the values of PRINT USING.
use Rattle.std.proofs.Common.{◌≡◌, ℕ, Bool, true, false, ◌+◌, ◌<◌, ◌≤◌, List, [], ◌∷◌, ◌++◌, length, drop, map, Option, refl, ap, sym, ◌∙◌, arith}
use Rattle.std.specs.Prelude.{MatchBool}
use Rattle.basic_expr.specs.declared.failures.Failure.{Failure}
use Rattle.basic_tree.specs.declared.parts.UsingItem.{UsingItem}
use Rattle.basic_tree.specs.SpellingWords.{Word}
use Rattle.basic_tree.specs.Trees.{Tree, UsingItemTree}
use Rattle.basic_tree.specs.TreeViews.{using_item_of}
use Rattle.grammar_machine.specs.MachineStack.{MoreUsing}
use Rattle.grammar_machine.specs.MachineForms.{begins_value}
use Rattle.grammar_machine.proofs.FormSteps.{value_used, nothing_used}
use Rattle.statement_parts.specs.ParsedForms.{Leads, Halts}
use Rattle.statement_lists.specs.Usings.{value_form, UsesValue, UsesNone, Uses}

-- ---- what is at a place

pub used_or_none : (ws : List Word) (from : ℕ) (t : Word) (b : Bool) → drop from ws ≡ t ∷ drop (from + 1) ws → b ≡ begins_value t → MatchBool b (UsesValue ws from) (UsesNone ws from)
used_or_none ws from t true e is = λ n c format values k vs. rw e (value_used n c format values t (drop (from + 1) ws) k vs (sym is))
used_or_none ws from t false e is = λ n c format values k vs. rw e (nothing_used n c format values (t ∷ drop (from + 1) ws) k vs (sym is))

pub none_at_end : (ws : List Word) (from : ℕ) → drop from ws ≡ [] → UsesNone ws from
none_at_end ws from e = λ n c format values k vs. rw e (nothing_used n c format values [] k vs tt)

pub ruleset values = (used_or_none, none_at_end)

-- ---- loops

map_push : (xs : List UsingItem) (x : UsingItem) → map using_item_of (xs ++ x ∷ []) ≡ map using_item_of xs ++ using_item_of x ∷ []
map_push [] x = refl
map_push (y ∷ xs) x = ap (λ l. using_item_of y ∷ l) (map_push xs x)

pub uses_begin : (n : ℕ) (ws : List Word) (from : ℕ) → from ≤ length ws → Uses n ws from [] from
uses_begin n ws from le = record { runs = λ c format k vs. refl; after = omega arith; within = le }

-- after one more value with its separator
pub uses_one_more : (n : ℕ) (ws : List Word) (from end next : ℕ) (values more : List UsingItem) (item : UsingItem)
    → Uses n ws from values end
    → ((c : Option Tree) (format : Tree) (before : List UsingItemTree) → Leads n n ws end next (value_form c format before) (MoreUsing c format (before ++ using_item_of item ∷ [])))
    → more ≡ values ++ item ∷ []
    → (c : Option Tree) (format : Tree) → Leads n n ws from next (value_form c format []) (MoreUsing c format (map using_item_of more))
uses_one_more n ws from end next values more item u h same c format = rw (same, map_push values item) (λ k vs. u.runs c format k vs ∙ h c format (map using_item_of values) k vs)

pub uses_grow : (n : ℕ) (ws : List Word) (from end next : ℕ) (values more : List UsingItem) (item : UsingItem)
    → Uses n ws from values end
    → ((c : Option Tree) (format : Tree) (before : List UsingItemTree) → Leads n n ws end next (value_form c format before) (MoreUsing c format (before ++ using_item_of item ∷ [])))
    → end < next
    → next ≤ length ws
    → more ≡ values ++ item ∷ []
    → UsesValue ws next
    → Uses n ws from more next
uses_grow n ws from end next values more item u h lt le same more_there = record {
  runs = λ c format k vs. uses_one_more n ws from end next values more item u h same c format k vs ∙ more_there n c format (map using_item_of more) k vs;
  after = omega (arith, u.after, lt);
  within = le;
}

pub uses_halt : (n : ℕ) (ws : List Word) (from end : ℕ) (values : List UsingItem) (e : Failure)
    → Uses n ws from values end
    → ((c : Option Tree) (format : Tree) (before : List UsingItemTree) → Halts n ws end (value_form c format before) e)
    → (c : Option Tree) (format : Tree)
    → Halts n ws from (value_form c format []) e
uses_halt n ws from end values e u h c format = λ halt is k vs. u.runs c format k vs ∙ h c format (map using_item_of values) halt is k vs

pub ruleset loops = (uses_begin, uses_halt)

-- The items of DATA.
use Rattle.std.proofs.Common.{◌≡◌, ℕ, ◌+◌, List, [], ◌∷◌, ◌++◌, Some, None, ◌∙◌, arith}
use Rattle.basic_expr.specs.declared.failures.Failure.TheVariants as failure
use Rattle.basic_tree.specs.SpellingWords.{Word}
use Rattle.grammar_machine.specs.MachineStack.{Form, ItemIn, MoreItems}
use Rattle.statement_parts.specs.ParsedForms.{Leads, Halts, Itemized, ItemAt}
use Rattle.statement_parts.proofs.Parts.{item_stands, item_missing, one_more_item, no_more_items, no_memory_halts}

pub items_begin : (ws : List Word) (from : ℕ) (item : List ℕ) → ItemAt ws from (Some item) → Itemized ws from (item ∷ []) (from + 1)
items_begin ws from item h = record { runs = λ n g. item_stands ws from item h n (λ i. MoreItems (i ∷ []) g); after = omega arith; within = omega (arith, h.0) }

pub items_grow : (ws : List Word) (from end : ℕ) (items more : List (List ℕ)) (item : List ℕ) → Itemized ws from items end → ItemAt ws end (Some item) → more ≡ items ++ item ∷ [] → Itemized ws from more (end + 1)
items_grow ws from end items more item l h same = record {
  runs = λ n g. rw same (λ k vs. l.runs n g k vs ∙ one_more_item ws end item h n items g k vs);
  after = omega (arith, l.after);
  within = omega (arith, h.0);
}

pub items_end : (ws : List Word) (from end : ℕ) (items : List (List ℕ)) → Itemized ws from items end → ItemAt ws end None → (n : ℕ) (g : List (List ℕ) → Form) → Leads n n ws from end (ItemIn (λ item. MoreItems (item ∷ []) g)) (g items)
items_end ws from end items l h n g = λ k vs. l.runs n g k vs ∙ no_more_items ws end h n items g k vs

pub item_halts : (ws : List Word) (from : ℕ) → ItemAt ws from None → (n : ℕ) (g : List (List ℕ) → Form) → Halts n ws from (ItemIn (λ item. MoreItems (item ∷ []) g)) (failure.Wrong from)
item_halts ws from h n g = item_missing ws from h n (λ item. MoreItems (item ∷ []) g)

pub ruleset itemizing = (items_begin, items_grow, items_end, item_halts, no_memory_halts)

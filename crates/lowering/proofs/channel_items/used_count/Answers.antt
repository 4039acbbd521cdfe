use Rattle.std.proofs.Common.{◌≡◌, ℕ, suc, List, [], ◌∷◌, length, map, Some, None, refl, sym, ap, ◌∙◌}
use Rattle.std.specs.Prelude.{Option, option_map}
use Rattle.std.proofs.lemmas.Result.{IfOk-weaker}
use Rattle.basic_tree.specs.declared.expressions.Expr.{Expr}
use Rattle.basic_tree.specs.declared.parts.UsingItem.{UsingItem}
use Rattle.basic_tree.specs.Trees.{Tree}
use Rattle.basic_tree.specs.TreeViews.{tree_of, using_item_of}
use Rattle.program_model.specs.FileStatements.{in_order}
use Rattle.program_model.specs.Parts.{count}
use Rattle.program_model.specs.PrintingOnChannels.{used_values}
use Rattle.lowering.proofs.channel_items.used_count.Goals as goal

abbrev used : List UsingItem → Option Tree → ℕ
used vs last = count (in_order (used_values (map using_item_of vs) last))

alone : (vs : List UsingItem) → length vs ≡ used vs None
alone [] = refl
alone (v ∷ vs) = ap suc (alone vs)

with_last : (vs : List UsingItem) (e : Tree) → suc (length vs) ≡ used vs (Some e)
with_last [] e = refl
with_last (v ∷ vs) e = ap suc (with_last vs e)

-- after the test of the last item
counts : (vs : List UsingItem) (last o : Option Expr) → last ≡ o → (n : ℕ) → n ≡ used vs (option_map tree_of o) → n ≡ used vs (option_map tree_of last)
counts vs last o is n e = e ∙ ap (λ (o : Option Expr). used vs (option_map tree_of o)) (sym is)

pub returns-in-None : goal.returns-in-None
returns-in-None c =
    let vs = c.args.values.now in
    IfOk-weaker c.counted.result (λ n. n ≡ length vs) (λ n. n ≡ used vs (option_map tree_of c.args.last.now)) (λ n e. counts vs _ _ c.in-None.is n (e ∙ alone vs)) c.counted.ensures

pub returns-in_ok-counted-in-Some : goal.returns-in_ok-counted-in-Some
returns-in_ok-counted-in-Some c =
    let vs = c.args.values.now in
    IfOk-weaker c.next.result (λ n. n ≡ suc c.in_ok-counted-in-Some.field-0) (λ n. n ≡ used vs (option_map tree_of c.args.last.now)) (λ n e. counts vs _ _ c.in-Some.is n (e ∙ ap suc c.in_ok-counted-in-Some.ensures ∙ with_last vs (tree_of c.in-Some.field-0))) c.next.ensures

use Rattle.std.proofs.Common.{◌≡◌, ℕ, ◌+◌, length, sym, ap, ◌∙◌, subst, map, Ok, zero-add}
use Rattle.basic_tree.specs.TokenLaws.{StartsAt, moved_from}
use Rattle.basic_tree.proofs.SeamLemmas.{seam}
use Rattle.basic_tree.proofs.laws.blanks_separate_tokens.Goals as goal

pub returns : goal.returns
returns c before behind blank tokens is_blank read starts =
    let there : 0 + length before ≡ length before = zero-add (length before) in
    seam blank before behind 0 0 tokens is_blank read (subst (λ (p : ℕ). StartsAt p tokens) (sym there) starts)
    ∙ ap (λ (p : ℕ). Ok (map (moved_from p) tokens)) there

use Rattle.std.proofs.Common.{◌≡◌, ℕ, ◌<◌, ◌^◌, List, ◌++◌, sym, subst, OnOk, arith}
use Rattle.deck_model.proofs.CountTexts.{count_decimal}
use Rattle.report_texts.proofs.histories.push_count.Goals as goal

pub returns : goal.returns
returns c =
    let small : c.args.count < 2 ^ 64 = omega (arith, c.ranges.count) in
    subst (λ (text : List ℕ). OnOk c.push_digits.result (c.push_digits.new.out.items ≡ c.args.out.now.items ++ text)) (sym (count_decimal c.args.count small)) c.push_digits.ensures

use Rattle.std.proofs.Common.{List, ℕ, ◌++◌, ◌-◌, ◌∙◌, length, drop, replicate, subst, sym, ap, arith}
use Rattle.basic_values.specs.declared.limits.TheConstants.{BLOCK_BYTES}
use Rattle.line_editor.proofs.PageLemmas.{PagedSoFar, paged_more}
use Rattle.line_editor.proofs.files.pages_of.Goals as goal

pub loop-left-preserved : goal.loop-left-preserved
loop-left-preserved c =
    let made = c.in_ok-page_of.ensures ∙ ap (λ (front : List ℕ). front ++ replicate (BLOCK_BYTES - length front) 0) c.split_at.ensures.front in
    subst (λ (left : List ℕ). PagedSoFar c.args.bytes.now c.push.new.self.items left) (sym c.split_at.ensures.back)
    (subst (λ (pages : List (List ℕ)). PagedSoFar c.args.bytes.now pages (drop c.min.result c.loop-left.left.now)) (sym c.in_ok-push.ensures.items)
    (paged_more c.args.bytes.now c.loop-left.pages.items c.loop-left.left.now c.min.result c.in_ok-page_of.field-0 (grind arith) c.min.ensures made c.loop-left.invariant))

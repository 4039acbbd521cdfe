use Rattle.std.proofs.Common.{ℕ, List, ◌∷◌, [], ◌++◌, replicate, ap, ◌∙◌, arith}
use Rattle.std.proofs.lemmas.List.{replicate_more}
use Rattle.job_memory.specs.Contents.{blank}
use Rattle.job_memory.specs.declared.contents.Content.{Content}
use Rattle.job_memory.proofs.tables.blanks.Goals as goal

-- by hand: the searches try many steps before they close these
pub loop-made-preserved : goal.loop-made-preserved
loop-made-preserved c =
    c.in_ok-push.ensures.items
    ∙ ap (λ (content : Content). c.loop-made.cells.items ++ content ∷ []) c.blank.ensures
    ∙ ap (λ (l : List Content). l ++ blank c.args.text ∷ []) c.loop-made.invariant
    ∙ replicate_more c.loop-made.made (blank c.args.text)

pub returns : goal.returns
returns c = c.loop-made.invariant ∙ ap (λ (n : ℕ). replicate n (blank c.args.text)) (omega (arith, c.loop-made-test.false, c.loop-made.auto.made-end))

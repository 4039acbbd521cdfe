use Rattle.std.proofs.Common.{ℕ, List, ◌∷◌, [], ◌++◌, length, get_or, sym, ap, ◌∙◌}
use Rattle.std.specs.Prelude.{ℤ, map}
use Rattle.std.proofs.lemmas.List.{length-map, map_more, take_all}
use Rattle.job_memory.specs.Contents.{number_of}
use Rattle.job_memory.specs.declared.contents.Content.{Content}
use Rattle.job_memory.proofs.tables.numbers_of.Goals as goal

-- by hand: the searches try many steps before they close these
pub loop-content-preserved : goal.loop-content-preserved
loop-content-preserved c =
    let cells : List Content = c.args.cells.now in
    let at : ℕ = c.loop-content.content-index in
    let content : Content = c.content-item.result in
    c.in_ok-push.ensures.items
    ∙ ap (λ (n : ℤ). c.loop-content.numbers.items ++ n ∷ []) (c.number_of.ensures ∙ ap number_of c.content-item.is)
    ∙ ap (λ (l : List ℤ). l ++ number_of (get_or cells at content) ∷ []) c.loop-content.invariant
    ∙ sym (map_more number_of cells at content c.loop-content-test.true)

pub returns-clause-numbers : goal.returns-clause-numbers
returns-clause-numbers c = c.loop-content.invariant ∙ ap (map number_of) (take_all c.loop-content.content-index c.args.cells.now c.loop-content-test.false)

pub returns-clause-count : goal.returns-clause-count
returns-clause-count c = c.loop-content.numbers.ok.0 ∙ ap length (returns-clause-numbers c) ∙ length-map c.args.cells.now number_of

use Rattle.std.proofs.Common.{Global, List, ℕ, sym, ap, ◌∙◌}
use Rattle.std.specs.List.{splice}
use Rattle.std.specs.Vec.Iter.{into_iter_steps}
use Rattle.std.proofs.lemmas.List.{map-id}
use Rattle.std.proofs.lemmas.Iterator.{items_from_drains}
use Rattle.std.proofs.lemmas.Iterator.Adapters.{YieldsList-from_vec}
use Rattle.line_editor.proofs.buffer.put_bytes.Goals as goal

-- what is inserted is the line
pub returns-clause-ok : goal.returns-clause-ok
returns-clause-ok c =
    let put = c.in_ok-splice.ensures.items in
    let same = items_from_drains {steps = into_iter_steps {X = ℕ} {Z = Global}} {v = λ (y : ℕ). y} {s = put.0} {all = c.args.line.items} put.1 (put.3.1.0, put.3.1.1, λ _. (put.3.0, put.3.1.2)) (YieldsList-from_vec {s = put.0} c.args.line.items put.2.0 (put.2.1 ∙ c.args.line.ok.0)) in
    put.4 ∙ ap (λ (xs : List ℕ). splice c.args.bytes.now.items c.args.start c.args.end xs) (sym (map-id put.1) ∙ same)

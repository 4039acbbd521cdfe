use Rattle.std.proofs.Common.{◌≡◌, ap, ◌∙◌}
use Rattle.std.specs.Prelude.{slice_get}
use Rattle.basic_expr.proofs.WordLemmas.{copied_at, peeked}
use Rattle.basic_expr.proofs.words.Words.peek.Goals as goal

pub returns-clause-word : goal.returns-clause-word
returns-clause-word c =
    let read : c.copied.result ≡ slice_get c.self.inside.words.items c.args.place = c.copied.ensures ∙ copied_at c.deref.result.now c.args.place c.get.result c.get.ensures.lookup ∙ ap (λ ws. slice_get ws c.args.place) c.deref.ensures.value in
    rw (← c.self.view_is) (peeked c.self.inside.words.items c.args.place c.copied.result read c.self.invariant.1)

use Rattle.std.proofs.Common.{ℕ, Vec, Global, List, ◌∷◌, [], ◌++◌, sym, ap, ◌∙◌}
use Rattle.basic_strings.proofs.TableLemmas.{translated_found, translated_missed}
use Rattle.basic_strings.proofs.translations.translation.Goals as goal
use Rattle.basic_strings.proofs.translations.translation.Goals.{then-found-ne0+in_ok-push, else-found-ne0}

pub loop-byte-preserved : goal.loop-byte-preserved
loop-byte-preserved c =
    let found = c.byte_behind-found.result in
    let items = λ (bytes : Vec ℕ Global). bytes.items in
    elim c.if-found-ne0.branch [
      | then-found-ne0+in_ok-push w ↦
          ap items w.bytes-is
          ∙ w.in_ok-push.ensures.items
          ∙ ap (λ (bytes : List ℕ). bytes ++ found ∷ []) c.loop-byte.invariant
          ∙ sym (translated_found c.args.table.now c.args.text.now c.loop-byte.byte-index found c.loop-byte-test.true c.byte_behind-found.ensures w.if-found-ne0.true)
      | else-found-ne0 w ↦
          ap items w.bytes-is
          ∙ c.loop-byte.invariant
          ∙ sym (translated_missed c.args.table.now c.args.text.now c.loop-byte.byte-index found c.loop-byte-test.true c.byte_behind-found.ensures w.if-found-ne0.false)
    ]

use Rattle.std.proofs.Common.{◌≡◌, ◌+◌, ◌*◌, [], ◌∷◌, ◌++◌, sym, ap, ◌∙◌, rules}
use Rattle.std.specs.Prelude.{ℤ}
use Rattle.std.proofs.Math.Facts.{to_z-of_z}
use Rattle.print_using.specs.Fields.{digits_written, filler_of, minus_written, placed_right}
use Rattle.print_using.proofs.NumberLemmas.{places_are, number_then, number_alone}
use Rattle.print_using.proofs.fields.write_number.Goals as goal
use Rattle.print_using.proofs.fields.write_number.Goals.{then-starred, else-starred}

-- by hand: a search opens the definitions in each case of both choices
pub returns-in_ok-push : goal.returns-in_ok-push
returns-in_ok-push c =
    let filler : c.if-starred.filler ≡ filler_of c.args.starred = elim c.if-starred.branch [
      | then-starred w ↦ w.filler-is ∙ ap filler_of (sym w.if-starred.true)
      | else-starred w ↦ w.filler-is ∙ ap filler_of (sym w.if-starred.false)
    ] in
    let grew = c.in_ok-write_digits.ensures ∙ ap (λ (n : ℤ). c.args.bytes.now.items ++ placed_right (c.from.result * 2 + c.args.signs) c.if-starred.filler (digits_written c.args.trailing n)) (to_z-of_z c.ranges.n) in
    let minus : c.if-n-lt0.push ∷ [] ≡ minus_written c.args.trailing c.args.n = search rules in
    c.in_ok-push.ensures.items
    ∙ number_then c.args.bytes.now.items c.write_digits.new.bytes.items (c.if-n-lt0.push ∷ []) c.args.starred c.args.trailing (c.from.result * 2 + c.args.signs) c.if-starred.filler c.args.signs c.args.n (places_are c.args.starred c.from.result c.args.signs c.from.ensures) filler grew minus

pub returns-else-trailing : goal.returns-else-trailing
returns-else-trailing c =
    let filler : c.if-starred.filler ≡ filler_of c.args.starred = elim c.if-starred.branch [
      | then-starred w ↦ w.filler-is ∙ ap filler_of (sym w.if-starred.true)
      | else-starred w ↦ w.filler-is ∙ ap filler_of (sym w.if-starred.false)
    ] in
    let grew = c.in_ok-write_digits.ensures ∙ ap (λ (n : ℤ). c.args.bytes.now.items ++ placed_right (c.from.result * 2 + c.args.signs) c.if-starred.filler (digits_written c.args.trailing n)) (to_z-of_z c.ranges.n) in
    number_alone c.args.bytes.now.items c.write_digits.new.bytes.items c.args.starred c.args.trailing (c.from.result * 2 + c.args.signs) c.if-starred.filler c.args.signs c.args.n (places_are c.args.starred c.from.result c.args.signs c.from.ensures) filler grew c.if-trailing.false

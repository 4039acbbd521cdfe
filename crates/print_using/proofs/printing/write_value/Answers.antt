use Rattle.std.proofs.Common.{ℕ, List, drop, sym, ap, subst, ◌∙◌}
use Rattle.std.proofs.lemmas.List.{take_rest}
use Rattle.print_using.specs.Values.{printed_value}
use Rattle.print_using.specs.Adding.{one_of}
use Rattle.print_using.proofs.WritingLemmas.{TakesOne, field_taken}
use Rattle.print_using.proofs.printing.write_value.Goals as goal

pub returns-in_ok-write_field-in-Some : goal.returns-in_ok-write_field-in-Some
returns-in_ok-write_field-in-Some c =
    let rest : List ℕ = c.in_ok-rest.rest.now in
    let written = c.in_ok-write_field-in-Some.ensures in
    let one = one_of c.args.format.now c.args.left.now (printed_value c.args.value.now) in
    let taken = field_taken c.args.format.now c.args.left.now rest c.args.bytes.now.items c.write_to_next.new.bytes.items c.write_field.new.bytes.items (printed_value c.args.value.now) c.in-Some.field written.0 c.in_ok-rest.ensures (sym c.front_field.ensures.field ∙ c.in-Some.is) written.1 written.2 in
    let behind = take_rest rest c.width.result ∙ ap (λ n. drop n rest) c.width.ensures in
    subst (λ (t : List ℕ). TakesOne one t c.args.bytes.now.items c.write_field.new.bytes.items) (sym behind) taken

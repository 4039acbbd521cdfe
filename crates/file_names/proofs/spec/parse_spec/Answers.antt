use Rattle.std.proofs.Common.{Err, sym, ap, ◌∙◌}
use Rattle.file_names.specs.SpecFronts.{spec_in}
use Rattle.file_names.proofs.SpecLaws.{front_spells, front_refuses, said_by_front, unsaid_by_front}
use Rattle.file_names.proofs.spec.parse_spec.Goals as goal

pub returns-in-Some-clause-said : goal.returns-in-Some-clause-said
returns-in-Some-clause-said c =
    said_by_front c.args.own c.args.extension.now c.args.text.now c.in-Some.spec
    (ap (spec_in c.args.own c.args.extension.now) (sym (c.as_slice.ensures.value ∙ c.front_of-front.ensures)) ∙ sym c.spec_in.ensures ∙ c.in-Some.is)

pub returns-in-Some-clause-read : goal.returns-in-Some-clause-read
returns-in-Some-clause-read c =
    front_spells c.args.own c.args.extension.now c.args.text.now c.in-Some.spec
    (ap (spec_in c.args.own c.args.extension.now) (sym (c.as_slice.ensures.value ∙ c.front_of-front.ensures)) ∙ sym c.spec_in.ensures ∙ c.in-Some.is)

pub returns-in-None-clause-said : goal.returns-in-None-clause-said
returns-in-None-clause-said c =
    ap Err c.refusal_of.ensures
    ∙ unsaid_by_front c.args.own c.args.extension.now c.args.text.now
    (ap (spec_in c.args.own c.args.extension.now) (sym (c.as_slice.ensures.value ∙ c.front_of-front.ensures)) ∙ sym c.spec_in.ensures ∙ c.in-None.is)

pub returns-in-None-clause-refused : goal.returns-in-None-clause-refused
returns-in-None-clause-refused c = (
  c.refusal_of.ensures,
  front_refuses c.args.own c.args.extension.now c.args.text.now
      (ap (spec_in c.args.own c.args.extension.now) (sym (c.as_slice.ensures.value ∙ c.front_of-front.ensures)) ∙ sym c.spec_in.ensures ∙ c.in-None.is),
)

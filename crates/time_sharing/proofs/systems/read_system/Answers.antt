use Rattle.std.proofs.Common.{◌≡◌, List, ℕ, Err, inl, subst, sym, ap, ◌∙◌}
use Rattle.deck_model.specs.Refusals.{Refused}
use Rattle.deck_model.specs.Spelling.{Spelled}
use Rattle.deck_reader.specs.Seen.{deck_of}
use Rattle.deck_model.specs.declared.faults.DeckFault.{DeckFault}
use Rattle.time_sharing.specs.declared.outcomes.Failure.TheVariants as failure
use Rattle.time_sharing.proofs.SystemLemmas.{read_is, never_both, same_fault}
use Rattle.time_sharing.proofs.systems.read_system.Goals as goal

pub returns-in-Ok-read_deck-clause-must_refuse : goal.returns-in-Ok-read_deck-clause-must_refuse
returns-in-Ok-read_deck-clause-must_refuse g c = λ fault none.
    let same : none.read ≡ c.as_slice.result.now = read_is c.in-Ok.bytes.items none.read (g.S.Source.state c.args.source.now).left (g.S.Source.state c.read_all.new.source).left c.in-Ok.ensures.ended.all none.told.told ∙ sym c.as_slice.ensures.value in
    absurd (never_both c.as_slice.result.now (deck_of c.in-Ok-read_deck.deck) fault c.in-Ok-read_deck.ensures.found (subst (λ (bytes : List ℕ). Refused bytes fault.line fault.cause) same none.refused))

pub returns-in-Err-Refused-clause-must_find : goal.returns-in-Err-Refused-clause-must_find
returns-in-Err-Refused-clause-must_find g c = λ finds.
    let same : finds.read ≡ c.as_slice.result.now = read_is c.in-Ok.bytes.items finds.read (g.S.Source.state c.args.source.now).left (g.S.Source.state c.read_all.new.source).left c.in-Ok.ensures.ended.all finds.told.told ∙ sym c.as_slice.ensures.value in
    let refused = rw c.in-Err-Refused.field-0-is at c.in-Err-Refused.ensures.refused in
    absurd (never_both c.as_slice.result.now finds.deck c.in-Err-Refused.fault (subst (λ (bytes : List ℕ). Spelled bytes finds.deck) same finds.spelled) refused)

pub returns-in-Err-Refused-clause-must_refuse : goal.returns-in-Err-Refused-clause-must_refuse
returns-in-Err-Refused-clause-must_refuse g c = λ fault none.
    let same : none.read ≡ c.as_slice.result.now = read_is c.in-Ok.bytes.items none.read (g.S.Source.state c.args.source.now).left (g.S.Source.state c.read_all.new.source).left c.in-Ok.ensures.ended.all none.told.told ∙ sym c.as_slice.ensures.value in
    let refused = rw c.in-Err-Refused.field-0-is at c.in-Err-Refused.ensures.refused in
    let one : c.in-Err-Refused.fault ≡ fault = same_fault c.as_slice.result.now c.in-Err-Refused.fault fault refused (subst (λ (bytes : List ℕ). Refused bytes fault.line fault.cause) same none.refused) in
    inl (ap (λ (f : DeckFault). Err (failure.Deck f)) one)

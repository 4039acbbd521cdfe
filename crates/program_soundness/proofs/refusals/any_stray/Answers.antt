use Rattle.std.proofs.Common.{not, sym, ◌∙◌}
use Rattle.program_model.specs.Soundness.{is_body_of}
use Rattle.program_soundness.specs.Listings.{text_of}
use Rattle.program_soundness.proofs.RefusalLemmas.{found_at}
use Rattle.program_soundness.proofs.refusals.any_stray.Goals as goal

pub returns-then-is_stray : goal.returns-then-is_stray
returns-then-is_stray c =
    found_at (λ f. not (is_body_of (text_of c.args.listing.now) f c.args.body)) c.args.names.now c.loop-name.name-index _ _ c.loop-name-test.true
    (sym c.is_stray.ensures ∙ c.if-is_stray.true) c.loop-name.invariant

use Rattle.std.proofs.Common.{◌%◌, refl, sym, ap, subst, ◌∙◌}
use Rattle.deck_model.specs.Deck.{Deck, IsDeck}
use Rattle.drill_deck.specs.Tallies.{puts_in, sum_in}
use Rattle.time_sharing.specs.Runs.{IsRun}
use Rattle.time_sharing.proofs.DrillLemmas.{is_counted}
use Rattle.time_sharing.proofs.drills.drilled.Goals as goal

pub run_deck-requires : goal.run_deck-requires
run_deck-requires g c = (c.type_bounds.send-P-Kept, (c.type_bounds.sync-R, (c.type_bounds.sync-P, subst IsDeck (sym c.in_ok-deck.ensures.deck) c.in_ok-deck.ensures.good)))

pub returns-clause-drill : goal.returns-clause-drill
returns-clause-drill g c =
    let ran = c.in_ok-ran.ran in
    let run = subst (λ (deck : Deck). IsRun deck ran.run ran.screens.items) c.in_ok-deck.ensures.deck c.in_ok-ran.ensures.run in
    let puts = c.tally_of-tally.ensures.puts ∙ ap puts_in c.as_slice.ensures in
    let sum = c.tally_of-tally.ensures.sum ∙ ap sum_in c.as_slice.ensures in
    record {
      screens = ran.screens.items;
      run = run;
      as_many = refl;
      puts = puts;
      sum = sum;
      none_lost = sum ∙ is_counted c.no_put_is_lost.ensures c.args.jobs ran.run ran.screens.items run ∙ ap (λ n. n % 65536) (sym puts);
    }

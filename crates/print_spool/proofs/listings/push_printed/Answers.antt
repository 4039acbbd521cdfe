use Rattle.std.proofs.Common.{ℕ, ◌+◌, List, drop, sym, ap, ◌∙◌, ◌++◌}
use Rattle.std.proofs.lemmas.List.{at_drop_all, append-nil}
use Rattle.monitor_calls.specs.declared.calls.Entry.{Entry}
use Rattle.monitor_model.specs.Listings.{listing}
use Rattle.print_spool.proofs.ListingLemmas.{ended, all_written, one_written, passed_over}
use Rattle.print_spool.proofs.listings.push_printed.Goals as goal
use Rattle.print_spool.proofs.listings.push_printed.Goals.{then-entry-job+else-finishes+in_ok-extend_from_slice, else-entry-job}

pub returns-then-finishes : goal.returns-then-finishes
returns-then-finishes c =
    let later = c.args.later.now in
    let at = c.loop-entry.entry-index in
    let none = ended c.args.job later at c.entry-item.result c.loop-entry-test.true c.entry-item.is c.if-entry-job.true (sym c.finishes.ensures ∙ c.if-finishes.true) in
    all_written c.args.job later at c.loop-entry.out.items (c.args.out.now.items ++ listing c.args.job later) none c.loop-entry.invariant

pub loop-entry-preserved : goal.loop-entry-preserved
loop-entry-preserved c =
    let later : List Entry = c.args.later.now in
    let at : ℕ = c.loop-entry.entry-index in
    let entry : Entry = c.entry-item.result in
    let whole : List ℕ = c.args.out.now.items ++ listing c.args.job later in
    elim c.if-entry-job.branch [
      | then-entry-job+else-finishes+in_ok-extend_from_slice w ↦
          let written = ap (λ v. v.items) w.out-is ∙ w.in_ok-extend_from_slice.ensures.items ∙ ap (λ t. c.loop-entry.out.items ++ t) w.text_of.ensures in
          one_written c.args.job later at entry c.loop-entry.out.items c.if-entry-job.out.items whole c.loop-entry-test.true c.entry-item.is w.if-entry-job.true (sym w.finishes.ensures ∙ w.if-finishes.false) written c.loop-entry.invariant
      | else-entry-job w ↦
          ap (λ v. v.items ++ listing c.args.job (drop (at + 1) later)) w.out-is
          ∙ passed_over c.args.job later at entry c.loop-entry.out.items whole c.loop-entry-test.true c.entry-item.is w.if-entry-job.false c.loop-entry.invariant
    ]

pub returns : goal.returns
returns c =
    let out : List ℕ = c.loop-entry.out.items in
    sym (at_drop_all (λ (l : List Entry). out ++ listing c.args.job l) c.args.later.now c.loop-entry.entry-index c.loop-entry-test.false ∙ append-nil out) ∙ c.loop-entry.invariant

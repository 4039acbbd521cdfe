use Rattle.std.proofs.Common.{List, ℕ, Err, Some, refl, ap, sym, ◌∙◌}
use Rattle.job_model.specs.Act.{Gives, Breaks}
use Rattle.job_model.specs.Follow.{answered_by}
use Rattle.job_model.proofs.Ends.{follows_ends}
use Rattle.job_model.proofs.Follows.{follows_to}
use Rattle.record_fields.specs.declared.sizes.RecordSize.TheVariants.{One}
use Rattle.record_fields.specs.Buffers.{blank, with_buffer}
use Rattle.channels.specs.Files.{Files, changes}
use Rattle.channels.specs.Openings.{with_opened, with_blank}
use Rattle.channels.specs.Seen.{files}
use Rattle.channels.proofs.Beside.{beside, told_beside}
use Rattle.channels.proofs.Calls.{follows_unbegun}
use Rattle.channels.proofs.Ended.{opening_refused, set_twice}
use Rattle.channels.proofs.channels.Channels.open_file.Goals as goal

pub returns-in_err-set_size : goal.returns-in_err-set_size
returns-in_err-set_size g c clock = follows_unbegun c.from_residual.result _ c.from_residual.ensures.1

pub returns-in-Ok : goal.returns-in-Ok
returns-in-Ok g c clock =
    let channel = c.args.channel in
    let old = files c.args.self.now c.args.buffers.now in
    let opened = with_opened channel c.args.update c.args.size in
    let sized = sym c.in_ok-set_size.ensures.ok in
    let left = ap (λ (b : List (List ℕ)). beside b (opened old)) sized ∙ sym (told_beside c.set_size.new.self c.note_opened.ensures) in
    follows_to (ap (λ (f : Files). Some (Gives tt f)) left)
    (follows_ends (with_blank channel) (λ _. changes opened) (λ why files. Breaks why (with_blank channel files)) (λ _. refl) (c.in-Ok.ensures clock old))

pub returns-in-Err : goal.returns-in-Err
returns-in-Err g c clock =
    let channel = c.args.channel in
    let old = files c.args.self.now c.args.buffers.now in
    let sized = sym c.in_ok-set_size.ensures.ok in
    let blanked = sym (set_twice c.args.buffers.now _ _ _) ∙ ap (with_buffer channel (blank One)) sized ∙ sym c.shrink.ensures in
    follows_to (opening_refused channel c.args.update c.args.size c.in-Err.stop old ∙ ap (λ (b : List (List ℕ)). answered_by (Err c.in-Err.stop) (beside b old)) blanked)
    (follows_ends (with_blank channel) (λ _. changes (with_opened channel c.args.update c.args.size)) (λ why files. Breaks why (with_blank channel files)) (λ _. refl) (c.in-Err.ensures clock old))

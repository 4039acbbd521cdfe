use Rattle.std.proofs.Common.{◌<◌, None, sym, ap, ◌∙◌, subst, arith}
use Rattle.std.specs.Prelude.{vec_capacity}
use Rattle.std.proofs.lemmas.List.{get_or_read}
use Rattle.block_interlock.specs.Fields.{slot}
use Rattle.block_interlock.specs.Index.{map_of}
use Rattle.block_interlock.specs.Interlock.{IsHeldBy}
use Rattle.block_interlock.proofs.FieldLemmas.{has_field, held_by_field, held_by_nobody}
use Rattle.block_interlock.proofs.holds.Holds.held_by.Goals as goal
use Rattle.block_interlock.proofs.holds.Holds.held_by.Goals.{then-job-self-via-then-job-self, then-job-self-via-else-job-self+then-channel-ge-JOB_CHANNELS}

pub returns-then-job-self : goal.returns-then-job-self
returns-then-job-self c =
    let i = c.self.inside in
    let few = c.self.invariant.width in
    subst (λ h. IsHeldBy h.held c.args.job c.args.channel None) c.self.view_is
    (held_by_nobody i.fields.items i.index.items (vec_capacity i.index) c.self.invariant.kept c.args.job c.args.channel
    (λ f. elim c.then-job-self.branch [
      | then-job-self-via-then-job-self w ↦ omega (arith, f.0, f.1, few, w.if-job-self.true)
      | then-job-self-via-else-job-self+then-channel-ge-JOB_CHANNELS w ↦ omega (arith, f.1, w.if-channel-ge-JOB_CHANNELS.true)
    ]))

pub returns : goal.returns
returns c =
    let i = c.self.inside in
    let f = has_field i.jobs i.fields.items i.index.items (vec_capacity i.index) c.self.invariant c.args.job c.args.channel c.if-job-self.false c.if-channel-ge-JOB_CHANNELS.false in
    let told = held_by_field i.fields.items i.index.items (vec_capacity i.index) c.self.invariant.kept c.args.job c.args.channel f in
    let field = get_or_read i.fields.items (slot c.args.job c.args.channel) c.index.result.now f.0 c.index.ensures None in
    subst (λ h. IsHeldBy h.held c.args.job c.args.channel c.index.result.now) c.self.view_is
    (subst (λ o. IsHeldBy (map_of i.index.items) c.args.job c.args.channel o) (sym field) told)

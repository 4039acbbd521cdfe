use Rattle.std.proofs.Common.{◌≡◌, ◌-◌, ◌<◌, ◌≤◌, ◌^◌, sym, ap, ◌∙◌, arith}
use Rattle.std.specs.Prelude.{nat_lt}
use Rattle.monitor_model.specs.Files.{size_at, blocks_owned}
use Rattle.monitor_model.specs.State.{State, quota_of}
use Rattle.monitor_model.specs.Answer.{left_to}
use Rattle.monitor_core.proofs.Growth.{size_owned, last_small}
use Rattle.monitor_core.proofs.parts.Parts.passes_quota.Goals as goal

pub returns-clause-passes : goal.returns-clause-passes
returns-clause-passes c =
    let m = c.args.self.now in
    let owner = c.args.name.now.owner in
    let left : c.saturating_sub.result ≡ left_to m owner =
    c.saturating_sub.ensures ∙ (λ i. c.quota_of-quota.ensures.quota i - c.used_by.ensures i) ∙ ap (λ (s : State). quota_of m.accounts owner - blocks_owned s.files owner) c.self.view_is in
    let wanted : c.saturating_sub-wanted.result ≡ c.args.last - size_at m.files c.args.name.now =
    c.saturating_sub-wanted.ensures ∙ ap (λ n. c.args.last - n) c.size_of.ensures.size in
    λ i. nat_lt (left i) (wanted i)

pub returns-clause-small : goal.returns-clause-small
returns-clause-small c =
    let m = c.args.self.now in
    let name = c.args.name.now in
    let used : c.used_by.result ≡ blocks_owned m.files name.owner = c.used_by.ensures ∙ ap (λ (s : State). blocks_owned s.files name.owner) c.self.view_is in
    let owned : c.size_of.result ≤ c.used_by.result = omega (arith, c.size_of.ensures.size, used, size_owned m.files name) in
    λ no. last_small c.quota_of-quota.result c.used_by.result c.size_of.result c.args.last c.quota_of-quota.ensures.small c.size_of.ensures.small owned
    (sym (λ i. nat_lt (c.saturating_sub.ensures i) (c.saturating_sub-wanted.ensures i)) ∙ no)

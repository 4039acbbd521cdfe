use Rattle.std.proofs.Common.{rules, not, ap, ◌∙◌}
use Rattle.std.specs.Prelude.{◌==◌}
use Rattle.std.proofs.lemmas.Fn.{filter_same}
use Rattle.loop_pairs.specs.Pairs.{opens_seen}
use Rattle.loop_pairs.proofs.PairLemmas.{left_seen}
use Rattle.loop_pairs.proofs.opens.remove.Goals as goal

pub returns : goal.returns
returns c = ap opens_seen (filter_same _ (λ one. not (one.number == c.args.number)) _ (λ x b f' k. search rules) _ _ c.retain.ensures.filtered) ∙ left_seen c.args.number c.args.opens.now.items

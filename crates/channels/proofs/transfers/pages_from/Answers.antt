use Rattle.std.proofs.Common.{◌≡◌, ◌++◌, ◌∷◌, [], ◌∙◌, rules}
use Rattle.channels.proofs.Pages.{pages_step}
use Rattle.channels.proofs.transfers.pages_from.Goals as goal

pub loop-made-preserved : goal.loop-made-preserved
loop-made-preserved c =
    let pushed : c.push.new.self.items ≡ c.loop-made.pages.items ++ c.in_ok-page_from.field-0 ∷ [] = search rules in
    c.loop-made.invariant ∙ pages_step c.args.count c.loop-made.made c.loop-made.pages.items c.push.new.self.items c.loop-made.rest.now c.behind_page-rest.result.now c.in_ok-page_from.field-0 c.loop-made-test.true c.in_ok-page_from.ensures c.behind_page-rest.ensures pushed

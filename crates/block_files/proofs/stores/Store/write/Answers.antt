use Rattle.std.proofs.Common.{◌≡◌, true, sym, ap, ◌∙◌, arith}
use Rattle.monitor_model.specs.Files.{is_file, is_block}
use Rattle.monitor_model.proofs.FileLemmas.{grown_block, write_is}
use Rattle.block_files.proofs.stores.Store.write.Goals as goal

pub put-requires : goal.put-requires
put-requires c =
    let files = c.args.self.now.files in
    let there : is_file files c.args.name.now ≡ true = sym c.is_file.ensures ∙ c.if-not-is_file.false in
    ap (λ fs. is_block fs c.args.name.now c.args.block) c.in_ok-grow.ensures.ok ∙ grown_block files c.args.name.now c.args.block c.missing-more.result there (omega arith) c.missing-more.ensures

pub returns-clause-ok : goal.returns-clause-ok
returns-clause-ok c =
    let files = c.args.self.now.files in
    let there : is_file files c.args.name.now ≡ true = sym c.is_file.ensures ∙ c.if-not-is_file.false in
    write_is files c.args.name.now c.args.block c.missing-more.result c.args.page.now c.grow.new.self.files c.put.new.self.files there c.missing-more.ensures c.in_ok-grow.ensures.ok c.put.ensures.files

use Rattle.std.proofs.Common.{◌≡◌, Some, None, sym, ◌∙◌}
use Rattle.std.specs.Prelude.{vec_capacity}
use Rattle.std.proofs.lemmas.List.{get_or_read}
use Rattle.block_interlock.specs.Fields.{slot, field_at}
use Rattle.block_interlock.proofs.FieldLemmas.{short_at, let_go_nothing, let_go_kept, let_go_gone}
use Rattle.block_interlock.proofs.holds.let_go.Goals as goal

pub drop_all-requires-clause-numbered : goal.drop_all-requires-clause-numbered
drop_all-requires-clause-numbered c =
    let fields = c.args.fields.now.items in
    let there : field_at fields c.args.job c.args.channel ≡ Some c.in-Some.held = sym (get_or_read fields (slot c.args.job c.args.channel) c.index.result.now c.requires.field.0 c.index.ensures None) ∙ c.in-Some.is in
    (short_at fields (slot c.args.job c.args.channel) c.in-Some.held c.requires.kept.short there).1.1

pub returns-in-Some-clause-kept : goal.returns-in-Some-clause-kept
returns-in-Some-clause-kept c =
    let fields = c.args.fields.now.items in
    let there : field_at fields c.args.job c.args.channel ≡ Some c.in-Some.held = sym (get_or_read fields (slot c.args.job c.args.channel) c.index.result.now c.requires.field.0 c.index.ensures None) ∙ c.in-Some.is in
    let_go_kept fields c.args.index.now.items (vec_capacity c.args.index.now) c.requires.kept c.args.job c.args.channel c.requires.field c.in-Some.held there c.drop_all.new.index.items c.drop_all.ensures.drops (vec_capacity c.drop_all.new.index) c.drop_all.ensures.room

pub returns-in-Some-clause-gone : goal.returns-in-Some-clause-gone
returns-in-Some-clause-gone c =
    let fields = c.args.fields.now.items in
    let there : field_at fields c.args.job c.args.channel ≡ Some c.in-Some.held = sym (get_or_read fields (slot c.args.job c.args.channel) c.index.result.now c.requires.field.0 c.index.ensures None) ∙ c.in-Some.is in
    let_go_gone fields c.args.index.now.items (vec_capacity c.args.index.now) c.requires.kept c.args.job c.args.channel c.requires.field c.in-Some.held there c.drop_all.new.index.items c.drop_all.ensures.drops

pub returns-in_default-clause-gone : goal.returns-in_default-clause-gone
returns-in_default-clause-gone c =
    let fields = c.args.fields.now.items in
    let none : field_at fields c.args.job c.args.channel ≡ None = sym (get_or_read fields (slot c.args.job c.args.channel) c.index.result.now c.requires.field.0 c.index.ensures None) ∙ c.in_default.is in
    let_go_nothing fields c.args.index.now.items (vec_capacity c.args.index.now) c.requires.kept c.args.job c.args.channel c.requires.field none

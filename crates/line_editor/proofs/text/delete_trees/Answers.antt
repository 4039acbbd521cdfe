use Rattle.std.proofs.Common.{◌≡◌, rules}
use Rattle.std.specs.Prelude.{not}
use Rattle.std.proofs.lemmas.Map.Entries.{filter_from_retain_pairs}
use Rattle.basic_tree.specs.ProgramLines.{is_within}
use Rattle.line_editor.proofs.text.delete_trees.Goals as goal

pub returns : goal.returns
returns c =
    filter_from_retain_pairs _ (λ f. (f.0.now ≡ c.args.from) × (f.1.now ≡ c.args.to)) (λ line. not (is_within c.args.from c.args.to line.0)) (λ f k v b w f' i t. search rules) _ _ _ (search rules) c.retain.ensures.filtered

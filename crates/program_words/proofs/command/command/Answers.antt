use Rattle.std.proofs.Common.{◌≡◌, ◌∙◌, ap₂, rules}
use Rattle.std.proofs.lemmas.Result.{IfOk-weaker}
use Rattle.clap.specs.Words.{app_of, rule_of, with_rule}
use Rattle.program_words.specs.CommandLine.{bare_app, action_rule, count_rule, history_rule, printer_rule}
use Rattle.program_words.proofs.command.command.Goals as goal

pub returns : goal.returns
returns c =
    let bare : app_of c.disable_version_flag.result ≡ bare_app = search rules in
    let action_is : rule_of c.required-action.result ≡ action_rule = search rules in
    let count_is : rule_of c.new-count.result ≡ count_rule = search rules in
    let history_is : rule_of c.action-history.result ≡ history_rule = search rules in
    let one = c.in_ok-arg.ensures.shape (search rules) ∙ ap₂ with_rule bare action_is in
    let printer_is : rule_of c.action-printer.result ≡ printer_rule = search rules in
    let two = c.in_ok-arg-2.ensures.shape (search rules) ∙ ap₂ with_rule one count_is in
    let three = c.in_ok-arg-3.ensures.shape (search rules) ∙ ap₂ with_rule two history_is in
    IfOk-weaker c.arg-4.result _ _ (λ command adds. adds.shape (search rules) ∙ ap₂ with_rule three printer_is) c.arg-4.ensures

-- The command that `clap` parses, and the words as it finds them. You need not trust this file.
use Rattle.std.specs.Prelude.{Option, Some, true, option_map, codes}
use Rattle.clap.specs.Words.{App, Rule, new_app, new_rule, with_rule}
use Rattle.clap.specs.declared.builder.action.ArgAction.TheVariants.{SetTrue}
use Rattle.program_words.specs.declared.command.Said.{Said}
use Rattle.program_words.specs.Words as model

abbrev pub action_rule : Rule
action_rule = record (new_rule (codes "action")) { required = true }

abbrev pub count_rule : Rule
count_rule = new_rule (codes "count")

abbrev pub history_rule : Rule
history_rule = record (new_rule (codes "history")) {
  long = Some (codes "history");
  action = Some SetTrue;
}

abbrev pub printer_rule : Rule
printer_rule = record (new_rule (codes "printer")) {
  long = Some (codes "printer");
  action = Some SetTrue;
}

abbrev pub bare_app : App
bare_app = record (new_app (codes "rsts")) {
  top = record (new_app (codes "rsts")).top {
    no_binary_name = true;
    disable_help_flag = true;
    disable_version_flag = true;
  };
}

-- an action, a count, and two flags
abbrev pub command_app : App
command_app =
    with_rule (with_rule (with_rule (with_rule bare_app action_rule) count_rule) history_rule)
    printer_rule

-- the words that were found, as the definition has them
abbrev pub said_seen : Said → model.Said
said_seen said = record {
  action = said.action.now;
  count = option_map (λ count. count.now) said.count;
  wanted = said.wanted;
}

abbrev pub said_option : Option Said → Option model.Said
said_option = option_map said_seen

use Rattle.std.proofs.Common.{◌≡◌, ◌∙◌, true, [], Some, None, map, option_map, sym, ap, subst, codes, rules}
use Rattle.std.specs.Prelude.{string_bytes}
use Rattle.std.specs.Global.{Global}
use Rattle.clap.specs.Words.{App, HasKind, app_of, found_of, rows_of, fault_of, matches_of, first_of, one_of, is_simple, is_simple_and_free}
use Rattle.clap.proofs.WalkLemmas.{first_value-rows, one_text-rows}
use Rattle.program_words.specs.CommandLine.{command_app}
use Rattle.program_words.proofs.Uses.{History, Printer}
use Rattle.program_words.proofs.Rows.{is_true}
use Rattle.program_words.proofs.Parses.{all_utf8, refused_then, simple, simple_and_free, refused_says, taken_says, flag_is, read_is, read_none}
use Rattle.program_words.proofs.command.said_by.Goals as goal

pub returns-in-Err : goal.returns-in-Err
returns-in-Err c =
    let words = map (string_bytes {Z = Global}) c.args.words.now in
    let is : app_of c.in_ok-command.field-0 ≡ command_app = search rules in
    let free : is_simple_and_free (app_of c.in_ok-command.field-0) ≡ true = ap is_simple_and_free is ∙ simple_and_free in
    let has : HasKind (fault_of command_app words) c.in-Err.error = subst (λ (app : App). HasKind (fault_of app words) c.in-Err.error) is (c.in-Err.ensures.kinds free) in
    refused_then words c.kind.result c.refused.result c.refused.ensures.nothing c.refused.ensures.other
    (λ other. refused_says words c.in-Err.error (all_utf8 c.args.words.now) has (λ memory. other (c.kind.ensures ∙ memory)))

pub returns-in-Some : goal.returns-in-Some
returns-in-Some c =
    let words = map (string_bytes {Z = Global}) c.args.words.now in
    let rows = rows_of (found_of c.in-Ok.matches) in
    let is : app_of c.in_ok-command.field-0 ≡ command_app = search rules in
    let free : is_simple_and_free (app_of c.in_ok-command.field-0) ≡ true = ap is_simple_and_free is ∙ simple_and_free in
    let none : fault_of command_app words ≡ [] = subst (λ (app : App). fault_of app words ≡ []) is (c.in-Ok.ensures.kinds free) in
    let found : rows ≡ matches_of command_app words = (c.in-Ok.ensures.matches (ap is_simple is ∙ simple)).0 ∙ ap (λ (app : App). matches_of app words) is in
    let history : is_true (one_of (codes "history") rows) ≡ c.get_flag.result = flag_is History words rows c.get_flag.result (all_utf8 c.args.words.now) none found
    (λ e. c.get_flag.ensures.value (one_text-rows (found_of c.in-Ok.matches) (codes "history") ∙ e))
    (λ e. c.get_flag.ensures.other (one_text-rows (found_of c.in-Ok.matches) (codes "history") ∙ e)) in
    let printer : is_true (one_of (codes "printer") rows) ≡ c.get_flag-in-Some.result = flag_is Printer words rows c.get_flag-in-Some.result (all_utf8 c.args.words.now) none found
    (λ e. c.get_flag-in-Some.ensures.value (one_text-rows (found_of c.in-Ok.matches) (codes "printer") ∙ e))
    (λ e. c.get_flag-in-Some.ensures.other (one_text-rows (found_of c.in-Ok.matches) (codes "printer") ∙ e)) in
    let action : first_of (codes "action") rows ≡ Some c.in-Some.action.now = sym (first_value-rows (found_of c.in-Ok.matches) (codes "action")) ∙ (sym c.get_str.ensures ∙ ap (option_map (λ s. s.now)) c.in-Some.is) in
    let count : first_of (codes "count") rows ≡ option_map (λ s. s.now) c.get_str-in-Some.result = sym (first_value-rows (found_of c.in-Ok.matches) (codes "count")) ∙ sym c.get_str-in-Some.ensures in
    sym (read_is rows c.in-Some.action.now _ _ action count history printer) ∙ taken_says words rows (all_utf8 c.args.words.now) none found

pub returns : goal.returns
returns c =
    let words = map (string_bytes {Z = Global}) c.args.words.now in
    let rows = rows_of (found_of c.in-Ok.matches) in
    let is : app_of c.in_ok-command.field-0 ≡ command_app = search rules in
    let free : is_simple_and_free (app_of c.in_ok-command.field-0) ≡ true = ap is_simple_and_free is ∙ simple_and_free in
    let none : fault_of command_app words ≡ [] = subst (λ (app : App). fault_of app words ≡ []) is (c.in-Ok.ensures.kinds free) in
    let found : rows ≡ matches_of command_app words = (c.in-Ok.ensures.matches (ap is_simple is ∙ simple)).0 ∙ ap (λ (app : App). matches_of app words) is in
    let action : first_of (codes "action") rows ≡ None = sym (first_value-rows (found_of c.in-Ok.matches) (codes "action")) ∙ (sym c.get_str.ensures ∙ ap (option_map (λ s. s.now)) {y = None} (search rules)) in
    sym (read_none rows action) ∙ taken_says words rows (all_utf8 c.args.words.now) none found

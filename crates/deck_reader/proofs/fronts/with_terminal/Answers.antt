use Rattle.std.proofs.Common.{◌≡◌, ◌<◌, ◌≤◌, true, false, length, Ok, rules, sym, ◌∙◌, arith}
use Rattle.monitor_calls.specs.Names.{is_terminal_name}
use Rattle.deck_model.specs.Fronts.{InTerminal, new_terminal}
use Rattle.deck_reader.specs.Seen.{deck_of, is_named}
use Rattle.deck_reader.proofs.FrontLemmas.{terminal_full, terminal_added}
use Rattle.deck_reader.proofs.fronts.with_terminal.Goals as goal

pub returns-then-len-ge-MOST_JOBS : goal.returns-then-len-ge-MOST_JOBS
returns-then-len-ge-MOST_JOBS c =
    let terminals = c.args.deck.terminals in
    let good : is_terminal_name c.args.name.now ≡ true = search rules in
    let new : is_named terminals.items c.args.name.now ≡ false = search rules in
    let full : 63 ≤ length terminals.items = omega (arith, c.len.ensures, c.args.deck.terminals.ok.0) in
    terminal_full terminals.items c.args.name.now (InTerminal c.args.version (deck_of c.args.deck) (new_terminal c.args.name.now)) good new full

pub returns : goal.returns
returns c =
    let terminals = c.args.deck.terminals in
    let good : is_terminal_name c.args.name.now ≡ true = search rules in
    let new : is_named terminals.items c.args.name.now ≡ false = search rules in
    let few : length terminals.items < 63 = omega (arith, c.len.ensures, c.args.deck.terminals.ok.0) in
    let same : c.in_ok-terminal.terminal ≡ c.args.name.now = search rules in
    let none = c.new-keys.ensures.items in
    terminal_added terminals.items c.args.name.now (InTerminal c.args.version (deck_of c.args.deck) (new_terminal c.args.name.now)) good new few
    ∙ (λ i. Ok (InTerminal c.args.version (deck_of c.args.deck) (record { name = sym same i; keys = sym none i })))

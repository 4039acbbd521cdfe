use Rattle.std.proofs.Common.{sym, subst}
use Rattle.std.specs.Prelude.{Result}
use Rattle.deck_model.specs.declared.faults.DeckCause.{DeckCause}
use Rattle.deck_model.specs.Deck as model
use Rattle.deck_model.specs.Hex.{hex_bytes}
use Rattle.deck_model.specs.Fronts.{Front}
use Rattle.deck_reader.specs.Seen.{file_texts_seen, deck_of, open_of, front_of, Decides}
use Rattle.deck_reader.proofs.FrontLemmas.{filed, named, named_behind, next_file_behind, text_behind, block_behind}
use Rattle.deck_reader.proofs.fronts.behind_file.Goals as goal

pub returns-in-Some-Text : goal.returns-in-Some-Text
returns-in-Some-Text c =
    let behind = text_behind c.args.version (deck_of c.args.deck) (open_of c.args.file) c.args.line.now c.in-Some-Text.text.now (rw c.in-Some-Text.field-0-is at c.in-Some-Text.ensures) in
    subst (λ (r : Result Front DeckCause). Decides front_of c.with_text.result r) (sym behind) c.with_text.ensures

pub returns-in-Some-Block : goal.returns-in-Some-Block
returns-in-Some-Block c =
    let behind = block_behind c.args.version (deck_of c.args.deck) (open_of c.args.file) c.args.line.now (hex_bytes c.in-Some-Block.digits.now) (rw c.in-Some-Block.field-0-is at c.in-Some-Block.ensures) in
    subst (λ (r : Result Front DeckCause). Decides front_of c.with_block.result r) (sym behind) c.with_block.ensures

pub returns-in_ok-before-in-Some-File : goal.returns-in_ok-before-in-Some-File
returns-in_ok-before-in-Some-File c =
    let texts = file_texts_seen c.in-Some-File.texts in
    let behind = next_file_behind c.args.version (deck_of c.args.deck) (open_of c.args.file) c.args.line.now texts (rw c.in-Some-File.field-0-is at c.in-Some-File.ensures) in
    let taken = subst (λ (deck : model.Deck). Decides front_of c.with_file.result (filed c.args.version deck texts)) c.in_ok-before-in-Some-File.ensures c.with_file.ensures in
    subst (λ (r : Result Front DeckCause). Decides front_of c.with_file.result r) (sym behind) taken

pub returns-in_ok-before-in-Some-Terminal : goal.returns-in_ok-before-in-Some-Terminal
returns-in_ok-before-in-Some-Terminal c =
    let name = c.in-Some-Terminal.name.now in
    let behind = named_behind c.args.version (deck_of c.args.deck) (open_of c.args.file) c.args.line.now name (rw c.in-Some-Terminal.field-0-is at c.in-Some-Terminal.ensures) in
    let taken = subst (λ (deck : model.Deck). Decides front_of c.with_terminal.result (named c.args.version deck name)) c.in_ok-before-in-Some-Terminal.ensures c.with_terminal.ensures in
    subst (λ (r : Result Front DeckCause). Decides front_of c.with_terminal.result r) (sym behind) taken

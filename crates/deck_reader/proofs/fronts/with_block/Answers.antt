use Rattle.std.proofs.Common.{rules, ◌≡◌, ◌+◌, ◌≤◌, true, false, length, Ok, refl, sym, ap, ◌∙◌, arith}
use Rattle.std.specs.Prelude.{◌*◌, ◌++◌, nat_lt}
use Rattle.std.proofs.lemmas.Bool.{lt-ltb, le-ltb}
use Rattle.deck_model.specs.Files.{File, block_of}
use Rattle.deck_model.specs.Fronts.{InFile}
use Rattle.deck_model.specs.Hex.{hex_bytes}
use Rattle.deck_reader.specs.Seen.{deck_of, open_of}
use Rattle.deck_reader.proofs.FileLemmas.{length-hex, more_bytes}
use Rattle.deck_reader.proofs.fronts.with_block.Goals as goal

pub returns-then-digits-gt-BLOCK_BYTES : goal.returns-then-digits-gt-BLOCK_BYTES
returns-then-digits-gt-BLOCK_BYTES c =
    let digits = c.args.digits.now in
    let long : nat_lt 512 (length (hex_bytes digits)) ≡ true = lt-ltb 512 (length (hex_bytes digits)) (omega (arith, length-hex digits, c.if-digits-gt-BLOCK_BYTES.true)) in
    rw long refl

pub returns-then-lacks : goal.returns-then-lacks
returns-then-lacks c =
    let file = c.args.file in
    let digits = c.args.digits.now in
    let few : length (hex_bytes digits) ≤ 512 = omega (arith, length-hex digits, c.if-digits-gt-BLOCK_BYTES.false) in
    let short : nat_lt 512 (length (hex_bytes digits)) ≡ false = le-ltb 512 (length (hex_bytes digits)) few in
    let test : nat_lt (512 * file.blocks) (length file.content.items + 512) ≡ true = search rules in
    let full : nat_lt (512 * file.blocks) (length (file.content.items ++ block_of (hex_bytes digits))) ≡ true = ap (nat_lt (512 * file.blocks)) (more_bytes (open_of file) (hex_bytes digits) few) ∙ test in
    rw (short, full) refl

pub with_block-requires-clause-few : goal.with_block-requires-clause-few
with_block-requires-clause-few c = omega (arith, length-hex c.args.digits.now, c.if-digits-gt-BLOCK_BYTES.false)

pub returns : goal.returns
returns c =
    let file = c.args.file in
    let digits = c.args.digits.now in
    let few : length (hex_bytes digits) ≤ 512 = omega (arith, length-hex digits, c.if-digits-gt-BLOCK_BYTES.false) in
    let short : nat_lt 512 (length (hex_bytes digits)) ≡ false = le-ltb 512 (length (hex_bytes digits)) few in
    let test : nat_lt (512 * file.blocks) (length file.content.items + 512) ≡ false = search rules in
    let room : nat_lt (512 * file.blocks) (length (file.content.items ++ block_of (hex_bytes digits))) ≡ false = ap (nat_lt (512 * file.blocks)) (more_bytes (open_of file) (hex_bytes digits) few) ∙ test in
    rw (short, room) (ap (λ (f : File). Ok (InFile c.args.version (deck_of c.args.deck) f)) (sym c.in_ok-file.ensures))

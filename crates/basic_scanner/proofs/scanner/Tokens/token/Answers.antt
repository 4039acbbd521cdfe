use Rattle.std.proofs.Common.{◌<◌, length, ap, arith}
use Rattle.std.proofs.lemmas.List.{length-map}
use Rattle.basic_scanner.specs.Lexemes.{lexeme_of}
use Rattle.basic_scanner.proofs.ShortLemmas.{short_at}
use Rattle.basic_scanner.proofs.scanner.Tokens.token.Goals as goal

pub returns-clause-short : goal.returns-clause-short
returns-clause-short c =
    let within : c.args.k < length c.self.inside.tokens.items = omega (arith, ap length c.self.view_is, length-map c.self.inside.tokens.items lexeme_of, c.requires) in
    rw c.deref.ensures.0 (short_at c.self.inside.tokens.items c.args.k _ within c.self.invariant)

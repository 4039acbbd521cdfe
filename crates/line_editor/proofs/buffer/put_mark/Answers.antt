use Rattle.std.proofs.Common.{◌≡◌, ℕ, suc, ◌∷◌, ◌++◌, take, drop, ap, ◌∙◌, arith}
use Rattle.std.proofs.lemmas.List.{set_split}
use Rattle.line_editor.proofs.buffer.put_mark.Goals as goal

pub returns-then-places : goal.returns-then-places
returns-then-places c =
    let marks = c.args.marks.now.items in
    let next : suc c.args.places.first ≡ c.args.places.behind = omega (arith, c.requires.one, c.if-places.true) in
    set_split marks c.args.places.first c.args.mark (omega (arith, c.if-places.true, c.requires.within))
    ∙ ap (λ (k : ℕ). take c.args.places.first marks ++ c.args.mark ∷ drop k marks) next

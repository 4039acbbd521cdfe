use Rattle.std.proofs.Common.{◌≡◌, ℕ, sym, ◌∙◌}
use Rattle.deck_model.specs.declared.faults.DeckCause.{DeckCause}
use Rattle.deck_model.specs.Deck.{Deck}
use Rattle.deck_model.specs.Reading.{Yields, Refuses}
use Rattle.deck_model.proofs.ReadingLaws.{spelled_told, refused_told}
use Rattle.deck_model.proofs.laws.one_verdict.Goals as goal

same_deck : (x y : Deck) → Yields x ≡ Yields y → x ≡ y
same_deck x y e = cc

same_line : (l m : ℕ) (x y : DeckCause) → Refuses l x ≡ Refuses m y → l ≡ m
same_line l m x y e = cc

same_why : (l m : ℕ) (x y : DeckCause) → Refuses l x ≡ Refuses m y → x ≡ y
same_why l m x y e = cc

not_both : (d : Deck) (l : ℕ) (x : DeckCause) → Yields d ≡ Refuses l x → ⊥
not_both d l x e = cc

pub returns : goal.returns
returns c = record {
  one_deck = λ bytes deck other s t. same_deck deck other (sym (spelled_told bytes deck s) ∙ spelled_told bytes other t);
  one_refusal = λ bytes line other why otherwise r q.
      let e = sym (refused_told bytes line why r) ∙ refused_told bytes other otherwise q in
      (same_line line other why otherwise e, same_why line other why otherwise e);
  never_both = λ bytes deck line why s r. not_both deck line why (sym (spelled_told bytes deck s) ∙ refused_told bytes line why r);
}

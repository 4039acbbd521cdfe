use Rattle.basic_expr.proofs.Steps.{minus_signed, plus_signed, minus_exponent, plus_exponent, no_sign, no_exponent_sign}
use Rattle.basic_expr.proofs.signs.next_sign.Goals as goal

pub returns-then-next_is_sign-clause-signed : goal.returns-then-next_is_sign-clause-signed
returns-then-next_is_sign-clause-signed c = let at = c.if-next_is_sign.ensures.stands in minus_signed c.args.words.now c.args.place at.0 at.1

pub returns-then-next_is_sign-clause-exponent : goal.returns-then-next_is_sign-clause-exponent
returns-then-next_is_sign-clause-exponent c = let at = c.if-next_is_sign.ensures.stands in minus_exponent c.args.words.now c.args.place at.0 at.1

pub returns-then-next_is_sign-2-clause-signed : goal.returns-then-next_is_sign-2-clause-signed
returns-then-next_is_sign-2-clause-signed c = let at = c.if-next_is_sign-2.ensures.stands in plus_signed c.args.words.now c.args.place at.0 at.1

pub returns-then-next_is_sign-2-clause-exponent : goal.returns-then-next_is_sign-2-clause-exponent
returns-then-next_is_sign-2-clause-exponent c = let at = c.if-next_is_sign-2.ensures.stands in plus_exponent c.args.words.now c.args.place at.0 at.1

pub returns-else-next_is_sign-2-clause-signed : goal.returns-else-next_is_sign-2-clause-signed
returns-else-next_is_sign-2-clause-signed c = no_sign c.args.words.now c.args.place c.if-next_is_sign.ensures.stands c.if-next_is_sign-2.ensures.stands

pub returns-else-next_is_sign-2-clause-exponent : goal.returns-else-next_is_sign-2-clause-exponent
returns-else-next_is_sign-2-clause-exponent c = no_exponent_sign c.args.words.now c.args.place c.if-next_is_sign.ensures.stands c.if-next_is_sign-2.ensures.stands

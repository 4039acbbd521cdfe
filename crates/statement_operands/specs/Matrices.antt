-- The forms of what MAT stores, part by part.
use Rattle.std.specs.Prelude.{true, false}
use Rattle.basic_tree.specs.declared.names.Name.{Name}
use Rattle.basic_tree.specs.declared.tokens.Keyword.TheVariants as keyword
use Rattle.basic_tree.specs.declared.tokens.Sign.TheVariants as sign
use Rattle.basic_tree.specs.declared.kinds.Want.TheVariants as want
use Rattle.basic_tree.specs.Trees.{MatrixTree, Copy, Sum, Difference, Product, Scaled, Transposed}
use Rattle.grammar_machine.specs.MachineStack.{Form, TakeSign, TakeClosing, IfKey, IfSign, ExprOf, NameIn}

-- after TRN
abbrev pub transposed_form : (MatrixTree → Form) → Form
transposed_form g = TakeSign true sign.Opening (NameIn want.Number (λ b. TakeClosing (g (Transposed b))))

-- a number in parentheses times an array: after the parenthesis, and with it
abbrev pub factor_form : (MatrixTree → Form) → Form
factor_form g = ExprOf want.Number (λ factor. TakeClosing (TakeSign false sign.Star (NameIn want.Number (λ b. g (Scaled factor b)))))

abbrev pub scaled_form : (MatrixTree → Form) → Form
scaled_form g = TakeSign true sign.Opening (factor_form g)

-- after the name of a first operand
abbrev pub pair_form : Name → (MatrixTree → Form) → Form
pair_form b g =
    IfSign false sign.Plus (NameIn want.Number (λ c. g (Sum b c)))
    (IfSign false sign.Minus (NameIn want.Number (λ c. g (Difference b c)))
    (IfSign false sign.Star (NameIn want.Number (λ c. g (Product b c)))
    (g (Copy b))))

-- what is computed from other arrays
abbrev pub operands_form : (MatrixTree → Form) → Form
operands_form g =
    IfKey false keyword.Trn (transposed_form g)
    (IfSign true sign.Opening (factor_form g) (NameIn want.Number (λ b. pair_form b g)))

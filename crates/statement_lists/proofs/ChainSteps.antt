-- The last word of CHAIN's string, and whether a number follows it.
use Rattle.std.proofs.Common.{◌≡◌, ℕ, zero, suc, ◌+◌, ◌-◌, ◌<◌, ◌≤◌, ◌&&◌, Bool, true, false, List, [], ◌∷◌, length, take, drop, Option, Some, None, Ok, refl, ap, sym, ◌∙◌, arith}
use Rattle.std.specs.Prelude.{MatchBool}
use Rattle.std.proofs.lemmas.List.{length-drop}
use Rattle.std.proofs.Common.{drop-drop}
use Rattle.basic_tree.specs.declared.tokens.Sign.{Sign}
use Rattle.basic_tree.specs.declared.tokens.Sign.TheVariants as sign
use Rattle.basic_tree.specs.declared.kinds.Want.TheVariants as want
use Rattle.basic_tree.specs.SpellingWords.{Word, Punctuation, words}
use Rattle.basic_tree.specs.SpellingExpressions.{steps_of}
use Rattle.basic_tree.specs.SpellingParts.{first_word, is_name, last_word, may_follow}
use Rattle.basic_expr.specs.declared.failures.Failure.{Failure}
use Rattle.basic_tree.specs.declared.tokens.Keyword.TheVariants as keyword
use Rattle.basic_tree.specs.Trees.{Tree, ChainLineTree, Chain}
use Rattle.grammar_machine.specs.MachineStack.{Form, TakeKey, ExprOf, Stated, Term, Values, Symbol, Level, loosest}
use Rattle.grammar_machine.specs.MachineForms.{begins_value, chains, says}
use Rattle.grammar_machine.specs.MachineSentences.{chain_form}
use Rattle.grammar_machine.specs.MachineRun.{run}
use Rattle.grammar_machine.proofs.ExpressionPlaces.{last_taken}
use Rattle.grammar_machine.proofs.FormSteps.{expr_if, expr_if_not, run_made}
use Rattle.statement_lists.specs.Following.{EndsBefore, NothingFollows, NumberFollows, chain_line_form, follows}
use Rattle.statement_parts.specs.ParsedForms.{Halts, Leads, Makes}
use Rattle.statement_parts.proofs.Steps.{expression_leads, expression_halts}

-- ---- the last word

last_taken_word : (xs : List Word) (j : ℕ) → j < length xs → last_word (take (suc j) xs) ≡ first_word (drop j xs)
last_taken_word [] j h = absurd (omega (arith, h))
last_taken_word (x ∷ xs) zero h = refl
last_taken_word (x ∷ []) (suc j) h = absurd (omega (arith, h))
last_taken_word (x ∷ (y ∷ ys)) (suc j) h = last_taken_word (y ∷ ys) j (omega (arith, h))

-- with nothing expected the machine ends
run_nothing : (n : ℕ) (ws : List Word) (vs : Values) → run n ws [] vs ≡ Ok (vs, ws)
unfolding run
run_nothing n [] vs = refl
run_nothing n (t ∷ ws) vs = refl

pub ends_before : (n : ℕ) (ws : List Word) (from end : ℕ) (t : Tree)
    → from < end
    → end ≤ length ws
    → ((k : List Symbol) (vs : Values) → run n (drop from ws) (Level loosest want.Text ∷ k) vs ≡ run n (drop end ws) k (Term t ∷ vs))
    → EndsBefore ws end t
ends_before n ws from end t after inside h =
    let same = last_taken want.Text ws n from end t (omega (arith, after)) inside (h [] [] ∙ run_nothing n (drop end ws) (Term t ∷ [])) in
    let j : ℕ = end - from - 1 in
    let count : end - from ≡ suc j = omega (arith, after) in
    let place : from + j ≡ end - 1 = omega (arith, after) in
    let within : j < length (drop from ws) = omega (arith, length-drop from ws) in
    ap (λ x. last_word x) (sym same) ∙ ap (λ (m : ℕ). last_word (take m (drop from ws))) count ∙ last_taken_word (drop from ws) j within ∙ ap (λ x. first_word x) (drop-drop j from ws) ∙ ap (λ (m : ℕ). first_word (drop m ws)) place

pub ruleset programs = (expression_leads, expression_halts, ends_before)

-- ---- words that come first

pub first_stands : (ws : List Word) (t : Word) (rest : List Word) → ws ≡ t ∷ rest → first_word ws ≡ Some t
first_stands ws t rest e = ap (λ x. first_word x) e

pub none_stands : (ws : List Word) → ws ≡ [] → first_word ws ≡ None
none_stands ws e = ap (λ x. first_word x) e

pub ruleset stands_first = (first_stands, none_stands)

-- ---- what follows

sign_may_follow : (last : Option Word) (s : Sign) → may_follow last (Some (Punctuation s)) ≡ follows (is_name last) (Punctuation s)
sign_may_follow last sign.Plus = refl
sign_may_follow last sign.Minus = refl
sign_may_follow last sign.Opening = refl
sign_may_follow last s = refl

follows_may : (last : Option Word) (w : Word) → may_follow last (Some w) ≡ follows (is_name last) w
follows_may last (Punctuation s) = sign_may_follow last s
follows_may last w = refl

passes : (t : Tree) (last : Option Word) (w : Word) → last_word (words (steps_of t)) ≡ last → chains t w ≡ (begins_value w && follows (is_name last) w)
passes t last w e = ap (λ (x : Bool). begins_value w && x) (ap (λ x. may_follow x (Some w)) e ∙ follows_may last w)

pub number_stands : (ws : List Word) (place : ℕ) (w : Word) (named : Bool)
    → drop place ws ≡ w ∷ drop (place + 1) ws
    → named ≡ is_name (first_word (drop (place - 1) ws))
    → (begins_value w && follows named w) ≡ true
    → NumberFollows ws place
number_stands ws place w named e same test = λ t last n g h k vs.
    let yes : chains t w ≡ true = passes t (first_word (drop (place - 1) ws)) w last ∙ ap (λ (x : Bool). begins_value w && follows x w) (sym same) ∙ test in
    rw e (expr_if n (chains t) want.Number g h w (drop (place + 1) ws) k vs yes)

pub nothing_stands : (ws : List Word) (place : ℕ) (w : Word) (named : Bool)
    → drop place ws ≡ w ∷ drop (place + 1) ws
    → named ≡ is_name (first_word (drop (place - 1) ws))
    → (begins_value w && follows named w) ≡ false
    → NothingFollows ws place
nothing_stands ws place w named e same test = λ t last n g h k vs.
    let none : chains t w ≡ false = passes t (first_word (drop (place - 1) ws)) w last ∙ ap (λ (x : Bool). begins_value w && follows x w) (sym same) ∙ test in
    rw e (expr_if_not n (chains t) want.Number g h (w ∷ drop (place + 1) ws) k vs none)

pub end_stands : (ws : List Word) (place : ℕ) → drop place ws ≡ [] → NothingFollows ws place
end_stands ws place e = λ t last n g h k vs. rw e (expr_if_not n (chains t) want.Number g h [] k vs tt)

pub ruleset following = (number_stands, nothing_stands, end_stands)

pub either_follows : (ws : List Word) (place : ℕ) (w : Word) (named b : Bool)
    → drop place ws ≡ w ∷ drop (place + 1) ws
    → named ≡ is_name (first_word (drop (place - 1) ws))
    → begins_value w ≡ true
    → b ≡ follows named w
    → MatchBool b (NumberFollows ws place) (NothingFollows ws place)
either_follows ws place w named true e same begins f = number_stands ws place w named e same (rw (begins, ← f) refl)
either_follows ws place w named false e same begins f = nothing_stands ws place w named e same (rw (begins, ← f) refl)

-- ---- the whole statement

-- the line comes after the string
text_leads : (n : ℕ) (ws : List Word) (from at behind : ℕ) (t : Tree)
    → ((m : ℕ) (f : Form) → Leads m m ws from at (TakeKey false keyword.Chain f) f)
    → ((g : Tree → Form) → Leads n n ws at behind (ExprOf want.Text g) (g t))
    → Leads n n ws from behind chain_form (chain_line_form t (λ l. says (Chain t l)))
text_leads n ws from at behind t key text k vs =
    key n (ExprOf want.Text (λ t. chain_line_form t (λ l. says (Chain t l)))) k vs
    ∙ text (λ t. chain_line_form t (λ l. says (Chain t l))) k vs

pub chained : (n : ℕ) (ws : List Word) (from at behind end : ℕ) (t : Tree) (l : Option ChainLineTree)
    → ((m : ℕ) (f : Form) → Leads m m ws from at (TakeKey false keyword.Chain f) f)
    → ((g : Tree → Form) → Leads n n ws at behind (ExprOf want.Text g) (g t))
    → ((g : Option ChainLineTree → Form) → Leads n n ws behind end (chain_line_form t g) (g l))
    → Makes n ws from end chain_form (Stated (Chain t l))
chained n ws from at behind end t l key text line k vs =
    text_leads n ws from at behind t key text k vs
    ∙ line (λ l. says (Chain t l)) k vs
    ∙ run_made n (Stated (Chain t l)) (drop end ws) k vs

pub chain_halts : (n : ℕ) (ws : List Word) (from at behind : ℕ) (t : Tree) (e : Failure)
    → ((m : ℕ) (f : Form) → Leads m m ws from at (TakeKey false keyword.Chain f) f)
    → ((g : Tree → Form) → Leads n n ws at behind (ExprOf want.Text g) (g t))
    → ((g : Option ChainLineTree → Form) → Halts n ws behind (chain_line_form t g) e)
    → Halts n ws from chain_form e
chain_halts n ws from at behind t e key text stops halt is k vs =
    text_leads n ws from at behind t key text k vs ∙ stops (λ l. says (Chain t l)) halt is k vs

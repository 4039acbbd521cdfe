-- FORs that are open, and the pairs of statements when some of them are passed.
use Rattle.std.proofs.Common.{◌≡◌, ℕ, suc, ◌+◌, ◌<◌, ◌≤◌, Bool, true, false, not, cond, List, [], ◌∷◌, ◌++◌, length, get_or, map, drop, reverse, Option, Some, None, Bor, refl, sym, ap, ◌∙◌, append-nil, arith}
use Rattle.std.specs.Prelude.{◌==◌, filter}
use Rattle.std.proofs.lemmas.List.{drop_more, drop_all, reverse-append, map-append}
use Rattle.basic_tree.specs.declared.statements.Statement.{Statement}
use Rattle.basic_tree.specs.StatementViews.{statement_of}
use Rattle.basic_tree.specs.Trees.{StatementTree}
use Rattle.program_model.specs.Program.{Program, OpenLoop, Pair, statements_of, bodies_of, pairs_from, pairs_of}
use Rattle.loop_pairs.specs.declared.opens.OpenLoop.{OpenLoop as Opened}
use Rattle.loop_pairs.specs.declared.pairs.Pair.{Pair as Closed}
use Rattle.loop_pairs.specs.Pairs.{open_seen, opens_seen, pair_seen, left_open, PairsOn}

-- FORS THAT ARE OPEN

filter_append : {A : Type 0} (p : A → Bool) (xs ys : List A) → filter p (xs ++ ys) ≡ filter p xs ++ filter p ys
filter_append p [] ys = refl
filter_append {A} p (x ∷ xs) ys = go (p x) (filter_append p xs ys)
  where
    go : (b : Bool) → filter p (xs ++ ys) ≡ filter p xs ++ filter p ys → cond b (x ∷ filter p (xs ++ ys)) (filter p (xs ++ ys)) ≡ cond b (x ∷ filter p xs) (filter p xs) ++ filter p ys
    go true i = ap (λ l. x ∷ l) i
    go false i = i

pub left_seen : (number : ℕ) (opens : List Opened) → opens_seen (filter (λ one. not (one.number == number)) opens) ≡ left_open (Some number) (opens_seen opens)
left_seen number [] = refl
left_seen number (one ∷ opens) =
    go (not (one.number == number))
    ∙ ap (λ l. l ++ filter (λ (o : OpenLoop). not (o.number == number)) (open_seen one ∷ [])) (left_seen number opens)
    ∙ sym (filter_append (λ (o : OpenLoop). not (o.number == number)) (opens_seen opens) (open_seen one ∷ []))
    ∙ ap (filter (λ (o : OpenLoop). not (o.number == number))) (sym (behind opens))
  where
    behind : (opens : List Opened) → opens_seen (one ∷ opens) ≡ opens_seen opens ++ open_seen one ∷ []
    behind opens = ap (map open_seen) (reverse-append (one ∷ []) opens) ∙ map-append open_seen (reverse opens) (one ∷ [])

    go : (b : Bool) → opens_seen (cond b (one ∷ filter (λ one. not (one.number == number)) opens) (filter (λ one. not (one.number == number)) opens)) ≡ opens_seen (filter (λ one. not (one.number == number)) opens) ++ cond b (open_seen one ∷ []) []
    go true = behind (filter (λ one. not (one.number == number)) opens)
    go false = none (opens_seen (filter (λ one. not (one.number == number)) opens))
      where
        none : (l : List OpenLoop) → l ≡ l ++ []
        none [] = refl
        none (x ∷ xs) = ap (λ l. x ∷ l) (none xs)

-- PAIRS

abbrev seen : List (Bor Statement) → List StatementTree
seen all = map (λ (r : Bor Statement). statement_of r.now) all

module _ (program : Program) (all : List (Bor Statement)) where
  pub none_passed : (pairs : List Closed) (opens : List OpenLoop) → pairs ≡ [] → opens ≡ [] → seen all ≡ statements_of program
      → map pair_seen pairs ++ pairs_from program 0 opens (seen all) ≡ pairs_of program
  none_passed pairs opens no_pairs no_opens same =
      ap (λ (l : List Closed). map pair_seen l ++ pairs_from program 0 opens (seen all)) no_pairs
      ∙ ap (λ (l : List OpenLoop). pairs_from program 0 l (seen all)) no_opens ∙ ap (pairs_from program 0 []) same

  pub one_passed : (m : ℕ) (r : Bor Statement) (bodies : List (Option ℕ)) (body : Option ℕ) (pairs pairs_then : List Closed) (opens opens_then : List OpenLoop) (whole : List Pair)
      → r ≡ get_or all m r → m < length all → body ≡ get_or bodies m None → PairsOn pairs opens m body (statement_of r.now) pairs_then opens_then → bodies ≡ bodies_of program
      → map pair_seen pairs ++ pairs_from program m opens (seen (drop m all)) ≡ whole → map pair_seen pairs_then ++ pairs_from program (m + 1) opens_then (seen (drop (m + 1) all)) ≡ whole
  one_passed m r bodies body pairs pairs_then opens opens_then whole is below given on own so_far =
      ap (λ k. map pair_seen pairs_then ++ pairs_from program k opens_then (seen (drop (m + 1) all))) (let e : m + 1 ≡ suc m = omega arith in e)
      ∙ sym (on program (seen (drop (m + 1) all)) (given ∙ ap (λ l. get_or l m None) own))
      ∙ sym (ap (λ (l : List (Bor Statement)). map pair_seen pairs ++ pairs_from program m opens (seen l)) (drop_more all m r below ∙ ap (λ (x : Bor Statement). x ∷ drop (m + 1) all) (sym is)))
      ∙ so_far

  pub all_passed : (m : ℕ) (pairs : List Closed) (opens : List OpenLoop) (whole : List Pair) → length all ≤ m
      → map pair_seen pairs ++ pairs_from program m opens (seen (drop m all)) ≡ whole → map pair_seen pairs ≡ whole
  all_passed m pairs opens whole past so_far =
      sym (append-nil (map pair_seen pairs)) ∙ sym (ap (λ (l : List (Bor Statement)). map pair_seen pairs ++ pairs_from program m opens (seen l)) (drop_all m all past)) ∙ so_far

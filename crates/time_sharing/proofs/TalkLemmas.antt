-- What the session of a terminal asks for, given the replies of a part that is not its own.
use Rattle.std.proofs.Common.{◌≡◌, ℕ, zero, suc, ◌<◌, ◌≤◌, Bool, true, false, ltb, List, [], ◌∷◌, ◌++◌, length, take, drop, Some, refl, sym, ap, subst, ◌∙◌, arith}
use Rattle.std.specs.Prelude.{slice_get}
use Rattle.std.proofs.lemmas.Bool.{ltb-true, ltb-false}
use Rattle.std.proofs.lemmas.List.{take-append-drop, take-append-le, take-map, map-append, length-map, length-take-le}
use Rattle.monitor_calls.specs.declared.calls.Request.{Request}
use Rattle.monitor_calls.specs.declared.calls.Reply.{Reply}
use Rattle.monitor_calls.specs.Pairs.{Pair, requests, replies}
use Rattle.monitor_calls.specs.Typing.{Typing, Over, all_typed}
use Rattle.basic_tree.specs.LineVerdicts.{Judge}
use Rattle.job_model.specs.Play.{Outcome, Finished, Waits, Listens, Spent, Played}
use Rattle.job_model.specs.PlayLaws.{EndsWith, GrowsTo}
use Rattle.job_model.proofs.Plays.{closed_typing}
use Rattle.terminal_runner.proofs.BatchLemmas.{over_again}
use Rattle.session_model.specs.Talk.{talk}
use Rattle.session_model.proofs.Talks.{talk_ends_lem, talk_grows_lem}
use Rattle.time_sharing.specs.Disputes.{DifferAt, TalksOtherwise}
use Rattle.time_sharing.specs.Runs.{Talks}

-- LISTS

module _ {A : Type 0} where
  get_front : (xs ys : List A) (k : ℕ) → k < length xs → slice_get (xs ++ ys) k ≡ slice_get xs k
  get_front [] ys k less = absurd (omega (arith, less))
  get_front (x ∷ xs) ys zero less = refl
  get_front (x ∷ xs) ys (suc k) less = get_front xs ys k (omega (arith, less))

  -- lists that are alike up to a place are alike at each place before
  alike_before : (p q : ℕ) (xs ys : List A) → p < q → take q xs ≡ take q ys → slice_get xs p ≡ slice_get ys p
  alike_before p zero xs ys less same = absurd (omega (arith, less))
  alike_before p (suc q) [] [] less same = refl
  alike_before p (suc q) [] (y ∷ ys) less same = absurd (cc)
  alike_before p (suc q) (x ∷ xs) [] less same = absurd (cc)
  alike_before zero (suc q) (x ∷ xs) (y ∷ ys) less same = let first : x ≡ y = cc in ap (λ (a : A). Some a) first
  alike_before (suc p) (suc q) (x ∷ xs) (y ∷ ys) less same = alike_before p q xs ys (omega (arith, less)) cc

-- THE PLACE AT WHICH TWO LISTS OF REQUESTS PART

part_later : (asked told : List Request) (p q : ℕ) → DifferAt p asked told → DifferAt q asked told → p < q → ⊥
part_later asked told p q at later less = at.differ (alike_before p q asked told less later.alike)

-- two numbers of which neither is less
pub same_unless : (p q : ℕ) → (p < q → ⊥) → (q < p → ⊥) → p ≡ q
same_unless p q not_less not_more = go (ltb p q) (ltb q p) refl refl
  where
    go : (less more : Bool) → ltb p q ≡ less → ltb q p ≡ more → p ≡ q
    go true more e f = absurd (not_less (ltb-true p q e))
    go false true e f = absurd (not_more (ltb-true q p f))
    go false false e f = let l = ltb-false p q e in let m = ltb-false q p f in omega arith

one_place : (asked told : List Request) (p q : ℕ) → DifferAt p asked told → DifferAt q asked told → p ≡ q
one_place asked told p q at other = same_unless p q (part_later asked told p q at other) (part_later asked told q p other at)

-- ONE REQUEST FURTHER. Given replies, two lists of them that begin with these ask for the same once
-- more.

abbrev Agree : ℕ → List Request → List Request → Type 0
Agree place whole other = (take place whole ≡ take place other) × (slice_get whole place ≡ slice_get other place)

agree_behind : (place : ℕ) (made more other : List Request) → length made ≡ suc place → Agree place (made ++ more) (made ++ other)
agree_behind place made more other count =
    let first = λ (rest : List Request). take-append-le place made rest (omega (arith, count)) in
    let next = λ (rest : List Request). get_front made rest place (omega (arith, count)) in
    (first more ∙ sym (first other), next more ∙ sym (next other))

agree_longer : {E : Type 0} (lines : List (List ℕ)) (given : List Reply) (made : List Request) (o : Outcome E) (longer other : Played E) → EndsWith made o (all_typed lines) given → GrowsTo made o longer → GrowsTo made o other → Agree (length given) longer.0 other.0
agree_longer {E} lines given made (Finished end) longer other ends grows grows' =
    let same : longer.0 ≡ other.0 = ap (λ (p : Played E). p.0) (grows ∙ sym grows') in
    (ap (take (length given)) same, ap (λ (l : List Request). slice_get l (length given)) same)
agree_longer lines given made Waits longer other ends grows grows' =
    let both = agree_behind (length given) made grows.0 grows'.0 ends in
    (ap (take (length given)) grows.1 ∙ both.0 ∙ ap (take (length given)) (sym grows'.1), ap (λ (l : List Request). slice_get l (length given)) grows.1 ∙ both.1 ∙ ap (λ (l : List Request). slice_get l (length given)) (sym grows'.1))
agree_longer lines given made Listens longer other ends grows grows' = absurd (closed_typing lines ends.0)
agree_longer lines given made Spent longer other ends grows grows' = absurd ends

-- with more replies
talk_on : (judge : Judge) (lines : List (List ℕ)) (given more : List Reply) → let played = talk judge (all_typed lines) given in GrowsTo played.0 played.1 (talk judge (all_typed lines) (given ++ more))
talk_on judge lines given more =
    let played = talk judge (all_typed lines) given in
    subst (λ (keys : Typing). GrowsTo played.0 played.1 (talk judge keys (given ++ more))) (sym (over_again lines Over)) (talk_grows_lem judge (all_typed lines) Over given more)

-- replies that begin alike
talks_agree : (judge : Judge) (lines : List (List ℕ)) (given more other : List Reply) → Agree (length given) (talk judge (all_typed lines) (given ++ more)).0 (talk judge (all_typed lines) (given ++ other)).0
talks_agree judge lines given more other =
    let keys = all_typed lines in
    let t = talk judge keys given in
    agree_longer lines given t.0 t.1 (talk judge keys (given ++ more)) (talk judge keys (given ++ other)) (talk_ends_lem judge keys given) (talk_on judge lines given more) (talk_on judge lines given other)

cut_replies : (place : ℕ) (pairs : List Pair) → replies pairs ≡ replies (take place pairs) ++ replies (drop place pairs)
cut_replies place pairs = ap replies (sym (take-append-drop place pairs)) ∙ map-append (λ (pair : Pair). pair.1) (take place pairs) (drop place pairs)

-- what the session asks for if the body departs from a part
departs_at : (judge : Judge) (lines : List (List ℕ)) (pairs part : List Pair) (screen : List ℕ) (place : ℕ) → talk judge (all_typed lines) (replies pairs) ≡ (requests pairs, Finished screen) → take place pairs ≡ take place part → place ≤ length pairs
    → (slice_get (requests pairs) place ≡ slice_get (requests part) place → ⊥) → DifferAt place (talk judge (all_typed lines) (replies part)).0 (requests part)
departs_at judge lines pairs part screen place is common within differs =
    let keys = all_typed lines in
    let given = replies (take place pairs) in
    let count : length given ≡ place = length-map (take place pairs) (λ (pair : Pair). pair.1) ∙ length-take-le place pairs within in
    let own : (talk judge keys (given ++ replies (drop place pairs))).0 ≡ requests pairs = ap (λ (rs : List Reply). (talk judge keys rs).0) (sym (cut_replies place pairs)) ∙ ap (λ (t : Played (List ℕ)). t.0) is in
    let others : (talk judge keys (given ++ replies (drop place part))).0 ≡ (talk judge keys (replies part)).0 =
    ap (λ (rs : List Reply). (talk judge keys rs).0) (ap (λ (front : List Pair). replies front ++ replies (drop place part)) common ∙ sym (cut_replies place part)) in
    let agree : Agree (length given) (talk judge keys (given ++ replies (drop place part))).0 (talk judge keys (given ++ replies (drop place pairs))).0 = talks_agree judge lines given (replies (drop place part)) (replies (drop place pairs)) in
    let here : Agree place (talk judge keys (replies part)).0 (requests pairs) =
    subst (λ (k : ℕ). Agree k (talk judge keys (replies part)).0 (requests pairs)) count
    (subst (λ (asked : List Request). Agree (length given) asked (requests pairs)) others
    (subst (λ (asked : List Request). Agree (length given) (talk judge keys (given ++ replies (drop place part))).0 asked) own agree)) in
    record {
      alike = here.0 ∙ take-map (λ (pair : Pair). pair.0) place pairs ∙ ap requests common ∙ sym (take-map (λ (pair : Pair). pair.0) place part);
      differ = λ same. differs (sym here.1 ∙ same);
    }

pub departs_talk : (lines : List (List ℕ)) (pairs part : List Pair) (screen : List ℕ) (place : ℕ) → Talks (all_typed lines) pairs screen → take place pairs ≡ take place part → place ≤ length pairs → (slice_get (requests pairs) place ≡ slice_get (requests part) place → ⊥) → TalksOtherwise (all_typed lines) part place
unfolding Talks
departs_talk lines pairs part screen place is common within differs =
    (is.0, λ judge by. departs_at judge lines pairs part screen place (is.1 judge by) common within differs)

-- a terminal that had this session had no other
pub not_otherwise : (keys : Typing) (pairs : List Pair) (screen : List ℕ) (place : ℕ) → Talks keys pairs screen → TalksOtherwise keys pairs place → ⊥
unfolding Talks
not_otherwise keys pairs screen place is other =
    let judge = other.0.0 in
    let by = other.0.1 in
    let asked : (talk judge keys (replies pairs)).0 ≡ requests pairs = ap (λ (t : Played (List ℕ)). t.0) (is.1 judge by) in
    (other.1 judge by).differ (ap (λ (l : List Request). slice_get l place) asked)

-- it does so at one place
pub one_otherwise : (keys : Typing) (pairs : List Pair) (p q : ℕ) → TalksOtherwise keys pairs p → TalksOtherwise keys pairs q → p ≡ q
one_otherwise keys pairs p q at other =
    let judge = at.0.0 in
    let by = at.0.1 in
    one_place (talk judge keys (replies pairs)).0 (requests pairs) p q (at.1 judge by) (other.1 judge by)

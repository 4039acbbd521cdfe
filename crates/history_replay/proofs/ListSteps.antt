-- What stays true of a seat that replies what a job's entries say, and what it has heard at its
-- end.
use Rattle.std.proofs.Common.{◌≡◌, ℕ, suc, ◌+◌, ◌<◌, ◌≤◌, Bool, List, [], ◌∷◌, ◌++◌, length, take, get_or, Some, None, Decides, refl, sym, ap, ◌∙◌, subst, inl, inr, arith}
use Rattle.std.specs.Prelude.{slice_get, slice_index, option_map}
use Rattle.std.proofs.lemmas.List.{length-map, length-append, length-take-le, take_more, take_all, take_at, append-nil}
use Rattle.std.proofs.lemmas.Option.{slice_get_within, slice_get-map, slice_get_past, get_or_from_slice_get, none-some, same_Some}
use Rattle.std.proofs.lemmas.Bool.{cases_lt}
use Rattle.std.proofs.lemmas.Bool.Decides.{Decides-like}
use Rattle.monitor_calls.specs.declared.calls.Entry.{Entry}
use Rattle.monitor_calls.specs.declared.calls.Request.{Request}
use Rattle.monitor_calls.specs.declared.calls.Reply.{Reply}
use Rattle.monitor_calls.specs.Pairs.{Pair, requests}
use Rattle.monitor_model.specs.History.{pair_in}
use Rattle.history_replay.specs.Disputes.{entry_position}
use Rattle.history_replay.specs.Lists.{Listed, part, heard, position_behind, IsOther, IsAtNext, IsNext, PartsHere}
use Rattle.history_replay.proofs.Positions.{item_within, part_at, position-le, position_next, position_within, place_within}

abbrev asked : Pair → Request
asked pair = pair.0

-- what the part has at the place of the seat's next entry
pub pair_next : (seat : Listed) (next : ℕ) (later : List ℕ) → IsAtNext seat next later → slice_get (part seat) seat.given ≡ option_map pair_in (slice_get seat.history next)
pair_next seat next later placed =
    part_at seat.job seat.given seat.history ∙ ap (λ k. option_map pair_in (slice_get seat.history k)) (sym placed.next_is)

request_next : (seat : Listed) (next : ℕ) (later : List ℕ) → IsAtNext seat next later → slice_get (requests (part seat)) seat.given ≡ option_map asked (option_map pair_in (slice_get seat.history next))
request_next seat next later placed =
    slice_get-map asked (part seat) seat.given ∙ ap (option_map asked) (pair_next seat next later placed)

-- the seat's next entry decides which request is next
pub next_decided : (seat : Listed) (next : ℕ) (later : List ℕ) (entry : Entry) (request : Request) (r : Bool) → IsAtNext seat next later → seat.others ≡ [] → slice_get seat.history next ≡ Some entry → Decides r (entry.request ≡ request) → Decides r (IsNext seat request)
next_decided seat next later entry request r placed none is decided =
    let here : slice_get (requests (part seat)) seat.given ≡ Some entry.request = request_next seat next later placed ∙ ap (λ o. option_map asked (option_map pair_in o)) is in
    Decides-like r (λ same. record { none = none; same = here ∙ ap (λ q. Some q) same }) (λ n. same_Some entry.request request (sym here ∙ n.same)) decided

pub next_none : (seat : Listed) (next : ℕ) (later : List ℕ) (request : Request) → IsAtNext seat next later → length seat.history ≤ next → IsNext seat request → ⊥
next_none seat next later request placed past is =
    let gone : slice_get seat.history next ≡ None = slice_get_past seat.history next past in
    none-some request (sym (request_next seat next later placed ∙ ap (λ o. option_map asked (option_map pair_in o)) gone) ∙ is.same)

-- if a request is next, an entry of the job asks it
pub record NextEntry (seat : Listed) (next : ℕ) (request : Request) : Type 0 where
  pub entry : Entry
  pub is : slice_get seat.history next ≡ Some entry
  pub asks : entry.request ≡ request
  pub own : entry.job ≡ seat.job
  pub room : seat.given < length (part seat)
  pub pair : slice_get (part seat) seat.given ≡ Some (pair_in entry)

pub next_entry : (seat : Listed) (next : ℕ) (later : List ℕ) (request : Request) → IsAtNext seat next later → IsNext seat request → NextEntry seat next request
next_entry seat next later request placed is =
    let pairs = part seat in
    let short : seat.given < length (requests pairs) = slice_get_within (requests pairs) seat.given request is.same in
    let room : seat.given < length pairs = subst (λ n. seat.given < n) (length-map pairs asked) short in
    let found = position_within seat.job seat.given seat.history room in
    let here : slice_get seat.history next ≡ Some found.0 = ap (slice_get seat.history) placed.next_is ∙ found.1 in
    let there : slice_get (requests pairs) seat.given ≡ Some found.0.request = slice_get-map asked pairs seat.given ∙ ap (option_map asked) found.2 in
    record {
      entry = found.0;
      is = here;
      asks = same_Some found.0.request request (sym there ∙ is.same);
      own = found.3;
      room = room;
      pair = found.2;
    }

abbrev pub given_more : Listed → Listed
given_more seat = record seat { given = seat.given + 1 }

pub placed_next : (seat : Listed) (next : ℕ) (later : List ℕ) (request : Request) → IsAtNext seat next later → IsNext seat request → IsAtNext (given_more seat) (slice_index later next) later
placed_next seat next later request placed is =
    let found = next_entry seat next later request placed is in
    let inside : next < length seat.history = slice_get_within seat.history next found.entry found.is in
    record {
      next_is =
          placed.laters.behind next found.entry (omega arith) found.is
          ∙ ap (λ j. position_behind j next seat.history) found.own
          ∙ ap (λ k. position_behind seat.job k seat.history) placed.next_is
          ∙ sym (position_next seat.job seat.given seat.history (subst (λ k. k < length seat.history) placed.next_is inside))
          ∙ ap (λ k. entry_position seat.job k seat.history) (let more : suc seat.given ≡ seat.given + 1 = omega arith in more);
      within = let room = found.room in omega arith;
      other = subst (IsOther (part seat) (seat.given + 1)) (sym is.none) tt;
      small = placed.small;
      laters = placed.laters;
    }

pub heard_next : (seat : Listed) (next : ℕ) (later : List ℕ) (request : Request) (reply : Reply) (entry : Entry) → IsAtNext seat next later → IsNext seat request → slice_get seat.history next ≡ Some entry → reply ≡ entry.reply → heard (given_more seat) ≡ heard seat ++ (request, reply) ∷ []
heard_next seat next later request reply entry placed is at same =
    let found = next_entry seat next later request placed is in
    let pairs = part seat in
    let pair : Pair = (request, reply) in
    let one : entry ≡ found.entry = same_Some entry found.entry (sym at ∙ found.is) in
    let here : get_or pairs seat.given pair ≡ pair =
    get_or_from_slice_get pairs seat.given (pair_in found.entry) pair found.pair
    ∙ (λ i. (found.asks i, sym (same ∙ ap (λ (e : Entry). e.reply) one) i)) in
    let none = is.none in
    ap (λ l. take (seat.given + 1) pairs ++ l) none ∙ append-nil (take (seat.given + 1) pairs) ∙ take_more pairs seat.given pair found.room
    ∙ ap (λ p. take seat.given pairs ++ p ∷ []) here
    ∙ ap (λ l. l ++ pair ∷ []) (sym (append-nil (take seat.given pairs)) ∙ ap (λ l. take seat.given pairs ++ l) (sym none))

-- a seat that gave all and was asked nothing else has heard the part
pub heard_all : (seat : Listed) (next : ℕ) (later : List ℕ) → IsAtNext seat next later → seat.others ≡ [] → next ≡ length seat.history → heard seat ≡ part seat
heard_all seat next later placed none past =
    let pairs = part seat in
    let whole : length pairs ≤ seat.given =
    elim (cases_lt seat.given (length pairs)) [
      | inl room ↦
          let found = position_within seat.job seat.given seat.history room in
          let inside = slice_get_within seat.history (entry_position seat.job seat.given seat.history) found.0 found.1 in
          let stands = placed.next_is in
          absurd (omega arith)
      | inr whole ↦ whole
    ] in
    ap (λ l. take seat.given pairs ++ l) none ∙ append-nil (take seat.given pairs) ∙ take_all seat.given pairs whole

item_at : {X : Type 0} (front : List X) (x : X) (rest : List X) → slice_get (front ++ x ∷ rest) (length front) ≡ Some x
item_at [] x rest = refl
item_at (first ∷ front) x rest = item_at front x rest

-- any other seat has not
pub departs_here : (seat : Listed) (next : ℕ) (later : List ℕ) → IsAtNext seat next later → (seat.others ≡ [] → next ≡ length seat.history → ⊥) → PartsHere (part seat) (heard seat) seat.given
departs_here seat next later placed not =
    let pairs = part seat in
    let given = take seat.given pairs in
    let count : length given ≡ seat.given = length-take-le seat.given pairs placed.within in
    record {
      common = take_at given seat.others seat.given count;
      within_pairs = omega (arith, length-append given seat.others);
      within_part = placed.within;
      differs =
          elim seat.others as (λ l. seat.others ≡ l → IsOther pairs seat.given l → slice_get (requests (given ++ l)) seat.given ≡ slice_get (requests pairs) seat.given → ⊥) [
            | [] ↦ λ none other same.
                let inside : next < length seat.history =
                elim (cases_lt next (length seat.history)) [
                  | inl inside ↦ inside
                  | inr past ↦
                      let most = position-le seat.job seat.given seat.history in
                      let stands = placed.next_is in
                      absurd (not none (omega arith))
                ] in
                let room = place_within seat.job seat.given seat.history (subst (λ k. k < length seat.history) placed.next_is inside) in
                let found = item_within pairs seat.given room in
                let gone : slice_get (given ++ []) seat.given ≡ None = slice_get_past (given ++ []) seat.given (omega (arith, length-append given [])) in
                none-some found.0.0
                (sym (slice_get-map asked (given ++ []) seat.given ∙ ap (option_map asked) gone) ∙ same ∙ slice_get-map asked pairs seat.given ∙ ap (option_map asked) found.1)
            | first ∷ more ↦ λ some other same.
                let here : slice_get (given ++ first ∷ more) seat.given ≡ Some first = ap (slice_get (given ++ first ∷ more)) (sym count) ∙ item_at given first more in
                other (sym same ∙ slice_get-map asked (given ++ first ∷ more) seat.given ∙ ap (option_map asked) here)
          ] refl placed.other;
    }

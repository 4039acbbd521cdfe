-- What one event more leaves of a port's invariant, and what a port's log says of its job.
use Rattle.std.proofs.Common.{◌≡◌, ℕ, ◌+◌, ◌≤◌, List, [], ◌∷◌, ◌++◌, length, sym, ap, subst, ◌∙◌, append-nil, length-append, arith}
use Rattle.std.specs.Prelude.{Option}
use Rattle.monitor_calls.specs.declared.calls.Request.{Request}
use Rattle.monitor_calls.specs.declared.calls.Reply.{Reply}
use Rattle.monitor_calls.specs.declared.events.Event.{Event}
use Rattle.monitor_calls.specs.declared.events.Event.TheVariants.{Asked, Typed}
use Rattle.monitor_calls.specs.Pairs.{Pair, pairs_of}
use Rattle.monitor_calls.specs.Typing.{Typing, TypedOn, lines_in, keys_in, first_keys, AreTyped}
use Rattle.monitor_calls.proofs.TypingLemmas.{keys_on, pairs_on, typed_more, typed_lines}
use Rattle.monitor_gate.specs.Passes.{SeatValue}
use Rattle.terminal_runner.specs.Seats.{unasked, asked, CameBack}

-- a request, and its reply
module _ (log log' : List Event) (r r' : Request) (x : Reply) (is : log' ≡ log ++ Asked r' x ∷ []) where
  pub pairs_asked : (pairs pairs' : List Pair) → r' ≡ r → pairs_of log ≡ pairs → pairs' ≡ pairs ++ (r, x) ∷ [] → pairs_of log' ≡ pairs'
  pairs_asked pairs pairs' same were now =
      ap pairs_of is ∙ pairs_on log (Asked r' x ∷ []) ∙ ap (λ (l : List Pair). l ++ (r', x) ∷ []) were ∙ ap (λ (q : Request). pairs ++ (q, x) ∷ []) same ∙ sym now

  keys_asked : keys_in log' ≡ keys_in log
  keys_asked = ap keys_in is ∙ keys_on log (Asked r' x ∷ []) ∙ append-nil (keys_in log)

  pub typed_asked : (keys : Typing) → AreTyped keys log → AreTyped keys log'
  typed_asked keys are = keys_asked ∙ are ∙ ap (λ (n : ℕ). first_keys n keys) (ap length (sym keys_asked))

  pub taken_asked : (keys : Typing) → lines_in keys ≤ length (keys_in log) → lines_in keys ≤ length (keys_in log')
  taken_asked keys le = omega (arith, le, ap length keys_asked)

-- a key line, or the end of the keys
module _ (log log' : List Event) (keys keys' : Typing) (key : Option (List ℕ)) (is : log' ≡ log ++ Typed key ∷ []) (on : TypedOn keys key keys') where
  pub pairs_typed : (pairs : List Pair) → pairs_of log ≡ pairs → pairs_of log' ≡ pairs
  pairs_typed pairs were = ap pairs_of is ∙ pairs_on log (Typed key ∷ []) ∙ append-nil (pairs_of log) ∙ were

  pub typed_typed : AreTyped keys log → lines_in keys ≤ length (keys_in log) → AreTyped keys' log'
  typed_typed are le = subst (AreTyped keys') (sym is) (typed_more keys keys' key log are le on)

  pub taken_typed : lines_in keys ≤ length (keys_in log) → lines_in keys' ≤ length (keys_in log')
  taken_typed le =
      let more = typed_lines keys keys' key on in
      let count : length (keys_in log') ≡ length (keys_in log) + 1 = ap length (ap keys_in is ∙ keys_on log (Typed key ∷ [])) ∙ length-append (keys_in log) (key ∷ []) in
      omega (arith, le, more, count)

-- what came back of a job, whose port was made of its seat and its keyboard
pub came_back : {K W : Type 0} (which : K → W) (keys : K → Typing) (does : List Event → List ℕ → Type 0) (seat first last back : SeatValue) (keyboard given used left : K) (log events : List Event) (screen : List ℕ) → first ≡ seat → unasked last ≡ unasked first → back ≡ last
    → given ≡ keyboard → which used ≡ which given → left ≡ used → log ≡ events → pairs_of log ≡ asked last → AreTyped (keys used) log → does events screen → CameBack which keys does keyboard seat (back, (left, screen))
came_back {K} {W} which keys does seat first last back keyboard given used left log events screen is who same was its kept all pairs typed done = record {
  gate = ap (λ (s : SeatValue). s.gate) same ∙ ap (λ (s : SeatValue). s.gate) who ∙ ap (λ (s : SeatValue). s.gate) is;
  job = ap (λ (s : SeatValue). s.pass.job) same ∙ ap (λ (s : SeatValue). s.pass.job) who ∙ ap (λ (s : SeatValue). s.pass.job) is;
  did = record {
    same = ap which kept ∙ its ∙ ap which was;
    events = events;
    pairs_are = ap pairs_of (sym all) ∙ pairs ∙ ap (λ (s : SeatValue). s.pass.mine) (sym same);
    typed = subst (λ (k : K). AreTyped (keys k) events) (sym kept) (subst (λ (es : List Event). AreTyped (keys used) es) all typed);
    done = done;
  };
}

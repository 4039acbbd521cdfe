-- The entries of a print job, one by one.
use Rattle.std.proofs.Common.{◌≡◌, ℕ, ◌+◌, ◌<◌, zero, suc, Bool, true, false, cond, List, [], ◌∷◌, ◌++◌, length, drop, get_or, sym, ap, ◌∙◌, subst, append_assoc, append-nil, arith}
use Rattle.std.proofs.lemmas.Bool.{eq-eqb, ne_eqb}
use Rattle.std.proofs.lemmas.List.{drop_more, get_or_read}
use Rattle.monitor_calls.specs.declared.calls.Entry.{Entry}
use Rattle.monitor_model.specs.Listings.{is_begin, is_finish, printed_by, listing, listings}
use Rattle.print_spool.specs.Printed.{AreNamed, listing_text, listing_texts}

-- an entry's job is one of those that have names
pub named :
    (names : List (List ℕ)) (entries : List Entry) (at : ℕ) (entry : Entry) → AreNamed names entries →
    at < length entries → entry ≡ get_or entries at entry → entry.job < length names
named names [] at entry all lt is = absurd (omega (arith, lt))
named names (first ∷ entries) zero entry all lt is =
    subst (λ (e : Entry). e.job < length names) (sym is) all.0
named names (first ∷ entries) (suc at) entry all lt is =
    named names entries at entry all.1 (omega (arith, lt)) is

-- nothing of a print job comes at or after its end
pub ended :
    (job : ℕ) (entries : List Entry) (at : ℕ) (entry : Entry) →
    at < length entries → entry ≡ get_or entries at entry → entry.job ≡ job →
    is_finish entry.request entry.reply ≡ true → listing job (drop at entries) ≡ []
ended job entries at entry lt is own finish =
    let rest = listing job (drop (at + 1) entries) in
    let more = printed_by entry.request entry.reply ++ rest in
    ap (listing job) (drop_more entries at entry lt ∙ ap (λ e. e ∷ drop (at + 1) entries) (sym is))
    ∙ ap (λ b. cond b (cond (is_finish entry.request entry.reply) [] more) rest) (eq-eqb entry.job job own)
    ∙ ap (λ b. cond b [] more) finish

-- and so what is written there is all of it
pub all_written :
    (job : ℕ) (entries : List Entry) (at : ℕ) (out whole : List ℕ) →
    listing job (drop at entries) ≡ [] → out ++ listing job (drop at entries) ≡ whole → out ≡ whole
all_written job entries at out whole none is = sym (ap (λ rest. out ++ rest) none ∙ append-nil out) ∙ is

-- what is left of a print job if an entry of its job does not end it
goes_on :
    (job : ℕ) (entries : List Entry) (at : ℕ) (entry : Entry) →
    at < length entries → entry ≡ get_or entries at entry → entry.job ≡ job →
    is_finish entry.request entry.reply ≡ false →
    listing job (drop at entries) ≡ printed_by entry.request entry.reply ++ listing job (drop (at + 1) entries)
goes_on job entries at entry lt is own goes =
    let rest = listing job (drop (at + 1) entries) in
    let more = printed_by entry.request entry.reply ++ rest in
    ap (listing job) (drop_more entries at entry lt ∙ ap (λ e. e ∷ drop (at + 1) entries) (sym is))
    ∙ ap (λ b. cond b (cond (is_finish entry.request entry.reply) [] more) rest) (eq-eqb entry.job job own)
    ∙ ap (λ b. cond b [] more) goes

-- such an entry is written
pub one_written :
    (job : ℕ) (entries : List Entry) (at : ℕ) (entry : Entry) (out written whole : List ℕ) →
    at < length entries → entry ≡ get_or entries at entry → entry.job ≡ job →
    is_finish entry.request entry.reply ≡ false → written ≡ out ++ printed_by entry.request entry.reply →
    out ++ listing job (drop at entries) ≡ whole → written ++ listing job (drop (at + 1) entries) ≡ whole
one_written job entries at entry out written whole lt is own goes is_written before =
    let rest = listing job (drop (at + 1) entries) in
    ap (λ w. w ++ rest) is_written ∙ append_assoc out (printed_by entry.request entry.reply) rest
    ∙ ap (λ t. out ++ t) (sym (goes_on job entries at entry lt is own goes)) ∙ before

-- an entry of another job is skipped
pub passed_over :
    (job : ℕ) (entries : List Entry) (at : ℕ) (entry : Entry) (out whole : List ℕ) →
    at < length entries → entry ≡ get_or entries at entry → (entry.job ≡ job → ⊥) →
    out ++ listing job (drop at entries) ≡ whole → out ++ listing job (drop (at + 1) entries) ≡ whole
passed_over job entries at entry out whole lt is other before =
    let rest = listing job (drop (at + 1) entries) in
    let more = cond (is_finish entry.request entry.reply) [] (printed_by entry.request entry.reply ++ rest) in
    let here : listing job (drop at entries) ≡ rest =
    ap (listing job) (drop_more entries at entry lt ∙ ap (λ e. e ∷ drop (at + 1) entries) (sym is))
    ∙ ap (λ b. cond b more rest) (ne_eqb entry.job job other) in
    ap (λ t. out ++ t) (sym here) ∙ before

-- THE PRINT JOBS THAT BEGIN FROM A PLACE ON

module _ (names : List (List ℕ)) (entries : List Entry) (at : ℕ) (entry : Entry) (lt : at < length entries) (is : entry ≡ get_or entries at entry) where
  abbrev from : ℕ → List ℕ
  from place = listing_texts names (listings (drop place entries))

  here : from at ≡ listing_texts names (listings (entry ∷ drop (at + 1) entries))
  here = ap (λ es. listing_texts names (listings es)) (drop_more entries at entry lt ∙ ap (λ e. e ∷ drop (at + 1) entries) (sym is))

  by_begin : (begin : Bool) → is_begin entry.request entry.reply ≡ begin → from at ≡ listing_texts names (cond begin ((entry.job, listing entry.job (drop (at + 1) entries)) ∷ listings (drop (at + 1) entries)) (listings (drop (at + 1) entries)))
  by_begin begin e = here ∙ ap (λ b. listing_texts names (cond b ((entry.job, listing entry.job (drop (at + 1) entries)) ∷ listings (drop (at + 1) entries)) (listings (drop (at + 1) entries)))) e

  -- the one that begins here, and those after it
  pub begun :
      (out written whole name : List ℕ) → is_begin entry.request entry.reply ≡ true →
      entry.job < length names → name ≡ get_or names entry.job name →
      written ≡ out ++ listing_text name (listing entry.job (drop (at + 1) entries)) →
      out ++ from at ≡ whole → written ++ from (at + 1) ≡ whole
  begun out written whole name begins small read is_written before =
      let own = listing_text name (listing entry.job (drop (at + 1) entries)) in
      let named_so : get_or names entry.job [] ≡ name = sym (get_or_read names entry.job name small read []) in
      let split : from at ≡ own ++ from (at + 1) =
      by_begin true begins ∙ ap (λ n. listing_text n (listing entry.job (drop (at + 1) entries)) ++ from (at + 1)) named_so in
      ap (λ w. w ++ from (at + 1)) is_written ∙ append_assoc out own (from (at + 1)) ∙ ap (λ t. out ++ t) (sym split) ∙ before

  -- none begins here
  pub unbegun : (out whole : List ℕ) → is_begin entry.request entry.reply ≡ false → out ++ from at ≡ whole → out ++ from (at + 1) ≡ whole
  unbegun out whole none before = ap (λ t. out ++ t) (sym (by_begin false none)) ∙ before

-- Changes of one channel that keep the sizes of buffers.
use Rattle.std.proofs.Common.{◌≡◌, ℕ, ◌+◌, ◌-◌, ◌<◌, inl, inr, false, List, [], length, take, replicate, sym, ap, subst, ◌∙◌, arith}
use Rattle.std.specs.Prelude.{slice_set, min}
use Rattle.std.proofs.lemmas.Bool.Decides.{eqb_tells}
use Rattle.std.proofs.lemmas.Grind.{get_or-set_at}
use Rattle.std.proofs.lemmas.List.{get_or-set_other, set-get_or, length-set, length-append, length-take, length-replicate}
use Rattle.record_fields.specs.declared.sizes.RecordSize.TheVariants.{One}
use Rattle.record_fields.specs.Buffers.{IsChannel, buffer_of, filled}
use Rattle.record_fields.specs.Sizes.{bytes_of}
use Rattle.channels.specs.declared.states.ChannelState.{ChannelState}
use Rattle.channels.specs.Files.{Files, state_of}
use Rattle.channels.specs.Sizes.{AreSized}

-- the files with another state and another buffer of a channel, and another RECOUNT
abbrev pub with_both : ℕ → ChannelState → List ℕ → ℕ → Files → Files
with_both c state buffer recount files = record { channels = slice_set files.channels (c - 1) state; recount = recount; buffers = slice_set files.buffers (c - 1) buffer }

pub sized_at : (c : ℕ) → IsChannel c → (files : Files) (state : ChannelState) (buffer : List ℕ) (recount : ℕ) → AreSized files → length buffer ≡ bytes_of state.size → (state.open_now ≡ false → state.size ≡ One) → AreSized (with_both c state buffer recount files)
sized_at c is files state buffer recount sized fits small = record {
  channels = length-set files.channels (c - 1) state ∙ sized.channels;
  buffers = length-set files.buffers (c - 1) buffer ∙ sized.buffers;
  whole = λ d at. whole d at;
  closed = λ d at shut. closed d at shut;
}
  where
    in_channels : c - 1 < length files.channels
    in_channels = let n = sized.channels in let l = is.low in let h = is.high in omega (arith, n, l, h)

    in_buffers : c - 1 < length files.buffers
    in_buffers = let n = sized.buffers in let l = is.low in let h = is.high in omega (arith, n, l, h)

    whole : (d : ℕ) → IsChannel d → length (buffer_of d (slice_set files.buffers (c - 1) buffer)) ≡ bytes_of (state_of d (with_both c state buffer recount files)).size
    whole d at = elim (eqb_tells (d - 1) (c - 1)) [
      | inl p ↦ ap length (get_or-set_at files.buffers (c - 1) (d - 1) buffer [] p.1 in_buffers) ∙ fits ∙ sym (ap (λ (s : ChannelState). bytes_of s.size) (get_or-set_at files.channels (c - 1) (d - 1) state _ p.1 in_channels))
      | inr p ↦ ap length (get_or-set_other files.buffers (c - 1) (d - 1) buffer [] p.1) ∙ sized.whole d at ∙ sym (ap (λ (s : ChannelState). bytes_of s.size) (get_or-set_other files.channels (c - 1) (d - 1) state _ p.1))
    ]

    closed : (d : ℕ) → IsChannel d → (state_of d (with_both c state buffer recount files)).open_now ≡ false → (state_of d (with_both c state buffer recount files)).size ≡ One
    closed d at shut = elim (eqb_tells (d - 1) (c - 1)) [
      | inl p ↦ (let same = get_or-set_at files.channels (c - 1) (d - 1) state _ p.1 in_channels in ap (λ (s : ChannelState). s.size) same ∙ small (sym (ap (λ (s : ChannelState). s.open_now) same) ∙ shut))
      | inr p ↦ (let same = get_or-set_other files.channels (c - 1) (d - 1) state _ p.1 in ap (λ (s : ChannelState). s.size) same ∙ sized.closed d at (sym (ap (λ (s : ChannelState). s.open_now) same) ∙ shut))
    ]

-- only another state, with records of the same size
pub sized_state : (c : ℕ) → IsChannel c → (files : Files) (state : ChannelState) (recount : ℕ) → AreSized files → state.size ≡ (state_of c files).size → state.open_now ≡ (state_of c files).open_now
    → AreSized (record { channels = slice_set files.channels (c - 1) state; recount = recount; buffers = files.buffers })
sized_state c is files state recount sized size shape =
    subst (λ (b : List (List ℕ)). AreSized (record { channels = slice_set files.channels (c - 1) state; recount = recount; buffers = b })) (set-get_or files.buffers (c - 1) [])
    (sized_at c is files state (buffer_of c files.buffers) recount sized (sized.whole c is ∙ sym (ap bytes_of size)) (λ shut. size ∙ sized.closed c is (sym shape ∙ shut)))

-- only another buffer, of the same size
pub sized_buffer : (c : ℕ) → IsChannel c → (files : Files) (buffer : List ℕ) → AreSized files → length buffer ≡ length (buffer_of c files.buffers) → AreSized (record files { buffers = slice_set files.buffers (c - 1) buffer })
sized_buffer c is files buffer sized same =
    subst (λ (s : List ChannelState). AreSized (record { channels = s; recount = files.recount; buffers = slice_set files.buffers (c - 1) buffer })) (set-get_or files.channels (c - 1) _)
    (sized_at c is files (state_of c files) buffer files.recount sized (same ∙ sized.whole c is) (sized.closed c is))

-- both, the buffer of the same size
pub sized_both : (c : ℕ) → IsChannel c → (files : Files) (state : ChannelState) (buffer : List ℕ) (recount : ℕ) → AreSized files → length buffer ≡ length (buffer_of c files.buffers) → state.size ≡ (state_of c files).size
    → state.open_now ≡ (state_of c files).open_now → AreSized (with_both c state buffer recount files)
sized_both c is files state buffer recount sized same size shape =
    sized_at c is files state buffer recount sized (same ∙ sized.whole c is ∙ sym (ap bytes_of size)) (λ shut. size ∙ sized.closed c is (sym shape ∙ shut))

pub length_filled : (bytes buffer : List ℕ) → length (filled bytes buffer) ≡ length buffer
length_filled bytes buffer =
    let n : ℕ = length buffer in
    let m : ℕ = n - length bytes in
    let rest : List ℕ = replicate m 0 in
    length-append (take n bytes) rest ∙ ap (λ (k : ℕ). k + length rest) (length-take n bytes) ∙ ap (λ (k : ℕ). min n (length bytes) + k) (length-replicate {A = ℕ} m 0) ∙ omega arith

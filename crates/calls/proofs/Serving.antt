-- A frame, by its identifier: what each service needs of a sound state, and which effect it serves.
-- Assumes nothing.
use Prim.Native.Nat.{ℕ, ◌+◌, ◌<◌}
use native.Mathlib.Omega.{arith}
use mathlib.Core.Path.{◌≡◌, refl, sym, ◌∙◌, ap}
use mathlib.Core.Bool.{Bool, true, false, cond, and-false}
use mathlib.Core.List.{List, [], ◌∷◌, map}
use borrow.Author.Tests.{leb-true, eq-eqb, ne_eqb, lt-ltb}
use lib.Dec.{eqb, leb}
use lib.ListN.{length, get_or}
use lib.Seq.{take_all}
use Rattle.rules_dictionary.specs.declared.PdoData.{PdoData}
use Rattle.rules_dictionary.specs.TheNode.{first_node}
use Rattle.rules_dictionary.specs.Table.{receive_pdos}
use Rattle.rules_dictionary.specs.Numbers.{are_bytes}
use Rattle.rules_dictionary.proofs.Tests.{and_left, and_right, and_both}
use Rattle.state.specs.declared.Transfer.TheVariants.{NoTransfer, Uploading, Downloading}
use Rattle.state.specs.declared.State.{State}
use Rattle.state.specs.NmtStates.{is_stopped}
use Rattle.rules_services.specs.Effects.{Effect, becomes}
use Rattle.rules_services.specs.Sdo.{request_base, request_length}
use Rattle.rules_services.specs.SdoServer.{sdo}
use Rattle.rules_services.specs.PdoTraffic.{sync, sync_base, received_by}
use Rattle.rules_services.specs.Nmt.{nmt, nmt_identifier}
use Rattle.rules.specs.Outcome.{most_data, frame_size}
use Rattle.rules.specs.Sound.{transfer_sound}
use Rattle.rules.specs.Calls.{framed, output_length}
use Rattle.theorems.proofs.Lawful.{Lawful, clauses, sound_lawful}
use Rattle.theorems.proofs.Receipts.{OctetsIn, MayRun}
use Rattle.rules_dictionary.proofs.Padded.{length-padded}
use Rattle.soundness.proofs.Fresh.{plans_are}
use Rattle.form.specs.Form.{step_offset, object_offset, subindex_offset, received_offset, receipt_at, transfer_at, transfer_place, state_of}
use Rattle.output.specs.Laying.{OnBus, data_of}
use Rattle.output.proofs.Frames.{length_data}
use Rattle.output.proofs.Left.{lent}
use Rattle.output.specs.Leaves.{Lent}
use Rattle.nmt.specs.Commanding.{Commandable, is_for_others}
use Rattle.rpdo.specs.Kept.{Kept}
use Rattle.sdo.specs.Requests.{sdo_rests}
use Rattle.rpdo.specs.Traffic.{sync_of, sync_rests, received_by_rests}
use Rattle.rpdo.proofs.Callable.{lawful_kept, sync_by_length}
use Rattle.calls.specs.Frames.{Starts, requested, serviced, requested_rests, serviced_rests, framed_rests}

-- ---- of the bytes that hold a state

bytes_at : (bs : List ℕ) → ((i : ℕ) → get_or bs i 0 < 256) → (is : List ℕ) → are_bytes (map (λ i. get_or bs i 0) is) ≡ true
bytes_at bs small [] = refl
bytes_at bs small (i ∷ is) = and_both _ _ (lt-ltb (get_or bs i 0) 256 (small i)) (bytes_at bs small is)

-- what runs is of bytes, as they are
pub runs_in : (bs : List ℕ) → ((i : ℕ) → get_or bs i 0 < 256) → transfer_sound (state_of bs).transfer ≡ true → MayRun (state_of bs).transfer
unfolding state_of transfer_at receipt_at
runs_in bs small h = record { sound = h; octets = go (eqb (get_or bs transfer_place 0) 0) (eqb (get_or bs transfer_place 0) 1) }
  where
    from : ℕ
    from = transfer_place + step_offset

    go : (a b : Bool) → OctetsIn (cond a NoTransfer (cond b (Uploading (get_or bs from 0)) (Downloading (receipt_at from bs))))
    go true b = tt
    go false true = tt
    go false false =
        let object = from + object_offset in
        let first = from + received_offset in (
          bytes_at bs small (object ∷ (object + 1) ∷ (from + subindex_offset) ∷ []),
          bytes_at bs small (first ∷ (first + 1) ∷ (first + 2) ∷ (first + 3) ∷ []),
        )

-- ---- of a sound state and dictionary

module _ {bs d o : List ℕ} (h : Starts bs d o) where
  law : Lawful (state_of bs) d
  law = sound_lawful (state_of bs) d h.stands.long h.stands.sound

  pub lent_all : Lent output_length bs d o
  lent_all = lent h.own h.stands.long h.stands.room (leb-true _ _ (and_right (leb first_node (state_of bs).node.id) _ law.id))

  pub lent_frame : Lent frame_size bs d o
  lent_frame = lent h.own h.stands.long (omega (arith, h.stands.room)) lent_all.id

  pub commandable : Commandable bs d o
  commandable =
      record { lent = lent_frame; first = leb-true _ _ (and_left (leb first_node (state_of bs).node.id) _ law.id) }

  pub kept : Kept bs d o
  kept = lawful_kept h.own law (plans_are (state_of bs) d (clauses (state_of bs) d h.stands.sound).plans) h.stands.room

-- ---- the effect, and where nothing is left to do, by what the code tests

module _ (content : PdoData) (s : State) (d : List ℕ) where
  abbrev as_framed : ℕ → Effect × Bool
  as_framed i = (framed i (data_of content) s d, framed_rests i content s d)

  abbrev as_serviced : ℕ → Effect × Bool
  as_serviced i = (serviced i (data_of content) s d, serviced_rests i (data_of content) s d)

  abbrev as_requested : Effect × Bool
  as_requested = (requested (data_of content) s d, requested_rests (data_of content) s d)

  pub framed_nmt : (i : ℕ) → i ≡ nmt_identifier → as_framed i ≡ (nmt (data_of content) s, is_for_others content s d)
  unfolding framed
  framed_nmt i e = rw (eq-eqb i nmt_identifier e)

  pub framed_serviced : (i : ℕ) → (i ≡ nmt_identifier → ⊥) → as_framed i ≡ as_serviced i
  unfolding framed
  framed_serviced i n = rw (ne_eqb i nmt_identifier n)

  pub serviced_sync : (i : ℕ) → i ≡ sync_base → as_serviced i ≡ (sync (data_of content) s d, sync_rests (length (data_of content)) s d)
  serviced_sync i e = rw (eq-eqb i sync_base e)

  pub serviced_request : (i : ℕ) → (i ≡ sync_base → ⊥) → i ≡ request_base + s.node.id → as_serviced i ≡ as_requested
  serviced_request i n e = rw (ne_eqb i sync_base n, eq-eqb i (request_base + s.node.id) e)

  pub serviced_received : (i : ℕ) → (i ≡ sync_base → ⊥) → (i ≡ request_base + s.node.id → ⊥) →
      as_serviced i ≡ (received_by receive_pdos i (data_of content) s d, received_by_rests receive_pdos i (data_of content) s d)
  serviced_received i n k = rw (ne_eqb i sync_base n, ne_eqb i (request_base + s.node.id) k)

  -- ---- a frame as data

  module _ (c : OnBus content) where
    pub sync_is : ◌≡◌ {A = Effect × Bool} (sync (data_of content) s d, sync_rests (length (data_of content)) s d)
        (sync_of content.length s d, sync_rests content.length s d)
    sync_is =
        ap (λ (e : Effect). (e, sync_rests (length (data_of content)) s d)) (sync_by_length (data_of content) s d)
        ∙ ap (λ (n : ℕ). (sync_of n s d, sync_rests n s d)) (length_data content c.shape)

    whole_data : content.length ≡ request_length → data_of content ≡ content.bytes
    whole_data e =
        let l : length content.bytes ≡ most_data = ap length c.shape.zeros ∙ length-padded 0 most_data (data_of content) in
        take_all content.length content.bytes (omega (arith, l, e))

    pub request_served : is_stopped s.node.nmt ≡ false → content.length ≡ request_length →
        as_requested ≡ (sdo content.bytes s d, sdo_rests content.bytes s d)
    request_served on e =
        let bs = data_of content in
        let long : eqb (length bs) request_length ≡ true = eq-eqb (length bs) request_length (length_data content c.shape ∙ e) in
        rw (long, on) (ap (λ (x : List ℕ). (sdo x s d, sdo_rests x s d)) (whole_data e))

    -- a request that is not served
    pub request_stopped : is_stopped s.node.nmt ≡ true → as_requested ≡ (becomes s, true)
    request_stopped on =
        let bs = data_of content in
        rw on (ap (λ (x : Bool). (cond x (sdo bs s d) (becomes s), cond x (sdo_rests bs s d) true)) (and-false (eqb (length bs) request_length)))

    pub request_short : (content.length ≡ request_length → ⊥) → as_requested ≡ (becomes s, true)
    request_short n =
        let other : eqb (length (data_of content)) request_length ≡ false = ne_eqb _ _ (λ e. n (sym (length_data content c.shape) ∙ e)) in
        rw other

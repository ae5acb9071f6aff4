-- A service that leaves nothing to do: the end of its call changes nothing and sends nothing.
-- Assumes nothing.
use Prim.Native.Nat.{ℕ, zero, suc, ◌+◌}
use mathlib.Core.Path.{◌≡◌, refl, sym, ◌∙◌, ap}
use mathlib.Core.Bool.{Bool, true, false, and-not_self}
use mathlib.Core.List.{List, []}
use borrow.Author.Tests.{eqb-true}
use lib.Dec.{eqb}
use lib.ListN.{length, get_or}
use Rattle.rules_dictionary.specs.declared.PdoData.{PdoData}
use Rattle.rules_dictionary.specs.Numbers.{are_bytes}
use Rattle.rules_dictionary.specs.Table.{dictionary_length, each_way, receive_pdos, transmit_pdos, status_word, mode_display, mode}
use Rattle.rules_dictionary.specs.Values.{read}
use Rattle.rules_dictionary.specs.Legal.{mode_number}
use Rattle.rules_dictionary.specs.declared.Plan.{Plan}
use Rattle.rules_dictionary.specs.Plans.{plans_of, ready_of}
use Rattle.rules_dictionary.proofs.Tests.{and_left, and_right}
use Rattle.state.specs.declared.State.{State}
use Rattle.state.specs.declared.Occasion.{Occasion}
use Rattle.state.specs.declared.Pace.{Pace}
use Rattle.state.specs.NmtStates.{is_operational}
use Rattle.state.specs.Occasions.{is_synced}
use Rattle.rules_services.specs.PdoTraffic.{no_data, idle}
use Rattle.rules_services.specs.Effects.{Frame}
use Rattle.rules.specs.Outcome.{End, status_of}
use Rattle.rules.specs.Sound.{sound, status_as_made, mode_as_made, waiting_sound, pace_sound, held_sound, pairwise}
use Rattle.theorems.proofs.Lawful.{clauses, data_refl}
use Rattle.theorems.proofs.Still.{idles, at_each}
use Rattle.mapping.specs.Afresh.{which_change}
use Rattle.mapping.proofs.Renewed.{untold}
use Rattle.tpdo.specs.Sending.{turn}
use Rattle.calls.specs.Ending.{settled_by, turns_of, end_with, end_of}
use Rattle.calls.proofs.StatusMade.{both_stand}

-- ---- the end of a call that changed nothing, at no SYNC

-- ready frames that are as they were: none is told
pub none_change : {kept ready : List PdoData} → kept ≡ ready → which_change kept ready ≡ untold
none_change {ready = ready} e =
    rw (
      e,
      data_refl (get_or ready 0 no_data),
      data_refl (get_or ready 1 no_data),
      data_refl (get_or ready 2 no_data),
      data_refl (get_or ready 3 no_data),
    )

none_told : (k : ℕ) → get_or untold k false ≡ false
none_told zero = refl
none_told (suc zero) = refl
none_told (suc (suc zero)) = refl
none_told (suc (suc (suc zero))) = refl
none_told (suc (suc (suc (suc k)))) = refl

told_still : {kept ready : List PdoData} → kept ≡ ready → (k : ℕ) → get_or (which_change kept ready) k false ≡ false
told_still e k = ap (λ (bs : List Bool). get_or bs k false) (none_change e) ∙ none_told k

-- an end that leaves that state
as_end : (t : State) (d : List ℕ) {plans : List Plan} {ready : List PdoData} {paces : List Pace} {sent : List Frame} →
    plans ≡ t.axis.plans → ready ≡ t.axis.ready → paces ≡ t.axis.paces → sent ≡ [] →
    ◌≡◌ {A = End}
    (record {
      state = record {
        node = t.node;
        transfer = t.transfer;
        axis = record { drive = t.axis.drive; plans = plans; ready = ready; held = t.axis.held; paces = paces };
      };
      dictionary = d;
      sent = sent;
    })
    (record { state = t; dictionary = d; sent = [] })
as_end t d p r k f = rw (p, r, k, f)

module _ (s t : State) (occasion : Occasion) (d : List ℕ) (long : length d ≡ dictionary_length) (bytes : are_bytes d ≡ true)
    (good : sound s d ≡ true) (nmt : t.node.nmt ≡ s.node.nmt) (voltage : t.node.voltage ≡ s.node.voltage)
    (drive : t.axis.drive ≡ s.axis.drive) (plans : t.axis.plans ≡ plans_of d) (ready : t.axis.ready ≡ ready_of d)
    (paces : t.axis.paces ≡ s.axis.paces) (off : is_synced occasion ≡ false) where
  -- 6041h and 6061h made again are those that stand there
  made_still : settled_by t.node t.axis.drive d ≡ d
  unfolding status_as_made mode_as_made status_of
  made_still =
      let c = clauses s d good in
      let asked = eqb (read d mode_display) (read d mode) in
      let shown : read d mode_display ≡ mode_number s.axis.drive.mode =
      eqb-true _ _ (and_left asked _ c.mode) ∙ eqb-true _ _ (and_right asked _ c.mode) in
      sym (both_stand t.node t.axis.drive d (read d status_word) (read d mode_display)
      (eqb-true _ _ c.status ∙ rw (nmt, voltage, drive)) (shown ∙ rw drive) bytes long refl refl)

  abbrev was : Bool
  was = is_operational s.node.nmt

  turn_still : (k : ℕ) → pace_sound s.node.nmt d (each_way + k) (get_or s.axis.paces k idle) ≡ true →
      turns_of was t occasion d k ≡ record { send = false; kept = get_or s.axis.paces k idle }
  unfolding turn
  turn_still k h =
      rw (told_still ready k, nmt, paces, and-not_self (is_operational s.node.nmt))
      (idles s.node.nmt d (each_way + k) (get_or s.axis.paces k idle) occasion off h)

  -- THE LAW
  pub end_still : end_of was t occasion d ≡ record { state = t; dictionary = d; sent = [] }
  unfolding end_with waiting_sound
  end_still =
      let m = s.node.nmt in
      let w = and_left (pairwise (pace_sound m d) transmit_pdos s.axis.paces) (pairwise (held_sound m d) receive_pdos s.axis.held)
      (clauses s d good).waiting in
      let each = at_each (pace_sound m d) s.axis.paces w (turns_of was t occasion d) turn_still d (ready_of d) in
      rw made_still (as_end t d (sym plans) (sym ready) (each.1 ∙ sym paces) each.0)

-- A frame of the bus, by its identifier, as the calls go about it.
-- Assumes nothing.
use Rattle.std.specs.Prelude.{ℕ, ◌+◌, ◌≡◌, List, Bool, true, cond, not, ◌&&◌, eqb, length}
use Rattle.rules_dictionary.specs.declared.PdoData.{PdoData}
use Rattle.rules_dictionary.specs.Table.{receive_pdos}
use Rattle.state.specs.declared.State.{State}
use Rattle.state.specs.NmtStates.{is_stopped}
use Rattle.rules_services.specs.Effects.{Effect, becomes}
use Rattle.rules_services.specs.Sdo.{request_base, request_length}
use Rattle.rules_services.specs.SdoServer.{sdo}
use Rattle.rules_services.specs.PdoTraffic.{sync, sync_base, received_by}
use Rattle.rules_services.specs.Nmt.{nmt_identifier}
use Rattle.form.specs.Form.{state_length, state_of}
use Rattle.form.specs.Holding.{Holds}
use Rattle.output.specs.Laying.{data_of}
use Rattle.sdo.specs.Requests.{sdo_rests}
use Rattle.rpdo.specs.Traffic.{received_by_rests, sync_rests}
use Rattle.nmt.specs.Commanding.{is_for_others}
use Rattle.calls.specs.Ending.{Stands}

-- "Served in Pre-operational and Operational, 600h+N, length 8."
abbrev pub requested : List ℕ → State → List ℕ → Effect
requested bs s d = cond (eqb (length bs) request_length && not (is_stopped s.node.nmt)) (sdo bs s d) (becomes s)

-- a frame that is no NMT command
abbrev pub serviced : ℕ → List ℕ → State → List ℕ → Effect
serviced i bs s d =
    cond (eqb i sync_base) (sync bs s d)
    (cond (eqb i (request_base + s.node.id)) (requested bs s d) (received_by receive_pdos i bs s d))

-- ---- where nothing is left to do at the call's end

abbrev pub requested_rests : List ℕ → State → List ℕ → Bool
requested_rests bs s d = cond (eqb (length bs) request_length && not (is_stopped s.node.nmt)) (sdo_rests bs s d) true

abbrev pub serviced_rests : ℕ → List ℕ → State → List ℕ → Bool
serviced_rests i bs s d =
    cond (eqb i sync_base) (sync_rests (length bs) s d)
    (cond (eqb i (request_base + s.node.id)) (requested_rests bs s d) (received_by_rests receive_pdos i bs s d))

abbrev pub framed_rests : ℕ → PdoData → State → List ℕ → Bool
framed_rests i content s d = cond (eqb i nmt_identifier) (is_for_others content s d) (serviced_rests i (data_of content) s d)

-- ---- what a frame or an event starts from, as lent bytes: they hold a state, and it stands
pub record Starts (bs d o : List ℕ) : Type 0 where
  pub own : Holds bs (state_of bs)
  pub whole : length bs ≡ state_length
  pub stands : Stands (state_of bs) d o

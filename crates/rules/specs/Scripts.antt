-- Calls in a row, each with what it must give: the refusal's number, 6041h as stored, and the frames sent.
-- Assumes nothing.
use Rattle.std.specs.Prelude.{ℕ, ◌+◌, List, [], ◌∷◌, Bool, true, false, ◌&&◌, eqb, length, replicate}
use Rattle.state.specs.declared.State.{State}
use Rattle.rules_dictionary.specs.Table.{status_word, dictionary_length, open_table}
use Rattle.rules_dictionary.specs.Numbers.{open_numbers}
use Rattle.rules_dictionary.specs.Values.{read, open_values}
use Rattle.rules_dictionary.specs.Aborts.{open_aborts}
use Rattle.rules_dictionary.specs.Legal.{open_legal}
use Rattle.rules_dictionary.specs.Plans.{open_plans}
use Rattle.drive.specs.DriveStates.{open_drive_states}
use Rattle.drive.specs.SetPoints.{open_set_points}
use Rattle.drive.specs.StatusWord.{open_status_word}
use Rattle.rules_services.specs.Effects.{Frame, open_effects}
use Rattle.rules_services.specs.Emergency.{open_emergency}
use Rattle.rules_services.specs.Written.{open_written}
use Rattle.rules_services.specs.Sdo.{open_sdo}
use Rattle.rules_services.specs.Segments.{open_segments}
use Rattle.rules_services.specs.SdoServer.{open_sdo_server}
use Rattle.rules_services.specs.PdoTraffic.{open_pdo_traffic}
use Rattle.rules_services.specs.Nmt.{fresh_state, open_nmt}
use Rattle.rules_services.specs.Events.{open_events}
use Rattle.files.specs.ConciseDcf.{open_concise_dcf}
use Rattle.rules_services.specs.Load.{open_load}
use Rattle.rules.specs.Outcome.{sent_into, same_by, open_outcome}
use Rattle.rules.specs.Sound.{open_sound}
use Rattle.rules.specs.Calls.{Call, Outcome, answer, refusal_number, output_length, open_calls}

pub record Line : Type 0 where
  pub call : Call
  pub refusal : ℕ
  pub word : ℕ
  pub sent : List Frame

abbrev pub line : Call → ℕ → ℕ → List Frame → Line
line c r w fs = record { call = c; refusal = r; word = w; sent = fs }

-- what is lent for output, with more than is needed and a mark in every byte
abbrev pub blank : List ℕ
blank = replicate (output_length + 4) 0xA5

unfoldable pub matches : Line → Outcome → Bool
matches l o =
    eqb (refusal_number o.refusal) l.refusal
    && eqb (read o.dictionary status_word) l.word
    && eqb o.frames (length l.sent)
    && same_by eqb o.output (sent_into blank l.sent)

-- what answers calls: the rules, or another node that is held to the same lines
abbrev pub Answers : Type 0
Answers = Call → State → List ℕ → List ℕ → Outcome

-- each call gives its line, and the next starts from what it left
unfoldable pub runs : Answers → List Line → State → List ℕ → Bool
runs node [] s d = true
runs node (l ∷ ls) s d =
    let o = node l.call s d blank in
    elim (matches l o) [ true ↦ runs node ls o.state o.dictionary | false ↦ false ]

-- before power-up: no node
unfoldable pub nothing : State
nothing = fresh_state 0

abbrev pub zeros : List ℕ
zeros = replicate dictionary_length 0

unfoldable pub given_by : Answers → List Line → Bool
given_by node ls = runs node ls nothing zeros

-- the rules' own answers
unfoldable pub from_nothing : List Line → Bool
from_nothing ls = given_by answer ls

-- opens every definition of the rules, where a proof computes
unfoldable pub open_rules : Unit {0}
unfolding open_numbers open_table open_values open_aborts open_legal open_plans open_drive_states open_set_points open_status_word
    open_effects open_emergency open_written open_sdo open_segments open_sdo_server open_pdo_traffic open_nmt open_events open_concise_dcf open_load
    open_outcome open_sound open_calls matches runs nothing given_by from_nothing
open_rules = tt

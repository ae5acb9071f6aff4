-- What waits for SYNC, apart from the state that keeps it; where its bytes keep it; and the bytes of a held frame behind those that its PDO maps.
-- Assumes nothing.
use Rattle.std.specs.Prelude.{ℕ, ◌+◌, ◌*◌, ◌/◌, List, Bool, ◌&&◌, eqb, drop}
use Rattle.state.specs.declared.NmtState.{NmtState}
use Rattle.state.specs.declared.Pace.{Pace}
use Rattle.rules_dictionary.specs.declared.PdoData.{PdoData}
use Rattle.rules_dictionary.specs.Numbers.{all}
use Rattle.rules_dictionary.specs.Table.{each_way, receive_pdos, transmit_pdos}
use Rattle.rules.specs.Sound.{pairwise, pace_sound, held_sound}
use Rattle.form.specs.Form.{word_length, data_length, held_place, pace_length, paces_place}
use Rattle.form.specs.Own.{is_zero, every_word}

-- paces and held frames are sound
unfoldable pub wait_sound : NmtState → List ℕ → List Pace → List PdoData → Bool
wait_sound m d paces held = pairwise (pace_sound m d) transmit_pdos paces && pairwise (held_sound m d) receive_pdos held

-- where the pace of transmit PDO t stands, 0 to 3, and the held frame of receive PDO p
abbrev pub pace_place : ℕ → ℕ
pace_place t = paces_place + pace_length * t

abbrev pub held_frame_place : ℕ → ℕ
held_frame_place p = held_place + data_length * p

-- all that waits stands in one row, so many words: the held frames, then the paces
abbrev pub waiting_words : ℕ
waiting_words = each_way * (data_length + pace_length) / word_length

unfoldable pub none_waiting : List ℕ → Bool
none_waiting bs = every_word is_zero waiting_words held_place bs

-- every byte from that place on is zero
abbrev pub zero_from : ℕ → List ℕ → Bool
zero_from n bs = all (λ b. eqb b 0) (drop n bs)

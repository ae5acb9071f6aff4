-- 'Drive states' in literal words, by computation: 6041h in every state, every word of 6040h in every state, the edge of bit 7, and
-- what each test of a state says.
-- Assumes nothing.
use Rattle.std.proofs.Common.{ℕ, ◌≡◌, refl, Bool, true, false, List, [], ◌∷◌, ◌++◌, map, replicate}
use Rattle.rules_dictionary.specs.declared.Mode.{Mode}
use Rattle.rules_dictionary.specs.declared.Mode.TheVariants.{NoMode, ProfilePosition, ProfileVelocity}
use Rattle.drive.specs.declared.DriveState.{DriveState}
use Rattle.drive.specs.declared.DriveState.TheVariants.{NotReady, SwitchOnDisabled, ReadyToSwitchOn, SwitchedOn}
use Rattle.drive.specs.declared.DriveState.TheVariants.{QuickStopActive, FaultReactionActive, Fault}
use Rattle.drive.specs.declared.Command.TheVariants.{None, FaultReset, DisableVoltage, QuickStop, Shutdown, SwitchOn, Enable}
use Rattle.drive.specs.declared.Store.{Store}
use Rattle.drive.specs.declared.Store.TheVariants.{Empty, Rested, Moving, Queued}
use Rattle.drive.specs.declared.Drive.{Drive}
use Rattle.drive.specs.declared.Controlled.{Controlled}
use Rattle.rules_dictionary.specs.Table.{control_word}
use Rattle.rules_dictionary.specs.Values.{write}
use Rattle.drive.specs.DriveStates.{is_not_ready, is_enabled, is_quick_stop, is_reaction, is_fault, is_faulty, is_at_rest, command, next, resets}
use Rattle.drive.specs.DriveStates.{state_word}
use Rattle.drive.specs.SetPoints.{enters, control_written, with_cause}
use Rattle.drive.specs.StatusWord.{status}
use Rattle.drive.proofs.Every.{states, commands}
use Rattle.drive.proofs.Edges.{bench, point, other, drive, open_edges}

-- ---- 6041h; the eight states stand "in the order Not ready, disabled, Ready, Switched on, enabled, Quick stop, reaction, Fault"

-- a drive in that state and mode
in_state : Mode → Store → Bool → Bool → DriveState → Drive
in_state m st mark cause s = record { state = s; mode = m; store = st; taken = mark; limit = mark; cause = cause; stay = 0 }

words : Bool → Bool → Mode → Store → Bool → List ℕ
words remote voltage m st mark = map (λ s. status remote voltage (in_state m st mark false s) (bench [])) states

-- "0000h, 40h, 21h, 23h, 27h, 07h, 0Fh, 08h"; "Bit 4 voltage; bit 9 not Stopped"
eight_words : (words false false NoMode Empty false ≡ 0x0000 ∷ 0x0040 ∷ 0x0021 ∷ 0x0023 ∷ 0x0027 ∷ 0x0007 ∷ 0x000F ∷ 0x0008 ∷ [])
    × (words false true NoMode Empty false ≡ 0x0010 ∷ 0x0050 ∷ 0x0031 ∷ 0x0033 ∷ 0x0037 ∷ 0x0017 ∷ 0x001F ∷ 0x0018 ∷ [])
    × (words true false NoMode Empty false ≡ 0x0200 ∷ 0x0240 ∷ 0x0221 ∷ 0x0223 ∷ 0x0227 ∷ 0x0207 ∷ 0x020F ∷ 0x0208 ∷ [])
    × (words true true NoMode Empty false ≡ 0x0210 ∷ 0x0250 ∷ 0x0231 ∷ 0x0233 ∷ 0x0237 ∷ 0x0217 ∷ 0x021F ∷ 0x0218 ∷ [])
unfolding words in_state open_edges
eight_words = (refl, refl, refl, refl)

-- "Enabled only": bits 12, 11 and 10, with both marks set, at rest, standing still
enabled_alone_shows : (words true true ProfilePosition (Rested 50) true ≡ 0x0210 ∷ 0x0250 ∷ 0x0231 ∷ 0x0233 ∷ 0x1E37 ∷ 0x0217 ∷ 0x021F ∷ 0x0218 ∷ [])
    × (words true true ProfileVelocity Empty false ≡ 0x0210 ∷ 0x0250 ∷ 0x0231 ∷ 0x0233 ∷ 0x1637 ∷ 0x0217 ∷ 0x021F ∷ 0x0218 ∷ [])
unfolding words in_state open_edges
enabled_alone_shows = (refl, refl)

-- ---- the words of 6040h

-- bits 3-0 from 0 to Fh: "bit 1 zero, Disable voltage; bit 1 one, bit 2 zero, Quick stop; 1 1 0 (bits 2-0) Shutdown; 0111 Switch on; 1111 Enable"
sixteen_words : map (command 0) (0x0 ∷ 0x1 ∷ 0x2 ∷ 0x3 ∷ 0x4 ∷ 0x5 ∷ 0x6 ∷ 0x7 ∷ 0x8 ∷ 0x9 ∷ 0xA ∷ 0xB ∷ 0xC ∷ 0xD ∷ 0xE ∷ 0xF ∷ [])
    ≡ DisableVoltage ∷ DisableVoltage ∷ QuickStop ∷ QuickStop ∷ DisableVoltage ∷ DisableVoltage ∷ Shutdown ∷ SwitchOn
    ∷ DisableVoltage ∷ DisableVoltage ∷ QuickStop ∷ QuickStop ∷ DisableVoltage ∷ DisableVoltage ∷ Shutdown ∷ Enable ∷ []
unfolding open_edges
sixteen_words = refl

-- the bits above 7, and 4 to 6, ask nothing of the drive
other_bits_ask_nothing : map (command 0xFF7F) (0xFF70 ∷ 0xFF72 ∷ 0xFF76 ∷ 0xFF77 ∷ 0xFF7F ∷ 0xFFFF ∷ [])
    ≡ DisableVoltage ∷ QuickStop ∷ Shutdown ∷ SwitchOn ∷ Enable ∷ FaultReset ∷ []
unfolding open_edges
other_bits_ask_nothing = refl

-- "Bit 7 set: Fault reset if it was 0 before, else none", whatever stands in the other bits
edge_of_bit_7 : (map (command 0x0000) (0x80 ∷ 0x86 ∷ 0x8F ∷ 0xFF ∷ []) ≡ replicate 4 FaultReset)
    × (map (command 0x0080) (0x80 ∷ 0x86 ∷ 0x8F ∷ 0xFF ∷ []) ≡ replicate 4 None)
    × (map (command 0x0080) (0x00 ∷ 0x06 ∷ 0x0F ∷ []) ≡ DisableVoltage ∷ Shutdown ∷ Enable ∷ [])
unfolding open_edges
edge_of_bit_7 = (refl, refl, refl)

-- the eight states after that word of 6040h, each by its own part of 6041h
leads : Bool → ℕ → ℕ → List ℕ
leads cause old word = map (λ s. state_word (next cause s (command old word))) states

-- Disable voltage, Quick stop, Shutdown, Switch on, Enable: each from every state, and with a cause present all the same
words_from_every_state : map (leads false 0x00) (0x00 ∷ 0x02 ∷ 0x06 ∷ 0x07 ∷ 0x0F ∷ [])
    ≡ (0x00 ∷ 0x40 ∷ 0x40 ∷ 0x40 ∷ 0x40 ∷ 0x40 ∷ 0x0F ∷ 0x08 ∷ [])
    ∷ (0x00 ∷ 0x40 ∷ 0x40 ∷ 0x40 ∷ 0x07 ∷ 0x07 ∷ 0x0F ∷ 0x08 ∷ [])
    ∷ (0x00 ∷ 0x21 ∷ 0x21 ∷ 0x21 ∷ 0x21 ∷ 0x07 ∷ 0x0F ∷ 0x08 ∷ [])
    ∷ (0x00 ∷ 0x40 ∷ 0x23 ∷ 0x23 ∷ 0x23 ∷ 0x07 ∷ 0x0F ∷ 0x08 ∷ [])
    ∷ (0x00 ∷ 0x40 ∷ 0x27 ∷ 0x27 ∷ 0x27 ∷ 0x27 ∷ 0x0F ∷ 0x08 ∷ [])
    ∷ []
unfolding leads open_edges
words_from_every_state = refl

words_with_a_cause : map (leads true 0x00) (0x00 ∷ 0x02 ∷ 0x06 ∷ 0x07 ∷ 0x0F ∷ [])
    ≡ (0x00 ∷ 0x40 ∷ 0x40 ∷ 0x40 ∷ 0x40 ∷ 0x40 ∷ 0x0F ∷ 0x08 ∷ [])
    ∷ (0x00 ∷ 0x40 ∷ 0x40 ∷ 0x40 ∷ 0x07 ∷ 0x07 ∷ 0x0F ∷ 0x08 ∷ [])
    ∷ (0x00 ∷ 0x21 ∷ 0x21 ∷ 0x21 ∷ 0x21 ∷ 0x07 ∷ 0x0F ∷ 0x08 ∷ [])
    ∷ (0x00 ∷ 0x40 ∷ 0x23 ∷ 0x23 ∷ 0x23 ∷ 0x07 ∷ 0x0F ∷ 0x08 ∷ [])
    ∷ (0x00 ∷ 0x40 ∷ 0x27 ∷ 0x27 ∷ 0x27 ∷ 0x27 ∷ 0x0F ∷ 0x08 ∷ [])
    ∷ []
unfolding leads open_edges
words_with_a_cause = refl

-- "Fault: Fault reset without cause to disabled"; bit 7 held, or a cause present: every state stays
resets_from_every_state : (leads false 0x00 0x80 ≡ 0x00 ∷ 0x40 ∷ 0x21 ∷ 0x23 ∷ 0x27 ∷ 0x07 ∷ 0x0F ∷ 0x40 ∷ [])
    × (leads true 0x00 0x80 ≡ 0x00 ∷ 0x40 ∷ 0x21 ∷ 0x23 ∷ 0x27 ∷ 0x07 ∷ 0x0F ∷ 0x08 ∷ [])
    × (leads false 0x80 0x8F ≡ 0x00 ∷ 0x40 ∷ 0x21 ∷ 0x23 ∷ 0x27 ∷ 0x07 ∷ 0x0F ∷ 0x08 ∷ [])
unfolding leads open_edges
resets_from_every_state = (refl, refl, refl)

-- 1001h goes to 0 by a Fault reset in Fault without cause, and by nothing else: each state under each command
reset_alone : (map (λ s. map (resets false s) commands) states ≡ replicate 7 (replicate 7 false) ++ (false ∷ true ∷ replicate 5 false) ∷ [])
    × (map (λ s. map (resets true s) commands) states ≡ replicate 8 (replicate 7 false))
unfolding open_edges
reset_alone = (refl, refl)

-- a word of 6040h in Fault: 80h after 00h resets, with a cause or with bit 7 held it does not, and 0Fh does not
fault_written : Bool → ℕ → ℕ → Controlled
fault_written cause old word = control_written (bench (write control_word word ∷ [])) old (in_state NoMode Empty false cause Fault)

fault_reset_written : (fault_written false 0x00 0x80 ≡ record { drive = in_state NoMode Empty false false SwitchOnDisabled; reset = true })
    × (fault_written true 0x00 0x80 ≡ record { drive = in_state NoMode Empty false true Fault; reset = false })
    × (fault_written false 0x80 0x80 ≡ record { drive = in_state NoMode Empty false false Fault; reset = false })
    × (fault_written false 0x00 0x0F ≡ record { drive = in_state NoMode Empty false false Fault; reset = false })
unfolding fault_written in_state open_edges
fault_reset_written = (refl, refl, refl, refl)

-- ---- the tests, of the eight states in their order

tests_of_states : (map is_not_ready states ≡ true ∷ replicate 7 false) × (map is_enabled states ≡ replicate 4 false ++ true ∷ replicate 3 false)
    × (map is_quick_stop states ≡ replicate 5 false ++ true ∷ replicate 2 false) × (map is_reaction states ≡ replicate 6 false ++ true ∷ false ∷ [])
    × (map is_fault states ≡ replicate 7 false ++ true ∷ []) × (map is_faulty states ≡ replicate 6 false ++ true ∷ true ∷ [])
    × (map is_at_rest states ≡ true ∷ true ∷ replicate 6 false)
tests_of_states = (refl, refl, refl, refl, refl, refl, refl)

-- event 3 in Operation enabled: "goes to Fault reaction active", with "cause present"; the store empties and both marks clear
fault_empties : with_cause true (enters FaultReactionActive (drive (Queued (point 1) (other 2)) true true))
    ≡ in_state ProfilePosition Empty false true FaultReactionActive
unfolding in_state open_edges
fault_empties = refl

-- every state but Operation enabled empties the store on the way in; staying in Operation enabled is no leaving
entering_empties : map (λ s. enters s (drive (Moving (point 1)) true true)) states
    ≡ map (λ s. in_state ProfilePosition Empty false false s) (NotReady ∷ SwitchOnDisabled ∷ ReadyToSwitchOn ∷ SwitchedOn ∷ [])
    ++ drive (Moving (point 1)) true true
    ∷ map (λ s. in_state ProfilePosition Empty false false s) (QuickStopActive ∷ FaultReactionActive ∷ Fault ∷ [])
unfolding in_state open_edges
entering_empties = refl

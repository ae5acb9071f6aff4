-- Soundness in the parts that the code tests one after another.
-- Assumes nothing.
use Rattle.std.specs.Prelude.{ℕ, List, Bool, not, ◌&&◌, eqb}
use Rattle.drive.specs.declared.Drive.{Drive}
use Rattle.state.specs.declared.NmtState.{NmtState}
use Rattle.state.specs.declared.Node.{Node}
use Rattle.state.specs.NmtStates.{is_stopped}
use Rattle.rules_dictionary.specs.Table.{status_word, mode, mode_display}
use Rattle.rules_dictionary.specs.Values.{read}
use Rattle.rules_dictionary.specs.Legal.{mode_number}
use Rattle.drive.specs.StatusWord.{status}
use Rattle.rules.specs.Sound.{drive_sound, heartbeat_sound}
use Rattle.form.specs.Form.{state_of}
use Rattle.soundness.specs.Rows.{row_tests, limits_in_order}
use Rattle.soundness.specs.Keys.{identifiers_legal}
use Rattle.soundness.specs.Kept.{plans_kept_in, ready_kept}
use Rattle.soundness.specs.Waiting.{wait_sound}

-- the dictionary's rows, software limits and PDO identifiers
unfoldable pub dictionary_clauses : ℕ → List ℕ → Bool
dictionary_clauses n d = (row_tests n d && limits_in_order d) && identifiers_legal d

-- the drive, 6041h, 6061h and the heartbeat count
unfoldable pub drive_clauses : Node → Drive → List ℕ → Bool
drive_clauses node drive d =
    (eqb (read d status_word) (status (not (is_stopped node.nmt)) node.voltage drive d)
    && (eqb (read d mode_display) (read d mode) && eqb (read d mode) (mode_number drive.mode)))
    && (drive_sound drive d && heartbeat_sound node.heartbeat d)

-- mappings, and what a state's bytes keep for the PDOs
unfoldable pub pdo_clauses : NmtState → List ℕ → List ℕ → Bool
pdo_clauses m bs d =
    let axis = (state_of bs).axis in
    plans_kept_in bs d && (ready_kept d axis.ready && wait_sound m d axis.paces axis.held)

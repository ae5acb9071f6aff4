-- The words that the theorems are told in: numbers, tests and lists, the types that the code declares, and what is known of rows.
-- Assumes nothing.
pub use Prim.Native.Nat.{ℕ, suc, ◌+◌, ◌<◌, ◌≤◌, ◌/◌, ◌^◌, zero, ◌*◌, ◌-◌, ◌%◌}
pub use native.Mathlib.Omega.{arith}
pub use native.Mathlib.Nat.{zero-add, suc-add}
pub use mathlib.Core.Path.{◌≡◌, refl, sym, ◌∙◌, ap, subst, ap₂}
pub use mathlib.Core.Logic.{◌⊎◌, inl, inr}
pub use mathlib.Core.Bool.{Bool, true, false, cond, not, ◌&&◌, ◌||◌, false≢true, beq as Bool·beq, and-not_self, and-eq-true_iff, not-not as Bool·not-not}
pub use mathlib.Core.Bool.{or-true, and-false, or-false, true≢false}
pub use mathlib.Core.List.{List, [], ◌∷◌, ◌++◌, append-nil, map, append_assoc}
pub use borrow.Author.Tests.{eqb-true, eq-eqb, leb-false, ltb-false, ne_eqb, leb-true, lt-ltb, le-leb, ltb-true, eqb-false, le-ltb, not-true}
pub use borrow.Author.Tests.{not-false}
pub use lib.Dec.{eqb, leb, ltb}
pub use Rattle.std.specs.Prelude.{Option, Some, None}
pub use lib.ListN.{drop_of_length-le, length, get_or, set, drop, take-append-drop, length-drop, take, length-append, length-take}
pub use lib.Seq.{sets, get_or-set_other, sets-eq, length-take-le, drop-drop, take-take, take-nil}
pub use lib.Seq.{take_at, drop_at, set_out}
pub use lib.Bits.{bit_or, or_lt}
pub use Rattle.drive.specs.declared.Command.TheVariants.{DisableVoltage}
pub use Rattle.drive.specs.declared.DriveState.TheVariants.{SwitchOnDisabled, FaultReactionActive, Fault}
pub use Rattle.drive.specs.declared.Store.TheVariants.{Empty, Rested, Moving, Queued}
pub use Rattle.drive.specs.{declared.Command.Command, declared.Drive.Drive, declared.DriveState.DriveState, declared.SetPoint.SetPoint}
pub use Rattle.drive.specs.{declared.Store.Store}
pub use Rattle.rules_dictionary.specs.declared.Access.TheVariants.{Constant, NodeWritten, Writable}
pub use Rattle.rules_dictionary.specs.declared.Mode.TheVariants.{NoMode, ProfilePosition, ProfileVelocity}
pub use Rattle.rules_dictionary.specs.declared.Role.TheVariants.{Plain, ModeOfOperation, MinimumLimit, MaximumLimit, PdoIdentifier, PdoType}
pub use Rattle.rules_dictionary.specs.declared.Role.TheVariants.{MappingCount, MappingEntry}
pub use Rattle.rules_dictionary.specs.Members.{In, here, there}
pub use Rattle.rules_dictionary.specs.{declared.Access.Access, declared.Mode.Mode, declared.PdoData.PdoData, declared.Plan.Plan, declared.Role.Role}
pub use Rattle.rules_services.specs.declared.Event.TheVariants.{Started, QuickStopDone, ReactionDone, SetPointReached, Tick, CauseGone, Feedback}
pub use Rattle.rules_services.specs.declared.Event.TheVariants.{Voltage}
pub use Rattle.rules_services.specs.declared.SdoCommand.TheVariants.{Download, DownloadBySegments, DownloadSegment, Upload, UploadSegment}
pub use Rattle.rules_services.specs.declared.SdoCommand.TheVariants.{ClientAbort, Unknown}
pub use Rattle.rules_services.specs.{declared.Event.Event, declared.Paced.Paced, declared.SdoCommand.SdoCommand}
pub use Rattle.state.specs.declared.NmtState.TheVariants.{PreOperational, Operational, Stopped}
pub use Rattle.state.specs.declared.Transfer.TheVariants.{NoTransfer, Uploading, Downloading}
pub use Rattle.state.specs.{declared.Receipt.Receipt, declared.Transfer.Transfer}
pub use Rattle.state.specs.declared.Refusal.TheVariants.{Accepted, DictionaryLength, OutputLength, NodeId, NotSound, BadFrame, BadEvent, OutOfPlace}
pub use Rattle.state.specs.declared.Refusal.TheVariants.{WrongState, FileTooShort, TooManyEntries, FileMisfit, ControlWordEntry, EntryAborted}
pub use Rattle.state.specs.NmtStates.{is_stopped, is_operational, is_pre_operational}
pub use Rattle.state.specs.{declared.NmtState.NmtState, declared.Occasion.Occasion, declared.Occasion.TheVariants.Synced}
pub use Rattle.state.specs.{declared.Occasion.TheVariants.Ticked, declared.Pace.Pace, declared.Refusal.Refusal, declared.State.State}
pub use Rattle.rules_dictionary.proofs.Tests.{none_in, and_left, and_right, and_both, each_in, all_in, or_left, all_below, on_nodes, or_right}
pub use Rattle.rules_dictionary.proofs.Tests.{eqb_self, is_good_lem, all_leading}
pub use Rattle.rules_dictionary.proofs.Members.{in_append, in_map, in_left, words_read, all_of, unpacked_table, pdo_in, identifier_in, count_in_lem}
pub use Rattle.rules_dictionary.proofs.Members.{entry_in, type_in, in_right}
pub use Rattle.rules_dictionary.proofs.Rows.{bytes_value, part_bytes, read_fits, read_apart, read_same, length_store, length_stored, stored_bytes}
pub use Rattle.rules_dictionary.proofs.Rows.{store_bytes, all_drop, all_take, bytes_are, field_stored, value_take}
pub use Rattle.rules_dictionary.proofs.Rows.{value_bytes, all_set}
pub use Rattle.rules_dictionary.proofs.{LookUp.found_in, Packing.within, Packing.same_or_apart, Packing.apart, Packing.same_self}
pub use Rattle.rules_dictionary.proofs.{Padded.length-padded, Padded.take_padded, Plans.joined_same}
pub use Rattle.drive.proofs.Every.{on_states, on_ways}
pub use Rattle.theorems.proofs.Booleans.{either, and_then_false, or_false_left, or_false_right, any_false_in, by_match, false_not, clash}
pub use Rattle.theorems.proofs.Booleans.{by_test, whichever, or_both_false, and_false_if, any_false_of, eqb_comm, implied, implies}
pub use Rattle.theorems.proofs.Booleans.{or_either, all_both, both_by_test, both_by_match, same_test}

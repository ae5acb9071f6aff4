-- Ticket 5: the limits stay in order, and an absolute set-point between them is taken. What one frame's values make of a drive that is ready;
-- that the call's service does just this to the drive, by the walk over the services in Listed; and the call's end.
-- Assumes nothing.
use lib.IntN.{ℤ, pos, negsuc}
use lib.Signed.{le_z}
use mathlib.Core.List.{nil≢cons, head-eq_of_cons-eq}
use Rattle.theorems.proofs.Words.{Bool·beq, same_test, ℕ, ◌+◌, ◌<◌, ◌≤◌, arith, ◌≡◌, refl, ◌∙◌, ap, ap₂, Bool, true, false, cond, not, ◌&&◌}
use Rattle.theorems.proofs.Words.{◌||◌, false≢true, and-eq-true_iff, List, [], ◌∷◌, map, eqb, leb, eqb-true, ne_eqb, leb-true, not-true, Mode}
use Rattle.theorems.proofs.Words.{NoMode, ProfilePosition, ProfileVelocity, DriveState, SetPoint, Store, Moving, Drive, State, In, here}
use Rattle.theorems.proofs.Words.{in_left, le-leb, and_both, and_left, and_right, length_stored, by_test, whichever, clash}
use Rattle.theorems.proofs.Writes.{InTable, not_wrote, filtered}
use Rattle.theorems.proofs.Settled.{control_in, settled_status}
use Rattle.theorems.proofs.Lawful.{Lawful, sound_lawful, finally}
use Rattle.theorems.proofs.{Listed.framed_brings, Follows.enabled_is, Follows.not_clearable}
use Rattle.theorems.proofs.Demands.{frame_decided, identifier_range, run_rests}
use Rattle.theorems.proofs.Window.{both, on_both, word_of}
use Rattle.drive.specs.declared.DriveState.TheVariants.{OperationEnabled}
use Rattle.drive.specs.declared.Command.TheVariants.{Enable}
use Rattle.rules_dictionary.specs.TheNode.{first_node, last_node}
use Rattle.rules_dictionary.specs.Table.{control_word, mode, target_position, minimum_position, maximum_position, receive_pdos, transmit_pdos}
use Rattle.rules_dictionary.specs.Numbers.{bit, integer, filter}
use Rattle.rules_dictionary.specs.Values.{Write, read, stored, unpacked}
use Rattle.rules_dictionary.specs.Legal.{mode_number}
use Rattle.rules_dictionary.specs.Plans.{mapped}
use Rattle.drive.specs.DriveStates.{is_enabled, next}
use Rattle.drive.specs.SetPoints.{positions, is_position, emptied, enters, behind, is_queued, target, within_limits, set_point, with_taken, offered}
use Rattle.drive.specs.SetPoints.{set_point_rule, mode_written, control_written, new_set_point_bit, at_once_bit, relative_bit}
use Rattle.drive.specs.StatusWord.{ack_shown, ack_in_mode, reached_in_mode, enabled_bits, status}
use Rattle.rules_services.specs.Written.{wrote}
use Rattle.rules_services.specs.Sdo.{request_base}
use Rattle.rules_services.specs.PdoTraffic.{sync_base}
use Rattle.rules_services.specs.Nmt.{nmt_identifier}
use Rattle.rules.specs.Outcome.{ended, status_of}
use Rattle.rules.specs.Calls.{framed, accepted, answered, answer, last_frame_identifier}
use Rattle.rules.proofs.AtEnd.{at-end}
use Rattle.theorems.specs.Promises.{reached, applies_at_once, by_pdo, applies}
use Rattle.theorems.specs.PromisesOfDrive.{acted, acted_all}
use Rattle.theorems.specs.PromisesOfLimits.{LimitsInOrder, LimitsAreTargets, AsksAbsolute, TakesBetweenLimits}

-- ---- the limits, where a run stands

pub limits_in_order_lem : LimitsInOrder
limits_in_order_lem r =
    let a = reached r in
    let at = (run_rests r).at in
    (sound_lawful a.state a.dictionary at.long at.sound).dictionary.ordered

at_most_itself : (z : ℤ) → le_z z z ≡ true
at_most_itself (pos n) = le-leb n n (omega arith)
at_most_itself (negsuc n) = le-leb n n (omega arith)

pub limits_are_targets : LimitsAreTargets
unfolding within_limits
limits_are_targets r =
    let d = (reached r).dictionary in
    let minimum = integer (read d minimum_position) in
    let maximum = integer (read d maximum_position) in (
      and_both (le_z minimum minimum) _ (at_most_itself minimum) (limits_in_order_lem r),
      and_both (le_z minimum maximum) _ (limits_in_order_lem r) (at_most_itself maximum),
    )

-- ---- a drive that is enabled in mode 1

pub record Positions (v : Drive) : Type 0 where
  pub state : v.state ≡ OperationEnabled
  pub mode : v.mode ≡ ProfilePosition

pub position-is : (m : Mode) → is_position m ≡ true → m ≡ ProfilePosition
position-is NoMode h = absurd (false≢true h)
position-is ProfilePosition h = refl
position-is ProfileVelocity h = absurd (false≢true h)

positioned : (v : Drive) → positions v ≡ true → Positions v
positioned v h =
    record {
      state = enabled_is v.state (and_left (is_enabled v.state) _ h);
      mode = position-is v.mode (and_right (is_enabled v.state) _ h);
    }

-- it took that set-point, with those held before, and is enabled in mode 1 still
record Took (word : ℕ) (p : SetPoint) (held : Store) (v : Drive) : Type 0 where
  on : Positions v
  store : v.store ≡ cond (bit at_once_bit word) (Moving p) (behind held p)
  taken : v.taken ≡ true
  limit : v.limit ≡ false

has_room : (a b : Bool) → (a || not b) ≡ true → (not a && b) ≡ false
has_room true b h = refl
has_room false b h = not-true b h

-- with bit 6 zero the target is 607Ah
absolute_target : (d : List ℕ) (word : ℕ) (held : Store) → bit relative_bit word ≡ false → target d word held ≡ integer (read d target_position)
unfolding target
absolute_target d word held h = rw h

-- the set-point that 607Ah and the profile ask for
abbrev aimed : List ℕ → SetPoint
aimed d = set_point d (integer (read d target_position))

module _ (d : List ℕ) (v : Drive) (on : Positions v) where
  -- 6060h written 1 again, and Enable, leave it as it is
  pub mode_same : read d mode ≡ mode_number ProfilePosition → mode_written d v ≡ v
  unfolding mode_written emptied
  mode_same h = rw (h, on.state, on.mode)

  pub enable_same : enters (next v.cause v.state Enable) v ≡ v
  unfolding enters emptied next
  enable_same = rw (on.state, on.mode)

  control_takes : (old : ℕ) → bit new_set_point_bit old ≡ false → AsksAbsolute old (read d control_word) v.store →
      within_limits d (integer (read d target_position)) ≡ true → Took (read d control_word) (aimed d) v.store (control_written d old v).drive
  unfolding control_written set_point_rule offered with_taken
  control_takes old free asks inside =
      let room = has_room (bit at_once_bit (read d control_word)) (is_queued v.store) asks.room in
      let goal = absolute_target d (read d control_word) v.store asks.absolute in
      rw (asks.enables, enable_same, asks.rises, on.state, on.mode, free, room, goal, inside)
      (record { on = record { state = refl; mode = refl }; store = refl; taken = refl; limit = refl })

-- ---- one frame's values, stored and acted on

-- 6060h is 1 again where it is among them; bit 4 rose, so that 6040h is among them
values_take : (v : Drive) (d : List ℕ) (ws : List Write) → Positions v → InTable ws → bit new_set_point_bit (read d control_word) ≡ false →
    let d1 = stored ws d in
    read d1 mode ≡ mode_number ProfilePosition → AsksAbsolute (read d control_word) (read d1 control_word) v.store →
    within_limits d1 (integer (read d1 target_position)) ≡ true → Took (read d1 control_word) (aimed d1) v.store (acted ws v d)
unfolding acted
values_take v d ws on rows free one asks inside =
    let d1 = stored ws d in
    let moded : cond (wrote mode ws) (mode_written d1 v) v ≡ v = whichever (λ w. w ≡ v) (wrote mode ws) (mode_same d1 v on one) refl in
    by_test (Took (read d1 control_word) (aimed d1) v.store) (wrote control_word ws)
    (λ w. rw moded (control_takes d1 v on (read d control_word) free asks inside))
    (λ w. clash (bit new_set_point_bit (read d1 control_word)) asks.rises (rw (not_wrote control_word ws d control_in rows w) free))

-- ---- a frame that brings values: its identifier is none of NMT's, and one of the bus

-- where one value comes of a list, it comes of one of the list
one_mapped : {A B : Type 0} (f : A → B) {y : B} (xs : List A) → map f xs ≡ y ∷ [] → (x : A) × In x xs × (f x ≡ y)
one_mapped f [] h = absurd (nil≢cons h)
one_mapped f (x ∷ xs) h = (x, here, head-eq_of_cons-eq h)

applies_on : (i : ℕ) (bs : List ℕ) (s : State) (d : List ℕ) (ws : List Write) → Lawful s d → applies i bs s d ≡ ws ∷ [] →
    (nmt_identifier < i) × (i ≤ last_frame_identifier)
unfolding applies by_pdo
applies_on i bs s d ws law =
    let P : List (List Write) → Type 0 = λ fs. fs ≡ ws ∷ [] → (nmt_identifier < i) × (i ≤ last_frame_identifier) in
    let n = s.node.id in
    let small = leb-true n last_node (and_right (leb first_node n) _ law.id) in
    by_test P (eqb i sync_base) (λ e h. let q = eqb-true i sync_base e in omega arith)
    (λ e. by_test P (eqb i (request_base + n)) (λ e h. let q = eqb-true i (request_base + n) e in omega arith)
    (λ e h.
    let c = one_mapped (λ p. unpacked (mapped d p) bs) (filter (applies_at_once i bs s d) receive_pdos) h in
    let f = filtered (applies_at_once i bs s d) receive_pdos c.1 in
    let listening = (simp and-eq-true_iff at f.1).0.0.0 in
    let range = identifier_range n d law.dictionary s.node.nmt c.0 i (in_left transmit_pdos f.0) listening in
    omega (arith, range.0, range.1)))

-- ---- the call's end

-- bit 12 of the word of an enabled drive is the flag that is put there
ack_flag : (powered remote ack limit on : Bool) → bit ack_shown (word_of OperationEnabled powered remote ack limit on) ≡ ack
unfolding both
ack_flag powered remote ack limit on =
    let word : Bool → Bool → Bool → Bool → Bool → Bool = λ a b c e f. Bool·beq (bit ack_shown (word_of OperationEnabled a b c e f)) c in
    same_test _ _
    (on_both (λ f. word powered remote ack limit f)
    (on_both (λ e. both (word powered remote ack e))
    (on_both (λ c. both (λ e. both (word powered remote c e)))
    (on_both (λ b. both (λ c. both (λ e. both (word powered b c e))))
    (on_both (λ a. both (λ b. both (λ c. both (λ e. both (word a b c e))))) refl powered) remote) ack) limit) on)

-- .. in mode 1 "taken or Queued"
pub ack_is : (remote powered : Bool) (v : Drive) (d : List ℕ) → Positions v →
    bit ack_shown (status remote powered v d) ≡ (v.taken || is_queued v.store)
unfolding status enabled_bits ack_in_mode
ack_is remote powered v d on =
    let reached = reached_in_mode v.mode v d in
    let ack : ack_in_mode v.mode v d ≡ (v.taken || is_queued v.store) = rw on.mode in
    ap₂ (λ (q : DriveState) (b : Bool). bit ack_shown (word_of q powered remote b v.limit reached)) on.state ack
    ∙ ack_flag powered remote (v.taken || is_queued v.store) v.limit reached

pub takes_between_limits : TakesBetweenLimits
unfolding answer answered accepted ended status_of acted_all
takes_between_limits r i bs o ws ready brings one asks inside =
    let a = reached r in
    let s = a.state in
    let d = a.dictionary in
    let v = s.axis.drive in
    let at = (run_rests r).at in
    let law = sound_lawful s d at.long at.sound in
    let e = framed i bs s d in
    let w = applies_on i bs s d ws law brings.values in
    let b = framed_brings i bs s d law (ne_eqb i nmt_identifier (λ (q : i ≡ nmt_identifier). omega (arith, w.0))) in
    let drive : e.state.axis.drive ≡ acted ws v d =
    b.drive (not_clearable v (and_left (is_enabled v.state) _ ready.enabled)) ∙ ap (λ fs. acted_all fs v d) brings.values in
    let rows = b.rows ws (rw brings.values here) in
    let k = rw (← drive) at (values_take v d ws (positioned v ready.enabled) rows ready.free one asks inside) in
    let d1 = stored e.writes d in
    let end = at-end e.occasion d1 e.state.axis.drive in
    let on : Positions (finally d e).axis.drive = record { state = end.state ∙ k.on.state; mode = end.mode ∙ k.on.mode } in
    rw (frame_decided i bs s d o at.long brings.room at.sound w.1 brings.short)
    (record {
      accepted = refl;
      store = end.store ∙ k.store;
      taken = end.taken ∙ k.taken;
      limit = end.limit ∙ k.limit;
      shown = ap (bit ack_shown) (settled_status (finally d e) d1 (length_stored e.writes d ∙ at.long))
          ∙ ack_is _ _ (finally d e).axis.drive d1 on ∙ rw (end.taken ∙ k.taken);
    })

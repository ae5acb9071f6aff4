-- `events::acts::faulted` meets its contract. Assumes nothing.
use Prim.Native.Nat.{ℕ}
use native.Mathlib.Omega.{arith}
use mathlib.Core.Path.{◌≡◌, refl}
use mathlib.Core.List.{List, append-nil}
use mathlib.Core.Bool.{true, false}
use lib.Bits.{bit_or}
use lib.ListN.{length}
use Rattle.state.specs.declared.Occasion.TheVariants.{Plain}
use Rattle.state.specs.declared.State.{State}
use Rattle.rules_dictionary.specs.Table.{error_code, error_register}
use Rattle.rules_dictionary.specs.Values.{read, store, stored}
use Rattle.rules_services.specs.Emergency.{emergency}
use Rattle.rules_services.specs.Events.{generic_error, faulted}
use Rattle.rules.specs.Outcome.{sent_into}
use Rattle.form.specs.Holding.{Holds}
use Rattle.output.specs.Leaves.{keeping, Leaves}
use Rattle.output.proofs.Left.{loud}
use Rattle.emergency.specs.Emergencies.{emergency_of}
use Rattle.events.proofs.acts.faulted.Goals as goal

leaves : (code register before k : ℕ) (s : State) (d o d' d'' o' : List ℕ) {bs : List ℕ} → before ≡ read d error_register →
    d' ≡ store error_code code d → d'' ≡ store error_register (bit_or before (bit_or register generic_error)) d' →
    (k ≡ length (emergency_of code s.node d'')) × (o' ≡ sent_into o (emergency_of code s.node d'')) →
    Holds bs (keeping s (faulted code register s d).state) →
    Leaves s (faulted code register s d) d o (record { frames = k; touched = true; remapped = false; occasion = Plain; quiet = false }) bs d'' o'
unfolding faulted stored emergency emergency_of
leaves code register before k s d o d' d'' o' was coded gained h held =
    let written : d'' ≡ stored (faulted code register s d).writes d = rw (← was, ← coded) gained in
    record {
      state = held;
      frames = rw (append-nil, ← written) h.0;
      touched = refl;
      remapped = refl;
      occasion = refl;
      dictionary = written;
      output = rw (append-nil, ← written) h.1;
    }

pub emergency-frames-requires : goal.emergency-frames-requires
emergency-frames-requires c =
    let p = c.requires in
    rw c.read_node-node.ensures (
      omega (arith, c.set_error_register.auto, c.set_error_code.auto, p.long),
      (p.room, p.id),
    )

pub returns : goal.returns
unfolding faulted
returns c =
    let a = c.args in
    let moved = rw (c.enters.ensures, c.reaction_from.ensures, c.read_drive-drive.ensures) at
    c.with_cause.ensures in
    let held = rw moved at (c.put_drive.ensures _ c.requires.own) in
    let sent = rw c.read_node-node.ensures at c.emergency-frames.ensures in
    rw c.nothing_done.ensures (
      leaves a.code a.register _ _ _ _ _ _ _ _ c.error_register-before.ensures c.set_error_code.ensures
          c.set_error_register.ensures sent held,
      loud _ _ _ refl,
    )

pub put_drive-requires : goal.put_drive-requires
put_drive-requires c = c.requires.whole

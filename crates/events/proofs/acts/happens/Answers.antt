-- `events::acts::happens` meets its contract. Assumes nothing.
use Rattle.std.proofs.Common.{refl, inl, inr}
use Rattle.rules_dictionary.specs.Values.{stored}
use Rattle.rules_services.specs.Events.{happens}
use Rattle.rules.specs.Outcome.{sent_into}
use Rattle.output.proofs.Left.{loud}
use Rattle.nmt.proofs.Commanding.{restated}
use Rattle.events.proofs.acts.happens.Goals as goal

pub returns-in-Started : goal.returns-in-Started
unfolding happens
returns-in-Started c =
    let m = c.moved.ensures in
    let held = rw (c.enters.ensures, c.read_drive-drive.ensures) at (m.1 _ c.requires.own) in
    elim c.in-Started.is [
      | inl started ↦ rw (m.0, started) (restated _ _ _ _ held)
      | inr stopped ↦ rw (m.0, stopped) (restated _ _ _ _ held)
    ]

pub returns-in-Fault : goal.returns-in-Fault
unfolding happens
returns-in-Fault c =
    rw c.in-Fault.is c.faulted.ensures

pub returns-in-ReactionDone : goal.returns-in-ReactionDone
unfolding happens
returns-in-ReactionDone c =
    let m = c.moved-in-ReactionDone.ensures in
    let held = rw (c.enters-in-ReactionDone.ensures, c.read_drive-drive-in-ReactionDone.ensures) at (m.1 _ c.requires.own) in
    rw (m.0, c.in-ReactionDone.is) (restated _ _ _ _ held)

pub returns-in-Feedback : goal.returns-in-Feedback
unfolding happens stored sent_into
returns-in-Feedback c =
    let f = c.fed_back.ensures in
    rw (f.done, c.in-Feedback.is) (
      record {
        state = c.requires.own;
        frames = refl;
        touched = refl;
        remapped = refl;
        occasion = refl;
        dictionary = f.dictionary;
        output = refl;
      },
      loud _ _ _ refl,
    )

pub returns-in-SetPointReached : goal.returns-in-SetPointReached
unfolding happens
returns-in-SetPointReached c =
    let m = c.moved-in-SetPointReached.ensures in
    let held = rw (c.moved_on.ensures, c.read_drive-drive-in-SetPointReached.ensures) at (m.1 _ c.requires.own) in
    rw (m.0, c.in-SetPointReached.is) (restated _ _ _ _ held)

pub returns-in-Tick : goal.returns-in-Tick
unfolding happens
returns-in-Tick c =
    rw c.in-Tick.is c.tick.ensures

pub returns-in-CauseGone : goal.returns-in-CauseGone
unfolding happens
returns-in-CauseGone c =
    let m = c.moved-in-CauseGone.ensures in
    let held = rw (c.with_cause.ensures, c.read_drive-drive-in-CauseGone.ensures) at (m.1 _ c.requires.own) in
    rw (m.0, c.in-CauseGone.is) (restated _ _ _ _ held)

pub returns-in-Voltage : goal.returns-in-Voltage
unfolding happens
returns-in-Voltage c =
    let held = rw c.read_node-node.ensures at (c.put_node.ensures _ c.requires.own) in
    rw (c.nothing_done.ensures, c.in-Voltage.is) (restated _ _ _ _ held)

-- `calls::power_up_in` meets its contract. Assumes nothing.
use Prim.Native.Nat.{ℕ, ◌≤◌}
use native.Mathlib.Omega.{arith}
use mathlib.Core.Path.{refl, ◌≡◌, ◌∙◌, ap}
use mathlib.Core.Bool.{true, false}
use mathlib.Core.List.{List}
use lib.ListN.{length}
use Rattle.std.specs.Prelude.{is_err}
use Rattle.rules_dictionary.specs.TheNode.{first_node, last_node, is_node_id}
use Rattle.rules_dictionary.specs.Table.{dictionary_length}
use Rattle.rules_services.specs.Nmt.{power_up}
use Rattle.state.specs.declared.Refusal.TheVariants.{NodeId}
use Rattle.state.specs.declared.State.{State}
use Rattle.rules.specs.Calls.{power_up_call, does, answered, output_length}
use Rattle.form.proofs.Holding.{held_state}
use Rattle.calls.specs.Opening.{lending, powering}
use Rattle.calls.proofs.Refusals.{lengths, passes_both, decides, node_between, a_node}
use Rattle.calls.proofs.Anew.{all_written, gives_plans, starts_anew}
use Rattle.calls.proofs.power_up_in.Goals as goal

-- what nothing refuses: the lengths and the node-ID
record Clear (n : ℕ) (d o : List ℕ) : Type 0 where
  lent : is_err (lending d o) ≡ false
  node : is_node_id n ≡ true
  long : length d ≡ dictionary_length
  room : output_length ≤ length o
  first : first_node ≤ n
  last : n ≤ last_node

clear : (n : ℕ) (d o : List ℕ) → is_err (powering n d o) ≡ false → Clear n d o
clear n d o h =
    let p = passes_both d o (is_node_id n) NodeId h in
    let l = lengths d o p.0 in
    let b = node_between n p.1 in
    record { lent = p.0; node = p.1; long = l.0; room = l.1; first = b.0; last = b.1 }

pub overflow_cast-id : goal.overflow_cast-id
overflow_cast-id c = omega (arith, (clear c.args.n c.args.d.now c.args.output.now c.requires.1).last)

pub start-done-requires : goal.start-done-requires
start-done-requires c =
    let k = clear c.args.n c.args.d.now c.args.output.now c.requires.1 in
    record { long = k.long; room = omega (arith, k.room); first = k.first; last = k.last }

pub settle-requires : goal.settle-requires
settle-requires c =
    let k = clear c.args.n c.args.d.now c.args.output.now c.requires.1 in
    omega (arith, c.start-done.auto, k.long)

pub all_plans-requires : goal.all_plans-requires
all_plans-requires c =
    let n = c.args.n in
    let k = clear n c.args.d.now c.args.output.now c.requires.1 in
    let made = rw (c.fresh_node-node.ensures, c.fresh_drive-drive.ensures n) at c.settle.ensures.0 in
    gives_plans n k.first k.last k.long c.start-done.ensures made

pub renew_all-requires : goal.renew_all-requires
renew_all-requires c =
    let a = c.args in
    let n = a.n in
    let k = clear n a.d.now a.output.now c.requires.1 in
    let made = rw (c.fresh_node-node.ensures, c.fresh_drive-drive.ensures n) at c.settle.ensures.0 in
    let held = all_written a.state.now _ _ _ _ _ _ _ c.requires.0 c.write_plans.ensures
    (c.write_head.ensures.bytes_after, c.write_head.ensures.head_typed) in (
      rw (held_state held) held,
      (
        gives_plans n k.first k.last k.long c.start-done.ensures made,
        ap (λ (t : State). t.axis.plans) (held_state held) ∙ c.all_plans.ensures,
      ),
    )

pub overflow_cast-done : goal.overflow_cast-done
unfolding power_up
overflow_cast-done c =
    let one : c.start-done.result.frames ≡ 1 = c.start-done.ensures.frames in omega (arith, one)

pub returns : goal.returns
unfolding answered
returns c =
    let a = c.args in
    let n = a.n in
    let k = clear n a.d.now a.output.now c.requires.1 in
    let node = c.fresh_node-node.ensures in
    let drive = c.fresh_drive-drive.ensures n in
    let made = rw (node, drive) at c.settle.ensures.0 in
    let held = all_written a.state.now _ _ _ _ _ _ _ c.requires.0 c.write_plans.ensures
    (c.write_head.ensures.bytes_after, c.write_head.ensures.head_typed) in
    let worked = rw (held_state held) at c.renew_all.ensures.holds in
    let fresh = rw (c.all_plans.ensures, node, drive) at worked in
    λ x. rw (
      c.accepted.ensures,
      decides (power_up_call n) x a.d.now a.output.now refl k.lent (does (power_up n)) (a_node n x a.d.now
          k.node),
    )
    (starts_anew n k.first k.last k.long c.start-done.ensures made x fresh)

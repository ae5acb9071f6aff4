-- THE LAWS FOR CALLERS: where the services of PDO traffic may be called, and what `sync` is of the rules.
-- Assumes nothing.
use Prim.Native.Nat.{ℕ, ◌≤◌}
use mathlib.Core.Path.{◌≡◌, refl}
use mathlib.Core.List.{List, []}
use borrow.Author.Tests.{leb-true}
use lib.Dec.{leb}
use lib.ListN.{length, get_or}
use Rattle.state.specs.declared.State.{State}
use Rattle.rules_dictionary.specs.TheNode.{first_node, last_node}
use Rattle.rules_dictionary.specs.Plans.{mapped, plan_for, plans_of}
use Rattle.rules_dictionary.proofs.Tests.{and_right, each_in}
use Rattle.rules_services.specs.PdoTraffic.{sync}
use Rattle.rules.specs.Calls.{output_length}
use Rattle.theorems.proofs.Lawful.{Lawful}
use Rattle.form.specs.Form.{state_of}
use Rattle.form.specs.Holding.{Holds}
use Rattle.mapping.proofs.Unpacked.{legal_receives}
use Rattle.output.proofs.Left.{lent}
use Rattle.rpdo.specs.Kept.{Kept}
use Rattle.rpdo.specs.Traffic.{sync_of}

-- a SYNC is served by the length of its data
pub sync_by_length : (bs : List ℕ) (s : State) (d : List ℕ) → sync bs s d ≡ sync_of (length bs) s d
unfolding sync sync_of
sync_by_length bs s d = refl

-- what the bytes of a lawful state with fresh plans keep for PDO traffic
pub lawful_kept : {state d o : List ℕ} → Holds state (state_of state) → Lawful (state_of state) d → (state_of state).axis.plans ≡ plans_of d →
    output_length ≤ length o → Kept state d o
unfolding plans_of
lawful_kept {state} {d} own law fresh room =
    let n = (state_of state).node.id in
    record {
      lent = lent own law.long room (leb-true n last_node (and_right (leb first_node n) (leb n last_node) law.id));
      plans = λ p i.
          rw (
            fresh,
            each_in (λ q. get_or (plans_of d) q (record { count = 0; moves = [] }) ≡ plan_for (mapped d q)) i (refl, (refl, (refl, (refl, tt)))),
          )
          (legal_receives law.dictionary i);
    }

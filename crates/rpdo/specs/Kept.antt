-- What the services of PDO traffic may rely on: the state's bytes, the dictionary and the output as every service is lent them, and fresh plans
-- of the receive PDOs in the state's bytes. Callable.antt of proofs/ has it from a lawful state.
-- Assumes nothing.
use Rattle.std.specs.Prelude.{ℕ, ◌<◌, List}
use Rattle.rules_dictionary.specs.Table.{each_way, receive_pdos}
use Rattle.rules_dictionary.specs.Plans.{mapped}
use Rattle.rules_dictionary.specs.Members.{In}
use Rattle.rules.specs.Calls.{output_length}
use Rattle.form.specs.Form.{plan_in}
use Rattle.mapping.specs.Received.{Receives}
use Rattle.output.specs.Leaves.{Lent}

pub record Kept (state d o : List ℕ) : Type 0 where
  pub lent : Lent output_length state d o
  pub plans : (p : ℕ) → In p receive_pdos → Receives (plan_in state p) (mapped d p)

-- the same for one receive PDO, by the room that it needs
pub record Serves (needed p : ℕ) (state d o : List ℕ) : Type 0 where
  pub lent : Lent needed state d o
  pub number : p < each_way
  pub receives : Receives (plan_in state p) (mapped d p)

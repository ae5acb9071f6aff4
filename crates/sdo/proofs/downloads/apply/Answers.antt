-- The reply, then the value stored, then acted on in the output behind the reply. Assumes nothing.
use Rattle.std.proofs.Common.{eqb, arith, length-drop, length-take, rules}
use Rattle.rules_dictionary.specs.Table.{place_of, heartbeat_time, open_table}
use Rattle.sdo.proofs.Downloading.{prepared_lent, acts_fit, apply_left}
use Rattle.sdo.proofs.downloads.apply.Goals as goal

pub acted-done-requires : goal.acted-done-requires
acted-done-requires c =
    prepared_lent (eqb c.args.e.place (place_of heartbeat_time)) c.requires.0 c.prepare.ensures (search rules)
    (simp (length-take, length-drop) (omega arith))

pub returns : goal.returns
unfolding open_table
returns c =
    let a = c.args in
    λ _ _ st. apply_left a.reply a.state.now a.d.now a.output.now st a.v c.requires.1.1 c.is_mapping.ensures
    c.write.ensures (rw c.read_node-node.ensures at c.say.ensures) c.control_word-old.ensures c.requires.0.own c.prepare.ensures
    c.acted-done.ensures.0

pub overflow_add-done : goal.overflow_add-done
overflow_add-done c = record { fits = acts_fit _ _ _ _ _ _ c.acted-done.ensures.0.frames }

-- `drive::status::status` meets its contract. Assumes nothing.
use Rattle.std.proofs.Common.{arith}
use Rattle.drive.proofs.Shown.{shown_most, state_word_most, enabled_most}
use Rattle.drive.proofs.status.status.Goals as goal

pub overflow_add-result : goal.overflow_add-result
overflow_add-result c =
    let a = c.args in
    omega (
      arith,
      state_word_most a.v.state,
      shown_most 0x10 a.voltage,
      shown_most 0x200 a.remote,
      enabled_most a.remote a.voltage a.v a.d.now,
    )

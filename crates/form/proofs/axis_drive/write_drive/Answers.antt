use Rattle.std.proofs.Common.{◌<◌, rules}
use Rattle.rules_dictionary.specs.Numbers.{bytes}
use Rattle.form.specs.Form.{drive_form, half}
use Rattle.form.proofs.axis_drive.write_drive.Goals as goal

pub returns : goal.returns
unfolding drive_form bytes
returns c =
    let s = c.write_store.ensures in
    -- the count is a number of 16 bits
    let few : c.args.v.stay < half = search rules in
    let whole = rw c.write2.ensures at s.0 in
    let flags = rw (c.flag_number-3.ensures, c.flag_number-2.ensures, c.flag_number.ensures) at whole in
    (rw (c.number.ensures, c.state_number.ensures) at flags, (few, s.1))

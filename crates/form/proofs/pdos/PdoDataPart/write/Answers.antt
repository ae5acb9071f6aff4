use Rattle.std.proofs.Common.{◌≡◌, length, rules}
use Rattle.rules.specs.Outcome.{most_data}
use Rattle.form.proofs.Rows.{frame_written}
use Rattle.form.proofs.pdos.PdoDataPart.write.Goals as goal

pub returns : goal.returns
returns c =
    let a = c.args in
    let few : length a.self.bytes ≡ most_data = search rules in
    (frame_written a.bytes.now _ a.place a.self c.copy_from_slice.ensures.after few c.requires, record { size = few })

-- The value of the row, read where it stands. Assumes nothing.
use Rattle.rules_services.specs.Sdo.{reply}
use Rattle.rules_services.specs.SdoServer.{uploads}
use Rattle.dictionary.specs.Lines.{entry_in}
use Rattle.dictionary.specs.Entries.{entry_at}
use Rattle.sdo.proofs.Answering.{uploaded_by_lem}
use Rattle.sdo.proofs.uploads.upload_row.Goals as goal

pub read-v-requires : goal.read-v-requires
unfolding entry_in
read-v-requires c =
    let st = c.requires.1 in
    (rw (c.size-size.ensures, c.requires.0.long) st.within, rw c.size-size.ensures st.sized)

pub returns : goal.returns
unfolding uploads reply entry_in
returns c =
    let st = c.requires.1 in
    let d = c.args.d.now in
    rw (
      st.finds,
      ← uploaded_by_lem (entry_at c.args.row) st.row st.is_entry,
      ← c.size-size.ensures,
      ← c.uploaded.ensures,
      ← st.reads d,
      ← c.size-size.ensures,
      ← c.read-v.ensures,
    ) (rw c.reply_to.ensures at (c.answer.ensures d))

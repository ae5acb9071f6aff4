-- By the room of the line, and by rank. Assumes nothing.
use mathlib.Core.Path.{◌≡◌, ◌∙◌, ap, ap₂}
use native.Mathlib.Omega.{arith}
use Rattle.rules_dictionary.specs.Table.{table, entries, row_at, place_of, device_type}
use Rattle.rules_dictionary.proofs.Tests.{get_or_in}
use Rattle.dictionary.specs.Lines.{room_of, place_in}
use Rattle.dictionary.proofs.Lines.{place_of_rank}
use Rattle.dictionary.proofs.Regular.{small}
use Rattle.dictionary.proofs.table.place_at.Goals as goal

pub returns : goal.returns
unfolding entries
returns c =
    let lines = c.args.rows.now in
    let n = c.args.rank in
    let at : c.place_in.result ≡ place_of (row_at n) =
    c.place_in.ensures ∙ ap₂ (λ r s. place_in lines r n s) (c.room_of.ensures.0 ∙ ap room_of c.index_in.ensures) c.subindex_in.ensures
    ∙ place_of_rank lines n c.requires.0 c.requires.1 in
    (at, omega (arith, at, small (get_or_in table n device_type c.requires.1)))

-- `mapping::words::move_of` meets its contract. Assumes nothing.
use mathlib.Core.Path.{ap, ◌∙◌}
use Rattle.form.specs.Form.{move_of}
use Rattle.mapping.specs.Words.{way_of}
use Rattle.mapping.proofs.Keeping.{kept}
use Rattle.mapping.proofs.words.move_of.Goals as goal

pub returns : goal.returns
returns c =
    let a = c.args in
    rw (c.place_of.ensures, c.size_of.ensures) (ap move_of c.kept_word-named.ensures ∙ (kept (way_of a.transmit) a.word).moves)

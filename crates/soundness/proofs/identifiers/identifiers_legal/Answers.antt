-- `soundness::identifiers::identifiers_legal` meets its contract. Assumes nothing.
use native.Mathlib.Omega.{arith}
use Rattle.mapping.proofs.Assembly.{are_bytes_lem}
use Rattle.soundness.specs.Keys.{key_in}
use Rattle.soundness.proofs.KeysLegal.{by_keys}
use Rattle.soundness.proofs.identifiers.identifiers_legal.Goals as goal

pub returns : goal.returns
unfolding key_in
returns c =
    let d = c.args.d.now in
    rw (c.are_legal.ensures, c.differ.ensures, c.differ-2.ensures, c.apart.ensures)
    (by_keys d c.requires (are_bytes_lem d (λ i h. omega (arith, c.shared_slice_known-1.given i))) c.keys_of-r.ensures
    c.keys_of-t.ensures)

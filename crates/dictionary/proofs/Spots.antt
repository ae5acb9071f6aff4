-- What a look-up found.
-- Assumes nothing.
use Prim.Native.Nat.{ℕ}
use mathlib.Core.Path.{◌≡◌, refl}
use Rattle.rules_dictionary.specs.Members.{In}
use Rattle.rules_dictionary.specs.Table.{table, Found, found, the_name, no_object, no_subindex, lookup, Row as TableRow}
use Rattle.rules_dictionary.specs.Values.{read, store}
use Rattle.rules_dictionary.proofs.Packing.{within}
use Rattle.rules_dictionary.proofs.LookUp.{found_in}
use Rattle.dictionary.specs.Entries.{entry_of, Stands, IsFound, found_as}
use Rattle.dictionary.proofs.Bytes.{is_size}
use Rattle.dictionary.proofs.Lines.{entry_of_lem}

stands : (i s : ℕ) (x : TableRow) → lookup i s ≡ found x → Stands i s (entry_of x)
unfolding read store
stands i s x q =
    let l : In x table = found_in i s q in
    record {
      row = x;
      finds = q;
      listed = l;
      is_entry = refl;
      within = within l;
      sized = is_size x.type;
      reads = λ d. refl;
      writes = λ v d. refl;
    }

-- what is found stands there, or is missing
pub tells : (i s : ℕ) (f : Found) → lookup i s ≡ f → IsFound i s (found_as f)
tells i s (found x) q = rw (entry_of_lem (found_in i s q)) (stands i s x q)
tells i s the_name q = q
tells i s no_object q = q
tells i s no_subindex q = q

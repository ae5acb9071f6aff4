-- `cendurak::cendurak_load` meets its contract. Assumes nothing.
use Prim.Native.Nat.{ℕ}
use native.Mathlib.Omega.{arith}
use mathlib.Core.Path.{sym, ◌∙◌, ap}
use Rattle.form.proofs.OneForm.{form_state_of}
use Rattle.form.proofs.Holding.{holds_own}
use Rattle.calls.proofs.Refusals.{passes_so, loadable_in}
use Rattle.cendurak.specs.Boundary.{load_left}
use Rattle.cendurak.proofs.Ways.{load_not_opened, load_made, a_form}
use Rattle.cendurak.proofs.cendurak_load.Goals as goal

pub returns-in-Err : goal.returns-in-Err
returns-in-Err c =
    let a = c.args in
    let e = c.in-Err.ensures in
    ap (λ (k : ℕ). load_left k a.state.now a.dict.now) c.load_refused.ensures
    ∙ load_not_opened a.file.now a.state.now a.dict.now e

pub load_in-requires : goal.load_in-requires
load_in-requires c =
    let a = c.args in
    let k = loadable_in a.state.now a.dict.now
    (passes_so (sym c.in_default.is ∙ c.loadable.ensures)) in
    record {
      own = holds_own a.state.now (λ i. omega (arith, c.slice_known-1.given i)) k.1.0;
      whole = k.0;
      long = k.1.1.0;
      sound = k.1.1.1;
    }

pub returns : goal.returns
returns c =
    let a = c.args in
    let k = loadable_in a.state.now a.dict.now
    (passes_so (sym c.in_default.is ∙ c.loadable.ensures)) in
    load_made a.file.now a.state.now a.dict.now (a_form a.state.now k.0 k.1.0) (form_state_of a.state.now k.1.0) _ _ _ _
    c.load_in.ensures c.load_told.ensures

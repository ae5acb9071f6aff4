-- `calls::load_in` meets its contract. Assumes nothing.
use native.Mathlib.Omega.{arith}
use mathlib.Core.Path.{◌≡◌, refl, sym, ◌∙◌}
use mathlib.Core.Bool.{true}
use Prim.Native.Nat.{ℕ}
use mathlib.Core.List.{List}
use lib.ListN.{replicate}
use borrow.Author.Tests.{leb-true}
use Rattle.rules.specs.Calls.{output_length}
use Rattle.rules_dictionary.specs.Numbers.{are_bytes}
use Rattle.mapping.proofs.Assembly.{are_bytes_lem}
use Rattle.calls.proofs.Loading.{load_lent, refused_load_lem, load_finishes, load_concludes}
use Rattle.calls.proofs.load_in.Goals as goal

pub load-loading-requires : goal.load-loading-requires
load-loading-requires c = load_lent c.requires

pub returns-then-not-is_accepted : goal.returns-then-not-is_accepted
returns-then-not-is_accepted c =
    let a = c.args in
    refused_load_lem a.file.now a.state.now a.d.now c.requires _ _ _ c.load-loading.ensures refl
    (sym c.is_accepted.ensures ∙ c.if-not-is_accepted.true)

-- the output that the call's end asks for
abbrev zeros : List ℕ
zeros = replicate output_length 0

pub finish-requires : goal.finish-requires
finish-requires c =
    let a = c.args in
    let octets : are_bytes a.file.now ≡ true = are_bytes_lem a.file.now (λ i l. omega (arith, c.shared_slice_known-1.given i)) in
    let b : are_bytes a.d.now ≡ true = are_bytes_lem a.d.now (λ i l. omega (arith, c.slice_known-2-1.given i)) in
    load_finishes a.file.now a.state.now a.d.now c.requires _ _ _ c.load-loading.ensures octets b
    (sym c.is_accepted.ensures ∙ c.if-not-is_accepted.false) zeros (leb-true output_length _ refl)

pub returns : goal.returns
returns c =
    let a = c.args in
    let octets : are_bytes a.file.now ≡ true = are_bytes_lem a.file.now (λ i l. omega (arith, c.shared_slice_known-1.given i)) in
    let b : are_bytes a.d.now ≡ true = are_bytes_lem a.d.now (λ i l. omega (arith, c.slice_known-2-1.given i)) in
    load_concludes a.file.now a.state.now a.d.now c.requires _ _ _ c.load-loading.ensures octets b
    (sym c.is_accepted.ensures ∙ c.if-not-is_accepted.false) zeros (leb-true output_length _ refl) refl c.finish.ensures

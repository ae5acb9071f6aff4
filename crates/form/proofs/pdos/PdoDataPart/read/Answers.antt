use Rattle.std.proofs.Common.{◌≡◌, ℕ, ◌+◌, ◌*◌, get_or, refl, arith, rules}
use Rattle.form.proofs.Rows.{read_all}
use Rattle.form.proofs.pdos.PdoDataPart.read.Goals as goal

pub returns : goal.returns
returns c =
    let a = c.args in
    let bs = a.bytes.now in
    let first = a.place + 1 in
    let next : (i : ℕ) → first + 1 * i ≡ first + i = λ i. omega arith in
    rw (read_all _ (λ p. (p.0.now ≡ bs) × (p.1.now ≡ first)) (λ i. get_or bs i 0) first 1
    (λ i p q y k e. rw (next i) (search rules)) (refl, refl) c.from_fn.ensures.items)

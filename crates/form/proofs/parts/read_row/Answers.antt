use Rattle.std.proofs.Common.{◌≡◌, refl, rules}
use Rattle.form.proofs.Rows.{read_all}
use Rattle.form.proofs.parts.read_row.Goals as goal

pub returns : goal.returns
returns g c =
    let t = g.T.Part in
    let a = c.args in
    read_all _ (λ p. (p.0.now ≡ a.bytes.now) × (p.1.now ≡ a.place)) (λ i. t.at i a.bytes.now) a.place t.LENGTH
    (λ i p q y k e. search rules) (refl, refl) c.from_fn.ensures.items

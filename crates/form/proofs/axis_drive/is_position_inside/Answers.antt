-- `form::axis_drive::is_position_inside` meets its contract. Assumes nothing.
use Rattle.std.proofs.Common.{ℕ, ◌+◌, ◌≡◌, refl, ◌∙◌, ap, Bool, true, false, cond, List, ne_eqb, eqb, get_or}
use Rattle.drive.specs.declared.SetPoint.{SetPoint}
use Rattle.drive.specs.declared.Store.TheVariants.{Rested, Moving, Queued}
use Rattle.drive.specs.Window.{near, inside}
use Rattle.form.specs.Form.{state_of, drive_at, store_at, set_point_at, store_place, set_point_length}
use Rattle.form.proofs.axis_drive.is_position_inside.Goals as goal

-- the first target is the one that counts, whatever is held
first-near : (a b : SetPoint) (d : List ℕ) (p q : Bool) → near a.target d ≡ inside (cond p (Rested a.target) (cond q (Moving a) (Queued a b))) d
unfolding inside
first-near a b d true q = refl
first-near a b d false true = refl
first-near a b d false false = refl

pub returns-else-bytes-ne0 : goal.returns-else-bytes-ne0
unfolding state_of drive_at store_at inside
returns-else-bytes-ne0 c = rw c.if-bytes-ne0.false

pub returns-then-bytes-ne0 : goal.returns-then-bytes-ne0
unfolding state_of drive_at store_at set_point_at
returns-then-bytes-ne0 c =
    let a = c.args in
    let bs = a.bytes.now in
    rw (ne_eqb _ _ c.if-bytes-ne0.true)
    (c.is_near.ensures ∙ ap (λ (w : ℕ). near w a.d.now) c.read4.ensures
    ∙ first-near (set_point_at (store_place + 1) bs) (set_point_at (store_place + 1 + set_point_length) bs) a.d.now
    (eqb (get_or bs store_place 0) 1) (eqb (get_or bs store_place 0) 2))

-- How long the form of each part of a fixed length is: the laws of the parts.
-- Assumes nothing.
use Rattle.std.specs.Prelude.{ℕ, suc, ◌*◌, ◌≡◌, List, length, refl}
use Rattle.std.proofs.Common.{arith, ap, length-append}
use Rattle.rules_dictionary.specs.declared.Move.{Move}
use Rattle.rules_dictionary.specs.declared.Plan.{Plan}
use Rattle.rules_dictionary.specs.declared.PdoData.{PdoData}
use Rattle.rules_dictionary.specs.Numbers.{bytes}
use Rattle.state.specs.declared.Pace.{Pace}
use Rattle.form.specs.Form.{joined, data_form, data_length, pace_form, pace_length, move_form, move_length, plan_form, plan_length}
use Rattle.form.specs.Typed.{Many, none, more, AnyPace, DataTyped, MoveTyped, PlanTyped}

-- the length of a row
pub length_row : {A : Type 0} (f : A → List ℕ) {P : A → Type 0} (width : ℕ) → ((x : A) → P x → length (f x) ≡ width) →
    {n : ℕ} {xs : List A} → Many P n xs → length (joined f xs) ≡ n * width
length_row f width h none = omega arith
length_row f width h (more {x} p m) =
    let l = h x p in
    let r = length_row f width h m in
    rw length-append (omega arith)

pub length_data : (r : PdoData) → DataTyped r → length (data_form r) ≡ data_length
unfolding data_form
length_data r t = ap suc t.size

pub length_pace : (p : Pace) → AnyPace p → length (pace_form p) ≡ pace_length
unfolding pace_form
length_pace p t = refl

pub length_move : (m : Move) → MoveTyped m → length (move_form m) ≡ move_length
unfolding move_form bytes
length_move m t = refl

pub length_plan : (p : Plan) → PlanTyped p → length (plan_form p) ≡ plan_length
unfolding plan_form
length_plan p t = ap suc (length_row move_form move_length length_move t.moves)

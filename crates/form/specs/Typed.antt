-- What the types say of a state: how long its arrays are, and that its numbers fit. A state's form is read back where this holds.
-- Assumes nothing.
use Rattle.std.specs.Prelude.{ℕ, suc, ◌*◌, ◌^◌, ◌<◌, ◌≡◌, List, [], ◌∷◌, length}
use Rattle.rules_dictionary.specs.declared.Move.{Move}
use Rattle.rules_dictionary.specs.declared.Plan.{Plan}
use Rattle.rules_dictionary.specs.declared.PdoData.{PdoData}
use Rattle.drive.specs.declared.SetPoint.{SetPoint}
use Rattle.drive.specs.declared.Store.{Store}
use Rattle.state.specs.declared.Pace.{Pace}
use Rattle.state.specs.declared.State.{State}
use Rattle.rules_dictionary.specs.Table.{each_way, most_moves}
use Rattle.rules.specs.Outcome.{most_data}
use Rattle.form.specs.Form.{half, first_set_point, second_of}

-- so many, and a fact of each
pub data Many {A : Type 0} (P : A → Type 0) : ℕ → List A → Type 0 where
  none : Many P 0 []
  more : {x : A} {n : ℕ} {xs : List A} → P x → Many P n xs → Many P (suc n) (x ∷ xs)

pub record SetPointTyped (p : SetPoint) : Type 0 where
  pub target : p.target < 2 ^ 32
  pub velocity : p.velocity < 2 ^ 32
  pub acceleration : p.acceleration < 2 ^ 32
  pub deceleration : p.deceleration < 2 ^ 32

pub record StoreTyped (s : Store) : Type 0 where
  pub first : SetPointTyped (first_set_point s)
  pub second : SetPointTyped (second_of s)

pub record DataTyped (r : PdoData) : Type 0 where
  pub size : length r.bytes ≡ most_data

-- of what is kept of a transmit PDO nothing is asked
abbrev pub AnyPace : Pace → Type 0
AnyPace p = Unit {0}

pub record MoveTyped (m : Move) : Type 0 where
  pub place : m.place < half
  pub size : m.size < 256

pub record PlanTyped (p : Plan) : Type 0 where
  pub moves : Many MoveTyped most_moves p.moves

-- all but the plans
pub record HeadTyped (s : State) : Type 0 where
  pub heartbeat : s.node.heartbeat < half
  pub stay : s.axis.drive.stay < half
  pub store : StoreTyped s.axis.drive.store
  pub ready : Many DataTyped each_way s.axis.ready
  pub held : Many DataTyped each_way s.axis.held
  pub paces : Many AnyPace each_way s.axis.paces

pub record Typed (s : State) : Type 0 where
  pub head : HeadTyped s
  pub plans : Many PlanTyped (2 * each_way) s.axis.plans

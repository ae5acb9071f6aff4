-- Values taken by a drive at rest: 1017h and 6060h may as well be acted on once, when all are stored.
-- Assumes nothing.
use Rattle.std.proofs.Common.{◌≡◌, ℕ, Bool, true, false, ◌||◌, List, sym, refl, ap, ◌∙◌}
use Rattle.state.specs.declared.State.{State}
use Rattle.drive.specs.declared.DriveState.{DriveState}
use Rattle.drive.specs.declared.DriveState.TheVariants as states
use Rattle.drive.specs.declared.Drive.{Drive}
use Rattle.drive.specs.declared.Store.TheVariants.{Empty}
use Rattle.drive.specs.DriveStates.{is_at_rest, is_enabled}
use Rattle.drive.specs.SetPoints.{with_mode, with_store, with_marks, emptied, mode_of, mode_written}
use Rattle.rules_dictionary.specs.Table.{mode}
use Rattle.rules_dictionary.specs.Values.{read}
use Rattle.rules_services.specs.Effects.{with_drive}
use Rattle.emergency.specs.Acts.{mode_acts}
use Rattle.load.specs.Trying.{restarted_if, acted_on}

-- ---- 6060h

-- at rest is not enabled
disabled : (s : DriveState) → is_at_rest s ≡ true → is_enabled s ≡ false
disabled states.NotReady h = refl
disabled states.SwitchOnDisabled h = refl
disabled states.ReadyToSwitchOn h = refl
disabled states.SwitchedOn h = refl
disabled states.OperationEnabled h = cc
disabled states.QuickStopActive h = refl
disabled states.FaultReactionActive h = refl
disabled states.Fault h = refl

-- whatever the mode, the store is emptied
moded : ℕ → Drive → Drive
moded m v = with_marks false false (with_store Empty (with_mode (mode_of m) v))

mode_at_rest : (d : List ℕ) (v : Drive) → is_at_rest v.state ≡ true → mode_written d v ≡ moded (read d mode) v
unfolding mode_written emptied moded
mode_at_rest d v rest = rw (disabled v.state rest)

-- written twice is written the last time; not written again it stands as it stood
mode_acted_twice : (m m' : Bool) (d d' : List ℕ) (v : Drive) → is_at_rest v.state ≡ true → (m' ≡ false → read d' mode ≡ read d mode) →
    mode_acts m' (mode_acts m v d) d' ≡ mode_acts (m || m') v d'
unfolding moded
mode_acted_twice true true d d' v rest same = rw (mode_at_rest d v rest, mode_at_rest d' (moded (read d mode) v) rest, mode_at_rest d' v rest)
mode_acted_twice true false d d' v rest same = rw (mode_at_rest d v rest, mode_at_rest d' v rest, same refl)
mode_acted_twice false m' d d' v rest same = refl

mode_acted_state : (m : Bool) (d : List ℕ) (v : Drive) → is_at_rest v.state ≡ true → (mode_acts m v d).state ≡ v.state
unfolding moded
mode_acted_state true d v rest = rw (mode_at_rest d v rest)
mode_acted_state false d v rest = refl

-- ---- both

acted_parts : (h m : Bool) (d : List ℕ) (s : State) → acted_on h m d s ≡ with_drive (mode_acts m s.axis.drive d) (restarted_if h s)
acted_parts true true d s = refl
acted_parts true false d s = refl
acted_parts false true d s = refl
acted_parts false false d s = refl

restarted_twice : (h h' : Bool) (v w : Drive) (s : State) →
    with_drive w (restarted_if h' (with_drive v (restarted_if h s))) ≡ with_drive w (restarted_if (h || h') s)
restarted_twice true true v w s = refl
restarted_twice true false v w s = refl
restarted_twice false true v w s = refl
restarted_twice false false v w s = refl

module _ (h m : Bool) (d : List ℕ) (s : State) where
  pub acted_nmt : (acted_on h m d s).node.nmt ≡ s.node.nmt
  acted_nmt = ap (λ (t : State). t.node.nmt) (acted_parts h m d s) ∙ go h
    where
      go : (h : Bool) → (restarted_if h s).node.nmt ≡ s.node.nmt
      go true = refl
      go false = refl

  module _ (rest : is_at_rest s.axis.drive.state ≡ true) where
    pub acted_rests : is_at_rest (acted_on h m d s).axis.drive.state ≡ true
    acted_rests =
        ap (λ (t : State). is_at_rest t.axis.drive.state) (acted_parts h m d s)
        ∙ ap is_at_rest (mode_acted_state m d s.axis.drive rest) ∙ rest

    -- THE LAW: acted on and then again is acted on once
    pub acted_twice : (h' m' : Bool) (d' : List ℕ) → (m' ≡ false → read d' mode ≡ read d mode) →
        acted_on h' m' d' (acted_on h m d s) ≡ acted_on (h || h') (m || m') d' s
    acted_twice h' m' d' same =
        let v = mode_acts m s.axis.drive d in
        ap (acted_on h' m' d') (acted_parts h m d s) ∙ acted_parts h' m' d' (with_drive v (restarted_if h s))
        ∙ restarted_twice h h' v (mode_acts m' v d') s
        ∙ ap (λ (w : Drive). with_drive w (restarted_if (h || h') s)) (mode_acted_twice m m' d d' s.axis.drive rest same)
        ∙ sym (acted_parts (h || h') (m || m') d' s)

-- What a service leaves, under another name of its effect; and what is quiet.
-- Assumes nothing.
use Prim.Native.Nat.{ℕ, ◌≤◌}
use mathlib.Core.Path.{◌≡◌, refl, sym, subst}
use mathlib.Core.List.{List}
use mathlib.Core.Bool.{Bool, true, false, false≢true}
use lib.ListN.{length}
use Rattle.state.specs.declared.State.{State}
use Rattle.rules_dictionary.specs.TheNode.{last_node}
use Rattle.rules_dictionary.specs.Table.{dictionary_length}
use Rattle.rules_dictionary.specs.Values.{stored}
use Rattle.rules_services.specs.Effects.{Effect, Frame, becomes, sends}
use Rattle.rules.specs.Outcome.{sent_into}
use Rattle.form.specs.Holding.{Holds}
use Rattle.form.proofs.Holding.{held_state, held_length}
use Rattle.output.specs.declared.Done.{Done}
use Rattle.output.specs.Leaves.{Lent, keeping, Leaves, Calm, Rests, nothing_done}

-- bytes that hold a state of a legal node-ID, lent
pub lent : {room : ℕ} {bs d o : List ℕ} {s : State} → Holds bs s → length d ≡ dictionary_length → room ≤ length o → s.node.id ≤ last_node →
    Lent room bs d o
lent {bs = bs} {s = s} h long room id =
    let is = held_state h in
    record { own = subst (Holds bs) (sym is) h; whole = held_length h; long = long; room = room; id = rw is id }

-- the state and nothing else
pub left_as : {bs : List ℕ} (s t : State) (quiet : Bool) (d o : List ℕ) → Holds bs (keeping s t) →
    Leaves s (becomes t) d o (nothing_done quiet) bs d o
unfolding stored sent_into
left_as s t quiet d o h =
    record { state = h; frames = refl; touched = refl; remapped = refl; occasion = refl; dictionary = refl; output = refl }

-- another name for the effect
pub as_effect : {s : State} {e e' : Effect} {d o : List ℕ} {r : Done} {bs' d' o' : List ℕ} → e' ≡ e → Leaves s e d o r bs' d' o' →
    Leaves s e' d o r bs' d' o'
as_effect {s} {e} {e'} {d} {o} {r} {bs'} {d'} {o'} q h = subst (λ (x : Effect). Leaves s x d o r bs' d' o') (sym q) h

-- what is not quiet says nothing of rest; what is, and a service that only says something, is calm
pub loud : (s : State) (e : Effect) (r : Done) → r.quiet ≡ false → Rests false s e r
loud s e r n = record { told = n; calm = λ q. absurd (false≢true q) }

pub resting : (s : State) (e : Effect) (r : Done) → r.quiet ≡ true → Calm s e → Rests true s e r
resting s e r n c = record { told = n; calm = λ q. c }

pub calm_said : (s : State) (fs : List Frame) → Calm s (sends fs (becomes s))
calm_said s fs = record { writes = refl; occasion = refl; nmt = refl; voltage = refl; drive = refl }

-- a state that stays is left so
pub stays : {bs : List ℕ} (s : State) → Holds bs s → Holds bs (keeping s s)
stays s h = h

-- Laws of NMT: which frames are commands for this node, what changes nothing but the state, 01h, and the objects that are set back.
-- Assumes nothing.
use Prim.Native.Nat.{ℕ, ◌<◌}
use native.Mathlib.Omega.{arith}
use mathlib.Core.Path.{◌≡◌, refl, sym, ap}
use mathlib.Core.List.{List, [], ◌++◌, append-nil}
use mathlib.Core.Bool.{Bool, true, false, cond, ◌&&◌, ◌||◌}
use borrow.Author.Tests.{eqb-true}
use lib.Dec.{eqb}
use lib.ListN.{length, get_or}
use lib.Seq.{get_or-take}
use Rattle.state.specs.declared.NmtState.{NmtState}
use Rattle.state.specs.declared.NmtState.TheVariants.{PreOperational, Operational, Stopped}
use Rattle.state.specs.declared.Occasion.TheVariants.{Plain, Ticked}
use Rattle.state.specs.declared.State.{State}
use Rattle.state.specs.NmtStates.{is_operational}
use Rattle.rules_dictionary.specs.declared.PdoData.{PdoData}
use Rattle.rules_dictionary.specs.Numbers.{filter}
use Rattle.rules_dictionary.specs.Table.{table, is_reset}
use Rattle.rules_dictionary.specs.Values.{stored, to_defaults}
use Rattle.rules_services.specs.Effects.{Frame, Effect, becomes, sends, writes, on, with_nmt, with_heartbeat}
use Rattle.rules_services.specs.Nmt.{nmt, nmt_length, every_node, start, command_of, commanded, boot_up, fresh_state, power_up}
use Rattle.rules.specs.Outcome.{sent_into}
use Rattle.form.specs.Holding.{Holds}
use Rattle.output.specs.declared.Done.{Done}
use Rattle.output.specs.Laying.{IsData, data_of}
use Rattle.output.specs.Leaves.{touches, remaps, keeping, Leaves, Rests, nothing_done}
use Rattle.output.proofs.Frames.{length_data}
use Rattle.output.proofs.Left.{left_as, loud, resting}
use Rattle.nmt.specs.Commanding.{is_for_node, PowersUp, ticked}

-- ---- which frames are commands for this node

module _ (content : PdoData) (is : IsData content) (s : State) where
  -- by its length, its node and its command
  by : Bool → ℕ → ℕ → Effect
  by two node c = cond (two && (eqb node every_node || eqb node s.node.id)) (commanded (command_of c) s) (becomes s)

  pub by_data : nmt (data_of content) s ≡ cond (is_for_node content s.node.id) (commanded (command_of (get_or content.bytes 0 0)) s) (becomes s)
  unfolding nmt by
  by_data = rw (length_data content is) (go (eqb content.length nmt_length) refl)
    where
      go : (b : Bool) → eqb content.length nmt_length ≡ b →
          by b (get_or (data_of content) 1 0) (get_or (data_of content) 0 0) ≡ by b (get_or content.bytes 1 0) (get_or content.bytes 0 0)
      go true e =
          let second : 1 < content.length = omega (arith, eqb-true content.length nmt_length e) in
          let first : 0 < content.length = omega arith in
          simp get_or-take
      go false e = refl

-- ---- a service that changes nothing but the state

pub restated : {bs : List ℕ} (s t : State) (d o : List ℕ) → Holds bs (keeping s t) →
    Leaves s (becomes t) d o (nothing_done false) bs d o × Rests false s (becomes t) (nothing_done false)
restated s t d o h = (left_as s t false d o h, loud s (becomes t) (nothing_done false) refl)

-- a tick that counts, with nothing left to do
pub counted : {bs : List ℕ} (s : State) (count : ℕ) (fs : List Frame) (d o : List ℕ) → Holds bs (with_heartbeat count s) →
    Leaves s (on Ticked (sends fs (becomes (with_heartbeat count s)))) d o (ticked (length (fs ++ []))) bs d (sent_into o (fs ++ []))
    × Rests true s (on Ticked (sends fs (becomes (with_heartbeat count s)))) (ticked (length (fs ++ [])))
unfolding stored
counted s count fs d o h = (
  record { state = h; frames = refl; touched = refl; remapped = refl; occasion = refl; dictionary = refl; output = refl },
  resting s _ _ refl (record { writes = refl; occasion = refl; nmt = refl; voltage = refl; drive = refl }),
)

-- ---- 01h: in Operational already, nothing changes

pub operational : (s : State) → commanded start s ≡ becomes (with_nmt Operational s)
unfolding commanded
operational s = go s.node.nmt refl
  where
    go : (m : NmtState) → s.node.nmt ≡ m → cond (is_operational m) (becomes s) (becomes (with_nmt Operational s)) ≡ becomes (with_nmt Operational s)
    go PreOperational e = refl
    go Operational e = ap (λ (m : NmtState). becomes (with_nmt m s)) e
    go Stopped e = refl

-- ---- 81h, 82h and power-up

-- none of them may be mapped to transmit, and mappings are among them
reset_writes : (n : ℕ) → (touches (to_defaults n (filter is_reset table)) ≡ false) × (remaps (to_defaults n (filter is_reset table)) ≡ true)
unfolding table is_reset
reset_writes n = (refl, refl)

-- of all objects there are some of both
all_writes : (n : ℕ) → (touches (to_defaults n table) ≡ true) × (remaps (to_defaults n table) ≡ true)
unfolding table
all_writes n = (refl, refl)

-- THE LAWS: objects set back on node n, and its boot-up
pub set_back : {bs : List ℕ} (n : ℕ) (s t : State) (d o d' o' : List ℕ) → Holds bs (keeping s t) →
    d' ≡ stored (to_defaults n (filter is_reset table)) d → o' ≡ sent_into o (boot_up n) →
    Leaves s (writes (to_defaults n (filter is_reset table)) (sends (boot_up n) (becomes t))) d o
    (record { frames = 1; touched = false; remapped = true; occasion = Plain; quiet = false }) bs d' o'
set_back n s t d o d' o' h w b =
    let writes = reset_writes n in
    rw (append-nil (to_defaults n (filter is_reset table)))
    (record { state = h; frames = refl; touched = sym writes.0; remapped = sym writes.1; occasion = refl; dictionary = w; output = b })

pub starts : (n : ℕ) (d o d' o' : List ℕ) → d' ≡ stored (to_defaults n table) d → o' ≡ sent_into o (boot_up n) →
    PowersUp n d o (record { frames = 1; touched = true; remapped = true; occasion = Plain; quiet = false }) d' o'
unfolding power_up
starts n d o d' o' w b =
    let all = append-nil (to_defaults n table) in
    let writes = all_writes n in
    record {
      frames = refl;
      touched = rw all (sym writes.0);
      remapped = rw all (sym writes.1);
      occasion = refl;
      dictionary = rw all w;
      output = b;
      loud = refl;
    }

-- a start, with its state
pub started : {bs : List ℕ} (n : ℕ) (s : State) (d o : List ℕ) (r : Done) (d' o' : List ℕ) → Holds bs (keeping s (fresh_state n)) →
    PowersUp n d o r d' o' → Leaves s (power_up n) d o r bs d' o' × Rests false s (power_up n) r
unfolding power_up
started n s d o r d' o' h st = (
  record {
    state = h;
    frames = st.frames;
    touched = st.touched;
    remapped = st.remapped;
    occasion = st.occasion;
    dictionary = st.dictionary;
    output = st.output;
  },
  loud s (power_up n) r st.loud,
)

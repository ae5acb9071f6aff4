-- A download: what is offered, to a row and to its entry; refused it is aborted, and a good value is stored and acted on behind the reply.
-- Assumes nothing.
use Rattle.std.proofs.Common.{◌≡◌, ℕ, ◌+◌, ◌-◌, ◌^◌, ◌<◌, ◌≤◌, Bool, true, false, cond, not, ◌||◌, eqb, List, [], ◌∷◌, ◌++◌, length, take, drop}
use Rattle.std.proofs.Common.{Some, None, Ok, Err, Result, unwrap_or, sym, refl, ap, ◌∙◌, subst, arith, lit≤, take-take}
use mathlib.Core.Bool.{beq}
use Rattle.std.specs.Prelude.{⊤}
use lib.Seq.{sets}
use Rattle.state.specs.declared.State.{State}
use Rattle.state.specs.declared.NmtState.{NmtState}
use Rattle.state.specs.declared.Transfer.TheVariants.{NoTransfer}
use Rattle.rules_dictionary.specs.Numbers.{all, bit, value, bytes}
use Rattle.rules_dictionary.specs.Table.{ValueType, u8, u16, u32, i8, i32, size, size_of}
use Rattle.rules_dictionary.specs.Table.{Row, table, dictionary_length, place_of, is_writable, transmit}
use Rattle.rules_dictionary.specs.Table.{mode, control_word, heartbeat_time, open_table}
use Rattle.rules_dictionary.specs.Values.{write, read, store, stored}
use Rattle.rules_dictionary.specs.Legal.{suits, value_verdict}
use Rattle.rules_dictionary.specs.Members.{In}
use Rattle.rules_dictionary.specs.Aborts.{Test, Verdict, good, bad, is_good, test, first_firing, no_writing}
use Rattle.rules_dictionary.proofs.Tests.{is_good_lem, all_in}
use Rattle.rules_services.specs.Effects.{Effect, Frame, becomes, sends, writes, with_drive, without_transfer}
use Rattle.rules_services.specs.Sdo as sdo
use Rattle.rules_services.specs.SdoServer.{uploads}
use Rattle.rules_services.specs.Written.{wrote, applied, count_restarted, fault_reset}
use Rattle.rules_services.specs.Emergency.{emergency}
use Rattle.drive.specs.SetPoints.{control_written}
use Rattle.state.specs.NmtStates.{is_stopped}
use Rattle.rules.specs.Outcome.{frame_size, sent_into}
use Rattle.theorems.proofs.Booleans.{same_test}
use Rattle.form.specs.Form.{state_of}
use Rattle.form.specs.Holding.{Holds, Puts}
use Rattle.form.proofs.Holding.{held_state}
use Rattle.dictionary.specs.declared.Entry.{Entry}
use Rattle.dictionary.specs.declared.Found as dictionary
use Rattle.dictionary.specs.declared.Missing.{Missing}
use Rattle.dictionary.specs.declared.Missing.TheVariants.{NoObject, NoSubindex}
use Rattle.dictionary.specs.Entries.{entry_of, Stands, IsFound}
use Rattle.output.specs.Laying.{emitted}
use Rattle.output.proofs.Frames.{emitted_then, lent_back}
use Rattle.output.specs.declared.Done.{Done}
use Rattle.output.specs.Leaves.{keeping, is_mapping, Lent, Leaves, LeavesIn, ever, never}
use Rattle.output.proofs.Left.{lent, loud}
use Rattle.emergency.specs.Acts.{acts, control_acts, mode_acts}
use Rattle.emergency.proofs.Written.{stored_acted}
use Rattle.sdo.specs.declared.Brought.{Brought}
use Rattle.sdo.specs.declared.Offer.{Offer}
use Rattle.sdo.specs.declared.aborts.Abort as declared
use Rattle.sdo.specs.Verdicts.{abort_of_missing, code_of, result_of, role_verdict, value_verdict_of}
use Rattle.sdo.specs.Requests.{saying, said, reply_bytes, brought_by, offering, offered_by, offer_verdict_of}
use Rattle.sdo.specs.Requests.{upload_of, download_of, is_written, download_rests}
use Rattle.sdo.specs.Serving.{Speaks, Applies, prepared_for}
use Rattle.sdo.proofs.Verdicts.{good_result, code_is, error_code}

-- what the look-up of an object's three bytes finds
pub looked_up : (o : List ℕ) {i : ℕ} {f g : Result dictionary.Found Missing} → i ≡ sdo.index_in o → IsFound i (sdo.subindex_in o) f → f ≡ g →
    IsFound (sdo.index_in o) (sdo.subindex_in o) g
looked_up o e h q = subst (IsFound (sdo.index_in o) (sdo.subindex_in o)) q (rw e at h)

-- nothing found: the abort that tells it
module _ (o bs d : List ℕ) (missing : Missing) (e : IsFound (sdo.index_in o) (sdo.subindex_in o) (Err missing))
    {why : declared.Abort} (is : why ≡ abort_of_missing missing) {out bs' out' : List ℕ} {r : Done}
    (h : Speaks (said (reply_bytes sdo.aborted o (code_of why)) NoTransfer) bs out r bs' out') where
  pub missing_upload : LeavesIn (upload_of o) ever bs d out r bs' d out'
  unfolding uploads sdo.abort sdo.reply
  missing_upload = go missing e (rw is at h d)
    where
      go : (m : Missing) → IsFound (sdo.index_in o) (sdo.subindex_in o) (Err m) →
          LeavesIn (λ s d. said (reply_bytes sdo.aborted o (code_of (abort_of_missing m))) NoTransfer s) ever bs d out r bs' d out' →
          LeavesIn (upload_of o) ever bs d out r bs' d out'
      go NoObject e h = rw e h
      go NoSubindex e h = rw e h

  pub missing_download : (content : List ℕ) (b : Brought) →
      LeavesIn (download_of content o b) (download_rests o (offering b)) bs d out r bs' d out'
  unfolding sdo.downloads sdo.download sdo.with_reply sdo.abort sdo.reply is_written
  missing_download content b = go missing e (rw is at h d)
    where
      go : (m : Missing) → IsFound (sdo.index_in o) (sdo.subindex_in o) (Err m) →
          LeavesIn (λ s d. said (reply_bytes sdo.aborted o (code_of (abort_of_missing m))) NoTransfer s) ever bs d out r bs' d out' →
          LeavesIn (download_of content o b) (download_rests o (offering b)) bs d out r bs' d out'
      go NoObject e h = rw e h
      go NoSubindex e h = rw e h

-- ---- what is offered

-- an expedited download offers what the rules say
offered_at : (rq : List ℕ) (x : Row) → offering (brought_by rq) x ≡ sdo.expedited rq x
unfolding sdo.told_size sdo.asked_value
offered_at rq x =
    rw (counted (bit sdo.size_told_bit (sdo.command_byte rq)) _ _, take-take (size_of x) sdo.data_size (drop sdo.data_place rq) (small x.type))
  where
    counted : (b : Bool) (n m : ℕ) → unwrap_or (cond b (Some n) None) m ≡ cond b n m
    counted true n m = refl
    counted false n m = refl

    small : (t : ValueType) → size t ≤ sdo.data_size
    small u8 = lit≤ tt
    small u16 = lit≤ tt
    small u32 = lit≤ tt
    small i8 = lit≤ tt
    small i32 = lit≤ tt

pub expedited_offers : (rq : List ℕ) → offering (brought_by rq) ≡ sdo.expedited rq
expedited_offers rq = λ i x. offered_at rq x i

-- ---- the verdict

-- over an entry it is the one over its row
pub offer_of_row : (b : Brought) (nmt : NmtState) (d : List ℕ) (x : Row) →
    offer_verdict_of nmt d (entry_of x) (offered_by b (entry_of x).size) ≡ sdo.offer_verdict nmt d (offering b x)
unfolding offer_verdict_of sdo.offer_verdict value_verdict_of role_verdict value_verdict first_firing
offer_of_row b nmt d x = refl

-- a good one is of a writable entry
pub good_writable : (b : Bool) (ts : List Test) (v : Verdict) → first_firing (test (not b) no_writing ∷ ts) v ≡ good → b ≡ true
unfolding first_firing
good_writable true ts v h = refl
good_writable false ts v h = cc

-- another is an abort, and nothing is left to do
turned_down : (v : Verdict) (fs : State → List Frame) (t : sdo.Offer) (o bs d : List ℕ) {out bs' out' : List ℕ} {r : Done} {why : declared.Abort} →
    result_of v ≡ Err why → Speaks (said (reply_bytes sdo.aborted o (code_of why)) NoTransfer) bs out r bs' out' →
    LeavesIn (λ s d. sdo.with_reply (fs s) o (without_transfer s) (sdo.judged v t (without_transfer s) d))
    (λ s d. not (is_good v)) bs d out r bs' d out'
unfolding sdo.judged sdo.with_reply sdo.abort sdo.reply
turned_down good fs t o bs d e h = cc
turned_down (bad a) fs t o bs d e h = rw (sym (ap error_code e) ∙ code_is a) at (h d)

-- THE LAWS of a download to an entry, by what its verdict tells
module _ (content o bs d : List ℕ) (b : Brought) {e : Entry} (st : Stands (sdo.index_in o) (sdo.subindex_in o) e)
    {t : Offer} (offered : t ≡ offered_by b e.size) {given : Result ⊤ declared.Abort}
    (is : given ≡ result_of (offer_verdict_of (state_of bs).node.nmt d e t)) where
  abbrev s : State
  s = state_of bs

  abbrev verdict : Verdict
  verdict = offer_verdict_of s.node.nmt d e t

  verdict_is : sdo.offer_verdict s.node.nmt d (offering b st.row) ≡ verdict
  verdict_is =
      let over : Entry → Verdict = λ y. offer_verdict_of s.node.nmt d y (offered_by b y.size) in
      rw (← offer_of_row b s.node.nmt d st.row, ← ap over st.is_entry, ← offered)

  pub download_refused : {out bs' out' : List ℕ} {r : Done} {why : declared.Abort} → given ≡ Err why →
      Speaks (said (reply_bytes sdo.aborted o (code_of why)) NoTransfer) bs out r bs' out' →
      LeavesIn (download_of content o b) (download_rests o (offering b)) bs d out r bs' d out'
  unfolding sdo.downloads sdo.download is_written
  download_refused e h =
      rw (st.finds, verdict_is)
      (turned_down verdict (λ s. saying content s.node.id) (offering b st.row) o bs d (sym is ∙ e) h)

  module _ (taken : given ≡ Ok tt) where
    fine : verdict ≡ good
    fine = is_good_lem verdict (good_result verdict ∙ rw (← is, taken) refl)

    pub download_writable : is_writable e.access ≡ true
    unfolding offer_verdict_of
    download_writable = good_writable (is_writable e.access) _ _ fine

    pub download_applied : {out bs' d' out' : List ℕ} {r : Done} → Applies content e t.value bs d out r bs' d' out' →
        LeavesIn (download_of content o b) (download_rests o (offering b)) bs d out r bs' d' out'
    unfolding sdo.downloads sdo.download sdo.with_reply sdo.judged is_written
    download_applied h =
        let v = ap (λ (u : Offer). u.value) offered ∙ ap (λ (y : Entry). value (take y.size b.bytes)) st.is_entry in
        rw (st.finds, verdict_is, fine, ← v) (h _ _ st)

-- ---- a value stored and acted on

-- a test by place is the test by index and subindex
unfoldable pub is_at : Row → Row → Bool
is_at y x = beq (wrote y (write x 0 ∷ [])) (eqb (place_of x) (place_of y))

pub wrote_at : (y : Row) → all (is_at y) table ≡ true → {x : Row} → In x table → (v : ℕ) → wrote y (write x v ∷ []) ≡ eqb (place_of x) (place_of y)
unfolding is_at
wrote_at y test i v = same_test _ _ (all_in (is_at y) i test)

-- a writable row is not mapped to transmit
pub unsent : {x : Row} → In x table → is_writable x.access ≡ true → suits transmit x.mappable ≡ false
unfolding open_table
unsent {x} i h =
    go (is_writable x.access) (suits transmit x.mappable) h
    (all_in (λ x. not (is_writable x.access) || not (suits transmit x.mappable)) i refl)
  where
    go : (a b : Bool) → a ≡ true → (not a || not b) ≡ true → b ≡ false
    go a true h t = let z : ◌≡◌ {A = Bool} false true = rw h at t in sym z
    go a false h t = refl

-- at most the emergency of a fault reset follows
acts_short : (old : ℕ) (m c : Bool) (s : State) (d : List ℕ) → length (acts old m c s d).sent ≤ 1
unfolding acts control_acts fault_reset emergency
acts_short old m false s d = lit≤ tt
acts_short old m true s d =
    let t = with_drive (mode_acts m s.axis.drive d) s in
    let c = control_written d old t.axis.drive in
    by c.reset (with_drive c.drive t)
  where
    one : (stopped : Bool) (f : Frame) → length (cond stopped [] (f ∷ []) ++ []) ≤ 1
    one true f = lit≤ tt
    one false f = lit≤ tt

    by : (reset : Bool) (t : State) → length (cond reset (fault_reset t d) (becomes t)).sent ≤ 1
    by true t = one (is_stopped t.node.nmt) _
    by false t = lit≤ tt

pub acts_fit : (old : ℕ) (m c : Bool) (s : State) (d : List ℕ) (n : ℕ) → n ≡ length (acts old m c s d).sent → n + 1 < 2 ^ 64
acts_fit old m c s d n e = omega (arith, acts_short old m c s d)

-- the node-ID stays
prepared_id : (b : Bool) (s : State) → (prepared_for b s).node.id ≡ s.node.id
prepared_id true s = refl
prepared_id false s = refl

-- and what is left to the call's end
prepared_keeps : (b : Bool) (s t : State) → keeping (prepared_for b s) t ≡ keeping s t
prepared_keeps true s t = refl
prepared_keeps false s t = refl

-- bytes that are prepared, lent on
pub prepared_lent : (b : Bool) {n m : ℕ} {bs bs₁ d d₁ o o₁ : List ℕ} → Lent n bs d o → Puts (prepared_for b) bs bs₁ → length d₁ ≡ dictionary_length →
    m ≤ length o₁ → Lent m bs₁ d₁ o₁
prepared_lent b {bs = bs} l h long room = lent (h (state_of bs) l.own) long room (rw (prepared_id b (state_of bs)) l.id)

-- what is left behind the reply: its frame too, and the mapping that was written
abbrev pub behind_reply : Bool → Done → Done
behind_reply m r = record { frames = r.frames + 1; touched = r.touched; remapped = m || r.remapped; occasion = r.occasion; quiet = false }

module _ (content bs d o : List ℕ) {i j : ℕ} {e : Entry} (st : Stands i j e) (v : ℕ) (may : is_writable e.access ≡ true) where
  x : Row
  x = st.row

  abbrev before : State
  before = state_of bs

  -- what follows from the value
  abbrev acting : Effect
  acting =
      acts (read d control_word) (eqb (place_of x) (place_of mode)) (eqb (place_of x) (place_of control_word))
      (prepared_for (eqb (place_of x) (place_of heartbeat_time)) before) (store x v d)

  is_applied : applied (write x v ∷ []) (without_transfer before) d ≡ writes (write x v ∷ []) acting
  unfolding stored count_restarted x is_at open_table
  is_applied =
      let i = st.listed in
      stored_acted (write x v ∷ []) (without_transfer before) d
      ∙ rw (wrote_at mode refl i v, wrote_at control_word refl i v, wrote_at heartbeat_time refl i v)

  -- THE LAW of a good value: behind the reply, in the output from the next frame on, it is acted on
  pub apply_left : {m : Bool} {old : ℕ} {r : Done} {d₁ o₁ bs₁ bs' d' back : List ℕ} → m ≡ is_mapping e.role →
      d₁ ≡ sets d e.place (bytes e.size v) → o₁ ≡ sent_into o (saying content before.node.id) → old ≡ read d control_word →
      Holds bs before → Puts (prepared_for (eqb e.place (place_of heartbeat_time))) bs bs₁ →
      Leaves (state_of bs₁) (acts old (eqb e.place (place_of mode)) (eqb e.place (place_of control_word)) (state_of bs₁) d₁) d₁
      (take (length o₁ - frame_size) (drop frame_size o₁)) r bs' d' back →
      LeavesIn (λ s d. sends (saying content s.node.id) (applied (write st.row v ∷ []) (without_transfer s) d)) never bs d o
      (behind_reply m r) bs' d' (take frame_size o₁ ++ (back ++ drop (length o₁ - frame_size) (drop frame_size o₁)))
  unfolding x stored emitted
  apply_left {m} {old} {r} {d₁} {o₁} {bs₁} {bs'} {d'} {back} named put told was own prepared h =
      let k = length o₁ - frame_size in
      let at : e.place ≡ place_of x = ap (λ (y : Entry). y.place) st.is_entry in
      let b = eqb (place_of x) (place_of heartbeat_time) in
      let f : Leaves (prepared_for b before) acting (store x v d) (take k (drop frame_size o₁)) r bs' d' back =
      rw (held_state (prepared before own), was, put, st.writes v d, at) at h in
      rw is_applied (
        record {
          state = rw (prepared_keeps b before acting.state) at f.state;
          frames = omega (arith, f.frames);
          touched = rw (unsent st.listed (rw st.is_entry at may)) f.touched;
          remapped = rw (named, f.remapped, ← ap (λ (y : Entry). is_mapping y.role) st.is_entry) refl;
          occasion = f.occasion;
          dictionary = f.dictionary;
          output = lent_back o₁ back acting.sent 1 k (omega arith) f.output ∙ ap (emitted 1 acting.sent) told
              ∙ emitted_then 0 (saying content before.node.id) acting.sent o (omega arith);
        },
        loud _ _ (behind_reply m r) refl,
      )

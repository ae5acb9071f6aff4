-- The calls of a firmware are a run of the rules: the statements of Traces.antt, proved. A state of a run is what the types allow (Typed.antt), so
-- that its form is read back as that state, and the C call of the form is the rules' call of the state.
-- Assumes nothing.
use Prim.Native.Nat.{ℕ, ◌≤◌}
use native.Mathlib.Omega.{arith}
use mathlib.Core.Path.{◌≡◌, refl, sym, ◌∙◌, ap}
use mathlib.Core.Bool.{true}
use mathlib.Core.List.{List, [], ◌∷◌}
use borrow.Author.Tests.{eq-eqb}
use denote.Ref.{Bor}
use denote.MutBor.{MutBor}
use Rattle.state.specs.declared.State.{State}
use Rattle.state.specs.declared.Refusal.{Refusal}
use Rattle.state.specs.declared.Refusal.TheVariants.{Accepted, DictionaryLength, OutputLength, NodeId, NotSound, BadFrame, BadEvent, OutOfPlace}
use Rattle.state.specs.declared.Refusal.TheVariants.{WrongState, FileTooShort, TooManyEntries, FileMisfit, ControlWordEntry, EntryAborted}
use Rattle.rules_services.specs.Nmt.{boot_up, power_up, fresh_state}
use Rattle.rules_services.specs.PdoTraffic.{works}
use Rattle.rules.specs.Outcome.{ended, pace_for, transmissions, sent_into, most_frames}
use Rattle.rules.specs.Sound.{sound}
use Rattle.rules.specs.Calls.{Call, power_up_call, frame_call, event_call, load_call, Outcome, does as performs, accepted, answered, answer}
use Rattle.rules.specs.Calls.{load_answer}
use Rattle.rules.specs.Calls.{refusal_number}
use Rattle.theorems.specs.Promises.{Step, Stand, does, after, AllOctets, reached}
use Rattle.theorems.specs.Promises as Promises
use Rattle.theorems.proofs.Runs.{run_holds, never_unsound}
use Rattle.theorems.proofs.Sent.{at_most_six_in_order}
use Rattle.theorems.proofs.Loaded.{load_sends_nothing}
use Rattle.calls.proofs.Traces.{any_output}
use Rattle.form.specs.Form.{state_length, state_of, form, is_form}
use Rattle.form.proofs.Rows.{length_form}
use Rattle.form.proofs.OneForm.{state_of_form, is_form_form}
use Rattle.calls.proofs.Refusals.{well_lent, decides, a_node}
use Rattle.cendurak.specs.Boundary.{Left, status, state_after, is_given, left_by, lent_answer, left, LoadLeft, load_status, left_by_load, lent_load}
use Rattle.cendurak.specs.Boundary.{load_left}
use Rattle.cendurak.specs.Traces.{Buffers, MayPowerUp, Hold, ReturnsOf, refusal_in}
use Rattle.cendurak.proofs.Ways.{as_given, a_form}
use Rattle.cendurak.proofs.Named.{named_fits}
use Rattle.cendurak.proofs.Typed.{Kept, kept_typed, fresh_typed, step_kept}
use Rattle.cendurak.proofs.Traces.{Called, powers, frames, events, loads, Trace, ends, goes, RunInC, run_of}
use Rattle.cendurak.proofs.Traces.{TracesAreRunsInC, AnswersInC, PowersUpInC, SoundInC, NeverUnsoundInC}

-- ---- one call

-- what its contract says of what is left
abbrev Lent : Call → Buffers → List ℕ → ℕ → List ℕ → Buffers → Type 0
Lent (power_up_call n) b o number out b' =
    left number b'.state b'.dictionary out ≡ lent_answer (power_up_call n) b.state b.dictionary o
Lent (frame_call i xs) b o number out b' =
    left number b'.state b'.dictionary out ≡ lent_answer (frame_call i xs) b.state b.dictionary o
Lent (event_call i xs) b o number out b' =
    left number b'.state b'.dictionary out ≡ lent_answer (event_call i xs) b.state b.dictionary o
Lent (load_call f) b o number out b' = (load_left number b'.state b'.dictionary ≡ lent_load f b.state b.dictionary) × (out ≡ o)

by_contract : {k : Step} {b b' : Buffers} {number : ℕ} {out : List ℕ} → Called k b number out b' → Lent k.call b k.output number out b'
by_contract (Called.powers κs state dict out n number state' dict' out' post) = post
by_contract (Called.frames κs state dict out identifier bytes number state' dict' out' post) = post
by_contract (Called.events κs state dict out event_number arguments number state' dict' out' post) = post
by_contract (Called.loads κs state dict file out number state' dict' post) = (post, refl)

-- the outcome, with the state in its form
abbrev left_as : Outcome → Left
left_as x = left (status x.refusal x.frames) (form x.state) x.dictionary x.output

-- where the bytes are a state as far as the call looks, that is what is left
lent_as : (c : Call) (bs d o : List ℕ) → is_given c bs ≡ true →
    let x = answer c (state_of bs) d o in form x.state ≡ state_after x.refusal (form x.state) bs → lent_answer c bs d o ≡ left_as x
unfolding lent_answer left_by
lent_as c bs d o given stays =
    let x = answer c (state_of bs) d o in
    rw (given, lent_answer) (ap (λ (xs : List ℕ). left (status x.refusal x.frames) xs x.dictionary x.output) (sym stays))

-- .. and of a load
load_lent_as : (f bs d : List ℕ) → is_given (load_call f) bs ≡ true → form (state_of bs) ≡ bs →
    let x = load_answer f (state_of bs) d in lent_load f bs d ≡ load_left (load_status x.refusal x.named) (form x.state) x.dictionary
unfolding lent_load left_by_load load_answer
load_lent_as f bs d given own =
    let x = load_answer f (state_of bs) d in
    rw (given, lent_load)
    (ap (λ (xs : List ℕ). load_left (load_status x.refusal x.named) xs x.dictionary) (sym (as_given (load_call f) bs d [] own)))

-- the number that a call returns, by the call
abbrev Numbered : Call → Stand → Outcome → ℕ → Type 0
Numbered (power_up_call n) a u number = number ≡ status u.refusal u.frames
Numbered (frame_call i xs) a u number = number ≡ status u.refusal u.frames
Numbered (event_call i xs) a u number = number ≡ status u.refusal u.frames
Numbered (load_call f) a u number =
    let x = load_answer f a.state a.dictionary in number ≡ load_status x.refusal x.named

-- what is left, part by part
record Told (k : Step) (a : Stand) (number : ℕ) (out : List ℕ) (b : Buffers) : Type 0 where
  numbered : Numbered k.call a (does k a) number
  output : out ≡ (does k a).output
  hold : Hold b (Promises.left k a)

-- of a call that is lent output, from what is left as one
as_told : {k : Step} {a : Stand} {number : ℕ} {out : List ℕ} {b : Buffers} →
    Numbered k.call a (does k a) number ≡ (number ≡ status (does k a).refusal (does k a).frames) →
    left number b.state b.dictionary out ≡ left_as (does k a) → Told k a number out b
as_told is e =
    record {
      numbered = coe 1 0 (i. is i) (ap (λ (y : Left). y.status) e);
      output = ap (λ (y : Left). y.output) e;
      hold = record { state = ap (λ (y : Left). y.state) e; dictionary = ap (λ (y : Left). y.dictionary) e };
    }

-- a call on buffers that hold where a run stands
module _ (a : Stand) (kept : Kept a) where
  is_given_lem : (c : Call) → is_given c (form a.state) ≡ true
  is_given_lem c =
      let long = length_form a.state (kept_typed a kept) in
      let own = a_form (form a.state) long (is_form_form a.state (kept_typed a kept)) in
      elim c as (λ (x : Call). is_given x (form a.state) ≡ true) [
        | power_up_call n ↦ eq-eqb _ state_length long
        | frame_call i xs ↦ own
        | event_call i xs ↦ own
        | load_call f ↦ own
      ]

  -- by the call's own contract
  lent_left : (c : Call) (o : List ℕ) {b b' : Buffers} {number : ℕ} {out : List ℕ} → Hold b a →
      left number b'.state b'.dictionary out ≡ lent_answer c b.state b.dictionary o →
      left number b'.state b'.dictionary out ≡ left_as (answer c a.state a.dictionary o)
  lent_left c o h post =
      let s = a.state in
      let d = a.dictionary in
      let back = state_of_form s (kept_typed a kept) in
      let answered = lent_as c (form s) d o (is_given_lem c) (as_given c (form s) d o (ap form back)) in
      post ∙ rw (h.state, h.dictionary) answered ∙ ap (λ (t : State). left_as (answer c t d o)) back

  load_left_lem : (f : List ℕ) {b b' : Buffers} {number : ℕ} → Hold b a →
      load_left number b'.state b'.dictionary ≡ lent_load f b.state b.dictionary →
      let x = load_answer f a.state a.dictionary in
      load_left number b'.state b'.dictionary ≡ load_left (load_status x.refusal x.named) (form x.state) x.dictionary
  load_left_lem f h post =
      let s = a.state in
      let d = a.dictionary in
      let back = state_of_form s (kept_typed a kept) in
      let answered = load_lent_as f (form s) d (is_given_lem (load_call f)) (ap form back) in
      post ∙ rw (h.state, h.dictionary) answered
      ∙ ap (λ (t : State). let x = load_answer f t d in load_left (load_status x.refusal x.named) (form x.state) x.dictionary) back

  told_by : (c : Call) (o : List ℕ) {b b' : Buffers} {number : ℕ} {out : List ℕ} → Hold b a → Lent c b o number out b' →
      Told (record { call = c; output = o }) a number out b'
  unfolding load_answer
  told_by (power_up_call n) o h post = as_told refl (lent_left (power_up_call n) o h post)
  told_by (frame_call i xs) o h post = as_told refl (lent_left (frame_call i xs) o h post)
  told_by (event_call i xs) o h post = as_told refl (lent_left (event_call i xs) o h post)
  told_by (load_call f) o h post =
      let e = load_left_lem f h post.0 in
      let stays = any_output f a.state a.dictionary o in
      record {
        numbered = ap (λ (y : LoadLeft). y.status) e;
        output = post.1 ∙ sym (load_sends_nothing f o a).1;
        hold = record {
          state = ap (λ (y : LoadLeft). y.state) e ∙ ap (λ (y : Stand). form y.state) stays;
          dictionary = ap (λ (y : LoadLeft). y.dictionary) e ∙ ap (λ (y : Stand). y.dictionary) stays;
        };
      }

  told : {k : Step} {b b' : Buffers} {number : ℕ} {out : List ℕ} → Hold b a → Called k b number out b' → Told k a number out b'
  told {k} h call = told_by k.call k.output h (by_contract call)

-- ---- the power-up

module _ (n : ℕ) (b : Buffers) (o : List ℕ) (may : MayPowerUp n b o) where
  abbrev found : Stand
  found = record { state = state_of b.state; dictionary = b.dictionary }

  abbrev up : Step
  up = record { call = power_up_call n; output = o }

  accepts : does up found ≡ accepted (ended found.state found.dictionary (power_up n)) o
  unfolding answered
  accepts =
      let s = found.state in
      let d = found.dictionary in
      decides (power_up_call n) s d o refl (rw (← (well_lent d o may.long may.room))) (performs (power_up n)) (a_node n s d may.node)

  powered_told : {b' : Buffers} {number : ℕ} {out : List ℕ} → Called up b number out b' → Told up found number out b'
  unfolding accepted
  powered_told call =
      as_told refl (by_contract call ∙ lent_as (power_up_call n) b.state b.dictionary o (eq-eqb _ state_length may.whole) (rw accepts))

  -- a node that is Pre-operational sends no PDO
  boots : (status (does up found).refusal (does up found).frames ≡ status Accepted 1) × ((does up found).output ≡ sent_into o (boot_up n))
  unfolding accepted ended power_up fresh_state pace_for works transmissions
  boots = (rw accepts, rw accepts)

  powered_kept : Kept (Promises.left up found)
  unfolding accepted after AllOctets
  powered_kept =
      record {
        holds = run_holds (record {
          node = n;
          legal = may.node;
          found = found;
          long = may.long;
          bytes = may.bytes;
          output = o;
          room = may.room;
          steps = [];
          given = tt;
        });
        fits = rw accepts (fresh_typed n found.state found.dictionary);
      }

-- ---- the calls after it

-- buffers that hold where a run stands, and what it keeps there
record Stands (b : Buffers) (a : Stand) : Type 0 where
  hold : Hold b a
  kept : Kept a

traced : {b c : Buffers} {ks : List Step} (a : Stand) → AllOctets ks → Trace b ks c → Stands b a → Stands c (after ks a)
unfolding after AllOctets
traced {ks = []} a o ends h = h
traced {ks = k ∷ ks} a o (goes call rest) h =
    traced (Promises.left k a) o.1 rest (record { hold = (told a h.kept h.hold call).hold; kept = step_kept k a o.0 h.kept })

stands : (c : RunInC) → Stands c.buffers (reached (run_of c))
stands c =
    traced _ c.given c.trace
    (record {
      hold = (powered_told c.node c.found c.output c.may c.powered).hold;
      kept = powered_kept c.node c.found c.output c.may;
    })

-- ---- THE STATEMENTS

pub traces_are_runs_in_c : TracesAreRunsInC
traces_are_runs_in_c c = (stands c).hold

pub powers_up_in_c : PowersUpInC
powers_up_in_c c =
    let t = powered_told c.node c.found c.output c.may c.powered in
    let e = boots c.node c.found c.output c.may in
    (t.numbered ∙ e.0, t.output ∙ e.1)

-- the number, taken apart
returns_of : (c : Call) (a : Stand) (u : Outcome) (number : ℕ) (out : List ℕ) → Numbered c a u number → u.frames ≤ most_frames → out ≡ u.output →
    ReturnsOf c a u number out
returns_of (power_up_call n) a u number out is few e =
    record { status = is; refusal = omega (arith, is, few); frames = omega (arith, is, few); output = e }
returns_of (frame_call i xs) a u number out is few e =
    record { status = is; refusal = omega (arith, is, few); frames = omega (arith, is, few); output = e }
returns_of (event_call i xs) a u number out is few e =
    record { status = is; refusal = omega (arith, is, few); frames = omega (arith, is, few); output = e }
returns_of (load_call f) a u number out is few e =
    let fits = named_fits f a.state a.dictionary in
    (record { status = is; refusal = omega (arith, is, fits); entry = omega (arith, is, fits); code = omega (arith, is, fits) }, e)

pub answers_in_c : AnswersInC
answers_in_c c k number out b o call =
    let a = reached (run_of c) in
    let t = told a (stands c).kept (stands c).hold call in
    let six = at_most_six_in_order (run_of c) k o in
    (returns_of k.call a (does k a) number out t.numbered (omega (arith, six.most, six.counted)) t.output, t.hold)

held_sound_lem : {b : Buffers} {a : Stand} → Stands b a → (is_form b.state ≡ true) × (sound (state_of b.state) b.dictionary ≡ true)
held_sound_lem {a = a} h =
    let t = kept_typed a h.kept in (
      rw h.hold.state (is_form_form a.state t),
      rw (h.hold.state, h.hold.dictionary, state_of_form a.state t) h.kept.holds.at.sound,
    )

pub sound_in_c : SoundInC
sound_in_c c = held_sound_lem (stands c)

-- a refusal of that number is that refusal
unsound : (x : Refusal) → refusal_number x ≡ refusal_number NotSound → x ≡ NotSound
unsound Accepted e = absurd (omega arith)
unsound DictionaryLength e = absurd (omega arith)
unsound OutputLength e = absurd (omega arith)
unsound NodeId e = absurd (omega arith)
unsound NotSound e = refl
unsound BadFrame e = absurd (omega arith)
unsound BadEvent e = absurd (omega arith)
unsound OutOfPlace e = absurd (omega arith)
unsound WrongState e = absurd (omega arith)
unsound FileTooShort e = absurd (omega arith)
unsound TooManyEntries e = absurd (omega arith)
unsound FileMisfit e = absurd (omega arith)
unsound ControlWordEntry e = absurd (omega arith)
unsound EntryAborted e = absurd (omega arith)

pub never_unsound_in_c : NeverUnsoundInC
unfolding load_answer
never_unsound_in_c c k number out b o call e = sure k.call k.output (answers_in_c c k number out b o call).0 e
  where
    sure : (x : Call) (output : List ℕ) →
        ReturnsOf x (reached (run_of c)) (does (record { call = x; output = output }) (reached (run_of c))) number out →
        refusal_in x number ≡ refusal_number NotSound → ⊥
    sure (power_up_call n) output r e = never_unsound (run_of c) (record { call = power_up_call n; output = output }) (unsound _ (sym r.refusal ∙ e))
    sure (frame_call i xs) output r e = never_unsound (run_of c) (record { call = frame_call i xs; output = output }) (unsound _ (sym r.refusal ∙ e))
    sure (event_call i xs) output r e = never_unsound (run_of c) (record { call = event_call i xs; output = output }) (unsound _ (sym r.refusal ∙ e))
    sure (load_call f) output r e = never_unsound (run_of c) (record { call = load_call f; output = [] }) (unsound _ (sym r.0.refusal ∙ e))

-- ---- none of them is true for want of a case: each contract allows an answer to every call, so that any calls make a run

lent : List ℕ → Bor (List ℕ)
lent bs = record { ref_ptr = (0, 0); now = bs }

lent_to_write : List ℕ → MutBor (List ℕ)
lent_to_write bs = record { ref_ptr = (0, 0); ghost_name = 0; now = bs }

module _ (b : Buffers) (o : List ℕ) where
  abbrev answer_to : Call → Left
  answer_to (power_up_call n) = lent_answer (power_up_call n) b.state b.dictionary o
  answer_to (frame_call i xs) = lent_answer (frame_call i xs) b.state b.dictionary o
  answer_to (event_call i xs) = lent_answer (event_call i xs) b.state b.dictionary o
  answer_to (load_call f) =
      let x = lent_load f b.state b.dictionary in left x.status x.state x.dictionary o

  allowed : (c : Call) →
      Called (record { call = c; output = o }) b (answer_to c).status (answer_to c).output
      (record { state = (answer_to c).state; dictionary = (answer_to c).dictionary })
  unfolding lent lent_to_write
  allowed (power_up_call n) =
      let c = power_up_call n in
      powers ([], ([], ([], tt))) (lent_to_write b.state) (lent_to_write b.dictionary) (lent_to_write o) n
      (answer_to c).status (lent_to_write (answer_to c).state)
      (lent_to_write (answer_to c).dictionary) (lent_to_write (answer_to c).output) refl
  allowed (frame_call i xs) =
      let c = frame_call i xs in
      frames ([], ([], ([], ([], tt)))) (lent_to_write b.state) (lent_to_write b.dictionary) (lent_to_write o) i (lent xs)
      (answer_to c).status (lent_to_write (answer_to c).state)
      (lent_to_write (answer_to c).dictionary) (lent_to_write (answer_to c).output) refl
  allowed (event_call i xs) =
      let c = event_call i xs in
      events ([], ([], ([], ([], tt)))) (lent_to_write b.state) (lent_to_write b.dictionary) (lent_to_write o) i (lent xs)
      (answer_to c).status (lent_to_write (answer_to c).state)
      (lent_to_write (answer_to c).dictionary) (lent_to_write (answer_to c).output) refl
  allowed (load_call f) =
      let c = load_call f in
      loads ([], ([], ([], tt))) (lent_to_write b.state) (lent_to_write b.dictionary) (lent f) o
      (answer_to c).status (lent_to_write (answer_to c).state)
      (lent_to_write (answer_to c).dictionary) refl

some_trace : (ks : List Step) (b : Buffers) → (c : Buffers) × Trace b ks c
some_trace [] b = (b, ends)
some_trace (k ∷ ks) b =
    let t = some_trace ks _ in
    (t.0, goes (allowed b k.output k.call) t.1)

pub some_run : (n : ℕ) (b : Buffers) (o : List ℕ) → MayPowerUp n b o → (ks : List Step) → AllOctets ks → RunInC
some_run n b o may ks given =
    let t = some_trace ks _ in
    record {
      node = n;
      found = b;
      output = o;
      may = may;
      number = _;
      boot = _;
      started = _;
      powered = allowed b o (power_up_call n);
      steps = ks;
      given = given;
      buffers = t.0;
      trace = t.1;
    }

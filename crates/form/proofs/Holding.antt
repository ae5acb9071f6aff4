-- What is put into bytes that hold a state: they hold the state with that part.
-- Assumes nothing.
use Rattle.std.proofs.Common.{ℕ, zero, suc, ◌+◌, ◌*◌, ◌<◌, arith, ◌≡◌, refl, sym, ◌∙◌, ap, true, List, [], ◌∷◌, ◌++◌, append-nil, append_assoc}
use Rattle.std.proofs.Common.{length, get_or, set, length-append, drop_at}
use Rattle.std.proofs.lemmas.List.Edits.{sets, sets-eq}
use Rattle.rules_dictionary.specs.Table.{each_way}
use Rattle.rules_dictionary.specs.declared.Plan.{Plan}
use Rattle.rules_dictionary.specs.declared.PdoData.{PdoData}
use Rattle.drive.specs.declared.Drive.{Drive}
use Rattle.drive.specs.SetPoints.{with_stay}
use Rattle.state.specs.declared.Node.{Node}
use Rattle.state.specs.declared.Pace.{Pace}
use Rattle.state.specs.declared.Transfer.{Transfer}
use Rattle.state.specs.declared.State.{State}
use Rattle.rules_dictionary.specs.Numbers.{bytes}
use Rattle.rules_services.specs.Effects.{with_node, with_heartbeat, with_transfer, with_drive, with_held, with_paces}
use Rattle.form.specs.Form.{joined, node_form, drive_form, data_form, pace_form, plan_form, head_form, form, state_of, is_form, half}
use Rattle.form.specs.Form.{heartbeat_offset, node_length, stay_offset, drive_length, data_length, pace_length, node_place, drive_place, ready_place}
use Rattle.form.specs.Form.{held_place, paces_place, plans_place, state_length, transfer_form, transfer_length, transfer_place}
use Rattle.form.specs.Typed.{Many, none, more, AnyPace, DataTyped, StoreTyped, PlanTyped, HeadTyped}
use Rattle.form.specs.Holding.{Holds, planned, readying, holding}
use Rattle.form.specs.Lengths.{length_data}
use Rattle.form.proofs.Rows.{length_node, length_transfer, length_drive, length_frames, length_paces, length_plans, length_form}
use Rattle.form.proofs.OneForm.{state_of_form, form_state_of, typed_read}

-- ---- bytes that hold a state

-- bytes that are a form hold the state that is read from them
pub holds_own : (bs : List ℕ) → ((i : ℕ) → get_or bs i 0 < 256) → is_form bs ≡ true → Holds bs (state_of bs)
holds_own bs fits own = record { bytes = sym (form_state_of bs own); typed = typed_read bs fits }

module _ {bs : List ℕ} {s : State} (h : Holds bs s) where
  -- the state that is read from them is that state
  pub held_state : state_of bs ≡ s
  held_state = ap state_of h.bytes ∙ state_of_form s h.typed

  pub held_length : length bs ≡ state_length
  held_length = ap length h.bytes ∙ length_form s h.typed

-- ---- a part of bytes replaced by another of its length

set_skip : (a d : List ℕ) (place x : ℕ) → set (a ++ d) (length a + place) x ≡ a ++ set d place x
set_skip [] d place x = let z : 0 + place ≡ place = omega arith in rw z
set_skip (y ∷ a) d place x =
    let z : suc (length a) + place ≡ suc (length a + place) = omega arith in
    rw z (ap (λ (l : List ℕ). y ∷ l) (set_skip a d place x))

-- behind others
sets_skip : (a d : List ℕ) (n place : ℕ) (xs : List ℕ) → length a ≡ n → sets (a ++ d) (n + place) xs ≡ a ++ sets d place xs
sets_skip a d n place [] e = refl
sets_skip a d n place (x ∷ xs) e =
    let next : suc (n + place) ≡ n + suc place = omega arith in
    rw (next, ← e, set_skip a d place x) (rw (← e) at (sets_skip a (set d place x) n (suc place) xs e))

-- at the start
sets_first : (b d xs : List ℕ) → length xs ≡ length b → sets (b ++ d) 0 xs ≡ xs ++ d
sets_first b d xs e =
    sets-eq xs (b ++ d) 0 (rw length-append (omega arith)) ∙ ap (λ (l : List ℕ). xs ++ l) (drop_at b d (0 + length xs) (omega arith))

-- the same behind one more
within : (a : List ℕ) (n k : ℕ) (xs d : List ℕ) {d' : List ℕ} → length a ≡ n → sets d k xs ≡ d' → sets (a ++ d) (n + k) xs ≡ a ++ d'
within a n k xs d e r = sets_skip a d n k xs e ∙ ap (λ (l : List ℕ). a ++ l) r

-- one of a row
row_set : (rs : List PdoData) {n : ℕ} (p : ℕ) (r : PdoData) (d : List ℕ) → Many DataTyped n rs → DataTyped r → p < n →
    sets (joined data_form rs ++ d) (data_length * p) (data_form r) ≡ joined data_form (set rs p r) ++ d
row_set [] p r d none f i = absurd (omega arith)
row_set (x ∷ rs) zero r d (more g m) f i =
    let l : length (data_form r) ≡ length (data_form x) = length_data r f ∙ sym (length_data x g) in
    rw (append_assoc (data_form x) (joined data_form rs) d, append_assoc (data_form r) (joined data_form rs) d)
    (sets_first (data_form x) (joined data_form rs ++ d) (data_form r) l)
row_set (x ∷ rs) (suc p) r d (more g m) f i =
    let next : data_length * suc p ≡ data_length + data_length * p = omega arith in
    rw (next, append_assoc (data_form x) (joined data_form rs) d, append_assoc (data_form x) (joined data_form (set rs p r)) d)
    (within (data_form x) data_length (data_length * p) (data_form r) _ (length_data x g) (row_set rs p r d m f (omega arith)))

many_set : {A : Type 0} {P : A → Type 0} {n : ℕ} {xs : List A} (p : ℕ) (x : A) → Many P n xs → P x → Many P n (set xs p x)
many_set p x none f = none
many_set zero x (more g m) f = more f m
many_set (suc p) x (more g m) f = more g (many_set p x m f)

-- ---- THE LAWS

-- the parts, one behind another
flat : (s : State) →
    let a = s.axis in
    form s
    ≡ node_form s.node ++ (transfer_form s.transfer ++ (drive_form a.drive ++ (joined data_form a.ready
    ++ (joined data_form a.held ++ (joined pace_form a.paces ++ joined plan_form a.plans)))))
unfolding form head_form
flat s = simp append_assoc

module _ {bs : List ℕ} {s : State} (h : Holds bs s) where
  t : HeadTyped s
  t = h.typed.head

  abbrev n : List ℕ
  n = node_form s.node

  abbrev f : List ℕ
  f = transfer_form s.transfer

  abbrev v : List ℕ
  v = drive_form s.axis.drive

  in_node : length n ≡ node_length
  in_node = length_node s.node

  in_transfer : length f ≡ transfer_length
  in_transfer = length_transfer s.transfer

  in_drive : length v ≡ drive_length
  in_drive = length_drive s.axis.drive

  in_ready : length (joined data_form s.axis.ready) ≡ each_way * data_length
  in_ready = length_frames t.ready

  in_held : length (joined data_form s.axis.held) ≡ each_way * data_length
  in_held = length_frames t.held

  in_paces : length (joined pace_form s.axis.paces) ≡ each_way * pace_length
  in_paces = length_paces t.paces

  pub put_node_lem : (x : Node) → x.heartbeat < half → Holds (sets bs node_place (node_form x)) (with_node x s)
  put_node_lem x fits =
      record {
        bytes = rw (h.bytes, flat s, flat (with_node x s)) (sets_first n _ (node_form x) (length_node x ∙ sym in_node));
        typed = record {
          head = record { heartbeat = fits; stay = t.stay; store = t.store; ready = t.ready; held = t.held; paces = t.paces };
          plans = h.typed.plans;
        };
      }

  pub put_heartbeat_lem : (k : ℕ) → k < half → Holds (sets bs (node_place + heartbeat_offset) (bytes 2 k)) (with_heartbeat k s)
  unfolding node_form bytes
  put_heartbeat_lem k fits =
      record {
        bytes = rw (h.bytes, flat s, flat (with_heartbeat k s));
        typed = record {
          head = record { heartbeat = fits; stay = t.stay; store = t.store; ready = t.ready; held = t.held; paces = t.paces };
          plans = h.typed.plans;
        };
      }

  pub put_transfer_lem : (x : Transfer) → Holds (sets bs transfer_place (transfer_form x)) (with_transfer x s)
  put_transfer_lem x =
      record {
        bytes = rw (h.bytes, flat s, flat (with_transfer x s))
            (within n node_length 0 (transfer_form x) _ in_node (sets_first f _ (transfer_form x) (length_transfer x ∙ sym in_transfer)));
        typed = record {
          head = record { heartbeat = t.heartbeat; stay = t.stay; store = t.store; ready = t.ready; held = t.held; paces = t.paces };
          plans = h.typed.plans;
        };
      }

  -- what is written from the drive on, behind the parts before it
  behind_transfer : (k : ℕ) (xs d : List ℕ) {d' : List ℕ} → sets d k xs ≡ d' → sets (n ++ (f ++ d)) (drive_place + k) xs ≡ n ++ (f ++ d')
  behind_transfer k xs d e =
      let place : drive_place + k ≡ node_length + (transfer_length + k) = omega arith in
      rw place (within n node_length (transfer_length + k) xs _ in_node (within f transfer_length k xs d in_transfer e))

  pub put_drive_lem : (x : Drive) → x.stay < half → StoreTyped x.store → Holds (sets bs drive_place (drive_form x)) (with_drive x s)
  put_drive_lem x few fits =
      record {
        bytes = rw (h.bytes, flat s, flat (with_drive x s))
            (behind_transfer 0 (drive_form x) _ (sets_first v _ (drive_form x) (length_drive x ∙ sym in_drive)));
        typed = record {
          head = record { heartbeat = t.heartbeat; stay = few; store = fits; ready = t.ready; held = t.held; paces = t.paces };
          plans = h.typed.plans;
        };
      }

  pub put_stay_lem : (k : ℕ) → k < half →
      Holds (sets bs (drive_place + stay_offset) (bytes 2 k)) (with_drive (with_stay k s.axis.drive) s)
  unfolding drive_form bytes
  put_stay_lem k fits =
      record {
        bytes = rw (h.bytes, flat s, flat (with_drive (with_stay k s.axis.drive) s)) (behind_transfer stay_offset (bytes 2 k) _ refl);
        typed = record {
          head = record { heartbeat = t.heartbeat; stay = fits; store = t.store; ready = t.ready; held = t.held; paces = t.paces };
          plans = h.typed.plans;
        };
      }

  -- the ready frame of one transmit PDO
  pub put_one_ready : (k : ℕ) (x : PdoData) → k < each_way → DataTyped x →
      Holds (sets bs (ready_place + data_length * k) (data_form x)) (readying k x s)
  put_one_ready k x i fits =
      let place : ready_place + data_length * k ≡ drive_place + (drive_length + data_length * k) = omega arith in
      record {
        bytes = rw (h.bytes, flat s, flat (readying k x s), place)
            (behind_transfer (drive_length + data_length * k) (data_form x) _ (within v drive_length (data_length * k) (data_form x) _ in_drive
            (row_set s.axis.ready k x _ t.ready fits i)));
        typed = record {
          head = record {
            heartbeat = t.heartbeat;
            stay = t.stay;
            store = t.store;
            ready = many_set k x t.ready fits;
            held = t.held;
            paces = t.paces;
          };
          plans = h.typed.plans;
        };
      }

  -- what is written from the held frames on, behind the parts before them
  behind_ready : (k : ℕ) (xs d : List ℕ) {d' : List ℕ} → sets d k xs ≡ d' →
      sets (n ++ (f ++ (v ++ (joined data_form s.axis.ready ++ d)))) (held_place + k) xs
      ≡ n ++ (f ++ (v ++ (joined data_form s.axis.ready ++ d')))
  behind_ready k xs d e =
      let frames = each_way * data_length in
      let place : held_place + k ≡ drive_place + (drive_length + (frames + k)) = omega arith in
      rw place (behind_transfer (drive_length + (frames + k)) xs _ (within v drive_length (frames + k) xs _ in_drive
      (within (joined data_form s.axis.ready) frames k xs d in_ready e)))

  pub put_held_lem : (x : List PdoData) → Many DataTyped each_way x → Holds (sets bs held_place (joined data_form x)) (with_held x s)
  put_held_lem x fits =
      record {
        bytes = rw (h.bytes, flat s, flat (with_held x s))
            (behind_ready 0 (joined data_form x) _ (sets_first (joined data_form s.axis.held) _ (joined data_form x) (length_frames fits
            ∙ sym in_held)));
        typed = record {
          head = record { heartbeat = t.heartbeat; stay = t.stay; store = t.store; ready = t.ready; held = fits; paces = t.paces };
          plans = h.typed.plans;
        };
      }

  -- the held frame of one receive PDO
  pub put_one_held : (p : ℕ) (x : PdoData) → p < each_way → DataTyped x →
      Holds (sets bs (held_place + data_length * p) (data_form x)) (holding p x s)
  put_one_held p x i fits =
      record {
        bytes = rw (h.bytes, flat s, flat (holding p x s))
            (behind_ready (data_length * p) (data_form x) _ (row_set s.axis.held p x _ t.held fits i));
        typed = record {
          head = record {
            heartbeat = t.heartbeat;
            stay = t.stay;
            store = t.store;
            ready = t.ready;
            held = many_set p x t.held fits;
            paces = t.paces;
          };
          plans = h.typed.plans;
        };
      }

  pub put_paces_lem : (x : List Pace) → Many AnyPace each_way x → Holds (sets bs paces_place (joined pace_form x)) (with_paces x s)
  put_paces_lem x fits =
      record {
        bytes = rw (h.bytes, flat s, flat (with_paces x s))
            (behind_ready (each_way * data_length) (joined pace_form x) _ (within (joined data_form s.axis.held) (each_way * data_length) 0
            (joined pace_form x) _ in_held
            (sets_first (joined pace_form s.axis.paces) _ (joined pace_form x) (length_paces fits ∙ sym in_paces))));
        typed = record {
          head = record { heartbeat = t.heartbeat; stay = t.stay; store = t.store; ready = t.ready; held = t.held; paces = fits };
          plans = h.typed.plans;
        };
      }

  pub put_plans_lem : (x : List Plan) → Many PlanTyped (2 * each_way) x → Holds (sets bs plans_place (joined plan_form x)) (planned x s)
  put_plans_lem x fits =
      let frames = each_way * data_length in
      let paces = each_way * pace_length in
      let same : length (joined plan_form x) ≡ length (joined plan_form s.axis.plans) =
      length_plans fits ∙ sym (length_plans h.typed.plans) in
      record {
        bytes = rw (h.bytes, flat s, flat (planned x s))
            (behind_ready (frames + paces) (joined plan_form x) _ (within (joined data_form s.axis.held) frames paces (joined plan_form x) _ in_held
            (within (joined pace_form s.axis.paces) paces 0 (joined plan_form x) _ in_paces
            (last (joined plan_form s.axis.plans) (joined plan_form x) same))));
        typed = record {
          head = record { heartbeat = t.heartbeat; stay = t.stay; store = t.store; ready = t.ready; held = t.held; paces = t.paces };
          plans = fits;
        };
      }
    where
      -- the last part: nothing is behind it
      last : (b xs : List ℕ) → length xs ≡ length b → sets b 0 xs ≡ xs
      last b xs e = rw (append-nil b, append-nil xs) at (sets_first b [] xs e)

-- What the entries of a file do, where all of them are taken, and where one of them is not: the one walk over a load.
-- Assumes nothing.
use Rattle.theorems.proofs.Words.{ℕ, suc, ◌+◌, arith, ◌≡◌, refl, ap, List, [], ◌∷◌, ◌++◌, length, State, false}
use Rattle.theorems.proofs.Words.{eqb_comm}
use Rattle.theorems.proofs.Writes.{stored_append}
use Rattle.state.specs.declared.Occasion.TheVariants.{Plain}
use Rattle.rules_dictionary.specs.Table.{Row, lookup, Found, found, the_name, no_object, no_subindex, control_word}
use Rattle.rules_dictionary.specs.Values.{Write, write, stored}
use Rattle.rules_dictionary.specs.Aborts.{Abort, Verdict, good, bad, no_writing, no_object as absent, no_subindex as absent_sub}
use Rattle.rules_dictionary.proofs.LookUp.{is_found}
use Rattle.files.specs.ConciseDcf.{Entry}
use Rattle.rules_services.specs.Effects.{Effect, becomes, and_then}
use Rattle.rules_services.specs.Written.{applied, wrote, count_restarted, mode_acted, control_acted}
use Rattle.rules_services.specs.Sdo.{offer_verdict, judged, download}
use Rattle.rules_services.specs.Load.{listed, entry_loaded, Loaded, loads, fails, and_rest, goes_on, load_from, is_for_control_word}
use Rattle.theorems.specs.Promises.{object_verdict}
use Rattle.theorems.specs.PromisesOfLoad.{entry_verdict}

-- what an entry writes to the row that it names
abbrev pub entry_write : Entry → Row → Write
entry_write x r = write r (listed x r).value

-- all are taken, each on what those before it left
pub data Entries : State → List ℕ → List Entry → Effect → Type 0 where
  none : {s : State} {d : List ℕ} → Entries s d [] (becomes s)
  next : {s : State} {d : List ℕ} (x : Entry) (r : Row) {es : List Entry} {e : Effect} → lookup x.index x.subindex ≡ found r →
      offer_verdict s.node.nmt d (listed x r) ≡ good →
      Entries (applied (entry_write x r ∷ []) s d).state (stored (applied (entry_write x r ∷ []) s d).writes d) es e →
      Entries s d (x ∷ es) (and_then d (applied (entry_write x r ∷ []) s d) (λ t d'. e))

-- or entry m is the first that is not, where n is the number of the first one
pub record Stops (es : List Entry) (s : State) (d : List ℕ) (n m : ℕ) (a : Abort) : Type 0 where
  pub before : List Entry
  pub failing : Entry
  pub behind : List Entry
  pub split : es ≡ before ++ failing ∷ behind
  pub number : m ≡ n + length before
  pub effect : Effect
  pub taken : Entries s d before effect
  pub why : entry_verdict failing effect.state.node.nmt (stored effect.writes d) ≡ bad a

abbrev pub Goes : List Entry → State → List ℕ → ℕ → Loaded → Type 0
Goes es s d n (loads e) = Entries s d es e
Goes es s d n (fails m a) = Stops es s d n m a

-- the first one of all fails
stops_here : {n : ℕ} (x : Entry) (es : List Entry) (s : State) (d : List ℕ) (a : Abort) → entry_verdict x s.node.nmt d ≡ bad a →
    Stops (x ∷ es) s d n n a
unfolding stored
stops_here x es s d a why =
    record {
      before = [];
      failing = x;
      behind = es;
      split = refl;
      number = omega arith;
      effect = becomes s;
      taken = none;
      why = why;
    }

module _ (n : ℕ) (x : Entry) (es : List Entry) (s : State) (d : List ℕ) where
  -- the first one is taken, and then what the rest does
  rest_goes : (r : Row) → lookup x.index x.subindex ≡ found r → offer_verdict s.node.nmt d (listed x r) ≡ good →
      let a = applied (entry_write x r ∷ []) s d in
      (l : Loaded) → Goes es a.state (stored a.writes d) (suc n) l → Goes (x ∷ es) s d n (and_rest d a l)
  unfolding and_then
  rest_goes r q v (loads e) h = next x r q v h
  rest_goes r q v (fails m b) h =
      let a = applied (entry_write x r ∷ []) s d in
      record {
        before = x ∷ h.before;
        failing = h.failing;
        behind = h.behind;
        split = ap (λ (ys : List Entry). x ∷ ys) h.split;
        number = omega (arith, h.number);
        effect = and_then d a (λ t d'. h.effect);
        taken = next x r q v h.taken;
        why = rw (stored_append a.writes h.effect.writes d) h.why;
      }

  -- what the rest does from wherever it starts
  abbrev Rest : Type 0
  Rest = (t : State) (c : List ℕ) → Goes es t c (suc n) (load_from (suc n) es t c)

  by_verdict : Rest → (r : Row) → lookup x.index x.subindex ≡ found r → (v : Verdict) → offer_verdict s.node.nmt d (listed x r) ≡ v →
      Goes (x ∷ es) s d n (goes_on n d (judged v (listed x r) s d) (load_from (suc n) es))
  unfolding goes_on judged object_verdict
  by_verdict rest r q good v =
      let a = applied (entry_write x r ∷ []) s d in
      rest_goes r q v (load_from (suc n) es a.state (stored a.writes d)) (rest a.state (stored a.writes d))
  by_verdict rest r q (bad a) v = stops_here x es s d a (rw (q, v))

  by_found : Rest → (f : Found) → lookup x.index x.subindex ≡ f →
      Goes (x ∷ es) s d n (goes_on n d (download (listed x) f s d) (load_from (suc n) es))
  unfolding goes_on download object_verdict
  by_found rest (found r) q = by_verdict rest r q (offer_verdict s.node.nmt d (listed x r)) refl
  by_found rest the_name q = stops_here x es s d no_writing (rw q)
  by_found rest no_object q = stops_here x es s d absent (rw q)
  by_found rest no_subindex q = stops_here x es s d absent_sub (rw q)

-- THE WALK
pub goes : (n : ℕ) (es : List Entry) (s : State) (d : List ℕ) → Goes es s d n (load_from n es s d)
unfolding load_from entry_loaded
goes n [] s d = none
goes n (x ∷ es) s d = by_found n x es s d (goes (suc n) es) (lookup x.index x.subindex) refl

-- ---- an entry that is not for 6040h

not_control : (x : Entry) {r : Row} → lookup x.index x.subindex ≡ found r → is_for_control_word x ≡ false →
    wrote control_word (entry_write x r ∷ []) ≡ false
not_control x {r} q h = rw (eqb_comm control_word.index r.index, (is_found _ _ q).0, h)

-- it writes its value and nothing else, and sends nothing
pub entry_applied : (x : Entry) {r : Row} (s : State) (d : List ℕ) → lookup x.index x.subindex ≡ found r → is_for_control_word x ≡ false →
    let ws = entry_write x r ∷ [] in
    applied ws s d ≡ record { state = mode_acted ws (count_restarted ws s) (stored ws d); writes = ws; sent = []; occasion = Plain }
unfolding applied control_acted
entry_applied x s d q h = rw (not_control x q h)

-- What a call decides on: a refusal, power-up, or the service of a frame, an event or a load in a sound state. The refusals are walked here alone.
-- Assumes nothing.
use Rattle.theorems.proofs.Words.{ℕ, ◌≡◌, refl, Bool, true, not, ◌&&◌, ◌||◌, List, eqb, leb, eqb-true, length, Refusal, Accepted}
use Rattle.theorems.proofs.Words.{DictionaryLength, OutputLength, NodeId, NotSound, BadFrame, BadEvent, OutOfPlace, State, Event, Option}
use Rattle.theorems.proofs.Words.{Some, None, by_match, false_not, false, not-false, WrongState, FileTooShort, TooManyEntries, FileMisfit}
use Rattle.theorems.proofs.Words.{ControlWordEntry, EntryAborted}
use Rattle.theorems.proofs.Entries.{Entries, Goes, goes}
use Rattle.files.specs.ConciseDcf.{entries_in, is_too_short, is_overfull, is_misfit}
use Rattle.rules_services.specs.Effects.{Effect}
use Rattle.rules_services.specs.Load.{may_load, names_control_word, Loaded, loads, fails, load_all, first_entry}
use Rattle.rules_dictionary.specs.{Table.dictionary_length, TheNode.is_node_id}
use Rattle.rules_services.specs.{Nmt.power_up, Events.event_of, Events.is_in_place, Events.happens}
use Rattle.rules.specs.{Outcome.most_data, Sound.sound}
use Rattle.rules.specs.Calls.{Call, power_up_call, frame_call, event_call, load_call, loaded_as, load_decision, first_refused, output_for}
use Rattle.rules.specs.Calls.{Decision, refuses, does as performs, framed, event_decision, decision, decided}
use Rattle.rules.specs.Calls.{refusal_number, last_frame_identifier}

-- a refusal is given: its number is not that of an accepted call
abbrev pub is_given : Refusal → Bool
is_given r = not (eqb (refusal_number r) (refusal_number Accepted))

abbrev pub is_unsound : Refusal → Bool
is_unsound r = eqb (refusal_number r) (refusal_number NotSound)

pub data Decided (s : State) (d : List ℕ) : Call → Decision → Type 0 where
  refusing : {c : Call} (r : Refusal) → is_given r ≡ true → (not (is_unsound r) || not (sound s d)) ≡ true → Decided s d c (refuses r)
  powering : (n : ℕ) → is_node_id n ≡ true → length d ≡ dictionary_length → Decided s d (power_up_call n) (performs (power_up n))
  framing : (i : ℕ) (bs : List ℕ) → length d ≡ dictionary_length → sound s d ≡ true → Decided s d (frame_call i bs) (performs (framed i bs s d))
  happening : (k : ℕ) (xs : List ℕ) (e : Event) → event_of k xs ≡ Some e → is_in_place e s ≡ true → length d ≡ dictionary_length → sound s d ≡ true →
      Decided s d (event_call k xs) (performs (happens e s d))
  loading : (f : List ℕ) (e : Effect) → may_load s ≡ true → names_control_word (entries_in f) ≡ false → Entries s d (entries_in f) e →
      length d ≡ dictionary_length → sound s d ≡ true → Decided s d (load_call f) (performs e)

module _ (s : State) (d : List ℕ) where
  told_decided : (k : ℕ) (xs : List ℕ) (t : Option Event) → event_of k xs ≡ t → length d ≡ dictionary_length → sound s d ≡ true →
      Decided s d (event_call k xs) (event_decision t s d)
  unfolding event_decision
  told_decided k xs None q l h = refusing BadEvent refl refl
  told_decided k xs (Some e) q l h =
      by_match (Decided s d (event_call k xs)) (is_in_place e s) (λ p. happening k xs e q p l h) (λ p. refusing OutOfPlace refl refl)

  pub load_decided : (f : List ℕ) → length d ≡ dictionary_length → sound s d ≡ true → Decided s d (load_call f) (load_decision f s d)
  unfolding load_decision first_refused
  load_decided f l h =
      let P : Decision → Type 0 = Decided s d (load_call f) in
      by_match P (not (may_load s)) (λ e. refusing WrongState refl refl)
      (λ served. by_match P (is_too_short f) (λ e. refusing FileTooShort refl refl)
      (λ e. by_match P (is_overfull f) (λ e. refusing TooManyEntries refl refl)
      (λ e. by_match P (is_misfit f) (λ e. refusing FileMisfit refl refl)
      (λ e. by_match P (names_control_word (entries_in f)) (λ e. refusing ControlWordEntry refl refl)
      (λ none. by_entries (not-false (may_load s) served) none (load_all (entries_in f) s d) (goes first_entry (entries_in f) s d))))))
    where
      by_entries : may_load s ≡ true → names_control_word (entries_in f) ≡ false → (x : Loaded) → Goes (entries_in f) s d first_entry x →
          Decided s d (load_call f) (loaded_as x)
      by_entries served none (loads e) g = loading f e served none g l h
      by_entries served none (fails n a) g = refusing EntryAborted refl refl

  decision_decided : (c : Call) → length d ≡ dictionary_length → Decided s d c (decision c s d)
  unfolding decision
  decision_decided (power_up_call n) l =
      by_match (Decided s d (power_up_call n)) (is_node_id n) (λ h. powering n h l) (λ h. refusing NodeId refl refl)
  decision_decided (frame_call i bs) l =
      by_match (Decided s d (frame_call i bs)) (sound s d)
      (λ h. by_match (Decided s d (frame_call i bs)) (leb i last_frame_identifier && leb (length bs) most_data) (λ fine. framing i bs l h)
      (λ bad. refusing BadFrame refl refl))
      (λ h. refusing NotSound refl (false_not (sound s d) h))
  decision_decided (event_call k xs) l =
      by_match (Decided s d (event_call k xs)) (sound s d) (λ h. told_decided k xs (event_of k xs) refl l h)
      (λ h. refusing NotSound refl (false_not (sound s d) h))
  decision_decided (load_call f) l =
      by_match (Decided s d (load_call f)) (sound s d) (λ h. load_decided f l h) (λ h. refusing NotSound refl (false_not (sound s d) h))

  -- THE LAW
  pub decided_by : (c : Call) (o : List ℕ) → Decided s d c (decided c s d o)
  unfolding decided
  decided_by c o =
      by_match (Decided s d c) (eqb (length d) dictionary_length)
      (λ l. by_match (Decided s d c) (leb (output_for c) (length o)) (λ room. decision_decided c (eqb-true _ _ l))
      (λ room. refusing OutputLength refl refl))
      (λ l. refusing DictionaryLength refl refl)

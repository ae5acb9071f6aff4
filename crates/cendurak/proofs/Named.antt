-- What a load names fits the number that C gets: the entry is one of 512 at the most, and every abort code has 32 bits.
-- Assumes nothing.
use Prim.Native.Nat.{ℕ, zero, suc, ◌+◌, ◌^◌, ◌<◌, ◌≤◌}
use native.Mathlib.Omega.{arith}
use mathlib.Core.Path.{◌≡◌, refl, ◌∙◌, ap}
use mathlib.Core.Logic.{inl, inr}
use mathlib.Core.Bool.{true, false, not}
use mathlib.Core.List.{List, [], ◌∷◌}
use borrow.Author.Tests.{ltb-false}
use lib.Dec.{eqb}
use lib.ListN.{length, drop, length-append}
use Rattle.state.specs.declared.Refusal.{Refusal}
use Rattle.state.specs.declared.Refusal.TheVariants.{DictionaryLength, NotSound, WrongState, FileTooShort, TooManyEntries}
use Rattle.state.specs.declared.State.{State}
use Rattle.rules_dictionary.specs.Table.{dictionary_length}
use Rattle.rules_dictionary.specs.Aborts.{Abort, abort_code, unknown_command, wrong_toggle, no_object, no_subindex, no_writing, too_long, too_short}
use Rattle.rules_dictionary.specs.Aborts.{wrong_time}
use Rattle.rules_dictionary.specs.Aborts.{below_range, above_range, bad_value, limits_swapped, not_mappable, over_length}
use Rattle.files.specs.ConciseDcf.{Reading, misfit, whole, in_front, reading, entries_of, entries_in, entry_at, entry_size, is_there}
use Rattle.files.specs.ConciseDcf.{count_in, count_size}
use Rattle.files.specs.ConciseDcf.{most_entries, is_too_short, is_overfull, is_misfit}
use Rattle.rules_services.specs.Load.{may_load, names_control_word, Loaded, loads, fails, load_all, first_entry, Named, named_by}
use Rattle.rules.specs.Sound.{sound}
use Rattle.rules.specs.Calls.{load_call, Decision, refuses, load_decision, first_refused, decision, decided, refused, answered}
use Rattle.rules.specs.Calls.{answer, is_aborted, load_answer}
use Rattle.theorems.proofs.Booleans.{clash, by_match, either, whichever}
use Rattle.theorems.proofs.Entries.{Goes, goes}

code_fits : (a : Abort) → abort_code a < 2 ^ 32
code_fits unknown_command = omega arith
code_fits wrong_toggle = omega arith
code_fits no_object = omega arith
code_fits no_subindex = omega arith
code_fits no_writing = omega arith
code_fits too_long = omega arith
code_fits too_short = omega arith
code_fits wrong_time = omega arith
code_fits below_range = omega arith
code_fits above_range = omega arith
code_fits bad_value = omega arith
code_fits limits_swapped = omega arith
code_fits not_mappable = omega arith
code_fits over_length = omega arith

-- no more entries are read than the count says
few_read : (n : ℕ) (bs : List ℕ) → length (entries_of (reading n bs)) ≤ n
unfolding reading
few_read zero [] = omega arith
few_read zero (b ∷ bs) = omega arith
few_read (suc n) bs =
    whichever (λ (r : Reading). length (entries_of r) ≤ suc n) (is_there bs)
    (in_front_lem (reading n (drop (entry_size bs) bs)) (few_read n (drop (entry_size bs) bs))) (omega arith)
  where
    in_front_lem : (r : Reading) → length (entries_of r) ≤ n → length (entries_of (in_front (entry_at bs) r)) ≤ suc n
    in_front_lem misfit h = omega arith
    in_front_lem (whole es) h = omega (arith, h)

module _ (f : List ℕ) (s : State) (d : List ℕ) where
  -- the load came to an entry: the file is not overfull
  abbrev Meets : Decision → Type 0
  Meets x = is_aborted (answered x s d []).refusal ≡ true → is_overfull f ≡ false

  another : (r : Refusal) → is_aborted r ≡ false → Meets (refuses r)
  unfolding answered refused
  another r other e = clash (is_aborted r) e other

  few_by : Meets (load_decision f s d)
  unfolding load_decision first_refused
  few_by =
      by_match Meets (not (may_load s)) (λ e. another WrongState refl)
      (λ e. by_match Meets (is_too_short f) (λ e. another FileTooShort refl)
      (λ e. by_match Meets (is_overfull f) (λ e. another TooManyEntries refl)
      (λ few. by_match Meets (is_misfit f) (λ e k. few)
      (λ e. by_match Meets (names_control_word (entries_in f)) (λ e k. few) (λ e k. few)))))

  few_called : is_aborted (answer (load_call f) s d []).refusal ≡ true → is_overfull f ≡ false
  unfolding answer decided decision
  few_called =
      by_match Meets (eqb (length d) dictionary_length)
      (λ l. by_match Meets (sound s d) (λ h. few_by) (λ h. another NotSound refl))
      (λ l. another DictionaryLength refl)

  -- what is named of the entries
  Fits : Named → Type 0
  Fits n = (n.entry < 2 ^ 16) × (n.code < 2 ^ 32)

  loaded_fits : length (entries_in f) ≤ most_entries → (x : Loaded) → Goes (entries_in f) s d first_entry x → Fits (named_by x)
  unfolding Fits
  loaded_fits l (loads e) g = (omega arith, omega arith)
  loaded_fits l (fails n a) g =
      let whole : length (entries_in f) ≡ length g.before + length (g.failing ∷ g.behind) =
      ap length g.split ∙ length-append g.before (g.failing ∷ g.behind) in
      (omega (arith, l, whole, g.number), code_fits a)

  pub named_fits : ((load_answer f s d).named.entry < 2 ^ 16) × ((load_answer f s d).named.code < 2 ^ 32)
  unfolding load_answer Fits
  named_fits =
      elim (either (is_aborted (answer (load_call f) s d []).refusal)) [
        | inl e ↦
            let few : length (entries_in f) ≤ most_entries =
            omega (arith, few_read (count_in f) (drop count_size f), ltb-false most_entries (count_in f) (few_called e)) in
            rw e (loaded_fits few (load_all (entries_in f) s d) (goes first_entry (entries_in f) s d))
        | inr e ↦ rw e (omega arith, omega arith)
      ]

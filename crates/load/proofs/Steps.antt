-- One entry tried, as the code goes: by what its verdict tells, and then those that are left.
-- Assumes nothing.
use Rattle.std.proofs.Common.{◌≡◌, ℕ, suc, ◌+◌, Bool, true, false, List, [], ◌∷◌, take, drop, is_ok, Ok, Err, Result, sym, refl, ap, ◌∙◌, subst}
use mathlib.Core.Bool.{or-false}
use lib.Seq.{sets}
use Rattle.std.specs.Prelude.{⊤}
use Rattle.sdo.specs.declared.aborts.Abort as declared
use Rattle.dictionary.specs.declared.Missing.{Missing}
use Rattle.dictionary.specs.declared.Missing.TheVariants.{NoObject, NoSubindex}
use Rattle.sdo.specs.Verdicts.{abort_of, abort_of_missing, result_of}
use Rattle.sdo.proofs.Verdicts.{good_result}
use Rattle.state.specs.declared.NmtState.TheVariants.{PreOperational}
use Rattle.rules_dictionary.specs.Numbers.{value, bytes}
use Rattle.rules_dictionary.specs.Table.{Row, table, found, lookup, place_of, mode, heartbeat_time, open_table}
use Rattle.rules_dictionary.specs.Values.{Write, write, stored}
use Rattle.rules_dictionary.specs.Aborts.{Verdict, good, bad}
use Rattle.rules_dictionary.specs.Members.{In}
use Rattle.rules_dictionary.proofs.Tests.{is_good_lem}
use Rattle.files.specs.declared.Listing.{Listing}
use Rattle.files.specs.ConciseDcf as dcf
use Rattle.files.specs.Listings.{listing_of}
use Rattle.files.proofs.Readings.{none_left, listed_size}
use Rattle.files.proofs.Places.{after, next_stands, next_entries}
use Rattle.dictionary.specs.declared.Entry.{Entry}
use Rattle.dictionary.specs.Entries.{Stands, IsFound}
use Rattle.output.specs.Leaves.{is_mapping}
use Rattle.sdo.specs.declared.Offer.{Offer}
use Rattle.sdo.specs.Requests.{offering, offered_by, offer_verdict_of}
use Rattle.sdo.proofs.Downloading.{offer_of_row, is_at, wrote_at}
use Rattle.load.specs.declared.Tally.{Tally}
use Rattle.load.specs.Trying.{listing_for, brought_by, verdict_on, written_by, taking, taken_at, aborted_with, Tried, tried_with, entry_tried}
use Rattle.load.specs.Trying.{entries_tried, Tries}

-- ---- to a row

-- noted by its place
noted_at : {x : Row} → In x table → (v : ℕ) (t : Tally) → taking (write x v ∷ []) t ≡ taken_at (place_of x) x.role t
unfolding is_at open_table
noted_at {x} i v t = rw (wrote_at heartbeat_time refl i v, wrote_at mode refl i v, or-false (is_mapping x.role))

turned_down : (v : Verdict) (ws : List Write) (t : Tally) (d : List ℕ) → {why : declared.Abort} → result_of v ≡ Err why →
    tried_with v ws t d ≡ record { tally = aborted_with why t; dictionary = d }
unfolding tried_with
turned_down good ws t d e = cc
turned_down (bad a) ws t d {why} e = let same : abort_of a ≡ why = cc in rw same

module _ (l : Listing) (t : Tally) (d : List ℕ) {e : Entry} (st : Stands l.index l.subindex e) {o : Offer}
    (offered : o ≡ offered_by (brought_by l) e.size)
    {given : Result ⊤ declared.Abort} (is : given ≡ result_of (offer_verdict_of PreOperational d e o)) where
  verdict_is : verdict_on l (found st.row) d ≡ offer_verdict_of PreOperational d e o
  unfolding verdict_on
  verdict_is =
      let over : Entry → Verdict = λ y. offer_verdict_of PreOperational d y (offered_by (brought_by l) y.size) in
      rw (← offer_of_row (brought_by l) PreOperational d st.row, ← ap over st.is_entry, ← offered)

  pub row_aborted : {r : Tally} {why : declared.Abort} → given ≡ Err why → r ≡ aborted_with why t → Tries (entry_tried l t d) r d
  row_aborted z h =
      let v = offer_verdict_of PreOperational d e o in
      rw (st.finds, verdict_is, turned_down v (written_by l (found st.row)) t d (sym is ∙ z)) record { tally = h; dictionary = refl }

  pub row_taken : {r : Tally} {d' : List ℕ} → given ≡ Ok tt → d' ≡ sets d e.place (bytes e.size o.value) → r ≡ taken_at e.place e.role t →
      Tries (entry_tried l t d) r d'
  unfolding tried_with written_by stored
  row_taken taken put h =
      let v = offer_verdict_of PreOperational d e o in
      let fine : v ≡ good = is_good_lem v (good_result v ∙ rw (← is, taken) refl) in
      let n = (offering (brought_by l) st.row).value in
      let same : o.value ≡ n =
      ap (λ (u : Offer). u.value) offered ∙ ap (λ (y : Entry). value (take y.size l.first)) st.is_entry in
      rw (st.finds, verdict_is, fine) record {
        tally = h ∙ ap (λ (y : Entry). taken_at y.place y.role t) st.is_entry ∙ sym (noted_at st.listed n t);
        dictionary = put ∙ rw same (st.writes n d);
      }

-- each entry that is tried counts
pub counts_one : (v : Verdict) (ws : List Write) (t : Tally) (d : List ℕ) → (tried_with v ws t d).tally.tried ≡ t.tried + 1
unfolding tried_with
counts_one good ws t d = refl
counts_one (bad a) ws t d = refl

-- ---- the first of those that are left

module _ (e : dcf.Entry) (es : List dcf.Entry) (t : Tally) (d : List ℕ) {r : Tally} {d' : List ℕ}
    (h : Tries (entry_tried (listing_for e) t d) r d') where
  abbrev first : Tried
  first = entry_tried (listing_for e) t d

  -- it stops, or the others follow
  abbrev onward : Bool → Tried
  onward b = elim b [ true ↦ entries_tried es first.tally first.dictionary | false ↦ first ]

  first_stops : is_ok r.last ≡ false → Tries (entries_tried (e ∷ es) t d) r d'
  unfolding entries_tried
  first_stops n =
      let other = sym (ap (λ (u : Tally). is_ok u.last) h.tally) ∙ n in
      subst (λ (b : Bool). Tries (onward b) r d') (sym other) h

  first_taken : is_ok r.last ≡ true → entries_tried es r d' ≡ entries_tried (e ∷ es) t d
  unfolding entries_tried
  first_taken z =
      let fine = sym (ap (λ (u : Tally). is_ok u.last) h.tally) ∙ z in
      ap (λ (u : Tally). entries_tried es u d') h.tally ∙ ap (entries_tried es first.tally) h.dictionary ∙ ap onward (sym fine)

-- an entry that is all there, as the code reads it
listing_there : (bs : List ℕ) → dcf.is_there bs ≡ true → listing_of bs ≡ listing_for (dcf.entry_at bs)
listing_there bs h =
    let l = listing_of bs in
    ap (λ (n : ℕ). record { index = l.index; subindex = l.subindex; size = n; first = l.first }) (listed_size bs h)

-- a result that is no error
pub is_taken : (x : Result ⊤ declared.Abort) → ((why : declared.Abort) → x ≡ Err why → ⊥) → x ≡ Ok tt
is_taken (Ok tt) h = refl
is_taken (Err why) h = absurd (h why refl)

-- THE LAWS of the entries that are left in a file, from a place on
module _ (at : ℕ) (f : List ℕ) (n m : ℕ) (one_more : n ≡ suc m) (fits : dcf.is_whole (dcf.reading n (drop at f)) ≡ true) (t : Tally) (d : List ℕ)
    {l : Listing} (is : l ≡ listing_of (drop at f)) {r : Tally} {d' : List ℕ} (h : Tries (entry_tried l t d) r d') where
  one_tried : Tries (entry_tried (listing_for (dcf.entry_at (drop at f))) t d) r d'
  one_tried = rw (is, listing_there (drop at f) (next_stands at f n m one_more fits).there) at h

  pub counted : r.tried ≡ t.tried + 1
  counted =
      let g = lookup l.index l.subindex in
      ap (λ (u : Tally). u.tried) h.tally ∙ counts_one (verdict_on l g d) (written_by l g) t d

  pub stops : is_ok r.last ≡ false → Tries (entries_tried (dcf.entries_of (dcf.reading n (drop at f))) t d) r d'
  stops z = rw (next_entries at f n m one_more fits) (first_stops _ _ t d one_tried z)

  pub goes_on : is_ok r.last ≡ true →
      entries_tried (dcf.entries_of (dcf.reading m (drop (after at f) f))) r d' ≡ entries_tried (dcf.entries_of (dcf.reading n (drop at f))) t d
  goes_on z = rw (next_entries at f n m one_more fits) (first_taken _ _ t d one_tried z)

-- none are left
pub all_tried : (at : ℕ) (f : List ℕ) (t : Tally) (d : List ℕ) {x : Tried} →
    entries_tried (dcf.entries_of (dcf.reading 0 (drop at f))) t d ≡ x → Tries x t d
unfolding entries_tried
all_tried at f t d {x} h =
    let e : record { tally = t; dictionary = d } ≡ x = rw (none_left (drop at f)) at h in
    record { tally = ap (λ (y : Tried). y.tally) e; dictionary = ap (λ (y : Tried). y.dictionary) e }

-- ---- nothing to try it on

pub none_tried : (l : Listing) (t : Tally) (d : List ℕ) (missing : Missing) → IsFound l.index l.subindex (Err missing) → {r : Tally} →
    r ≡ aborted_with (abort_of_missing missing) t → Tries (entry_tried l t d) r d
unfolding verdict_on written_by tried_with
none_tried l t d NoObject e h = rw e record { tally = h; dictionary = refl }
none_tried l t d NoSubindex e h = rw e record { tally = h; dictionary = refl }

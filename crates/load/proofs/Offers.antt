-- What an entry offers a row as the code reads it: the rules' offer, but that a size over four is cut, and the first four bytes are filled up.
-- Assumes nothing.
use Rattle.std.proofs.Common.{◌≡◌, ℕ, zero, suc, ◌+◌, ◌*◌, ◌≤◌, min, true, ltb, List, [], ◌∷◌, length, take, sym, refl, ap, ◌∙◌, inl, inr, arith}
use Rattle.std.proofs.Common.{lit≤}
use borrow.Author.Tests.{ltb-true, ltb-false, lt-ltb, le-ltb}
use lib.Seq.{take-nil}
use Rattle.state.specs.declared.State.{State}
use Rattle.state.specs.declared.NmtState.{NmtState}
use Rattle.state.specs.declared.NmtState.TheVariants.{PreOperational, Operational, Stopped}
use Rattle.state.specs.NmtStates.{is_pre_operational}
use Rattle.rules_dictionary.specs.Numbers.{value, padded}
use Rattle.rules_dictionary.specs.Table.{Row, ValueType, u8, u16, u32, i8, i32, size, size_of, Found, found, the_name, no_object, no_subindex, lookup}
use Rattle.rules_dictionary.specs.Values.{Write, write}
use Rattle.rules_dictionary.specs.Aborts.{Verdict, good, bad}
use Rattle.files.specs.ConciseDcf.{Entry}
use Rattle.files.specs.Listings.{first_bytes}
use Rattle.rules_services.specs.Sdo.{offer_verdict, Judgement, takes, aborts, judged, download}
use Rattle.rules_services.specs.Segments.{too_many}
use Rattle.rules_services.specs.Written.{applied}
use Rattle.rules_services.specs.Load.{listed, entry_loaded}
use Rattle.theorems.proofs.Booleans.{either}
use Rattle.sdo.specs.Requests.{offering}
use Rattle.load.specs.Trying.{listing_for, brought_by, verdict_on, written_by}

-- ---- a value in the first bytes

-- zeros behind the bytes add nothing
value_filled : (n k : ℕ) (xs : List ℕ) → n ≤ k → value (take n (padded 0 k xs)) ≡ value (take n xs)
unfolding value
value_filled zero k xs h = refl
value_filled (suc n) zero xs h = absurd (omega arith)
value_filled (suc n) (suc k) [] h = ap (λ (v : ℕ). 0 + 256 * v) (value_filled n k [] (omega arith) ∙ ap value (take-nil n))
value_filled (suc n) (suc k) (x ∷ xs) h = ap (λ (v : ℕ). x + 256 * v) (value_filled n k xs (omega arith))

-- no object has more bytes
size_most : (t : ValueType) → size t ≤ first_bytes
size_most u8 = lit≤ tt
size_most u16 = lit≤ tt
size_most u32 = lit≤ tt
size_most i8 = lit≤ tt
size_most i32 = lit≤ tt

-- ---- a size that is cut

module _ (s n : ℕ) (few : s ≤ first_bytes) where
  cut_longer : ltb s (min n too_many) ≡ ltb s n
  cut_longer =
      elim (either (ltb s n)) [
        | inl e ↦ lt-ltb s (min n too_many) (omega (arith, ltb-true s n e)) ∙ sym e
        | inr e ↦ le-ltb s (min n too_many) (omega (arith, ltb-false s n e)) ∙ sym e
      ]

  cut_shorter : ltb (min n too_many) s ≡ ltb n s
  cut_shorter =
      elim (either (ltb n s)) [
        | inl e ↦ lt-ltb (min n too_many) s (omega (arith, ltb-true n s e)) ∙ sym e
        | inr e ↦ le-ltb (min n too_many) s (omega (arith, ltb-false n s e)) ∙ sym e
      ]

-- ---- THE LAW: an entry is judged by its verdict on the dictionary, and writes what is written by it

module _ (e : Entry) (x : Row) where
  value_listed : (offering (brought_by (listing_for e)) x).value ≡ (listed e x).value
  value_listed = value_filled (size_of x) first_bytes e.content (size_most x.type)

  verdict_listed : (nmt : NmtState) (d : List ℕ) → offer_verdict nmt d (offering (brought_by (listing_for e)) x) ≡ offer_verdict nmt d (listed e x)
  unfolding offer_verdict
  verdict_listed nmt d =
      let n = length e.content in
      let few = size_most x.type in
      rw (cut_longer (size_of x) n few, cut_shorter (size_of x) n few, value_listed)

-- taken with these writes, or aborted
unfoldable pub judged_by : Verdict → List Write → State → List ℕ → Judgement
judged_by good ws s d = takes (applied ws s d)
judged_by (bad a) ws s d = aborts a

by_verdict : (v : Verdict) (e : Entry) (x : Row) (s : State) (d : List ℕ) →
    judged v (listed e x) s d ≡ judged_by v (write x (offering (brought_by (listing_for e)) x).value ∷ []) s d
unfolding judged judged_by
by_verdict good e x s d = rw value_listed
by_verdict (bad a) e x s d = refl

pub entry_judged : (e : Entry) (s : State) (d : List ℕ) (f : Found) → s.node.nmt ≡ PreOperational → lookup e.index e.subindex ≡ f →
    entry_loaded e s d ≡ judged_by (verdict_on (listing_for e) f d) (written_by (listing_for e) f) s d
unfolding entry_loaded download verdict_on written_by judged_by
entry_judged e s d f nmt is = rw is (go f)
  where
    go : (f : Found) → download (listed e) f s d ≡ judged_by (verdict_on (listing_for e) f d) (written_by (listing_for e) f) s d
    go (found x) =
        rw (verdict_listed e x PreOperational d)
        (ap (λ (m : NmtState). judged (offer_verdict m d (listed e x)) (listed e x) s d) nmt
        ∙ by_verdict (offer_verdict PreOperational d (listed e x)) e x s d)
    go the_name = refl
    go no_object = refl
    go no_subindex = refl

pub pre_operational_lem : (m : NmtState) → is_pre_operational m ≡ true → m ≡ PreOperational
pre_operational_lem PreOperational h = refl
pre_operational_lem Operational h = cc
pre_operational_lem Stopped h = cc

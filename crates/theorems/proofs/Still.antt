-- A transmit PDO whose ready frame no call changed, at no SYNC: it is not sent, and what is kept of it stays.
-- Assumes nothing.
use Rattle.theorems.proofs.Words.{ℕ, zero, suc, ◌+◌, arith, ◌≡◌, refl, Bool, true, false, cond, not, ◌&&◌, ◌||◌, and-false, or-false}
use Rattle.theorems.proofs.Words.{false≢true, true≢false, List, [], ◌∷◌, map, eqb-true, ne_eqb, eqb, ltb, get_or, PdoData, NmtState, Occasion}
use Rattle.theorems.proofs.Words.{Pace, Paced, and_left, and_right}
use Rattle.state.specs.Occasions.{is_synced}
use Rattle.rules_dictionary.specs.Table.{each_way, transmit_pdos}
use Rattle.rules_dictionary.specs.Legal.{is_cyclic}
use Rattle.rules_services.specs.PdoTraffic.{paced, pace_of, cyclic, acyclic, event_driven, works, type_of, idle}
use Rattle.rules.specs.Outcome.{transmissions, transmitters}
use Rattle.rules.specs.Sound.{pace_sound, count_sound, due_sound, pairwise}

-- type 0 is not cyclic
apart : (t : ℕ) → (is_cyclic t && eqb t 0) ≡ false
apart zero = refl
apart (suc t) = rw (ne_eqb (suc t) 0 (λ e. omega (arith, e))) (and-false (is_cyclic (suc t)))

pub idles : (m : NmtState) (d : List ℕ) (p : ℕ) (k : Pace) (occasion : Occasion) → is_synced occasion ≡ false → pace_sound m d p k ≡ true →
    cond (works m d p) (pace_of (type_of d p) occasion false k) (paced false 0 false) ≡ record { send = false; kept = k }
unfolding pace_of cyclic acyclic event_driven pace_sound count_sound due_sound
idles m d p k occasion off h =
    let counted = cond (works m d p && is_cyclic (type_of d p)) (ltb k.count (type_of d p)) (eqb k.count 0) in
    let marked = not k.due || (works m d p && eqb (type_of d p) 0) in
    rw (off, or-false k.due)
    (go (works m d p) (is_cyclic (type_of d p)) (eqb (type_of d p) 0) k.due (apart (type_of d p)) (and_left counted marked h)
    (and_right counted marked h))
  where
    go : (w c z u : Bool) → (c && z) ≡ false → cond (w && c) (ltb k.count (type_of d p)) (eqb k.count 0) ≡ true → (not u || (w && z)) ≡ true →
        cond w (cond c (paced false k.count false) (cond z (paced false 0 u) (paced false 0 false))) (paced false 0 false)
        ≡ record { send = false; kept = record { count = k.count; due = u } }
    go false c z false a n m = rw (eqb-true k.count 0 n)
    go true true z false a n m = refl
    go true false true false a n m = rw (eqb-true k.count 0 n)
    go true false false false a n m = rw (eqb-true k.count 0 n)
    go false c z true a n m = absurd (false≢true m)
    go true c false true a n m = absurd (false≢true m)
    go true true true true a n m = absurd (true≢false a)
    go true false true true a n m = rw (eqb-true k.count 0 n)

-- of all four: none is sent, and what is kept of each stays
pub at_each : (f : ℕ → Pace → Bool) (ks : List Pace) → pairwise f transmit_pdos ks ≡ true → (turns : ℕ → Paced) →
    ((t : ℕ) → f (each_way + t) (get_or ks t idle) ≡ true → turns t ≡ record { send = false; kept = get_or ks t idle }) →
    (d : List ℕ) (ready : List PdoData) → (transmissions d ready turns transmitters ≡ []) × (map (λ t. (turns t).kept) transmitters ≡ ks)
unfolding transmissions
at_each f [] p turns h d ready = absurd (false≢true p)
at_each f (a ∷ []) p turns h d ready = absurd (false≢true (and_right (f 4 a) _ p))
at_each f (a ∷ b ∷ []) p turns h d ready = absurd (false≢true (and_right (f 5 b) _ (and_right (f 4 a) _ p)))
at_each f (a ∷ b ∷ c ∷ []) p turns h d ready = absurd (false≢true (and_right (f 6 c) _ (and_right (f 5 b) _ (and_right (f 4 a) _ p))))
at_each f (a ∷ b ∷ c ∷ e ∷ []) p turns h d ready =
    let p1 = and_right (f 4 a) (f 5 b && (f 6 c && (f 7 e && true))) p in
    let p2 = and_right (f 5 b) (f 6 c && (f 7 e && true)) p1 in
    let p3 = and_right (f 6 c) (f 7 e && true) p2 in
    rw (
      h 0 (and_left (f 4 a) (f 5 b && (f 6 c && (f 7 e && true))) p),
      h 1 (and_left (f 5 b) (f 6 c && (f 7 e && true)) p1),
      h 2 (and_left (f 6 c) (f 7 e && true) p2),
      h 3 (and_left (f 7 e) true p3),
    ) (refl, refl)
at_each f (a ∷ b ∷ c ∷ e ∷ x ∷ ks) p turns h d ready =
    absurd (false≢true (and_right (f 7 e) _ (and_right (f 6 c) _ (and_right (f 5 b) _ (and_right (f 4 a) _ p)))))

-- The nodes that demand 2 shuts out do not keep the ten examples: of each kind, some line of some example is not met.
-- Assumes nothing.
use Rattle.theorems.proofs.Words.{ℕ, arith, ◌≡◌, refl, sym, ◌∙◌, ap, inl, inr, Bool, true, false, and-eq-true_iff, List, [], ◌∷◌, eqb}
use Rattle.theorems.proofs.Words.{eqb-true, length, get_or, State, In, here, there, and_left, and_right, all_in, either, clash}
use Rattle.rules_dictionary.specs.{Table.status_word, Values.read, Numbers.bytes}
use Rattle.rules_services.specs.Effects.{Frame}
use Rattle.rules.specs.Outcome.{same_by, encoded, sent_into, most_frames}
use Rattle.rules.specs.Calls.{Outcome, answer, refusal_number}
use Rattle.rules.specs.Scripts.{Line, Answers, blank, matches, runs, nothing, zeros, given_by, from_nothing}
use Rattle.rules.specs.Examples.{examples, open_examples}
use Rattle.rules.proofs.Examples.{ten_examples}
use Rattle.theorems.specs.Promises.{keeps_examples, RefusesEverything, RepliesAlike, SendsAlways, SendsNothingLater, ChangesNothingLater}
use Rattle.theorems.specs.Promises.{ShutsOut}

kept : keeps_examples answer ≡ true
unfolding from_nothing
kept = ten_examples

-- ---- a line that is met

record Meets (l : Line) (u : Outcome) : Type 0 where
  refusal : refusal_number u.refusal ≡ l.refusal
  word : read u.dictionary status_word ≡ l.word
  frames : u.frames ≡ length l.sent
  output : u.output ≡ sent_into blank l.sent

same_bytes : (xs ys : List ℕ) → same_by eqb xs ys ≡ true → xs ≡ ys
same_bytes [] [] h = refl
same_bytes [] (y ∷ ys) h = clash false h refl
same_bytes (x ∷ xs) [] h = clash false h refl
same_bytes (x ∷ xs) (y ∷ ys) h =
    cc (eqb-true x y (and_left (eqb x y) (same_by eqb xs ys) h), same_bytes xs ys (and_right (eqb x y) (same_by eqb xs ys) h))

meets : (l : Line) (u : Outcome) → matches l u ≡ true → Meets l u
unfolding matches
meets l u h =
    let k = simp and-eq-true_iff at h in
    record {
      refusal = eqb-true _ _ k.0.0.0;
      word = eqb-true _ _ k.0.0.1;
      frames = eqb-true _ _ k.0.1;
      output = same_bytes _ _ k.1;
    }

-- ---- a script that is kept: its first line is met, and the others are kept from there

both_passed : (a b : Bool) → (elim a [ true ↦ b | false ↦ false ]) ≡ true → (a ≡ true) × (b ≡ true)
both_passed true b h = (refl, h)
both_passed false b h = clash false h refl

module _ (node : Answers) where
  first_met : (l : Line) (ls : List Line) (s : State) (d : List ℕ) → runs node (l ∷ ls) s d ≡ true →
      let u = node l.call s d blank in Meets l u × (runs node ls u.state u.dictionary ≡ true)
  unfolding runs
  first_met l ls s d h =
      let u = node l.call s d blank in
      let k = both_passed (matches l u) (runs node ls u.state u.dictionary) h in
      (meets l u k.0, k.1)

  -- so each of its lines is met, from some state and dictionary
  each_met : {l : Line} {ls : List Line} (s : State) (d : List ℕ) → In l ls → runs node ls s d ≡ true →
      (t : State) × (e : List ℕ) × Meets l (node l.call t e blank)
  each_met {l} s d (here {xs = ls}) h = (s, d, (first_met l ls s d h).0)
  each_met s d (there {y = l} {xs = ls} i) h =
      let u = node l.call s d blank in
      each_met u.state u.dictionary i (first_met l ls s d h).1

  -- ---- where the node keeps the examples

  module _ (all_kept : keeps_examples node ≡ true) where
    script_kept : {ls : List Line} → In ls examples → runs node ls nothing zeros ≡ true
    unfolding given_by
    script_kept i = all_in (given_by node) i all_kept

    line_met : {l : Line} {ls : List Line} → In ls examples → In l ls → (t : State) × (e : List ℕ) × Meets l (node l.call t e blank)
    line_met i j = each_met nothing zeros j (script_kept i)

  -- ---- of each kind, the line that it does not meet

  refusing : RefusesEverything node → keeps_examples node ≡ true → ⊥
  unfolding open_examples
  refusing h k = let (s, d, m) = line_met k here here in h _ s d blank m.refusal

  -- 60h to a write of 6040h, and 4Bh to an upload of 6041h
  replying : (fs : List Frame) → RepliesAlike node fs → keeps_examples node ≡ true → ⊥
  unfolding open_examples sent_into encoded bytes
  replying fs h k =
      let (s, d, m) = line_met k (there (there (there here))) (there (there (there here))) in
      let (t, e, n) = line_met k (there (there (there here))) (there (there (there (there (there here))))) in
      let first : ◌≡◌ {A = ℕ} 0x60 0x4B =
      ap (λ (o : List ℕ). get_or o 3 0) (sym m.output ∙ h _ s d blank ∙ sym (h _ t e blank) ∙ n.output) in
      omega arith

  -- one frame to power-up
  counting : (n : ℕ) → SendsAlways node n → keeps_examples node ≡ true → n ≡ 1
  unfolding open_examples
  counting n h k = let (s, d, m) = line_met k here here in sym (h _ s d blank) ∙ m.frames

  -- one frame to a write of 6040h
  silent : SendsNothingLater node → keeps_examples node ≡ true → ⊥
  unfolding open_examples
  silent h k =
      let (s, d, m) = line_met k (there here) (there (there (there here))) in
      let none : ◌≡◌ {A = ℕ} 0 1 = sym (h _ s d blank refl) ∙ m.frames in
      omega arith

  -- 6041h is 0200h after power-up, and 0240h when the drive has started
  unmoved : ChangesNothingLater node → keeps_examples node ≡ true → ⊥
  unfolding open_examples
  unmoved h k =
      let (m, rest) = first_met _ _ nothing zeros (script_kept k here) in
      let n = (first_met _ _ _ _ rest).0 in
      let word : ◌≡◌ {A = ℕ} 0x0200 0x0240 = sym m.word ∙ ap (λ (d : List ℕ). read d status_word) (sym (h _ _ _ blank refl)) ∙ n.word in
      omega arith

not_kept : (node : Answers) → (keeps_examples node ≡ true → ⊥) → keeps_examples node ≡ false
not_kept node h = elim (either (keeps_examples node)) [ inl e ↦ absurd (h e) | inr e ↦ e ]

pub shuts_out : ShutsOut
shuts_out = (
  kept,
  λ node h. not_kept node (refusing node h),
  λ node fs h. not_kept node (replying node fs h),
  λ node h. not_kept node (λ k. let one = counting node 0 h k in omega arith),
  λ node h. not_kept node (λ k. let one = counting node most_frames h k in omega arith),
  λ node h. not_kept node (silent node h),
  λ node h. not_kept node (unmoved node h),
)

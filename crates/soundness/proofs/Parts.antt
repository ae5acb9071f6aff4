-- Soundness is the conjunction of the parts that the code tests.
-- Assumes nothing.
use Prim.Native.Nat.{ℕ, ◌<◌}
use mathlib.Core.Path.{◌≡◌, refl, sym, ◌∙◌, ap}
use mathlib.Core.Bool.{Bool, true, not, ◌&&◌, and_assoc, and_comm, and-false}
use mathlib.Core.List.{List, [], ◌∷◌, map}
use borrow.Author.Tests.{not-true}
use lib.ListN.{length, get_or}
use Rattle.drive.specs.declared.Drive.{Drive}
use Rattle.state.specs.declared.Node.{Node}
use Rattle.state.specs.declared.State.{State}
use Rattle.rules_dictionary.specs.Numbers.{all, are_bytes}
use Rattle.rules_dictionary.specs.TheNode.{is_node_id}
use Rattle.rules_dictionary.specs.Table.{table, identifier, pdos, transmit_pdos, dictionary_length}
use Rattle.rules_dictionary.specs.Values.{write, read, unpacked}
use Rattle.rules_dictionary.specs.Aborts.{is_good}
use Rattle.rules_dictionary.specs.Legal.{entry_verdict, map_words, identifiers, bad_identifier}
use Rattle.rules_dictionary.specs.Members.{In}
use Rattle.rules_dictionary.proofs.Tests.{and_left, and_right, and_both, all_in}
use Rattle.rules_dictionary.proofs.Members.{all_of}
use Rattle.rules_dictionary.specs.Plans.{mapped, plan_for, plans_of, ready_for, ready_of}
use Rattle.rules.specs.Outcome.{same_by, same_plan, same_data, status_of}
use Rattle.rules.specs.Sound.{pairwise, constants_as_listed, values_legal, dictionary_sound}
use Rattle.rules.specs.Sound.{status_as_made, mode_as_made, plans_fresh, ready_fresh, drive_sound, heartbeat_sound, waiting_sound, transfer_sound, stay_sound}
use Rattle.rules.specs.Sound.{sound}
use Rattle.theorems.proofs.Booleans.{false_not}
use Rattle.theorems.proofs.Dictionary.{of_values, words_legal, word_legal, constant_row, from_test, to_test}
use Rattle.form.specs.Form.{transfer_place, state_length, state_of, is_form}
use Rattle.form.specs.Own.{head_own, transfer_own, plans_own, is_own}
use Rattle.form.proofs.OneForm.{is_own_lem}
use Rattle.mapping.proofs.Assembly.{are_bytes_lem}
use Rattle.mapping.specs.Words.{mapping_legal}
use Rattle.mapping.proofs.Orders.{swap, both_ways}
use Rattle.soundness.specs.Rows.{row_tests, limits_in_order, few_moves}
use Rattle.soundness.specs.Keys.{identifiers_legal}
use Rattle.soundness.specs.Kept.{plans_kept, plans_kept_in, ready_kept}
use Rattle.soundness.specs.Waiting.{wait_sound}
use Rattle.soundness.specs.Transfers.{transfer_clear}
use Rattle.soundness.specs.Parts.{dictionary_clauses, drive_clauses, pdo_clauses}
use Rattle.soundness.proofs.RowTests.{ranged, rows_tested}

-- ---- the dictionary: what each row may hold, in parts

-- the clauses of a dictionary by themselves
abbrev clauses_apart : ℕ → List ℕ → Bool
clauses_apart n d =
    (constants_as_listed n d && all ranged (unpacked table d)) && (limits_in_order d && (all (mapping_legal d) pdos && identifiers_legal d))

dictionary_parts : (n : ℕ) (d : List ℕ) → dictionary_sound n d ≡ clauses_apart n d
unfolding dictionary_sound mapping_legal identifiers_legal ranged
dictionary_parts n d = both_ways _ _ to from
  where
    to : dictionary_sound n d ≡ true → clauses_apart n d ≡ true
    to h =
        let ok = from_test n d h in
        and_both _ _
        (and_both _ _ (and_left (constants_as_listed n d) (values_legal d) h)
        (of_values ranged d ∙ all_of (λ x. ranged (write x (read d x))) table ok.ranged))
        (and_both _ _ ok.ordered
        (and_both _ _ (all_of (mapping_legal d) pdos (λ p i. and_both _ _ (words_legal ok i) (ok.counts p i)))
        (all_of (λ p. not (bad_identifier (identifiers d) p (read d (identifier p)))) pdos (λ p i. false_not _ (ok.named p i)))))

    from : clauses_apart n d ≡ true → dictionary_sound n d ≡ true
    from h =
        let rows = and_left (constants_as_listed n d && all ranged (unpacked table d)) _ h in
        let rest = and_right (constants_as_listed n d && all ranged (unpacked table d)) _ h in
        let pdo = and_right (limits_in_order d) _ rest in
        let maps : (p : ℕ) → In p pdos → mapping_legal d p ≡ true =
        λ p i. all_in (mapping_legal d) i (and_left (all (mapping_legal d) pdos) (identifiers_legal d) pdo) in
        to_test n d (record {
          listed = λ x i k. constant_row n d (and_left (constants_as_listed n d) _ rows) i k;
          ranged = λ x i. all_in (λ x. ranged (write x (read d x))) i
              (sym (of_values ranged d) ∙ and_right (constants_as_listed n d) _ rows);
          words = λ p k i j. word_legal d i j (and_left _ _ (maps p i));
          counts = λ p i. and_right (all (λ w. is_good (entry_verdict p w)) (map_words d p)) _ (maps p i);
          named = λ p i. not-true _ (all_in (λ p. not (bad_identifier (identifiers d) p (read d (identifier p)))) i
              (and_right (all (mapping_legal d) pdos) (identifiers_legal d) pdo));
          ordered = and_left (limits_in_order d) _ rest;
        })

-- the clauses of the rules and those of the code
ordered : (n k f l m i s o p r w h t x y : Bool) →
    (n && ((k && f) && (l && (m && i))) && s && o && p && r && w && h && t && x && y)
    ≡ (x && (y && (n && (((k && l) && i) && (((s && o) && (w && h)) && ((f && (m && p)) && (r && t)))))))
ordered n k f l m i s o p r w h t x y = simp (and_assoc, and_comm, swap)

-- ---- what is kept for the PDOs

-- a test of pairs whose first two parts look at one of each only
apart : {B : Type 0} (a b : ℕ → Bool) (c : ℕ → B → Bool) (xs : List ℕ) (ys : List B) →
    pairwise (λ x y. a x && (b x && c x y)) xs ys ≡ (all a xs && (all b xs && pairwise c xs ys))
apart a b c [] [] = refl
apart a b c [] (y ∷ ys) = refl
apart a b c (x ∷ xs) [] = rw (and-false (all b (x ∷ xs))) (sym (and-false (all a (x ∷ xs))))
apart a b c (x ∷ xs) (y ∷ ys) = rw (apart a b c xs ys) (shuffled (a x) (b x) (c x y) (all a xs) (all b xs) (pairwise c xs ys))
  where
    shuffled : (a b c d e f : Bool) → ((a && (b && c)) && (d && (e && f))) ≡ ((a && d) && ((b && e) && (c && f)))
    shuffled a b c d e f = simp (and_assoc, swap)

same_pairs : {B : Type 0} (f : B → B → Bool) (g : ℕ → B) (xs : List ℕ) (ys : List B) → same_by f ys (map g xs) ≡ pairwise (λ x y. f y (g x)) xs ys
same_pairs f g [] [] = refl
same_pairs f g [] (y ∷ ys) = refl
same_pairs f g (x ∷ xs) [] = refl
same_pairs f g (x ∷ xs) (y ∷ ys) = ap (λ (b : Bool). f y (g x) && b) (same_pairs f g xs ys)

module _ (s : State) (d : List ℕ) where
  ready_kept_lem : ready_fresh s d ≡ ready_kept d s.axis.ready
  unfolding ready_fresh ready_of ready_kept
  ready_kept_lem = same_pairs same_data (ready_for d) transmit_pdos s.axis.ready

  plans_kept_lem : plans_kept d s.axis.plans ≡ (all (few_moves d) pdos && (all (mapping_legal d) pdos && plans_fresh s d))
  unfolding plans_kept plans_fresh plans_of
  plans_kept_lem =
      apart (few_moves d) (mapping_legal d) (λ p x. same_plan x (plan_for (mapped d p))) pdos s.axis.plans
      ∙ ap (λ (b : Bool). all (few_moves d) pdos && (all (mapping_legal d) pdos && b))
      (sym (same_pairs same_plan (λ p. plan_for (mapped d p)) pdos s.axis.plans))

  -- THE LAW: soundness, in the parts that the code tests
  sound_parts : length d ≡ dictionary_length → are_bytes d ≡ true →
      sound s d
      ≡ (transfer_sound s.transfer
      && (stay_sound s.axis.drive d
      && (is_node_id s.node.id
      && (dictionary_clauses s.node.id d
      && (drive_clauses s.node s.axis.drive d
      && (plans_kept d s.axis.plans
      && (ready_kept d s.axis.ready && wait_sound s.node.nmt d s.axis.paces s.axis.held)))))))
  unfolding sound dictionary_clauses drive_clauses status_as_made status_of mode_as_made waiting_sound wait_sound
  sound_parts long bytes =
      rw (plans_kept_lem, ← ready_kept_lem, dictionary_parts s.node.id d, rows_tested s.node.id d long bytes)
      (ordered (is_node_id s.node.id) (row_tests s.node.id d) (all (few_moves d) pdos) (limits_in_order d) (all (mapping_legal d) pdos)
      (identifiers_legal d) (status_as_made s d) (mode_as_made s d)
      (plans_fresh s d) (ready_fresh s d) (drive_sound s.axis.drive d) (heartbeat_sound s.node.heartbeat d) (waiting_sound s d)
      (transfer_sound s.transfer) (stay_sound s.axis.drive d))

-- ---- the bytes

-- the test of the plans' bytes stands behind the others, that of the transfer's before them
behind : (h w o x y n l v k : Bool) →
    ((h && (w && o)) && (x && (y && (n && (l && (v && k)))))) ≡ (((w && x) && h) && (y && (n && (l && (v && (o && k))))))
behind h w o x y n l v k = simp (and_assoc, swap)

-- THE LAW: bytes that are a sound state's form, in the parts that the code tests
pub form_parts : (bs d : List ℕ) → ((i : ℕ) → get_or bs i 0 < 256) → length bs ≡ state_length →
    ((i : ℕ) → get_or d i 0 < 256) → length d ≡ dictionary_length →
    {node : Node} → node ≡ (state_of bs).node → {drive : Drive} → drive ≡ (state_of bs).axis.drive →
    (is_form bs && sound (state_of bs) d)
    ≡ ((transfer_clear bs && head_own bs)
    && (stay_sound (state_of bs).axis.drive d
    && (is_node_id node.id && (dictionary_clauses node.id d && (drive_clauses node drive d && pdo_clauses node.nmt bs d)))))
unfolding is_own transfer_clear pdo_clauses plans_kept_in
form_parts bs d fits l values long en ev =
    let s = state_of bs in
    rw (en, ev, ← is_own_lem bs fits l, sound_parts s d long (are_bytes_lem d (λ i h. values i)), and_assoc (plans_own bs))
    (behind (head_own bs) (transfer_own transfer_place bs) (plans_own bs) (transfer_sound s.transfer) (stay_sound s.axis.drive d)
    (is_node_id s.node.id) (dictionary_clauses s.node.id d) (drive_clauses s.node s.axis.drive d)
    (plans_kept d s.axis.plans && (ready_kept d s.axis.ready && wait_sound s.node.nmt d s.axis.paces s.axis.held)))

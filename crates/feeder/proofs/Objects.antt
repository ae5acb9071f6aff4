-- An object that is written with one value, or not at all: what it then holds.
-- Assumes nothing.
use Rattle.theorems.proofs.Words.{ℕ, ◌<◌, ◌^◌, arith, ◌≡◌, refl, ◌∙◌, ap, subst, inl, inr, Bool, true, false, cond, not, ◌&&◌, ◌||◌, List, [], ◌∷◌}
use Rattle.theorems.proofs.Words.{length, In, here, there, within, apart, same_or_apart, same_self, read_same, read_apart, length_store, all_in}
use Rattle.theorems.proofs.Words.{either, clash, found_in}
use Rattle.theorems.proofs.Writes.{InTable}
use Rattle.rules_dictionary.specs.Table.{Row, table, same, size_of, dictionary_length, control_word, mode, target_position, open_table}
use Rattle.rules_dictionary.specs.Numbers.{all}
use Rattle.rules_dictionary.specs.Values.{Write, read, store, stored}
use Rattle.rules_services.specs.Written.{wrote}

-- no row of the table has that one's number and lies elsewhere
abbrev pub Alone : Row → Type 0
Alone x = all (λ y. not (same x y && apart y x)) table ≡ true

module _ (x : Row) (i : In x table) (alone : Alone x) (n : ℕ) (fits : n < 256 ^ size_of x) where
  -- every write of it has that value
  abbrev pub OnlyAs : List Write → Type 0
  OnlyAs ws = (w : Write) → In w ws → same x w.row ≡ true → w.value ≡ n

  store_read : (w : Write) (d : List ℕ) → length d ≡ dictionary_length → In w.row table → (same x w.row ≡ true → w.value ≡ n) →
      read (store w.row w.value d) x ≡ cond (same x w.row) n (read d x)
  store_read w d long row only =
      elim (same_or_apart row i) [
        | inl e ↦
            let it : same x w.row ≡ true = ap (same x) e ∙ same_self x in
            subst (λ (z : Row). read (store w.row w.value d) z ≡ w.value) e
            (read_same w.row w.value d (omega (arith, within row, long)) (rw (only it, e) fits))
            ∙ rw it (only it)
        | inr off ↦ elim (either (same x w.row)) [
          | inl it ↦ clash false (rw (it, off) at (all_in (λ y. not (same x y && apart y x)) row alone)) refl
          | inr it ↦ rw it (read_apart w.row x w.value d off)
        ]
      ]

  pub stored_read : (ws : List Write) (d : List ℕ) → length d ≡ dictionary_length → InTable ws → OnlyAs ws →
      read (stored ws d) x ≡ cond (wrote x ws) n (read d x)
  unfolding stored
  stored_read [] d long rows only = refl
  stored_read (w ∷ ws) d long rows only =
      let d1 = store w.row w.value d in
      stored_read ws d1 (length_store w.row w.value d ∙ long) (λ v j. rows v (there j)) (λ v j. only v (there j))
      ∙ ap (cond (wrote x ws) n) (store_read w d long (rows w here) (only w here))
      ∙ nested (same x w.row) (wrote x ws) n (read d x)
    where
      nested : (a b : Bool) (m k : ℕ) → cond b m (cond a m k) ≡ cond (a || b) m k
      nested true true m k = refl
      nested true false m k = refl
      nested false b m k = refl

pub control_alone : Alone control_word
unfolding open_table
control_alone = refl

pub aim_alone : Alone target_position
unfolding open_table
aim_alone = refl

pub mode_alone : Alone mode
unfolding open_table
mode_alone = refl

pub aim_in : In target_position table
unfolding open_table
aim_in = found_in 0x607A 0 refl

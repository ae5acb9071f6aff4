-- Laws for callers: what a verdict's result tells, and that the verdict on an entry is the one on its row.
-- Assumes nothing.
use Rattle.std.proofs.Common.{◌≡◌, ℕ, ◌*◌, ◌≤◌, ltb, is_ok, Ok, Err, Result, refl, inl, inr, arith}
use borrow.Author.Tests.{ltb-true}
use Rattle.std.specs.Prelude.{⊤}
use Rattle.rules_dictionary.specs.Table.{Row, each_way, table}
use Rattle.rules_dictionary.specs.Aborts.{Abort, unknown_command, wrong_toggle, no_object, no_subindex, no_writing, too_long, too_short, wrong_time}
use Rattle.rules_dictionary.specs.Aborts.{below_range, above_range, bad_value, limits_swapped, not_mappable, over_length}
use Rattle.rules_dictionary.specs.Aborts.{abort_code, Verdict, good, bad, is_good}
use Rattle.rules_dictionary.specs.Members.{In}
use Rattle.rules_dictionary.proofs.Tests.{all_in}
use Rattle.dictionary.specs.declared.Entry.{Entry}
use Rattle.dictionary.specs.Sizes.{IsSize, IsPdo}
use Rattle.dictionary.specs.Entries.{entry_of, Stands}
use Rattle.sdo.specs.declared.aborts.Abort as declared
use Rattle.sdo.specs.Verdicts.{abort_of, code_of, result_of, pdo_of}

-- THE LAWS: a verdict is good where its result is
pub good_result : (v : Verdict) → is_good v ≡ is_ok (result_of v)
good_result good = refl
good_result (bad a) = refl

-- .. and an abort's code is the one of the rules
pub code_is : (a : Abort) → code_of (abort_of a) ≡ abort_code a
code_is unknown_command = refl
code_is wrong_toggle = refl
code_is no_object = refl
code_is no_subindex = refl
code_is no_writing = refl
code_is too_long = refl
code_is too_short = refl
code_is wrong_time = refl
code_is below_range = refl
code_is above_range = refl
code_is bad_value = refl
code_is limits_swapped = refl
code_is not_mappable = refl
code_is over_length = refl

-- the code of an error; 0 is none
abbrev pub error_code : Result ⊤ declared.Abort → ℕ
error_code (Ok _) = 0
error_code (Err a) = code_of a

-- the PDO of a row of the table is one of the eight: one computed test
pdo_below : {x : Row} → In x table → IsPdo (pdo_of (entry_of x).role)
unfolding table
pdo_below i = ltb-true _ _ (all_in (λ x. ltb (pdo_of (entry_of x).role) (2 * each_way)) i refl)

pub pdo_fits : {i j : ℕ} (e : Entry) → Stands i j e → IsPdo (pdo_of e.role)
pdo_fits e st = rw st.is_entry (pdo_below st.listed)

-- a value lies within the four data bytes
pub four_at_most : (n : ℕ) → IsSize n → n ≤ 4
four_at_most n (inl e) = omega arith
four_at_most n (inr (inl e)) = omega arith
four_at_most n (inr (inr e)) = omega arith

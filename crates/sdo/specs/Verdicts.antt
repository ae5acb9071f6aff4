-- Verdicts as the code has them: a result, whose error is the abort; a value for an entry of the table; and the single tests.
-- Assumes nothing.
use Rattle.std.specs.Prelude.{ℕ, ◌+◌, List, [], ◌∷◌, map, Bool, not, ◌&&◌, ◌||◌, eqb, ltb, Result, Ok, Err, ⊤}
use Rattle.std.specs.Bool.{beq}
use Rattle.rules_dictionary.specs.Numbers.{bit, between, any, sum}
use Rattle.rules_dictionary.specs.Table as rows
use Rattle.rules_dictionary.specs.Aborts.{Verdict, good, bad, Abort, abort_code, test, first_firing}
use Rattle.rules_dictionary.specs.Aborts.{unknown_command, wrong_toggle, no_object, no_subindex, no_writing, too_long, too_short, wrong_time}
use Rattle.rules_dictionary.specs.Aborts.{below_range, above_range, bad_value, limits_swapped, not_mappable, over_length}
use Rattle.rules_dictionary.specs.Legal.{transmit_bit, first_identifier, last_identifier, is_valid, frame_identifier}
use Rattle.rules_dictionary.specs.Legal.{reserved_bits, transmits, most_bits, other_bad_value, in_order, swaps_limits, mapping_verdict}
use Rattle.rules_dictionary.specs.declared.Role.{Role}
use Rattle.rules_dictionary.specs.declared.Role.TheVariants.{Plain, ModeOfOperation, MinimumLimit, MaximumLimit, PdoIdentifier, PdoType}
use Rattle.rules_dictionary.specs.declared.Role.TheVariants.{MappingCount, MappingEntry}
use Rattle.dictionary.specs.declared.Entry.{Entry}
use Rattle.dictionary.specs.declared.Missing.{Missing}
use Rattle.dictionary.specs.declared.Missing.TheVariants.{NoObject, NoSubindex}
use Rattle.sdo.specs.declared.aborts.Abort as declared
use Rattle.sdo.specs.declared.aborts.Abort.TheVariants as code

-- ---- aborts and verdicts in code

-- the abort in code that is the one of the rules
abbrev pub abort_of : Abort → declared.Abort
abort_of unknown_command = code.UnknownCommand
abort_of wrong_toggle = code.WrongToggle
abort_of no_object = code.NoObject
abort_of no_subindex = code.NoSubindex
abort_of no_writing = code.NoWriting
abort_of too_long = code.TooLong
abort_of too_short = code.TooShort
abort_of wrong_time = code.WrongTime
abort_of below_range = code.BelowRange
abort_of above_range = code.AboveRange
abort_of bad_value = code.BadValue
abort_of limits_swapped = code.LimitsSwapped
abort_of not_mappable = code.NotMappable
abort_of over_length = code.OverLength

-- .. and its abort code
abbrev pub code_of : declared.Abort → ℕ
code_of code.UnknownCommand = abort_code unknown_command
code_of code.WrongToggle = abort_code wrong_toggle
code_of code.NoObject = abort_code no_object
code_of code.NoSubindex = abort_code no_subindex
code_of code.NoWriting = abort_code no_writing
code_of code.TooLong = abort_code too_long
code_of code.TooShort = abort_code too_short
code_of code.WrongTime = abort_code wrong_time
code_of code.BelowRange = abort_code below_range
code_of code.AboveRange = abort_code above_range
code_of code.BadValue = abort_code bad_value
code_of code.LimitsSwapped = abort_code limits_swapped
code_of code.NotMappable = abort_code not_mappable
code_of code.OverLength = abort_code over_length

-- the result in code that is the verdict
abbrev pub result_of : Verdict → Result ⊤ declared.Abort
result_of good = Ok tt
result_of (bad a) = Err (abort_of a)

-- the abort where a look-up finds nothing
abbrev pub abort_of_missing : Missing → declared.Abort
abort_of_missing NoObject = abort_of no_object
abort_of_missing NoSubindex = abort_of no_subindex

-- ---- a value for an entry

-- the PDO of a role; the first where it has none
abbrev pub pdo_of : Role → ℕ
pdo_of Plain = 0
pdo_of ModeOfOperation = 0
pdo_of MinimumLimit = 0
pdo_of MaximumLimit = 0
pdo_of (PdoIdentifier p) = p
pdo_of (PdoType p) = p
pdo_of (MappingCount p) = p
pdo_of (MappingEntry p) = p

-- past the range: other bad values, the limits' order, and mapping faults
unfoldable pub role_verdict : List ℕ → Role → ℕ → Verdict
role_verdict d o v =
    first_firing (test (other_bad_value d o v) bad_value ∷ test (swaps_limits d o v) limits_swapped ∷ []) (mapping_verdict d o v)

-- `value_verdict`, of an entry
unfoldable pub value_verdict_of : List ℕ → Entry → ℕ → Verdict
value_verdict_of d e v =
    first_firing (test (ltb v e.least) below_range ∷ test (ltb e.greatest v) above_range ∷ []) (role_verdict d e.role v)

unfoldable pub bad_if : Bool → Verdict
bad_if b = first_firing (test b bad_value ∷ []) good

-- of a minimum beside a maximum
unfoldable pub limits_verdict : ℕ → ℕ → Verdict
limits_verdict minimum maximum = first_firing (test (not (in_order minimum maximum)) limits_swapped ∷ []) good

-- ---- identifiers

-- bit 30 is not the direction, or one of bits 29-11 is not zero
abbrev pub ill_formed : ℕ → ℕ → Bool
ill_formed p w =
    not (beq (bit transmit_bit w) (transmits (rows.direction_of p))) || not (eqb (reserved_bits w) 0)

abbrev pub outside : ℕ → Bool
outside w = not (between first_identifier last_identifier (frame_identifier w))

-- the word v of PDO q takes the identifier of PDO p's word w
abbrev pub takes : ℕ → ℕ → ℕ → ℕ → Bool
takes p q w v = not (eqb q p) && is_valid v && eqb (frame_identifier w) (frame_identifier v)

-- ---- mappings

-- why a mapping word that names no object is refused, by whether a row stands at its index and subindex
abbrev pub unnamed : Result ⊤ Missing → Verdict
unnamed (Ok _) = bad not_mappable
unnamed (Err NoObject) = bad no_object
unnamed (Err NoSubindex) = bad no_subindex

-- words that are to be mapped, with so many bits before them
unfoldable pub words_verdict : ℕ → List ℕ → Verdict
words_verdict used ws =
    first_firing
    (test (any (eqb 0) ws) not_mappable ∷ test (ltb most_bits (used + sum (map rows.word_length ws))) over_length ∷ [])
    good

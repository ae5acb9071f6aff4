-- What the lines tell of the rows, by computed tests; and widths that are halved.
-- Assumes nothing.
use Prim.Native.Nat.{ℕ, zero, suc, ◌+◌, ◌-◌, ◌*◌, ◌/◌, ◌%◌, ◌^◌, ◌<◌, ◌≤◌}
use native.Mathlib.Numerals.{add-one}
use native.Mathlib.Nat.{pow-suc, one-le-pow}
use native.Mathlib.Omega.{arith}
use mathlib.Core.Path.{◌≡◌, refl, ◌∙◌, ap}
use mathlib.Core.Bool.{true}
use mathlib.Core.List.{List, map}
use borrow.Author.Tests.{ltb-true, leb-true, eqb-true}
use lib.Dec.{eqb, leb, lit<}
use lib.ListN.{length, get_or, length-map, get_or-map}
use Rattle.rules_dictionary.specs.Table.{Row, table, entries, place_of, dictionary_length, row_at, key, device_type, open_table}
use Rattle.rules_dictionary.specs.Members.{In}
use Rattle.rules_dictionary.proofs.Tests.{get_or_in, get_d_any, all_below, below}
use Rattle.rules_dictionary.proofs.Members.{map_in}
use Rattle.dictionary.specs.Entries.{entry_of}
use Rattle.dictionary.specs.Lines.{line_of, index_in, subindex_in, room_of, drive_role, role_in, communication_offset, mapping_offset, sizes_from}
use Rattle.dictionary.specs.Lines.{drive_rank}
use Rattle.dictionary.specs.Lines.{middle_rank, drive_place, place_in, entry_in}

-- ---- lines by their number

-- where lines are the rows', each is that of the row of its rank
pub line_at : (lines : List ℕ) (n : ℕ) → lines ≡ map line_of table → n < entries → get_or lines n 0 ≡ line_of (row_at n)
unfolding entries
line_at lines n e h =
    ap (λ (l : List ℕ). get_or l n 0) e
    ∙ get_d_any (map line_of table) n 0 (line_of device_type) (rw (length-map table line_of) h)
    ∙ get_or-map line_of table n device_type

pub lines_length : (lines : List ℕ) → lines ≡ map line_of table → length lines ≡ entries
unfolding entries
lines_length lines e = rw e (length-map table line_of)

-- fewer than a byte counts
pub few : entries < 256
unfolding entries table
few = ltb-true _ _ refl

key_of : {x : Row} → In x table → line_of x / 256 ≡ key x
unfolding table
key_of i = map_in (λ x. line_of x / 256) key i refl

pub key_at : (lines : List ℕ) (n : ℕ) → lines ≡ map line_of table → n < entries → get_or lines n 0 / 256 ≡ key (row_at n)
unfolding entries
key_at lines n e h =
    ap (λ (l : ℕ). l / 256) (line_at lines n e h)
    ∙ key_of (get_or_in table n device_type h)

-- ---- what the regular structure of the table tells: of each row its place, by rank, ..

place_by : List ℕ → ℕ → ℕ → ℕ
place_by lines rank line = place_in lines (room_of (index_in line)) rank (subindex_in line)

places-test : all_below (λ i. eqb (place_by (map line_of table) i (line_of (row_at i))) (place_of (row_at i))) entries ≡ true
unfolding place_by place_in communication_offset mapping_offset sizes_from drive_rank middle_rank drive_place open_table
places-test = refl

pub place_of_rank : (lines : List ℕ) (n : ℕ) → lines ≡ map line_of table → n < entries →
    place_in lines (room_of (index_in (get_or lines n 0))) n (subindex_in (get_or lines n 0)) ≡ place_of (row_at n)
unfolding place_by
place_of_rank lines n e h =
    rw (line_at lines n e h, e)
    (eqb-true _ _ (below (λ i. eqb (place_by (map line_of table) i (line_of (row_at i))) (place_of (row_at i))) entries n places-test h))

-- .. and its role, by index and subindex; the line tells the rest
pub entry_of_lem : {x : Row} → In x table → entry_in (line_of x) (place_of x) ≡ entry_of x
unfolding entry_in drive_role role_in table
entry_of_lem i = map_in (λ x. entry_in (line_of x) (place_of x)) entry_of i refl

-- ---- sizes, one row after another

pub nothing_left : (lines : List ℕ) (k : ℕ) → sizes_from lines k 0 ≡ 0
unfolding sizes_from
nothing_left lines k = refl

pub size_step : (lines : List ℕ) (k n : ℕ) → 0 < n → sizes_from lines k n ≡ get_or lines k 0 % 8 + sizes_from lines (k + 1) (n - 1)
unfolding sizes_from
size_step lines k zero h = absurd (omega arith)
size_step lines k (suc n) h = let e : suc n - 1 ≡ n = omega arith in rw (add-one, e) refl

-- what is left of the rows fits the dictionary
left_test : all_below (λ k. leb (sizes_from (map line_of table) k (entries - k)) dictionary_length) entries ≡ true
unfolding sizes_from open_table
left_test = refl

pub left-fits : (lines : List ℕ) (k : ℕ) → lines ≡ map line_of table → k < entries → sizes_from lines k (entries - k) ≤ dictionary_length
left-fits lines k e h =
    rw e (leb-true _ _ (below (λ k. leb (sizes_from (map line_of table) k (entries - k)) dictionary_length) entries k left_test h))

-- ---- halving: a width that is a power of two

pub record Power (w : ℕ) : Type 0 where
  pub n : ℕ
  pub is : w ≡ 2 ^ n

pub halved : (w : ℕ) → Power w → 1 < w → (w / 2 + w / 2 ≡ w) × Power (w / 2)
halved w p h = go p.n p.is
  where
    go : (n : ℕ) → w ≡ 2 ^ n → (w / 2 + w / 2 ≡ w) × Power (w / 2)
    go zero e = absurd (omega arith)
    go (suc n) e =
        let twice : 2 ^ suc n ≡ 2 ^ n * 2 = pow-suc 2 n in
        (omega arith, record { n = n; is = omega arith })

pub at_least_one : (w : ℕ) → Power w → 1 ≤ w
at_least_one w p = rw p.is (one-le-pow p.n 2 (lit< tt))

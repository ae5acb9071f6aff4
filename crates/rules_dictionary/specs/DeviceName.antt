-- Ticket 1, 'Reading the device name': "1008h:0 as a constant visible string of 5 to 32 characters, not among the packed bytes". So it has no row
-- in the table and no place; it exists all the same.
-- Assumes nothing.
use Rattle.std.specs.Prelude.{ℕ, Bool, ◌&&◌, List, [], ◌∷◌, length}
use Rattle.rules_dictionary.specs.Numbers.{between, all}

abbrev pub name_index : ℕ
name_index = 0x1008

abbrev pub name_subindex : ℕ
name_subindex = 0

-- "Cendurak servo node", in ASCII
abbrev pub device_name : List ℕ
device_name =
    0x43 ∷ 0x65 ∷ 0x6E ∷ 0x64 ∷ 0x75 ∷ 0x72 ∷ 0x61 ∷ 0x6B ∷ 0x20
    ∷ 0x73 ∷ 0x65 ∷ 0x72 ∷ 0x76 ∷ 0x6F ∷ 0x20
    ∷ 0x6E ∷ 0x6F ∷ 0x64 ∷ 0x65 ∷ []

-- ---- what may stand there: a visible string has the characters from the space to the tilde

abbrev pub shortest_name : ℕ
shortest_name = 5

abbrev pub longest_name : ℕ
longest_name = 32

abbrev pub first_visible : ℕ
first_visible = 0x20

abbrev pub last_visible : ℕ
last_visible = 0x7E

abbrev pub is_visible : ℕ → Bool
is_visible b = between first_visible last_visible b

abbrev pub is_name : List ℕ → Bool
is_name bs = between shortest_name longest_name (length bs) && all is_visible bs

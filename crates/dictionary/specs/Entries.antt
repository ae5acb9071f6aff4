-- What the code keeps of a row, its entry, and what a look-up finds.
-- Assumes nothing.
use Rattle.std.specs.Prelude.{ℕ, ◌+◌, ◌≤◌, ◌≡◌, List, Result, Ok, Err, ⊤}
use Rattle.std.proofs.lemmas.List.Edits.{sets}
use Rattle.rules_dictionary.specs.Members.{In}
use Rattle.rules_dictionary.specs.Numbers.{value, bytes, part}
use Rattle.rules_dictionary.specs.Table as rows
use Rattle.rules_dictionary.specs.Values as values
use Rattle.dictionary.specs.declared.Spot.{Spot}
use Rattle.dictionary.specs.declared.Entry.{Entry}
use Rattle.dictionary.specs.declared.Found.{Found}
use Rattle.dictionary.specs.declared.Found.TheVariants as found
use Rattle.dictionary.specs.declared.Missing.{Missing}
use Rattle.dictionary.specs.declared.Missing.TheVariants as missing
use Rattle.dictionary.specs.Sizes.{IsSize}
use Rattle.dictionary.specs.Lines.{line_of, entry_in}

abbrev pub entry_of : rows.Row → Entry
entry_of x =
    record {
      place = rows.place_of x;
      size = rows.size_of x;
      access = x.access;
      least = x.range.least;
      greatest = x.range.greatest;
      role = x.role;
    }

-- .. and the entry of a row as it was found
abbrev pub entry_at : Spot → Entry
entry_at p = entry_in p.line p.place

-- the entry of the row of that index and subindex: its value lies in the dictionary, and what stands at the entry's place and size is
-- the row's value, read or stored
pub record Stands (i s : ℕ) (e : Entry) : Type 0 where
  pub row : rows.Row
  pub finds : rows.lookup i s ≡ rows.found row
  pub listed : In row rows.table
  pub is_entry : e ≡ entry_of row
  pub within : e.place + e.size ≤ rows.dictionary_length
  pub sized : IsSize e.size
  pub reads : (d : List ℕ) → value (part e.place e.size d) ≡ values.read d row
  pub writes : (v : ℕ) (d : List ℕ) → sets d e.place (bytes e.size v) ≡ values.store row v d

-- what the look-up of an index and subindex finds: the row, the device name, or that nothing is there
abbrev pub IsFound : ℕ → ℕ → Result Found Missing → Type 0
IsFound i s (Ok (found.Row p)) = Stands i s (entry_at p)
IsFound i s (Ok found.DeviceName) = rows.lookup i s ≡ rows.the_name
IsFound i s (Err missing.NoObject) = rows.lookup i s ≡ rows.no_object
IsFound i s (Err missing.NoSubindex) = rows.lookup i s ≡ rows.no_subindex

-- .. as the code has it: of a row its line and its place
abbrev pub found_as : rows.Found → Result Found Missing
found_as (rows.found x) = Ok (found.Row (record { line = line_of x; place = rows.place_of x }))
found_as rows.the_name = Ok found.DeviceName
found_as rows.no_object = Err missing.NoObject
found_as rows.no_subindex = Err missing.NoSubindex

-- .. and whether anything is
abbrev pub presence_of : rows.Found → Result ⊤ Missing
presence_of (rows.found x) = Ok tt
presence_of rows.the_name = Ok tt
presence_of rows.no_object = Err missing.NoObject
presence_of rows.no_subindex = Err missing.NoSubindex

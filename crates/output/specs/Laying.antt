-- A frame laid into the output: its eleven bytes in their place, and every other byte kept.
-- Assumes nothing.
use Rattle.std.specs.Prelude.{ℕ, ◌-◌, ◌*◌, ◌≤◌, ◌≡◌, true, List, ◌∷◌, ◌++◌, take, drop}
use Rattle.rules_dictionary.specs.declared.PdoData.{PdoData}
use Rattle.rules_dictionary.specs.Numbers.{bytes, padded, are_bytes}
use Rattle.rules_services.specs.Effects.{Frame, frame}
use Rattle.rules.specs.Outcome.{frame_size, most_data, sent_into}

-- the bytes before the data: identifier and length
abbrev pub head_size : ℕ
head_size = frame_size - most_data

-- identifier in two bytes, low byte first, length, and the data with its zeros
unfoldable pub framed : ℕ → PdoData → List ℕ
framed identifier content = bytes 2 identifier ++ content.length ∷ content.bytes

-- the bytes of data: as many as it is long
abbrev pub data_of : PdoData → List ℕ
data_of content = take content.length content.bytes

-- data as a frame carries it: a length, and zeros behind that many bytes
pub record IsData (content : PdoData) : Type 0 where
  pub short : content.length ≤ most_data
  pub zeros : content.bytes ≡ padded 0 most_data (data_of content)

-- data of a frame of the bus
pub record OnBus (content : PdoData) : Type 0 where
  pub shape : IsData content
  pub bytes : are_bytes (data_of content) ≡ true

-- the frame of an identifier and data
abbrev pub frame_of : ℕ → PdoData → Frame
frame_of identifier content = frame identifier (data_of content)

-- the output with those frames in it from frame n on, counted from 0
unfoldable pub emitted : ℕ → List Frame → List ℕ → List ℕ
emitted n frames output = take (frame_size * n) output ++ sent_into (drop (frame_size * n) output) frames

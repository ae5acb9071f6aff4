-- How long the lines of an answer can be, and how much text the records of one read can make.
-- Assumes nothing.
use Rattle.std.specs.Prelude.{ℕ, ◌+◌, ◌*◌}
use Rattle.rules.specs.Outcome.{most_data, most_frames}

-- a decimal number of 64 bits
abbrev pub most_digits : ℕ
most_digits = 20

-- a record's line: its number, the refusal, 6041h in four digits; a space before the second and the third, and the line's end
abbrev pub longest_record : ℕ
longest_record = most_digits + (1 + most_digits) + (1 + 4) + 1

-- a frame's line: the identifier in three digits, its data, a space and two digits for each byte, and the line's end
abbrev pub longest_frame : ℕ
longest_frame = 3 + 3 * most_data + 1

abbrev pub longest_answer : ℕ
longest_answer = longest_record + most_frames * longest_frame

-- what the input holds at most between two reads
abbrev pub input_length : ℕ
input_length = 4096

-- a record has a head of four bytes at least, so that its answer has at most so many characters for each of its bytes
abbrev pub text_per_byte : ℕ
text_per_byte = 54

abbrev pub text_length : ℕ
text_length = text_per_byte * input_length

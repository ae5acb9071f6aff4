-- A frame's data in code: its bytes, over zeros.
-- Assumes nothing.
use Rattle.std.proofs.Common.{ℕ, zero, suc, ◌≤◌, ◌≡◌, refl, ◌∙◌, ap, true, List, [], ◌∷◌, ◌++◌, length, drop, replicate, arith}
use Rattle.rules_dictionary.specs.Numbers.{are_bytes, padded}
use Rattle.rules_dictionary.specs.Plans.{pdo_data}
use Rattle.rules_services.specs.Effects.{Frame}
use Rattle.rules.specs.Outcome.{most_data}
use Rattle.output.specs.Laying.{OnBus, data_of}
use Rattle.output.proofs.Frames.{is_data, frame_of_data}

-- ---- the data of a frame, over zeros

filled_up : (n : ℕ) (bs : List ℕ) → length bs ≤ n → bs ++ drop (length bs) (replicate n 0) ≡ padded 0 n bs
filled_up zero [] h = refl
filled_up zero (b ∷ bs) h = absurd (omega arith)
filled_up (suc n) [] h = ap (λ (l : List ℕ). 0 ∷ l) (filled_up n [] (omega arith))
filled_up (suc n) (b ∷ bs) h = ap (λ (l : List ℕ). b ∷ l) (filled_up n bs (omega arith))

-- zeros, and the bytes over them
pub laid_over : (bs : List ℕ) → length bs ≤ most_data →
    record { length = length bs; bytes = bs ++ drop (length bs) (replicate most_data 0) } ≡ pdo_data bs
unfolding pdo_data
laid_over bs h = rw (filled_up most_data bs h)

-- and what the services ask of it
pub data_back : (bs : List ℕ) → length bs ≤ most_data → data_of (pdo_data bs) ≡ bs
data_back bs h = ap (λ (f : Frame). f.content) (frame_of_data 0 bs h)

pub on_bus : (bs : List ℕ) → length bs ≤ most_data → are_bytes bs ≡ true → OnBus (pdo_data bs)
on_bus bs h b = record { shape = is_data bs h; bytes = ap are_bytes (data_back bs h) ∙ b }

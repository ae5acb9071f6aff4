-- Frames in the output: the frame that `send` lays is the encoded one; frames emitted, one after another.
-- Assumes nothing.
use Prim.Native.Nat.{ℕ, suc, ◌+◌, ◌-◌, ◌*◌, ◌≤◌}
use native.Mathlib.Omega.{arith}
use mathlib.Core.Path.{◌≡◌, refl, sym, ◌∙◌, ap}
use mathlib.Core.List.{List, [], ◌∷◌, ◌++◌, append-nil, append_assoc}
use lib.ListN.{length, take, drop, length-append, length-drop, drop_of_length-le, take-append-drop}
use lib.Seq.{take_all, length-take-le, drop-drop, take-append-add, drop-append-add}
use Rattle.std.proofs.Common.{slice_set}
use Rattle.std.specs.Int.{to_le_bytes, w16}
use borrow.Rule.Slice.PartMut.{put_mid}
use Rattle.rules_dictionary.specs.declared.PdoData.{PdoData}
use Rattle.rules_dictionary.specs.Numbers.{bytes, padded}
use Rattle.rules_dictionary.specs.Plans.{pdo_data}
use Rattle.rules_dictionary.proofs.Padded.{length-padded, take_padded}
use Rattle.rules_services.specs.Effects.{Frame, frame}
use Rattle.rules.specs.Outcome.{frame_size, most_data, encoded, sent_into}
use Rattle.rules.proofs.Encoded.{length_encoded}
use Rattle.output.specs.Laying.{head_size, framed, IsData, frame_of, emitted}

-- ---- what the code leaves

-- the identifier laid, then the length, then the data
pub laid_as : (i : ℕ) (content : PdoData) (o head behind : List ℕ) → frame_size ≤ length o → head ≡ to_le_bytes w16 i → behind ≡ content.bytes →
    put_mid head_size most_data (slice_set (head ++ drop 2 o) 2 content.length) behind ≡ framed i content ++ drop frame_size o
unfolding framed bytes
laid_as i content [] head behind h e q = absurd (omega arith)
laid_as i content (x ∷ []) head behind h e q = absurd (omega arith)
laid_as i content (x ∷ y ∷ []) head behind h e q = absurd (omega arith)
laid_as i content (x ∷ y ∷ z ∷ o) head behind h e q = rw (e, q)

-- ---- for the callers

-- data is as long as it says
pub length_data : (content : PdoData) → IsData content → length (take content.length content.bytes) ≡ content.length
length_data content h =
    let l : length content.bytes ≡ most_data = ap length h.zeros ∙ length-padded 0 most_data (take content.length content.bytes) in
    let k = h.short in
    length-take-le content.length content.bytes (omega (arith, l, k))

-- data is laid as the frame of its bytes
framed_is_encoded : (i : ℕ) (content : PdoData) → IsData content → framed i content ≡ encoded (frame_of i content)
unfolding framed encoded
framed_is_encoded i content h = rw (length_data content h) (ap (λ (bs : List ℕ). bytes 2 i ++ content.length ∷ bs) h.zeros)

-- laid at the start, that frame is sent
pub laid_is_sent : (i : ℕ) (content : PdoData) (o : List ℕ) → IsData content →
    framed i content ++ drop frame_size o ≡ sent_into o (frame_of i content ∷ [])
unfolding sent_into
laid_is_sent i content o h = rw (framed_is_encoded i content h)

-- frames sent, and then others behind them
sent_then : (fs gs : List Frame) (o : List ℕ) →
    take (frame_size * length fs) (sent_into o fs) ++ sent_into (drop (frame_size * length fs) (sent_into o fs)) gs ≡ sent_into o (fs ++ gs)
unfolding sent_into
sent_then [] gs o = refl
sent_then (f ∷ fs) gs o =
    let e = length_encoded f in
    let place : frame_size * suc (length fs) ≡ length (encoded f) + frame_size * length fs = omega (arith, e) in
    rw (place, take-append-add, drop-append-add, append_assoc) (ap (λ (l : List ℕ). encoded f ++ l) (sent_then fs gs (drop frame_size o)))

-- THE LAWS of frames emitted: none; some and then others; into the whole output; its length stays

pub emitted_none : (n : ℕ) (o : List ℕ) → emitted n [] o ≡ o
unfolding emitted sent_into
emitted_none n o = take-append-drop (frame_size * n) o

pub emitted_then : (n : ℕ) (fs gs : List Frame) (o : List ℕ) → frame_size * n ≤ length o →
    emitted (n + length fs) gs (emitted n fs o) ≡ emitted n (fs ++ gs) o
unfolding emitted
emitted_then n fs gs o h =
    let before = take (frame_size * n) o in
    let l : length before ≡ frame_size * n = length-take-le (frame_size * n) o h in
    let place : frame_size * (n + length fs) ≡ length before + frame_size * length fs = omega (arith, l) in
    rw (place, take-append-add, drop-append-add, append_assoc) (ap (λ (b : List ℕ). before ++ b) (sent_then fs gs (drop (frame_size * n) o)))

pub emitted_all : (fs : List Frame) (o : List ℕ) → emitted 0 fs o ≡ sent_into o fs
unfolding emitted
emitted_all fs o = refl

length_sent : (fs : List Frame) (o : List ℕ) → frame_size * length fs ≤ length o → length (sent_into o fs) ≡ length o
unfolding sent_into
length_sent [] o h = refl
length_sent (f ∷ fs) o h =
    let d : length (drop frame_size o) ≡ length o - frame_size = length-drop frame_size o in
    let r = length_sent fs (drop frame_size o) (omega arith) in
    let e = length_encoded f in
    rw length-append (omega arith)

pub length_emitted : (n : ℕ) (fs : List Frame) (o : List ℕ) → frame_size * (n + length fs) ≤ length o → length (emitted n fs o) ≡ length o
unfolding emitted
length_emitted n fs o h =
    let before : length (take (frame_size * n) o) ≡ frame_size * n = length-take-le (frame_size * n) o (omega arith) in
    let behind : length (drop (frame_size * n) o) ≡ length o - frame_size * n = length-drop (frame_size * n) o in
    let sent = length_sent fs (drop (frame_size * n) o) (omega (arith, behind)) in
    rw length-append (omega (arith, before, behind, sent))

-- THE LAW for those who lend the output from frame n on: with the part back in it, the part's frames are emitted from n on
pub lent_back : (o part : List ℕ) (fs : List Frame) (n k : ℕ) → length o ≤ frame_size * n + k →
    part ≡ sent_into (take k (drop (frame_size * n) o)) fs →
    take (frame_size * n) o ++ (part ++ drop k (drop (frame_size * n) o)) ≡ emitted n fs o
unfolding emitted
lent_back o part fs n k h p =
    let none : drop k (drop (frame_size * n) o) ≡ [] = drop-drop k (frame_size * n) o ∙ drop_of_length-le o h in
    let all : take k (drop (frame_size * n) o) ≡ drop (frame_size * n) o = take_all k (drop (frame_size * n) o) (rw length-drop (omega arith)) in
    rw (none, p, all, append-nil)

-- THE LAWS of data: bytes with zeros behind them are data, and their frame carries the bytes

pub frame_of_data : (i : ℕ) (bs : List ℕ) → length bs ≤ most_data → frame_of i (pdo_data bs) ≡ frame i bs
unfolding pdo_data
frame_of_data i bs h = ap (frame i) (take_padded 0 most_data bs h)

pub is_data : (bs : List ℕ) → length bs ≤ most_data → IsData (pdo_data bs)
unfolding pdo_data
is_data bs h = record { short = h; zeros = ap (padded 0 most_data) (sym (take_padded 0 most_data bs h)) }

-- Laws of what is said: eight bytes are the data of a frame, and what is said alone leaves all else but the transfer.
-- Assumes nothing.
use Rattle.std.proofs.Common.{◌≡◌, ℕ, ◌+◌, List, [], ◌∷◌, length, sym, refl, ap, ◌∙◌, subst, arith, take_all}
use Rattle.state.specs.declared.State.{State}
use Rattle.state.specs.declared.Transfer.{Transfer}
use Rattle.rules_dictionary.specs.declared.PdoData.{PdoData}
use Rattle.rules_dictionary.specs.Numbers.{padded}
use Rattle.rules_dictionary.specs.Table.{Row, ValueType, u8, u16, u32, i8, i32, size}
use Rattle.rules_dictionary.specs.Values.{stored}
use Rattle.rules_dictionary.specs.Plans.{pdo_data}
use Rattle.rules_dictionary.proofs.Padded.{length-padded, take_padded}
use Rattle.rules_services.specs.Effects.{Frame, with_transfer}
use Rattle.rules_services.specs.Sdo.{reply_base, request_length, uploaded}
use Rattle.form.specs.Form.{state_of}
use Rattle.form.specs.Holding.{Holds, Puts}
use Rattle.dictionary.specs.declared.Entry.{Entry}
use Rattle.dictionary.specs.Entries.{entry_of}
use Rattle.output.specs.Laying.{IsData, frame_of}
use Rattle.output.proofs.Frames.{is_data, frame_of_data}
use Rattle.output.specs.declared.Done.{Done}
use Rattle.output.specs.Leaves.{Calm}
use Rattle.output.proofs.Left.{resting}
use Rattle.sdo.specs.Requests.{saying, said, uploaded_by}
use Rattle.sdo.specs.Serving.{Says, Speaks}

-- ---- the frame of eight bytes

module _ (content : List ℕ) (long : length content ≡ request_length) where
  abbrev eight : PdoData
  eight = record { length = 8; bytes = content }

  all_eight : padded 0 request_length content ≡ content
  all_eight =
      let p = padded 0 request_length content in
      sym (take_all (length content) p (rw length-padded (omega arith))) ∙ take_padded 0 request_length content (omega arith)

  eight_made : eight ≡ pdo_data content
  unfolding pdo_data
  eight_made = rw (all_eight, long)

  pub eight_is_data : IsData eight
  eight_is_data = subst IsData (sym eight_made) (is_data content (omega arith))

  pub eight_sent : (n : ℕ) → frame_of (reply_base + n) eight ∷ [] ≡ saying content n
  eight_sent n =
      ap (λ (f : Frame). f ∷ []) (ap (frame_of (reply_base + n)) eight_made ∙ frame_of_data (reply_base + n) content (omega arith))

-- the reply's command to an upload, by the entry's size
pub uploaded_by_lem : (e : Entry) (x : Row) → e ≡ entry_of x → uploaded_by e.size ≡ uploaded x.type
uploaded_by_lem e x is = ap (λ (y : Entry). uploaded_by y.size) is ∙ go x.type
  where
    go : (t : ValueType) → uploaded_by (size t) ≡ uploaded t
    go u8 = refl
    go u16 = refl
    go u32 = refl
    go i8 = refl
    go i32 = refl

-- ---- what is said alone

said_calmly : (content : List ℕ) (t : Transfer) (s : State) → Calm s (said content t s)
said_calmly content t s = record { writes = refl; occasion = refl; nmt = refl; voltage = refl; drive = refl }

-- THE LAW of it, on bytes into which the transfer is put
pub spoken : {content : List ℕ} {t : Transfer} {bs o bs' o' : List ℕ} {r : Done} → Holds bs (state_of bs) → Puts (with_transfer t) bs bs' →
    Says content (state_of bs).node.id o r o' → Speaks (said content t) bs o r bs' o'
unfolding stored
spoken {content} {t} {bs} own put h d =
    rw h.done (
      record {
        state = put (state_of bs) own;
        frames = refl;
        touched = refl;
        remapped = refl;
        occasion = refl;
        dictionary = refl;
        output = h.output;
      },
      resting (state_of bs) _ _ refl (said_calmly content t (state_of bs)),
    )

-- Segments by the transfer that runs: what one asks or brings is the rules' service on that transfer.
-- Assumes nothing.
use Rattle.std.proofs.Common.{◌≡◌, ℕ, suc, ◌+◌, Bool, true, false, cond, not, List, ap, add-one}
use mathlib.Core.Bool.{beq}
use borrow.Author.Tests.{not-true, not-false}
use Rattle.state.specs.declared.Receipt.{Receipt}
use Rattle.state.specs.declared.State.{State}
use Rattle.state.specs.declared.Transfer.{Transfer}
use Rattle.state.specs.declared.Transfer.TheVariants.{NoTransfer, Uploading, Downloading}
use Rattle.rules_dictionary.specs.Aborts.{unknown_command}
use Rattle.rules_services.specs.Sdo.{abort, reply}
use Rattle.rules_services.specs.Segments.{toggle_of, toggle_at, is_last_of, nowhere, name_object, object_in}
use Rattle.rules_services.specs.Segments.{unfit, segment, segment_asked, segment_sent}
use Rattle.sdo.specs.Requests.{said, segment_bytes, refused, due_segment, segment_asked_in, received_segment, segment_sent_in}
use Rattle.sdo.specs.Requests.{segment_rests, segment_rests_in}

-- what the test of a toggle told, of the toggles in the rules
pub other_toggle : {x y a b : Bool} → x ≡ a → y ≡ b → not (beq x y) ≡ true → beq a b ≡ false
other_toggle {a = a} {b = b} e f h = not-true (beq a b) (rw (e, f) at h)

pub same_toggle : {x y a b : Bool} → x ≡ a → y ≡ b → not (beq x y) ≡ false → beq a b ≡ true
same_toggle {a = a} {b = b} e f h = not-false (beq a b) (rw (e, f) at h)

-- the segment that is due
module _ (k : ℕ) (rq : List ℕ) (s : State) (same : beq (toggle_of rq) (toggle_at k) ≡ true) where
  due_then : {b : Bool} → is_last_of k ≡ b → due_segment k rq s ≡ said (segment_bytes k) (cond b NoTransfer (Uploading (suc k))) s
  due_then e = rw same (ap (λ (b : Bool). said (segment_bytes k) (cond b NoTransfer (Uploading (suc k))) s) e)

  pub due_last : is_last_of k ≡ true → due_segment k rq s ≡ said (segment_bytes k) NoTransfer s
  due_last = due_then

  pub due_next : is_last_of k ≡ false → due_segment k rq s ≡ said (segment_bytes k) (Uploading (k + 1)) s
  due_next e = rw add-one (due_then e)

module _ (rq : List ℕ) (s : State) where
  -- a segment asked for
  pub asked_of_none : s.transfer ≡ NoTransfer → segment_asked_in rq s ≡ refused unknown_command nowhere s
  unfolding segment_asked unfit abort reply
  asked_of_none e = rw e

  pub asked_of_name : {k : ℕ} → s.transfer ≡ Uploading k → segment_asked_in rq s ≡ due_segment k rq s
  unfolding segment_asked segment unfit abort reply
  asked_of_name e = rw e

  pub asked_of_download : {g : Receipt} → s.transfer ≡ Downloading g → segment_asked_in rq s ≡ refused unknown_command (object_in g) s
  unfolding segment_asked unfit abort reply
  asked_of_download e = rw e

  -- a segment sent
  pub sent_to_none : (d : List ℕ) → s.transfer ≡ NoTransfer → segment_sent_in rq s d ≡ refused unknown_command nowhere s
  unfolding segment_sent unfit abort reply
  sent_to_none d e = rw e

  pub sent_to_name : (d : List ℕ) {k : ℕ} → s.transfer ≡ Uploading k → segment_sent_in rq s d ≡ refused unknown_command name_object s
  unfolding segment_sent unfit abort reply
  sent_to_name d e = rw e

  pub sent_to_download : (d : List ℕ) {g : Receipt} → s.transfer ≡ Downloading g → segment_sent_in rq s d ≡ received_segment g rq s d
  unfolding segment_sent unfit abort reply
  sent_to_download d e = rw e

  -- .. and where nothing is left to do
  pub sent_rests : (d : List ℕ) {t : Transfer} → s.transfer ≡ t → segment_rests_in rq s d ≡ segment_rests t rq s d
  sent_rests d e = ap (λ (t : Transfer). segment_rests t rq s d) e

-- `calls::settling::settle` meets its contract. Assumes nothing.
use mathlib.Core.Path.{◌≡◌, sym, ◌∙◌, ap}
use mathlib.Core.Bool.{true, false}
use native.Mathlib.Omega.{arith}
use Rattle.rules_dictionary.specs.Numbers.{are_bytes}
use Rattle.rules_dictionary.specs.Table.{mode_display}
use Rattle.rules_dictionary.specs.Values.{store}
use Rattle.mapping.proofs.Assembly.{are_bytes_lem}
use Rattle.calls.specs.Ending.{status_by, is_settled}
use Rattle.calls.proofs.StatusMade.{both_written, both_stand, settled_both, unsettled_word, unsettled_display}
use Rattle.calls.proofs.settling.settle.Goals.{else-status_word-word-via-then-status_word-word+else-mode_display-shown}
use Rattle.calls.proofs.settling.settle.Goals.{else-status_word-word-via-else-status_word-word}
use Rattle.calls.proofs.settling.settle.Goals as goal

pub returns-then-mode_display-shown : goal.returns-then-mode_display-shown
returns-then-mode_display-shown c =
    let a = c.args in
    let w : c.status-word.result ≡ status_by a.node a.drive a.d.now =
    c.status-word.ensures ∙ rw c.is_stopped.ensures in
    let b : are_bytes a.d.now ≡ true = are_bytes_lem a.d.now (λ i h. omega (arith, c.slice_known-1.given i)) in
    let m = c.number-shown.ensures in
    let p = sym c.status_word.ensures ∙ c.if-status_word-word.true in
    let q = sym c.mode_display.ensures ∙ c.if-mode_display-shown.true in (
      both_stand a.node a.drive a.d.now _ _ w m b c.requires p q,
      (rw (settled_both a.node a.drive a.d.now _ _ w m p q), b),
    )

pub returns : goal.returns
returns c =
    let a = c.args in
    let m = c.number-shown.ensures in
    let w : c.status-word.result ≡ status_by a.node a.drive a.d.now =
    c.status-word.ensures ∙ rw c.is_stopped.ensures in
    let other : is_settled a.node a.drive a.d.now ≡ false = elim c.else-status_word-word.branch [
      | else-status_word-word-via-then-status_word-word+else-mode_display-shown t ↦
          unsettled_display a.node a.drive a.d.now _ _ w m (sym c.status_word.ensures ∙ t.if-status_word-word.true)
          (λ e. t.if-mode_display-shown.false (t.mode_display.ensures ∙ e))
      | else-status_word-word-via-else-status_word-word t ↦
          unsettled_word a.node a.drive a.d.now _ _ w m (λ e. t.if-status_word-word.false (c.status_word.ensures ∙ e))
    ] in (
      c.set_mode_display.ensures
          ∙ ap (store mode_display c.number-shown.result) c.set_status_word.ensures
          ∙ both_written a.node a.drive a.d.now _ _ w m,
      (rw other, are_bytes_lem a.d.now (λ i h. omega (arith, c.slice_known-1.given i))),
    )

-- `soundness::is_sound` meets its contract. Assumes nothing.
use native.Mathlib.Omega.{arith}
use mathlib.Core.Path.{refl, sym, ◌∙◌}
use Rattle.soundness.proofs.Parts.{form_parts}
use Rattle.soundness.proofs.is_sound.Goals as goal

pub returns-then-not-is_head_clear : goal.returns-then-not-is_head_clear
returns-then-not-is_head_clear c =
    sym (form_parts c.args.state.now c.args.d.now (λ i. omega (arith, c.shared_slice_known-1.given i)) c.requires.0
    (λ i. omega (arith, c.shared_slice_known-2-1.given i)) c.requires.1 refl refl
    ∙ rw (sym c.is_head_clear.ensures ∙ c.if-not-is_head_clear.true))

pub returns-then-not-is_stay_sound : goal.returns-then-not-is_stay_sound
returns-then-not-is_stay_sound c =
    sym (form_parts c.args.state.now c.args.d.now (λ i. omega (arith, c.shared_slice_known-1.given i)) c.requires.0
    (λ i. omega (arith, c.shared_slice_known-2-1.given i)) c.requires.1 refl refl
    ∙ rw (sym c.is_head_clear.ensures ∙ c.if-not-is_head_clear.false, sym c.is_stay_sound.ensures ∙ c.if-not-is_stay_sound.true))

pub returns-then-not-is_node_id : goal.returns-then-not-is_node_id
returns-then-not-is_node_id c =
    let i = c.before.before in
    sym (form_parts c.args.state.now c.args.d.now (λ i. omega (arith, c.shared_slice_known-1.given i)) c.requires.0
    (λ i. omega (arith, c.shared_slice_known-2-1.given i)) c.requires.1
    c.read_node-node.ensures refl
    ∙ rw (
      sym c.is_head_clear.ensures ∙ c.if-not-is_head_clear.false,
      sym c.is_stay_sound.ensures ∙ c.if-not-is_stay_sound.false,
      sym c.is_node_id.ensures ∙ c.if-not-is_node_id.true,
    ))

pub returns-then-not-dictionary_legal : goal.returns-then-not-dictionary_legal
returns-then-not-dictionary_legal c =
    let i = c.before.before.before.before in
    sym (form_parts c.args.state.now c.args.d.now (λ i. omega (arith, c.shared_slice_known-1.given i)) c.requires.0
    (λ i. omega (arith, c.shared_slice_known-2-1.given i)) c.requires.1
    c.read_node-node.ensures refl
    ∙ rw (
      sym c.is_head_clear.ensures ∙ c.if-not-is_head_clear.false,
      sym c.is_stay_sound.ensures ∙ c.if-not-is_stay_sound.false,
      sym c.is_node_id.ensures ∙ c.if-not-is_node_id.false,
    )
    (rw (sym c.dictionary_legal.ensures ∙ c.if-not-dictionary_legal.true)))

pub returns-then-not-is_drive_clear : goal.returns-then-not-is_drive_clear
returns-then-not-is_drive_clear c =
    let i = c.before.before.before.before.before.before.before in
    sym (form_parts c.args.state.now c.args.d.now (λ i. omega (arith, c.shared_slice_known-1.given i)) c.requires.0
    (λ i. omega (arith, c.shared_slice_known-2-1.given i)) c.requires.1
    c.read_node-node.ensures c.read_drive-drive.ensures
    ∙ rw (
      sym c.is_head_clear.ensures ∙ c.if-not-is_head_clear.false,
      sym c.is_stay_sound.ensures ∙ c.if-not-is_stay_sound.false,
      sym c.is_node_id.ensures ∙ c.if-not-is_node_id.false,
    )
    (rw (
      sym c.dictionary_legal.ensures ∙ c.if-not-dictionary_legal.false,
      sym c.is_drive_clear.ensures ∙ c.if-not-is_drive_clear.true,
    )))

pub returns : goal.returns
returns c =
    let i = c.before.before.before.before.before.before.before.before in
    sym (form_parts c.args.state.now c.args.d.now (λ i. omega (arith, c.shared_slice_known-1.given i)) c.requires.0
    (λ i. omega (arith, c.shared_slice_known-2-1.given i)) c.requires.1
    c.read_node-node.ensures c.read_drive-drive.ensures
    ∙ rw (
      sym c.is_head_clear.ensures ∙ c.if-not-is_head_clear.false,
      sym c.is_stay_sound.ensures ∙ c.if-not-is_stay_sound.false,
      sym c.is_node_id.ensures ∙ c.if-not-is_node_id.false,
    )
    (rw (
      sym c.dictionary_legal.ensures ∙ c.if-not-dictionary_legal.false,
      sym c.is_drive_clear.ensures ∙ c.if-not-is_drive_clear.false,
      ← c.are_pdos_clear.ensures,
    )))

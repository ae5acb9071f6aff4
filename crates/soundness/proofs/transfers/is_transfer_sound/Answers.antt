-- By the kind of transfer. Assumes nothing.
use mathlib.Core.Path.{refl}
use borrow.Author.Rules.{rules}
use Rattle.rules.specs.Sound.{transfer_sound}
use Rattle.soundness.proofs.transfers.is_transfer_sound.Goals as goal

pub read_transfer-requires : goal.read_transfer-requires
unfolding transfer_sound
read_transfer-requires c = search rules

pub is_receipt_sound-requires : goal.is_receipt_sound-requires
unfolding transfer_sound
is_receipt_sound-requires c = search rules

pub returns-in-NoTransfer : goal.returns-in-NoTransfer
unfolding transfer_sound
returns-in-NoTransfer c = rw (← c.read_transfer.ensures, c.in-NoTransfer.is) refl

pub returns-in-Uploading : goal.returns-in-Uploading
unfolding transfer_sound
returns-in-Uploading c = rw (← c.read_transfer.ensures, c.in-Uploading.is) refl

pub returns-in-Downloading : goal.returns-in-Downloading
unfolding transfer_sound
returns-in-Downloading c = rw (← c.read_transfer.ensures, c.in-Downloading.is) c.is_receipt_sound.ensures

-- `mapping::kept::is_mapped` meets its contract: what stands at the word's slot tells. Assumes nothing.
use native.Mathlib.Omega.{arith}
use Rattle.mapping.specs.Words.{way_of}
use Rattle.mapping.proofs.Slotting.{slot_below, slots_length, told}
use Rattle.mapping.proofs.kept.is_mapped.Goals as goal

pub overflow_mul-at : goal.overflow_mul-at
overflow_mul-at c = omega (arith, slot_below c.args.word, c.slot_of-at.ensures)

pub bounds-named-at : goal.bounds-named-at
bounds-named-at c =
    rw (c.requires, slots_length) (omega (arith, slot_below c.args.word, c.slot_of-at.ensures))

pub overflow_add-result : goal.overflow_add-result
overflow_add-result c = omega (arith, slot_below c.args.word, c.slot_of-at.ensures)

pub bounds-named-at-2 : goal.bounds-named-at-2
bounds-named-at-2 c =
    rw (c.requires, slots_length) (omega (arith, slot_below c.args.word, c.slot_of-at.ensures))

pub returns : goal.returns
returns c =
    rw (c.requires, c.slot_of-at.ensures) (told (way_of c.args.transmit) c.args.word c.args.kept (omega arith))

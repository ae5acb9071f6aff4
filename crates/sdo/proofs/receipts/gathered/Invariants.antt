-- What the bytes from here on add to those so far is what all of them add. Assumes nothing.
use Rattle.std.proofs.Common.{◌≡◌, drop}
use Rattle.rules_services.specs.Segments.{gathered}
use Rattle.sdo.proofs.receipts.gathered.Given as goal

abbrev pub invariant-loop-b : goal.invariant-loop-b
invariant-loop-b l = gathered l.after (drop l.b-index l.b-items) ≡ gathered l.initial.after l.b-items

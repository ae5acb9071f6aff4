-- The last row up to the key is the one asked for, one of the same object, or one of another. Assumes nothing.
use Prim.Native.Nat.{ℕ}
use mathlib.Core.Path.{sym, ◌∙◌, ap, ap₂}
use native.Mathlib.Omega.{arith}
use borrow.Author.Rules.{rules}
use Rattle.rules_dictionary.specs.Table.{row_of}
use Rattle.dictionary.specs.Entries.{found_as}
use Rattle.std.specs.Prelude.{Ok}
use Rattle.dictionary.specs.declared.Found.TheVariants.{Row}
use Rattle.dictionary.proofs.Lines.{lines_length, few, line_at, key_at}
use Rattle.dictionary.proofs.LookUp.{is_entry, is_no_subindex, is_no_object}
use Rattle.dictionary.proofs.table.found_in.Goals as goal

pub offset_bounds-rows-rank : goal.offset_bounds-rows-rank
offset_bounds-rows-rank c = search (rules, few)

pub bounds-rows-rank : goal.bounds-rows-rank
bounds-rows-rank c = omega (arith, lines_length c.args.rows.now c.requires, c.last_up_to-rank.ensures.listed)

pub returns-then-line-key : goal.returns-then-line-key
returns-then-line-key c =
    let found = c.last_up_to-rank.ensures in
    let there = key_at c.args.rows.now _ c.requires found.listed in
    let line = line_at c.args.rows.now _ c.requires found.listed in
    ap₂ (λ (m n : ℕ). Ok (Row (record { line = m; place = n }))) line c.place_at.ensures.0
    ∙ ap found_as (sym (is_entry _ _ _ (omega arith) found (sym there ∙ c.if-line-key.true)))
    ∙ ap₂ (λ i s. found_as (row_of i s)) c.from-object.ensures c.from.ensures

pub returns-then-line-object : goal.returns-then-line-object
returns-then-line-object c =
    let found = c.last_up_to-rank.ensures in
    let there = key_at c.args.rows.now _ c.requires found.listed in
    ap found_as (sym (is_no_subindex _ _ _ (omega arith) found (λ e. c.if-line-key.false (there ∙ e)) (rw there at c.if-line-object.true)))
    ∙ ap₂ (λ i s. found_as (row_of i s)) c.from-object.ensures c.from.ensures

pub returns : goal.returns
returns c =
    let found = c.last_up_to-rank.ensures in
    let there = key_at c.args.rows.now _ c.requires found.listed in
    ap found_as (sym (is_no_object _ _ _ (omega arith) found (rw there at c.if-line-object.false)))
    ∙ ap₂ (λ i s. found_as (row_of i s)) c.from-object.ensures c.from.ensures

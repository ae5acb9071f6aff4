-- The refusals in order, and then the entries. Assumes nothing.
use Rattle.std.proofs.Common.{not, sym, ap, ◌∙◌, rules}
use borrow.Author.Tests.{lt-ltb, le-ltb}
use Rattle.files.specs.ConciseDcf.{count_size, count_in, most_entries}
use Rattle.load.proofs.Loaded.{wrong_state, too_short, too_many, misfit, control_word_lem, not_refused_lem}
use Rattle.load.proofs.configuration.load.Goals as goal

pub returns-then-not-may_load : goal.returns-then-not-may_load
returns-then-not-may_load c =
    let a = c.args in
    rw c.refused.ensures
    (wrong_state a.file.now a.state.now a.d.now (sym c.may_load.ensures ∙ c.if-not-may_load.true))

pub returns-then-file-lt-COUNT_SIZE : goal.returns-then-file-lt-COUNT_SIZE
returns-then-file-lt-COUNT_SIZE c =
    let a = c.args in
    rw c.refused-then-file-lt-COUNT_SIZE.ensures (too_short a.file.now a.state.now a.d.now (sym c.may_load.ensures ∙ c.if-not-may_load.false)
    (lt-ltb _ count_size c.if-file-lt-COUNT_SIZE.true))

pub returns-then-count_in-gt-MOST_ENTRIES : goal.returns-then-count_in-gt-MOST_ENTRIES
returns-then-count_in-gt-MOST_ENTRIES c =
    let a = c.args in
    let f = a.file.now in
    rw c.refused-then-count_in-gt-MOST_ENTRIES.ensures (too_many f a.state.now a.d.now (sym c.may_load.ensures ∙ c.if-not-may_load.false)
    (le-ltb _ count_size c.if-file-lt-COUNT_SIZE.false)
    (lt-ltb most_entries (count_in f) (rw c.count_in.ensures at c.if-count_in-gt-MOST_ENTRIES.true)))

pub returns-then-not-is_whole : goal.returns-then-not-is_whole
returns-then-not-is_whole c =
    let a = c.args in
    let f = a.file.now in
    rw c.refused-then-not-is_whole.ensures (misfit f a.state.now a.d.now (sym c.may_load.ensures ∙ c.if-not-may_load.false)
    (le-ltb _ count_size c.if-file-lt-COUNT_SIZE.false)
    (le-ltb most_entries (count_in f) (rw c.count_in.ensures at c.if-count_in-gt-MOST_ENTRIES.false))
    (ap not (rw c.is_whole.ensures at c.if-not-is_whole.true)))

pub names-requires : goal.names-requires
names-requires c = (search rules, sym c.is_whole.ensures ∙ c.if-not-is_whole.false)

pub returns-then-names : goal.returns-then-names
returns-then-names c =
    let a = c.args in
    let f = a.file.now in
    rw c.refused-then-names.ensures (control_word_lem f a.state.now a.d.now (sym c.may_load.ensures ∙ c.if-not-may_load.false)
    (le-ltb _ count_size c.if-file-lt-COUNT_SIZE.false)
    (le-ltb most_entries (count_in f) (rw c.count_in.ensures at c.if-count_in-gt-MOST_ENTRIES.false))
    (ap not (rw c.is_whole.ensures at c.if-not-is_whole.false)) (sym c.names.ensures ∙ c.if-names.true))

pub load_entries-requires : goal.load_entries-requires
load_entries-requires c = (
  c.requires,
  record {
    served = sym c.may_load.ensures ∙ c.if-not-may_load.false;
    counted = search rules;
    whole = sym c.is_whole.ensures ∙ c.if-not-is_whole.false;
    others = sym c.names.ensures ∙ c.if-names.false;
  },
)

pub returns : goal.returns
returns c =
    let a = c.args in
    let f = a.file.now in
    not_refused_lem f a.state.now a.d.now (sym c.may_load.ensures ∙ c.if-not-may_load.false) (le-ltb _ count_size c.if-file-lt-COUNT_SIZE.false)
    (le-ltb most_entries (count_in f) (rw c.count_in.ensures at c.if-count_in-gt-MOST_ENTRIES.false))
    (ap not (rw c.is_whole.ensures at c.if-not-is_whole.false))
    (sym c.names.ensures ∙ c.if-names.false) c.load_entries.ensures

-- Entries of a file as the code tries them: on the dictionary alone, one after another up to the first that is aborted, with notes of what is to be
-- done once all of them are taken.
-- Assumes nothing.
use Rattle.std.specs.Prelude.{ℕ, ◌+◌, min, ◌≡◌, Bool, true, false, cond, ◌||◌, List, [], ◌∷◌, eqb, length, Some, Ok, Err, is_ok}
use Rattle.state.specs.declared.State.{State}
use Rattle.state.specs.declared.NmtState.TheVariants.{PreOperational}
use Rattle.rules_dictionary.specs.Numbers.{padded}
use Rattle.rules_dictionary.specs.declared.Role.{Role}
use Rattle.rules_dictionary.specs.Table.{Found, found, the_name, no_object, no_subindex, lookup, place_of, heartbeat_time, mode}
use Rattle.rules_dictionary.specs.Values.{Write, write, stored}
use Rattle.rules_dictionary.specs.Aborts.{Verdict, good, bad, no_writing, no_object as absent, no_subindex as absent_sub}
use Rattle.files.specs.declared.Listing.{Listing}
use Rattle.files.specs.ConciseDcf.{Entry}
use Rattle.files.specs.Listings.{first_bytes}
use Rattle.drive.specs.SetPoints.{mode_written}
use Rattle.rules_services.specs.Effects.{with_drive, with_heartbeat}
use Rattle.rules_services.specs.Written.{wrote}
use Rattle.rules_services.specs.Sdo.{offer_verdict}
use Rattle.rules_services.specs.Segments.{too_many}
use Rattle.output.specs.Leaves.{is_mapping, remaps}
use Rattle.sdo.specs.declared.Brought.{Brought}
use Rattle.sdo.specs.declared.aborts.Abort.{Abort}
use Rattle.sdo.specs.Verdicts.{abort_of}
use Rattle.sdo.specs.Requests.{offering}
use Rattle.load.specs.declared.Tally.{Tally}

-- ---- one entry

-- an entry as the code reads it
abbrev pub listing_for : Entry → Listing
listing_for e =
    record { index = e.index; subindex = e.subindex; size = length e.content; first = padded 0 first_bytes e.content }

-- what it brings: no object has more than four bytes, so that more of them are all one
abbrev pub brought_by : Listing → Brought
brought_by l = record { count = Some (min l.size too_many); bytes = l.first }

-- what it gives of a dictionary, in Pre-operational
unfoldable pub verdict_on : Listing → Found → List ℕ → Verdict
verdict_on l (found x) d = offer_verdict PreOperational d (offering (brought_by l) x)
verdict_on l the_name d = bad no_writing
verdict_on l no_object d = bad absent
verdict_on l no_subindex d = bad absent_sub

-- what it writes where that is good
unfoldable pub written_by : Listing → Found → List Write
written_by l (found x) = write x (offering (brought_by l) x).value ∷ []
written_by l the_name = []
written_by l no_object = []
written_by l no_subindex = []

-- ---- notes

abbrev pub nothing_tried : Tally
nothing_tried = record { tried = 0; last = Ok tt; heartbeat = false; mode = false; mapping = false }

-- one more that was taken, with what it wrote
abbrev pub taking : List Write → Tally → Tally
taking ws t =
    record {
      tried = t.tried + 1;
      last = Ok tt;
      heartbeat = t.heartbeat || wrote heartbeat_time ws;
      mode = t.mode || wrote mode ws;
      mapping = t.mapping || remaps ws;
    }

-- .. and the same by the place and the role of what it wrote
abbrev pub taken_at : ℕ → Role → Tally → Tally
taken_at place role t =
    record {
      tried = t.tried + 1;
      last = Ok tt;
      heartbeat = t.heartbeat || eqb place (place_of heartbeat_time);
      mode = t.mode || eqb place (place_of mode);
      mapping = t.mapping || is_mapping role;
    }

-- one more that was aborted
abbrev pub aborted_with : Abort → Tally → Tally
aborted_with why t = record { tried = t.tried + 1; last = Err why; heartbeat = t.heartbeat; mode = t.mode; mapping = t.mapping }

-- ---- the notes and the dictionary after entries

pub record Tried : Type 0 where
  pub tally : Tally
  pub dictionary : List ℕ

-- one that gives this verdict and would write that
unfoldable pub tried_with : Verdict → List Write → Tally → List ℕ → Tried
tried_with good ws t d = record { tally = taking ws t; dictionary = stored ws d }
tried_with (bad a) ws t d = record { tally = aborted_with (abort_of a) t; dictionary = d }

abbrev pub tried_at : Found → Listing → Tally → List ℕ → Tried
tried_at f l t d = tried_with (verdict_on l f d) (written_by l f) t d

abbrev pub entry_tried : Listing → Tally → List ℕ → Tried
entry_tried l t d = tried_at (lookup l.index l.subindex) l t d

-- .. in order, up to the first that is aborted
unfoldable pub entries_tried : List Entry → Tally → List ℕ → Tried
entries_tried [] t d = record { tally = t; dictionary = d }
entries_tried (e ∷ es) t d =
    let r = entry_tried (listing_for e) t d in
    elim (is_ok r.tally.last) [ true ↦ entries_tried es r.tally r.dictionary | false ↦ r ]

-- in code: the notes are the result, the dictionary stays where it is
pub record Tries (x : Tried) (r : Tally) (d' : List ℕ) : Type 0 where
  pub tally : r ≡ x.tally
  pub dictionary : d' ≡ x.dictionary

-- ---- once all are taken

-- 1017h restarts the heartbeat's count
abbrev pub restarted_if : Bool → State → State
restarted_if written s = cond written (with_heartbeat 0 s) s

-- 6060h is acted on as it now stands
abbrev pub mode_acted_if : Bool → List ℕ → State → State
mode_acted_if written d s = cond written (with_drive (mode_written d s.axis.drive) s) s

abbrev pub acted_on : Bool → Bool → List ℕ → State → State
acted_on heartbeat mode d s = mode_acted_if mode d (restarted_if heartbeat s)

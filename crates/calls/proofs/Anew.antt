-- Power-up in code: what it leaves starts the node anew, whatever the state was.
-- Assumes nothing.
use Prim.Native.Nat.{ℕ, ◌*◌, ◌≤◌}
use mathlib.Core.Path.{◌≡◌, refl, ◌∙◌}
use mathlib.Core.List.{List, []}
use borrow.Author.Tests.{le-leb}
use lib.Dec.{leb}
use lib.ListN.{length}
use lib.Seq.{sets}
use Rattle.rules_dictionary.specs.TheNode.{first_node, last_node}
use Rattle.rules_dictionary.specs.declared.Plan.{Plan}
use Rattle.rules_dictionary.specs.declared.PdoData.{PdoData}
use Rattle.rules_dictionary.specs.Table.{dictionary_length, each_way}
use Rattle.rules_dictionary.specs.Plans.{plans_of, ready_of}
use Rattle.rules_dictionary.proofs.Tests.{and_both}
use Rattle.drive.specs.declared.Drive.{Drive}
use Rattle.state.specs.declared.Node.{Node}
use Rattle.state.specs.declared.Pace.{Pace}
use Rattle.state.specs.declared.Transfer.{Transfer}
use Rattle.state.specs.declared.Transfer.TheVariants.{NoTransfer}
use Rattle.state.specs.declared.State.{State}
use Rattle.state.specs.NmtStates.{is_operational}
use Rattle.rules_services.specs.PdoTraffic.{none_held, all_idle}
use Rattle.rules_services.specs.Nmt.{fresh_state, power_up}
use Rattle.drive.specs.Window.{inside, counted, staying}
use Rattle.rules.specs.Outcome.{ended, drive_at_end}
use Rattle.rules.specs.Calls.{accepted}
use Rattle.theorems.proofs.NmtKept.{LawfulAfter, fresh_lawful}
use Rattle.form.specs.Form.{joined, plan_form, plans_place, state_length, form_over, with_plans}
use Rattle.form.specs.Typed.{Many, PlanTyped, HeadTyped}
use Rattle.form.specs.Holding.{Holds}
use Rattle.form.proofs.Rows.{plans_written, head_over, typed_whole}
use Rattle.mapping.specs.Afresh.{GivesPlans}
use Rattle.output.specs.declared.Done.{Done}
use Rattle.output.specs.Leaves.{keeping}
use Rattle.nmt.specs.Commanding.{PowersUp}
use Rattle.calls.specs.Answers.{accepted_given, Answers}
use Rattle.calls.specs.Ending.{settled_by}
use Rattle.calls.proofs.Plannable.{plannable}
use Rattle.calls.proofs.Ends.{renewed, still_plannable}
use Rattle.calls.proofs.Concluding.{ended_idle, answers}

-- plans, and then all else, written over bytes of a state's length
pub all_written : (bs : List ℕ) {bs' bs'' : List ℕ} (plans : List Plan) (node : Node) (transfer : Transfer)
    (drive : Drive) (ready held : List PdoData)
    (paces : List Pace) →
    length bs ≡ state_length → (bs' ≡ sets bs plans_place (joined plan_form plans)) × Many PlanTyped (2 * each_way) plans →
    (bs'' ≡ form_over bs' (with_plans [] node transfer drive ready held paces)) × HeadTyped (with_plans [] node transfer drive ready held paces) →
    Holds bs'' (with_plans plans node transfer drive ready held paces)
all_written bs plans node transfer drive ready held paces long p h =
    record {
      bytes = h.0 ∙ head_over _ plans node transfer drive ready held paces (rw p.0 (plans_written bs plans long p.1));
      typed = typed_whole plans node transfer drive ready held paces h.1 p.1;
    }

module _ (n : ℕ) {d o : List ℕ} {r : Done} {d' o' : List ℕ} (first : first_node ≤ n) (last : n ≤ last_node) (long : length d ≡ dictionary_length)
    (left : PowersUp n d o r d' o') where
  gives : GivesPlans d'
  gives =
      let law : LawfulAfter d (power_up n) = fresh_lawful n d
      (and_both (leb first_node n) (leb n last_node) (le-leb first_node n first) (le-leb n last_node last)) long in
      rw left.dictionary (plannable law.long law.dictionary)

  module _ {d'' : List ℕ} (made : d'' ≡ settled_by (fresh_state n).node (fresh_state n).axis.drive d') where
    pub gives_plans : GivesPlans d''
    gives_plans = still_plannable (fresh_state n) d' d'' made gives

    pub starts_anew : (s : State) {bs'' : List ℕ} →
        Holds bs'' (with_plans (plans_of d'') (fresh_state n).node NoTransfer (fresh_state n).axis.drive (ready_of d'') none_held all_idle) →
        Answers (accepted (ended s d (power_up n)) o) (accepted_given r.frames) bs'' d'' o'
    unfolding power_up fresh_state drive_at_end staying counted inside
    starts_anew s held =
        answers s d o (power_up n) (keeping s (fresh_state n)) r (is_operational s.node.nmt) d'
        (rw (left.occasion, left.dictionary) (ended_idle s d (power_up n) refl)) left.frames left.output
        (renewed o' refl (record { dictionary = made; state = held }))

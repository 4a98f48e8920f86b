use Rattle.std.proofs.Common.{◌≡◌, ℕ, true, subst, sym, ◌∙◌}
use Rattle.tg_sharing.specs.Promise.Spans.{AreClosed, IsActor}
use Rattle.tg_sharing.specs.Inner.Marking.{is_bridged, is_spanned}
use Rattle.tg_sharing.proofs.MarkingLemmas.{all_closed, none_are_marks, none_are_settled, still_bridged}
use Rattle.tg_sharing.proofs.marks.Marks.explore.Goals as goal

pub spread-requires : goal.spread-requires
spread-requires c = c.in_ok-start.ensures.goes.marks (none_are_marks c.args.graph.now c.args.from c.new-marks.result c.new-marks.ensures)

pub loop-marks-init : goal.loop-marks-init
loop-marks-init c =
    let G = c.args.graph.now in
    let from = c.args.from in
    let none = c.new-marks.result in
    let began = c.in_ok-start.ensures.goes in
    let went = c.in_ok-spread.ensures in
    record {
      from = went.extends.from ∙ began.extends.from ∙ c.new-marks.ensures.from;
      marks = went.marks (began.marks (none_are_marks G from none c.new-marks.ensures));
      settled = went.settled (began.settled (none_are_settled G from none c.new-marks.ensures));
      own = λ act. still_bridged c.start.new.self c.spread.new.self went.extends from
          (subst (λ (v : ℕ). IsActor G v → is_bridged c.start.new.self v ≡ true) c.new-marks.ensures.from c.in_ok-start.ensures.own act);
    }

pub returns-clause-closed : goal.returns-clause-closed
returns-clause-closed c =
    let G = c.args.graph.now in
    let from = c.args.from in
    let m = c.grow.new.self in
    let step = c.in_ok-grow.ensures.goes in
    let own : m.from ≡ from = step.extends.from ∙ c.loop-marks.invariant.from in
    subst (λ (v : ℕ). AreClosed G v (is_spanned m) (is_bridged m)) own
    (all_closed G m (c.in_ok-grow.ensures.closed c.if-branch.false) (step.settled c.loop-marks.invariant.settled)
    (subst (λ (v : ℕ). IsActor G v → is_bridged m v ≡ true) (sym own) (λ act. still_bridged c.loop-marks.marks m step.extends from (c.loop-marks.invariant.own act))))

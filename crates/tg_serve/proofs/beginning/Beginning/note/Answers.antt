-- The first eight bytes tell.
use Rattle.std.proofs.Common.{◌≡◌, ◌++◌, ◌∙◌, take, sym, ap, subst, arith}
use Rattle.tg_serve.specs.Inner.Beginning.{begins_otherwise}
use Rattle.tg_serve.specs.contracts.beginning.Beginning.{the_view, the_invariant}
use Rattle.tg_serve.proofs.BeginningLemmas.{begins_by_eight, full_stays}
use Rattle.tg_serve.proofs.beginning.Beginning.note.Goals.{then-self-lt-LONGEST, else-self-lt-LONGEST}
use Rattle.tg_serve.proofs.beginning.Beginning.note.Goals as goal

first : (c : goal.Joined-self-lt-LONGEST) → the_view c.if-self-lt-LONGEST.self-inside ≡ take 8 (c.args.self.now ++ c.args.more.now)
first c = elim c.if-self-lt-LONGEST.branch [
  | then-self-lt-LONGEST w ↦ ap the_view w.self-inside-is ∙ w.put_behind-self-inside.ensures.filled ∙ ap (λ l. take 8 (l ++ c.args.more.now)) c.self.view_is
  | else-self-lt-LONGEST w ↦ ap the_view w.self-inside-is
      ∙ full_stays c.self.inside.bytes c.args.more.now c.self.inside.count (omega (arith, c.self.told, c.self.invariant.0)) (omega (arith, c.self.invariant.0, w.if-self-lt-LONGEST.false))
      ∙ ap (λ l. take 8 (l ++ c.args.more.now)) c.self.view_is
]

pub returns-clause-first : goal.returns-clause-first
returns-clause-first c = first c

pub returns-clause-told : goal.returns-clause-told
returns-clause-told c = elim c.if-self-lt-LONGEST.branch [
  | then-self-lt-LONGEST w ↦ ap (λ b. b.is_other) w.self-inside-is ∙ w.begins_otherwise-self-inside.ensures ∙ ap begins_otherwise (sym (ap the_view w.self-inside-is) ∙ first c) ∙ begins_by_eight (c.args.self.now ++ c.args.more.now)
  | else-self-lt-LONGEST w ↦ ap (λ b. b.is_other) w.self-inside-is ∙ c.self.invariant.1 ∙ ap begins_otherwise (sym (ap the_view w.self-inside-is) ∙ first c) ∙ begins_by_eight (c.args.self.now ++ c.args.more.now)
]

pub invariant_of-self : goal.invariant_of-self
invariant_of-self c = elim c.if-self-lt-LONGEST.branch [
  | then-self-lt-LONGEST w ↦ subst the_invariant (sym w.self-inside-is) (w.put_behind-self-inside.ensures.within, w.begins_otherwise-self-inside.ensures)
  | else-self-lt-LONGEST w ↦ subst the_invariant (sym w.self-inside-is) c.self.invariant
]

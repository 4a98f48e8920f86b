use Rattle.std.proofs.Common.{◌≡◌, [], Some, subst, sym, ap, ◌∙◌, Vec, Global}
use Rattle.tg_vault.specs.declared.entry.Entry.{Entry}
use Rattle.tg_vault.specs.Inner.Rebase.{reopening}
use Rattle.tg_vault.specs.Promise.World.{NobodySits}
use Rattle.tg_collect.specs.declared.note.Phase.TheVariants.{Idle}
use Rattle.tg_collect.specs.Promise.Readings.{phase}
use Rattle.tg_vault.specs.Promise.Contents.{Contents}
use Rattle.tg_vault.specs.Inner.Contents.{contents}
use Rattle.tg_vault.proofs.RebaseLemmas.{reopened_tied}
use Rattle.tg_vault.proofs.vault.Vault.reopen.Goals as goal

abbrev Entries : Type 0
Entries = Vec Entry Global

pub invariant_of-self : goal.invariant_of-self
invariant_of-self c =
    let none : c.replace-history.new.dest.items ≡ [] = ap (λ (h : Entries). h.items) c.replace-history.ensures.after ∙ c.requires.none in
    reopened_tied (contents c.self.inside) c.self.inside.state.next c.self.inside.state.retired.keys c.self.invariant c.soundness.ensures.sound
    (subst (λ (w : Contents). NobodySits w.seats) (sym c.self.view_is) c.requires.nobody) (subst (λ (w : Contents). phase w.store ≡ Idle) (sym c.self.view_is) c.requires.idle)
    c.replace-before.new.dest c.keep_retired.new.retired.keys c.replace-history.new.dest.items (c.replace-before.ensures.after ∙ c.requires.opening ∙ ap reopening (sym c.self.view_is)) c.keep_retired.ensures none

pub returns-clause-fresh : goal.returns-clause-fresh
returns-clause-fresh c =
    let none : c.replace-history.new.dest.items ≡ [] = ap (λ (h : Entries). h.items) c.replace-history.ensures.after ∙ c.requires.none in
    λ i. record (c.self.view_is i) { opening = c.replace-before.ensures.after i; history = none i }

pub returns-clause-history : goal.returns-clause-history
returns-clause-history c = ap (λ (h : Entries). h.items) c.replace-history.ensures.value ∙ ap (λ (w : Contents). w.history) c.self.view_is

pub returns-clause-before : goal.returns-clause-before
returns-clause-before c = ap Some (c.replace-before.ensures.value ∙ ap (λ (w : Contents). w.opening) c.self.view_is)

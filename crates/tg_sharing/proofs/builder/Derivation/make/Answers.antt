use Rattle.std.proofs.Common.{◌≡◌, ◌<◌, ◌++◌, ◌∷◌, [], inl, inr, subst, sym, ap, ◌∙◌, refl, ℕ}
use Rattle.tg_rights.specs.declared.command.Command.{Command}
use Rattle.tg_rights.specs.declared.command.Command.TheVariants as command
use Rattle.tg_graph.specs.Promise.Protection.{Protection}
use Rattle.tg_graph.specs.Promise.Rules.{Applies, last_serial}
use Rattle.tg_sharing.specs.Inner.Growing.{Continues, Makes, take_and_grant}
use Rattle.tg_sharing.specs.declared.builder.Derivation.{Derivation}
use Rattle.tg_sharing.proofs.GrowingLemmas.{create_allowed, created, created_step, same_graph}
use Rattle.tg_sharing.proofs.builder.Derivation.make.Goals as goal
use Rattle.tg_sharing.proofs.builder.Derivation.make.Goals.{In_ok-push}

-- the create that was carried out
step : (c : In_ok-push) → let e : Derivation = record { graph = c.apply.new.self; steps = c.push.new.self } in Continues c.args.self.now e × Makes c.args.self.now e c.args.actor c.args.kind c.in-Created.serial
step c =
    let d = c.args.self.now in
    let x = c.args.actor in
    let H = c.apply.new.self in
    let e : Derivation = record { graph = H; steps = c.push.new.self } in
    let cmd : c.create.result ≡ command.Create c.args.kind take_and_grant = c.create.ensures ∙ ap (command.Create c.args.kind) c.both.ensures in
    let again : c.create-2.result ≡ command.Create c.args.kind take_and_grant = c.create-2.ensures ∙ ap (command.Create c.args.kind) c.both-2.ensures in
    let applied = subst (λ (q : Command). Applies d.graph x q c.in_ok-serial.field-0 H) cmd c.in_ok-serial.ensures.ok in
    elim (created d.graph x c.args.kind take_and_grant c.in_ok-serial.field-0 H applied (create_allowed c.each_is_allowed_so.ensures d.graph c.soundness.ensures x c.requires take_and_grant refl c.args.kind)) [
      | inl made ↦
          (let same : c.in-Created.serial ≡ d.graph.next = cc (c.in-Created.is, made.0) in
          subst (λ (n : ℕ). Continues d e × Makes d e x c.args.kind n) (sym same)
          (created_step c.each_is_allowed_so.ensures d e c.soundness.ensures x c.requires c.args.kind made.2 made.1
          (c.in_ok-push.ensures.items ∙ ap (λ (k : Command). d.steps.items ++ record { actor = x; command = k } ∷ []) again)))
      | inr full ↦ absurd (cc (c.in-Created.is, full.0))
    ]

pub returns-clause-continues : goal.returns-clause-continues
returns-clause-continues c = (step c).0

pub returns-clause-made : goal.returns-clause-made
returns-clause-made c = (step c).1

pub returns-in_default : goal.returns-in_default
returns-in_default c =
    let d = c.args.self.now in
    let x = c.args.actor in
    let H = c.apply.new.self in
    let cmd : c.create.result ≡ command.Create c.args.kind take_and_grant = c.create.ensures ∙ ap (command.Create c.args.kind) c.both.ensures in
    let applied = subst (λ (q : Command). Applies d.graph x q c.in_ok-serial.field-0 H) cmd c.in_ok-serial.ensures.ok in
    elim (created d.graph x c.args.kind take_and_grant c.in_ok-serial.field-0 H applied (create_allowed c.each_is_allowed_so.ensures d.graph c.soundness.ensures x c.requires take_and_grant refl c.args.kind)) [
      | inl made ↦ absurd (c.in_default.not-Created d.graph.next made.0)
      | inr full ↦ record { continues = same_graph d (record d { graph = H }) full.1 refl; made = subst (λ (G : Protection). last_serial < G.next) (sym full.1) full.2 }
    ]

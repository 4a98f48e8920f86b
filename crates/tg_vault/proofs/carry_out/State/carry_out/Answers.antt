use Rattle.std.proofs.Common.{◌≡◌, ℕ, List, true, Result, Ok, ap, subst, sym, ◌∙◌, Some, None}
use Rattle.std.specs.Prelude.{Option}
use Rattle.tg_rights.specs.declared.command.Command.{Command}
use Rattle.tg_rights.specs.declared.outcome.Reply.{Reply}
use Rattle.tg_rights.specs.declared.outcome.Which.{Which}
use Rattle.tg_rights.specs.declared.outcome.Outcome.TheVariants as outcome
use Rattle.tg_rights.specs.declared.outcome.Reply.TheVariants as reply
use Rattle.tg_rights.specs.Promise.Letters.{includes}
use Rattle.tg_graph.specs.Promise.Terms as effect
use Rattle.tg_graph.specs.Promise.Terms.{Does, name_in, terms, text_in}
use Rattle.tg_graph.specs.Promise.Protection.{MayBeNamed, Protection, IsEdge, label}
use Rattle.tg_graph.specs.Promise.Rules.{Allowed, edges_of, text_of}
use Rattle.tg_collect.specs.Promise.Stored.{Stored}
use Rattle.tg_collect.specs.Promise.Readings.{held, IsEdgeIn, place, principals, serial_at}
use Rattle.tg_collect.specs.Promise.Sessions.{Acted, Assumed, RightsRemoved, TextReplaced}
use Rattle.tg_collect.proofs.StoreLemmas.{edge_in}
use Rattle.tg_vault.specs.declared.carry_out.State.{State}
use Rattle.tg_vault.specs.Promise.Seen.{serials}
use Rattle.tg_vault.specs.Inner.Seen.{graph_seen, seen_in, set_of}
use Rattle.tg_vault.specs.Inner.CarriedOut.{CarriedIn, Joined, Made, answered, created, done, settled}
use Rattle.tg_vault.proofs.CarriedOutLemmas.{ByEffect, assume_done, carried_by, drop_done, join_done, leave_done, list_done, make_done, placed, retire_done, rewrite_done, serial_found, tell_done}
use Rattle.tg_vault.proofs.EdgeLemmas.{label_seen, seen_edge}
use Rattle.tg_vault.proofs.FoundLemmas.{dropped_edge, dropped_has, joined_apart, joined_named, made_named}
use Rattle.tg_vault.proofs.PlaceLemmas.{serial_is}
use Rattle.tg_vault.proofs.carry_out.State.carry_out.Goals as goal

-- what an effect does, this command does
carried : (old : State) (seat x : ℕ) (k : Command) → principals old.store ≡ serials old.names → Allowed (seen_in old) x k → (t : Stored) (K : Protection) (d : Does) (r : Result Reply Which) → d ≡ (terms x k).does →
    ByEffect old.store t old.next old.names (set_of old.retired.keys) seat K x d r → CarriedIn (seen_in old) K old.store t seat x k (settled r)
carried old seat x k listed granted t K d r does came = carried_by old.store t old.next old.names (set_of old.retired.keys) seat listed K x k d r does granted came

-- the same where the reply is still what it was at first
carried_done : (old : State) (seat x : ℕ) (k : Command) → principals old.store ≡ serials old.names → Allowed (seen_in old) x k → (told : Reply) → told ≡ reply.Done → (t : Stored) (K : Protection) (d : Does) → d ≡ (terms x k).does →
    ByEffect old.store t old.next old.names (set_of old.retired.keys) seat K x d (Ok reply.Done) → CarriedIn (seen_in old) K old.store t seat x k (answered outcome.Allowed told)
carried_done old seat x k listed granted told is t K d does came =
    subst (λ said. CarriedIn (seen_in old) K old.store t seat x k (answered outcome.Allowed said)) (sym is) (carried old seat x k listed granted t K d (Ok reply.Done) does came)

edge : (old : State) (x : ℕ) (k : Command) → Allowed (seen_in old) x k → (over : ℕ) (rights : _) → effect.Drops rights over ≡ (terms x k).does → (next : ℕ) → IsEdge (held old.store next) x over
edge old x k granted over rights does next = seen_edge old.store old.next next old.names (set_of old.retired.keys) x over (dropped_edge (seen_in old) x k granted over rights does)

pub join-joined-requires-clause-distinct : goal.join-joined-requires-clause-distinct
join-joined-requires-clause-distinct c same =
    let old = c.args.self.now in
    let from = placed old.store c.args.found.now c.spot-source.result c.in-Joins.from c.requires.places c.spot-source.ensures.is c.spot-source.ensures.serial in
    let to = placed old.store c.args.found.now c.spot-target.result c.in-Joins.to c.requires.places c.spot-target.ensures.is c.spot-target.ensures.serial in
    joined_apart (seen_in old) c.args.actor.serial c.args.command.now c.requires.allowed c.in-Joins.from c.in-Joins.to c.in-Joins.rights c.in-Joins.ensures (cc (from, to, ap (place old.store) same))

pub make-made-requires-clause-named : goal.make-made-requires-clause-named
make-made-requires-clause-named c =
    let may = made_named (seen_in c.args.self.now) c.args.actor.serial c.args.command.now c.requires.allowed c.in-Makes.kind c.in-Makes.rights (name_in c.args.command.now) c.in-Makes.ensures in
    subst (MayBeNamed c.args.self.now.names) (sym c.in_ok-name-in-Makes.ensures.copy) may.2

pub remove_rights-requires-clause-edge : goal.remove_rights-requires-clause-edge
remove_rights-requires-clause-edge c =
    let old = c.args.self.now in
    subst (λ x. IsEdgeIn old.store x c.in-Drops.over) (sym (serial_is old.store c.args.actor.place c.args.actor.serial c.requires.actor))
    (edge_in old.store 0 c.args.actor.serial c.in-Drops.over (edge old c.args.actor.serial c.args.command.now c.requires.allowed c.in-Drops.over c.in-Drops.rights c.in-Drops.ensures 0))

pub remove_rights-requires-clause-has : goal.remove_rights-requires-clause-has
remove_rights-requires-clause-has c =
    let old = c.args.self.now in
    let seen = label_seen old.store old.next 0 old.names (set_of old.retired.keys) c.args.actor.serial c.in-Drops.over in
    subst (λ x. includes (label (held old.store 0) x c.in-Drops.over) c.in-Drops.rights ≡ true) (sym (serial_is old.store c.args.actor.place c.args.actor.serial c.requires.actor))
    (sym (ap (λ l. includes l c.in-Drops.rights) seen) ∙ dropped_has (seen_in old) c.args.actor.serial c.args.command.now c.requires.allowed c.in-Drops.over c.in-Drops.rights c.in-Drops.ensures)

pub returns-in-Joins-clause-carried : goal.returns-in-Joins-clause-carried
returns-in-Joins-clause-carried c =
    let old = c.args.self.now in
    let new = c.join-joined.new.store in
    let some = joined_named (seen_in old) c.args.actor.serial c.args.command.now c.requires.allowed c.in-Joins.from c.in-Joins.to c.in-Joins.rights c.in-Joins.ensures in
    let from = serial_found old.store c.args.found.now c.spot-source.result c.in-Joins.from c.requires.places c.spot-source.ensures.is c.spot-source.ensures.serial in
    let to = serial_found old.store c.args.found.now c.spot-target.result c.in-Joins.to c.requires.places c.spot-target.ensures.is c.spot-target.ensures.serial in
    let joined = subst (λ y. Joined old.store new c.args.seat c.in-Joins.from y c.in-Joins.rights (done c.join-joined.result)) to
    (subst (λ x. Joined old.store new c.args.seat x (serial_at old.store c.spot-target.result.place) c.in-Joins.rights (done c.join-joined.result)) from c.join-joined.ensures) in
    subst (CarriedIn (seen_in old) (seen_in (record old { store = new })) old.store new c.args.seat c.args.actor.serial c.args.command.now) (sym c.settle.ensures)
    (carried old c.args.seat c.args.actor.serial c.args.command.now c.requires.listed c.requires.allowed new _ (effect.Joins c.in-Joins.from c.in-Joins.rights c.in-Joins.to) (done c.join-joined.result) c.in-Joins.ensures
    (join_done old.store new old.next old.names (set_of old.retired.keys) c.args.seat c.requires.listed c.args.actor.serial c.in-Joins.from c.in-Joins.to c.in-Joins.rights (done c.join-joined.result) some joined))

pub returns-in_ok-name-in-Makes-clause-carried : goal.returns-in_ok-name-in-Makes-clause-carried
returns-in_ok-name-in-Makes-clause-carried c =
    let old = c.args.self.now in
    let made = subst (λ (p : Option (List ℕ) × ℕ). Made old c.make-made.new.self c.args.seat p.1 c.in-Makes.kind c.in-Makes.rights p.0 (created c.make-made.result))
    (λ i. (c.in_ok-name-in-Makes.ensures.copy i, serial_is old.store c.args.actor.place c.args.actor.serial c.requires.actor i)) c.make-made.ensures in
    subst (CarriedIn (seen_in old) (seen_in c.make-made.new.self) old.store c.make-made.new.self.store c.args.seat c.args.actor.serial c.args.command.now) (sym c.settle_made.ensures)
    (carried old c.args.seat c.args.actor.serial c.args.command.now c.requires.listed c.requires.allowed c.make-made.new.self.store _ (effect.Makes c.in-Makes.kind c.in-Makes.rights (name_in c.args.command.now)) (created c.make-made.result) c.in-Makes.ensures
    (make_done old c.make-made.new.self c.args.seat c.requires.listed c.args.actor.serial c.in-Makes.kind c.in-Makes.rights (name_in c.args.command.now) (created c.make-made.result) made))

pub returns-in-Drops-clause-carried : goal.returns-in-Drops-clause-carried
returns-in-Drops-clause-carried c =
    let old = c.args.self.now in
    let new = c.remove_rights.new.self in
    let here = edge old c.args.actor.serial c.args.command.now c.requires.allowed c.in-Drops.over c.in-Drops.rights c.in-Drops.ensures old.next in
    let removed = subst (λ x. RightsRemoved old.store new x c.in-Drops.over c.in-Drops.rights) (serial_is old.store c.args.actor.place c.args.actor.serial c.requires.actor) c.remove_rights.ensures.removed in
    carried_done old c.args.seat c.args.actor.serial c.args.command.now c.requires.listed c.requires.allowed _ c.requires.told new _ (effect.Drops c.in-Drops.rights c.in-Drops.over) c.in-Drops.ensures
    (drop_done old.store new old.next old.names (set_of old.retired.keys) c.args.seat c.requires.listed c.args.actor.serial c.in-Drops.over c.in-Drops.rights here removed c.remove_rights.ensures.acted)

pub returns-in_ok-replace-in-Rewrites-clause-carried : goal.returns-in_ok-replace-in-Rewrites-clause-carried
returns-in_ok-replace-in-Rewrites-clause-carried c =
    let old = c.args.self.now in
    let new = c.replace.new.store in
    let over = serial_found old.store c.args.found.now c.spot.result c.in-Rewrites.over c.requires.places c.spot.ensures.is c.spot.ensures.serial in
    let text = text_in c.args.command.now in
    let replaced = subst (λ v. (before : List ℕ) × TextReplaced old.store new v text before) over c.in_ok-replace-in-Rewrites.ensures.replaced in
    carried_done old c.args.seat c.args.actor.serial c.args.command.now c.requires.listed c.requires.allowed _ c.requires.told new _ (effect.Rewrites c.in-Rewrites.over text) c.in-Rewrites.ensures
    (rewrite_done old.store new old.next old.names (set_of old.retired.keys) c.args.seat c.requires.listed c.args.actor.serial c.in-Rewrites.over text replaced.0 replaced.1 c.in_ok-replace-in-Rewrites.ensures.acted)

pub returns-in_ok-tell-in-Tells-clause-carried : goal.returns-in_ok-tell-in-Tells-clause-carried
returns-in_ok-tell-in-Tells-clause-carried c =
    let old = c.args.self.now in
    let over = serial_found old.store c.args.found.now c.spot-in-Tells.result c.in-Tells.over c.requires.places c.spot-in-Tells.ensures.is c.spot-in-Tells.ensures.serial in
    let is = c.in_ok-tell-in-Tells.ensures old.next ∙ ap (λ v. reply.Text (text_of (held old.store old.next) v)) over in
    subst (λ told. CarriedIn (seen_in old) (seen_in old) old.store old.store c.args.seat c.args.actor.serial c.args.command.now (answered outcome.Allowed told)) (sym is)
    (carried old c.args.seat c.args.actor.serial c.args.command.now c.requires.listed c.requires.allowed old.store _ (effect.Tells c.in-Tells.over) (Ok _) c.in-Tells.ensures
    (tell_done old.store old.next old.names (set_of old.retired.keys) c.args.seat c.requires.listed c.args.actor.serial c.in-Tells.over))

pub returns-in_ok-list-in-Lists-clause-carried : goal.returns-in_ok-list-in-Lists-clause-carried
returns-in_ok-list-in-Lists-clause-carried c =
    let old = c.args.self.now in
    let at = serial_found old.store c.args.found.now c.spot-in-Lists.result c.in-Lists.at c.requires.places c.spot-in-Lists.ensures.is c.spot-in-Lists.ensures.serial in
    let is = c.in_ok-list-in-Lists.ensures old.next ∙ ap (λ v. reply.Edges (edges_of (held old.store old.next) v)) at in
    subst (λ told. CarriedIn (seen_in old) (seen_in old) old.store old.store c.args.seat c.args.actor.serial c.args.command.now (answered outcome.Allowed told)) (sym is)
    (carried old c.args.seat c.args.actor.serial c.args.command.now c.requires.listed c.requires.allowed old.store _ (effect.Lists c.in-Lists.at) (Ok _) c.in-Lists.ensures
    (list_done old.store old.next old.names (set_of old.retired.keys) c.args.seat c.requires.listed c.args.actor.serial c.in-Lists.at))

pub returns-in_ok-retire-in-Retires-clause-carried : goal.returns-in_ok-retire-in-Retires-clause-carried
returns-in_ok-retire-in-Retires-clause-carried c =
    let old = c.args.self.now in
    let e = c.in_ok-retire-in-Retires.ensures in
    let new = c.retire.new.self in
    carried_done old c.args.seat c.args.actor.serial c.args.command.now c.requires.listed c.requires.allowed _ c.requires.told new.store _ effect.Retires c.in-Retires.ensures
    (subst (λ n. ByEffect old.store new.store old.next old.names (set_of old.retired.keys) c.args.seat (graph_seen new.store n new.names (set_of new.retired.keys)) c.args.actor.serial effect.Retires (Ok reply.Done)) (sym e.next)
    (retire_done old.store new.store old.next old.names (set_of old.retired.keys) c.args.seat c.requires.listed c.args.actor.serial new.names (set_of new.retired.keys) e.left e.gone e.retired e.acted))

pub returns-in-Some-clause-carried : goal.returns-in-Some-clause-carried
returns-in-Some-clause-carried c =
    let old = c.args.self.now in
    let new = c.assume.new.self in
    let agent = serial_found old.store c.args.found.now c.spot-in-Some.result c.in-Some.agent c.requires.places c.spot-in-Some.ensures.is c.spot-in-Some.ensures.serial in
    carried_done old c.args.seat c.args.actor.serial c.args.command.now c.requires.listed c.requires.allowed _ c.requires.told new _ (effect.Acts (Some c.in-Some.agent)) (ap (λ a. effect.Acts a) (sym c.in-Some.is) ∙ c.in-Acts.ensures)
    (assume_done old.store new old.next old.names (set_of old.retired.keys) c.args.seat c.requires.listed c.args.actor.serial c.in-Some.agent
    (subst (Assumed old.store new c.args.seat) agent c.assume.ensures.assumed) (subst (λ x. Acted old.store new None (Some x)) agent c.assume.ensures.acted))

pub returns-in-None-clause-carried : goal.returns-in-None-clause-carried
returns-in-None-clause-carried c =
    let old = c.args.self.now in
    let new = c.leave.new.self in
    carried_done old c.args.seat c.args.actor.serial c.args.command.now c.requires.listed c.requires.allowed _ c.requires.told new _ (effect.Acts None) (ap (λ a. effect.Acts a) (sym c.in-None.is) ∙ c.in-Acts.ensures)
    (leave_done old.store new old.next old.names (set_of old.retired.keys) c.args.seat c.requires.listed c.args.actor.serial c.leave.ensures.left c.leave.ensures.acted)

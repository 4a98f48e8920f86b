use Rattle.std.proofs.Common.{Result, Ok, Err, OnErr, ap, subst, sym, ◌∙◌}
use Rattle.tg_graph.specs.Promise.Rules.{Allowed}
use Rattle.tg_vault.specs.Inner.Seen.{seen_in, set_of}
use Rattle.tg_vault.specs.Inner.CarriedOut.{CarriedOut, denied}
use Rattle.tg_vault.proofs.CarriedOutLemmas.{denied_carried}
use Rattle.tg_vault.proofs.RetiredLemmas.{denial_seen}
use Rattle.tg_vault.proofs.carry_out.State.answer_at.Goals as goal
use Rattle.tg_vault.proofs.carry_out.State.answer_at.Goals.{In-Ok}

-- what is true whatever the result
whatever : {A E P : Type 0} (r : Result A E) → P → OnErr r P
whatever (Ok x) p = tt
whatever (Err e) p = p

-- what is held, as a graph, allows the command
granted : (c : In-Ok) → Allowed (seen_in c.args.self.now) c.args.actor.serial c.args.command.now
granted c =
    denial_seen c.args.self.now.store c.args.self.now.next c.args.self.now.names c.as_slice.result.now (set_of c.args.self.now.retired.keys) c.args.actor.serial c.args.command.now c.as_slice.ensures c.requires.unretired
    ∙ c.in-Ok.ensures.allowed

pub carry_out-requires-clause-allowed : goal.carry_out-requires-clause-allowed
carry_out-requires-clause-allowed c = granted (goal.at.carry_out-requires-clause-allowed c).In-Ok

pub returns-clause-needed : goal.returns-clause-needed
returns-clause-needed c = whatever c.carry_out.result (granted (goal.at.returns-clause-needed c).In-Ok)

pub returns-in-Err-clause-carried : goal.returns-in-Err-clause-carried
returns-in-Err-clause-carried c =
    let retired = set_of c.args.self.now.retired.keys in
    subst (CarriedOut c.args.self.now c.args.self.now c.args.seat c.args.actor.serial c.args.command.now)
    (sym (c.deny.ensures ∙ ap (λ rule. denied rule c.in-Err.cause) c.rule.ensures))
    (denied_carried c.args.self.now.store c.args.self.now.next c.args.self.now.names retired c.args.seat c.requires.listed c.args.actor.serial c.args.command.now c.in-Err.cause
    (denial_seen c.args.self.now.store c.args.self.now.next c.args.self.now.names c.as_slice.result.now retired c.args.actor.serial c.args.command.now c.as_slice.ensures c.requires.unretired ∙ c.in-Err.ensures.denied))

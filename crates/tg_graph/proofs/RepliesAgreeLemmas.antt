-- Replies in graphs that agree for the actor.
use Rattle.std.proofs.Common.{◌≡◌, ℕ, [], false, refl, ap}
use Rattle.std.specs.Option.{option_map_or}
use Rattle.tg_rights.specs.declared.command.Command.{Command}
use Rattle.tg_rights.specs.declared.outcome.Reply.TheVariants as reply
use Rattle.tg_graph.specs.Promise.Terms as effect
use Rattle.tg_graph.specs.Promise.Protection.{Protection, IsGraph, Agree, Reaches}
use Rattle.tg_graph.specs.Promise.Terms.{Does, terms}
use Rattle.tg_graph.specs.Promise.Rules.{Allowed, allowed_reply, answered, is_create, is_new}
use Rattle.tg_graph.proofs.OutcomesAgreeLemmas.{itself, read_alike, reaches_on}
use Rattle.tg_graph.proofs.ProtectionLemmas.{Entitled, entitled}
use Rattle.tg_graph.proofs.SameEdgesLemmas.{same_edges}

module _ (G H : Protection) (x : ℕ) (agree : Agree G H x) where
  pub answered_alike : (e : Does) → IsGraph G → IsGraph H → Entitled G (Reaches G x) (reaches_on G x) x (itself G H x agree) e → is_new e ≡ false → answered G e ≡ answered H e
  answered_alike (effect.Makes k α name) in_G in_H h e = absurd (cc e)
  answered_alike (effect.Tells over) in_G in_H h e = ap (λ v. reply.Text (option_map_or (λ e. e.text) v [])) (agree.vertices h.0 over h.1)
  answered_alike (effect.Lists at) in_G in_H h e = ap (λ es. reply.Edges es) (same_edges G H at in_G in_H (λ y. read_alike G H x agree at y h))
  answered_alike _ in_G in_H h e = refl

  pub same_reply : (c : Command) → IsGraph G → IsGraph H → Allowed G x c → is_create x c ≡ false → allowed_reply G x c ≡ allowed_reply H x c
  same_reply c in_G in_H a e = answered_alike (terms x c).does in_G in_H (entitled G (Reaches G x) (reaches_on G x) x (itself G H x agree) c a) e

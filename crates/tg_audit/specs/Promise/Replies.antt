-- the replies of a history, by the plain graph
use Rattle.std.specs.Prelude.{List, [], ◌∷◌}
use Rattle.tg_rights.specs.declared.outcome.Reply.{Reply}
use Rattle.tg_graph.specs.Promise.Protection.{Protection}
use Rattle.tg_graph.specs.Promise.Rules.{next_graph, reply_of}
use Rattle.tg_vault.specs.declared.entry.Entry.{Entry}

-- the replies of the entries, each in the graph that the entries before it leave
abbrev pub replies_of : Protection → List Entry → List Reply
replies_of G [] = []
replies_of G (e ∷ es) = reply_of G e.actor e.command e.outcome ∷ replies_of (next_graph G e.actor e.command e.outcome) es

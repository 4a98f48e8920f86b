-- what a store holds, with the principals that it does not know by name
use Rattle.std.specs.Prelude.{ℕ, List, map}
use Rattle.tg_graph.specs.declared.member.Member.{Member}

-- the serials of the active principals
abbrev pub serials : List Member → List ℕ
serials members = map (λ (m : Member). m.serial) members
